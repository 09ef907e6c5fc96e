-- A mask that is carried down is what the layer grants there, and each step of a walk leaves its legs right.
use Rattle.std.specs.Prelude.{◌≡◌, ℕ, Bool, true, cond, not, ◌&&◌, ◌||◌, ◌==◌, List, [], ◌∷◌, ◌++◌, map, filter, Option}
use Rattle.std.specs.Prelude.{Some, None, option_map, option_and_then, unwrap_or, refl}
use Rattle.std.proofs.Common.{sym, subst, ap, ◌∙◌, append_assoc}
use Rattle.std.proofs.lemmas.Bool.{eq-eqb}
use Rattle.ll_rights.specs.declared.kind.Kind.{Kind}
use Rattle.ll_rights.specs.declared.kind.Kind.TheVariants.{Reg, Dir, Sym, Fifo, Sock, Char, Block}
use Rattle.ll_rights.specs.Kind.{is_dir}
use Rattle.ll_rights.specs.Right.{all_rights}
use Rattle.ll_rules.specs.Layer.{Layer, grants_on, has_rule, restricts}
use Rattle.ll_rules.proofs.Grants.{grants_on-none, grants_on-push}
use Rattle.ll_path.specs.Path.{Path}
use Rattle.ll_seq.specs.State.{Name, State, child, root, kind_of}
use Rattle.ll_seq.specs.Tree.{ancestors}
use Rattle.ll_seq.proofs.Parted.{or_right, end_push, chain_push}
use Rattle.ll_laws.proofs.Chains.{same_Some}
use Rattle.ll_laws.proofs.Trees.{IsTree}
use Rattle.ll_laws.specs.Walk.{Leg, is_in, rights_where, masks_below, first_leg, leg_below, further_by, further}
use Rattle.ll_laws.specs.Walk.{toward}
use Rattle.ll_laws.specs.Walks.{IsRight}
use Rattle.ll_laws.proofs.Shapes.{first_mask, if_directory, mask_below}
use Rattle.ll_laws.proofs.Tests.{is_in_filter}

-- ---- masks

filter_alike : (f g : ℕ → Bool) (xs : List ℕ) → ((r : ℕ) → is_in xs r ≡ true → f r ≡ g r) → filter f xs ≡ filter g xs
filter_alike f g [] h = refl
filter_alike f g (x ∷ xs) h =
    ap (λ b. cond b (x ∷ filter f xs) (filter f xs)) (h x (ap (λ b. b || is_in xs x) (eq-eqb x x refl)))
    ∙ ap (λ ys. cond (g x) (x ∷ ys) ys) (filter_alike f g xs (λ r e. h r (or_right (x == r) _ e)))

mask_one : (layer : Layer) (f g : ℕ → Bool) (i : ℕ) → ((r : ℕ) → g r ≡ (f r || has_rule layer r i))
    → mask_below layer (rights_where f) i ≡ rights_where g
mask_one layer f g i same = filter_alike _ g all_rights
    (λ r e. ap (λ b. b || has_rule layer r i) (is_in_filter f all_rights r ∙ ap (λ b. b && f r) e) ∙ sym (same r))

-- what the layers grant on the chain
abbrev pub granted : List Layer → List ℕ → List (List ℕ)
granted domain chain = map (λ layer. rights_where (grants_on layer chain)) domain

-- one directory further: of the chain xs to i
pub masks_down : (domain : List Layer) (xs : List ℕ) (i : ℕ)
    → masks_below domain (granted domain xs) i ≡ granted domain (xs ++ i ∷ [])
masks_down [] xs i = refl
masks_down (layer ∷ domain) xs i =
    ap (λ m. m ∷ masks_below domain (granted domain xs) i)
    (mask_one layer (grants_on layer xs) (grants_on layer (xs ++ i ∷ [])) i (λ r. grants_on-push layer xs i r))
    ∙ ap (λ ms. rights_where (grants_on layer (xs ++ i ∷ [])) ∷ ms) (masks_down domain xs i)

pub masks_above : (domain : List Layer) → map first_mask domain ≡ granted domain []
masks_above [] = refl
masks_above (layer ∷ domain) =
    ap (λ m. m ∷ map first_mask domain)
    (filter_alike (λ right. not (restricts layer right)) (grants_on layer []) all_rights
    (λ r e. sym (grants_on-none layer r)))
    ∙ ap (λ ms. rights_where (grants_on layer []) ∷ ms) (masks_above domain)

-- ---- the legs of one's own steps

pub first_right : (s : State) → IsTree s → (domain : List Layer) (way : Path) → IsRight s domain (first_leg domain way)
first_right s t domain way = record {
  names = refl;
  directory = t.root_node;
  chain = refl;
  masks = ap (λ ms. masks_below domain ms root) (masks_above domain) ∙ masks_down domain [] root;
}

pub toward_right : (s : State) (domain : List Layer) (leg : Leg) (p : Path) → IsRight s domain leg
    → IsRight s domain (toward leg p)
toward_right s domain leg p r = record { names = r.names; directory = r.directory; chain = r.chain; masks = r.masks }

below_right : (s : State) (domain : List Layer) (leg : Leg) (name : Name) (rest : Path) (i : ℕ) → IsRight s domain leg
    → child s leg.here name ≡ Some i → kind_of s i ≡ Some Dir → IsRight s domain (leg_below domain leg name rest i)
below_right s domain leg name rest i r c k =
    let pushed : ancestors s (leg.walked ++ name ∷ []) ≡ ancestors s leg.walked ++ i ∷ [] =
    chain_push s leg.walked name root leg.here i r.names c in
    record {
      names = end_push s leg.walked name root leg.here i r.names c;
      directory = k;
      chain = ap (λ zs. zs ++ i ∷ []) r.chain ∙ sym pushed;
      masks = ap (λ ms. masks_below domain ms i) r.masks ∙ masks_down domain (ancestors s leg.walked) i
          ∙ ap (granted domain) (sym pushed);
    }

found_directory : (s : State) (j i : ℕ) → if_directory s j ≡ Some i → (j ≡ i) × (kind_of s i ≡ Some Dir)
found_directory s j i e = by (kind_of s j) refl e
  where
    by : (k : Option Kind) → kind_of s j ≡ k → cond (is_dir (unwrap_or k Reg)) (Some j) None ≡ Some i → (j ≡ i)
        × (kind_of s i ≡ Some Dir)
    by (Some Dir) is f = let same = same_Some j i f in (same, ap (kind_of s) (sym same) ∙ is)
    by None is f = absurd (cc f)
    by (Some Reg) is f = absurd (cc f)
    by (Some Sym) is f = absurd (cc f)
    by (Some Fifo) is f = absurd (cc f)
    by (Some Sock) is f = absurd (cc f)
    by (Some Char) is f = absurd (cc f)
    by (Some Block) is f = absurd (cc f)

-- what a leg one further is
pub record Further (s : State) (domain : List Layer) (leg next : Leg) : Type 0 where
  pub name : Name
  pub rest : Path
  pub inode : ℕ
  pub ahead : leg.ahead ≡ name ∷ rest
  pub next_is : next ≡ leg_below domain leg name rest inode
  pub child_is : child s leg.here name ≡ Some inode
  pub directory : kind_of s inode ≡ Some Dir

pub one_further : (s : State) (domain : List Layer) (leg next : Leg) → further s domain leg ≡ Some next
    → Further s domain leg next
one_further s domain leg next e = on leg.ahead refl e
  where
    found : (name : Name) (rest : Path) (o : Option ℕ) → leg.ahead ≡ name ∷ rest → child s leg.here name ≡ o
        → option_map (leg_below domain leg name rest) (option_and_then (if_directory s) o) ≡ Some next
        → Further s domain leg next
    found name rest None a c f = absurd (cc f)
    found name rest (Some j) a c f =
        elim (if_directory s j) as (λ o. if_directory s j ≡ o
        → option_map (leg_below domain leg name rest) o ≡ Some next → Further s domain leg next) [
          | None ↦ λ is g. absurd (cc g)
          | Some i ↦ λ is g.
              let w = found_directory s j i is in
              record {
                name = name;
                rest = rest;
                inode = i;
                ahead = a;
                next_is = sym (same_Some _ next g);
                child_is = c
                    ∙ ap Some w.0;
                directory = w.1;
              }
        ] refl f

    on : (p : Path) → leg.ahead ≡ p → further_by s domain leg p ≡ Some next → Further s domain leg next
    on [] a f = absurd (cc f)
    on (name ∷ rest) a f = found name rest (child s leg.here name) a refl f

pub further_right : (s : State) (domain : List Layer) (leg next : Leg) → IsRight s domain leg
    → further s domain leg ≡ Some next → IsRight s domain next
further_right s domain leg next r e =
    let w = one_further s domain leg next e in
    subst (IsRight s domain) (sym w.next_is) (below_right s domain leg w.name w.rest w.inode r w.child_is w.directory)

-- the names that it took and those that are left are the same in all
pub further_same : (s : State) (domain : List Layer) (leg next : Leg) → further s domain leg ≡ Some next
    → next.walked ++ next.ahead ≡ leg.walked ++ leg.ahead
further_same s domain leg next e =
    let w = one_further s domain leg next e in
    ap (λ (l : Leg). l.walked ++ l.ahead) w.next_is ∙ append_assoc leg.walked (w.name ∷ []) w.rest
    ∙ ap (λ q. leg.walked ++ q) (sym w.ahead)
