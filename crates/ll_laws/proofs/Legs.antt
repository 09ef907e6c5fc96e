-- A leg that is right stays right while calls leave its directories where they are.
use Rattle.std.specs.Prelude.{◌≡◌, ◌⊎◌, ℕ, ◌<◌, true, false, List, [], ◌∷◌, map, Some, None, option_and_then, refl}
use Rattle.std.specs.Option.{option_map_or}
use Rattle.std.proofs.Common.{sym, subst, ap, ◌∙◌, inl, inr}
use Rattle.ll_rights.specs.declared.kind.Kind.{Kind}
use Rattle.ll_rights.specs.declared.kind.Kind.TheVariants.{Dir}
use Rattle.ll_path.specs.Path.{Path}
use Rattle.ll_rules.specs.Layer.{Layer, grants_on}
use Rattle.ll_seq.specs.declared.call.Call.{Call}
use Rattle.ll_seq.specs.declared.reply.Reply.{Reply}
use Rattle.ll_seq.specs.declared.reply.Reply.TheVariants.{Done}
use Rattle.ll_seq.specs.State.{Name, State, child, root, kind_of}
use Rattle.ll_seq.specs.Tree.{end_from, chain_from, named}
use Rattle.ll_seq.specs.Stages.{has_names}
use Rattle.ll_seq.specs.Step.{step, refusals, first_or, client_of}
use Rattle.ll_seq.proofs.Parted.{or_right, Last, last}
use Rattle.ll_laws.proofs.Chains.{same_Some}
use Rattle.ll_laws.proofs.Trees.{IsTree}
use Rattle.ll_laws.proofs.Gain.{done_of, passes, named_below}
use Rattle.ll_laws.specs.Walk.{Leg, is_in, rights_where}
use Rattle.ll_laws.specs.World.{last_nodes, moved_by}
use Rattle.ll_laws.specs.Walks.{IsRight}
use Rattle.ll_laws.specs.Sound.{HasPlace}
use Rattle.ll_laws.proofs.Tests.{itself_in}
use Rattle.ll_laws.proofs.Undisturbed.{not_empty, done_kinds, done_kept}

-- ---- a way down stays

head_in : (s : State) (q : Path) (j : ℕ) → is_in (chain_from s q j) j ≡ true
head_in s [] j = itself_in j []
head_in s (m ∷ q) j = itself_in j (option_map_or (chain_from s q) (child s j m) [])

-- what is asked of each directory on the way
record Way (s t : State) (Unmoved Held : ℕ → Type 0) : Type 0 where
  entry : (d : ℕ) (n : Name) (y : ℕ) → child s d n ≡ Some y → kind_of s y ≡ Some Dir → Unmoved y → Held y
      → child t d n ≡ Some y
  inner : (j : ℕ) (m : Name) (y : ℕ) → child s j m ≡ Some y → Held j

module _ (s t : State) (Unmoved Held : ℕ → Type 0) (tree : IsTree s) (way : Way s t Unmoved Held) where
  on_way : (q : Path) (j x : ℕ) (k : Kind) → kind_of s j ≡ Some k → end_from s q j ≡ Some x → kind_of s x ≡ Some Dir
      → Held x → (kind_of s j ≡ Some Dir) × Held j
  on_way [] j x k known e dir held = let same = same_Some j x e in
      (ap (kind_of s) same ∙ dir, subst Held (sym same) held)
  on_way (m ∷ q) j x k known e dir held =
      elim (child s j m) as (λ c. child s j m ≡ c → option_and_then (end_from s q) c ≡ Some x → (kind_of s j ≡ Some Dir)
      × Held j) [
        | None ↦ λ is f. absurd (cc f)
        | Some y ↦ λ is f. (known ∙ ap Some (tree.dirs j m y is k known), way.inner j m y is)
      ] refl e

  way_kept : (p : Path) (i x : ℕ) → end_from s p i ≡ Some x → kind_of s x ≡ Some Dir → Held x
      → ((j : ℕ) → is_in (chain_from s p i) j ≡ true → Unmoved j)
      → (end_from t p i ≡ Some x) × (chain_from t p i ≡ chain_from s p i)
  way_kept [] i x e dir held unmoved = (e, refl)
  way_kept (n ∷ p) i x e dir held unmoved =
      elim (child s i n) as (λ c. child s i n ≡ c → option_and_then (end_from s p) c ≡ Some x
      → ((j : ℕ) → is_in (i ∷ option_map_or (chain_from s p) c []) j ≡ true → Unmoved j)
      → (option_and_then (end_from t p) (child t i n) ≡ Some x)
      × (i ∷ option_map_or (chain_from t p) (child t i n) [] ≡ i ∷ option_map_or (chain_from s p) c [])) [
        | None ↦ λ is f u. absurd (cc f)
        | Some j ↦ λ is f u.
            let k = tree.known i n j is in
            let here = on_way p j x k.0 k.1 f dir held in
            let there : child t i n ≡ Some j = way.entry i n j is here.0 (u j (or_right _ _ (head_in s p j))) here.1 in
            let rest = way_kept p j x f dir held (λ l g. u l (or_right _ _ g)) in (
              ap (option_and_then (end_from t p)) there ∙ rest.0,
              ap (λ c. i ∷ option_map_or (chain_from t p) c []) there
                  ∙ ap (λ zs. i ∷ zs) rest.1,
            )
      ] refl e unmoved

-- ---- a call of another client

-- The call is refused, or it moves no directory on the leg's chain, and where the leg stands is none of its last nodes
abbrev pub LeavesLeg : State → ℕ → Call → Leg → Type 0
LeavesLeg s number call leg =
    refusals s (client_of s number) call ≡ [] →
    ((j : ℕ) → is_in leg.chain j ≡ true → is_in (moved_by s call Done) j ≡ false)
    × (is_in (last_nodes s call) leg.here ≡ false)

-- a directory that has a place after a call is one, as it was
pub placed_kept : (s t : State) → IsTree t → (x : ℕ) → ((k : Kind) → kind_of t x ≡ Some k → kind_of s x ≡ Some k)
    → HasPlace t x → kind_of s x ≡ Some Dir → kind_of t x ≡ Some Dir
placed_kept s t tree x back (inl top) dir = ap (kind_of t) top ∙ tree.root_node
placed_kept s t tree x back (inr at) dir =
    let known = tree.known at.0 at.1 x at.2 in
    known.1 ∙ sym (back known.0 known.1) ∙ dir

directory_kept : (s t : State) → IsTree t → (x : ℕ) → ((k : Kind) → kind_of t x ≡ Some k → kind_of s x ≡ Some k)
    → (p : Path) → named t p ≡ Some x → kind_of s x ≡ Some Dir → kind_of t x ≡ Some Dir
directory_kept s t tree x back p e dir = by (last t p root x e)
  where
    by : ((p ≡ []) × (root ≡ x)) ⊎ Last t p root x → kind_of t x ≡ Some Dir
    by (inl a) = placed_kept s t tree x back (inl (sym a.1)) dir
    by (inr l) = placed_kept s t tree x back (inr (l.directory, l.name, l.names)) dir

pub leg_kept : (s : State) (number : ℕ) (call : Call) (fresh : ℕ) → IsTree s → IsTree (step s number call fresh).1
    → (domain : List Layer) (leg : Leg) → IsRight s domain leg → LeavesLeg s number call leg
    → IsRight (step s number call fresh).1 domain leg
leg_kept s number call fresh tree grown domain leg r leaves = by (refusals s (client_of s number) call) refl
  where
    after : List Reply → State
    after rs = (first_or s rs (done_of s number (client_of s number) call fresh)).1

    next : State
    next = (step s number call fresh).1

    small : leg.here < s.next
    small = named_below s tree leg.walked leg.here r.names

    by : (rs : List Reply) → refusals s (client_of s number) call ≡ rs → IsRight next domain leg
    by (reply ∷ rs) e = subst (λ u. IsRight u domain leg) (sym (ap after e)) r
    by [] e =
        let same : next ≡ (done_of s number (client_of s number) call fresh).1 = ap after e in
        let l = leaves e in
        let kept = way_kept s next (λ j. is_in (moved_by s call Done) j ≡ false) (λ j. (has_names s j ≡ true)
        ⊎ (is_in (last_nodes s call) j ≡ false)) tree
        (record {
          entry = λ d n y c k u h. ap (λ z. child z d n) same
              ∙ done_kept s number (client_of s number) fresh tree d n y c call (passes s (client_of s number) call e)
              (record { dir = k; unmoved = u; held = h });
          inner = λ j m y c. inl (not_empty s j m y c);
        }) leg.walked root leg.here r.names r.directory (inr l.1) (λ j g. l.0 j (ap (λ zs. is_in zs j) r.chain ∙ g)) in
        record {
          names = kept.0;
          directory = directory_kept s next grown leg.here
              (λ k f. done_kinds s number (client_of s number) call fresh leg.here k small
              (ap (λ z. kind_of z leg.here) (sym same) ∙ f)) leg.walked kept.0 r.directory;
          chain = r.chain ∙ sym kept.1;
          masks = r.masks ∙ ap (λ zs. map (λ layer. rights_where (grants_on layer zs)) domain) (sym kept.1);
        }
