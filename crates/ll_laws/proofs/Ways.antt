-- A call that isn't refused meets nothing in its way: its walk, where that is right, isn't blocked.
use Rattle.std.specs.Prelude.{◌≡◌, ℕ, true, false, cond, List, [], ◌∷◌, ◌++◌, length, drop, Option, Some, None, is_none}
use Rattle.std.specs.Prelude.{unwrap_or, option_and_then, refl}
use Rattle.std.specs.Option.{option_map_or}
use Rattle.std.proofs.Common.{sym, ap, ◌∙◌}
use Rattle.ll_rights.specs.declared.kind.Kind.{Kind}
use Rattle.ll_rights.specs.declared.kind.Kind.TheVariants.{Reg, Dir, Sym, Fifo, Sock, Char, Block}
use Rattle.ll_rights.specs.declared.errno.Errno.{Errno}
use Rattle.ll_rights.specs.Kind.{is_dir}
use Rattle.ll_rights.proofs.Maps.{equal_at}
use Rattle.std.proofs.lemmas.Map.Lookups.{exact_bytes}
use Rattle.ll_path.specs.Name.{same_name}
use Rattle.ll_path.specs.Path.{Path, parent, common, is_root}
use Rattle.ll_path.specs.declared.target.Target.{Target}
use Rattle.ll_rules.specs.Layer.{Layer}
use Rattle.ll_seq.specs.declared.call.Call.{Call}
use Rattle.ll_seq.specs.Call.{targets, first_of, second_of, first_path, second_path}
use Rattle.ll_seq.specs.State.{Name, State, child, root, kind_of}
use Rattle.ll_seq.specs.Tree.{end_from}
use Rattle.ll_seq.specs.Stages.{in_the_way, way_to, walk_refusals, no_directory, kind_of_child}
use Rattle.std.specs.List.{flat_map}
use Rattle.ll_laws.proofs.Chains.{same_Some}
use Rattle.ll_laws.proofs.Unrefused.{nil_left, nil_right}
use Rattle.ll_laws.specs.Walk.{Leg, Position, Above, Down, Split, trunk_path, is_blocked, turn}
use Rattle.ll_laws.specs.Walks.{IsRight, AreRight, AreOnPaths}
use Rattle.ll_laws.proofs.Shapes.{if_directory, leg_is_blocked}

-- ---- parts of a way

-- nothing is in the way from where a part of the path ends
way_rest : (s : State) (p q : Path) (i x : ℕ) → in_the_way s (p ++ q) i ≡ [] → end_from s p i ≡ Some x
    → in_the_way s q x ≡ []
way_rest s [] q i x w e = ap (in_the_way s q) (sym (same_Some i x e)) ∙ w
way_rest s (n ∷ p) q i x w e =
    elim (child s i n) as (λ c. no_directory (kind_of_child s c) ++ option_map_or (in_the_way s (p ++ q)) c [] ≡ []
    → option_and_then (end_from s p) c ≡ Some x → in_the_way s q x ≡ []) [
      | None ↦ λ f g. absurd (cc g)
      | Some j ↦ λ f g. way_rest s p q j x (nil_right (no_directory (kind_of s j)) (in_the_way s (p ++ q) j) f) g
    ] w e

way_front : (s : State) (p q : Path) (i : ℕ) → in_the_way s (p ++ q) i ≡ [] → in_the_way s p i ≡ []
way_front s [] q i w = refl
way_front s (n ∷ p) q i w =
    elim (child s i n) as (λ c. no_directory (kind_of_child s c) ++ option_map_or (in_the_way s (p ++ q)) c [] ≡ []
    → no_directory (kind_of_child s c) ++ option_map_or (in_the_way s p) c [] ≡ []) [
      | None ↦ λ f. absurd (cc f)
      | Some j ↦ λ f. nothing (no_directory (kind_of s j)) (in_the_way s p j)
          (nil_left (no_directory (kind_of s j)) (in_the_way s (p ++ q) j) f)
          (way_front s p q j (nil_right (no_directory (kind_of s j)) (in_the_way s (p ++ q) j) f))
    ] w
  where
    nothing : (xs ys : List Errno) → xs ≡ [] → ys ≡ [] → xs ++ ys ≡ []
    nothing [] ys e f = f
    nothing (x ∷ xs) ys e f = absurd (cc e)

-- ---- a leg isn't blocked

clear_directory : (s : State) (o : Option ℕ) → no_directory (kind_of_child s o) ≡ []
    → is_none (option_and_then (if_directory s) o) ≡ false
clear_directory s None e = absurd (cc e)
clear_directory s (Some i) e = by (kind_of s i) e
  where
    by : (k : Option Kind) → no_directory k ≡ [] → is_none (cond (is_dir (unwrap_or k Reg)) (Some i) None) ≡ false
    by None f = absurd (cc f)
    by (Some Dir) f = refl
    by (Some Reg) f = absurd (cc f)
    by (Some Sym) f = absurd (cc f)
    by (Some Fifo) f = absurd (cc f)
    by (Some Sock) f = absurd (cc f)
    by (Some Char) f = absurd (cc f)
    by (Some Block) f = absurd (cc f)

leg_clear : (s : State) (domain : List Layer) (leg : Leg) → IsRight s domain leg
    → in_the_way s (leg.walked ++ leg.ahead) root ≡ [] → leg_is_blocked s leg ≡ false
leg_clear s domain leg r w = by leg.ahead (way_rest s leg.walked leg.ahead root leg.here w r.names)
  where
    by : (p : Path) → in_the_way s p leg.here ≡ [] → is_blocked s leg.here p ≡ false
    by [] v = refl
    by (name ∷ rest) v = clear_directory s (child s leg.here name)
        (nil_left (no_directory (kind_of_child s (child s leg.here name)))
        (option_map_or (in_the_way s rest) (child s leg.here name) []) v)

-- ---- the common beginning

pub common_left : (p q : Path) → (r : Path) × (common p q ++ r ≡ p)
common_left [] q = ([], refl)
common_left (n ∷ p) [] = (n ∷ p, refl)
common_left (n ∷ p) (m ∷ q) = elim (same_name n m) as (λ b. (r : Path) × (cond b (n ∷ common p q) [] ++ r ≡ n ∷ p)) [
  | true ↦ let w = common_left p q in (w.0, ap (λ (z : Path). n ∷ z) w.1)
  | false ↦ (n ∷ p, refl)
]

pub common_right : (p q : Path) → (r : Path) × (common p q ++ r ≡ q)
common_right [] q = (q, refl)
common_right (n ∷ p) [] = ([], refl)
common_right (n ∷ p) (m ∷ q) =
    elim (same_name n m) as (λ b. same_name n m ≡ b → (r : Path) × (cond b (n ∷ common p q) [] ++ r ≡ m ∷ q)) [
      | true ↦ λ e. let w = common_right p q in let same : n ≡ m = exact_bytes n m (equal_at _ e) in
          (w.0, ap (λ (z : Path). n ∷ z) w.1 ∙ ap (λ (z : Name). z ∷ q) same)
      | false ↦ λ e. (m ∷ q, refl)
    ] refl

drop_past : (xs ys : Path) → drop (length xs) (xs ++ ys) ≡ ys
drop_past [] ys = refl
drop_past (x ∷ xs) ys = drop_past xs ys

-- what is left of a path after its beginning
pub rest_of : (c p : Path) → (r : Path) × (c ++ r ≡ p) → c ++ drop (length c) p ≡ p
rest_of c p w = ap (λ z. c ++ drop (length c) z) (sym w.1) ∙ ap (λ z. c ++ z) (drop_past c w.0) ∙ w.1

-- ---- a call that isn't refused

first_clear : (s : State) (ts : List Target) → flat_map (way_to s) ts ≡ []
    → in_the_way s (parent (first_of ts)) root ≡ []
first_clear s [] e = refl
first_clear s (t ∷ ts) e = nil_left (way_to s t) (flat_map (way_to s) ts) e

second_clear : (s : State) (ts : List Target) → flat_map (way_to s) ts ≡ []
    → in_the_way s (parent (second_of ts)) root ≡ []
second_clear s [] e = refl
second_clear s (t ∷ []) e = nil_left (way_to s t) [] e
second_clear s (t ∷ (u ∷ ts)) e =
    nil_left (way_to s u) (flat_map (way_to s) ts) (nil_right (way_to s t) (flat_map (way_to s) (u ∷ ts)) e)

pub not_blocked : (s : State) (domain : List Layer) (call : Call) (at : Position) → walk_refusals s call ≡ []
    → AreOnPaths call at → AreRight s domain at → option_map_or (leg_is_blocked s) (turn at) false ≡ false
not_blocked s domain call Above clear on r = refl
not_blocked s domain call (Down trunk) clear on r =
    let w = common_left (parent (first_path call)) (parent (second_path call)) in
    leg_clear s domain trunk r (ap (λ p. in_the_way s p root) on
    ∙ way_front s (trunk_path call) w.0 root (ap (λ p. in_the_way s p root) w.1
    ∙ first_clear s (targets call) clear))
not_blocked s domain call (Split trunk old new) clear on r =
    elim (is_root old.ahead) as (λ b. leg_is_blocked s (cond b new old) ≡ false) [
      | true ↦ leg_clear s domain new r.2 (ap (λ p. in_the_way s p root) on.2 ∙ second_clear s (targets call) clear)
      | false ↦ leg_clear s domain old r.1 (ap (λ p. in_the_way s p root) on.1 ∙ first_clear s (targets call) clear)
    ]
