-- What is found under the last names: which of it is marked, and which nodes the commit needs.
use Rattle.std.specs.Prelude.{◌≡◌, ◌≢◌, ◌⊎◌, ℕ, Bool, true, false, cond, not, ◌&&◌, ◌||◌, ◌==◌, List, [], ◌∷◌, drop}
use Rattle.std.specs.Prelude.{Option, Some, None, is_none, option_map, option_to_list}
use Rattle.std.specs.Prelude.{slice_get, slice_index_or, refl}
use Rattle.std.specs.Option.{option_map_or}
use Rattle.std.specs.List.{list_any, list_all}
use Rattle.std.specs.Ordering.{nat_cmp}
use Rattle.std.proofs.Common.{sym, ap, ◌∙◌, inl, inr}
use Rattle.std.proofs.lemmas.Bool.{eqb-true}
use Rattle.ll_rights.specs.Map.{Map, get}
use Rattle.ll_path.specs.Path.{Path, is_root, last_name}
use Rattle.ll_path.specs.declared.target.Target.{Target}
use Rattle.ll_rules.specs.Layer.{Layer}
use Rattle.ll_decide.specs.Verdict.{when}
use Rattle.ll_seq.specs.declared.call.Call.{Call}
use Rattle.ll_seq.specs.declared.call.Call.TheVariants.{Make, Open, Read, Write, Ftruncate, Close, Truncate, ReadDir}
use Rattle.ll_seq.specs.declared.call.Call.TheVariants.{Stat, Exec, Unlink, Rmdir, Rename, RenameNoreplace, Exchange}
use Rattle.ll_seq.specs.declared.call.Call.TheVariants.{Link, Ruleset, Allow, Confine, Spawn, Connect}
use Rattle.ll_seq.specs.declared.facts.Fact.{Fact}
use Rattle.ll_seq.specs.Call.{path_of, targets, first_of, second_of, first_path, second_path}
use Rattle.ll_seq.specs.Facts.{AreKept}
use Rattle.ll_seq.specs.State.{State, root}
use Rattle.ll_seq.specs.Tree.{named}
use Rattle.ll_seq.proofs.Parted.{or_right}
use Rattle.ll_laws.proofs.Granted.{kind_known}
use Rattle.ll_laws.proofs.Trees.{IsTree}
use Rattle.ll_seq.proofs.Counted.{spot_counted}
use Rattle.ll_seq.specs.Found.{IsSpot, there_in}
use Rattle.ll_seq.specs.Near.{inode_at, nodes_of, may_make}
use Rattle.ll_seq.specs.declared.found.Found.{Found}
use Rattle.ll_seq.specs.declared.found.Spot.{Spot}
use Rattle.ll_seq.specs.declared.found.There.{There}
use Rattle.ll_laws.specs.Walk.{Leg, is_in}
use Rattle.ll_laws.specs.World.{last_node, last_nodes}
use Rattle.ll_laws.proofs.Tests.{itself_in}
use Rattle.ll_node.specs.declared.held.Held.{Held}
use Rattle.ll_node.specs.Accounts.{names_map}
use Rattle.ll_journal.specs.WalkEnds.{nodes_at_end, would_make}
use Rattle.ll_journal.specs.Checks.{found_at, is_marked_at, is_marked_there, last_in, spot_at}
use Rattle.ll_journal.proofs.AtEnds.{IsEnd, any_last, end_look_up}

-- under the path's last name stands what the spot tells
abbrev pub IsThere : State → Path → Spot → Type 0
IsThere s path spot = spot.there ≡ option_map (there_in s) (named s path)

-- ---- one path

root_named : (s : State) (path : Path) → is_root path ≡ true → named s path ≡ Some root
root_named s [] e = refl
root_named s (name ∷ path) e = absurd (cc e)

module _ (s : State) (path : Path) (spot : Spot) (there : IsThere s path spot) where
  pub marked_last : (marked : ℕ → Bool) → is_marked_at marked path spot ≡ list_any marked (last_node s path)
  marked_last marked = ap (λ (o : Option There). not (is_root path)
      && option_map_or (λ (t : There). marked t.inode) o false) there ∙ by (is_root path) (named s path)
    where
      only : (b : Bool) → b ≡ (b || false)
      only true = refl
      only false = refl

      by : (b : Bool) (o : Option ℕ)
          → (not b && option_map_or (λ (t : There). marked t.inode) (option_map (there_in s) o) false)
          ≡ list_any marked (when (not b) (option_to_list o))
      by true o = refl
      by false None = refl
      by false (Some node) = only (marked node)

  abbrev inode_of : Option There → ℕ
  inode_of o = option_map_or (λ (t : There). t.inode) o 0

  -- what holds of the last node, and of the root, holds of what is found
  pub each_last : (f : ℕ → Bool) → (is_root path ≡ true → f root ≡ true)
      → ((inode : ℕ) → is_in (last_node s path) inode ≡ true → f inode ≡ true)
      → ((inode_at spot == 0) || f (inode_at spot)) ≡ true
  each_last f top last = ap (λ o. (inode_of o == 0) || f (inode_of o)) there ∙ by path top last
    where
      by : (p : Path) → (is_root p ≡ true → f root ≡ true)
          → ((inode : ℕ) → is_in (last_node s p) inode ≡ true → f inode ≡ true)
          → ((inode_of (option_map (there_in s) (named s p)) == 0)
          || f (inode_of (option_map (there_in s) (named s p)))) ≡ true
      by [] top last = top refl
      by (name ∷ rest) top last =
          elim (named s (name ∷ rest)) as (λ o. ((inode : ℕ) → is_in (option_to_list o) inode ≡ true → f inode ≡ true)
          → ((inode_of (option_map (there_in s) o) == 0) || f (inode_of (option_map (there_in s) o))) ≡ true) [
            | None ↦ λ l. refl
            | Some i ↦ λ l. or_right (i == 0) (f i) (l i (itself_in i []))
          ] last

  -- what the path names, if it isn't the root's
  pub last_found : (inode : ℕ) → is_in (last_node s path) inode ≡ true → (named s path ≡ Some inode)
      × (inode_at spot ≡ inode) × (is_none spot.there ≡ false)
  last_found inode e =
      let names = by (is_root path) (named s path) e in
      let found : spot.there ≡ Some (there_in s inode) = there ∙ ap (option_map (there_in s)) names in
      (names, ap inode_of found, ap is_none found)
    where
      only : (a : Bool) → (a || false) ≡ true → a ≡ true
      only true e = refl
      only false e = absurd (cc e)

      by : (b : Bool) (o : Option ℕ) → is_in (when (not b) (option_to_list o)) inode ≡ true → o ≡ Some inode
      by true o e = absurd (cc e)
      by false None e = absurd (cc e)
      by false (Some node) e = ap Some (eqb-true node inode (only (node == inode) e))

  -- what is there is the root, or what the path names
  pub at_spot : inode_at spot ≢ 0 → ((is_root path ≡ true) × (inode_at spot ≡ root))
      ⊎ (is_in (last_node s path) (inode_at spot) ≡ true)
  at_spot some = by (is_root path) refl (named s path) refl
    where
      inode_is : (i : ℕ) → named s path ≡ Some i → inode_at spot ≡ i
      inode_is i e = ap inode_of (there ∙ ap (option_map (there_in s)) e)

      by : (t : Bool) → is_root path ≡ t → (o : Option ℕ) → named s path ≡ o
          → ((is_root path ≡ true) × (inode_at spot ≡ root)) ⊎ (is_in (last_node s path) (inode_at spot) ≡ true)
      by true top o e = inl (top, inode_is root (root_named s path top))
      by false top None e = absurd (some (ap inode_of (there ∙ ap (option_map (there_in s)) e)))
      by false top (Some i) e =
          let last : last_node s path ≡ i ∷ [] = (λ k. when (not (top k)) (option_to_list (e k))) in
          inr ((λ k. is_in (last k) (inode_is i e k)) ∙ itself_in i [])

  pub none_there : is_none spot.there ≡ is_none (named s path)
  none_there = ap is_none there
      ∙ elim (named s path) as (λ o. is_none (option_map (there_in s) o) ≡ is_none o) [ None ↦ refl | Some i ↦ refl ]

-- ---- the paths of a call

pub few_targets : (call : Call) → drop 2 (targets call) ≡ []
few_targets (Make kind t) = refl
few_targets (Open mode t) = refl
few_targets (Read fd offset count) = refl
few_targets (Write fd offset bytes) = refl
few_targets (Ftruncate fd size) = refl
few_targets (Close fd) = refl
few_targets (Truncate t size) = refl
few_targets (ReadDir t) = refl
few_targets (Stat t) = refl
few_targets (Exec t) = refl
few_targets (Unlink t) = refl
few_targets (Rmdir t) = refl
few_targets (Rename o n) = refl
few_targets (RenameNoreplace o n) = refl
few_targets (Exchange o n) = refl
few_targets (Link o n) = refl
few_targets (Ruleset rights) = refl
few_targets (Allow number t rights) = refl
few_targets (Confine number) = refl
few_targets Spawn = refl
few_targets Connect = refl

pub marked_there : (s : State) (call : Call) (found : Found) (marked : ℕ → Bool)
    → IsThere s (first_path call) found.first → IsThere s (second_path call) found.second
    → is_marked_there marked call found ≡ list_any marked (last_nodes s call)
marked_there s call found marked one other =
    (λ i. marked_last s (first_path call) found.first one marked i
    || marked_last s (second_path call) found.second other marked i)
    ∙ over (targets call) (few_targets call) ∙ sym (any_last s call marked)
  where
    at : Target → Bool
    at t = list_any marked (last_node s (path_of t))

    once : (b : Bool) → (b || b) ≡ (b || false)
    once true = refl
    once false = refl

    twice : (a b : Bool) → (a || b) ≡ (a || (b || false))
    twice true b = refl
    twice false true = refl
    twice false false = refl

    over : (ts : List Target) → drop 2 ts ≡ []
        → (list_any marked (last_node s (first_of ts)) || list_any marked (last_node s (second_of ts))) ≡ list_any at ts
    over [] e = refl
    over (t ∷ []) e = once (at t)
    over (t ∷ (u ∷ [])) e = twice (at t) (at u)
    over (t ∷ (u ∷ (v ∷ ts))) e = absurd (cc e)

alone : (b : Bool) → b ≡ true → (b && true) ≡ true
alone true e = refl
alone false e = e

-- what holds of the nodes at the end, and of the root where a path is the root's, holds of what is found
pub each_node : (s : State) (call : Call) (found : Found) (f : ℕ → Bool) → IsThere s (first_path call) found.first
    → IsThere s (second_path call) found.second
    → (is_root (first_path call) ≡ true → f root ≡ true) → (is_root (second_path call) ≡ true → f root ≡ true)
    → ((inode : ℕ) → is_in (nodes_at_end s call) inode ≡ true → f inode ≡ true)
    → list_all (λ inode. (inode == 0) || f inode) (nodes_of call found) ≡ true
each_node s (Make kind t) found f one other top below all = refl
each_node s (Open mode t) found f one other top below all = alone _ (each_last s (path_of t) found.first one f top all)
each_node s (Read fd offset count) found f one other top below all = refl
each_node s (Write fd offset bytes) found f one other top below all = refl
each_node s (Ftruncate fd size) found f one other top below all = refl
each_node s (Close fd) found f one other top below all = refl
each_node s (Truncate t size) found f one other top below all =
    alone _ (each_last s (path_of t) found.first one f top all)
each_node s (ReadDir t) found f one other top below all = alone _ (each_last s (path_of t) found.first one f top all)
each_node s (Stat t) found f one other top below all = alone _ (each_last s (path_of t) found.first one f top all)
each_node s (Exec t) found f one other top below all = refl
each_node s (Unlink t) found f one other top below all = alone _ (each_last s (path_of t) found.first one f top all)
each_node s (Rmdir t) found f one other top below all = alone _ (each_last s (path_of t) found.first one f top all)
each_node s (Rename o n) found f one other top below all =
    alone _ (each_last s (path_of n) found.second other f below all)
each_node s (RenameNoreplace o n) found f one other top below all =
    alone _ (each_last s (path_of n) found.second other f below all)
each_node s (Exchange o n) found f one other top below all = refl
each_node s (Link o n) found f one other top below all = refl
each_node s (Ruleset rights) found f one other top below all = refl
each_node s (Allow number t rights) found f one other top below all = refl
each_node s (Confine number) found f one other top below all = refl
each_node s Spawn found f one other top below all = refl
each_node s Connect found f one other top below all = refl

-- the call may make a node where it would
pub makes_there : (s : State) (call : Call) (found : Found) → IsThere s (first_path call) found.first
    → may_make call found ≡ would_make s call
makes_there s (Make kind t) found there = refl
makes_there s (Open mode t) found there = none_there s (path_of t) found.first there
makes_there s (Read fd offset count) found there = refl
makes_there s (Write fd offset bytes) found there = refl
makes_there s (Ftruncate fd size) found there = refl
makes_there s (Close fd) found there = refl
makes_there s (Truncate t size) found there = refl
makes_there s (ReadDir t) found there = refl
makes_there s (Stat t) found there = refl
makes_there s (Exec t) found there = refl
makes_there s (Unlink t) found there = refl
makes_there s (Rmdir t) found there = refl
makes_there s (Rename o n) found there = refl
makes_there s (RenameNoreplace o n) found there = refl
makes_there s (Exchange o n) found there = refl
makes_there s (Link o n) found there = refl
makes_there s (Ruleset rights) found there = refl
makes_there s (Allow number t rights) found there = refl
makes_there s (Confine number) found there = refl
makes_there s Spawn found there = refl
makes_there s Connect found there = refl

-- ---- of one directory alone: where the leg in turn stands at the ends, and so both with one path

-- the call may change or tell of this node, and makes none
pub record IsFirst (s : State) (call : Call) (found : Found) (inode : ℕ) : Type 0 where
  pub names : named s (second_path call) ≡ Some inode
  pub first : slice_index_or (nodes_of call found) 0 0 ≡ inode
  pub kept : may_make call found ≡ false

module _ (s : State) (facts : Map nat_cmp Fact) (full : Bool) (held : Held) where
  abbrev found_by : Call → Found
  found_by call = found_at facts full held held call

  abbrev IsSecond : Call → Type 0
  IsSecond call = IsThere s (second_path call) (spot_at facts held (second_path call))

  pub last_first : (call : Call) → IsSecond call → (inode : ℕ) → is_in (nodes_at_end s call) inode ≡ true
      → IsFirst s call (found_by call) inode
  last_first (Make kind t) there inode e = absurd (cc e)
  last_first (Open mode t) there inode e = let last =
      last_found s (path_of t) (spot_at facts held (path_of t)) there inode e in
      record { names = last.0; first = last.1; kept = last.2 }
  last_first (Read fd offset count) there inode e = absurd (cc e)
  last_first (Write fd offset bytes) there inode e = absurd (cc e)
  last_first (Ftruncate fd size) there inode e = absurd (cc e)
  last_first (Close fd) there inode e = absurd (cc e)
  last_first (Truncate t size) there inode e = let last =
      last_found s (path_of t) (spot_at facts held (path_of t)) there inode e in
      record { names = last.0; first = last.1; kept = refl }
  last_first (ReadDir t) there inode e = let last =
      last_found s (path_of t) (spot_at facts held (path_of t)) there inode e in
      record { names = last.0; first = last.1; kept = refl }
  last_first (Stat t) there inode e = let last =
      last_found s (path_of t) (spot_at facts held (path_of t)) there inode e in
      record { names = last.0; first = last.1; kept = refl }
  last_first (Exec t) there inode e = absurd (cc e)
  last_first (Unlink t) there inode e = let last =
      last_found s (path_of t) (spot_at facts held (path_of t)) there inode e in
      record { names = last.0; first = last.1; kept = refl }
  last_first (Rmdir t) there inode e = let last =
      last_found s (path_of t) (spot_at facts held (path_of t)) there inode e in
      record { names = last.0; first = last.1; kept = refl }
  last_first (Rename o n) there inode e = let last =
      last_found s (path_of n) (spot_at facts held (path_of n)) there inode e in
      record { names = last.0; first = last.1; kept = refl }
  last_first (RenameNoreplace o n) there inode e = let last =
      last_found s (path_of n) (spot_at facts held (path_of n)) there inode e in
      record { names = last.0; first = last.1; kept = refl }
  last_first (Exchange o n) there inode e = absurd (cc e)
  last_first (Link o n) there inode e = absurd (cc e)
  last_first (Ruleset rights) there inode e = absurd (cc e)
  last_first (Allow number t rights) there inode e = absurd (cc e)
  last_first (Confine number) there inode e = absurd (cc e)
  last_first Spawn there inode e = absurd (cc e)
  last_first Connect there inode e = absurd (cc e)

  -- and if there is one, that is the root, or one of those nodes
  pub first_last : (call : Call) → IsSecond call → slice_index_or (nodes_of call (found_by call)) 0 0 ≢ 0
      → ((is_root (second_path call) ≡ true) × (slice_index_or (nodes_of call (found_by call)) 0 0 ≡ root))
      ⊎ (is_in (nodes_at_end s call) (slice_index_or (nodes_of call (found_by call)) 0 0) ≡ true)
  first_last (Make kind t) there some = absurd (some refl)
  first_last (Open mode t) there some = at_spot s (path_of t) (spot_at facts held (path_of t)) there some
  first_last (Read fd offset count) there some = absurd (some refl)
  first_last (Write fd offset bytes) there some = absurd (some refl)
  first_last (Ftruncate fd size) there some = absurd (some refl)
  first_last (Close fd) there some = absurd (some refl)
  first_last (Truncate t size) there some = at_spot s (path_of t) (spot_at facts held (path_of t)) there some
  first_last (ReadDir t) there some = at_spot s (path_of t) (spot_at facts held (path_of t)) there some
  first_last (Stat t) there some = at_spot s (path_of t) (spot_at facts held (path_of t)) there some
  first_last (Exec t) there some = absurd (some refl)
  first_last (Unlink t) there some = at_spot s (path_of t) (spot_at facts held (path_of t)) there some
  first_last (Rmdir t) there some = at_spot s (path_of t) (spot_at facts held (path_of t)) there some
  first_last (Rename o n) there some = at_spot s (path_of n) (spot_at facts held (path_of n)) there some
  first_last (RenameNoreplace o n) there some = at_spot s (path_of n) (spot_at facts held (path_of n)) there some
  first_last (Exchange o n) there some = absurd (some refl)
  first_last (Link o n) there some = absurd (some refl)
  first_last (Ruleset rights) there some = absurd (some refl)
  first_last (Allow number t rights) there some = absurd (some refl)
  first_last (Confine number) there some = absurd (some refl)
  first_last Spawn there some = absurd (some refl)
  first_last Connect there some = absurd (some refl)

  pub makes_last : (call : Call) → IsSecond call → may_make call (found_by call) ≡ would_make s call
  makes_last (Make kind t) there = refl
  makes_last (Open mode t) there = none_there s (path_of t) (spot_at facts held (path_of t)) there
  makes_last (Read fd offset count) there = refl
  makes_last (Write fd offset bytes) there = refl
  makes_last (Ftruncate fd size) there = refl
  makes_last (Close fd) there = refl
  makes_last (Truncate t size) there = refl
  makes_last (ReadDir t) there = refl
  makes_last (Stat t) there = refl
  makes_last (Exec t) there = refl
  makes_last (Unlink t) there = refl
  makes_last (Rmdir t) there = refl
  makes_last (Rename o n) there = refl
  makes_last (RenameNoreplace o n) there = refl
  makes_last (Exchange o n) there = refl
  makes_last (Link o n) there = refl
  makes_last (Ruleset rights) there = refl
  makes_last (Allow number t rights) there = refl
  makes_last (Confine number) there = refl
  makes_last Spawn there = refl
  makes_last Connect there = refl

-- ---- what a lent directory and the facts tell of the last name

module _ (s : State) (tree : IsTree s) (facts : Map nat_cmp Fact) (kept : AreKept s facts) (domain : List Layer)
    (path : Path) (leg : Leg) (end : IsEnd s domain path leg)
    (held : Held) (here : held.inode ≡ leg.here) (names : held.node.names ≡ names_map s leg.here) where
  last_is : last_in held path ≡ named s path
  last_is = elim (is_root path) as (λ b. is_root path ≡ b
      → cond b (Some root) (get held.node.names (last_name path)) ≡ named s path) [
        | true ↦ λ e. sym (root_named s path e)
        | false ↦ λ e. ap (λ m. get m (last_name path)) names ∙ end_look_up s tree domain path leg end e
      ] refl

  pub spot_last : IsSpot s path (spot_at facts held path)
  spot_last = spot_counted s facts kept tree.root_node path None held.inode (last_in held path)
      (ap (λ es. slice_get es 0) (sym end.way)) (here ∙ end.here) last_is (kind_known s tree path)

  pub there_last : IsThere s path (spot_at facts held path)
  there_last = (spot_last.stands refl).there
