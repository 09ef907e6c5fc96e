-- No call lets a layer reach more, and so no history does.
use Rattle.std.specs.Prelude.{◌≡◌, ℕ, ◌<◌, ◌≤◌, Bool, true, false, cond, not, ◌||◌, ◌&&◌, ◌==◌, List, [], ◌∷◌, ◌++◌}
use Rattle.std.specs.Prelude.{length, Option, Some, None, unwrap_or, is_none, option_map, refl, Contains, IsTrue}
use Rattle.std.specs.List.{list_any}
use Rattle.std.specs.Ordering.{nat_cmp}
use Rattle.std.specs.Cmp.{nat_cmp_total}
use Rattle.std.specs.FinMap.{nat_cmp-IsAntisymmetric}
use Rattle.std.proofs.Common.{sym, subst, ap, ◌∙◌, inl, inr, arith}
use Rattle.std.proofs.lemmas.Bool.{eq-eqb, eqb-true}
use Rattle.ll_rights.specs.declared.kind.Kind.{Kind}
use Rattle.ll_rights.specs.declared.kind.Kind.TheVariants.{Reg, Dir}
use Rattle.ll_rights.specs.declared.errno.Errno.{Errno}
use Rattle.ll_rights.specs.declared.errno.Errno.TheVariants.{EBUSY, EINVAL, ENOTEMPTY, EEXIST, ENOENT, EPERM}
use Rattle.ll_rights.specs.Errno.{refuse}
use Rattle.ll_rights.specs.Kind.{relevant, is_dir}
use Rattle.ll_rights.specs.Map.{empty}
use Rattle.ll_rights.specs.Right.{all_rights, refer}
use Rattle.ll_rights.specs.Access.{holds}
use Rattle.ll_rights.proofs.Maps.{get-empty, get-insert_same, insert_cases}
use Rattle.ll_path.specs.Path.{Path, parent, last_name, is_root, is_beneath}
use Rattle.ll_path.specs.declared.target.Target.{Target}
use Rattle.ll_rules.specs.Layer.{Layer, has_rule}
use Rattle.ll_decide.specs.declared.denial.Cause.TheVariants.{EACCES, EXDEV}
use Rattle.ll_decide.specs.declared.denial.Place.{Place}
use Rattle.ll_decide.specs.declared.denial.Place.TheVariants.{At, Old, New}
use Rattle.ll_decide.specs.Verdict.{Ask, Move, all_denials, gains, denials, rights_without_refer, places, is_at, lacks}
use Rattle.ll_seq.specs.declared.client.ClientRecord.{ClientRecord}
use Rattle.ll_seq.specs.declared.node.Node.{Node}
use Rattle.ll_seq.specs.declared.call.Mode.{Mode}
use Rattle.ll_seq.specs.declared.call.Call.{Call}
use Rattle.ll_seq.specs.declared.call.Call.TheVariants.{Make, Open, Read, Write, Ftruncate, Close, Truncate, ReadDir}
use Rattle.ll_seq.specs.declared.call.Call.TheVariants.{Stat, Exec, Unlink, Rmdir, Rename, RenameNoreplace, Exchange}
use Rattle.ll_seq.specs.declared.call.Call.TheVariants.{Link, Ruleset, Allow, Confine, Spawn, Connect}
use Rattle.ll_seq.specs.declared.reply.Reply.{Reply}
use Rattle.ll_seq.specs.declared.reply.Reply.TheVariants.{Done, Refused, Denied}
use Rattle.ll_seq.specs.declared.reply.Entry.{Entry}
use Rattle.ll_seq.specs.declared.rules.Rules.{Rules}
use Rattle.ll_seq.specs.Call.{path_of, first_path, second_path}
use Rattle.ll_seq.specs.State.{Name, dentry, dentry_cmp, State, child, root, kind_of, start, empty_node, bytes_of}
use Rattle.ll_seq.specs.Tree.{named, inode_of, ancestors, kind_or_file, kind_at}
use Rattle.ll_seq.specs.Asked.{grants, parents_differ, goes, call_denials}
use Rattle.ll_seq.specs.CallParts.{asked, moved, existence_refusals, kind_refusals, done, exchanged, is_relevant}
use Rattle.ll_seq.specs.Stages.{lying, in_the_way, way_to, missing, present, number_refusals, relation_refusals}
use Rattle.ll_seq.specs.Stages.{walk_refusals}
use Rattle.ll_seq.specs.Effects.{dentry_of, let_go, with_moved, renamed, with_node, with_opened, emptied, with_bytes}
use Rattle.ll_seq.specs.Effects.{with_client, overwritten, inode_at}
use Rattle.ll_seq.specs.Step.{step, refusals, first_or, client_of}
use Rattle.ll_seq.specs.History.{MayStand, IsLegal, state_after, after}
use Rattle.ll_seq.specs.Reach.{InReach}
use Rattle.ll_laws.specs.NoGain.{is_move, MovesUnder, NoGain}
use Rattle.ll_laws.proofs.Chains.{NotFile, chain_front}
use Rattle.ll_seq.proofs.Histories.{after_append, legal_late}
use Rattle.ll_seq.proofs.Parted.{or_split}
use Rattle.ll_laws.proofs.Relevant.{is_one_of_all}
use Rattle.ll_laws.proofs.Trees.{IsTree, root_dir, Change, shrinks, adds, moves, only_path, tree_kept, reach_kept}
use Rattle.ll_laws.proofs.Trees.{granted_on}
use Rattle.ll_laws.proofs.Unrefused.{nil_left, nil_right, nil_both, nil_map, not_refused, neither, walked, inode_is}
use Rattle.ll_laws.proofs.Unrefused.{parent_last, last_child, IsIn, in_left, in_right, in_when, none_passes}
use Rattle.ll_laws.proofs.Unrefused.{IsIn-contains, none_denied}
use Rattle.ll_laws.proofs.Changes.{same_tree, more_change, shrinks_itself, without_name_shrinks, close_shrinks}
use Rattle.ll_laws.proofs.Changes.{with_bytes_shrinks, IsPlace, IsMove, end_below, new_adds, link_moves, renamed_moves}
use Rattle.ll_laws.proofs.Changes.{replaced_moves, exchange_shrinks, exchange_moves}

-- what a call answers and does that isn't refused
abbrev pub done_of : State → ℕ → ClientRecord → Call → ℕ → Reply × State
done_of s number c call fresh = done s number c call (first_path call) (second_path call) fresh

pub record Passes (s : State) (c : ClientRecord) (call : Call) : Type 0 where
  pub numbers : number_refusals c call ≡ []
  pub relation : relation_refusals call (first_path call) (second_path call) ≡ []
  pub way : walk_refusals s call ≡ []
  pub existence : existence_refusals s call (first_path call) (second_path call) ≡ []
  pub policy : call_denials s c call ≡ []
  pub kinds : kind_refusals s c call (first_path call) (second_path call) ≡ []

pub passes : (s : State) (c : ClientRecord) (call : Call) → refusals s c call ≡ [] → Passes s c call
passes s c call e =
    let kinds = nil_both _ _ (nil_both _ _ e).0 in
    let policy = nil_both _ _ kinds.0 in
    let existence = nil_both _ _ policy.0 in
    let way = nil_both _ _ existence.0 in
    let relation = nil_both _ _ way.0 in
    let numbers = nil_both _ _ relation.0 in
    record {
      numbers = nil_map Refused _ numbers.1;
      relation = nil_map Refused _ relation.1;
      way = nil_map Refused _ way.1;
      existence = nil_map Refused _ existence.1;
      policy = nil_map Denied _ policy.1;
      kinds = nil_map Refused _ kinds.1;
    }

place_of : (s : State) → IsTree s → (p : Path) → is_root p ≡ false → in_the_way s (parent p) root ≡ [] → (d : ℕ)
    × IsPlace s p d
place_of s t p r w = let x = walked s (parent p) root (root_dir s t) w in
    (x.0, record { not_root = r; dir = x.2; named = x.1 })

pub there_is : (s : State) (p : Path) → is_none (named s p) ≡ false → (x : ℕ) × (named s p ≡ Some x)
there_is s p e = elim (named s p) as (λ o. is_none o ≡ false → (x : ℕ) × (o ≡ Some x))
    [ None ↦ λ g. absurd (cc g) | Some x ↦ λ g. (x, refl) ] e

-- ---- nothing is gained by a move

any_in : (xs : List ℕ) (right : ℕ) → list_any (λ r. r == right) xs ≡ true → IsIn xs right
any_in [] right e = absurd (cc e)
any_in (x ∷ xs) right e = elim (or_split (x == right) (list_any (λ r. r == right) xs) e)
    [ inl a ↦ inl (eqb-true x right a) | inr a ↦ inr (any_in xs right a) ]

fourth : (p a b c : Bool) → (p && a && b && not c) ≡ false → p ≡ true → a ≡ true → b ≡ true → c ≡ true
fourth true true true true e d f g = refl
fourth true true true false e d f g = absurd (cc e)
fourth true true false c e d f g = absurd (cc g)
fourth true false b c e d f g = absurd (cc f)
fourth false a b c e d f g = absurd (cc d)

at_itself : (place : Place) → is_at place place ≡ true
at_itself At = refl
at_itself Old = refl
at_itself New = refl

is_place : (place : Place) → IsIn places place
is_place At = inl refl
is_place Old = inr (inl refl)
is_place New = inr (inr (inl refl))

-- where nothing is denied, the node of no move gets a right
module _ (s : State) (domain : List Layer) (asks : List (Ask Path)) (moves : List (Move Path))
    (none : all_denials (grants s) domain asks moves ≡ []) where
  not_gained : (layer : Layer) → Contains domain layer → (m : Move Path) → IsIn moves m → (right : ℕ)
      → list_any (λ r. r == right) all_rights ≡ true → holds m.relevant right ≡ true
      → grants s layer m.into right ≡ true → grants s layer m.from right ≡ true
  not_gained layer l m i right known relevant g =
      let gained : denials EXDEV domain all_rights places (gains (grants s) moves) ≡ [] =
      nil_right (denials EACCES domain rights_without_refer places (lacks (grants s) asks)
      ++ denials EXDEV domain (refer ∷ []) places (lacks (grants s) asks)) _ none in
      let not_here : gains (grants s) moves layer right m.place ≡ false =
      none_denied EXDEV domain all_rights places (gains (grants s) moves) gained layer l right
      (any_in all_rights right known) m.place (is_place m.place) in
      fourth _ _ _ _ (none_passes (λ (n : Move Path). is_at n.place m.place && holds n.relevant right
      && grants s layer n.into right && not (grants s layer n.from right)) moves m not_here i) (at_itself m.place)
      relevant g

  held_of : IsTree s → (from to : Path) (c d o : ℕ) → IsPlace s from c → IsPlace s to d → named s from ≡ Some o
      → (place : Place) → ((m : Move Path) → IsIn (goes s from to place) m → IsIn moves m)
      → (layer : Layer) → Contains domain layer → (right : ℕ) → is_relevant (kind_of s o) right ≡ true
      → grants s layer (parent to) right ≡ true → grants s layer from right ≡ true
  held_of t from to c d o here there at place made layer l right r g = by (parents_differ s from to) refl
    where
      move : Move Path
      move = record { from = from; into = parent to; relevant = relevant (kind_at s from); place = place }

      not_not : (b : Bool) → not b ≡ false → b ≡ true
      not_not true h = refl
      not_not false h = absurd (cc h)

      relevant_at : (k : Option Kind) → kind_of s o ≡ k → is_relevant k right ≡ true
          → holds (relevant (kind_at s from)) right ≡ true
      relevant_at None is h = absurd (cc h)
      relevant_at (Some k) is h =
          ap (λ i. holds (relevant (kind_or_file s i)) right) (inode_is s from o at)
          ∙ ap (λ z. holds (relevant (unwrap_or z Reg)) right) is ∙ h

      by : (b : Bool) → parents_differ s from to ≡ b → grants s layer from right ≡ true
      by true e = not_gained layer l move (made move (in_when (parents_differ s from to) move e)) right
          (is_one_of_all (kind_of s o) right r) (relevant_at (kind_of s o) refl r) g
      by false e =
          let same : c ≡ d = sym (inode_is s (parent from) c here.named) ∙ eqb-true _ _ (not_not _ e)
          ∙ inode_is s (parent to) d there.named in
          let parents : parent from ≡ parent to =
          only_path s t (parent from) (parent to) d there.dir (here.named ∙ ap Some same) there.named in
          granted_on layer (ancestors s (parent to)) (ancestors s from) right (λ restricted h.
          ap (λ p. list_any (has_rule layer right) (ancestors s p)) (parent_last from here.not_root)
          ∙ chain_front s (has_rule layer right) (parent from) (last_name from ∷ []) root c here.named
          (ap (λ p. list_any (has_rule layer right) (ancestors s p)) parents ∙ h)) g

-- ---- a move that isn't refused

-- neither path is the root, and neither is beneath the other
not_lying : (from to : Path) (above : Errno) → lying from to above ≡ [] → (is_root from ≡ false) × (is_root to ≡ false)
    × (is_beneath from to ≡ false) × (is_beneath to from ≡ false)
not_lying from to above e =
    let busy = refuse (is_root from || is_root to) EBUSY in
    let beneath = refuse (is_beneath from to) EINVAL in
    let both : busy ++ beneath ≡ [] = nil_left (busy ++ beneath) (refuse (is_beneath to from) above) e in
    let roots = neither _ _ (not_refused _ EBUSY (nil_left busy beneath both)) in (
      roots.0,
      roots.1,
      not_refused _ EINVAL (nil_right busy beneath both),
      not_refused _ above (nil_right (busy ++ beneath) _ e),
    )

-- the directories of both names, and the node that gets the new one
record Moved (s : State) (layers : List Layer) (from to : Path) : Type 0 where
  left : ℕ
  entered : ℕ
  node : ℕ
  is : IsMove s layers from to left entered node

-- the layers given let nothing be gained, if the caller is under them
module _ (s : State) (t : IsTree s) (number : ℕ) (c : ClientRecord) (old new : Target) (fresh : ℕ) (layers : List Layer)
    (sub : (layer : Layer) → Contains layers layer → Contains c.domain layer) where
  abbrev from : Path
  from = path_of old

  abbrev to : Path
  to = path_of new

  module _ (asks : List (Ask Path)) (moves : List (Move Path))
      (policy : all_denials (grants s) c.domain asks moves ≡ []) where
    move_of : (above : Errno) → lying from to above ≡ [] → way_to s old ++ (way_to s new ++ []) ≡ []
        → is_none (named s from) ≡ false → ((m : Move Path) → IsIn (goes s from to New) m → IsIn moves m)
        → Moved s layers from to
    move_of above relation way existence made =
        let apart = not_lying from to above relation in
        let here = place_of s t from apart.0 (nil_left (way_to s old) (way_to s new ++ []) way) in
        let there = place_of s t to apart.1
        (nil_left (way_to s new) [] (nil_right (way_to s old) (way_to s new ++ []) way)) in
        let node = there_is s from existence in
        record {
          left = here.0;
          entered = there.0;
          node = node.0;
          is = record {
            here = here.1;
            there = there.1;
            at = node.1;
            apart = apart.2;
            held = λ layer l. held_of s c.domain asks moves policy t from to here.0 there.0 node.0 here.1 there.1 node.1
                New made layer (sub layer l);
          };
        }

  rename_change : Passes s c (Rename old new) → Change s (done_of s number c (Rename old new) fresh).1 layers
  rename_change h =
      elim (named s to) as (λ r. Change s (renamed s (dentry_of s from) (dentry_of s to) (inode_of s from) r) layers) [
        | None ↦ moves _ (renamed_moves s layers from to m.left m.entered m.node t m.is)
        | Some r ↦ elim (inode_of s from == r) as
            (λ b. Change s (cond b s (let_go (with_moved s (dentry_of s from) (dentry_of s to) (inode_of s from)) r))
            layers) [
              | true ↦ shrinks (shrinks_itself s)
              | false ↦ moves _ (replaced_moves s layers from to m.left m.entered m.node t m.is r)
            ]
      ]
    where
      m : Moved s layers from to
      m = move_of (asked s (Rename old new)) (moved s (Rename old new)) h.policy ENOTEMPTY h.relation h.way
          (not_refused _ ENOENT h.existence) (λ m i. i)

  noreplace_change : Passes s c (RenameNoreplace old new)
      → Change s (done_of s number c (RenameNoreplace old new) fresh).1 layers
  noreplace_change h = moves _ (renamed_moves s layers from to m.left m.entered m.node t m.is)
    where
      m : Moved s layers from to
      m = move_of (asked s (RenameNoreplace old new)) (moved s (RenameNoreplace old new)) h.policy EEXIST h.relation
          h.way (not_refused _ ENOENT (nil_left (missing s from) (present s to) h.existence)) (λ m i. i)

  exchange_change : Passes s c (Exchange old new) → Change s (done_of s number c (Exchange old new) fresh).1 layers
  exchange_change h = by (m.node == n.0) refl
    where
      m : Moved s layers from to
      m = move_of (asked s (Exchange old new)) (moved s (Exchange old new)) h.policy EINVAL h.relation h.way
          (not_refused _ ENOENT (nil_left (missing s from) (missing s to) h.existence))
          (λ m i. in_left (goes s from to New) (goes s to from Old) m i)

      n : (x : ℕ) × (named s to ≡ Some x)
      n = there_is s to (not_refused _ ENOENT (nil_right (missing s from) (missing s to) h.existence))

      other : IsMove s layers to from m.entered m.left n.0
      other = record {
        here = m.is.there;
        there = m.is.here;
        at = n.1;
        apart = (not_lying from to EINVAL h.relation).3;
        held = λ layer l. held_of s c.domain (asked s (Exchange old new)) (moved s (Exchange old new)) h.policy t to
            from m.entered m.left n.0 m.is.there m.is.here n.1 Old
            (λ m i. in_right (goes s from to New) (goes s to from Old) m i) layer (sub layer l);
      }

      by : (b : Bool) → (m.node == n.0) ≡ b → Change s (exchanged s from to) layers
      by true e = shrinks (exchange_shrinks s layers from to m.left m.entered m.node n.0 t m.is other (eqb-true _ _ e))
      by false e = moves _ (exchange_moves s layers from to m.left m.entered m.node n.0 t m.is other
          (λ is. cc (sym e ∙ eq-eqb _ _ is)))

  link_change : Passes s c (Link old new) → Change s (done_of s number c (Link old new) fresh).1 layers
  link_change h = moves _ (link_moves s layers from to m.left m.entered m.node t m.is no_dir)
    where
      m : Moved s layers from to
      m = move_of (asked s (Link old new)) (moved s (Link old new)) h.policy EEXIST h.relation h.way
          (not_refused _ ENOENT (nil_left (missing s from) (present s to) h.existence)) (λ m i. i)

      -- what is linked is a node, and no directory
      known : (k : Kind) × (kind_of s m.node ≡ Some k)
      known = t.known m.left (last_name from) m.node
          (last_child s from m.left m.node m.is.here.not_root m.is.here.named m.is.at)

      no_dir : NotFile s m.node → ⊥
      no_dir f =
          let dir : kind_of s m.node ≡ Some Dir = known.1 ∙ ap Some (f known.0 known.1) in
          let is : is_dir (kind_at s from) ≡ true =
          ap (λ i. is_dir (kind_or_file s i)) (inode_is s from m.node m.is.at)
          ∙ ap (λ k. is_dir (unwrap_or k Reg)) dir in
          cc (sym is ∙ not_refused _ EPERM h.kinds)

-- ---- each call

make_change : (s : State) (number : ℕ) (c : ClientRecord) (kind : Kind) (a : Target) (fresh : ℕ) → (layers : List Layer)
    → IsTree s → Passes s c (Make kind a) → Change s (done_of s number c (Make kind a) fresh).1 layers
make_change s number c kind a fresh layers t h =
    let w = place_of s t (path_of a) (not_refused _ EBUSY h.relation) (nil_left (way_to s a) [] h.way) in
    adds _ _ (new_adds s kind (path_of a) w.0 t w.1)

-- a name that is missing is none of the root
missing_root : (s : State) (p : Path) → is_none (named s p) ≡ true → is_root p ≡ false
missing_root s [] e = absurd (cc e)
missing_root s (n ∷ p) e = refl

open_change : (s : State) (number : ℕ) (c : ClientRecord) (mode : Mode) (a : Target) (fresh : ℕ) → (layers : List Layer)
    → IsTree s → Passes s c (Open mode a) → Change s (done_of s number c (Open mode a) fresh).1 layers
open_change s number c mode a fresh layers t h =
    elim (is_none (named s (path_of a))) as (λ b. is_none (named s (path_of a)) ≡ b
    → Change s (cond b (with_client (with_node s Reg (dentry_of s (path_of a))) number
    (with_opened s c mode (path_of a) s.next))
    (with_client (emptied s mode (inode_of s (path_of a))) number
    (with_opened s c mode (path_of a) (inode_of s (path_of a))))) layers) [
      | true ↦ λ e.
          let w = place_of s t (path_of a) (missing_root s (path_of a) e) (nil_left (way_to s a) [] h.way) in
          more_change s (with_node s Reg (dentry_of s (path_of a))) _ layers refl refl refl
          (adds _ _ (new_adds s Reg (path_of a) w.0 t w.1))
      | false ↦ λ e. more_change s (emptied s mode (inode_of s (path_of a))) _ layers refl refl refl
          (elim mode.truncate as (λ b. Change s (cond b (with_bytes s (inode_of s (path_of a)) []) s) layers) [
            | true ↦ shrinks (with_bytes_shrinks s (inode_of s (path_of a)) [])
            | false ↦ shrinks (shrinks_itself s)
          ])
    ] refl

-- a client changes, and the tree doesn't
client_change : (s : State) (number : ℕ) (c : ClientRecord) (domain : List Layer)
    → Change s (with_client s number c) domain
client_change s number c domain = shrinks (same_tree s (with_client s number c) refl (λ i. refl) refl)

itself : (s : State) (domain : List Layer) → Change s s domain
itself s domain = shrinks (shrinks_itself s)

done_change : (s : State) (number : ℕ) (c : ClientRecord) (call : Call) (fresh : ℕ) (layers : List Layer)
    → (IsTrue (is_move call) → (layer : Layer) → Contains layers layer → Contains c.domain layer) → IsTree s
    → Passes s c call → Change s (done_of s number c call fresh).1 layers
done_change s number c (Make kind p) fresh layers sub t h = make_change s number c kind p fresh layers t h
done_change s number c (Open mode p) fresh layers sub t h = open_change s number c mode p fresh layers t h
done_change s number c (Read fd offset count) fresh layers sub t h = itself s layers
done_change s number c (Write fd offset bytes) fresh layers sub t h =
    elim (length bytes == 0) as (λ b. Change s
    (cond b s (with_bytes s (inode_at c fd) (overwritten (bytes_of s (inode_at c fd)) offset bytes))) layers) [
      | true ↦ itself s layers
      | false ↦ shrinks (with_bytes_shrinks s _ _)
    ]
done_change s number c (Ftruncate fd size) fresh layers sub t h = shrinks (with_bytes_shrinks s _ _)
done_change s number c (Truncate p size) fresh layers sub t h = shrinks (with_bytes_shrinks s _ _)
done_change s number c (Close fd) fresh layers sub t h = shrinks (close_shrinks s number _ _)
done_change s number c (ReadDir p) fresh layers sub t h = itself s layers
done_change s number c (Stat p) fresh layers sub t h = itself s layers
done_change s number c (Exec p) fresh layers sub t h = itself s layers
done_change s number c (Unlink p) fresh layers sub t h = shrinks (without_name_shrinks s _ _)
done_change s number c (Rmdir p) fresh layers sub t h = shrinks (without_name_shrinks s _ _)
done_change s number c (Rename o n) fresh layers sub t h = rename_change s t number c o n fresh layers (sub refl) h
done_change s number c (RenameNoreplace o n) fresh layers sub t h =
    noreplace_change s t number c o n fresh layers (sub refl) h
done_change s number c (Exchange o n) fresh layers sub t h = exchange_change s t number c o n fresh layers (sub refl) h
done_change s number c (Link o n) fresh layers sub t h = link_change s t number c o n fresh layers (sub refl) h
done_change s number c (Ruleset rights) fresh layers sub t h = client_change s number _ layers
done_change s number c (Allow rs p rights) fresh layers sub t h = client_change s number _ layers
done_change s number c (Confine rs) fresh layers sub t h = client_change s number _ layers
done_change s number c Spawn fresh layers sub t h = client_change s fresh _ layers
done_change s number c Connect fresh layers sub t h = client_change s number _ layers

-- ---- whole histories

done_move : (s : State) (number : ℕ) (c : ClientRecord) (call : Call) (fresh : ℕ) → IsTrue (is_move call)
    → (done_of s number c call fresh).0 ≡ Done
done_move s number c (Rename o n) fresh e = refl
done_move s number c (RenameNoreplace o n) fresh e = refl
done_move s number c (Exchange o n) fresh e = refl
done_move s number c (Link o n) fresh e = refl
done_move s number c _ fresh e = absurd (cc e)

-- a call changes the tree in one of the three ways
step_change : (s : State) (number : ℕ) (call : Call) (fresh : ℕ) (layers : List Layer)
    → (IsTrue (is_move call) → (step s number call fresh).0 ≡ Done → (layer : Layer) → Contains layers layer
    → Contains (client_of s number).domain layer)
    → IsTree s → Change s (step s number call fresh).1 layers
step_change s number call fresh layers sub t = by (refusals s (client_of s number) call) refl
  where
    by : (rs : List Reply) → refusals s (client_of s number) call ≡ rs
        → Change s (first_or s rs (done_of s number (client_of s number) call fresh)).1 layers
    by [] e = done_change s number (client_of s number) call fresh layers
        (λ m. sub m (ap (λ rs. (first_or s rs (done_of s number (client_of s number) call fresh)).0) e
        ∙ done_move s number (client_of s number) call fresh m)) t (passes s (client_of s number) call e)
    by (r ∷ rs) e = itself s layers

pub start_tree : (rules : Rules) (room : ℕ) → IsTree (start rules room)
start_tree rules room = record {
  dirs = λ d n x c. absurd (none d n x c);
  one = λ d n e m x f c g. absurd (none d n x c);
  rootless = λ d n c. none d n root c;
  known = λ d n x c. absurd (none d n x c);
  old = λ d n x c. absurd (none d n x c);
  nodes = λ i k e. elim (insert_cases nat_cmp_total nat_cmp-IsAntisymmetric empty root (empty_node Dir) i) [
    | inl a ↦ let w : i ≡ 1 = a.0 in omega arith
    | inr a ↦ absurd (cc (sym e ∙ ap (option_map (λ (n : Node). n.kind)) (a.1 ∙ get-empty Node nat_cmp i)))
  ];
  above = omega arith;
  root_node = ap (option_map (λ (n : Node). n.kind))
      (get-insert_same nat_cmp_total nat_cmp-IsAntisymmetric empty root (empty_node Dir));
}
  where
    none : (d : ℕ) (n : Name) (x : ℕ) → child (start rules room) d n ≡ Some x → ⊥
    none d n x c = cc (sym (get-empty ℕ dentry_cmp (dentry d n)) ∙ c)

no_layer : (layer : Layer) → Contains [] layer → ⊥
no_layer layer c = IsIn-contains [] layer c

pub kept_tree : (s : State) (e : Entry) → IsTree s → IsTree (after s e)
kept_tree s e t = tree_kept s (after s e) [] t
    (step_change s e.client e.call _ [] (λ m d layer c. absurd (no_layer layer c)) t)

pub after_tree : (s : State) (es : List Entry) → IsTree s → IsTree (state_after s es)
after_tree s [] t = t
after_tree s (e ∷ es) t = after_tree (after s e) es (kept_tree s e t)

next_rises : (s t : State) (layers : List Layer) → Change s t layers → s.next ≤ t.next
next_rises s t layers (shrinks h) = let w = h.next in omega arith
next_rises s t layers (adds d n h) = let w = h.next in omega arith
next_rises s t layers (moves entries h) = let w = h.next in omega arith

-- one entry
pub one_entry : (s : State) (e : Entry) (layer : Layer) (x right : ℕ) → IsTree s → MayStand s e
    → (IsTrue (is_move e.call) → e.reply ≡ Done → Contains (client_of s e.client).domain layer)
    → x < s.next → (x < (after s e).next) × (InReach (after s e) layer x right → InReach s layer x right)
one_entry s e layer x right t m under small = (
  let w = next_rises s (after s e) (layer ∷ []) change in omega arith,
  reach_kept s (after s e) (layer ∷ []) layer x right t change (0, omega arith, refl) small,
)
  where
    only : (l : Layer) → Contains (layer ∷ []) l → layer ≡ l
    only l c = elim (IsIn-contains (layer ∷ []) l c) [ inl a ↦ a | inr a ↦ absurd a ]

    change : Change s (after s e) (layer ∷ [])
    change = step_change s e.client e.call _ (layer ∷ [])
        (λ i d l c. subst (Contains (client_of s e.client).domain) (only l c) (under i (sym m.answered ∙ d))) t

late_entries : (s : State) (es : List Entry) (layer : Layer) (x right : ℕ) → IsTree s → IsLegal s es
    → MovesUnder layer s es → x < s.next → InReach (state_after s es) layer x right → InReach s layer x right
late_entries s [] layer x right t l u small r = r
late_entries s (e ∷ es) layer x right t l u small r =
    let w = one_entry s e layer x right t l.0 u.0 small in
    w.1 (late_entries (after s e) es layer x right (kept_tree s e t) l.1 u.1 w.0 r)

pub named_below : (s : State) → IsTree s → (p : Path) (x : ℕ) → named s p ≡ Some x → x < s.next
named_below s t p x e = end_below s t p root x t.above e

pub no_gain : NoGain
no_gain rules room early late legal layer under inode has right r =
    let s = state_after (start rules room) early in
    let t = after_tree (start rules room) early (start_tree rules room) in
    late_entries s late layer inode right t (legal_late (start rules room) early late legal) under
    (named_below s t has.0 inode has.1)
    (subst (λ z. InReach z layer inode right) (after_append (start rules room) early late) r)
