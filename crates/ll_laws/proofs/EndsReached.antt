-- Where a walk stands at its ends, and what refuses the call of one that can't go on.
use Rattle.std.specs.Prelude.{◌≡◌, ℕ, true, false, cond, not, List, [], ◌∷◌, ◌++◌, map, Some, None, slice_get}
use Rattle.std.specs.Prelude.{option_and_then, refl}
use Rattle.std.specs.List.{flat_map}
use Rattle.std.specs.Option.{option_map_or}
use Rattle.std.specs.Ordering.{is_eq}
use Rattle.std.specs.Cmp.{tied_itself}
use Rattle.std.specs.Cmp.Lexicographic.{nat_list_cmp_total}
use Rattle.std.proofs.Common.{sym, subst, ap, ◌∙◌, append_assoc}
use Rattle.std.proofs.lemmas.List.{append-nil}
use Rattle.ll_rights.specs.declared.kind.Kind.{Kind}
use Rattle.ll_rights.specs.declared.kind.Kind.TheVariants.{Dir}
use Rattle.ll_rights.specs.declared.errno.Errno.{Errno}
use Rattle.ll_rights.specs.Map.{get}
use Rattle.ll_path.specs.Path.{Path, parent, common, is_root}
use Rattle.ll_path.specs.declared.target.Target.{Target}
use Rattle.ll_rules.specs.Layer.{Layer}
use Rattle.ll_seq.specs.declared.call.Call.{Call}
use Rattle.ll_seq.specs.declared.call.Call.TheVariants.{Make, Open, Read, Write, Ftruncate, Close, Truncate, ReadDir}
use Rattle.ll_seq.specs.declared.call.Call.TheVariants.{Stat, Exec, Unlink, Rmdir, Rename, RenameNoreplace, Exchange}
use Rattle.ll_seq.specs.declared.call.Call.TheVariants.{Link, Ruleset, Allow, Confine, Spawn, Connect}
use Rattle.ll_seq.specs.declared.client.ClientRecord.{ClientRecord}
use Rattle.ll_seq.specs.declared.reply.Reply.TheVariants.{Refused, Denied}
use Rattle.ll_seq.specs.Call.{targets, first_of, second_of, first_path, second_path}
use Rattle.ll_seq.specs.State.{Name, State, child, root, kind_of}
use Rattle.ll_seq.specs.Tree.{end_from, named}
use Rattle.ll_seq.specs.Asked.{call_denials}
use Rattle.ll_seq.specs.Stages.{text_refusals, number_refusals, relation_refusals, walk_refusals, in_the_way, way_to}
use Rattle.ll_seq.specs.Stages.{no_directory, kind_of_child}
use Rattle.ll_seq.specs.CallParts.{existence_refusals, kind_refusals, limit_refusals}
use Rattle.ll_seq.specs.Step.{step, first_or, client_of}
use Rattle.ll_laws.proofs.Chains.{same_Some}
use Rattle.ll_laws.proofs.Unrefused.{nil_left, nil_right, inode_is}
use Rattle.ll_laws.proofs.Trees.{IsTree}
use Rattle.ll_laws.proofs.Gain.{done_of}
use Rattle.ll_laws.specs.Walk.{Walk, Leg, Position, Above, Down, Split, has_two_paths, trunk_path, turn, at_ends}
use Rattle.ll_laws.specs.World.{World, new_world, world_after, next_number, shown, reply_to, has_any, domain_of}
use Rattle.ll_seq.specs.Stages.{early_refusals}
use Rattle.ll_laws.specs.Walks.{IsRight, AreRight, AreOnPaths}
use Rattle.ll_laws.specs.Commits.{first_end, second_end, HasEnded, EndsAreReached, BlockedAreRefused}
use Rattle.ll_laws.proofs.Tests.{both, not_true, is_nil}
use Rattle.ll_laws.proofs.Ways.{common_left}
use Rattle.ll_laws.proofs.Worlds.{Holds, tree_of, all_hold}

-- ---- the way of a leg that is right

module _ (s : State) (t : IsTree s) where
  dir_on : (p : Path) (j x : ℕ) (k : Kind) → kind_of s j ≡ Some k → end_from s p j ≡ Some x → kind_of s x ≡ Some Dir
      → kind_of s j ≡ Some Dir
  dir_on [] j x k known e dir = ap (kind_of s) (same_Some j x e) ∙ dir
  dir_on (m ∷ p) j x k known e dir =
      elim (child s j m) as (λ c. child s j m ≡ c → option_and_then (end_from s p) c ≡ Some x
      → kind_of s j ≡ Some Dir) [
        | None ↦ λ is f. absurd (cc f)
        | Some y ↦ λ is f. known ∙ ap Some (t.dirs j m y is k known)
      ] refl e

  -- nothing is in the way as far as it came
  way_on : (p q : Path) (i x : ℕ) → end_from s p i ≡ Some x → kind_of s x ≡ Some Dir
      → in_the_way s (p ++ q) i ≡ in_the_way s q x
  way_on [] q i x e dir = ap (in_the_way s q) (same_Some i x e)
  way_on (n ∷ p) q i x e dir =
      elim (child s i n) as (λ c. child s i n ≡ c → option_and_then (end_from s p) c ≡ Some x
      → no_directory (kind_of_child s c) ++ option_map_or (in_the_way s (p ++ q)) c [] ≡ in_the_way s q x) [
        | None ↦ λ is f. absurd (cc f)
        | Some j ↦ λ is f.
            let k = t.known i n j is in
            ap (λ o. no_directory o ++ in_the_way s (p ++ q) j) (dir_on p j x k.0 k.1 f dir) ∙ way_on p q j x f dir
      ] refl e

  -- and then comes the next name
  way_of_leg : (domain : List Layer) (leg : Leg) → IsRight s domain leg → (q path : Path) → leg.walked ++ q ≡ path
      → in_the_way s path root ≡ in_the_way s q leg.here
  way_of_leg domain leg r q path whole =
      ap (λ p. in_the_way s p root) (sym whole) ∙ way_on leg.walked q root leg.here r.names r.directory

  ended : (domain : List Layer) (leg : Leg) (path : Path) → IsRight s domain leg → is_root leg.ahead ≡ true
      → leg.walked ++ leg.ahead ≡ parent path → HasEnded s path leg
  ended domain leg path r e on = record {
    walked = walked;
    here = sym (inode_is s (parent path) leg.here (ap (named s) (sym walked) ∙ r.names));
    way = way_of_leg domain leg r [] (parent path) (append-nil leg.walked ∙ walked);
  }
    where
      none : (q : Path) → is_root q ≡ true → q ≡ []
      none [] f = refl
      none (n ∷ q) f = absurd (cc f)

      walked : leg.walked ≡ parent path
      walked = sym (append-nil leg.walked) ∙ ap (λ q. leg.walked ++ q) (sym (none leg.ahead e)) ∙ on

-- ---- at the ends

common_itself : (p : Path) → common p p ≡ p
common_itself [] = refl
common_itself (n ∷ p) = ap (λ b. cond b (n ∷ common p p) []) (ap is_eq (tied_itself nat_list_cmp_total n))
    ∙ ap (λ (q : Path). n ∷ q) (common_itself p)

-- with one path, or none, it is both
one_path : (call : Call) → has_two_paths call ≡ false → second_path call ≡ first_path call
one_path (Make k t) e = refl
one_path (Open mode t) e = refl
one_path (Read fd offset count) e = refl
one_path (Write fd offset bytes) e = refl
one_path (Ftruncate fd size) e = refl
one_path (Close fd) e = refl
one_path (Truncate t size) e = refl
one_path (ReadDir t) e = refl
one_path (Stat t) e = refl
one_path (Exec t) e = refl
one_path (Unlink t) e = refl
one_path (Rmdir t) e = refl
one_path (Rename o n) e = absurd (cc e)
one_path (RenameNoreplace o n) e = absurd (cc e)
one_path (Exchange o n) e = absurd (cc e)
one_path (Link o n) e = absurd (cc e)
one_path (Ruleset rights) e = refl
one_path (Allow rs t rights) e = refl
one_path (Confine rs) e = refl
one_path Spawn e = refl
one_path Connect e = refl

ends : (s : State) → IsTree s → (domain : List Layer) (call : Call) (at : Position) → AreOnPaths call at
    → AreRight s domain at → at_ends call at ≡ true → (leg : Leg)
    → (first_end at ≡ Some leg → HasEnded s (first_path call) leg)
    × (second_end at ≡ Some leg → HasEnded s (second_path call) leg)
ends s t domain call Above on r e leg = absurd (cc e)
ends s t domain call (Down trunk) on r e leg =
    let w = both (not (has_two_paths call)) (is_root trunk.ahead) e in
    let one = one_path call (not_true _ w.0) in
    let whole : trunk_path call ≡ parent (first_path call) =
    ap (λ p. common (parent (first_path call)) (parent p)) one ∙ common_itself (parent (first_path call)) in
    let end = ended s t domain trunk (first_path call) r w.1 (on ∙ whole) in (
      λ f. subst (HasEnded s (first_path call)) (same_Some trunk leg f) end,
      λ f. subst (λ p. HasEnded s p leg) (sym one) (subst (HasEnded s (first_path call)) (same_Some trunk leg f) end),
    )
ends s t domain call (Split trunk old new) on r e leg =
    let w = both (is_root old.ahead) (is_root new.ahead) e in (
      λ f. subst (HasEnded s (first_path call)) (same_Some old leg f)
          (ended s t domain old (first_path call) r.1 w.0 on.1),
      λ f. subst (HasEnded s (second_path call)) (same_Some new leg f)
          (ended s t domain new (second_path call) r.2 w.1 on.2),
    )

pub ends_reached : (w : World) → Holds w → (number : ℕ) (walk : Walk) → get w.walks number ≡ Some walk
    → walk.stale ≡ false → at_ends walk.call walk.at ≡ true → (leg : Leg)
    → (first_end walk.at ≡ Some leg → HasEnded (shown w) (first_path walk.call) leg)
    × (second_end walk.at ≡ Some leg → HasEnded (shown w) (second_path walk.call) leg)
ends_reached w h number walk is fresh at leg =
    ends (shown w) (tree_of w) (domain_of w number) walk.call walk.at (h.under_way number walk is).on_paths
    (h.right number walk is fresh) at leg

pub ends_are_reached : EndsAreReached
ends_are_reached rules room limit steps =
    ends_reached (world_after (new_world rules room limit) steps) (all_hold rules room limit steps)

-- ---- where it can't go on

-- the list begins so
abbrev Begins : {A : Type 0} → List A → A → Type 0
Begins {A} xs x = (more : List A) × (xs ≡ x ∷ more)

begins_append : {A : Type 0} (xs ys : List A) (x : A) → Begins xs x → Begins (xs ++ ys) x
begins_append xs ys x b = (b.0 ++ ys, ap (λ zs. zs ++ ys) b.1)

first_of_list : (xs : List Errno) (e : Errno) → slice_get xs 0 ≡ Some e → Begins xs e
first_of_list [] e f = absurd (cc f)
first_of_list (x ∷ xs) e f = (xs, ap (λ y. y ∷ xs) (same_Some x e f))

first_refused : (s : State) (ts : List Target) (e : Errno) → has_any ts ≡ true
    → Begins (in_the_way s (parent (first_of ts)) root) e → Begins (flat_map (way_to s) ts) e
first_refused s [] e any b = absurd (cc any)
first_refused s (t ∷ ts) e any b = begins_append (way_to s t) (flat_map (way_to s) ts) e b

second_refused : (s : State) (ts : List Target) (e : Errno) → in_the_way s (parent (first_of ts)) root ≡ []
    → Begins (in_the_way s (parent (second_of ts)) root) e → Begins (flat_map (way_to s) ts) e
second_refused s [] e clear b = absurd (cc b.1)
second_refused s (t ∷ []) e clear b = absurd (cc (sym clear ∙ b.1))
second_refused s (t ∷ (u ∷ ts)) e clear b =
    let rest = begins_append (way_to s u) (flat_map (way_to s) ts) e b in
    (rest.0, ap (λ xs. xs ++ flat_map (way_to s) (u ∷ ts)) clear ∙ rest.1)

-- a leg with a name left, on a path that goes on after it
leg_refused : (s : State) → IsTree s → (domain : List Layer) (leg : Leg) → IsRight s domain leg
    → (name : Name) (rest more path : Path) → leg.ahead ≡ name ∷ rest → (leg.walked ++ leg.ahead) ++ more ≡ path
    → (e : Errno)
    → Begins (no_directory (kind_of_child s (child s leg.here name))) e → Begins (in_the_way s path root) e
leg_refused s t domain leg r name rest more path a whole e b =
    let way = way_of_leg s t domain leg r ((name ∷ rest) ++ more) path (sym (append_assoc leg.walked (name ∷ rest) more)
    ∙ ap (λ q. (leg.walked ++ q) ++ more) (sym a) ∙ whole) in
    let first = begins_append (no_directory (kind_of_child s (child s leg.here name)))
    (option_map_or (in_the_way s (rest ++ more)) (child s leg.here name) []) e b in
    (first.0, way ∙ first.1)

way_refused : (s : State) → IsTree s → (domain : List Layer) (call : Call) (at : Position)
    → has_any (targets call) ≡ true → AreOnPaths call at → AreRight s domain at → (leg : Leg) → turn at ≡ Some leg
    → (name : Name) (rest : Path) → leg.ahead ≡ name ∷ rest → (e : Errno)
    → Begins (no_directory (kind_of_child s (child s leg.here name))) e → Begins (walk_refusals s call) e
way_refused s t domain call Above any on r leg f name rest a e b = absurd (cc f)
way_refused s t domain call (Down trunk) any on r leg f name rest a e b =
    let is : trunk ≡ leg = same_Some trunk leg f in
    let c = common_left (parent (first_path call)) (parent (second_path call)) in
    first_refused s (targets call) e any
    (leg_refused s t domain leg (subst (IsRight s domain) is r) name rest c.0 (parent (first_path call)) a
    (ap (λ (l : Leg). (l.walked ++ l.ahead) ++ c.0) (sym is) ∙ ap (λ q. q ++ c.0) on ∙ c.1) e b)
way_refused s t domain call (Split trunk old new) any on r leg f name rest a e b =
    elim (is_root old.ahead) as (λ x. is_root old.ahead ≡ x → Some (cond x new old) ≡ Some leg
    → Begins (walk_refusals s call) e) [
      | true ↦ λ end g.
          let is : new ≡ leg = same_Some new leg g in
          second_refused s (targets call) e (ended s t domain old (first_path call) r.1 end on.1).way
          (leg_refused s t domain leg (subst (IsRight s domain) is r.2) name rest [] (parent (second_path call)) a
          (append-nil _ ∙ ap (λ (l : Leg). l.walked ++ l.ahead) (sym is) ∙ on.2) e b)
      | false ↦ λ end g.
          let is : old ≡ leg = same_Some old leg g in
          first_refused s (targets call) e any
          (leg_refused s t domain leg (subst (IsRight s domain) is r.1) name rest [] (parent (first_path call)) a
          (append-nil _ ∙ ap (λ (l : Leg). l.walked ++ l.ahead) (sym is) ∙ on.1) e b)
    ] refl f

-- the reply, where the early stages refuse nothing
reply_is : (s : State) (number : ℕ) (call : Call) (fresh : ℕ) (e : Errno)
    → early_refusals (client_of s number) call ≡ [] → Begins (walk_refusals s call) e
    → (step s number call fresh).0 ≡ Refused e
reply_is s number call fresh e early b =
    λ i. (first_or s (
    map Refused (text i) ++ map Refused (numbers i) ++ map Refused (relation i) ++ map Refused (b.1 i)
    ++ map Refused (existence_refusals s call (first_path call) (second_path call))
    ++ map Denied (call_denials s c call)
    ++ map Refused (kind_refusals s c call (first_path call) (second_path call))
    ++ map Refused (limit_refusals s c call (first_path call) (second_path call))
    ) (done_of s number c call fresh)).0
  where
    c : ClientRecord
    c = client_of s number

    of_path : List Errno
    of_path = relation_refusals call (first_path call) (second_path call)

    text : text_refusals call ≡ []
    text = nil_left (text_refusals call) (number_refusals c call)
        (nil_left (text_refusals call ++ number_refusals c call) of_path early)

    numbers : number_refusals c call ≡ []
    numbers = nil_right (text_refusals call) (number_refusals c call)
        (nil_left (text_refusals call ++ number_refusals c call) of_path early)

    relation : relation_refusals call (first_path call) (second_path call) ≡ []
    relation = nil_right (text_refusals call ++ number_refusals c call) of_path early

pub blocked_refused : (w : World) → Holds w → (number : ℕ) (walk : Walk) → get w.walks number ≡ Some walk
    → walk.stale ≡ false → (leg : Leg) → turn walk.at ≡ Some leg → (name : Name) (rest : Path) → leg.ahead ≡ name ∷ rest
    → (errno : Errno) → slice_get (no_directory (kind_of_child (shown w) (child (shown w) leg.here name))) 0
    ≡ Some errno → reply_to w number walk.call ≡ Refused errno
blocked_refused w h number walk is fresh leg in_turn name rest a errno first =
    let u = h.under_way number walk is in
    let may = both (has_any (targets walk.call)) (not (has_any (early_refusals (client_of (shown w) number) walk.call)))
    u.walked in
    reply_is (shown w) number walk.call (next_number w) errno (is_nil _ (not_true _ may.1))
    (way_refused (shown w) (tree_of w) (domain_of w number) walk.call walk.at may.0 u.on_paths
    (h.right number walk is fresh) leg in_turn name rest a errno (first_of_list _ errno first))

pub blocked_are_refused : BlockedAreRefused
blocked_are_refused rules room limit steps =
    blocked_refused (world_after (new_world rules room limit) steps) (all_hold rules room limit steps)
