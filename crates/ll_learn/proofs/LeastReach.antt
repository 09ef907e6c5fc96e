-- Each layer that passes reaches at the cut what is asked, and so what a layer of such rights alone reaches.
use Rattle.std.specs.Prelude.{◌≡◌, ◌<◌, ℕ, Bool, true, false, not, ◌||◌, ◌==◌, List, [], ◌∷◌, ◌++◌, Some}
use Rattle.std.specs.Prelude.{IsTrue, refl}
use Rattle.std.specs.List.{AllByRecursion, list_any}
use Rattle.std.specs.Ordering.{nat_cmp}
use Rattle.std.proofs.Common.{sym, subst, ap, ◌∙◌, inl, inr}
use Rattle.std.proofs.lemmas.Bool.{eqb-true}
use Rattle.ll_rights.specs.Map.{Map}
use Rattle.ll_rights.specs.Right.{all_rights}
use Rattle.ll_path.specs.Path.{Path}
use Rattle.ll_rules.specs.Layer.{Layer, grants_on, has_rule, restricts}
use Rattle.ll_decide.proofs.Sets.{below_all}
use Rattle.ll_seq.specs.CallParts.{is_relevant}
use Rattle.ll_seq.specs.History.{IsLegal, state_after}
use Rattle.ll_seq.specs.Reach.{InReach}
use Rattle.ll_seq.specs.State.{State, dentry_cmp, kind_of, root, start}
use Rattle.ll_seq.specs.Tree.{ancestors, end_from, named}
use Rattle.ll_seq.specs.Asked.{grants}
use Rattle.ll_seq.specs.declared.node.Node.{Node}
use Rattle.ll_seq.proofs.CutChains.{end_append}
use Rattle.ll_seq.proofs.Parted.{cut, or_split}
use Rattle.ll_laws.proofs.Chains.{chain_front}
use Rattle.ll_laws.proofs.Gain.{after_tree, named_below, start_tree}
use Rattle.ll_laws.proofs.Relevant.{is_one_of_all}
use Rattle.ll_laws.proofs.Trees.{IsTree, granted_on}
use Rattle.ll_learn.specs.Bound.{AllowsEach, BeginAt, IsHoldable, ChargedIsLeast, IsPart}
use Rattle.ll_learn.specs.Bound.{MovesAreTheirs, NeedIsReached, Part, PassesEach, ReachesNoMore, RestrictsNoMore}
use Rattle.ll_learn.specs.Bound.{WereThere}
use Rattle.ll_learn.specs.Charges.{WereInOne}
use Rattle.ll_learn.specs.PassedCalls.{IsOpen, Passes, is_client, none_known}
use Rattle.ll_learn.proofs.EarlierReach.{Earlier, earlier, named_kind, chain_prefix, reach_then}
use Rattle.ll_learn.proofs.SameReplies.{first_twins, same_replies}

-- ---- one part

pub part_tree : (part : Part) → IsPart part → IsTree part.cut
part_tree part is =
    subst IsTree (sym is.leads) (after_tree (start is.rules is.room) is.early (start_tree is.rules is.room))

granted_reached : (part : Part) → IsPart part → (layer : Layer) → Passes part.cut part.client part.entries layer
    → (front behind : List ℕ) (inode right : ℕ) → WereThere part.cut part.entries (front ++ inode ∷ behind)
    → grants_on layer (front ++ inode ∷ behind) right ≡ true → restricts layer right ≡ true
    → list_any (has_rule layer right) behind ≡ false → IsHoldable part.cut inode right
    → InReach part.cut layer inode right
granted_reached part is layer passes front behind inode right there granted restricted none can =
    back.reach (reach_then (state_after part.cut there.early) layer there.path front inode behind right (sym there.are)
    restricted none granted relevant)
  where
    tree : IsTree part.cut
    tree = part_tree part is

    back : Earlier part.cut (state_after part.cut there.early) layer inode right
    back = earlier layer inode right part.cut _ (is_client part.client) none_known
        (first_twins layer part.cut part.client is.learnable.there) there.early there.late
        (subst (IsLegal part.cut) there.parts is.learnable.legal)
        (subst (IsOpen part.cut (is_client part.client)) there.parts is.learnable.stays)
        (subst (λ z. Passes part.cut part.client z layer) there.parts passes)
        (subst (MovesAreTheirs (is_client part.client)) there.parts is.theirs) tree
        (named_below part.cut tree can.0.0 inode can.0.1)

    relevant : IsTrue (is_relevant (kind_of (state_after part.cut there.early) inode) right)
    relevant =
        let w = chain_prefix (state_after part.cut there.early) there.path root front inode behind (sym there.are) in
        let k = named_kind (state_after part.cut there.early) back.tree w.0 inode w.1 in
        ap (λ o. is_relevant o right) (k.1 ∙ sym (back.kinds k.0 k.1)) ∙ can.1

-- ---- parts that are cut at one tree

-- what is reached is told by the entries and the nodes alone
reach_alike : (s t : State) → s.entries ≡ t.entries → s.nodes ≡ t.nodes → (layer : Layer) (inode right : ℕ)
    → InReach s layer inode right → InReach t layer inode right
reach_alike s t same kinds layer inode right r = record {
  path = r.path;
  names = ap (λ (es : Map dentry_cmp ℕ). named (record t { entries = es }) r.path) (sym same) ∙ r.names;
  relevant = ap (λ (ns : Map nat_cmp Node). is_relevant (kind_of (record t { nodes = ns }) inode) right) (sym kinds)
      ∙ r.relevant;
  granted = ap (λ (es : Map dentry_cmp ℕ). grants (record t { entries = es }) layer r.path right) (sym same)
      ∙ r.granted;
}

can_alike : (s t : State) → s.entries ≡ t.entries → s.nodes ≡ t.nodes → (inode right : ℕ) → IsHoldable s inode right
    → IsHoldable t inode right
can_alike s t same kinds inode right can = (
  (
    can.0.0,
    ap (λ (es : Map dentry_cmp ℕ). named (record t { entries = es }) can.0.0) (sym same) ∙ can.0.1,
  ),
  ap (λ (ns : Map nat_cmp Node). is_relevant (kind_of (record t { nodes = ns }) inode) right) (sym kinds) ∙ can.1,
)

-- what passes is allowed
pub passes_allow : (s : State) (parts : List Part) → BeginAt s parts → (layer : Layer) → PassesEach parts layer
    → AllowsEach parts layer
passes_allow s parts begin layer passes part among =
    (same_replies part.cut part.client part.entries (begin.are part among).learnable layer).1 (passes part among)

-- what is granted on a path that was there
pub there_reached : (s : State) (parts : List Part) → BeginAt s parts → (layer : Layer) → PassesEach parts layer
    → (front behind : List ℕ) (inode right : ℕ) → WereInOne parts (front ++ inode ∷ behind)
    → grants_on layer (front ++ inode ∷ behind) right ≡ true → restricts layer right ≡ true
    → list_any (has_rule layer right) behind ≡ false → IsHoldable s inode right → InReach s layer inode right
there_reached s parts begin layer passes front behind inode right was granted restricted none can =
    let entries = begin.entries was.0 was.1 in
    let nodes = begin.nodes was.0 was.1 in
    reach_alike was.0.cut s entries nodes layer inode right
    (granted_reached was.0 (begin.are was.0 was.1) layer (passes was.0 was.1) front behind inode right was.2 granted
    restricted none (can_alike s was.0.cut (sym entries) (sym nodes) inode right can))

pub need_is_reached : NeedIsReached
need_is_reached s parts begin layer passes front behind inode right required restricted none can =
    there_reached s parts begin layer passes front behind inode right
    (required.part, required.among, required.there)
    (required.granted layer (passes_allow s parts begin layer passes)) restricted none can

-- ---- the least layer

pub none_of_these : (f g : ℕ → Bool) → ((x : ℕ) → f x ≡ true → g x ≡ true) → (xs : List ℕ) → list_any g xs ≡ false
    → list_any f xs ≡ false
none_of_these f g more [] none = refl
none_of_these f g more (x ∷ xs) none = by (f x) (g x) refl refl none (none_of_these f g more xs)
  where
    by : (a b : Bool) → f x ≡ a → g x ≡ b → (b || list_any g xs) ≡ false
        → (list_any g xs ≡ false → list_any f xs ≡ false) → (a || list_any f xs) ≡ false
    by a true is has h rest = absurd (cc h)
    by true false is has h rest = absurd (cc (sym (more x is) ∙ has))
    by false false is has h rest = rest h

each_below : (xs : List ℕ) (right : ℕ) → AllByRecursion (λ r. r < 15) xs → list_any (λ r. r == right) xs ≡ true
    → right < 15
each_below [] right all e = absurd (cc e)
each_below (x ∷ xs) right all e = elim (or_split (x == right) (list_any (λ r. r == right) xs) e) [
  | inl a ↦ subst (λ z. z < 15) (eqb-true x right a) all.0
  | inr a ↦ each_below xs right all.1 a
]

-- what is reached of a directory is reached of what lies below it
reach_below : (s : State) (layer : Layer) (above : ℕ) (right : ℕ) → InReach s layer above right → (back : Path)
    (inode : ℕ) → end_from s back above ≡ Some inode → IsTrue (is_relevant (kind_of s inode) right)
    → InReach s layer inode right
reach_below s layer above right r back inode ends relevant = record {
  path = r.path ++ back;
  names = end_append s r.path back root above r.names ∙ ends;
  relevant = relevant;
  granted = granted_on layer (ancestors s r.path) (ancestors s (r.path ++ back)) right
      (λ restricted rule. chain_front s (has_rule layer right) r.path back root above r.names rule) r.granted;
}

module _ (s : State) (least layer : Layer) (more : RestrictsNoMore layer least)
    (ruled : (inode right : ℕ) → right < 15 → has_rule least right inode ≡ true → restricts layer right ≡ true
    → InReach s layer inode right) (inode right : ℕ) (r : InReach s least inode right) (below : right < 15) where
  -- where the right isn't restricted it is granted everywhere
  reached_freely : restricts layer right ≡ false → InReach s layer inode right
  reached_freely free = record {
    path = r.path;
    names = r.names;
    relevant = r.relevant;
    granted = ap (λ b. not b || list_any (has_rule layer right) (ancestors s r.path)) free;
  }

  -- and else the way to the rule's inode goes on to what lies below it
  reached_by_rule : restricts layer right ≡ true → InReach s layer inode right
  reached_by_rule held =
      let on_path : list_any (has_rule least right) (ancestors s r.path) ≡ true =
      sym (ap (λ b. not b || list_any (has_rule least right) (ancestors s r.path)) (more right below held)) ∙ r.granted
      in
      let c = cut s (has_rule least right) r.path root inode r.names on_path in
      reach_below s layer c.at right (ruled c.at right below c.passes held) c.back inode c.ends r.relevant

-- what reaches each right of each rule of a layer reaches what the layer does
pub rules_reached : (s : State) (least layer : Layer) → RestrictsNoMore layer least
    → ((inode right : ℕ) → right < 15 → has_rule least right inode ≡ true → restricts layer right ≡ true
    → InReach s layer inode right) → ReachesNoMore s least layer
rules_reached s least layer more ruled inode right r = by (restricts layer right) refl
  where
    below : right < 15
    below = each_below all_rights right below_all (is_one_of_all (kind_of s inode) right r.relevant)

    by : (b : Bool) → restricts layer right ≡ b → InReach s layer inode right
    by false free = reached_freely s least layer more ruled inode right r below free
    by true held = reached_by_rule s least layer more ruled inode right r below held

pub charged_is_least : ChargedIsLeast
charged_is_least s parts begin may can least due layer within passes more =
    rules_reached s least layer more (λ inode right below rule held.
    let why = due.due inode right below rule in
    need_is_reached s parts begin layer passes why.front why.behind inode right why.required held
    (none_of_these (has_rule layer right) (may right) (λ x h. within x right below h) why.behind why.last)
    (can inode right below (due.within inode right below rule)))
