-- What is learned from parts at one cut.
use Rattle.std.specs.Prelude.{◌≡◌, ◌↔◌, ◌<◌, ◌≤◌, ℕ, true, None, Some, All, IsTrue, List, [], ◌∷◌, Contains, length}
use Rattle.std.specs.Prelude.{map, refl}
use Rattle.std.specs.List.{list_any}
use Rattle.std.proofs.Common.{ap, arith, inl, inr, sym, subst, ◌∙◌}
use Rattle.std.proofs.lemmas.List.Elements.{All-contains, All-map}
use Rattle.ll_rights.specs.declared.access.Access.{Access}
use Rattle.ll_rights.specs.Access.{holds}
use Rattle.ll_rights.specs.Map.{get}
use Rattle.ll_rules.specs.Layer.{Layer, grants_on}
use Rattle.ll_seq.specs.declared.reply.Entry.{Entry}
use Rattle.ll_seq.specs.declared.rules.Rules.{Rules}
use Rattle.ll_seq.specs.CallParts.{is_relevant}
use Rattle.ll_seq.specs.History.{IsLegal, state_after}
use Rattle.ll_seq.specs.State.{State, kind_of, new_client, start}
use Rattle.ll_learn.specs.declared.draft.Draft.{Draft}
use Rattle.ll_learn.specs.declared.fault.Unlearned.{Unlearned}
use Rattle.ll_learn.specs.declared.fault.Unlearned.TheVariants as fault
use Rattle.ll_learn.specs.declared.learned.Aim.{Aim}
use Rattle.ll_learn.specs.declared.learned.Frame.{Frame}
use Rattle.ll_learn.specs.declared.needs.Needs.{Needs}
use Rattle.ll_learn.specs.declared.profile.LearnedProfile.{LearnedProfile}
use Rattle.ll_learn.specs.Bound.{BeginAt, Part, PassesEach, ReachesNoMore}
use Rattle.ll_learn.specs.Charges.{AreNeedsOf, IsScopeAt}
use Rattle.ll_learn.specs.Draft.{IsInScope, IsOf}
use Rattle.ll_learn.specs.Framed.{IsFrame, IsUnprofiled, MeetsNeeds}
use Rattle.ll_learn.specs.Learned.{AreCut, BeginsSo, IsCalled, IsLearned, IsOpening, IsUnlearned, IsWithinAim, may_hold}
use Rattle.ll_learn.specs.Learned.{part_behind}
use Rattle.ll_learn.specs.Lesson.{IsCalledLeast, IsOfDraft, IsOfProfile, gives}
use Rattle.ll_learn.specs.Needs.{Meets}
use Rattle.ll_learn.specs.Preface.{AreGathered}
use Rattle.ll_learn.specs.Sites.{IsLayerOf, IsReached}
use Rattle.ll_learn.proofs.AllSites.{reached_tree}
use Rattle.ll_learn.proofs.Cuts.{new_at_cut}
use Rattle.ll_learn.proofs.DraftReach.{draft_is_least}
use Rattle.ll_learn.proofs.Enforcements.{enforced}
use Rattle.ll_learn.proofs.MendedReach.{mended_is_least}
use Rattle.ll_learn.proofs.SameReplies.{same_replies}
use Rattle.ll_learn.proofs.ScopeLayers.{layer_in, layer_spelt, scope_at}

module _ (rules : Rules) (room : ℕ) (early : List Entry) (legal : IsLegal (start rules room) early)
    (hs : List (List Entry)) (aim : Aim) (frame : Frame)
    (framed : IsFrame (state_after (start rules room) early) aim frame) (needs : Needs)
    (gathered : AreGathered (start rules room) early aim.client hs needs) where
  abbrev s : State
  s = state_after (start rules room) early

  abbrev parts : List Part
  parts = map (part_behind s aim.client (length early)) hs

  reached : IsReached s
  reached = record { rules = rules; room = room; early = early; legal = legal; leads = refl }

  cut : AreCut (start rules room) aim.client hs early parts
  cut = record { legal = legal; begin = gathered.begin; are = refl }

  -- the layers under which each part passes are those that meet the needs
  passing : (layer : Layer) → Meets (grants_on layer) needs → PassesEach parts layer
  passing layer meets part there =
      (same_replies part.cut part.client part.entries (gathered.of.learnable part there) layer).0
      ((gathered.of.met layer).0 meets part there)

  meeting : (layer : Layer) → PassesEach parts layer → Meets (grants_on layer) needs
  meeting layer passes = (gathered.of.met layer).1 (λ part there.
      (same_replies part.cut part.client part.entries (gathered.of.learnable part there) layer).1
      (passes part there))

  -- a layer within the aim is within the scope
  in_scope : (layer : Layer) → IsWithinAim s aim layer → IsInScope frame.scope layer
  in_scope layer within =
      let handled : aim.handled.0 ≡ frame.scope.handled.0 = ap (λ (a : Access). a.0) (sym framed.handled) in
      layer_in s reached framed.held frame.sites framed.sites frame.scope framed.may (framed.all reached) layer
      (subst (λ n. IsLayerOf s n framed.held layer) handled (within framed.held framed.is_held))

  -- and the other way round
  in_aim : (layer : Layer) → IsInScope frame.scope layer → IsWithinAim s aim layer
  in_aim layer within held is_held =
      let spelt = layer_spelt s reached framed.held frame.sites framed.sites frame.scope framed.may layer within in
      record {
        handles = spelt.handles ∙ ap (λ (a : Access). a.0) framed.handled;
        rules = λ inode right known has.
            let rule = spelt.rules inode right known has in
            (rule.0, is_held right known ∙ sym (framed.is_held right known) ∙ rule.1, rule.2);
      }

  none_passes : ((layer : Layer) → IsInScope frame.scope layer → Meets (grants_on layer) needs → ⊥)
      → (layer : Layer) → IsWithinAim s aim layer → PassesEach parts layer → ⊥
  none_passes none layer within passes = none layer (in_scope layer within) (meeting layer passes)

  pub of_profile : IsOpening hs aim.client early → (f : Unlearned) → IsUnprofiled frame.scope needs f
      → IsUnlearned (start rules room) hs aim f
  of_profile opening (fault.NoClient n) is = absurd is
  of_profile opening (fault.Unlike n) is = absurd is
  of_profile opening (fault.Illegal at) is = absurd is
  of_profile opening (fault.Denied at) is = absurd is
  of_profile opening (fault.Full at) is = absurd is
  of_profile opening (fault.Unmet at) is =
      record { early = early; parts = parts; cut = cut; opening = opening; none = none_passes is }
  of_profile opening (fault.NoNode index) is = absurd is
  of_profile opening fault.NoMemory is = tt

  -- where no other client moves anything all are such parts
  begins : needs.outside ≡ None → BeginAt s parts
  begins alone = record {
    are = λ part there. record {
      rules = rules;
      room = room;
      early = early;
      legal = legal;
      leads = at part there;
      learnable = gathered.of.learnable part there;
      theirs = gathered.of.theirs.0 alone part there;
    };
    entries = λ part there. ap (λ (t : State). t.entries) (at part there);
    nodes = λ part there. ap (λ (t : State). t.nodes) (at part there);
  }
    where
      at : (part : Part) → Contains parts part → part.cut ≡ s
      at part there = All-contains (λ (p : Part). p.cut ≡ s) parts part
          (All-map (λ (p : Part). p.cut ≡ s) (part_behind s aim.client (length early)) hs (λ k d within. refl)) there

  module _ (profile : LearnedProfile) (is : MeetsNeeds frame.sites frame.chains frame.scope needs profile) where
    is_held : (inode right : ℕ) → right < 15 → list_any (gives inode right) profile.rules.items ≡ true
        → may_hold aim right ≡ true
    is_held inode right known given =
        sym (framed.is_held right known)
        ∙ ((framed.may inode right known).0 (is.held inode right known given)).0

    is_called : IsTrue profile.is_least ↔ IsCalledLeast s frame.scope needs is.drafted.draft
    is_called = is.drafted.called s framed.chains (framed.known reached)

    called : IsCalled s parts aim profile
    called = record {
      needs = needs;
      scope = frame.scope;
      draft = is.drafted.draft;
      of = gathered.of;
      within = λ layer. (in_aim layer, in_scope layer);
      beneath = framed.beneath;
      rules = is.drafted.rules;
      derived = is.drafted.derived;
      called = is_called;
    }

    least : profile.is_least ≡ true → (ours : Layer) → IsOfProfile profile ours
        → (layer : Layer) → IsWithinAim s aim layer → PassesEach parts layer → ReachesNoMore s ours layer
    least told ours of layer within passes =
        let by : IsOfDraft frame.chains frame.scope needs profile = is.drafted in
        let why : IsCalledLeast s frame.scope needs by.draft = is_called.0 told in
        let draft : Draft = record { handled = profile.handled; rules = by.draft.rules } in
        let drafted : IsOf draft ours = record {
          handled = of.handled;
          rules = λ inode right known. of.rules inode right known ∙ by.rules inode right known;
        } in
        let are : AreNeedsOf parts needs =
        record { met = λ l allows. (gathered.of.met l).1 allows; paths = gathered.of.paths } in
        let at_cut : IsScopeAt s frame.scope =
        scope_at s reached framed.held frame.sites framed.sites frame.scope framed.may in
        elim why.1 [
          | inl charged ↦
              draft_is_least s parts (begins why.0) needs are frame.scope at_cut draft charged ours drafted
              (is.within ours of) layer (in_scope layer within) passes
          | inr still ↦
              mended_is_least s parts (begins why.0) needs are gathered.of.moves frame.scope at_cut still.0
              still.1 draft by.derived ours drafted (is.within ours of) layer
              (in_scope layer within) passes
        ]

    -- what rules grant is handled, and applies to their nodes
    applies : (inode right : ℕ) → right < 15 → list_any (gives inode right) profile.rules.items ≡ true
        → (holds profile.handled.0 right ≡ true) × IsTrue (is_relevant (kind_of s inode) right)
    applies inode right known given =
        let may = is.held inode right known given in
        let at_cut : IsScopeAt s frame.scope =
        scope_at s reached framed.held frame.sites framed.sites frame.scope framed.may in (
          ap (λ (a : Access). holds a.0 right) is.handled ∙ framed.scope.handled inode right known may,
          (at_cut inode right known may).1,
        )

    -- the client is new at the cut
    is_new : 1 ≤ length hs → get s.clients aim.client ≡ Some new_client
    is_new some = by hs some gathered.begin
      where
        by : (all : List (List Entry)) → 1 ≤ length all → All (BeginsSo early aim.client) all
            → get s.clients aim.client ≡ Some new_client
        by [] some begin = absurd (omega arith)
        by (es ∷ all) some begin =
            new_at_cut early es aim.client (begin 0 es (omega arith)) (start rules room) legal

    pub learned : 1 ≤ length hs → IsLearned (start rules room) hs aim profile
    learned some = record {
      early = early;
      parts = parts;
      some = some;
      cut = cut;
      learned = record {
        learnable = gathered.of.learnable;
        handled = is.handled ∙ framed.handled;
        held = is_held;
        named = is.named s framed.held framed.sites;
        once = is.once s framed.held framed.sites;
        within = λ layer of. in_aim layer (is.within layer of);
        passes = λ layer of. passing layer (is.meets layer of);
        needed = λ layer of inode right known has less without passes.
            is.needed layer of inode right known has less without (meeting less passes);
        least = least;
        called = called;
        enforced = enforced s (reached_tree s reached) aim.client (is_new some) profile
            (is.named s framed.held framed.sites) applies;
      };
    }
