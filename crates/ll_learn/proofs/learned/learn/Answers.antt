use Rattle.std.proofs.Common.{◌≡◌, ◌∙◌, ◌≤◌, List, ap, arith, length, subst, sym, take}
use Rattle.std.specs.Prelude.{◌<◌, true, nat_lt, Result, Ok, Err, IfErr, map, option_map}
use Rattle.std.specs.Borrow.{Bor}
use Rattle.std.proofs.lemmas.List.{length-map, length-take-le}
use Rattle.std.proofs.lemmas.Option.{slice_get-map}
use Rattle.std.proofs.lemmas.Result.{IfOk-weaker}
use Rattle.ll_rights.specs.Map.{has}
use Rattle.ll_seq.specs.declared.reply.Entry.{Entry}
use Rattle.ll_seq.specs.History.{state_after}
use Rattle.ll_seq.specs.State.{State}
use Rattle.ll_audit.specs.Saved.{opened}
use Rattle.ll_wire.specs.Entries.{version_rules}
use Rattle.ll_learn.specs.declared.fault.Unlearned.{Unlearned}
use Rattle.ll_learn.specs.Learned.{BeginsSo, IsOpening, IsUnlearned}
use Rattle.ll_learn.specs.Framed.{IsFrame, IsUnprofiled}
use Rattle.ll_learn.proofs.Cuts.{there_at_cut}
use Rattle.ll_learn.proofs.Frames.{learned, of_profile}
use Rattle.ll_learn.proofs.Hindrances.{begins_at, of_err, of_one}
use Rattle.ll_learn.proofs.learned.learn.Goals as goal

-- one that is lent is one
some_in : (lent : List (Bor (List Entry))) (hs : List (List Entry)) → true ≡ nat_lt 0 (length lent)
    → length hs ≡ length lent → 1 ≤ length hs
some_in lent hs here same = let within : 0 < length lent = grind (arith, here) in omega (arith, within, same)

err_weaker : {T : Type 0} (r : Result T Unlearned) (P Q : Unlearned → Type 0) → ((f : Unlearned) → P f → Q f)
    → IfErr r P → IfErr r Q
err_weaker (Ok x) P Q f is = tt
err_weaker (Err e) P Q f is = f e is

pub frame-requires-clause-caller : goal.frame-requires-clause-caller
frame-requires-clause-caller c =
    let es = c.in-Some.first.now.now in
    let cut = c.in-Some-cut_of.cut in
    let client = c.args.aim.now.client in
    let begins : BeginsSo (take cut es) client es =
    begins_at es client cut c.in-Some-cut_of.ensures.some.0 c.in-Some-cut_of.ensures.some.1 in
    ap (λ (t : State). has t.clients client) c.in_ok-tree.ensures.tree
    ∙ there_at_cut (take cut es) es client begins (opened c.args.header.now) c.in_ok-tree.ensures.legal

pub frame-requires-clause-next : goal.frame-requires-clause-next
frame-requires-clause-next c =
    let es = c.in-Some.first.now.now in
    let cut = c.in-Some-cut_of.cut in
    let some = c.in-Some-cut_of.ensures.some.1 in
    let few = c.in-Some-cut_of.ensures.few in
    let long : length (take cut es) ≡ cut = length-take-le cut es some in
    let next = c.in_ok-tree.ensures.next in
    omega (arith, few, long, next)

pub returns-in_err-needs-clause-fault : goal.returns-in_err-needs-clause-fault
returns-in_err-needs-clause-fault c =
    let s = opened c.args.header.now in
    let es = c.in-Some.first.now.now in
    let cut = c.in-Some-cut_of.cut in
    let aim = c.args.aim.now in
    let hs : List (List Entry) = map (λ (h : Bor (List Entry)). h.now) c.args.histories.now in
    let begins : BeginsSo (take cut es) aim.client es =
    begins_at es aim.client cut c.in-Some-cut_of.ensures.some.0 c.in-Some-cut_of.ensures.some.1 in
    let opening : IsOpening hs aim.client (take cut es) = record {
      first = es;
      is = slice_get-map (λ (h : Bor (List Entry)). h.now) c.args.histories.now 0
          ∙ ap (option_map (λ (h : Bor (List Entry)). h.now)) (sym c.in-Some.ensures.value);
      begins = begins;
    } in
    let f = c.in_err-needs.field-0.0 in
    of_err c.from_residual-in_err-needs.result f (IsUnlearned s hs aim) c.from_residual-in_err-needs.ensures.1
    (of_one s hs aim (take cut es) opening f c.in_err-needs.ensures.fault)

pub returns-clause-learned : goal.returns-clause-learned
returns-clause-learned c =
    let header = c.args.header.now in
    let es = c.in-Some.first.now.now in
    let early = take c.in-Some-cut_of.cut es in
    let aim = c.args.aim.now in
    let lent = c.args.histories.now in
    let hs : List (List Entry) = map (λ (h : Bor (List Entry)). h.now) lent in
    let framed : IsFrame (state_after (opened header) early) aim c.in_ok-frame.frame =
    subst (λ (t : State). IsFrame t aim c.in_ok-frame.frame) c.in_ok-tree.ensures.tree c.in_ok-frame.ensures.frame in
    let some : 1 ≤ length hs =
    some_in lent hs c.in-Some.ensures.item.0 (length-map lent (λ (h : Bor (List Entry)). h.now)) in
    IfOk-weaker c.profile.result _ _
    (λ profile is. learned (version_rules header.version) header.nodes early c.in_ok-tree.ensures.legal hs aim
    c.in_ok-frame.frame framed c.in_ok-needs.needs c.in_ok-needs.ensures.gathered profile is some)
    c.profile.ensures.meets

pub returns-clause-fault : goal.returns-clause-fault
returns-clause-fault c =
    let header = c.args.header.now in
    let es = c.in-Some.first.now.now in
    let cut = c.in-Some-cut_of.cut in
    let aim = c.args.aim.now in
    let hs : List (List Entry) = map (λ (h : Bor (List Entry)). h.now) c.args.histories.now in
    let begins : BeginsSo (take cut es) aim.client es =
    begins_at es aim.client cut c.in-Some-cut_of.ensures.some.0 c.in-Some-cut_of.ensures.some.1 in
    let opening : IsOpening hs aim.client (take cut es) = record {
      first = es;
      is = slice_get-map (λ (h : Bor (List Entry)). h.now) c.args.histories.now 0
          ∙ ap (option_map (λ (h : Bor (List Entry)). h.now)) (sym c.in-Some.ensures.value);
      begins = begins;
    } in
    let framed : IsFrame (state_after (opened header) (take cut es)) aim c.in_ok-frame.frame =
    subst (λ (t : State). IsFrame t aim c.in_ok-frame.frame) c.in_ok-tree.ensures.tree c.in_ok-frame.ensures.frame in
    err_weaker c.profile.result (IsUnprofiled c.in_ok-frame.frame.scope c.in_ok-needs.needs)
    (IsUnlearned (opened header) hs aim)
    (of_profile (version_rules header.version) header.nodes (take cut es) c.in_ok-tree.ensures.legal hs aim
    c.in_ok-frame.frame framed c.in_ok-needs.needs c.in_ok-needs.ensures.gathered opening) c.profile.ensures.fault
