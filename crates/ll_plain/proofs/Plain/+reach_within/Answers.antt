use Rattle.std.proofs.Common.{◌≡◌, ◌+◌, length, refl, ap, sym, subst, ◌∙◌, arith}
use Rattle.std.specs.Prelude.{Some, Option, slice_get, bit_or}
use Rattle.std.proofs.lemmas.Option.{slice_get_read}
use Rattle.ll_rights.specs.declared.access.Access.{Access}
use Rattle.ll_rights.specs.Map.{entries}
use Rattle.ll_seq.specs.State.{State}
use Rattle.ll_plain.specs.BoundedReach.{Found}
use Rattle.ll_plain.proofs.Reaches.{Tried, found_all, skip_other, skip_nameless, taken}
use Rattle.ll_plain.proofs.Plain.+reach_within.Goals as goal
use Rattle.ll_plain.proofs.Plain.+reach_within.Goals.{in-Some, in_default}

pub loop-row-preserved-then-row-inode : goal.loop-row-preserved-then-row-inode
loop-row-preserved-then-row-inode t c =
    let rows : c.rows-row-items.result.now ≡ entries c.args.self.now.entries =
    c.rows-row-items.ensures ∙ ap (λ (s : State). entries s.entries) c.self.view_is in
    skip_other c.args.self.now c.args.layer.now c.args.steps c.args.inode c.loop-row.row-index c.row-item.result
    c.loop-row.found
    (ap (λ es. slice_get es c.loop-row.row-index) (sym rows)
    ∙ slice_get_read c.rows-row-items.result.now _ c.loop-row.row-index c.row-item.result refl c.loop-row-test.true
    c.row-item.is)
    c.if-row-inode.true c.loop-row.invariant

pub loop-row-preserved : goal.loop-row-preserved
loop-row-preserved t c =
    let rows : c.rows-row-items.result.now ≡ entries c.args.self.now.entries =
    c.rows-row-items.ensures ∙ ap (λ (s : State). entries s.entries) c.self.view_is in
    let at : slice_get (entries c.args.self.now.entries) c.loop-row.row-index ≡ Some c.row-item.result =
    ap (λ es. slice_get es c.loop-row.row-index) (sym rows)
    ∙ slice_get_read c.rows-row-items.result.now _ c.loop-row.row-index c.row-item.result refl c.loop-row-test.true
    c.row-item.is in
    let Goal : Option Access → Type 0 =
    Found c.args.self.now c.args.layer.now
    (Tried c.args.self.now c.args.steps c.args.inode (c.loop-row.row-index + 1)) in
    elim c.match-reach_within.branch [
      | in-Some w ↦ subst Goal (sym w.found-is)
          (taken c.args.self.now c.args.layer.now c.args.steps c.args.inode c.loop-row.row-index c.row-item.result at
          c.if-row-inode.false (omega arith) w.in-Some.above w.in-Some.ensures
          c.rule-own.result w.with.result c.loop-row.found c.rule-own.ensures (w.with.ensures
          ∙ ap (λ (a : Access). bit_or a.0 w.in-Some.above.0) w.unwrap_or.ensures) c.loop-row.invariant)
      | in_default w ↦ subst Goal (sym w.found-is)
          (skip_nameless c.args.self.now c.args.layer.now c.args.steps c.args.inode c.loop-row.row-index
          c.row-item.result c.loop-row.found at w.in_default.ensures c.loop-row.invariant)
    ]

pub returns : goal.returns
returns t c =
    let rows : c.rows-row-items.result.now ≡ entries c.args.self.now.entries =
    c.rows-row-items.ensures ∙ ap (λ (s : State). entries s.entries) c.self.view_is in
    let long = ap length rows in
    found_all c.args.self.now c.args.layer.now c.args.steps c.args.inode c.loop-row.row-index c.loop-row.found
    (omega arith) (omega arith) c.loop-row.invariant
