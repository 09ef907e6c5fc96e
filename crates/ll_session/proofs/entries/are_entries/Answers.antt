use Rattle.std.proofs.Common.{All, ap, arith, ◌∙◌, ◌+◌, ◌≡◌, length, refl, subst, suc, sym, take}
use Rattle.std.specs.Prelude.{slice_get}
use Rattle.std.proofs.lemmas.List.{take_all}
use Rattle.std.proofs.lemmas.List.Elements.{All-nil, All-push}
use Rattle.std.proofs.lemmas.Option.{slice_get_read}
use Rattle.ll_seq.specs.History.{state_after}
use Rattle.ll_session.proofs.Points.{may_stand, one_taken}
use Rattle.ll_wire.specs.Entries.{IsEntry}
use Rattle.ll_session.proofs.entries.are_entries.Goals as goal

pub loop-entry-init : goal.loop-entry-init
loop-entry-init c = All-nil IsEntry

pub is_entry-requires : goal.is_entry-requires
is_entry-requires c =
    let es = c.args.history.now.entries in
    let i = c.loop-entry.entry-index in
    let e = c.entry-item.result in
    let read = slice_get_read c.entries-entry-items.result.now (length c.entries-entry-items.result.now) i e refl
    c.loop-entry-test.true c.entry-item.is in
    let at = ap (λ xs. slice_get xs i) (sym c.entries-entry-items.ensures.entries) ∙ read in
    (state_after c.requires.0 (take i es), (may_stand c.requires.0 es i e c.requires.1 at).answered)

pub loop-entry-preserved : goal.loop-entry-preserved
loop-entry-preserved c =
    let es = c.args.history.now.entries in
    let i = c.loop-entry.entry-index in
    let e = c.entry-item.result in
    let read = slice_get_read c.entries-entry-items.result.now (length c.entries-entry-items.result.now) i e refl
    c.loop-entry-test.true c.entry-item.is in
    let at = ap (λ xs. slice_get xs i) (sym c.entries-entry-items.ensures.entries) ∙ read in
    let next : i + 1 ≡ suc i = omega arith in
    subst (All IsEntry) (sym (ap (λ n. take n es) next ∙ one_taken es i e at))
    (All-push IsEntry (take i es) e c.loop-entry.invariant c.is_entry.ensures)

pub returns : goal.returns
returns c =
    let es = c.args.history.now.entries in
    let i = c.loop-entry.entry-index in
    let whole = ap length c.entries-entry-items.ensures.entries in
    subst (All IsEntry) (take_all i es (omega (arith, c.loop-entry-test.false, whole))) c.loop-entry.invariant
