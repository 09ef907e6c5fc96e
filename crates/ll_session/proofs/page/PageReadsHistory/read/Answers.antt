use Rattle.std.proofs.Common.{ap, length, refl, sym, take, ◌+◌, ◌∙◌}
use Rattle.std.specs.Prelude.{slice_get}
use Rattle.std.proofs.lemmas.Option.{slice_get_read}
use Rattle.ll_seq.specs.History.{state_after}
use Rattle.ll_session.proofs.Points.{may_stand}
use Rattle.ll_session.proofs.page.PageReadsHistory.read.Goals as goal

pub loop-index-init : goal.loop-index-init
loop-index-init c = record {
  fills = c.begin.ensures.fills c.args.entries.now refl;
  next = c.begin.ensures.next;
  fine = c.begin.ensures.fine;
}

pub is_entry-requires : goal.is_entry-requires
is_entry-requires c =
    let es = c.args.entries.now in
    let i = c.loop-index.index in
    let e = c.in-Some.entry.now in
    let at = slice_get_read es (length es) i e refl c.in-Some.ensures.lookup.3.0 c.in-Some.ensures.lookup.1 in (
      state_after c.requires.legal.0 (take i es),
      (may_stand c.requires.legal.0 es i e c.requires.legal.1 at).answered,
    )

pub add-requires-clause-next : goal.add-requires-clause-next
add-requires-clause-next c = ap (λ n. n + 1) (sym c.loop-index.invariant.next)

pub returns-in_default-add : goal.returns-in_default-add
returns-in_default-add c =
    let es = c.args.entries.now in
    let i = c.loop-index.index in
    let e = c.in-Some.entry.now in
    let at = slice_get_read es (length es) i e refl c.in-Some.ensures.lookup.3.0 c.in-Some.ensures.lookup.1 in
    let here = ap (λ n. slice_get es n) c.loop-index.invariant.next ∙ at in
    record { read = c.add.ensures.fills c.args.self.now es c.loop-index.invariant.fills here }

pub loop-index-preserved : goal.loop-index-preserved
loop-index-preserved c =
    let es = c.args.entries.now in
    let i = c.loop-index.index in
    let e = c.in-Some.entry.now in
    let at = slice_get_read es (length es) i e refl c.in-Some.ensures.lookup.3.0 c.in-Some.ensures.lookup.1 in
    let here = ap (λ n. slice_get es n) c.loop-index.invariant.next ∙ at in record {
      fills = c.add.ensures.fills c.args.self.now es c.loop-index.invariant.fills here;
      next = c.in-Ok.ensures.next;
      fine = c.in-Ok.ensures.fine;
    }
