use Rattle.std.proofs.Common.{sym, ◌∙◌, ◌≡◌}
use Rattle.ll_session.specs.CallsRun.{RepliesTo}
use Rattle.ll_session.specs.FirstClients.{Opens, Refuses, begun}
use Rattle.ll_session.specs.Progress.{without}
use Rattle.ll_session.proofs.CallsRuns.{makes_them, refused_them}
use Rattle.ll_session.proofs.Ways.{at_last, closes_here}
use Rattle.ll_session.proofs.calls_run.run_calls_in.Goals as goal

pub returns-in-Ok-reply_and_close-clause-made : goal.returns-in-Ok-reply_and_close-clause-made
returns-in-Ok-reply_and_close-clause-made g c =
    let replies = c.in-Ok-reply_and_close.replies in
    let entries = c.in-Ok-reply_and_close.history.entries in
    makes_them c.args.setup c.in-Ok.before c.args.calls.items replies entries
    (at_last c.args.setup g.N.Shape.rules g.N.Shape.limit c.in-Some.shared.party c.open.new.self.party entries
    (λ t. Opens c.args.setup (begun (without c.in-Ok.before t)))
    (RepliesTo c.in-Ok.before c.args.calls.items replies.items) c.requires.rules c.requires.limit c.in-Some.ensures
    (c.in-Ok.ensures.ok c.args.setup.nodes)
    (c.in-Ok-reply_and_close.ensures.replies c.args.setup.nodes c.requires.slots))

pub returns-else-not-is_told-clause-made : goal.returns-else-not-is_told-clause-made
returns-else-not-is_told-clause-made g c =
    let entries = c.close-history.result.entries in
    let e = at_last c.args.setup g.N.Shape.rules g.N.Shape.limit c.in-Some.shared.party c.open.new.self.party entries
    (Refuses c.args.setup c.in-Err.refusal) (λ s t. t ≡ s) c.requires.rules c.requires.limit c.in-Some.ensures
    (c.in-Err.ensures.err c.args.setup.nodes)
    (closes_here g.N.Shape.rules c.args.setup.nodes g.N.Shape.limit c.open.new.self.party entries
    (c.close-history.ensures.closed c.args.setup.nodes c.requires.slots)) in
    refused_them c.args.setup c.args.calls.items c.in-Err.refusal entries
    (e.0, e.1, (sym c.is_told.ensures ∙ c.if-not-is_told.false, e.2), e.3, e.4)

pub returns-then-not-is_told-clause-fault : goal.returns-then-not-is_told-clause-fault
returns-then-not-is_told-clause-fault g c =
    let entries = c.close-history.result.entries in
    let e = at_last c.args.setup g.N.Shape.rules g.N.Shape.limit c.in-Some.shared.party c.open.new.self.party entries
    (Refuses c.args.setup c.in-Err.refusal) (λ s t. t ≡ s) c.requires.rules c.requires.limit c.in-Some.ensures
    (c.in-Err.ensures.err c.args.setup.nodes)
    (closes_here g.N.Shape.rules c.args.setup.nodes g.N.Shape.limit c.open.new.self.party entries
    (c.close-history.ensures.closed c.args.setup.nodes c.requires.slots)) in
    (sym c.is_told.ensures ∙ c.if-not-is_told.true, e.0, e.2)
