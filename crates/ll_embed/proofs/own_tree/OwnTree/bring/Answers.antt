use Rattle.std.proofs.Common.{arith, subst, sym}
use Rattle.std.proofs.lemmas.Result.{on_ok_weaker}
use Rattle.ll_session.specs.FirstClients.{Comes, coming_at}
use Rattle.ll_session.specs.declared.refusal.Refusal.{Refusal}
use Rattle.ll_session.proofs.FirstComers.{if_err_both}
use Rattle.ll_embed.specs.Alone.{own}
use Rattle.ll_embed.proofs.Owned.{comes_made, comes_unmade, following_is}
use Rattle.ll_embed.proofs.own_tree.OwnTree.bring.Goals as goal

pub returns-in-Err-clause-err : goal.returns-in-Err-clause-err
returns-in-Err-clause-err c =
    let none = c.in-Err.ensures.err in
    subst (λ (r : Refusal). Comes (own c.args.self.now) c.args.calls.items (coming_at r (own c.connect.new.self)))
    (sym c.at_connect.ensures) (none.0.0, none.0.1, λ done. absurd cc, none.1)

pub returns-clause-ok : goal.returns-clause-ok
returns-clause-ok c = on_ok_weaker c.make.result (λ made.
    comes_made (own c.args.self.now) (own c.connect.new.self) (own c.make.new.self) _ c.args.calls.items
    c.in-Ok.ensures.ok (following_is c.args.self.now.plain c.args.self.now.history c.args.self.now.before
    c.args.self.now.clients) made) c.make.ensures.ok

pub returns-clause-err : goal.returns-clause-err
returns-clause-err c = if_err_both c.make.result _ _ _ (λ refusal stops some.
    comes_unmade (own c.args.self.now) (own c.connect.new.self) (own c.make.new.self) _ c.args.calls.items
    refusal c.in-Ok.ensures.ok (following_is c.args.self.now.plain c.args.self.now.history
    c.args.self.now.before c.args.self.now.clients) some stops) c.make.ensures.err c.make.ensures.some

pub overflow_add-client : goal.overflow_add-client
overflow_add-client c =
    let few = c.args.self.now.few in let within = c.args.self.now.within in
    let most = c.args.self.now.most in omega (arith, few, within, most)
