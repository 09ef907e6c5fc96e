use Rattle.std.proofs.Common.{◌+◌, ◌-◌, subst, arith}
use Rattle.ll_session.specs.FirstClients.{Loads, coming_at, made}
use Rattle.ll_session.specs.PartySession.{Session}
use Rattle.ll_session.proofs.SessionPlaces.{how_many}
use Rattle.ll_embed.specs.Alone.{own}
use Rattle.ll_embed.proofs.Owned.{after_loader, loader_refused, profile_refused}
use Rattle.ll_embed.proofs.own_tree.OwnTree.open.Goals as goal

pub returns-in-Err-clause-err : goal.returns-in-Err-clause-err
returns-in-Err-clause-err c =
    let setup = c.args.setup in
    let end = own c.load.new.self in
    loader_refused setup end c.in-Err.refusal c.in-Err.ensures.opener
    (subst (λ (s : Session). Loads s setup.loader (coming_at c.in-Err.refusal end)) c.requires.fresh
    c.in-Err.ensures.err)

pub returns-in-Ok-bring-clause-ok : goal.returns-in-Ok-bring-clause-ok
returns-in-Ok-bring-clause-ok c =
    let setup = c.args.setup in
    let loaded = own c.load.new.self in
    let total = c.bring.new.self.clients in
    let many = c.in-Ok-bring.ensures.clients in (
      loaded,
      own c.bring.new.self,
      subst (λ (s : Session). Loads s setup.loader (made loaded)) c.requires.fresh c.in-Ok.ensures.ok,
      c.in-Ok-bring.ensures.ok,
      after_loader c.bring.new.self.plain c.bring.new.self.history c.bring.new.self.before c.load.new.self.clients total
          loaded c.bring.ensures.alone (omega (arith, many))
          (how_many (c.load.new.self.before + 1) c.load.new.self.clients),
    )

pub returns-in-Err-bring-clause-err : goal.returns-in-Err-bring-clause-err
returns-in-Err-bring-clause-err c =
    let setup = c.args.setup in
    let loaded = own c.load.new.self in
    profile_refused setup loaded (own c.bring.new.self) c.in-Err-bring.refusal c.in-Err-bring.ensures.opener
    (subst (λ (s : Session). Loads s setup.loader (made loaded)) c.requires.fresh c.in-Ok.ensures.ok)
    c.in-Err-bring.ensures.err
