use Rattle.std.proofs.Common.{inl, subst, sym}
use Rattle.ll_seq.specs.declared.call.Call.{Call}
use Rattle.ll_plain.specs.Outcomes.{ComesBy}
use Rattle.ll_plain.proofs.Plain.reply.Goals as goal

pub returns-in-Read : goal.returns-in-Read
returns-in-Read c =
    subst (λ (call : Call). ComesBy c.args.fresh c.args.self.now c.args.client call c.read.result c.args.self.now)
    (sym c.in-Read.is) (c.read.ensures c.args.fresh)

pub returns-in-Write : goal.returns-in-Write
returns-in-Write c =
    subst (λ (call : Call). ComesBy c.args.fresh c.args.self.now c.args.client call c.write.result c.write.new.self)
    (sym c.in-Write.is) (c.write.ensures c.args.fresh)

pub returns-in-Ftruncate : goal.returns-in-Ftruncate
returns-in-Ftruncate c =
    subst (λ (call : Call). ComesBy c.args.fresh c.args.self.now c.args.client call c.ftruncate.result
    c.ftruncate.new.self) (sym c.in-Ftruncate.is) (c.ftruncate.ensures c.args.fresh)

pub returns-in-Ruleset : goal.returns-in-Ruleset
returns-in-Ruleset c =
    subst (λ (call : Call). ComesBy c.args.fresh c.args.self.now c.args.client call c.create_ruleset.result
    c.create_ruleset.new.self) (sym c.in-Ruleset.is) (c.create_ruleset.ensures c.args.fresh)

pub returns-in-Confine : goal.returns-in-Confine
returns-in-Confine c =
    subst (λ (call : Call). ComesBy c.args.fresh c.args.self.now c.args.client call c.confine.result c.confine.new.self)
    (sym c.in-Confine.is) (c.confine.ensures c.args.fresh)

pub returns-in-Connect : goal.returns-in-Connect
returns-in-Connect c =
    subst (λ (call : Call). ComesBy c.args.fresh c.args.self.now c.args.client call c.connect.result c.connect.new.self)
    (sym c.in-Connect.is) (c.connect.ensures c.args.fresh)

pub returns-in-Close : goal.returns-in-Close
returns-in-Close c =
    subst (λ (call : Call). ComesBy c.args.fresh c.args.self.now c.args.client call c.close.result c.close.new.self)
    (sym c.in-Close.is) (inl (c.close.ensures c.args.fresh))
