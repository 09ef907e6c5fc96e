use Rattle.ll_seq.specs.State.{dentry}
use Rattle.ll_seq.proofs.DentryOrder.{dentry_total, dentry_exact}
use Rattle.ll_seq.proofs.OrderedTables.{without, as_before}
use Rattle.ll_seq.proofs.dentries.Dentries.remove.Goals as goal

pub invariant_of-self : goal.invariant_of-self
invariant_of-self c =
    (without dentry_total dentry_exact c.self.inside.rows.items c.deref.result.now _ c.args.self.now
    (dentry c.args.directory c.args.name.now) c.in-Some.i c.self.view_is c.self.invariant c.deref.ensures.value
    c.in-Some.ensures.row c.remove.ensures.items).0

pub returns-in-Some : goal.returns-in-Some
returns-in-Some c =
    (without dentry_total dentry_exact c.self.inside.rows.items c.deref.result.now _ c.args.self.now
    (dentry c.args.directory c.args.name.now) c.in-Some.i c.self.view_is c.self.invariant c.deref.ensures.value
    c.in-Some.ensures.row c.remove.ensures.items).1

pub returns-in_default : goal.returns-in_default
returns-in_default c =
    as_before dentry_total dentry_exact c.self.inside.rows.items c.deref.result.now c.args.self.now
    (dentry c.args.directory c.args.name.now) c.self.view_is c.self.invariant c.deref.ensures.value
    c.in_default.ensures.none
