use Rattle.std.proofs.Common.{◌∙◌}
use Rattle.ll_seq.specs.State.{dentry}
use Rattle.ll_seq.proofs.DentryOrder.{dentry_total}
use Rattle.ll_seq.proofs.OrderedTables.{changed, got, instead_there, instead_absent}
use Rattle.ll_seq.proofs.dentries.Dentries.replace.Goals as goal

pub invariant_of-self : goal.invariant_of-self
invariant_of-self c =
    (changed dentry_total c.self.inside.rows.items c.deref.result.now c.args.self.now
    (dentry c.args.directory c.args.name.now) c.in-Some.i c.index_mut-row.result.now c.args.inode c.self.view_is
    c.self.invariant c.deref.ensures.value c.in-Some.ensures.row c.index_mut-row.ensures.value).sorted

pub returns-in-Some : goal.returns-in-Some
returns-in-Some c =
    let over = changed dentry_total c.self.inside.rows.items c.deref.result.now c.args.self.now
    (dentry c.args.directory c.args.name.now) c.in-Some.i c.index_mut-row.result.now c.args.inode c.self.view_is
    c.self.invariant c.deref.ensures.value c.in-Some.ensures.row c.index_mut-row.ensures.value in
    instead_there c.args.self.now _ (dentry c.args.directory c.args.name.now) c.index_mut-row.result.now.1 c.args.inode
    over.got over.whole

pub returns-in_default : goal.returns-in_default
returns-in_default c =
    instead_absent c.args.self.now (dentry c.args.directory c.args.name.now) c.args.inode
    (got c.self.inside.rows.items c.deref.result.now c.args.self.now (dentry c.args.directory c.args.name.now)
    c.self.view_is c.self.invariant c.deref.ensures.value ∙ c.in_default.ensures.none)
