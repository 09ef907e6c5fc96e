use Rattle.std.proofs.Common.{ap, sym, ◌∙◌}
use Rattle.std.specs.FinMap.Entries.{find}
use Rattle.ll_rights.proofs.Places.{place, added}
use Rattle.ll_seq.specs.State.{dentry, dentry_cmp}
use Rattle.ll_seq.proofs.DentryOrder.{dentry_total}
use Rattle.ll_seq.proofs.OrderedTables.{got}
use Rattle.ll_seq.proofs.dentries.Dentries.insert.Goals as goal

pub invariant_of-self-2 : goal.invariant_of-self-2
invariant_of-self-2 c =
    (added dentry_total c.self.inside.rows.items _ c.args.self.now (dentry c.args.directory c.args.name) c.args.inode
    c.in-Err.place c.self.view_is c.self.invariant c.requires
    (c.in-Err.ensures.place ∙ ap (place dentry_cmp _) c.deref.ensures.value
    ∙ ap (λ n. place dentry_cmp (dentry c.args.directory n) c.self.inside.rows.items) c.as_str.ensures.text)
    c.in_ok-insert.ensures.items).0

pub returns-clause-ok : goal.returns-clause-ok
returns-clause-ok c =
    (added dentry_total c.self.inside.rows.items _ c.args.self.now (dentry c.args.directory c.args.name) c.args.inode
    c.in-Err.place c.self.view_is c.self.invariant c.requires
    (c.in-Err.ensures.place ∙ ap (place dentry_cmp _) c.deref.ensures.value
    ∙ ap (λ n. place dentry_cmp (dentry c.args.directory n) c.self.inside.rows.items) c.as_str.ensures.text)
    c.in_ok-insert.ensures.items).1

pub unreachable-requires : goal.unreachable-requires
unreachable-requires c =
    absurd (cc (sym c.requires
    ∙ got c.self.inside.rows.items c.deref.result.now c.args.self.now (dentry c.args.directory c.args.name)
    c.self.view_is c.self.invariant c.deref.ensures.value
    ∙ ap (λ n. find dentry_cmp (dentry c.args.directory n) c.deref.result.now) (sym c.as_str.ensures.text)
    ∙ c.in_default.ensures.row.1))
