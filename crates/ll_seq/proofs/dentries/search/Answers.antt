use Rattle.std.proofs.Common.{rules}
use Rattle.std.proofs.lemmas.Fn.{always_returns_same}
use Rattle.ll_seq.specs.State.{dentry, dentry_cmp}
use Rattle.ll_seq.proofs.DentryOrder.{dentry_total, dentry_exact}
use Rattle.ll_seq.proofs.Searches.{searched}
use Rattle.ll_seq.proofs.dentries.search.Goals as goal

pub returns : goal.returns
returns c =
    let facts = c.binary_search_by.ensures in
    let by = facts.position (λ row. dentry_cmp row.0 (dentry c.args.directory c.args.name.now))
    (always_returns_same _ _ _ (λ a r h called. (search rules, search rules))) in
    let is = searched dentry_total dentry_exact (dentry c.args.directory c.args.name.now) c.args.rows.now
    c.binary_search_by.result c.requires facts.bound by in
    record { within = is.within; row = is.row; none = is.none; place = is.place; most = is.most }
