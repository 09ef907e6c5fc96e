use Rattle.std.proofs.Common.{refl}
use Rattle.ll_learn.proofs.Among.{one_site}
use Rattle.ll_learn.proofs.site.Sites.of_root.Goals as goal

pub returns : goal.returns
returns c s =
    one_site s c.args.all.0 (record { rows = c.in_ok-vec.field-0 })
    (record { inode = 1; path = c.in_ok-root_path.field-0; may = c.args.all }) c.in_ok-root_path.ensures refl refl
    c.in_ok-vec.ensures.items
