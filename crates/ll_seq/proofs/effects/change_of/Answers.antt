use Rattle.std.specs.Prelude.{[]}
use Rattle.std.specs.Option.{option_map_or}
use Rattle.std.proofs.Common.{ap, sym, ◌∙◌}
use Rattle.ll_rights.specs.declared.errno.Errno.TheVariants.{EBUSY, EEXIST, EINVAL, EISDIR, ENOTEMPTY}
use Rattle.ll_rights.specs.Kind.{is_dir}
use Rattle.ll_path.specs.Path.{is_root}
use Rattle.ll_seq.specs.Call.{path_of, first_path, second_path}
use Rattle.ll_seq.specs.declared.call.Call.TheVariants.{Make, Unlink, Rmdir, Rename, RenameNoreplace, Exchange, Link}
use Rattle.ll_seq.specs.declared.call.Call.TheVariants.{Allow}
use Rattle.ll_seq.specs.Effects.{renamed, with_moved, with_name}
use Rattle.ll_seq.specs.CallParts.{done}
use Rattle.ll_seq.specs.Stages.{missing, present, has_names, way_to, replace_refusals}
use Rattle.ll_seq.specs.Tree.{named, inode_of, kind_at}
use Rattle.ll_seq.proofs.effects.change_of.Goals as goal
use Rattle.ll_seq.proofs.ChangesByKind.{move_fits, rename_fits, link_fits, rule_fits}
use Rattle.ll_seq.proofs.Nearby.{renamed_near}
use Rattle.ll_seq.proofs.LastNames.{one_way, last_way, no_roots, not_refused, absent, has_room, holds, stands_there}
use Rattle.ll_seq.proofs.LastNames.{no_directory_goes, empty_goes}
use Rattle.ll_seq.proofs.Walked.{free_at, one_free, other_free}
use Rattle.ll_seq.specs.Near.{nodes_of}

pub returns-in-Make-clause-fits : goal.returns-in-Make-clause-fits
returns-in-Make-clause-fits c s ours free =
    let t = c.in-Make.target in
    let here = free_at s c.args.caller.now c.args.call.now (Make c.in-Make.kind t) c.args.found.now c.in-Make.is free in
    let place = c.of.ensures.place s here.passed.first (one_way s t here.passed.way)
    (not_refused (is_root (path_of t)) EBUSY here.passed.lying) in
    has_room s (path_of t) c.of.result place (absent s (path_of t) here.passed.existence) here.limits

pub returns-in-Unlink-clause-fits : goal.returns-in-Unlink-clause-fits
returns-in-Unlink-clause-fits c s ours free =
    let t = c.in-Unlink.target in
    let here = free_at s c.args.caller.now c.args.call.now (Unlink t) c.args.found.now c.in-Unlink.is free in
    let place = c.of-in-Unlink.ensures.place s here.passed.first (one_way s t here.passed.way)
    (not_refused (is_root (path_of t)) EBUSY here.passed.lying) in
    let inode = c.inode-in-Unlink.ensures.stands s (path_of t) here.passed.first in
    record {
      holds = holds s (path_of t) c.of-in-Unlink.result c.inode-in-Unlink.result place
          (stands_there s (path_of t) c.inode-in-Unlink.result here.passed.exist inode);
      empty = no_directory_goes s (path_of t) c.inode-in-Unlink.result inode
          (not_refused (is_dir (kind_at s (path_of t))) EISDIR here.kinds);
    }

pub returns-in-Rmdir-clause-fits : goal.returns-in-Rmdir-clause-fits
returns-in-Rmdir-clause-fits c s ours free =
    let t = c.in-Rmdir.target in
    let here = free_at s c.args.caller.now c.args.call.now (Rmdir t) c.args.found.now c.in-Rmdir.is free in
    let place = c.of-in-Rmdir.ensures.place s here.passed.first (one_way s t here.passed.way)
    (not_refused (is_root (path_of t)) EBUSY here.passed.lying) in
    let inode = c.inode-in-Rmdir.ensures.stands s (path_of t) here.passed.first in
    record {
      holds = holds s (path_of t) c.of-in-Rmdir.result c.inode-in-Rmdir.result place
          (stands_there s (path_of t) c.inode-in-Rmdir.result here.passed.exist inode);
      empty = empty_goes s (path_of t) c.inode-in-Rmdir.result inode
          (not_refused (has_names s (inode_of s (path_of t))) ENOTEMPTY (other_free _ _ here.kinds));
    }

pub returns-in-Rename-clause-done : goal.returns-in-Rename-clause-done
returns-in-Rename-clause-done c s n fresh ours free granted =
    let from = c.in-Rename.from in
    let into = c.in-Rename.into in
    let here = free_at s c.args.caller.now c.args.call.now (Rename from into) c.args.found.now c.in-Rename.is free in
    let inner = no_roots (path_of from) (path_of into) ENOTEMPTY here.passed.lying in
    let left = c.of-in-Rename.ensures.place s here.passed.first (one_free (way_to s from) _ here.passed.way) inner.0 in
    let entered = c.of-in-Rename-2.ensures.place s here.passed.second (last_way s from into here.passed.way) inner.1 in
    let inode = c.inode-in-Rename.ensures.stands s (path_of from) here.passed.first in
    ap (λ z. (done s n c.args.caller.now z (first_path z) (second_path z) fresh).1) c.in-Rename.is
    ∙ sym (λ i. renamed s (left.dentry i) (entered.dentry i) (inode i)
    (c.named.ensures.stands s (path_of into) here.passed.second i))
    ∙ c.renaming.ensures.done s n c.args.caller.now

pub returns-in-Rename-clause-fits : goal.returns-in-Rename-clause-fits
returns-in-Rename-clause-fits c s ours free =
    let from = c.in-Rename.from in
    let into = c.in-Rename.into in
    let here = free_at s c.args.caller.now c.args.call.now (Rename from into) c.args.found.now c.in-Rename.is free in
    let inner = no_roots (path_of from) (path_of into) ENOTEMPTY here.passed.lying in
    let left = c.of-in-Rename.ensures.place s here.passed.first (one_free (way_to s from) _ here.passed.way) inner.0 in
    let entered = c.of-in-Rename-2.ensures.place s here.passed.second (last_way s from into here.passed.way) inner.1 in
    let inode = c.inode-in-Rename.ensures.stands s (path_of from) here.passed.first in
    let there = stands_there s (path_of from) c.inode-in-Rename.result here.passed.exist inode in
    c.renaming.ensures.fits s c.args.caller.now
    (rename_fits s (path_of from) (path_of into) c.of-in-Rename.result c.of-in-Rename-2.result c.inode-in-Rename.result
    left entered there
    (ap (λ j. option_map_or (replace_refusals s j) (named s (path_of into)) []) inode ∙ here.kinds) here.limits
    c.named.result (c.named.ensures.stands s (path_of into) here.passed.second))

pub returns-in-Rename-clause-near : goal.returns-in-Rename-clause-near
returns-in-Rename-clause-near c =
    c.renaming.ensures.near c.args.call.now c.args.found.now
    (renamed_near c.args.call.now c.args.found.now _ _ _ (ap (λ z. nodes_of z c.args.found.now) c.in-Rename.is)
    c.of-in-Rename.ensures.directory c.of-in-Rename-2.ensures.directory c.named.ensures.data)

pub returns-in-RenameNoreplace-clause-done : goal.returns-in-RenameNoreplace-clause-done
returns-in-RenameNoreplace-clause-done c s n fresh ours free granted =
    let from = c.in-RenameNoreplace.from in
    let into = c.in-RenameNoreplace.into in
    let here = free_at s c.args.caller.now c.args.call.now (RenameNoreplace from into) c.args.found.now
    c.in-RenameNoreplace.is free in
    let inner = no_roots (path_of from) (path_of into) EEXIST here.passed.lying in
    let left = c.of-in-RenameNoreplace.ensures.place s here.passed.first (one_free (way_to s from) _ here.passed.way)
    inner.0 in
    let entered = c.of-in-RenameNoreplace-2.ensures.place s here.passed.second (last_way s from into here.passed.way)
    inner.1 in
    let inode = c.inode-in-RenameNoreplace.ensures.stands s (path_of from) here.passed.first in
    ap (λ z. (done s n c.args.caller.now z (first_path z) (second_path z) fresh).1) c.in-RenameNoreplace.is
    ∙ sym (λ i. with_moved s (left.dentry i) (entered.dentry i) (inode i))

pub returns-in-RenameNoreplace-clause-fits : goal.returns-in-RenameNoreplace-clause-fits
returns-in-RenameNoreplace-clause-fits c s ours free =
    let from = c.in-RenameNoreplace.from in
    let into = c.in-RenameNoreplace.into in
    let here = free_at s c.args.caller.now c.args.call.now (RenameNoreplace from into) c.args.found.now
    c.in-RenameNoreplace.is free in
    let inner = no_roots (path_of from) (path_of into) EEXIST here.passed.lying in
    let left = c.of-in-RenameNoreplace.ensures.place s here.passed.first (one_free (way_to s from) _ here.passed.way)
    inner.0 in
    let entered = c.of-in-RenameNoreplace-2.ensures.place s here.passed.second (last_way s from into here.passed.way)
    inner.1 in
    let inode = c.inode-in-RenameNoreplace.ensures.stands s (path_of from) here.passed.first in
    move_fits s (path_of from) (path_of into) c.of-in-RenameNoreplace.result c.of-in-RenameNoreplace-2.result
    c.inode-in-RenameNoreplace.result left entered
    (stands_there s (path_of from) c.inode-in-RenameNoreplace.result here.passed.exist inode)
    (absent s (path_of into) (other_free (missing s (path_of from)) (present s (path_of into)) here.passed.existence))
    here.limits

pub returns-in-Exchange-clause-done : goal.returns-in-Exchange-clause-done
returns-in-Exchange-clause-done c s n fresh ours free granted =
    let from = c.in-Exchange.from in
    let into = c.in-Exchange.into in
    let here = free_at s c.args.caller.now c.args.call.now (Exchange from into) c.args.found.now c.in-Exchange.is free
    in
    let inner = no_roots (path_of from) (path_of into) EINVAL here.passed.lying in
    let left = c.of-in-Exchange.ensures.place s here.passed.first (one_free (way_to s from) _ here.passed.way) inner.0
    in
    let entered = c.of-in-Exchange-2.ensures.place s here.passed.second (last_way s from into here.passed.way) inner.1
    in
    let inode = c.inode-in-Exchange.ensures.stands s (path_of from) here.passed.first in
    let other = c.inode-in-Exchange-2.ensures.stands s (path_of into) here.passed.second in
    ap (λ z. (done s n c.args.caller.now z (first_path z) (second_path z) fresh).1) c.in-Exchange.is
    ∙ sym (λ i. with_name (with_name s (entered.dentry i) (inode i)) (left.dentry i) (other i))
    ∙ c.exchanging.ensures.done s n c.args.caller.now
    (holds s (path_of from) c.of-in-Exchange.result c.inode-in-Exchange.result left
    (stands_there s (path_of from) c.inode-in-Exchange.result here.passed.exist.0 inode))
    (holds s (path_of into) c.of-in-Exchange-2.result c.inode-in-Exchange-2.result entered
    (stands_there s (path_of into) c.inode-in-Exchange-2.result here.passed.exist.1 other))

pub returns-in-Exchange-clause-fits : goal.returns-in-Exchange-clause-fits
returns-in-Exchange-clause-fits c s ours free =
    let from = c.in-Exchange.from in
    let into = c.in-Exchange.into in
    let here = free_at s c.args.caller.now c.args.call.now (Exchange from into) c.args.found.now c.in-Exchange.is free
    in
    let inner = no_roots (path_of from) (path_of into) EINVAL here.passed.lying in
    let left = c.of-in-Exchange.ensures.place s here.passed.first (one_free (way_to s from) _ here.passed.way) inner.0
    in
    let entered = c.of-in-Exchange-2.ensures.place s here.passed.second (last_way s from into here.passed.way) inner.1
    in
    let inode = c.inode-in-Exchange.ensures.stands s (path_of from) here.passed.first in
    let other = c.inode-in-Exchange-2.ensures.stands s (path_of into) here.passed.second in
    c.exchanging.ensures.fits s c.args.caller.now
    (holds s (path_of from) c.of-in-Exchange.result c.inode-in-Exchange.result left
    (stands_there s (path_of from) c.inode-in-Exchange.result here.passed.exist.0 inode))
    (holds s (path_of into) c.of-in-Exchange-2.result c.inode-in-Exchange-2.result entered
    (stands_there s (path_of into) c.inode-in-Exchange-2.result here.passed.exist.1 other))

pub returns-in-Link-clause-done : goal.returns-in-Link-clause-done
returns-in-Link-clause-done c s n fresh ours free granted =
    let from = c.in-Link.field-0 in
    let into = c.in-Link.into in
    let here = free_at s c.args.caller.now c.args.call.now (Link from into) c.args.found.now c.in-Link.is free in
    let inner = no_roots (path_of from) (path_of into) EEXIST here.passed.lying in
    let entered = c.of-in-Link.ensures.place s here.passed.second (last_way s from into here.passed.way) inner.1 in
    ap (λ z. (done s n c.args.caller.now z (first_path z) (second_path z) fresh).1) c.in-Link.is
    ∙ sym (λ i. with_name s (entered.dentry i) (c.inode-in-Link.ensures.stands s (path_of from) here.passed.first i))

pub returns-in-Link-clause-fits : goal.returns-in-Link-clause-fits
returns-in-Link-clause-fits c s ours free =
    let from = c.in-Link.field-0 in
    let into = c.in-Link.into in
    let here = free_at s c.args.caller.now c.args.call.now (Link from into) c.args.found.now c.in-Link.is free in
    let inner = no_roots (path_of from) (path_of into) EEXIST here.passed.lying in
    let entered = c.of-in-Link.ensures.place s here.passed.second (last_way s from into here.passed.way) inner.1 in
    link_fits s (path_of from) (path_of into) c.of-in-Link.result c.inode-in-Link.result entered
    (c.inode-in-Link.ensures.stands s (path_of from) here.passed.first) here.passed.exist
    (absent s (path_of into) (other_free (missing s (path_of from)) (present s (path_of into)) here.passed.existence))
    here.limits

pub returns-in-Allow-clause-fits : goal.returns-in-Allow-clause-fits
returns-in-Allow-clause-fits c s ours free =
    let t = c.in-Allow.field-1 in
    let here = free_at s c.args.caller.now c.args.call.now (Allow c.in-Allow.number t c.in-Allow.rights)
    c.args.found.now c.in-Allow.is free in
    rule_fits s c.args.caller.now (path_of t) _ (c.inode-in-Allow.ensures.stands s (path_of t) here.passed.first)
    (c.kind.ensures s (path_of t) here.passed.first here.passed.exist)
    here.passed.exist here.passed.numbers here.kinds here.limits
