use Rattle.std.proofs.Common.{◌≡◌, ◌∙◌, sym}
use Rattle.std.specs.Prelude.{Some}
use Rattle.std.proofs.lemmas.Result.{on_ok_weaker}
use Rattle.ll_learn.specs.Mended.{IsPathTo}
use Rattle.ll_learn.proofs.Chains.{put_stay, put_there}
use Rattle.ll_learn.proofs.site_chains.SiteChains.add.Goals as goal

pub returns-in-Some-clause-stay : goal.returns-in-Some-clause-stay
returns-in-Some-clause-stay c =
    let row = c.in-Some.row in
    let is : IsPathTo c.args.tree.now row.inode row.inodes.items = rw c.in-Some.is at c.in_ok-row.ensures.some in
    on_ok_weaker c.put.result (λ put. put_stay c.args.tree.now c.args.self.now c.put.new.self row.inode
    row.inodes.items is put) c.put.ensures

pub returns-in-Some-clause-added : goal.returns-in-Some-clause-added
returns-in-Some-clause-added c =
    let row = c.in-Some.row in
    let is : IsPathTo c.args.tree.now row.inode row.inodes.items = rw c.in-Some.is at c.in_ok-row.ensures.some in
    let names = rw c.in-Some.is at c.in_ok-row.ensures.inode in
    on_ok_weaker c.put.result (λ put inode named directory. put_there c.args.tree.now c.args.self.now c.put.new.self
    row.inode row.inodes.items is put inode
    (let both : Some inode ≡ Some row.inode = sym named ∙ names in cc)) c.put.ensures
