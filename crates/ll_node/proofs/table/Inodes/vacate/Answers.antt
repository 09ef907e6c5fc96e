use Rattle.std.proofs.Common.{◌≡◌, ◌<◌, [], ◌∷◌, ◌++◌, length, ap, sym, subst, ◌∙◌, arith}
use Rattle.std.specs.Prelude.{slice_set}
use Rattle.ll_rights.specs.Map.{get, remove}
use Rattle.ll_node.specs.InodeTable.{Table}
use Rattle.ll_node.proofs.SlotLists.{same_Some}
use Rattle.ll_node.proofs.TableSteps.{cleared, never_there}
use Rattle.ll_node.proofs.table.Inodes.vacate.Goals as goal

pub returns-in-Some-clause-inodes : goal.returns-in-Some-clause-inodes
returns-in-Some-clause-inodes c placed =
    let at = sym (ap (λ (t : Table). get t.places c.args.inode) c.self.view_is) ∙ sym c.get.ensures
    ∙ sym c.copied.ensures ∙ c.in-Some.is in
    c.clear.ensures.items ∙ ap (λ (t : Table). slice_set t.inodes c.in-Some.slot 0) c.self.view_is
    ∙ cleared c.args.self.now.inodes c.args.self.now.places placed c.args.inode c.in-Some.slot at

pub returns-in-Some-clause-freed : goal.returns-in-Some-clause-freed
returns-in-Some-clause-freed c slot placed told room =
    let was = c.self.view_is in
    let at = sym (ap (λ (t : Table). get t.places c.args.inode) was) ∙ sym c.get.ensures ∙ sym c.copied.ensures
    ∙ c.in-Some.is in
    let same : slot ≡ c.in-Some.slot = same_Some slot c.in-Some.slot (sym told ∙ at) in
    let inodes =
    c.clear.ensures.items ∙ ap (λ (t : Table). slice_set t.inodes c.in-Some.slot 0) was
    ∙ cleared c.args.self.now.inodes c.args.self.now.places placed c.args.inode c.in-Some.slot at in
    let places = c.remove.ensures ∙ ap (λ (t : Table). remove t.places c.args.inode) was in
    let fits = subst (λ (t : Table). length t.free < length t.inodes) (sym was) room in
    let holds = c.self.invariant in
    let free = c.put_back.ensures.items (omega (arith, fits, holds))
    ∙ ap (λ (t : Table). t.free ++ c.in-Some.slot ∷ []) was ∙ ap (λ k. c.args.self.now.free ++ k ∷ []) (sym same) in
    λ i. record { facts = (was i).facts; next = (was i).next; inodes = inodes i; places = places i; free = free i }

pub returns-in_default-clause-inodes : goal.returns-in_default-clause-inodes
returns-in_default-clause-inodes c placed =
    sym (never_there c.args.self.now.inodes c.args.self.now.places placed c.args.inode
    (sym (ap (λ (t : Table). get t.places c.args.inode) c.self.view_is) ∙ sym c.get.ensures ∙ sym c.copied.ensures
    ∙ c.in_default.is))
