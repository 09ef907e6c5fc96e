use Rattle.std.proofs.Common.{rules, length, ap, sym, ◌<◌, ◌∙◌}
use Rattle.ll_rights.specs.Map.{get}
use Rattle.ll_seq.specs.State.{child}
use Rattle.ll_laws.specs.World.{World, shown}
use Rattle.ll_node.proofs.NameMaps.{get-names_map}
use Rattle.ll_node.specs.declared.held.Held.{Held}
use Rattle.ll_steps.proofs.LentContents.{bound_of, held_at_index, no_child}
use Rattle.ll_steps.proofs.world.World.child.Goals as goal

pub returns-in_default : goal.returns-in_default
returns-in_default c =
    sym (no_child c.self.inside.journal.world c.args.directory c.args.name.now c.in_default.ensures.none)
    ∙ ap (λ (w : World). child (shown w) c.args.directory c.args.name.now) c.self.view_is

pub index-requires : goal.index-requires
index-requires c =
    let within : c.in-Some.slot < length c.self.inside.slots.items =
    bound_of c.self.inside.journal c.self.inside.slots.items c.in-Some.slot c.self.invariant.accounts
    c.in-Some.ensures.within in
    search rules

pub returns : goal.returns
returns c =
    c.look_up.ensures
    ∙ ap (λ (held : Held). get held.node.names c.args.name.now)
    (held_at_index c.self.inside.journal c.self.inside.slots.items c.in-Some.slot c.args.directory c.index.result.now
    c.self.invariant.accounts c.in-Some.ensures.within c.index.ensures c.in-Some.ensures.lies)
    ∙ get-names_map (shown c.self.inside.journal.world) c.args.directory c.args.name.now
    ∙ ap (λ (w : World). child (shown w) c.args.directory c.args.name.now) c.self.view_is
