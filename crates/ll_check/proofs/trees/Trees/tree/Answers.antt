use Rattle.std.proofs.Common.{ap}
use Rattle.std.specs.declared.alloc.Global.{Global}
use Rattle.std.specs.declared.vec.Vec.{Vec}
use Rattle.ll_seq.specs.declared.call.Call.{Call}
use Rattle.ll_program.specs.Options.{learn_in}
use Rattle.ll_check.proofs.Courses.{tree_made}
use Rattle.ll_check.proofs.trees.Trees.tree.Goals as goal

pub returns-in-Ok-clause-setup : goal.returns-in-Ok-clause-setup
returns-in-Ok-clause-setup c =
    let p = c.with_profile.ensures in
    let w = c.with_room.ensures in
    tree_made (learn_in c.args.self.now.options.now) c.args.self.now.policy.now c.args.profile.items c.args.tests
    c.in-Ok.setup c.with_profile.result c.with_room.result c.in-Ok.ensures.setup p.rules p.nodes p.loader
    (ap (λ (x : Vec Call Global). x.items) p.profile) w.rules w.nodes w.history w.loader w.profile
