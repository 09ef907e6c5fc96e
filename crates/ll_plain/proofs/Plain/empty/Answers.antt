use Rattle.std.specs.Prelude.{[]}
use Rattle.ll_plain.specs.contracts.Plain.{the_view}
use Rattle.ll_plain.proofs.Written.{bytes_changed}
use Rattle.ll_plain.proofs.Tied.{tied_bytes}
use Rattle.ll_plain.proofs.Plain.empty.Goals as goal

pub invariant_of-self : goal.invariant_of-self
invariant_of-self c = tied_bytes (the_view c.self.inside) c.self.inside.facts c.args.inode (λ bytes. [])
    c.clear.new.self c.self.invariant c.clear.ensures

pub returns : goal.returns
returns c = bytes_changed _ c.args.self.now c.clear.new.self c.args.inode (λ bytes. []) c.self.view_is c.clear.ensures
