use Rattle.std.proofs.Common.{subst, sym}
use Rattle.ll_seq.specs.Effects.{overwritten}
use Rattle.ll_plain.specs.Tables.{IsTied}
use Rattle.ll_plain.specs.contracts.Plain.{the_view}
use Rattle.ll_plain.proofs.Written.{bytes_changed}
use Rattle.ll_plain.proofs.Tied.{tied_bytes}
use Rattle.ll_plain.proofs.Plain.put.Goals as goal

pub invariant_of-self : goal.invariant_of-self
invariant_of-self c = subst (λ m. IsTied (record (the_view c.self.inside) { nodes = m }) c.self.inside.facts)
    (sym c.in_err-write.ensures.err) c.self.invariant

pub invariant_of-self-2 : goal.invariant_of-self-2
invariant_of-self-2 c = tied_bytes (the_view c.self.inside) c.self.inside.facts c.args.inode
    (λ bytes. overwritten bytes c.args.offset c.args.bytes.now) c.write.new.self c.self.invariant
    c.in_ok-write.ensures.ok

pub returns-clause-ok : goal.returns-clause-ok
returns-clause-ok c = bytes_changed _ c.args.self.now c.write.new.self c.args.inode
    (λ bytes. overwritten bytes c.args.offset c.args.bytes.now) c.self.view_is c.in_ok-write.ensures.ok
