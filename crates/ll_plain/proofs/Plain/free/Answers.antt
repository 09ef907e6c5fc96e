use Rattle.std.proofs.Common.{◌≡◌, Some, refl, ap, sym, subst, ◌∙◌}
use Rattle.ll_rights.specs.Map.{get, remove}
use Rattle.ll_seq.specs.declared.client.ClientRecord.{ClientRecord}
use Rattle.ll_seq.specs.State.{State}
use Rattle.ll_seq.specs.Effects.{let_go, with_client}
use Rattle.ll_seq.specs.Step.{client_of}
use Rattle.ll_plain.specs.Tables.{IsTied}
use Rattle.ll_plain.specs.contracts.Plain.{the_view}
use Rattle.ll_plain.proofs.Clients.{got_client}
use Rattle.ll_plain.proofs.Tied.{nodes_let_go, left_so}
use Rattle.ll_plain.proofs.Plain.free.Goals as goal
use Rattle.ll_plain.proofs.Plain.free.Goals.{After-forget}

module _ (c : After-forget) where
  abbrev before : State
  before = the_view c.self.inside

  abbrev holder : ClientRecord
  holder = client_of c.args.self.now c.args.client

  abbrev closed : State → State
  closed s = with_client s c.args.client (record holder { descriptors = remove holder.descriptors c.args.number })

  there : get before.clients c.args.client ≡ Some holder
  there = got_client before c.args.self.now c.args.client c.self.view_is c.requires.caller

  tied : IsTied (let_go (closed before) c.args.file.inode) c.close-goes.new.self
  tied = record {
    kept = c.close-goes.ensures.kept before c.args.client holder c.args.number c.args.file c.self.invariant.kept there
        c.requires.there refl;
    nodes = nodes_let_go (closed before) c.args.file.inode
        (record { root = c.self.invariant.nodes.root; named = c.self.invariant.nodes.named });
  }

  same : record before { clients = c.close.new.self; nodes = c.forget.new.nodes }
      ≡ let_go (closed before) c.args.file.inode
  same =
      ap (λ m. record before { clients = m; nodes = c.forget.new.nodes }) (c.close.ensures holder there)
      ∙ left_so (closed before) c.args.file.inode c.close-goes.result
      (λ node. c.close-goes.ensures.goes before c.args.client holder c.args.number c.args.file c.self.invariant.kept
      there c.requires.there refl node) c.forget.new.nodes c.forget.ensures

pub invariant_of-self : goal.invariant_of-self
invariant_of-self c = subst (λ z. IsTied z c.close-goes.new.self) (sym (same c)) (tied c)

pub returns : goal.returns
returns c = same c ∙ ap (λ z. let_go (closed c z) c.args.file.inode) c.self.view_is
