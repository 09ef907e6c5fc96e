use Rattle.std.proofs.Common.{sym, ap, subst}
use Rattle.ll_seq.specs.Step.{client_of}
use Rattle.ll_seq.specs.declared.client.ClientRecord.{ClientRecord}
use Rattle.ll_why.specs.Reasons.{IsWhy}
use Rattle.ll_why.proofs.explanation.explain.Goals as goal

pub returns : goal.returns
returns c = λ n is.
    let s = c.args.tree.now in
    let call = c.args.call.now in
    let why : IsWhy s (client_of s n) call c.in_ok-why.why =
    subst (λ (r : ClientRecord). IsWhy s r call c.in_ok-why.why) (sym is) c.in_ok-why.ensures.why in
    record {
      why = why;
      answered = c.in_ok-why.ensures.answered n is;
      changes = c.in_ok-changes.ensures (client_of s n) call (ap (λ (r : ClientRecord). r.domain) is) why;
    }
