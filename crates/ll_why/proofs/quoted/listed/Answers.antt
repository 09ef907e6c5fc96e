use Rattle.std.proofs.Common.{codes, sym, ◌∙◌, string_bytes}
use Rattle.std.proofs.lemmas.Result.{IfOk-weaker}
use Rattle.ll_why.proofs.TextGrowth.{joined_texts}
use Rattle.ll_why.proofs.quoted.listed.Goals as goal

pub returns : goal.returns
returns c =
    IfOk-weaker c.joined.result _ _ (λ text e. e ∙ sym (joined_texts string_bytes (codes ", ") c.args.objects.now))
    c.joined.ensures
