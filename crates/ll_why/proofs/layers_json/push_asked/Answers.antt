use Rattle.std.proofs.Common.{ℕ, ◌++◌, ap, map, ◌∙◌, string_bytes}
use Rattle.ll_why.specs.WhyJson.{seated_json}
use Rattle.ll_why.proofs.TokenTexts.{on_ok}
use Rattle.ll_why.proofs.layers_json.push_asked.Goals as goal

pub returns : goal.returns
returns c =
    let objects = map string_bytes c.args.objects.now.items in
    on_ok c.push_seat.result _ _ c.push_seat.ensures (λ e. e
    ∙ ap (λ (n : ℕ). objects ++ seated_json c.args.call.now c.args.asks.now c.args.on n) c.set_on.ensures)
