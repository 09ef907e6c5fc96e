use Rattle.std.proofs.Common.{◌≡◌, ◌≢◌, refl, sym, ◌∙◌, arith, rules}
use Rattle.std.proofs.lemmas.Bool.{false≢true}
use Rattle.std.proofs.lemmas.List.{take_more_same, get_or_default}
use Rattle.ll_wire.proofs.FirstReads.{front_found, same_at}
use Rattle.ll_wire.proofs.first_words.is_front.Goals as goal

pub loop-i-preserved : goal.loop-i-preserved
loop-i-preserved c =
    let same : c.as_str.result.now ≡ c.as_str-in-loop-i.result.now = search rules in
    take_more_same _ _ c.loop-i.i c.index-front-i.result (omega arith) (omega arith) c.loop-i.invariant
    (sym c.index-front-i.is ∙ sym c.as_str.ensures.text ∙ same ∙ c.as_str-in-loop-i.ensures.text ∙ c.index-names-i.is
    ∙ get_or_default c.args.names.now c.loop-i.i _ _ (omega arith))

pub returns-then-ne : goal.returns-then-ne
returns-then-ne c =
    let other : c.as_str.result.now ≢ c.as_str-in-loop-i.result.now = search rules in (
      λ yes. absurd (false≢true yes),
      λ front. absurd (other (c.as_str.ensures.text
          ∙ same_at c.args.front.now front.0 c.args.names.now c.loop-i.i c.index-front-i.result
          c.index-names-i.result front.1 (omega arith) c.index-front-i.is c.index-names-i.is
          ∙ sym c.as_str-in-loop-i.ensures.text)),
    )

pub returns : goal.returns
returns c =
    (λ yes. front_found c.args.front.now c.args.names.now c.loop-i.i (omega arith) c.loop-i.invariant, λ f. refl)
