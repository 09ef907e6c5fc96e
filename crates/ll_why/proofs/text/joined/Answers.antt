use Rattle.std.proofs.Common.{◌+◌, ◌++◌, List, ℕ, String, drop, sym, ap, ◌∙◌, append_assoc, string_bytes}
use Rattle.std.specs.List.{flat_map, join_by}
use Rattle.std.specs.declared.alloc.Global.{Global}
use Rattle.std.proofs.lemmas.List.{append-nil, drop_all}
use Rattle.ll_why.proofs.TextGrowth.{came, empty_is, from_element}
use Rattle.ll_why.proofs.text.joined.Goals as goal

pub loop-part-preserved : goal.loop-part-preserved
loop-part-preserved c =
    let others = c.in-Some.others.now in
    let separator = c.args.separator.now in
    let i = c.loop-part.part-index in
    let part = c.part-item.result in
    let text = string_bytes c.loop-part.text in
    let split = from_element others i part c.loop-part-test.true c.part-item.is in
    let both = separator ++ string_bytes part in
    came _ text _ both (flat_map (λ y. separator ++ string_bytes y) (drop (i + 1) others))
    (c.loop-part.invariant
    ∙ ap (λ (l : List (String Global)). text ++ flat_map (λ y. separator ++ string_bytes y) l) split)
    (c.in_ok-push_str-2.ensures.bytes
    ∙ ap (λ l. string_bytes c.push_str.new.self ++ l) c.as_str-in-loop-part.ensures.value
    ∙ ap (λ l. l ++ string_bytes part) c.in_ok-push_str.ensures.bytes
    ∙ append_assoc text separator (string_bytes part))

pub returns-in_default : goal.returns-in_default
returns-in_default c =
    c.new.ensures.bytes
    ∙ ap (λ (l : List (String Global)). join_by string_bytes c.args.separator.now l)
    (sym (empty_is c.args.parts.now c.in_default.ensures.cases))

pub returns : goal.returns
returns c =
    let others = c.in-Some.others.now in
    let separator = c.args.separator.now in
    let text = string_bytes c.loop-part.text in
    let behind = λ (l : List (String Global)). flat_map (λ y. separator ++ string_bytes y) l in
    sym (c.loop-part.invariant
    ∙ ap (λ (l : List (String Global)). text ++ behind l)
    (drop_all c.loop-part.part-index others c.loop-part-test.false) ∙ append-nil text)
    ∙ ap (λ (l : List ℕ). l ++ behind others) (c.in_ok-text.ensures.ok ∙ c.as_str.ensures.value)
    ∙ ap (λ (l : List (String Global)). join_by string_bytes separator l) (sym c.in-Some.ensures.cases.0)
