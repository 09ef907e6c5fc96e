use Rattle.std.proofs.Common.{◌≡◌, ◌+◌, ◌++◌, ◌∷◌, add-one, drop, drop-cons, get_or, ap, sym, ◌∙◌, string_bytes}
use Rattle.std.specs.List.{enumerate_from, flat_map}
use Rattle.std.proofs.lemmas.List.{append-nil, drop_all}
use Rattle.ll_why.specs.declared.grants.Ruled.{Ruled}
use Rattle.ll_why.specs.Told.{path_on, rule_line}
use Rattle.ll_why.proofs.TextGrowth.{came}
use Rattle.ll_why.proofs.layers.rule_lines.Goals as goal

none : Ruled
none = record { inode = 0; rights = record { 0 = 0 } }

pub loop-place-preserved : goal.loop-place-preserved
unfolding none
loop-place-preserved c =
    let rules = c.args.rules.now in
    let place = c.loop-place.place in
    let line = rule_line c.args.start.now (path_on c.args.call.now c.args.on) in
    let text = string_bytes c.loop-place.text in
    let rule : Ruled = get_or rules place none in
    let split : drop place rules ≡ rule ∷ drop (place + 1) rules =
    drop-cons rules place none c.loop-place-test.true ∙ ap (λ k. rule ∷ drop k rules) (sym (add-one place)) in
    came (flat_map line (enumerate_from 0 rules)) text _ (line (place, rule))
    (flat_map line (enumerate_from (place + 1) (drop (place + 1) rules)))
    (c.loop-place.invariant ∙ ap (λ l. text ++ flat_map line (enumerate_from place l)) split)
    (c.in_ok-push_str.ensures.bytes ∙ ap (λ l. text ++ l) (c.as_str.ensures.value ∙ c.in_ok-line.ensures))

pub returns : goal.returns
returns c =
    let rules = c.args.rules.now in
    let place = c.loop-place.place in
    let line = rule_line c.args.start.now (path_on c.args.call.now c.args.on) in
    let text = string_bytes c.loop-place.text in
    sym (c.loop-place.invariant
    ∙ ap (λ l. text ++ flat_map line (enumerate_from place l)) (drop_all place rules c.loop-place-test.false)
    ∙ append-nil text)
