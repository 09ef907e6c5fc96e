use Rattle.std.proofs.Common.{◌≡◌, ◌+◌, ◌++◌, ◌∷◌, add-one, drop, drop-cons, get_or, ap, map, sym, ◌∙◌, string_bytes}
use Rattle.std.specs.List.{enumerate_from, flat_map}
use Rattle.std.proofs.lemmas.List.{append-nil, drop_all}
use Rattle.ll_why.specs.declared.grants.Ruled.{Ruled}
use Rattle.ll_seq.specs.Found.{or_root}
use Rattle.ll_why.specs.RightsJson.{ruled_json}
use Rattle.ll_why.proofs.TextGrowth.{came}
use Rattle.ll_why.proofs.rights_json.rules_of.Goals as goal

none : Ruled
none = record { inode = 0; rights = record { 0 = 0 } }

pub loop-place-preserved : goal.loop-place-preserved
unfolding none
loop-place-preserved c =
    let rules = c.args.rules.now in
    let place = c.loop-place.place in
    let told = ruled_json (or_root c.args.path) in
    let texts = map string_bytes c.loop-place.texts.items in
    let rule : Ruled = get_or rules place none in
    let split : drop place rules ≡ rule ∷ drop (place + 1) rules =
    drop-cons rules place none c.loop-place-test.true ∙ ap (λ k. rule ∷ drop k rules) (sym (add-one place)) in
    came (flat_map told (enumerate_from 0 rules)) texts (map string_bytes c.push_rule.new.texts.items)
    (told (place, rule)) (flat_map told (enumerate_from (place + 1) (drop (place + 1) rules)))
    (c.loop-place.invariant ∙ ap (λ l. texts ++ flat_map told (enumerate_from place l)) split)
    c.in_ok-push_rule.ensures

pub returns : goal.returns
returns c =
    let rules = c.args.rules.now in
    let place = c.loop-place.place in
    let told = ruled_json (or_root c.args.path) in
    let texts = map string_bytes c.loop-place.texts.items in
    sym (c.loop-place.invariant
    ∙ ap (λ l. texts ++ flat_map told (enumerate_from place l)) (drop_all place rules c.loop-place-test.false)
    ∙ append-nil texts)
