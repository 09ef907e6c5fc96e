use Rattle.std.proofs.Common.{◌≡◌, ◌+◌, ◌++◌, ◌∷◌, add-one, drop, drop-cons, get_or, ap, sym, ◌∙◌, string_bytes}
use Rattle.std.specs.List.{enumerate_from, flat_map}
use Rattle.std.proofs.lemmas.List.{append-nil, drop_all}
use Rattle.ll_why.specs.declared.grants.Ruled.{Ruled}
use Rattle.ll_why.specs.Table.{behind, ruled_tokens}
use Rattle.ll_why.proofs.TokenTexts.{come}
use Rattle.ll_why.proofs.table.push_rules.Goals as goal

none : Ruled
none = record { inode = 0; rights = record { 0 = 0 } }

pub loop-place-preserved : goal.loop-place-preserved
unfolding none
loop-place-preserved c =
    let rules = c.args.rules.now in
    let place = c.loop-place.place in
    let tokens = ruled_tokens c.args.path.now in
    let text = string_bytes c.loop-place.text in
    let rule : Ruled = get_or rules place none in
    let split : drop place rules ≡ rule ∷ drop (place + 1) rules =
    drop-cons rules place none c.loop-place-test.true ∙ ap (λ k. rule ∷ drop k rules) (sym (add-one place)) in
    come (string_bytes c.args.text.now ++ behind (flat_map tokens (enumerate_from 0 rules))) text
    (string_bytes c.push_ruled.new.text) (tokens (place, rule))
    (flat_map tokens (enumerate_from (place + 1) (drop (place + 1) rules)))
    (c.loop-place.invariant ∙ ap (λ l. text ++ behind (flat_map tokens (enumerate_from place l))) split)
    c.in_ok-push_ruled.ensures

pub returns : goal.returns
returns c =
    let rules = c.args.rules.now in
    let place = c.loop-place.place in
    let tokens = ruled_tokens c.args.path.now in
    let text = string_bytes c.loop-place.text in
    sym (c.loop-place.invariant
    ∙ ap (λ l. text ++ behind (flat_map tokens (enumerate_from place l))) (drop_all place rules c.loop-place-test.false)
    ∙ append-nil text)
