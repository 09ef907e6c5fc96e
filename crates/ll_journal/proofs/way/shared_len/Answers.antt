use Rattle.std.proofs.Common.{◌≡◌, List, [], ◌∷◌, ap, arith, inl, length, min, sym, ◌∙◌}
use Rattle.std.specs.Borrow.{Bor}
use Rattle.std.specs.Iterator.{Drains, YieldsFirstRef}
use Rattle.ll_path.specs.Path.{Path, common, parent}
use Rattle.ll_seq.specs.State.{Name}
use Rattle.ll_seq.specs.Found.{or_root}
use Rattle.ll_journal.proofs.Ahead.{common_less, common_nothing, length-common_parents, length-parent}
use Rattle.ll_journal.proofs.way.shared_len.Goals as goal

-- calls of `next` up to the first `None` give each name once
all_given : (names : List (Bor Name)) (left : Path)
    → Drains (YieldsFirstRef {S = Path} {A = Name} (λ rest. rest)) left names → length names ≡ length left
all_given [] left ran = sym (ap length (ran.1.1 ∙ ran.1.2.0))
all_given (name ∷ names) left ran =
    let turn = ran.1.1 in
    let rest = all_given names turn.0 (ran.0, (ran.1.0, turn.2, ran.1.2)) in
    let one = ap length turn.1 in
    omega (arith, rest, one)

pub count-requires-clause-fits : goal.count-requires-clause-fits
count-requires-clause-fits c =
    let way = length-parent (or_root c.args.one) in
    let is = c.way_len.ensures.len in
    let short = c.way_len.ensures.short in
    let one = ap (λ o. length (or_root o)) c.in-Some-Some.is-0 in
    let less = common_less c.in-Some-Some.one.now c.in-Some-Some.other.now in
    let all = ap length c.common.ensures in
    inl (omega (arith, way, is, short, one, less, all))

pub returns-in-Some-Some : goal.returns-in-Some-Some
returns-in-Some-Some c =
    let ran = c.count.ensures.ran in
    let many = ran.2 ∙ all_given ran.0 c.common.result ran.1 in
    let both : c.common.result ≡ common (or_root c.args.one) (or_root c.args.other) =
    c.common.ensures ∙ sym (λ i. common (or_root (c.in-Some-Some.is-0 i)) (or_root (c.in-Some-Some.is-1 i))) in
    let most : c.min-most.result ≡ min (length (parent (or_root c.args.one)))
    (length (parent (or_root c.args.other))) =
    c.min-most.ensures ∙ (λ i. min (c.way_len.ensures.len i) (c.way_len-2.ensures.len i)) in
    c.min.ensures ∙ (λ i. min ((many ∙ ap length both) i) (most i))
    ∙ sym (length-common_parents (or_root c.args.one) (or_root c.args.other))

pub returns-in_default : goal.returns-in_default
returns-in_default c =
    let way = parent (or_root c.args.one) in
    sym (ap length (ap (λ o. common way (parent (or_root o))) c.in_default.is-1 ∙ common_nothing way))
