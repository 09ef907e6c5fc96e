use Rattle.std.proofs.Common.{◌≡◌, ◌+◌, ◌∙◌, ap, drop, false, is_some, refl, rules, sym, true}
use Rattle.std.proofs.lemmas.List.{drop_all}
use Rattle.ll_seq.specs.History.{is_connect}
use Rattle.ll_learn.specs.SavedLesson.{connected}
use Rattle.ll_learn.proofs.Connected.{at_end, first_connects, later, none_connects, second_connects}
use Rattle.ll_learn.proofs.saved_lesson.client_of.Goals as goal
use Rattle.ll_learn.proofs.saved_lesson.client_of.Goals.{then-is_connect+else-is_some, else-is_connect}

pub loop-entry-init : goal.loop-entry-init
loop-entry-init c = refl

pub returns-then-is_some : goal.returns-then-is_some
returns-then-is_some c =
    let one : is_some c.loop-entry.first ≡ true = search rules in
    let does : is_connect c.entry-item.result.call ≡ true = search rules in
    sym (second_connects c.args.entries.now c.loop-entry.entry-index c.entry-item.result c.loop-entry-test.true
    c.entry-item.is c.loop-entry.first one does) ∙ c.loop-entry.invariant

pub loop-entry-preserved : goal.loop-entry-preserved
loop-entry-preserved c =
    let es = c.args.entries.now in
    let i = c.loop-entry.entry-index in
    let e = c.entry-item.result in
    elim c.if-is_connect.branch [
      | then-is_connect+else-is_some w ↦ (
          let none : is_some c.loop-entry.first ≡ false = sym w.if-is_some.ensures in
          let does : is_connect e.call ≡ true = sym w.if-is_connect.ensures in
          ap (λ first. later first (connected (drop (i + 1) es))) w.first-is
          ∙ sym (first_connects es i e c.loop-entry-test.true c.entry-item.is c.loop-entry.first none does)
          ∙ c.loop-entry.invariant)
      | else-is_connect w ↦ (
          let other : is_connect e.call ≡ false = sym w.if-is_connect.ensures in
          ap (λ first. later first (connected (drop (i + 1) es))) w.first-is
          ∙ sym (none_connects es i e c.loop-entry-test.true c.entry-item.is c.loop-entry.first other)
          ∙ c.loop-entry.invariant)
    ]

pub returns : goal.returns
returns c =
    let es = c.args.entries.now in
    let i = c.loop-entry.entry-index in
    c.unwrap_or.ensures ∙ sym (at_end c.loop-entry.first (drop i es) (drop_all i es c.loop-entry-test.false))
    ∙ c.loop-entry.invariant
