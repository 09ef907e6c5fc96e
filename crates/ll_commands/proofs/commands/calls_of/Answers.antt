use Rattle.std.proofs.Common.{◌≡◌, ◌∙◌, ◌+◌, ◌∷◌, [], List, ℕ, add-one, ap, arith, drop, drop-cons, get_or, sym, Err}
use Rattle.std.proofs.Common.{rules}
use Rattle.std.specs.Borrow.{Bor}
use Rattle.ll_commands.proofs.Spelled.{bad_here, bad_on, spell_all, spell_on}
use Rattle.ll_commands.proofs.commands.calls_of.Goals as goal

none : Bor (List ℕ)
none = record { ref_ptr = (0, 0); now = [] }

pub returns-in_err-call-clause-bad : goal.returns-in_err-call-clause-bad
unfolding none
returns-in_err-call-clause-bad c =
    let same : c.from_residual.result ≡ Err c.in_err-call.field-0.0 = search rules in
    rw same (λ told. let words = c.args.words.now in
    let i = c.loop-word.word-index in
    let word = get_or words i none in
    let split : drop i words ≡ word ∷ drop (i + 1) words =
    drop-cons words i none c.loop-word-test.true ∙ ap (λ k. word ∷ drop k words) (sym (add-one i)) in
    bad_here words (drop i words) (drop (i + 1) words) word split c.loop-word.invariant.bad
    (c.in_err-call.ensures.bad told))

pub loop-word-preserved : goal.loop-word-preserved
unfolding none
loop-word-preserved c =
    let words = c.args.words.now in
    let i = c.loop-word.word-index in
    let word = get_or words i none in
    let split : drop i words ≡ word ∷ drop (i + 1) words =
    drop-cons words i none c.loop-word-test.true ∙ ap (λ k. word ∷ drop k words) (sym (add-one i)) in
    record {
      spell = spell_on words (drop i words) (drop (i + 1) words) word c.loop-word.calls.items c.push.new.self.items
          c.in_ok-call.call split c.in_ok-call.ensures.call c.in_default.ensures.items c.loop-word.invariant.spell;
      bad = bad_on words (drop i words) (drop (i + 1) words) word split c.loop-word.invariant.bad;
    }

pub returns-clause-calls : goal.returns-clause-calls
returns-clause-calls c =
    spell_all c.args.words.now c.loop-word.word-index c.loop-word.calls.items (omega (arith, c.loop-word-test.false))
    c.loop-word.invariant.spell
