-- Verdicts, one by one.
use Rattle.std.proofs.Common.{◌≡◌, ◌∙◌, ◌↔◌, ℕ, ◌+◌, ◌<◌, ◌≤◌, Bool, true, false, cond, not, List, [], ◌∷◌, ◌++◌}
use Rattle.std.proofs.Common.{append_assoc, append-nil, length, map, take, get_or, refl, sym, ap, subst, arith}
use Rattle.std.specs.Prelude.{IsTrue}
use Rattle.std.specs.List.{AllByRecursion, count_by, flat_map}
use Rattle.std.specs.declared.alloc.Global.{Global}
use Rattle.std.specs.declared.vec.Vec.{Vec}
use Rattle.std.proofs.lemmas.List.{map-append, take_all, take_more}
use Rattle.std.proofs.lemmas.List.Sums.{sum_by-append, sum_by-cons}
use Rattle.ll_seq.specs.declared.reply.Entry.{Entry}
use Rattle.ll_seq.specs.declared.reply.Reply.{Reply}
use Rattle.ll_session.specs.PartySession.{Session}
use Rattle.ll_session.specs.CallsRun.{Makes, Replied}
use Rattle.ll_session.specs.declared.calls_run.CallReplies.{CallReplies}
use Rattle.ll_session.specs.declared.calls_run.CallReplies.TheVariants.{Answered, Refused}
use Rattle.ll_session.specs.declared.client_call.ClientCall.{ClientCall}
use Rattle.ll_session.specs.declared.setup.Setup.{Setup}
use Rattle.ll_check.specs.declared.reporter.Style.{Style}
use Rattle.ll_check.specs.declared.reporter.Tally.{Tally}
use Rattle.ll_check.specs.declared.check_text.Test.{Test}
use Rattle.ll_check.specs.Replied.{HasReplies}
use Rattle.ll_check.specs.Report.{IsJudged, Judged, Judges, Tells, failed, judged, shown}
use Rattle.ll_check.specs.Wanted.{Satisfies}

all_more : (verdicts : List Judged) (it : Judged) → AllByRecursion IsJudged verdicts → IsJudged it
    → AllByRecursion IsJudged (verdicts ++ it ∷ [])
all_more [] it all is = (is, tt)
all_more (v ∷ verdicts) it all is = (all.0, all_more verdicts it all.1 is)

flat_more : (f : Judged → List ℕ) (verdicts : List Judged) (it : Judged)
    → flat_map f (verdicts ++ it ∷ []) ≡ flat_map f verdicts ++ f it
flat_more f [] it = append-nil (f it)
flat_more f (v ∷ verdicts) it =
    ap (λ (x : List ℕ). f v ++ x) (flat_more f verdicts it) ∙ sym (append_assoc (f v) (flat_map f verdicts) (f it))

count_more : (p : Judged → Bool) (verdicts : List Judged) (it : Judged)
    → count_by p (verdicts ++ it ∷ []) ≡ count_by p verdicts + cond (p it) 1 0
count_more p verdicts it =
    let f : Judged → ℕ = λ v. cond (p v) 1 0 in
    let one = sum_by-cons f it [] in
    let all = sum_by-append f verdicts (it ∷ []) in
    omega (arith, one, all)

by_verdict : (b : Bool) → ◌≡◌ {A = ℕ} (cond (not b) 1 0) (cond b 0 1)
by_verdict true = refl
by_verdict false = refl

-- none is judged yet
pub none_judged : (style : Style) (file section : List ℕ) (out : List ℕ) (tally : Tally) → tally.passed ≡ 0
    → tally.failed ≡ 0 → Judges style file section [] [] out out tally
none_judged style file section out tally p f =
    ([], record { of_tests = refl; by_replies = refl; each = tt }, sym (append-nil out), p, f)

-- one more is
pub one_judged : (style : Style) (file section : List ℕ) (tests : List Test) (replies : List Reply) (i : ℕ)
    (test : Test) (reply : Reply) (passes : Bool) (before mid after : List ℕ) (sum more : Tally) → i < length tests
    → i < length replies → test ≡ get_or tests i test → reply ≡ get_or replies i reply
    → Judges style file section (take i tests) (take i replies) before mid sum
    → IsTrue passes ↔ Satisfies test.wanted reply
    → after ≡ mid ++ shown style file section (judged test reply passes)
    → more.passed ≡ sum.passed + cond passes 1 0 → more.failed ≡ sum.failed + cond passes 0 1
    → Judges style file section (take (i + 1) tests) (take (i + 1) replies) before after more
one_judged style file section tests replies i test reply passes before mid after sum more t r here there done is o p f =
    let it : Judged = judged test reply passes in
    let verdicts : List Judged = done.0 in (
      verdicts ++ it ∷ [],
      record {
        of_tests = map-append (λ (j : Judged). j.test) verdicts (it ∷ [])
            ∙ ap (λ (x : List Test). x ++ test ∷ []) done.1.of_tests
            ∙ ap (λ (x : Test). take i tests ++ x ∷ []) here ∙ sym (take_more tests i test t);
        by_replies = map-append (λ (j : Judged). j.reply) verdicts (it ∷ [])
            ∙ ap (λ (x : List Reply). x ++ reply ∷ []) done.1.by_replies
            ∙ ap (λ (x : Reply). take i replies ++ x ∷ []) there ∙ sym (take_more replies i reply r);
        each = all_more verdicts it done.1.each is;
      },
      o ∙ ap (λ (x : List ℕ). x ++ shown style file section it) done.2
          ∙ append_assoc before (flat_map (shown style file section) verdicts) (shown style file section it)
          ∙ ap (λ (x : List ℕ). before ++ x) (sym (flat_more (shown style file section) verdicts it)),
      p ∙ ap (λ n. n + cond passes 1 0) done.3 ∙ sym (count_more (λ (j : Judged). j.passes) verdicts it),
      f ∙ ap (λ n. n + cond passes 0 1) done.4 ∙ ap (λ n. failed verdicts + n) (sym (by_verdict passes))
          ∙ sym (count_more (λ (j : Judged). not j.passes) verdicts it),
    )

-- ---- each call has its reply

replied_all : (s t : Session) (calls : List ClientCall) (replies : List Reply) → Replied s calls replies t
    → length calls ≡ length replies
replied_all s t [] [] h = refl
replied_all s t [] (reply ∷ replies) h = absurd h
replied_all s t (made ∷ calls) [] h = absurd h
replied_all s t (made ∷ calls) (reply ∷ replies) h =
    let rest = replied_all h.0 t calls replies h.2 in omega (arith, rest)

calls_count : (tests : List Test) → length (map (λ (test : Test). test.call) tests) ≡ length tests
calls_count [] = refl
calls_count (test ∷ tests) = let rest = calls_count tests in omega (arith, rest)

pub has_replies : (setup : Setup) (tests : List Test) (made : CallReplies) (entries : List Entry)
    → Makes setup (map (λ (test : Test). test.call) tests) made entries → HasReplies (length tests) made
has_replies setup tests (Answered replies) entries h =
    sym (calls_count tests)
    ∙ replied_all h.0 h.1 (map (λ (test : Test). test.call) tests) replies.items h.3
has_replies setup tests (Refused refusal) entries h = tt

-- ---- parts of a loop

pub counted : (p f p' f' i : ℕ) (b : Bool) → p' ≡ p + cond b 1 0 → f' ≡ f + cond b 0 1 → p + f ≡ i → p' + f' ≡ i + 1
counted p f p' f' i true q g all = omega (arith, q, g, all)
counted p f p' f' i false q g all = omega (arith, q, g, all)

pub all_judged : (style : Style) (file section : List ℕ) (tests : List Test) (replies : List Reply) (n : ℕ)
    (before after : List ℕ) (tally : Tally) → length tests ≤ n → length replies ≤ n
    → Judges style file section (take n tests) (take n replies) before after tally
    → Judges style file section tests replies before after tally
all_judged style file section tests replies n before after tally t r h =
    subst (λ (x : List Test). Judges style file section x replies before after tally) (take_all n tests t)
    (subst (λ (x : List Reply). Judges style file section (take n tests) x before after tally) (take_all n replies r) h)

pub judged_by : (style : Style) (file section : List ℕ) (tests : List Test) (made : CallReplies)
    (replies : Vec Reply Global) (slice : List Reply) (before after : List ℕ) (tally : Tally)
    → made ≡ Answered replies → slice ≡ replies.items → Judges style file section tests slice before after tally
    → Tells style file section tests made before after tally
judged_by style file section tests made replies slice before after tally is same h =
    subst (λ (m : CallReplies). Tells style file section tests m before after tally) (sym is)
    (subst (λ (x : List Reply). Judges style file section tests x before after tally) same h)

pub replies_there : (count : ℕ) (made : CallReplies) (replies : Vec Reply Global) (slice : List Reply)
    → made ≡ Answered replies → slice ≡ replies.items → HasReplies count made → count ≡ length slice
replies_there count made replies slice is same h =
    subst (λ (m : CallReplies). HasReplies count m) is h ∙ ap length (sym same)

-- the calls of the tests so far
pub calls_more : (tests : List Test) (i : ℕ) (test : Test) (calls more : List ClientCall) (made : ClientCall)
    → i < length tests → test ≡ get_or tests i test → calls ≡ map (λ (t : Test). t.call) (take i tests)
    → made ≡ test.call → more ≡ calls ++ made ∷ [] → more ≡ map (λ (t : Test). t.call) (take (i + 1) tests)
calls_more tests i test calls more made below is so same e =
    e ∙ ap (λ (x : List ClientCall). x ++ made ∷ []) so
    ∙ ap (λ (x : ClientCall). map (λ (t : Test). t.call) (take i tests) ++ x ∷ [])
    (same ∙ ap (λ (t : Test). t.call) is)
    ∙ sym (map-append (λ (t : Test). t.call) (take i tests) (get_or tests i test ∷ []))
    ∙ ap (map (λ (t : Test). t.call)) (sym (take_more tests i test below))
