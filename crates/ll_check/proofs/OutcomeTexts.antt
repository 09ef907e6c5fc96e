-- What is wanted of a step's outcome, as its text says.
use Rattle.std.proofs.Common.{◌≡◌, ◌≢◌, ◌∙◌, ℕ, ◌<◌, ◌^◌, List, ◌++◌, codes, refl, sym, ap, subst, get_or, arith}
use Rattle.std.specs.Fmt.{decimal}
use Rattle.std.specs.Str.{IsUtf8}
use Rattle.std.proofs.lemmas.Bool.{false≢true}
use Rattle.std.proofs.lemmas.Fmt.{IsAscii-decimal}
use Rattle.std.proofs.lemmas.List.{append_cancel_left}
use Rattle.std.proofs.lemmas.Str.{IsUtf8-from_ascii}
use Rattle.ll_wire.specs.Parts.{SpellsNumber}
use Rattle.ll_check.specs.Outcomes.{SpellsNumbered, SpellsOutcome, SpellsReplied, SpellsWord}
use Rattle.ll_check.specs.Wanted.{SpellsWanted, wanted_text}
use Rattle.ll_check.specs.declared.outcomes.WantedOutcome.{WantedOutcome}
use Rattle.ll_check.specs.declared.outcomes.WantedOutcome.TheVariants.{Made, NotNow, Begun, Stands, Forked, Restarted}
use Rattle.ll_check.specs.declared.outcomes.WantedOutcome.TheVariants.{Joined, Reply}
use Rattle.ll_check.specs.declared.wanted.Wanted.{Wanted}

-- ---- numbers

pub number_is_utf8 : (text : List ℕ) (n : ℕ) → SpellsNumber text n → IsUtf8 text
number_is_utf8 text n h = subst IsUtf8 (sym h.1) (IsUtf8-from_ascii (decimal n) (IsAscii-decimal n h.0))

-- ---- words

pub no_word : (text : List ℕ) → text ≢ codes "NotNow" → text ≢ codes "begun" → text ≢ codes "forked"
    → text ≢ codes "restarted" → (wanted : WantedOutcome) → SpellsWord text wanted → ⊥
no_word text a b c d NotNow h = a h.0.1
no_word text a b c d Begun h = b h.0.1
no_word text a b c d Forked h = c h.0.1
no_word text a b c d Restarted h = d h.0.1
no_word text a b c d wanted h = false≢true h.1

-- ---- words with a number

at_or_client : (x y : List ℕ) → codes "at " ++ x ≡ codes "client " ++ y → ⊥
at_or_client x y e = let f : 97 ≡ 99 = ap (λ (l : List ℕ). get_or l 0 0) e in absurd (omega (arith, f))

no_number : (text : List ℕ) → ((n : ℕ) → n < 2 ^ 64 → text ≡ codes "at " ++ decimal n → ⊥)
    → ((n : ℕ) → n < 2 ^ 64 → text ≡ codes "client " ++ decimal n → ⊥) → (wanted : WantedOutcome)
    → SpellsNumbered text wanted → ⊥
no_number text a b (Stands n) h = a n h.0.0 h.0.1
no_number text a b (Joined n) h = b n h.0.0 h.0.1
no_number text a b wanted h = false≢true h.1

-- behind `at` is no number
pub no_place : (text digits : List ℕ) → text ≡ codes "at " ++ digits → ((n : ℕ) → SpellsNumber digits n → ⊥)
    → (wanted : WantedOutcome) → SpellsNumbered text wanted → ⊥
no_place text digits e none = no_number text
    (λ n small f. none n (small, append_cancel_left (codes "at ") digits (decimal n) (sym e ∙ f)))
    (λ n small f. at_or_client digits (decimal n) (sym e ∙ f))

-- nor behind `client`
pub no_client : (text digits : List ℕ) → ((rest : List ℕ) → text ≡ codes "at " ++ rest → ⊥)
    → text ≡ codes "client " ++ digits → ((n : ℕ) → SpellsNumber digits n → ⊥) → (wanted : WantedOutcome)
    → SpellsNumbered text wanted → ⊥
no_client text digits other e none = no_number text
    (λ n small f. other (decimal n) f)
    (λ n small f. none n (small, append_cancel_left (codes "client ") digits (decimal n) (sym e ∙ f)))

-- it is neither
pub no_numbered : (text : List ℕ) → ((rest : List ℕ) → text ≡ codes "at " ++ rest → ⊥)
    → ((rest : List ℕ) → text ≡ codes "client " ++ rest → ⊥) → (wanted : WantedOutcome)
    → SpellsNumbered text wanted → ⊥
no_numbered text other more = no_number text (λ n small f. other (decimal n) f) (λ n small f. more (decimal n) f)

pub stands_there : (text digits : List ℕ) (n : ℕ) → text ≡ codes "at " ++ digits → SpellsNumber digits n
    → SpellsNumbered text (Stands n)
stands_there text digits n e is = ((is.0, e ∙ ap (λ (x : List ℕ). codes "at " ++ x) is.1), refl)

pub client_joined : (text digits : List ℕ) (n : ℕ) → text ≡ codes "client " ++ digits → SpellsNumber digits n
    → SpellsNumbered text (Joined n)
client_joined text digits n e is = ((is.0, e ∙ ap (λ (x : List ℕ). codes "client " ++ x) is.1), refl)

-- ---- replies

no_reply : (text : List ℕ) → ((wanted : Wanted) → SpellsWanted (wanted_text wanted) wanted
    → text ≡ codes "reply " ++ wanted_text wanted → ⊥) → (wanted : WantedOutcome) → SpellsReplied text wanted → ⊥
no_reply text none (Reply wanted) h = none wanted (h.0.0, refl) h.0.1
no_reply text none wanted h = false≢true h.1

pub no_word_reply : (text : List ℕ) → ((rest : List ℕ) → text ≡ codes "reply " ++ rest → ⊥)
    → (wanted : WantedOutcome) → SpellsReplied text wanted → ⊥
no_word_reply text none = no_reply text (λ wanted is e. none (wanted_text wanted) e)

pub no_reply_behind : (text rest : List ℕ) → text ≡ codes "reply " ++ rest
    → ((wanted : Wanted) → SpellsWanted rest wanted → ⊥) → (wanted : WantedOutcome) → SpellsReplied text wanted → ⊥
no_reply_behind text rest e none = no_reply text (λ wanted is f.
    none wanted (is.0, append_cancel_left (codes "reply ") rest (wanted_text wanted) (sym e ∙ f)))

pub reply_behind : (text rest : List ℕ) (wanted : Wanted) → text ≡ codes "reply " ++ rest → SpellsWanted rest wanted
    → SpellsReplied text (Reply wanted)
reply_behind text rest wanted e is = ((is.0, e ∙ ap (λ (x : List ℕ). codes "reply " ++ x) is.1), refl)

-- ---- all of them

pub no_outcome : (text : List ℕ) → ((wanted : WantedOutcome) → SpellsWord text wanted → ⊥)
    → ((wanted : WantedOutcome) → SpellsNumbered text wanted → ⊥)
    → ((wanted : WantedOutcome) → SpellsReplied text wanted → ⊥) → (wanted : WantedOutcome)
    → SpellsOutcome text wanted → ⊥
no_outcome text word number reply Made h = h.0
no_outcome text word number reply NotNow h = word NotNow (h, refl)
no_outcome text word number reply Begun h = word Begun (h, refl)
no_outcome text word number reply (Stands inode) h = number (Stands inode) (h, refl)
no_outcome text word number reply Forked h = word Forked (h, refl)
no_outcome text word number reply Restarted h = word Restarted (h, refl)
no_outcome text word number reply (Joined client) h = number (Joined client) (h, refl)
no_outcome text word number reply (Reply wanted) h = reply (Reply wanted) (h, refl)
