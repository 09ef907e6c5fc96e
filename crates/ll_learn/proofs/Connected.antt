-- Who connects.
use Rattle.std.proofs.Common.{◌≡◌, ◌<◌, ◌+◌, ◌∙◌, ℕ, suc, List, [], ◌∷◌, Option, Some, None, true, add-one, ap, drop}
use Rattle.std.proofs.Common.{drop-cons, false, get_or, is_some, length, refl, sym}
use Rattle.std.specs.Prelude.{unwrap_or}
use Rattle.ll_seq.specs.declared.reply.Entry.{Entry}
use Rattle.ll_seq.specs.History.{is_connect}
use Rattle.ll_learn.specs.SavedLesson.{client_among, connected}

-- the client that counts, where this one has connected before these
abbrev pub later : Option ℕ → List ℕ → ℕ
later None clients = client_among clients
later (Some first) [] = first
later (Some first) (second ∷ clients) = second

among_later : (first : ℕ) (clients : List ℕ) → client_among (first ∷ clients) ≡ later (Some first) clients
among_later first [] = refl
among_later first (second ∷ clients) = refl

seen : (e : Entry) (es : List Entry) → is_connect e.call ≡ true → connected (e ∷ es) ≡ e.client ∷ connected es
seen e es is = rw is refl

unseen : (e : Entry) (es : List Entry) → is_connect e.call ≡ false → connected (e ∷ es) ≡ connected es
unseen e es is = rw is refl

-- behind all
pub at_end : (first : Option ℕ) (es : List Entry) → es ≡ [] → later first (connected es) ≡ unwrap_or first 1
at_end None es none = ap (λ es. client_among (connected es)) none
at_end (Some first) es none = ap (λ es. later (Some first) (connected es)) none

module _ (es : List Entry) (i : ℕ) (e : Entry) (some : i < length es) (is : e ≡ get_or es i e) where
  abbrev pub rest : List Entry
  rest = drop (i + 1) es

  split : drop i es ≡ e ∷ rest
  split = drop-cons es i e some ∙ ap (λ x. x ∷ drop (suc i) es) (sym is) ∙ ap (λ k. e ∷ drop k es) (sym (add-one i))

  pub second_connects : (first : Option ℕ) → is_some first ≡ true → is_connect e.call ≡ true
      → later first (connected (drop i es)) ≡ e.client
  second_connects None one is' = absurd (cc one)
  second_connects (Some first) one is' =
      ap (λ es. later (Some first) (connected es)) split ∙ ap (later (Some first)) (seen e rest is')

  pub first_connects : (first : Option ℕ) → is_some first ≡ false → is_connect e.call ≡ true
      → later first (connected (drop i es)) ≡ later (Some e.client) (connected rest)
  first_connects None none is' =
      ap (λ es. client_among (connected es)) split ∙ ap client_among (seen e rest is')
      ∙ among_later e.client (connected rest)
  first_connects (Some first) none is' = absurd (cc none)

  pub none_connects : (first : Option ℕ) → is_connect e.call ≡ false
      → later first (connected (drop i es)) ≡ later first (connected rest)
  none_connects first is' = ap (λ es. later first (connected es)) split ∙ ap (later first) (unseen e rest is')
