-- What is wanted of a reply, as its text says.
use Rattle.std.proofs.Common.{◌≡◌, ◌≢◌, ◌∙◌, ℕ, ◌<◌, List, [], ◌∷◌, ◌++◌, codes, refl, sym, ap, subst}
use Rattle.std.specs.List.{join_with_byte}
use Rattle.std.specs.Str.{IsUtf8}
use Rattle.std.proofs.lemmas.Bool.{false≢true}
use Rattle.std.proofs.lemmas.List.{append_cancel_left, append_cancel_right}
use Rattle.std.specs.Prelude.{Option, Some, None, IfSome, IfNone}
use Rattle.std.proofs.lemmas.Str.{IsUtf8-from_ascii}
use Rattle.ll_rights.specs.Right.{right_text}
use Rattle.ll_decide.specs.Denial.{place_text}
use Rattle.ll_decide.specs.declared.denial.Place.{Place}
use Rattle.ll_decide.specs.declared.denial.Place.TheVariants.{At, Old, New}
use Rattle.ll_seq.specs.declared.reply.Reply.{Reply}
use Rattle.ll_wire.specs.FirstWords.{SpellsFirst, first_tokens}
use Rattle.ll_wire.specs.Grammar.{IsReply, SpellsReply, reply_tokens}
use Rattle.ll_wire.specs.Reads.{Finds}
use Rattle.ll_wire.specs.declared.first_words.FirstWords.{FirstWords}
use Rattle.ll_wire.proofs.Lines.{same_front}
use Rattle.ll_wire.proofs.OneReply.{right_token}
use Rattle.ll_wire.proofs.Tokens.{body_is_ascii}
use Rattle.ll_check.specs.Wanted.{SpellsVerdict, SpellsWanted}
use Rattle.ll_check.specs.declared.wanted.Wanted.{Wanted}
use Rattle.ll_check.specs.declared.wanted.Wanted.TheVariants.{Success, Allowed, Denied, DeniedRight, DeniedAt, Whole}
use Rattle.ll_check.specs.declared.wanted.Wanted.TheVariants.{First}

pub right_is_utf8 : (text : List ℕ) (right : ℕ) → (right < 15) × (text ≡ right_text right) → IsUtf8 text
right_is_utf8 text right h = subst IsUtf8 (sym h.1)
    (IsUtf8-from_ascii (right_text right) (body_is_ascii (right_text right ∷ []) (right_token right h.0, tt)))

-- a denial's text names one of three places
pub no_place : (text : List ℕ)
    → ((right : ℕ) → (right < 15) × (text ≡ right_text right ++ codes " at") → ⊥)
    → ((right : ℕ) → (right < 15) × (text ≡ right_text right ++ codes " old") → ⊥)
    → ((right : ℕ) → (right < 15) × (text ≡ right_text right ++ codes " new") → ⊥) → (v : ℕ × Place)
    → (v.0 < 15) × (text ≡ right_text v.0 ++ (codes " " ++ place_text v.1)) → ⊥
no_place text at old new (right, At) h = at right h
no_place text at old new (right, Old) h = old right h
no_place text at old new (right, New) h = new right h

-- nothing is wanted of the layers
pub no_verdict : (text : List ℕ) → text ≢ codes "allowed" → text ≢ codes "denied"
    → ((rest : List ℕ) → text ≡ codes "denied " ++ rest
    → ((right : ℕ) → (right < 15) × (rest ≡ right_text right) → ⊥)
    × ((v : ℕ × Place) → (v.0 < 15) × (rest ≡ right_text v.0 ++ (codes " " ++ place_text v.1)) → ⊥))
    → (wanted : Wanted) → SpellsVerdict text wanted → ⊥
no_verdict text allowed denied rest Allowed h = allowed h.0.1
no_verdict text allowed denied rest Denied h = denied h.0.1
no_verdict text allowed denied rest (DeniedRight right) h =
    (rest (right_text right) h.0.1).0 right (h.0.0, refl)
no_verdict text allowed denied rest (DeniedAt right place) h =
    (rest (right_text right ++ (codes " " ++ place_text place)) h.0.1).1 (right, place) (h.0.0, refl)
no_verdict text allowed denied rest wanted h = false≢true h.1

-- what isn't the one is another
pub no_want : (text : List ℕ) → ((wanted : Wanted) → SpellsVerdict text wanted → ⊥)
    → ((words : FirstWords) → (front : List ℕ) × (text ≡ front ++ codes " ..") × SpellsFirst front words → ⊥)
    → ((reply : Reply) → IsReply reply × (text ≡ join_with_byte 32 (reply_tokens reply)) → ⊥) → (wanted : Wanted)
    → SpellsWanted text wanted → ⊥
no_want text verdict first whole Success h = h.0
no_want text verdict first whole Allowed h = verdict Allowed (h, refl)
no_want text verdict first whole Denied h = verdict Denied (h, refl)
no_want text verdict first whole (DeniedRight right) h = verdict (DeniedRight right) (h, refl)
no_want text verdict first whole (DeniedAt right place) h = verdict (DeniedAt right place) (h, refl)
no_want text verdict first whole (Whole reply) h = whole reply h
no_want text verdict first whole (First words) h =
    first words (join_with_byte 32 (first_tokens words), h.1, (h.0, refl))

-- the text of first words, and ` ..` behind it
pub first_wanted : (text : List ℕ) (words : FirstWords)
    → (front : List ℕ) × (text ≡ front ++ codes " ..") × SpellsFirst front words → SpellsWanted text (First words)
first_wanted text words h =
    (h.2.0, h.1 ∙ ap (λ (x : List ℕ). x ++ codes " ..") h.2.1)

-- a reply, by its line
pub reply_by_line : (text line : List ℕ) (reply : Reply) → line ≡ text ++ 10 ∷ [] → SpellsReply line reply
    → IsReply reply × (text ≡ join_with_byte 32 (reply_tokens reply))
reply_by_line text line reply e h =
    (h.0, same_front text (join_with_byte 32 (reply_tokens reply)) 10 10 (sym e ∙ h.1))

pub line_of_reply : (text line : List ℕ) (reply : Reply) → line ≡ text ++ 10 ∷ []
    → IsReply reply × (text ≡ join_with_byte 32 (reply_tokens reply)) → SpellsReply line reply
line_of_reply text line reply e h = (h.0, e ∙ ap (λ (x : List ℕ). x ++ 10 ∷ []) h.1)

-- nor of what stands behind the word `denied`
pub no_verdict_behind : (text denied : List ℕ) → text ≢ codes "allowed" → text ≢ codes "denied"
    → text ≡ codes "denied " ++ denied → ((right : ℕ) → (right < 15) × (denied ≡ right_text right) → ⊥)
    → ((v : ℕ × Place) → (v.0 < 15) × (denied ≡ right_text v.0 ++ (codes " " ++ place_text v.1)) → ⊥)
    → (wanted : Wanted) → SpellsVerdict text wanted → ⊥
no_verdict_behind text denied allowed alone e right at = no_verdict text allowed alone (λ rest f.
    let same : denied ≡ rest = append_cancel_left (codes "denied ") denied rest (sym e ∙ f) in (
      λ r h. right r (h.0, same ∙ h.1),
      λ v h. at v (h.0, same ∙ h.1),
    ))

pub right_found : (text other : List ℕ) (r : Option ℕ) → other ≡ text → IfSome r (λ right. right < 15)
    → IfSome r (λ right. other ≡ right_text right)
    → IfNone r ((right : ℕ) → right < 15 → other ≢ right_text right)
    → Finds (λ right. (right < 15) × (text ≡ right_text right)) r
right_found text other (Some right) same known found none = (known, sym same ∙ found)
right_found text other None same known found none = λ right h. none right h.0 (same ∙ h.1)

pub right_ahead : (text front back : List ℕ) (r : Option ℕ) → text ≡ front ++ back
    → Finds (λ right. (right < 15) × (front ≡ right_text right)) r
    → Finds (λ right. (right < 15) × (text ≡ right_text right ++ back)) r
right_ahead text front back (Some right) e h = (h.0, e ∙ ap (λ (x : List ℕ). x ++ back) h.1)
right_ahead text front back None e h = λ right k.
    h right (k.0, append_cancel_right front (right_text right) back (sym e ∙ k.1))
