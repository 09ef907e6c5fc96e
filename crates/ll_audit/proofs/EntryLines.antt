-- Lines that tell a header and entries, one line after the other.
use Rattle.std.proofs.Common.{◌≡◌, ℕ, true, List, [], ◌∷◌, ◌++◌, length, refl, sym, ap, subst, ◌∙◌, append_assoc, arith}
use Rattle.std.specs.List.{AllZip}
use Rattle.std.specs.Bool.{◌==◌}
use Rattle.std.proofs.lemmas.Bool.{eqb-true}
use Rattle.ll_seq.specs.declared.reply.Entry.{Entry}
use Rattle.ll_wire.specs.declared.header.Header.{Header}
use Rattle.ll_wire.specs.Entries.{SpellsHeader, SpellsEntry}
use Rattle.ll_audit.specs.declared.saved.ReadFault.{ReadFault}
use Rattle.ll_audit.specs.declared.saved.ReadFault.TheVariants.{BadLine}
use Rattle.ll_audit.specs.Saved.{Tell, IsFirstBad, no_header}

pub empty : (bytes : List ℕ) → true ≡ (length bytes == 0) → bytes ≡ []
empty [] e = refl
empty (b ∷ bytes) e = let none : length (b ∷ bytes) ≡ 0 = eqb-true (length (b ∷ bytes)) 0 (sym e) in
    absurd (omega (arith, none))

-- the fault tells the number
pub told_at : (lines : List (List ℕ)) (n k : ℕ) → ◌≡◌ {A = ReadFault} (BadLine n) (BadLine k) → IsFirstBad lines n
    → IsFirstBad lines k
told_at lines n k e bad = let same : n ≡ k = cc in subst (IsFirstBad lines) same bad

-- no line is a header's
pub no_line : (lines : List (List ℕ)) → lines ≡ [] → IsFirstBad lines 1
no_line lines none = no_header (λ line more h is. absurd (let both : [] ≡ line ∷ more = sym none ∙ is in cc))

pub first_is_bad : (lines : List (List ℕ)) (first : List ℕ) (rest : List (List ℕ)) → lines ≡ first ∷ rest
    → ((h : Header) → SpellsHeader first h → ⊥) → IsFirstBad lines 1
first_is_bad lines first rest cut bad = no_header (λ line more h is spells.
    let both : first ∷ rest ≡ line ∷ more = sym cut ∙ is in let same : line ≡ first = cc in
    bad h (subst (λ (x : List ℕ). SpellsHeader x h) same spells))

pub tell_first : (line : List ℕ) (h : Header) (es : List Entry) → SpellsHeader line h → es ≡ [] → Tell (line ∷ []) h es
tell_first line h es is none = subst (λ (x : List Entry). Tell (line ∷ []) h x) (sym none) (is, tt)

each_more : (lines : List (List ℕ)) (es : List Entry) (line : List ℕ) (e : Entry) → AllZip SpellsEntry lines es
    → SpellsEntry line e
    → AllZip SpellsEntry (lines ++ line ∷ []) (es ++ e ∷ [])
each_more [] [] line e told is = (is, tt)
each_more [] (d ∷ es) line e told is = absurd told
each_more (first ∷ lines) [] line e told is = absurd told
each_more (first ∷ lines) (d ∷ es) line e told is = (told.0, each_more lines es line e told.1 is)

pub tell_more : (lines : List (List ℕ)) (h : Header) (es : List Entry) (line : List ℕ) (e : Entry) → Tell lines h es
    → SpellsEntry line e
    → Tell (lines ++ line ∷ []) h (es ++ e ∷ [])
tell_more [] h es line e told is = absurd told
tell_more (first ∷ lines) h es line e told is = (told.0, each_more lines es line e told.1 is)

pub tell_same : (lines : List (List ℕ)) (h g : Header) (es ds : List Entry) → g ≡ h → ds ≡ es → Tell lines h es
    → Tell lines g ds
tell_same lines h g es ds a b told =
    subst (λ (x : Header). Tell lines x ds) (sym a) (subst (λ (x : List Entry). Tell lines h x) (sym b) told)

-- one line more is in front of what is left
pub cut_on : (all front rest more : List (List ℕ)) (line : List ℕ) → all ≡ front ++ rest → rest ≡ line ∷ more
    → all ≡ (front ++ line ∷ []) ++ more
cut_on all front rest more line e d =
    e ∙ ap (λ (x : List (List ℕ)). front ++ x) d ∙ sym (append_assoc front (line ∷ []) more)
