-- Saved histories, and the verdict of an audit on a file. own
use Rattle.std.specs.Prelude.{◌≡◌, ℕ, ◌+◌, List, [], ◌∷◌, ◌++◌, length, codes, decimal}
use Rattle.std.specs.List.{AllZip, flat_map}
use Rattle.ll_seq.specs.declared.reply.Entry.{Entry}
use Rattle.ll_seq.specs.State.{State, start}
use Rattle.ll_seq.specs.History.{IsLegal}
use Rattle.ll_audit.specs.Audit.{IsFirstIllegal}
use Rattle.ll_wire.specs.declared.header.Header.{Header}
use Rattle.ll_wire.specs.Grammar.{line_of}
use Rattle.ll_wire.specs.Entries.{SpellsHeader, SpellsEntry, header_tokens, entry_line, version_rules}
use Rattle.ll_audit.specs.declared.verdict.Verdict.{Verdict}
use Rattle.ll_audit.specs.declared.verdict.Verdict.TheVariants.{Legal, Illegal, BadLine}

-- the text of a saved history: its header, and a line for each entry
abbrev pub saved_text : Header → List Entry → List ℕ
saved_text h es = line_of (header_tokens h) ++ flat_map entry_line es

-- the lines are the header's, and one for each entry
abbrev pub Tell : List (List ℕ) → Header → List Entry → Type 0
Tell [] h es = ⊥
Tell (line ∷ lines) h es = SpellsHeader line h × AllZip SpellsEntry lines es

-- the number, from 1, of the first line that is not well-formed: the header's, also if it is missing, or an entry's
pub data IsFirstBad (lines : List (List ℕ)) : ℕ → Type 0 where
  no_header : ((line : List ℕ) (more : List (List ℕ)) (h : Header) → lines ≡ line ∷ more → SpellsHeader line h → ⊥)
      → IsFirstBad lines 1
  no_entry : (h : Header) (es : List Entry) (front back : List (List ℕ)) (line : List ℕ)
      → lines ≡ front ++ line ∷ back → Tell front h es
      → ((e : Entry) → SpellsEntry line e → ⊥) → IsFirstBad lines (length es + 2)

-- the tree that the header describes, when it was created
abbrev pub opened : Header → State
opened h = start (version_rules h.version) h.nodes

-- The verdict on a file's lines: the first bad line; or else the first entry with a reply that the tree doesn't give
-- there; or else the number of entries
pub data Judges (lines : List (List ℕ)) : Verdict → Type 0 where
  bad : (k : ℕ) → IsFirstBad lines k → Judges lines (BadLine k)
  illegal : (h : Header) (es : List Entry) (k : ℕ) → Tell lines h es → IsFirstIllegal (opened h) es k
      → Judges lines (Illegal k)
  legal : (h : Header) (es : List Entry) → Tell lines h es → IsLegal (opened h) es → Judges lines (Legal (length es))

abbrev pub verdict_line : Verdict → List ℕ
verdict_line (Legal n) = line_of (codes "legal" ∷ decimal n ∷ [])
verdict_line (Illegal k) = line_of (codes "illegal" ∷ codes "at" ∷ decimal k ∷ [])
verdict_line (BadLine k) = line_of (codes "bad" ∷ codes "line" ∷ decimal k ∷ [])
