-- A file that was read whole, and what is answered for it.
use Rattle.std.proofs.Common.{◌≡◌, ℕ, List, Option, Some, None, ◌∙◌, subst}
use Rattle.std.specs.Option.{IfSome}
use Rattle.ll_wire.specs.Pieces.{pieces}
use Rattle.ll_audit.specs.Saved.{Judges}
use Rattle.ll_audit.specs.declared.verdict.Verdict.{Verdict}

pub judged_file : (told : Option (List ℕ)) (bytes slice : List ℕ) (verdict : Verdict)
    → IfSome told (λ text. bytes ≡ text) → slice ≡ bytes
    → Judges (pieces slice) verdict → IfSome told (λ text. Judges (pieces text) verdict)
judged_file None bytes slice verdict read same judges = tt
judged_file (Some text) bytes slice verdict read same judges =
    subst (λ (x : List ℕ). Judges (pieces x) verdict) (same ∙ read) judges
