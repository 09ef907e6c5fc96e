use Rattle.std.proofs.Common.{◌≡◌, ◌∷◌, List, ℕ, IfOk, codes, subst}
use Rattle.std.specs.List.{join_with_byte}
use Rattle.std.specs.String.{string_bytes}
use Rattle.ll_wire.proofs.write.reply_body.Goals as goal

pub returns-in-Listed : goal.returns-in-Listed
returns-in-Listed c =
    rw c.in-Listed.is (subst (λ (names : List (List ℕ)). IfOk c.names_text.result
    (λ text. string_bytes text ≡ join_with_byte 32 (codes "names" ∷ names))) c.names.ensures.names
    c.names_text.ensures)
