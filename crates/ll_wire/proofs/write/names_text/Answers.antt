use Rattle.std.proofs.Common.{◌∙◌, ap, List, ℕ, ◌∷◌, codes}
use Rattle.std.specs.List.{join_with_byte}
use Rattle.std.proofs.lemmas.List.{map-id}
use Rattle.ll_wire.proofs.Joined.{spaced_is}
use Rattle.ll_wire.proofs.write.names_text.Goals as goal

pub returns : goal.returns
returns c =
    spaced_is (λ name. name) (codes "names") c.args.names.now _ _ c.loop-name-test.false c.loop-name.invariant
    ∙ ap (λ (names : List (List ℕ)). join_with_byte 32 (codes "names" ∷ names)) (map-id c.args.names.now)
