use Rattle.std.proofs.Common.{◌≡◌, [], ◌∷◌, ◌++◌, arith, string_bytes}
use Rattle.std.proofs.lemmas.Grind.{common_steps}
use Rattle.landtree.proofs.HintLines.{told_line}
use Rattle.landtree.proofs.hints.line_of.Goals as goal

pub returns : goal.returns
returns c =
    let text = string_bytes c.in_ok-escaped.escaped in
    let line = string_bytes c.push_str-2.new.self in
    let whole : line ≡ (32 ∷ 32 ∷ []) ++ text ++ (10 ∷ []) = grind (arith, common_steps) in
    told_line text line c.in_ok-escaped.ensures.printed whole
