use Rattle.std.proofs.Common.{◌≡◌, ◌++◌, map, take}
use denote.Text.{Utf8}
use denote.Shadow.{shadow}
use Rattle.ll_wire.proofs.Fronts.{parts}
use Rattle.ll_wire.proofs.token.front_of.Given as goal

abbrev pub invariant-loop-i : goal.invariant-loop-i
invariant-loop-i l = record {
  text : shadow (Utf8 l.rest);
  front : parts l.text ≡ map (λ s. s.now) (take l.i l.tokens) ++ parts l.rest;
}
