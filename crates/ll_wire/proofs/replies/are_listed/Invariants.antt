use Rattle.std.proofs.Common.{◌≡◌, [], ◌∷◌, map}
use Rattle.std.specs.List.{AllByRecursion}
use denote.Shadow.{shadow}
use denote.Text.{Utf8}
use Rattle.ll_path.specs.Name.{IsName}
use Rattle.ll_wire.proofs.NamesInOrder.{last_from, Rise}
use Rattle.ll_wire.proofs.replies.are_listed.Given as goal

abbrev pub invariant-loop-name : goal.invariant-loop-name
invariant-loop-name l = record {
  can_next : (goal.iterator-loop-name).can_next l.name-iterator;
  is_finite : (goal.iterator-loop-name).is_finite l.name-iterator;
  text : shadow (Utf8 l.last);
  last : l.last ≡ last_from [] (map (λ s. s.now) l.yielded);
  names : AllByRecursion IsName (map (λ s. s.now) l.yielded);
  rising : Rise ([] ∷ map (λ s. s.now) l.yielded);
}
