use Rattle.std.proofs.Common.{◌≡◌, map, take, drop}
use Rattle.ll_path.specs.Path.{path_of_text}
use Rattle.ll_program.specs.Paths.{HasBadWord}
use Rattle.ll_program.proofs.paths.paths_of.Given as goal

-- so far, and a bad word that is left is one of all
abbrev pub invariant-loop-word : goal.invariant-loop-word
invariant-loop-word l = record {
  so_far : l.paths.items ≡ map path_of_text (map (λ w. w.now) (take l.word-index l.words));
  bad : HasBadWord (map (λ w. w.now) (drop l.word-index l.words)) → HasBadWord (map (λ w. w.now) l.words);
}
