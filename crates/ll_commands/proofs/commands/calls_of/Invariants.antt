use Rattle.std.proofs.Common.{List, ◌++◌, map, drop}
use Rattle.std.specs.List.{AllZip}
use Rattle.ll_seq.specs.declared.call.Call.{Call}
use Rattle.ll_why.specs.CallWhy.{IsCommand}
use Rattle.ll_commands.specs.Why.{HasNoCommand}
use Rattle.ll_commands.proofs.commands.calls_of.Given as goal

-- what holds of the words that are left does of all
abbrev pub invariant-loop-word : goal.invariant-loop-word
invariant-loop-word l = record {
  spell : (rest : List Call) → AllZip IsCommand (map (λ w. w.now) (drop l.word-index l.words)) rest
      → AllZip IsCommand (map (λ w. w.now) l.words) (l.calls.items ++ rest);
  bad : HasNoCommand (map (λ w. w.now) (drop l.word-index l.words))
      → HasNoCommand (map (λ w. w.now) l.words);
}
