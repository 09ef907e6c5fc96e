-- How many steps a walk may still make before its answer, if nobody else makes any. No public contract cites it. own
use Rattle.std.specs.Prelude.{ℕ, ◌+◌, ◌-◌, ◌*◌, ◌<◌, length, Option, Some, None}
use Rattle.std.specs.Option.{option_map_or}
use Rattle.ll_rights.specs.Map.{get}
use Rattle.ll_path.specs.Path.{parent}
use Rattle.ll_seq.specs.declared.call.Call.{Call}
use Rattle.ll_seq.specs.Call.{first_path, second_path}
use Rattle.ll_laws.specs.Walk.{Walk, Position, Above, Down, Split, trunk_path}
use Rattle.ll_laws.specs.World.{World}
use Rattle.ll_laws.specs.declared.step.Step.TheVariants.{Commit}
use Rattle.ll_steps.specs.CallOutcomes.{GoesOn, Leads, Waits}
use Rattle.ll_steps.specs.declared.report.Report.{Report}

-- the most steps past the fork, including the fork
abbrev pub most_past : Call → ℕ
most_past call = length (parent (first_path call)) + length (parent (second_path call)) + 1

-- the most steps in one start
abbrev pub most_steps : Call → ℕ
most_steps call = length (trunk_path call) + most_past call + 1

abbrev pub way_left : Call → Position → ℕ
way_left call Above = most_steps call
way_left call (Down trunk) = length trunk.ahead + most_past call
way_left call (Split trunk old new) = length old.ahead + length new.ahead

abbrev pub walk_left : Walk → ℕ
walk_left walk = (4 - walk.starts) * (most_steps walk.call + 1) + way_left walk.call walk.at

abbrev pub steps_left : World → ℕ → ℕ
steps_left w client = option_map_or walk_left (get w.walks client) 0

-- One step of a walk that is led: it goes on, and is nearer to its answer; or it is led no further, with this outcome
-- of its call
abbrev pub StepsOn : World → ℕ → Option Report → World → Type 0
StepsOn w client None v =
    Waits w (Commit client) × GoesOn w client v × (steps_left v client < steps_left w client)
StepsOn w client (Some outcome) v = Leads client w outcome v
