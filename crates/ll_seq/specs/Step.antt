-- One call: the first stage that refuses gives the reply, and then the state stays. own
use Rattle.std.specs.Prelude.{◌≡◌, ℕ, ◌≤◌, ⊤, ◌⊎◌, List, [], ◌∷◌, ◌++◌, map, unwrap_or}
use Rattle.ll_rights.specs.declared.errno.Errno.TheVariants.{NoMemory}
use Rattle.ll_rights.specs.Errno.{errno_number}
use Rattle.ll_rights.specs.Map.{get}
use Rattle.ll_seq.specs.declared.client.ClientRecord.{ClientRecord}
use Rattle.ll_seq.specs.declared.call.Call.{Call}
use Rattle.ll_seq.specs.declared.reply.Reply.{Reply}
use Rattle.ll_seq.specs.declared.reply.Reply.TheVariants.{Bytes, Listed, Refused, Denied}
use Rattle.ll_seq.specs.Call.{first_path, second_path}
use Rattle.ll_seq.specs.Listed.{IsData, AreListed}
use Rattle.ll_seq.specs.State.{State, new_client}
use Rattle.ll_seq.specs.Asked.{call_denials}
use Rattle.ll_seq.specs.Stages.{text_refusals, number_refusals, relation_refusals, walk_refusals, stages}
use Rattle.ll_seq.specs.Effects.{effect}

-- all refusals, in the order of the stages
abbrev pub refusals : State → ClientRecord → Call → List Reply
refusals s c call =
    let at = first_path call in
    let new = second_path call in
    map Refused (text_refusals call)
    ++ map Refused (number_refusals c call)
    ++ map Refused (relation_refusals call at new)
    ++ map Refused (walk_refusals s call)
    ++ map Refused (stages s new_client at new call).existence
    ++ map Denied (call_denials s c call)
    ++ map Refused (stages s c at new call).kinds
    ++ map Refused (stages s c at new call).limits

abbrev pub client_of : State → ℕ → ClientRecord
client_of s number = unwrap_or (get s.clients number) new_client

abbrev pub first_or : State → List Reply → Reply × State → Reply × State
first_or s [] outcome = outcome
first_or s (reply ∷ replies) outcome = (reply, s)

-- fresh: a spawned client's number
abbrev pub step : State → ℕ → Call → ℕ → Reply × State
step s number call fresh = first_or s (refusals s (client_of s number) call)
    (effect s number (client_of s number) (first_path call) (second_path call) fresh call)

-- The replies of a step. It refuses with EACCES and EXDEV only as denials, and never with HistoryFull, BadLine or Stale
abbrev pub IsAnswer : Reply → Type 0
IsAnswer (Bytes bytes) = IsData bytes
IsAnswer (Listed names) = AreListed names
IsAnswer (Refused errno) = ((3 ≤ errno_number errno) × (errno_number errno ≤ 20)) ⊎ (errno ≡ NoMemory)
IsAnswer _ = ⊤
