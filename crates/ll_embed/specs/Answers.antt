-- What the exported functions answer. own
use Rattle.std.specs.Prelude.{◌≡◌, ◌⊎◌, ◌≤◌, ℕ, Bool, false, not, ◌==◌, List, [], ◌∷◌, Option, Some, None}
use Rattle.std.specs.Prelude.{◌+◌, bytes_eq, length, min, option_map, slice_get, string_bytes, true, if◌then◌else◌}
use Rattle.std.specs.declared.alloc.Global.{Global}
use Rattle.std.specs.declared.string.String.{String}
use Rattle.std.specs.Map.{lookup}
use Rattle.std.specs.Str.{IsUtf8}
use Rattle.toml.specs.Parse.{parse_document}
use Rattle.ll_rights.specs.declared.limits.TheConstants.{HISTORY_ENTRIES, TREE_NODES}
use Rattle.ll_seq.specs.declared.call.Call.{Call}
use Rattle.ll_seq.specs.declared.reply.Entry.{Entry}
use Rattle.ll_wire.specs.Devices.{line_feeds}
use Rattle.ll_wire.specs.Pieces.{pieces}
use Rattle.ll_wire.specs.Transcript.{most_reads}
use Rattle.ll_audit.specs.Saved.{Judges, saved_text, verdict_line}
use Rattle.ll_audit.specs.declared.verdict.Verdict.{Verdict}
use Rattle.ll_audit.specs.declared.verdict.Verdict.TheVariants as verdict
use Rattle.ll_why.specs.Entries.{IsHistoryWhy}
use Rattle.ll_why.specs.declared.history.HistoryWhy.TheVariants as why
use Rattle.ll_why.specs.declared.style.WhyStyle.TheVariants.{Lines}
use Rattle.ll_policy.specs.Faults.{document_faults}
use Rattle.ll_policy.specs.Plan.{Plan, IsPlanOf}
use Rattle.ll_policy.specs.declared.fault.PolicyFault.{PolicyFault}
use Rattle.ll_policy.specs.declared.fault.PolicyFault.TheVariants.{NotToml}
use Rattle.ll_program.specs.Policy.{header_of}
use Rattle.ll_program.specs.declared.failure.Failure.{Failure}
use Rattle.ll_program.specs.declared.failure.Failure.TheVariants as failures
use Rattle.ll_session.specs.Run.{MayEnd}
use Rattle.ll_session.specs.declared.fault.RunFault.{RunFault}
use Rattle.ll_session.specs.declared.fault.RunFault.TheVariants as run
use Rattle.ll_session.specs.declared.refusal.Refusal.{Refusal}
use Rattle.ll_wire.specs.declared.fault.SessionFault.TheVariants as session
use Rattle.ll_session.specs.declared.setup.Setup.{Setup}
use Rattle.ll_session.specs.declared.stop.Stop.{Stop}
use Rattle.ll_embed.specs.Alone.{IsTextRun}
use Rattle.ll_embed.specs.declared.fault.Fault.{Fault}
use Rattle.ll_embed.specs.declared.fault.Fault.TheVariants.{Misfit, NoEntry, NoMemory, NoProfile, Opening, Policy}
use Rattle.ll_embed.specs.declared.fault.Fault.TheVariants.{OwnPolicy, TooLong}
use Rattle.ll_embed.specs.declared.given.Given.{Given}

-- ---- how a tree is set up

-- the numbers and texts that set a tree up, and the script that is run in it
pub record Order : Type 0 where
  pub level : ℕ
  pub nodes : ℕ
  pub history : ℕ
  pub policy : List ℕ
  pub profile : List ℕ
  pub script : List ℕ

abbrev pub order_in : Given → Order
order_in g = record {
  level = g.level;
  nodes = g.nodes;
  history = g.history;
  policy = g.policy.now;
  profile = g.profile.now;
  script = g.script.now;
}

-- the level 0 stands for the newest one
abbrev pub level_by : ℕ → ℕ
level_by level = if level == 0 then 3 else level

-- room in the history. The limit 0 stands for enough: for these calls, each line of the script, and two connects
abbrev pub limit_by : Order → (loader profile : ℕ) → ℕ
limit_by o loader profile =
    if o.history == 0 then min (loader + profile + line_feeds o.script + 3) HISTORY_ENTRIES else o.history

-- the calls of the profile; none without a name
abbrev pub profile_of : (name : List ℕ) → Plan → Option (List Call)
profile_of [] plan = Some []
profile_of (b ∷ name) plan = lookup (bytes_eq (b ∷ name)) plan.profiles

-- the setup without a policy
pub record IsBare (o : Order) (setup : Setup) : Type 0 where
  pub rules : setup.rules ≡ record { abi = level_by o.level; copies = true }
  pub nodes_of : setup.nodes ≡ o.nodes
  pub history_of : setup.history ≡ limit_by o 0 0
  pub loader : setup.loader ≡ None
  pub profile : setup.profile.items ≡ []

-- the setup by a policy with this plan
pub record IsByPlan (o : Order) (plan : Plan) (setup : Setup) : Type 0 where
  pub rules : setup.rules ≡ record { abi = plan.abi; copies = true }
  pub nodes_of : setup.nodes ≡ o.nodes
  pub history_of : setup.history ≡ limit_by o (length plan.opening) (length setup.profile.items)
  pub loader : option_map (λ calls. calls.items) setup.loader ≡ Some plan.opening
  pub profile : Some setup.profile.items ≡ profile_of o.profile plan

-- the text is a policy, with this plan
abbrev pub IsPolicy : (policy : List ℕ) → Plan → Type 0
IsPolicy policy plan =
    IsUtf8 policy × (document_faults (parse_document policy) ≡ []) × IsPlanOf (parse_document policy) plan

-- the setup by the policy's text, and without one if that is empty
abbrev pub IsSetBy : (policy : List ℕ) → Order → Setup → Type 0
IsSetBy [] o setup = IsBare o setup
IsSetBy (b ∷ policy) o setup = (plan : Plan) × IsPolicy (b ∷ policy) plan × IsByPlan o plan setup

-- a profile is given only with a policy, and a level only without
abbrev pub GoTogether : (policy : List ℕ) → Order → Type 0
GoTogether [] o = o.profile ≡ []
GoTogether (b ∷ policy) o = o.level ≡ 0

-- the numbers and texts may set a tree up
pub record Fits (o : Order) : Type 0 where
  pub level : o.level ≤ 3
  pub some : 1 ≤ o.nodes
  pub most : o.nodes ≤ TREE_NODES
  pub most_entries : o.history ≤ HISTORY_ENTRIES
  pub together : GoTogether o.policy o

-- the numbers and texts may set a tree up, and set this one up
abbrev pub IsSetup : Order → Setup → Type 0
IsSetup o setup = Fits o × IsSetBy o.policy o setup

-- ---- why there is no answer

-- the text's first fault as a policy
abbrev pub IsFaultOf : (policy : List ℕ) → PolicyFault → Type 0
IsFaultOf policy fault =
    ((IsUtf8 policy → ⊥) × (fault ≡ NotToml))
    ⊎ (IsUtf8 policy × (slice_get (document_faults (parse_document policy)) 0 ≡ Some fault))

-- the policy doesn't have the profile
abbrev pub HasNoProfile : Order → Type 0
HasNoProfile o =
    (IsUtf8 o.profile → ⊥)
    ⊎ ((plan : Plan) × IsPlanOf (parse_document o.policy) plan × (profile_of o.profile plan ≡ None))

abbrev pub status_of : Fault → ℕ
status_of Misfit = 2
status_of (Policy fault) = 2
status_of NoProfile = 2
status_of Opening = 2
status_of NoEntry = 2
status_of OwnPolicy = 2
status_of TooLong = 1
status_of NoMemory = 4

-- what a fault of a run is here. A text of memory can't be read or written only if memory runs out
abbrev pub fault_in : RunFault → Fault
fault_in (run.Opening refusal) = Opening
fault_in (run.Session session.TooLong) = TooLong
fault_in (run.Session fault) = NoMemory

-- what the program's failure is here. Texts of memory can't be read or written only if memory runs out
abbrev pub fault_at : Failure → Fault
fault_at failures.CommandLine = NoProfile
fault_at (failures.Policy fault) = Policy fault
fault_at (failures.Opening refusal) = Opening
fault_at failures.File = NoMemory
fault_at failures.Output = NoMemory
fault_at failures.Socket = NoMemory
fault_at failures.NoMemory = NoMemory

-- Why no tree is set up so, or nothing is run in it. A script is too long if it has a billion bytes. Numbers and texts
-- that don't go together are told, whatever memory there is
abbrev pub MayFail : Order → Fault → Type 0
MayFail o Misfit = Fits o → ⊥
MayFail o (Policy fault) = (o.policy ≡ [] → ⊥) × IsFaultOf o.policy fault
MayFail o NoProfile = HasNoProfile o
MayFail o Opening =
    (setup : Setup) × (refusal : Refusal) × IsSetup o setup × MayEnd setup (run.Opening refusal)
MayFail o NoEntry = ⊥
MayFail o OwnPolicy = ⊥
MayFail o TooLong = most_reads ≤ length o.script
MayFail o NoMemory = Fits o

-- ---- answers: a status and a text. A failure's text is for people

-- a number that stands for a truth
abbrev pub is_set : ℕ → Bool
is_set n = not (n == 0)

-- a run, stopped by a strict one's last reply or not
abbrev pub stopped_status : Option Stop → ℕ
stopped_status None = 0
stopped_status (Some stop) = 3

-- the script's transcript
abbrev pub IsRunTold : Order → (strict : Bool) → (status : ℕ) → (text : List ℕ) → Type 0
IsRunTold o strict status text =
    (setup : Setup) × (stop : Option Stop) × (entries : List Entry) × IsSetup o setup
    × IsTextRun strict setup o.script text stop entries × (strict ≡ false → stop ≡ None)
    × (status ≡ stopped_status stop)

abbrev pub RunAnswers : Order → (strict : Bool) → (status : ℕ) → (text : List ℕ) → Type 0
RunAnswers o strict status text =
    IsRunTold o strict status text ⊎ ((fault : Fault) × MayFail o fault × (status ≡ status_of fault))

-- the saved history of a run of the script
abbrev pub IsHistoryTold : Order → (status : ℕ) → (text : List ℕ) → Type 0
IsHistoryTold o status text =
    (setup : Setup) × (replies : List ℕ) × (stop : Option Stop) × (entries : List Entry) × IsSetup o setup
    × IsTextRun false setup o.script replies stop entries × (text ≡ saved_text (header_of setup) entries)
    × (status ≡ 0)

abbrev pub HistoryAnswers : Order → (status : ℕ) → (text : List ℕ) → Type 0
HistoryAnswers o status text =
    IsHistoryTold o status text ⊎ ((fault : Fault) × MayFail o fault × (status ≡ status_of fault))

-- the verdict on a history
abbrev pub verdict_status : Verdict → ℕ
verdict_status (verdict.Legal entries) = 0
verdict_status (verdict.Illegal entry) = 3
verdict_status (verdict.BadLine line) = 3

abbrev pub AuditAnswers : (history : List ℕ) → (status : ℕ) → (text : List ℕ) → Type 0
AuditAnswers history status text =
    ((verdict : Verdict) × Judges (pieces history) verdict × (text ≡ verdict_line verdict)
    × (status ≡ verdict_status verdict))
    ⊎ (status ≡ status_of NoMemory)

-- why an entry of a history was answered so, or the history's first bad line
abbrev pub IsEntryTold : (history : List ℕ) (number : ℕ) → (status : ℕ) → (text : List ℕ) → Type 0
IsEntryTold history number status text =
    ((told : String Global) × IsHistoryWhy Lines (pieces history) number (why.Told told) × (text ≡ string_bytes told)
    × (status ≡ 0))
    ⊎ ((line : ℕ) × IsHistoryWhy Lines (pieces history) number (why.BadLine line)
    × (text ≡ verdict_line (verdict.BadLine line)) × (status ≡ 3))

abbrev pub EntryAnswers : (history : List ℕ) (number : ℕ) → (status : ℕ) → (text : List ℕ) → Type 0
EntryAnswers history number status text =
    IsEntryTold history number status text
    ⊎ (IsHistoryWhy Lines (pieces history) number why.NoEntry × (status ≡ status_of NoEntry))
    ⊎ (status ≡ status_of NoMemory)

-- whether a policy is right: without a text if it is
abbrev pub PolicyAnswers : (policy : List ℕ) → (status : ℕ) → (text : List ℕ) → Type 0
PolicyAnswers policy status text =
    ((plan : Plan) × IsPolicy policy plan × (status ≡ 0) × (text ≡ []))
    ⊎ ((fault : PolicyFault) × IsFaultOf policy fault × (status ≡ status_of (Policy fault)))
    ⊎ (status ≡ status_of NoMemory)
