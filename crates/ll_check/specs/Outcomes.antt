-- What the outcome of a step must be, and how that is spelled. own
use Rattle.std.specs.Prelude.{⊤, ◌≡◌, ℕ, Bool, true, false, List, ◌++◌, Option, Some, None, codes, decimal, slice_get}
use Rattle.std.specs.Prelude.{option_map}
use Rattle.std.specs.Option.{option_map_or}
use Rattle.ll_seq.specs.declared.reply.Entry.{Entry}
use Rattle.ll_seq.specs.declared.reply.Reply.{Reply}
use Rattle.ll_seq.specs.declared.reply.Reply.TheVariants as reply
use Rattle.ll_steps.specs.declared.report.Report.{Report}
use Rattle.ll_steps.specs.declared.report.Report.TheVariants as report
use Rattle.ll_wire.specs.Grammar.{IsU64}
use Rattle.ll_check.specs.declared.outcomes.WantedOutcome.{WantedOutcome}
use Rattle.ll_check.specs.declared.outcomes.WantedOutcome.TheVariants.{Made, NotNow, Begun, Stands, Forked, Restarted}
use Rattle.ll_check.specs.declared.outcomes.WantedOutcome.TheVariants.{Joined, Reply as Replies}
use Rattle.ll_check.specs.declared.wanted.Wanted.{Wanted}
use Rattle.ll_check.specs.Wanted.{Satisfies, is_success, wanted_told}

-- ---- what is met

-- the reply that the outcome tells: that of its entry, or a refusal without one
abbrev pub reply_in : (history : List Entry) → Report → Option Reply
reply_in history (report.Replied k) = option_map (λ (entry : Entry). entry.reply) (slice_get history k)
reply_in history (report.Refused errno) = Some (reply.Refused errno)
reply_in history other = None

-- the step was made, and its reply, if it has one, is neither a refusal nor a denial
abbrev pub is_made : (history : List Entry) → Report → Bool
is_made history report.NotNow = false
is_made history (report.Replied k) =
    option_map_or (λ (entry : Entry). is_success entry.reply) (slice_get history k) false
is_made history (report.Refused errno) = false
is_made history other = true

-- the outcome tells a reply as expected
abbrev pub MeetsReply : (history : List Entry) → Wanted → Report → Type 0
MeetsReply history wanted got = (told : Reply) × (reply_in history got ≡ Some told) × Satisfies wanted told

-- the outcome is as expected, in the history after the step
abbrev pub Meets : (history : List Entry) → WantedOutcome → Report → Type 0
Meets history Made got = is_made history got ≡ true
Meets history NotNow got = got ≡ report.NotNow
Meets history Begun got = got ≡ report.Begun
Meets history (Stands inode) got = got ≡ report.Stands inode
Meets history Forked got = got ≡ report.Forked
Meets history Restarted got = got ≡ report.Restarted
Meets history (Joined number) got = got ≡ report.Joined number
Meets history (Replies wanted) got = MeetsReply history wanted got

-- ---- how it is spelled

-- when an expected outcome has a spelling behind a step, and its text. Without one, the step is expected to be made
abbrev pub outcome_told : WantedOutcome → Type 0 × List ℕ
outcome_told Made = (⊥, codes "a step that is made")
outcome_told NotNow = (⊤, codes "NotNow")
outcome_told Begun = (⊤, codes "begun")
outcome_told (Stands inode) = (IsU64 inode, codes "at " ++ decimal inode)
outcome_told Forked = (⊤, codes "forked")
outcome_told Restarted = (⊤, codes "restarted")
outcome_told (Joined number) = (IsU64 number, codes "client " ++ decimal number)
outcome_told (Replies wanted) = ((wanted_told wanted).0, codes "reply " ++ (wanted_told wanted).1)

abbrev pub outcome_text : WantedOutcome → List ℕ
outcome_text wanted = (outcome_told wanted).1

abbrev pub SpellsOutcome : List ℕ → WantedOutcome → Type 0
SpellsOutcome text wanted = (outcome_told wanted).0 × (text ≡ outcome_text wanted)

-- ---- parts, which no public contract cites

abbrev pub is_word : WantedOutcome → Bool
is_word NotNow = true
is_word Begun = true
is_word Forked = true
is_word Restarted = true
is_word other = false

abbrev pub is_numbered : WantedOutcome → Bool
is_numbered (Stands inode) = true
is_numbered (Joined number) = true
is_numbered other = false

abbrev pub is_replied : WantedOutcome → Bool
is_replied (Replies wanted) = true
is_replied other = false

abbrev pub SpellsWord : List ℕ → WantedOutcome → Type 0
SpellsWord text wanted = SpellsOutcome text wanted × (is_word wanted ≡ true)

abbrev pub SpellsNumbered : List ℕ → WantedOutcome → Type 0
SpellsNumbered text wanted = SpellsOutcome text wanted × (is_numbered wanted ≡ true)

abbrev pub SpellsReplied : List ℕ → WantedOutcome → Type 0
SpellsReplied text wanted = SpellsOutcome text wanted × (is_replied wanted ≡ true)
