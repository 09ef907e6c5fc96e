-- A whole run of a script. own
use Rattle.std.specs.Prelude.{⊤, ◌≡◌, ℕ, Bool, true, false, List, [], ◌++◌, ◌⊎◌, Option, Some, None}
use Rattle.std.specs.Io.KnownBytes.{Appends}
use Rattle.ll_seq.specs.declared.reply.Entry.{Entry}
use Rattle.ll_seq.specs.declared.reply.Reply.{Reply}
use Rattle.ll_seq.specs.State.{start}
use Rattle.ll_seq.specs.History.{IsLegal, state_after}
use Rattle.ll_wire.specs.Devices.{Devices, IsWhole}
use Rattle.ll_wire.specs.Grammar.{reply_line}
use Rattle.ll_wire.specs.Pieces.{pieces}
use Rattle.ll_session.specs.declared.fault.RunFault.{RunFault}
use Rattle.ll_session.specs.declared.fault.RunFault.TheVariants as run
use Rattle.ll_session.specs.declared.refusal.Refusal.{Refusal}
use Rattle.ll_session.specs.declared.setup.Setup.{Setup}
use Rattle.ll_wire.specs.Reached.{Blames}
use Rattle.ll_wire.specs.Transcript.{Transcript}
use Rattle.ll_wire.specs.declared.fault.SessionFault.TheVariants as fault
use Rattle.ll_session.specs.PartySession.{Session}
use Rattle.ll_session.specs.Session.{Tells}
use Rattle.ll_session.specs.FirstClients.{Opens, begun, refused, stopped}
use Rattle.ll_session.specs.Strict.{RunsStrictly, TellsStrictly}
use Rattle.ll_session.specs.declared.stop.Stop.{Stop}
use Rattle.ll_session.specs.declared.stop.Stop.TheVariants.{AtLine, AtOpening}

-- the opening may begin a session
abbrev pub MayBegin : Setup → Type 0
MayBegin setup = (first : Session) × Opens setup (begun first)

-- the opening may be refused with a line that is written
abbrev pub MayRefuse : Setup → Type 0
MayRefuse setup = (refusal : Refusal) × (last : Session) × Opens setup (refused refusal last)

-- The fault may end a run with this setup. Only a session that began reads; memory may run out at any time
abbrev pub MayEnd : Setup → RunFault → Type 0
MayEnd setup (run.Opening refusal) = Opens setup (stopped refusal)
MayEnd setup (run.Session fault.Read) = MayBegin setup
MayEnd setup (run.Session fault.Write) = MayBegin setup ⊎ MayRefuse setup
MayEnd setup (run.Session fault.NoMemory) = ⊤
MayEnd setup (run.Session fault.TooLong) = MayBegin setup

-- A run over these pieces writes their transcript and leaves none; or it writes the refusal and leaves all. It ends
-- with this session
abbrev pub RunsOver : Setup → (done left : List (List ℕ)) → List ℕ → Session → Type 0
RunsOver setup done left text last =
    ((first : Session) × Opens setup (begun first) × (left ≡ []) × Transcript Tells first done text last)
    ⊎ ((refusal : Refusal) × Opens setup (refused refusal last) × (left ≡ done) × (text ≡ reply_line refusal.reply))

-- a whole run leaves these entries
abbrev pub Runs : Setup → (input left text : List ℕ) → List Entry → Type 0
Runs setup input left text entries =
    (last : Session) × RunsOver setup (pieces input) (pieces left) text last × (entries ≡ last.entries)

-- what a run with this setup reads, writes and leaves, strict or not
abbrev pub RunsAs : (strict : Bool) → Setup → (input : List ℕ) → (remaining : Option (List ℕ)) → (text : List ℕ)
    → Option Stop → List Entry → Type 0
RunsAs false setup input remaining text stop entries =
    (left : List ℕ) × (remaining ≡ Some left) × Runs setup input left text entries
RunsAs true setup input remaining text stop entries = RunsStrictly setup input text stop entries

-- how the opening of a run was refused, if it was: that ended a strict run, and is told of another one
abbrev pub refusal_in : Option Stop → Option Refusal → Option Refusal
refusal_in (Some (AtOpening refusal)) told = Some refusal
refusal_in (Some (AtLine line reply)) told = None
refusal_in None told = told

-- The opening of a run was refused like this: the line of that reply is all that it writes, and it leaves these
-- entries. Or a session began
abbrev pub IsOpened : Setup → (old new : Option (List ℕ)) → Option Refusal → List Entry → Type 0
IsOpened setup old new None entries = MayBegin setup
IsOpened setup old new (Some refusal) entries =
    (last : Session) × Opens setup (refused refusal last) × (entries ≡ last.entries)
    × Appends old new (reply_line refusal.reply)

-- a run that a fault ends has written a prefix of what a run over some first pieces writes
abbrev pub Begins : Setup → (input text : List ℕ) → Type 0
Begins setup input text =
    (done left more : List (List ℕ)) × (back : List ℕ) × (last : Session) × (pieces input ≡ done ++ more)
    × RunsOver setup done left (text ++ back) last

-- ---- in terms of what the devices count

-- the fault ends a run with this setup, and names the device that failed in it
abbrev pub EndsBy : Setup → RunFault → (old new : Devices) → Type 0
EndsBy setup (run.Opening refusal) old new = Opens setup (stopped refusal) × IsWhole new
EndsBy setup (run.Session of) old new = Blames of old new

-- a prefix of the lines for some first pieces, in a session that was opened, strict or not
abbrev pub BeginsLines : (strict : Bool) → Setup → (input text : List ℕ) → Type 0
BeginsLines false setup input text =
    (first last : Session) × (done more : List (List ℕ)) × (back : List ℕ) × Opens setup (begun first)
    × (pieces input ≡ done ++ more) × Transcript Tells first done (text ++ back) last
BeginsLines true setup input text =
    (first last : Session) × (end : Option Reply) × (done more : List (List ℕ)) × (back : List ℕ)
    × Opens setup (begun first) × (pieces input ≡ done ++ more)
    × Transcript TellsStrictly (first, None) done (text ++ back) (last, end)

-- a prefix of the line of a refused opening
abbrev pub BeginsRefusal : Setup → List ℕ → Type 0
BeginsRefusal setup text =
    (refusal : Refusal) × (last : Session) × (back : List ℕ) × Opens setup (refused refusal last)
    × (reply_line refusal.reply ≡ text ++ back)

-- What a run has written that this fault ends. Only a failed write cuts a refusal's line short: nothing is read then
abbrev pub BeginsBy : (strict : Bool) → Setup → RunFault → (input text : List ℕ) → Type 0
BeginsBy strict setup (run.Opening refusal) input text = text ≡ []
BeginsBy strict setup (run.Session fault.Read) input text = BeginsLines strict setup input text
BeginsBy strict setup (run.Session fault.Write) input text =
    BeginsLines strict setup input text ⊎ BeginsRefusal setup text
BeginsBy strict setup (run.Session fault.NoMemory) input text = (text ≡ []) ⊎ BeginsLines strict setup input text
BeginsBy strict setup (run.Session fault.TooLong) input text = BeginsLines strict setup input text

-- the entries of a run, line after line, are a legal history of its tree, and lead to the tree at that point
abbrev pub RunsLegally : Type 0
RunsLegally =
    (setup : Setup) (done left : List (List ℕ)) (text : List ℕ) (last : Session) → RunsOver setup done left text last →
    let empty = start setup.rules setup.nodes in
    IsLegal empty last.entries × (last.tree ≡ state_after empty last.entries)
