-- How far a run is. (Support of the functions below `run_script`: of public contracts only that of `write_reply` cites
-- this file.)
use Rattle.std.specs.Prelude.{◌≡◌, ◌≢◌, ◌⊎◌, ◌<◌, ◌≤◌, ℕ, Bool, List, [], drop, Option, refl}
use Rattle.std.proofs.Common.{◌∙◌}
use Rattle.std.specs.Io.KnownBytes.{Appends}
use Rattle.ll_rights.specs.declared.errno.Errno.{Errno}
use Rattle.ll_rights.specs.declared.errno.Errno.TheVariants as errnos
use Rattle.ll_seq.specs.declared.reply.Entry.{Entry}
use Rattle.ll_seq.specs.declared.rules.Rules.{Rules}
use Rattle.ll_client.specs.Closed.{IsClosed}
use Rattle.ll_client.specs.Entries.{Knows}
use Rattle.ll_wire.specs.Devices.{Devices}
use Rattle.ll_wire.specs.Reached.{StartsAll}
use Rattle.ll_wire.specs.declared.fault.SessionFault.{SessionFault}
use Rattle.ll_wire.specs.declared.fault.SessionFault.TheVariants as fault
use Rattle.ll_wire.specs.WriterGains.{AppendsFront}
use Rattle.ll_session.specs.Between.{Leads}
use Rattle.ll_session.specs.PartySession.{Session}
use Rattle.ll_session.specs.Talk.{Goes, Looks, goes_on, nowhere, seen_by}
use Rattle.ll_session.specs.Counts.{StaysAs, first_score}
use Rattle.ll_session.specs.Session.{Answers}
use Rattle.ll_session.specs.Strict.{Scores, ScoresTo}
use Rattle.ll_session.specs.declared.score.Score.{Score}

-- ---- lines

-- the session without the first `before` clients, which don't belong to it
abbrev pub without : ℕ → Session → Session
without before s = record s { clients = drop before s.clients }

-- The reply to a line that wasn't read for this reason: HistoryFull comes before NoMemory
abbrev pub IsUnread : (limit : ℕ) → List Knows → (errno told : Errno) → List Knows → Type 0
IsUnread limit ks errno told ks' =
    ((errno ≡ errnos.NoMemory) × Looks ks ks' × (limit ≤ seen_by ks') × (told ≡ errnos.HistoryFull))
    ⊎ ((errno ≡ errnos.NoMemory) × Looks ks ks' × (seen_by ks' < limit) × (told ≡ errnos.NoMemory))
    ⊎ ((errno ≢ errnos.NoMemory) × (ks' ≡ ks) × (told ≡ errno))

-- as many clients as before came before the session, and all of them have made calls
abbrev pub StandsOn : (limit before : ℕ) → List Knows → ℕ → List Knows → Type 0
StandsOn limit before ks before' ks' = Goes limit ks ks' × (before' ≡ before)

pub stands : (limit before : ℕ) (ks : List Knows) → StandsOn limit before ks before ks
stands limit before ks = (nowhere, refl)

pub stands_on : (limit i j k : ℕ) (is js ks : List Knows) → StandsOn limit i is j js → StandsOn limit j js k ks
    → StandsOn limit i is k ks
stands_on limit i j k is js ks one two = (goes_on limit is js ks one.0 two.0, two.1 ∙ one.1)

-- so has a session with this score, which stays strict or not
abbrev pub ScoreStandsOn : (limit before : ℕ) → List Knows → Score → ℕ → List Knows → Score → Type 0
ScoreStandsOn limit before ks score before' ks' score' =
    StandsOn limit before ks before' ks' × StaysAs score score'

pub score_stands : (limit before : ℕ) (ks : List Knows) (score : Score)
    → ScoreStandsOn limit before ks score before ks score
score_stands limit before ks score = (stands limit before ks, (refl, λ lax. refl))

pub score_stands_on : (limit i j k : ℕ) (is js ks : List Knows) (a b c : Score) → ScoreStandsOn limit i is a j js b
    → ScoreStandsOn limit j js b k ks c → ScoreStandsOn limit i is a k ks c
score_stands_on limit i j k is js ks a b c one two = (
  stands_on limit i j k is js ks one.0 two.0,
  (two.1.0 ∙ one.1.0, λ lax. two.1.1 (one.1.0 ∙ lax) ∙ one.1.1 lax),
)

-- the tree was closed with these entries, and its clients then were these, later
abbrev pub Closes : Rules → (room limit : ℕ) → List Knows → List Entry → (Session → Session → Type 0) → Type 0
Closes rules room limit ks entries Holds =
    (end : List Knows) × IsClosed rules room limit entries end × Leads rules room limit ks end Holds

-- the session's lines are answered up to its end, and it ends with the entries of t
abbrev pub RunsTo : ℕ → (strict : Bool) → Score → (old new : Devices) → (s t : Session) → Type 0
RunsTo before strict score old new s t =
    (last : Session) × ScoresTo Answers (without before s, first_score strict) (last, score) old new
    × (t.entries ≡ last.entries)

-- some first lines of it are answered
abbrev pub StopsAt : ℕ → (strict : Bool) → (old new : Devices) → (s t : Session) → Type 0
StopsAt before strict old new s t =
    (last : Session) × (score : Score)
    × StartsAll (Scores Answers) (without before s, first_score strict) (last, score) old new

-- What is written of a refusal's line after this fault: a prefix if the write failed, and nothing if memory ran out
abbrev pub IsOfRefusal : SessionFault → (old new : Option (List ℕ)) → List ℕ → Type 0
IsOfRefusal fault.Read old new line = ⊥
IsOfRefusal fault.Write old new line = AppendsFront old new line
IsOfRefusal fault.NoMemory old new line = Appends old new []
IsOfRefusal fault.TooLong old new line = ⊥
