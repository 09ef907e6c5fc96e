-- Sessions on a tree of their own, without locks. (`IsTextRun` is cited by public contracts, the rest supports it.) own
use Rattle.std.specs.Prelude.{◌≡◌, ◌⊎◌, ◌<◌, ◌≤◌, ℕ, ◌+◌, Bool, List, length, Option, refl}
use Rattle.std.proofs.Common.{◌∙◌}
use Rattle.ll_rights.specs.declared.errno.Errno.{Errno}
use Rattle.ll_rights.specs.declared.errno.Errno.TheVariants.{HistoryFull, NoMemory}
use Rattle.ll_seq.specs.declared.reply.Entry.{Entry}
use Rattle.ll_seq.specs.Stages.{numbers_from}
use Rattle.ll_session.specs.Counts.{StaysAs}
use Rattle.ll_session.specs.PartySession.{Session}
use Rattle.ll_session.specs.Run.{RunsAs}
use Rattle.ll_embed.specs.declared.own_tree.OwnTree.{OwnTree}
use Rattle.ll_session.specs.declared.score.Score.{Score}
use Rattle.ll_session.specs.declared.setup.Setup.{Setup}
use Rattle.ll_session.specs.declared.stop.Stop.{Stop}

-- a run of this script writes this text, ends so, and leaves these entries
abbrev pub IsTextRun : (strict : Bool) → Setup → (script text : List ℕ) → Option Stop → List Entry → Type 0
IsTextRun strict setup script text stop entries =
    (remaining : Option (List ℕ)) × RunsAs strict setup script remaining text stop entries

-- ---- parts, which no public contract cites

-- the session that has this tree
abbrev pub own : OwnTree → Session
own t = record {
  tree = t.plain;
  clients = numbers_from (t.before + 1) t.clients;
  entries = t.history.entries;
  limit = t.history.limit;
}

-- how a line is refused that wasn't read for this reason: HistoryFull comes before NoMemory
abbrev pub IsUnreadIn : Session → (errno told : Errno) → Type 0
IsUnreadIn s errno told =
    ((errno ≡ NoMemory) × (s.limit ≤ length s.entries) × (told ≡ HistoryFull))
    ⊎ ((told ≡ errno) × (errno ≡ NoMemory → length s.entries < s.limit))

-- a score stays strict or not over any number of lines
pub stays : (score : Score) → StaysAs score score
stays score = (refl, λ lax. refl)

pub stays_on : (a b c : Score) → StaysAs a b → StaysAs b c → StaysAs a c
stays_on a b c one two = (two.0 ∙ one.0, λ lax. two.1 (one.0 ∙ lax) ∙ one.1 lax)
