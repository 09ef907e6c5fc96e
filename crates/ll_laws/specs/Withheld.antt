-- Which bytes clients under a layer may read and change, of files that none of them has open. own
use Rattle.std.specs.Prelude.{◌≡◌, ◌≢◌, ◌⊎◌, ℕ, true, List, [], ◌∷◌, ◌++◌, Some, ⊤, Contains}
use Rattle.ll_rights.specs.Map.{get, has}
use Rattle.ll_rights.specs.Right as right
use Rattle.ll_rules.specs.Layer.{Layer}
use Rattle.ll_seq.specs.declared.call.Call.TheVariants.{Read}
use Rattle.ll_seq.specs.declared.client.Descriptor.{Descriptor}
use Rattle.ll_seq.specs.declared.node.Node.{Node}
use Rattle.ll_seq.specs.declared.reply.Reply.TheVariants.{Bytes, Spawned}
use Rattle.ll_seq.specs.declared.reply.Entry.{Entry}
use Rattle.ll_seq.specs.declared.rules.Rules.{Rules}
use Rattle.ll_seq.specs.State.{State, start}
use Rattle.ll_seq.specs.Effects.{inode_at}
use Rattle.ll_seq.specs.Step.{client_of}
use Rattle.ll_seq.specs.History.{state_after, after}
use Rattle.ll_seq.specs.Reach.{InReach, HasName}
use Rattle.ll_laws.specs.NoGain.{MovesUnder, AtEachCut}

-- an entry that reads from the inode; only read is answered with bytes
pub record ReadsFrom (s : State) (e : Entry) (inode : ℕ) : Type 0 where
  pub fd : ℕ
  pub offset : ℕ
  pub count : ℕ
  pub bytes : List ℕ
  pub call : e.call ≡ Read fd offset count
  pub answered : e.reply ≡ Bytes bytes
  pub from : inode_at (client_of s e.client) fd ≡ inode

pub record ChangesBytes (s t : State) (inode : ℕ) : Type 0 where
  pub old : Node
  pub new : Node
  pub before : get s.nodes inode ≡ Some old
  pub after : get t.nodes inode ≡ Some new
  pub differ : old.bytes ≢ new.bytes

pub record IsConfined (layer : Layer) (s : State) (client : ℕ) : Type 0 where
  pub there : has s.clients client ≡ true
  pub under : Contains (client_of s client).domain layer

-- the clients that were confined, and one that any of them spawned by this entry
abbrev pub Confined : (ℕ → Type 0) → Entry → ℕ → Type 0
Confined Was e client = Was client ⊎ (Was e.client × (e.reply ≡ Spawned client))

-- No confined client reads from the inode unless read_file was in reach at the cut. None changes its bytes unless
-- write_file or truncate was
abbrev pub Withheld : Layer → ℕ → State → (ℕ → Type 0) → State → List Entry → Type 0
Withheld layer inode cut Was s [] = ⊤
Withheld layer inode cut Was s (e ∷ es) =
    (Was e.client → ReadsFrom s e inode → InReach cut layer inode right.read_file)
    × (Was e.client → ChangesBytes s (after s e) inode →
    InReach cut layer inode right.write_file ⊎ InReach cut layer inode right.truncate)
    × Withheld layer inode cut (Confined Was e) (after s e) es

-- Take an inode that has a name at the cut and that no client under the layer has open then. If each move after the cut
-- is made under the layer, its bytes are withheld from these clients, and from those that they spawn
abbrev pub Withholds : Rules → ℕ → List Entry → List Entry → Type 0
Withholds rules room early late =
    let cut = state_after (start rules room) early in
    (layer : Layer) → MovesUnder layer cut late →
    (inode : ℕ) → HasName cut inode →
    ((client : ℕ) → IsConfined layer cut client → (fd : ℕ) (d : Descriptor) →
    get (client_of cut client).descriptors fd ≡ Some d → d.inode ≢ inode) →
    Withheld layer inode cut (IsConfined layer cut) cut late

abbrev pub BytesAreWithheld : Type 0
BytesAreWithheld = AtEachCut Withholds
