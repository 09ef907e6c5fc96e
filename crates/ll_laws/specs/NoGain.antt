-- No layer reaches more of an inode than before, if every move is made by clients under the layer. own
use Rattle.std.specs.Prelude.{◌≡◌, ℕ, Bool, List, [], ◌∷◌, ◌++◌, length, nat_lt, IsTrue, ⊤, Contains}
use Rattle.ll_rules.specs.Layer.{Layer}
use Rattle.ll_seq.specs.declared.call.Call.{Call}
use Rattle.ll_seq.specs.Call.{targets}
use Rattle.ll_seq.specs.declared.reply.Reply.TheVariants.{Done}
use Rattle.ll_seq.specs.declared.reply.Entry.{Entry}
use Rattle.ll_seq.specs.declared.rules.Rules.{Rules}
use Rattle.ll_seq.specs.State.{State, start}
use Rattle.ll_seq.specs.Step.{client_of}
use Rattle.ll_seq.specs.History.{IsLegal, state_after, after}
use Rattle.ll_seq.specs.Reach.{InReach, HasName}

-- rename, rename_noreplace, exchange and link, the calls with two paths: an existing node gets a name
abbrev pub is_move : Call → Bool
is_move call = nat_lt 1 (length (targets call))

-- each successful move is made while the layer is in its client's domain
abbrev pub MovesUnder : Layer → State → List Entry → Type 0
MovesUnder layer s [] = ⊤
MovesUnder layer s (e ∷ es) =
    (IsTrue (is_move e.call) → e.reply ≡ Done → Contains (client_of s e.client).domain layer)
    × MovesUnder layer (after s e) es

-- If each move after the cut is made under the layer, the layer reaches nothing new at the end. This holds for every
-- inode that has a name at the cut
abbrev pub GainsNothing : Rules → ℕ → List Entry → List Entry → Type 0
GainsNothing rules room early late =
    let cut = state_after (start rules room) early in
    let end = state_after (start rules room) (early ++ late) in
    (layer : Layer) → MovesUnder layer cut late →
    (inode : ℕ) → HasName cut inode →
    (right : ℕ) → InReach end layer inode right → InReach cut layer inode right

-- for each legal history, wherever it is cut in two
abbrev pub AtEachCut : (Rules → ℕ → List Entry → List Entry → Type 0) → Type 0
AtEachCut Holds = (rules : Rules) (room : ℕ) (early late : List Entry) → IsLegal (start rules room) (early ++ late) →
    Holds rules room early late

abbrev pub NoGain : Type 0
NoGain = AtEachCut GainsNothing
