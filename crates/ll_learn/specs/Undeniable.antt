-- Calls that no layer may deny. own
use Rattle.std.specs.Prelude.{◌≡◌, ℕ, List, [], ◌∷◌, None, Some, drop, length, slice_get, take}
use Rattle.ll_rules.specs.Layer.{Layer}
use Rattle.ll_decide.specs.Verdict.{all_denials}
use Rattle.ll_seq.specs.declared.call.Call.{Call}
use Rattle.ll_seq.specs.declared.reply.Entry.{Entry}
use Rattle.ll_seq.specs.Asked.{grants}
use Rattle.ll_seq.specs.CallParts.{asked, moved}
use Rattle.ll_seq.specs.History.{state_after}
use Rattle.ll_seq.specs.State.{State}
use Rattle.ll_why.specs.Reasons.{kept_number}
use Rattle.ll_learn.specs.declared.undenied.Trial.{Trial}
use Rattle.ll_learn.specs.Bound.{Part, PassesEach}
use Rattle.ll_learn.specs.Learned.{AreCut}

-- in this state, the layer alone denies no right that the call needs
abbrev pub AllowsAlone : State → Call → Layer → Type 0
AllowsAlone s call layer = all_denials (grants s) (layer ∷ []) (asked s call) (moved s call) ≡ []

-- Each layer under which all histories pass allows the call, made after these entries of one of them
pub record IsUndeniable (s : State) (histories : List (List Entry)) (client : ℕ) (trial : Trial) : Type 0 where
  pub early : List Entry
  pub parts : List Part
  pub cut : AreCut s client histories early parts
  pub entries : List Entry
  pub is : slice_get histories trial.history ≡ Some entries
  pub judged : kept_number trial.call.now ≡ None
  pub allowed : (layer : Layer) → PassesEach parts layer → AllowsAlone
      (state_after (state_after s early) (take trial.entries (drop (length early) entries))) trial.call.now layer
