-- Whether an entry may stand, by what a step answers with any fresh number.
use Rattle.std.proofs.Common.{◌≡◌, ℕ, Bool, true, false, List, [], ◌∷◌, refl, sym, ap, ◌∙◌}
use Rattle.std.specs.Prelude.{not, IsTrue}
use mathlib.Core.Bool.{beq}
use Rattle.ll_rights.specs.Map.{has}
use Rattle.ll_seq.specs.declared.call.Call.{Call}
use Rattle.ll_seq.specs.declared.call.Call.TheVariants.{Spawn}
use Rattle.ll_seq.specs.declared.reply.Entry.{Entry}
use Rattle.ll_seq.specs.declared.reply.Reply.{Reply}
use Rattle.ll_seq.specs.declared.reply.Reply.TheVariants.{Done, Spawned}
use Rattle.ll_seq.specs.Call.{first_path, second_path}
use Rattle.ll_seq.specs.CallParts.{done}
use Rattle.ll_seq.specs.History.{is_connect, fresh_of, MayStand, after}
use Rattle.ll_seq.specs.State.{State}
use Rattle.ll_seq.specs.Step.{step, first_or, refusals, client_of}
use Rattle.ll_seq.proofs.Consequences.{step-spawned}

abbrev is_spawned : Reply → Bool
is_spawned (Spawned number) = true
is_spawned _ = false

-- the fresh number matters only where the reply tells it
module _ (s : State) (n : ℕ) where
  alike : (call : Call) (f g : ℕ) → is_spawned (step s n call f).0 ≡ false
      → ◌≡◌ {A = Reply × State} (step s n call g) (step s n call f)
  alike Spawn f g other = of (refusals s (client_of s n) Spawn) other
    where
      spawned : ℕ → Reply × State
      spawned fresh = done s n (client_of s n) Spawn (first_path Spawn) (second_path Spawn) fresh

      of : (replies : List Reply) → is_spawned
          (first_or s replies (done s n (client_of s n) Spawn (first_path Spawn) (second_path Spawn) f)).0 ≡ false
          → ◌≡◌ {A = Reply × State} (first_or s replies
          (done s n (client_of s n) Spawn (first_path Spawn) (second_path Spawn) g))
          (first_or s replies (done s n (client_of s n) Spawn (first_path Spawn) (second_path Spawn) f))
      of [] is = absurd cc
      of (reply ∷ replies) is = refl
  alike call f g other = refl

  by_reply : (call : Call) (f : ℕ) (r : Reply) → (step s n call f).0 ≡ r
      → ◌≡◌ {A = Reply × State} (step s n call (fresh_of r)) (step s n call f)
  by_reply call f (Spawned number) is = ap (step s n call) (step-spawned s n call f number is).0
  by_reply call f r is = alike call f 0 (ap is_spawned is)

  -- what the entry's own number answers, any answers that is its number where it has one
  by_any : (call : Call) (f : ℕ) (r : Reply) → ((number : ℕ) → r ≡ Spawned number → f ≡ number)
      → (step s n call (fresh_of r)).0 ≡ r → (step s n call f).0 ≡ r
  by_any call f (Spawned number) own is = ap (λ k. (step s n call k).0) (own number refl) ∙ is
  by_any call f r own is = ap (λ (z : Reply × State). z.0) (alike call (fresh_of r) f (ap is_spawned is)) ∙ is

-- a call of a client that is there, or a connect of one that isn't, made with a number that no client has
pub record Made (s : State) (e : Entry) (fresh : ℕ) (told : Reply) (next : State) : Type 0 where
  pub caller : has s.clients e.client ≡ not (is_connect e.call)
  pub connected : IsTrue (is_connect e.call) → e.reply ≡ Done
  pub own : (number : ℕ) → e.reply ≡ Spawned number → fresh ≡ number
  pub free : has s.clients fresh ≡ false
  pub step : ◌≡◌ {A = Reply × State} (told, next) (step s e.client e.call fresh)

module _ (s : State) (e : Entry) (fresh : ℕ) (told : Reply) (next : State) (made : Made s e fresh told next) where
  own_step : told ≡ e.reply → ◌≡◌ {A = Reply × State} (step s e.client e.call (fresh_of e.reply)) (told, next)
  own_step same = by_reply s e.client e.call fresh e.reply (ap (λ (z : Reply × State). z.0) (sym made.step) ∙ same)
      ∙ sym made.step

  pub stands : told ≡ e.reply → MayStand s e
  stands same = record {
    caller = made.caller;
    connected = made.connected;
    spawned = λ number is. ap (has s.clients) (sym (made.own number is)) ∙ made.free;
    answered = ap (λ (z : Reply × State). z.0) (own_step same) ∙ same;
  }

  pub followed : told ≡ e.reply → next ≡ after s e
  followed same = ap (λ (z : Reply × State). z.1) (sym (own_step same))

  pub told_its_own : MayStand s e → told ≡ e.reply
  told_its_own may = ap (λ (z : Reply × State). z.0) made.step
      ∙ by_any s e.client e.call fresh e.reply made.own may.answered

-- two that differ are each the other's opposite
pub opposite : (a b : Bool) → beq a b ≡ false → a ≡ not b
opposite true true differ = absurd cc
opposite true false differ = refl
opposite false true differ = refl
opposite false false differ = absurd cc
