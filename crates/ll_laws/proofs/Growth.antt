-- A history only grows, so the laws over histories hold between any two worlds.
use Rattle.std.specs.Prelude.{◌≡◌, ℕ, ◌≤◌, ◌<◌, Bool, true, false, List, Option, [], ◌∷◌, ◌++◌, length, nat_le, refl}
use Rattle.std.specs.Ordering.{nat_cmp}
use Rattle.std.proofs.Common.{sym, subst, ap, ◌∙◌, arith, append_assoc}
use Rattle.std.proofs.lemmas.List.{append-nil, length-append}
use Rattle.std.proofs.lemmas.Bool.{leb-false}
use Rattle.ll_rights.specs.Map.{Map}
use Rattle.ll_seq.specs.declared.call.Call.{Call}
use Rattle.ll_seq.specs.declared.call.Call.TheVariants.{Connect}
use Rattle.ll_seq.specs.declared.reply.Entry.{Entry}
use Rattle.ll_seq.specs.declared.reply.Reply.{Reply}
use Rattle.ll_seq.specs.declared.reply.Reply.TheVariants.{Done}
use Rattle.ll_seq.specs.declared.rules.Rules.{Rules}
use Rattle.ll_seq.specs.State.{start}
use Rattle.ll_seq.specs.History.{IsLegal}
use Rattle.ll_laws.specs.NoGain.{GainsNothing}
use Rattle.ll_laws.specs.Withheld.{Withholds}
use Rattle.ll_laws.proofs.Gain.{no_gain}
use Rattle.ll_laws.proofs.WithheldBytes.{bytes_are_withheld}
use Rattle.ll_laws.specs.Walk.{Walk}
use Rattle.ll_laws.specs.World.{World, advance, new_world, world_after, is_full, next_number, reply_to}
use Rattle.ll_laws.specs.declared.step.Step.{Step}
use Rattle.ll_laws.specs.Sound.{StepsLeadOn}
use Rattle.ll_laws.specs.Walks.{HistoryIsLegal}
use Rattle.ll_laws.specs.Growth.{Came, HistoryGrows, IsLater, OfBoth}
use Rattle.ll_laws.proofs.Turns.{Keeps, steps_kept}
use Rattle.ll_laws.proofs.Worlds.{still_hold, all_hold}

-- walks and the gate are no part of it
module _ (w v : World) (g : IsLater w v) (walks : Map nat_cmp Walk) (gate : Option ℕ) where
  no_entry : IsLater w (record v { walks = walks; gate = gate })
  no_entry = record { rules = g.rules; room = g.room; limit = g.limit; added = g.added; fits = g.fits }

  one_entry : (number : ℕ) (call : Call) (reply : Reply) → is_full v ≡ false
      → IsLater w (record v {
        history = v.history ++ record { client = number; call = call; reply = reply } ∷ [];
        walks = walks;
        gate = gate;
      })
  one_entry number call reply not_full =
      let entry : Entry = record { client = number; call = call; reply = reply } in
      record {
        rules = g.rules;
        room = g.room;
        limit = g.limit;
        added = (
          g.added.0 ++ entry ∷ [],
          ap (λ es. es ++ entry ∷ []) g.added.1
              ∙ append_assoc w.history g.added.0 (entry ∷ []),
        );
        fits = let more = length-append v.history (entry ∷ []) in let below =
            room_left (nat_le v.limit (length v.history)) refl not_full in omega arith;
      }
    where
      room_left : (b : Bool) → nat_le v.limit (length v.history) ≡ b → b ≡ false → length v.history < v.limit
      room_left true e f = absurd (cc f)
      room_left false e f = leb-false v.limit (length v.history) e

grows_on : (w : World) → Keeps (IsLater w)
grows_on w = record {
  begins = λ v number call g idle walked h. no_entry w v g _ _;
  enters = λ v number walk g is fresh high free h. no_entry w v g _ _;
  stands = λ v number walk leg g is fresh low e free. no_entry w v g _ _;
  forks = λ v number walk at g is fresh e. no_entry w v g _ _;
  restarts = λ v number walk g is stale. no_entry w v g _ _;
  gives_up = λ v number walk g is. no_entry w v g _ _;
  commits = λ v number walk g is may not_full. one_entry w v g _ _ number walk.call (reply_to v number walk.call)
      not_full;
  calls = λ v number call g idle plain unwalked not_full. one_entry w v g v.walks v.gate number call
      (reply_to v number call) not_full;
  joins = λ v g not_full answer. one_entry w v g v.walks v.gate (next_number v) Connect Done not_full;
}

grows_itself : (w : World) → length w.history ≤ w.limit → IsLater w w
grows_itself w fits = record {
  rules = refl;
  room = refl;
  limit = refl;
  added = ([], sym (append-nil w.history));
  fits = fits;
}

grows : (w : World) (steps : List Step) → length w.history ≤ w.limit → IsLater w (world_after w steps)
grows w steps fits = steps_kept (IsLater w) (grows_on w) w steps (grows_itself w fits)

pub steps_lead_on : StepsLeadOn
steps_lead_on w step' fits = grows w (step' ∷ []) fits

pub still_within : (w : World) (step' : Step) → length w.history ≤ w.limit
    → length (advance w step').1.history ≤ (advance w step').1.limit
still_within w step' fits = (grows w (step' ∷ []) fits).fits

-- from the beginning
from_start : (rules : Rules) (room limit : ℕ) (steps : List Step)
    → IsLater (new_world rules room limit) (world_after (new_world rules room limit) steps)
from_start rules room limit steps = grows (new_world rules room limit) steps (omega arith)

pub history_grows : HistoryGrows
history_grows rules room limit early late =
    let w = world_after (new_world rules room limit) early in
    let first = from_start rules room limit early in
    let g = grows w late first.fits in
    (g.added, subst (λ n. length (world_after w late).history ≤ n) (g.limit ∙ first.limit) g.fits)

pub history_is_legal : HistoryIsLegal
history_is_legal rules room limit steps =
    let w = world_after (new_world rules room limit) steps in
    let g = from_start rules room limit steps in
    subst (λ r. IsLegal (start r room) w.history) g.rules
    (subst (λ n. IsLegal (start w.rules n) w.history) g.room (all_hold rules room limit steps).legal)

-- ---- between two worlds

module _ (rules : Rules) (room limit : ℕ) (early late : List Step) where
  abbrev w : World
  w = world_after (new_world rules room limit) early

  abbrev v : World
  v = world_after w late

  whole : (added : List Entry) → Came w v added → IsLegal (start rules room) (w.history ++ added)
  whole added came =
      let first = from_start rules room limit early in
      let g = grows w late first.fits in
      subst (λ (p : Rules × (ℕ × List Entry)). IsLegal (start p.0 p.1.0) p.1.1)
      (λ i. ((g.rules ∙ first.rules) i, ((g.room ∙ first.room) i, came i)))
      (still_hold w late (all_hold rules room limit early)).legal

pub no_gain_between : OfBoth GainsNothing
no_gain_between rules room limit early late added came =
    no_gain rules room (world_after (new_world rules room limit) early).history added
    (whole rules room limit early late added came)

pub withheld_between : OfBoth Withholds
withheld_between rules room limit early late added came =
    bytes_are_withheld rules room (world_after (new_world rules room limit) early).history added
    (whole rules room limit early late added came)
