-- Another length of a file, in its slot.
use Rattle.std.specs.Prelude.{◌≡◌, ◌≢◌, ℕ, false, List, [], ◌∷◌, map, Option, Some, refl}
use Rattle.std.specs.List.{AllByRecursion}
use Rattle.std.proofs.Common.{sym, ap, ◌∙◌, inl, inr}
use Rattle.std.proofs.lemmas.Bool.{cases_eq}
use Rattle.ll_rights.specs.declared.errno.Errno.TheVariants.{EFBIG}
use Rattle.ll_rights.specs.declared.kind.Kind.{Kind}
use Rattle.ll_rights.specs.Errno.{refuse}
use Rattle.ll_rights.specs.Kind.{is_dir}
use Rattle.ll_node.specs.Slot.{Slot}
use Rattle.ll_node.specs.Refusals.{len_refusals}
use Rattle.ll_seq.specs.Effects.{resized, with_size}
use Rattle.ll_seq.specs.State.{State, kind_of, bytes_of}
use Rattle.ll_seq.specs.declared.changes.Change.TheVariants as change
use Rattle.ll_seq.specs.Effect.{FitsResize}
use Rattle.ll_node.specs.declared.held.Held.{Held}
use Rattle.ll_node.specs.Lent.{resized_in, AreApart}
use Rattle.ll_node.proofs.InSlots.{resized_here, resized_elsewhere}
use Rattle.ll_node.specs.Enactment.{Scene, InHand, IsGiven, IsMade, Covers, MayEnact, in_hand}
use Rattle.ll_node.proofs.SlotAccounts.{content_of, size_put, bytes_other}
use Rattle.ll_node.proofs.Survivors.{bytes_next}
use Rattle.ll_node.proofs.GivenSlots.{held_of, client_stays}
use Rattle.ll_node.proofs.StayingSlots.{named_kind, named_some, given_apart, of_lent, made_staying}
use Rattle.ll_node.proofs.OpenedSlots.{bytes_parts, bytes_table}

-- the state's length and the slot's are one
resized_each : (s : State) (marks : ℕ → Option ℕ) (inode size : ℕ) (kind : Kind) → kind_of s inode ≡ Some kind → (i : ℕ)
    → resized_in inode size (held_of s marks i) ≡ held_of (with_size s inode size) marks i
resized_each s marks inode size kind there i = elim (cases_eq i inode) [
  | inl e ↦
      sym (resized_here inode size (held_of s marks i) e)
      ∙ ap (λ j. record {
        inode = j;
        node = record (content_of s j) { bytes = resized (bytes_of s j) size; mark = marks j };
      }) e
      ∙ sym (ap (λ x. record { inode = inode; node = record x { mark = marks inode } })
      (size_put s inode size kind there))
      ∙ sym (ap (held_of (with_size s inode size) marks) e)
  | inr other ↦
      resized_elsewhere inode size (held_of s marks i) other
      ∙ sym (ap (λ x. record { inode = i; node = record x { mark = marks i } })
      (bytes_other s inode (resized (bytes_of s inode) size) i other))
]

module _ {scene : Scene} {hand : InHand} (given : IsGiven scene hand) where
  open scene use {state as s, marks, spares, number}
  open hand use {client as c, spare, table, slots, lent}

  pub resized_slots : (inode size : ℕ) (lent' : List Held) → FitsResize s inode size
      → Covers hand (change.Resize inode size) → lent' ≡ map (resized_in inode size) lent
      → IsMade scene (with_size s inode size) hand (in_hand c spare table slots lent')
  resized_slots inode size lent' fits covers done =
      let bytes = resized (bytes_of s inode) size in
      let known = named_kind given inode fits.named in
      made_staying given (with_size s inode size) c table lent' (resized_in inode size) (inode ∷ [])
      done (bytes_table s inode bytes spares table given.counted) refl refl (bytes_next s inode bytes)
      (client_stays s (with_size s inode size) number c (bytes_parts s inode bytes).0 given.client) covers.touched
      (named_some given inode fits.named, tt)
      (λ held away. resized_elsewhere inode size held away.0)
      (λ i some. resized_each s marks inode size known.0 known.1 i)

-- a file takes a length that isn't too long
abbrev pub TakesLen : ℕ → Slot → Type 0
TakesLen size slot = (is_dir slot.kind ≡ false) × (len_refusals size ≡ [])

-- what is asked of the slots that are lent
pub may_resize : {hand : InHand} (inode size : ℕ) → MayEnact (change.Resize inode size) hand
    → AreApart hand.lent × (inode ≢ 0)
    × AllByRecursion (λ (held : Held). held.inode ≡ inode → TakesLen size held.node) hand.lent
may_resize inode size may =
    let some = named_some may.given inode may.fits.named in (
      given_apart may.given,
      some,
      of_lent may.given inode (TakesLen size) some (may.fits.file, ap (λ b. refuse b EFBIG) may.fits.short),
    )
