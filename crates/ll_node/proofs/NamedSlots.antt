-- A further name, in the slot of its directory.
use Rattle.std.specs.Prelude.{◌≡◌, ◌≢◌, ℕ, true, false, List, [], ◌∷◌, ◌++◌, map, Option, None, is_some, nat_le}
use Rattle.std.specs.Prelude.{unwrap_or, refl}
use Rattle.std.specs.List.{AllByRecursion}
use Rattle.std.proofs.Common.{sym, ap, ◌∙◌, inl, inr}
use Rattle.std.proofs.lemmas.Bool.{cases_eq}
use Rattle.ll_rights.specs.declared.errno.Errno.TheVariants.{EEXIST, ENOSPC}
use Rattle.ll_rights.specs.declared.kind.Kind.TheVariants.{Reg}
use Rattle.ll_rights.specs.Errno.{refuse}
use Rattle.ll_rights.specs.Kind.{is_dir}
use Rattle.ll_rights.specs.Map.{get, insert, len}
use Rattle.ll_path.specs.Name.{IsName}
use Rattle.ll_node.specs.Slot.{NameMap, Slot}
use Rattle.ll_node.specs.Refusals.{insert_refusals}
use Rattle.ll_seq.specs.Effects.{with_name}
use Rattle.ll_seq.specs.Stages.{is_crowded}
use Rattle.ll_seq.specs.State.{Name, State}
use Rattle.ll_seq.specs.declared.changes.At.{At}
use Rattle.ll_seq.specs.declared.changes.Change.TheVariants as change
use Rattle.ll_seq.specs.Effect.{dentry_at, Lacks, FitsName}
use Rattle.ll_node.specs.declared.held.Held.{Held}
use Rattle.ll_node.specs.Lent.{named_in, AreApart}
use Rattle.ll_node.proofs.InSlots.{named_here, named_elsewhere}
use Rattle.ll_node.specs.InodeTable.{Table, IsTable}
use Rattle.ll_node.specs.Accounts.{names_map}
use Rattle.ll_node.specs.Enactment.{Scene, InHand, IsGiven, IsMade, Covers, MayEnact, in_hand}
use Rattle.ll_node.proofs.NameMaps.{get-names_map, len-names_map}
use Rattle.ll_node.proofs.SlotAccounts.{content_of, link_named, link_other}
use Rattle.ll_node.proofs.GivenSlots.{held_of, client_stays}
use Rattle.ll_node.proofs.StayingSlots.{given_directory, directory_some, given_apart, of_lent, made_staying}

no_refusals : (names : NameMap) (name : Name) → get names name ≡ None → nat_le 1024 (len names) ≡ false
    → insert_refusals names name ≡ []
no_refusals names name lacks room = λ i. refuse (is_some (lacks i)) EEXIST ++ refuse (room i) ENOSPC

-- a directory that lacks the name takes it
abbrev pub Takes : Name → Slot → Type 0
Takes name slot = (is_dir slot.kind ≡ true) × (insert_refusals slot.names name ≡ [])

-- the state's name and the slot's are one
pub named_each : (s : State) (marks : ℕ → Option ℕ) (at : At) (inode i : ℕ)
    → named_in at.directory at.name.now inode (held_of s marks i) ≡ held_of (with_name s (dentry_at at) inode) marks i
named_each s marks at inode i = elim (cases_eq i at.directory) [
  | inl e ↦
      sym (named_here at.directory at.name.now inode (held_of s marks i) e)
      ∙ ap (λ j. record {
        inode = j;
        node = record (content_of s j) { names = insert (names_map s j) at.name.now inode; mark = marks j };
      }) e
      ∙ sym (ap (λ x. record { inode = at.directory; node = record x { mark = marks at.directory } })
      (link_named s (dentry_at at) inode))
      ∙ sym (ap (held_of (with_name s (dentry_at at) inode) marks) e)
  | inr other ↦
      named_elsewhere at.directory at.name.now inode (held_of s marks i) other
      ∙ sym (ap (λ x. record { inode = i; node = record x { mark = marks i } })
      (link_other s (dentry_at at) inode i other))
]

module _ {scene : Scene} {hand : InHand} (given : IsGiven scene hand) where
  open scene use {state as s, marks, spares, number}
  open hand use {client as c, spare, table, slots, lent}

  pub takes_name : (at : At) → Lacks s at → is_crowded s at.directory ≡ false
      → AllByRecursion (λ (held : Held). held.inode ≡ at.directory → Takes at.name.now held.node) lent
  takes_name at lacks room =
      of_lent given at.directory (Takes at.name.now)
      (directory_some given at lacks.directory) (
        ap (λ o. is_dir (unwrap_or o Reg)) (given_directory given at lacks.directory),
        no_refusals (names_map s at.directory) at.name.now (get-names_map s at.directory at.name.now ∙ lacks.child)
            (ap (nat_le 1024) (len-names_map s at.directory) ∙ room),
      )

  pub named_slots : (at : At) (inode : ℕ) (table' : Table) (lent' : List Held) → FitsName s at inode
      → Covers hand (change.Name at inode)
      → lent' ≡ map (named_in at.directory at.name.now inode) lent
      → IsTable (with_name s (dentry_at at) inode) spares table' → table'.inodes ≡ table.inodes
      → table'.free ≡ table.free → IsMade scene (with_name s (dentry_at at) inode) hand
      (in_hand c spare table' slots lent')
  named_slots at inode table' lent' fits covers done counted inodes free =
      made_staying given (with_name s (dentry_at at) inode) c table' lent' (named_in at.directory at.name.now inode)
      (at.directory ∷ [])
      done counted inodes free refl (client_stays s (with_name s (dentry_at at) inode) number c refl given.client)
      covers.touched
      (directory_some given at fits.lacks.directory, tt)
      (λ held away. named_elsewhere at.directory at.name.now inode held away.0)
      (λ i some. named_each s marks at inode i)

-- what is asked of the slots that are lent
pub may_name : {hand : InHand} (at : At) (inode : ℕ) → MayEnact (change.Name at inode) hand
    → AreApart hand.lent × (at.directory ≢ 0) × IsName at.name.now
    × AllByRecursion (λ (held : Held). held.inode ≡ at.directory → Takes at.name.now held.node) hand.lent
may_name at inode may = (
  given_apart may.given,
  directory_some may.given at may.fits.lacks.directory,
  may.fits.lacks.name,
  takes_name may.given at may.fits.lacks may.fits.room,
)
