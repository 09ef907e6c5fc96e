-- What is given for a change after which each inode lies where it lay, and what comes of it.
use Rattle.std.specs.Prelude.{◌≡◌, ◌≢◌, ℕ, true, ◌==◌, List, [], ◌∷◌, map, Some, if◌then◌else◌}
use Rattle.std.specs.List.{AllByRecursion, list_any}
use Rattle.std.proofs.Common.{sym, subst, ap, ◌∙◌, inl}
use Rattle.ll_rights.specs.declared.kind.Kind.{Kind}
use Rattle.ll_rights.specs.declared.kind.Kind.TheVariants.{Dir}
use Rattle.ll_rights.specs.Map.{get, has}
use Rattle.ll_node.specs.Slot.{Slot}
use Rattle.ll_seq.specs.declared.client.ClientRecord.{ClientRecord}
use Rattle.ll_seq.specs.Reach.{HasName}
use Rattle.ll_seq.specs.State.{State, kind_of}
use Rattle.ll_laws.proofs.Granted.{kind_known}
use Rattle.ll_seq.specs.declared.changes.At.{At}
use Rattle.ll_seq.specs.Effect.{IsDirectory}
use Rattle.ll_node.specs.declared.held.Held.{Held}
use Rattle.ll_node.specs.Lent.{vacant, AreApart}
use Rattle.ll_node.specs.InodeTable.{Table, IsTable, NotIn}
use Rattle.ll_node.specs.Accounts.{account}
use Rattle.ll_node.specs.Enactment.{Scene, InHand, IsGiven, IsMade, in_hand}
use Rattle.ll_node.proofs.SlotAccounts.{content_of}
use Rattle.ll_node.proofs.Accounted.{inode_at, lent_apart}
use Rattle.ll_node.proofs.GivenSlots.{held_of, some_there, directory_kind, directory_there, named_there, all_given}
use Rattle.ll_node.proofs.GivenSlots.{each_stays, given_tree, made_by}

zero_out : (is : List ℕ) → AllByRecursion (λ i. i ≢ 0) is → NotIn 0 is
zero_out [] some = tt
zero_out (i ∷ is) some = (λ e. some.0 (sym e), zero_out is some.1)

module _ {scene : Scene} {hand : InHand} (given : IsGiven scene hand) where
  open scene use {state as s, marks, spares, number}
  open hand use {spare, table, slots, lent}

  pub given_directory : (at : At) → IsDirectory s at.directory → kind_of s at.directory ≡ Some Dir
  given_directory at dir = directory_kind s (given_tree given) at dir

  pub directory_lives : (at : At) → IsDirectory s at.directory → has s.nodes at.directory ≡ true
  directory_lives at dir = directory_there s (given_tree given) at dir

  pub directory_some : (at : At) → IsDirectory s at.directory → at.directory ≢ 0
  directory_some at dir = some_there s spares table given.counted at.directory (directory_lives at dir)

  pub named_lives : (i : ℕ) → HasName s i → has s.nodes i ≡ true
  named_lives i named = named_there s (given_tree given) i named

  pub named_kind : (i : ℕ) → HasName s i → (k : Kind) × (kind_of s i ≡ Some k)
  named_kind i named = kind_known s (given_tree given) named.0 i named.1

  pub named_some : (i : ℕ) → HasName s i → i ≢ 0
  named_some i named = some_there s spares table given.counted i (named_lives i named)

  pub given_apart : AreApart lent
  given_apart = subst AreApart (sym given.told)
      (lent_apart table.inodes table.places given.counted.placed s marks slots given.apart)

  -- what holds of a node holds in its slot, if that is lent
  pub of_lent : (i : ℕ) (P : Slot → Type 0) → i ≢ 0 → P (record (content_of s i) { mark = marks i })
      → AllByRecursion (λ (held : Held). held.inode ≡ i → P held.node) lent
  of_lent i P some here = all_given (λ held. P held.node) s marks table.inodes slots lent given.told i some here

  -- f: what is done to each slot that is lent. is: the nodes that it concerns, which lie in slots that are lent
  pub made_staying : (t : State) (c' : ClientRecord) (table' : Table) (lent' : List Held) (f : Held → Held)
      (is : List ℕ)
      → lent' ≡ map f lent → IsTable t spares table' → table'.inodes ≡ table.inodes → table'.free ≡ table.free
      → t.next ≡ s.next
      → ((q : ℕ) → get t.clients q ≡ (if q == number then Some c' else get s.clients q))
      → AllByRecursion (λ i. list_any (λ k. inode_at table.inodes k == i) slots ≡ true) is
      → AllByRecursion (λ i. i ≢ 0) is
      → ((held : Held) → NotIn held.inode is → f held ≡ held)
      → ((i : ℕ) → i ≢ 0 → f (held_of s marks i) ≡ held_of t marks i)
      → IsMade scene t hand (in_hand c' spare table' slots lent')
  made_staying t c' table' lent' f is done counted inodes free next clients touched some away each =
      made_by given t c' table' lent' f is counted next clients
      done
      (λ k. ap (λ is. account t marks is k) inodes
      ∙ each_stays s t marks table.inodes f (away vacant (zero_out is some)) each k)
      some touched away (inl (record { inodes = inodes; free = free }))
