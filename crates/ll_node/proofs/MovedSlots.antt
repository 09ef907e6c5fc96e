-- Two names that change places, and a name that moves, in the slots of their directories.
use Rattle.std.specs.Prelude.{◌≡◌, ◌≢◌, ℕ, not, List, [], ◌∷◌, map, Option, Some, is_some, refl, Bool, true, false}
use Rattle.std.specs.Prelude.{◌&&◌, ◌==◌, ◌++◌, None, unwrap_or}
use Rattle.std.specs.List.{AllByRecursion}
use Rattle.std.proofs.Common.{sym, ap, ◌∙◌, inl, inr}
use Rattle.std.proofs.lemmas.Bool.{cases_eq, ne_eqb}
use Rattle.std.proofs.lemmas.Simd.{map-map}
use Rattle.ll_rights.specs.declared.errno.Errno.TheVariants.{EEXIST, ENOENT}
use Rattle.ll_rights.specs.declared.kind.Kind.TheVariants.{Reg}
use Rattle.ll_rights.specs.Errno.{refuse}
use Rattle.ll_rights.specs.Kind.{is_dir}
use Rattle.ll_rights.specs.Map.{get, remove}
use Rattle.ll_rights.proofs.Maps.{insert_cases}
use Rattle.ll_path.specs.Name.{IsName}
use Rattle.ll_node.specs.Slot.{NameMap, Slot}
use Rattle.ll_node.specs.Refusals.{missing, rename_refusals}
use Rattle.ll_seq.specs.Effects.{with_name, with_moved}
use Rattle.ll_seq.specs.Stages.{is_crowded}
use Rattle.ll_seq.specs.State.{Name, State, child}
use Rattle.ll_seq.proofs.DentryOrder.{dentry_total, dentry_exact}
use Rattle.ll_seq.proofs.FactsKept.{kept_exchange}
use Rattle.ll_seq.specs.declared.changes.At.{At}
use Rattle.ll_seq.specs.declared.changes.Change.TheVariants as change
use Rattle.ll_seq.specs.Effect.{dentry_at, FitsExchange, FitsMove}
use Rattle.ll_node.specs.declared.held.Held.{Held}
use Rattle.ll_node.specs.Lent.{vacant, named_in, unnamed_in, AreApart}
use Rattle.ll_node.proofs.InSlots.{named_elsewhere}
use Rattle.ll_node.specs.InodeTable.{Table, IsTable}
use Rattle.ll_node.proofs.TableSteps.{still_table}
use Rattle.ll_node.specs.Accounts.{accounts, names_map}
use Rattle.ll_node.specs.Enactment.{Scene, InHand, IsGiven, IsMade, Covers, MayEnact, in_hand}
use Rattle.ll_node.proofs.NameMaps.{get-names_map, names_taken, names_taken_other}
use Rattle.ll_node.proofs.SlotAccounts.{content_of, with_names, same_content}
use Rattle.ll_node.proofs.TakenSlots.{at_same, at_other, same_held}
use Rattle.ll_node.proofs.Accounted.{told_by}
use Rattle.ll_node.proofs.GivenSlots.{held_of, client_stays, all_given, each_stays}
use Rattle.ll_node.proofs.StayingSlots.{directory_some, made_staying, given_directory, given_apart, of_lent}
use Rattle.ll_node.proofs.NamedSlots.{named_each, Takes, takes_name}

not_missing : (names : NameMap) (name : Name) (inode : ℕ) → get names name ≡ Some inode → missing names name ≡ []
not_missing names name inode there = ap (λ o. refuse (not (is_some o)) ENOENT) there

-- ---- names that change places

-- a name that is put doesn't take another away
still_there : (s : State) (old new : At) (first : ℕ) → child s old.directory old.name.now ≡ Some first
    → child (with_name s (dentry_at new) first) old.directory old.name.now ≡ Some first
still_there s old new first there =
    elim (insert_cases dentry_total dentry_exact s.entries (dentry_at new) first (dentry_at old)) [
      | inl here ↦ here.1
      | inr away ↦ away.1 ∙ there
    ]

-- the slots that are lent, with a name put into them
pub named_lent : (s : State) (marks : ℕ → Option ℕ) (inodes slots : List ℕ) (at : At) (inode : ℕ) → at.directory ≢ 0
    → map (named_in at.directory at.name.now inode) (accounts s marks inodes slots)
    ≡ accounts (with_name s (dentry_at at) inode) marks inodes slots
named_lent s marks inodes slots at inode some =
    told_by s (with_name s (dentry_at at) inode) marks inodes inodes (named_in at.directory at.name.now inode)
    (each_stays s (with_name s (dentry_at at) inode) marks inodes (named_in at.directory at.name.now inode)
    (named_elsewhere at.directory at.name.now inode vacant (λ e. some (sym e)))
    (λ i there. named_each s marks at inode i)) slots

-- if the slot is the directory's, it has the name
abbrev pub HasItsName : At → Held → Type 0
HasItsName at held = held.inode ≡ at.directory → missing held.node.names at.name.now ≡ []

has_name : (s : State) (marks : ℕ → Option ℕ) (inodes slots : List ℕ) (lent : List Held)
    → lent ≡ accounts s marks inodes slots → (at : At) (inode : ℕ) → at.directory ≢ 0
    → child s at.directory at.name.now ≡ Some inode → AllByRecursion (HasItsName at) lent
has_name s marks inodes slots lent told at inode some there =
    all_given (λ held. missing held.node.names at.name.now ≡ []) s marks inodes slots lent told at.directory some
    (not_missing (names_map s at.directory) at.name.now inode (get-names_map s at.directory at.name.now ∙ there))

module _ {hand : InHand} (old new : At) (one other : ℕ) (may : MayEnact (change.Exchange old new one other) hand) where
  open may use {scene.{state as s, marks}, given, fits}
  open hand use {table, slots, lent}

  pub has_new : AllByRecursion (HasItsName new) lent
  has_new = has_name s marks table.inodes slots lent given.told new other
      (directory_some given new fits.new.directory) fits.new.child

  pub has_old : (between : List Held) → between ≡ map (named_in new.directory new.name.now one) lent
      → AllByRecursion (HasItsName old) between
  has_old between done =
      has_name (with_name s (dentry_at new) one) marks table.inodes slots between
      (done ∙ ap (map (named_in new.directory new.name.now one)) given.told
      ∙ named_lent s marks table.inodes slots new one (directory_some given new fits.new.directory))
      old one (directory_some given old fits.old.directory) (still_there s old new one fits.old.child)

module _ {scene : Scene} {hand : InHand} (given : IsGiven scene hand) where
  open scene use {state as s, marks, spares, number}
  open hand use {client as c, spare, table, slots, lent}

  pub exchanged_slots : (old new : At) (first second : ℕ) (between lent' : List Held)
      → FitsExchange s old new first second → Covers hand (change.Exchange old new first second)
      → between ≡ map (named_in new.directory new.name.now first) lent
      → lent' ≡ map (named_in old.directory old.name.now second) between
      → IsMade scene (with_name (with_name s (dentry_at new) first) (dentry_at old) second) hand
      (in_hand c spare table slots lent')
  exchanged_slots old new first second between lent' fits covers put done =
      let half = with_name s (dentry_at new) first in
      let all = with_name half (dentry_at old) second in
      let in_old = named_in old.directory old.name.now second in
      let in_new = named_in new.directory new.name.now first in
      made_staying given all c table lent' (λ held. in_old (in_new held)) (old.directory ∷ new.directory ∷ [])
      (done ∙ ap (map in_old) put ∙ map-map in_old in_new lent)
      (still_table s spares table given.counted all table.facts refl refl refl
      (kept_exchange s table.facts (dentry_at old) (dentry_at new) first second given.counted.facts fits.old.child
      fits.new.child))
      refl refl refl (client_stays s all number c refl given.client) covers.touched
      (directory_some given old fits.old.directory, (directory_some given new fits.new.directory, tt))
      (λ held away. ap in_old (named_elsewhere new.directory new.name.now first held away.1.0)
      ∙ named_elsewhere old.directory old.name.now second held away.0)
      (λ i some. ap in_old (named_each s marks new first i) ∙ named_each half marks old second i)

-- ---- a name that moves

-- the state without a name, between
abbrev left : State → At → State
left s at = record s { entries = remove s.entries (dentry_at at) }

unnamed_each : (s : State) (marks : ℕ → Option ℕ) (at : At) (i : ℕ)
    → unnamed_in at.directory at.name.now (held_of s marks i) ≡ held_of (left s at) marks i
unnamed_each s marks at i = elim (cases_eq i at.directory) [
  | inl e ↦
      at_same i at.directory _ _ e
      ∙ ap (λ j. record {
        inode = j;
        node = record (content_of s j) { names = remove (names_map s j) at.name.now; mark = marks j };
      }) e
      ∙ sym (ap (λ x. record { inode = at.directory; node = record x { mark = marks at.directory } })
      (with_names s (left s at) at.directory _ refl (names_taken s (left s at) (dentry_at at) refl)))
      ∙ sym (ap (held_of (left s at) marks) e)
  | inr other ↦
      at_other i at.directory _ _ other
      ∙ same_held s (left s at) marks i
      (same_content s (left s at) i refl (names_taken_other s (left s at) (dentry_at at) refl i other))
]

no_rename_refusals : (names : NameMap) (old new : Name) (inode : ℕ) → get names old ≡ Some inode → get names new ≡ None
    → rename_refusals names old new ≡ []
no_rename_refusals names old new inode there lacks =
    λ i. refuse (not (is_some (there i))) ENOENT ++ refuse (is_some (lacks i)) EEXIST

-- the directory has the one name, and takes the other in its place
abbrev pub Renames : Name → Name → ℕ → Slot → Type 0
Renames old new inode slot = (is_dir slot.kind ≡ true) × (rename_refusals slot.names old new ≡ [])
    × (get slot.names old ≡ Some inode)

differs : (a b : ℕ) (crowded : Bool) → a ≢ b → (not (a == b) && crowded) ≡ false → crowded ≡ false
differs a b crowded other room = sym (ap (λ same. not same && crowded) (ne_eqb a b other)) ∙ room

module _ {hand : InHand} (old new : At) (inode : ℕ) (may : MayEnact (change.Move old new inode) hand) where
  open may use {scene.{state as s}, given, fits}
  open hand use {lent}

  pub may_move : AreApart lent × ((old.directory ≢ 0) × (new.directory ≢ 0)) × IsName new.name.now
  may_move = (
    given_apart given,
    (directory_some given old fits.old.directory, directory_some given new fits.new.directory),
    fits.new.name,
  )

  -- between two directories
  pub moves_between : old.directory ≢ new.directory
      → AllByRecursion (λ (held : Held). held.inode ≡ new.directory → Takes new.name.now held.node) lent
  moves_between two = takes_name given new fits.new
      (differs old.directory new.directory (is_crowded s new.directory) two fits.room)

  -- within one
  pub moves_within : old.directory ≡ new.directory
      → AllByRecursion (λ (held : Held). held.inode ≡ old.directory → Renames old.name.now new.name.now inode held.node)
      lent
  moves_within same =
      let names = names_map s old.directory in
      let there : get names old.name.now ≡ Some inode =
      get-names_map s old.directory old.name.now ∙ fits.old.child in
      let none : get names new.name.now ≡ None =
      get-names_map s old.directory new.name.now ∙ ap (λ d. child s d new.name.now) same
      ∙ fits.new.child in
      of_lent given old.directory (Renames old.name.now new.name.now inode) may_move.1.0 (
        ap (λ o. is_dir (unwrap_or o Reg)) (given_directory given old fits.old.directory),
        no_rename_refusals names old.name.now new.name.now inode there none,
        there,
      )

module _ {scene : Scene} {hand : InHand} (given : IsGiven scene hand) where
  open scene use {state as s, marks, spares, number}
  open hand use {client as c, spare, table, slots, lent}

  pub moved_slots : (old new : At) (inode : ℕ) (table' : Table) (lent' : List Held) → FitsMove s old new inode
      → Covers hand (change.Move old new inode)
      → lent' ≡ map (λ held. named_in new.directory new.name.now inode (unnamed_in old.directory old.name.now held))
      lent
      → IsTable (with_moved s (dentry_at old) (dentry_at new) inode) spares table' → table'.inodes ≡ table.inodes
      → table'.free ≡ table.free
      → IsMade scene (with_moved s (dentry_at old) (dentry_at new) inode) hand (in_hand c spare table' slots lent')
  moved_slots old new inode table' lent' fits covers done counted inodes free =
      let all = with_moved s (dentry_at old) (dentry_at new) inode in
      let into = named_in new.directory new.name.now inode in
      let from = unnamed_in old.directory old.name.now in
      made_staying given all c table' lent' (λ held. into (from held)) (old.directory ∷ new.directory ∷ [])
      done counted inodes free refl (client_stays s all number c refl given.client) covers.touched
      (directory_some given old fits.old.directory, (directory_some given new fits.new.directory, tt))
      (λ held away. ap into (at_other held.inode old.directory _ held away.0)
      ∙ named_elsewhere new.directory new.name.now inode held away.1.0)
      (λ i some. ap into (unnamed_each s marks old i) ∙ named_each (left s old) marks new inode i)
