-- A name that goes, in the slots that are lent and in the table.
use Rattle.std.specs.Prelude.{◌≡◌, ◌≢◌, ◌⊎◌, ℕ, true, false, not, cond, Bool, ◌==◌, List, [], ◌∷◌, ◌++◌, map, Option}
use Rattle.std.specs.Prelude.{Some, refl}
use Rattle.std.proofs.Common.{sym, ap, ◌∙◌, inl, inr}
use Rattle.std.proofs.lemmas.Bool.{eqb-true, eqb-false, eq-eqb, ne_eqb}
use Rattle.ll_rights.specs.Map.{get, has, remove}
use Rattle.ll_seq.specs.Effects.{lives, without_name}
use Rattle.ll_seq.specs.State.{State}
use Rattle.ll_laws.proofs.Trees.{IsTree}
use Rattle.ll_seq.specs.declared.changes.At.{At}
use Rattle.ll_seq.specs.declared.changes.Change.TheVariants.{Take}
use Rattle.ll_seq.specs.Effect.{dentry_at, FitsTake}
use Rattle.ll_node.specs.declared.held.Held.{Held}
use Rattle.ll_node.specs.Lent.{vacant, unnamed_in, vacated}
use Rattle.ll_node.specs.InodeTable.{Table, IsTable, NotIn, without_inode}
use Rattle.ll_node.specs.Accounts.{account}
use Rattle.ll_node.specs.Enactment.{Scene, InHand, IsGiven, Covers, IsMade, GivesBack, KeepsSlots, in_hand}
use Rattle.ll_node.proofs.SlotAccounts.{content_of}
use Rattle.ll_node.proofs.ChangedSlots.{taken_apart, taken_from, taken_living, after_elsewhere}
use Rattle.ll_node.proofs.Survivors.{after_next}
use Rattle.ll_node.proofs.GivenSlots.{directory_there, held_there, some_there, held_of, each_stays, each_but}
use Rattle.ll_node.proofs.GivenSlots.{client_stays, given_back, given_tree, made_by}

-- ---- a slot that is the inode's, and another one

pub at_same : {X : Type 0} (i j : ℕ) (x y : X) → i ≡ j → cond (i == j) x y ≡ x
at_same i j x y same = ap (λ b. cond b x y) (eq-eqb i j same)

pub at_other : {X : Type 0} (i j : ℕ) (x y : X) → i ≢ j → cond (i == j) x y ≡ y
at_other i j x y other = ap (λ b. cond b x y) (ne_eqb i j other)

pub by_same : {P : Type 0} (i j : ℕ) → (i ≡ j → P) → (i ≢ j → P) → P
by_same {P} i j same other = elim (i == j) as (λ b. (i == j) ≡ b → P)
    [ true ↦ λ e. same (eqb-true i j e) | false ↦ λ e. other (eqb-false i j e) ] refl

-- what doesn't go lives
pub not_living : (goes living : Bool) → goes ≡ not living → goes ≡ false → living ≡ true
not_living goes true is e = refl
not_living goes false is e = absurd (cc (sym is ∙ e))

-- the same content is the same slot
pub same_held : (s t : State) (marks : ℕ → Option ℕ) (i : ℕ) → content_of t i ≡ content_of s i
    → held_of s marks i ≡ held_of t marks i
same_held s t marks i same = λ j. record { inode = i; node = record (sym same j) { mark = marks i } }

-- ---- the name

module _ {scene : Scene} {hand : InHand} (given : IsGiven scene hand) (at : At) (inode : ℕ)
    (fits : FitsTake scene.state at inode) (covers : Covers hand (Take at inode)) where
  open scene use {state as s, marks, spares, number}
  open hand use {client as c, spare, table, slots, lent}

  abbrev without : State
  without = without_name s (dentry_at at) inode

  tree : IsTree s
  tree = given_tree given

  directory_some : at.directory ≢ 0
  directory_some = some_there s spares table given.counted at.directory (directory_there s tree at fits.holds.directory)

  pub inode_there : has s.nodes inode ≡ true
  inode_there = held_there s tree at inode fits.holds

  inode_some : inode ≢ 0
  inode_some = some_there s spares table given.counted inode inode_there

  apart : inode ≢ at.directory
  apart = taken_apart s tree at inode fits

  abbrev unnamed : Held → Held
  unnamed = unnamed_in at.directory at.name.now

  unnamed_away : (held : Held) → held.inode ≢ at.directory → unnamed held ≡ held
  unnamed_away held other = at_other held.inode at.directory _ held other

  unnamed_here : unnamed (held_of s marks at.directory) ≡ held_of without marks at.directory
  unnamed_here =
      at_same at.directory at.directory _ _ refl
      ∙ (λ j. record {
        inode = at.directory;
        node = record (sym (taken_from s tree at inode fits) j) { mark = marks at.directory };
      })

  -- all but the inode's own
  unnamed_each : (i : ℕ) → i ≢ inode → unnamed (held_of s marks i) ≡ held_of without marks i
  unnamed_each i other =
      by_same i at.directory
      (λ e. ap (λ j. unnamed (held_of s marks j)) e ∙ unnamed_here ∙ ap (held_of without marks) (sym e))
      (λ away. unnamed_away (held_of s marks i) away
      ∙ same_held s without marks i (after_elsewhere s number c (Take at inode) i (away, (other, tt))))

  abbrev left : State
  left = record s { entries = remove s.entries (dentry_at at) }

  made : (table' : Table) (lent' : List Held) (f : Held → Held) → IsTable without spares table' → lent' ≡ map f lent
      → ((k : ℕ) → account without marks table'.inodes k ≡ f (account s marks table.inodes k))
      → ((held : Held) → NotIn held.inode (at.directory ∷ inode ∷ []) → f held ≡ held)
      → KeepsSlots table table' ⊎ GivesBack scene without hand table'
      → IsMade scene without hand (in_hand c spare table' slots lent')
  made table' lent' f counted done each spared free =
      made_by given without c table' lent' f
      (at.directory ∷ inode ∷ []) counted (after_next s number c (Take at inode))
      (client_stays s without number c clients given.client) done each (directory_some, (inode_some, tt)) covers.touched
      spared free
    where
      clients : without.clients ≡ s.clients
      clients = elim (lives left inode) as
          (λ b. (cond b left (record left { nodes = remove left.nodes inode })).clients ≡ s.clients)
          [ true ↦ refl | false ↦ refl ]

  -- the node lives on
  pub taken_alone : (table' : Table) (lent' : List Held) → IsTable without spares table' → lives left inode ≡ true
      → table'.inodes ≡ table.inodes → table'.free ≡ table.free → lent' ≡ map unnamed lent
      → IsMade scene without hand (in_hand c spare table' slots lent')
  taken_alone table' lent' counted living inodes free done =
      made table' lent' unnamed counted done (λ k. ap (λ is. account without marks is k) inodes
      ∙ each_stays s without marks table.inodes unnamed idle (λ i some. each i) k)
      (λ held away. unnamed_away held away.0) (inl (record { inodes = inodes; free = free }))
    where
      idle : unnamed vacant ≡ vacant
      idle = unnamed_away vacant (λ e. directory_some (sym e))

      each : (i : ℕ) → unnamed (held_of s marks i) ≡ held_of without marks i
      each i =
          by_same i inode
          (λ e. ap (λ j. unnamed (held_of s marks j)) e ∙ unnamed_away (held_of s marks inode) apart
          ∙ same_held s without marks inode (taken_living s tree at inode fits living)
          ∙ ap (held_of without marks) (sym e))
          (unnamed_each i)

  -- it goes
  pub taken_whole : (table' : Table) (lent' : List Held) → IsTable without spares table'
      → table'.inodes ≡ without_inode table.inodes inode
      → ((slot : ℕ) → get table.places inode ≡ Some slot → table'.free ≡ table.free ++ slot ∷ [])
      → lent' ≡ map (λ held. vacated inode (unnamed held)) lent
      → IsMade scene without hand (in_hand c spare table' slots lent')
  taken_whole table' lent' counted inodes free done =
      made table' lent' (λ held. vacated inode (unnamed held)) counted done
      (λ k. ap (λ is. account without marks is k) inodes
      ∙ each_but s without marks table.inodes (λ held. vacated inode (unnamed held)) idle inode leaves each k)
      (λ held away. ap (vacated inode) (unnamed_away held away.0) ∙ at_other held.inode inode vacant held away.1.0)
      (inr (given_back given inode inode_some covers.touched.1.0 without table' counted inodes free))
    where
      idle : vacated inode (unnamed vacant) ≡ vacant
      idle = ap (vacated inode) (unnamed_away vacant (λ e. directory_some (sym e)))
          ∙ at_other 0 inode vacant vacant (λ e. inode_some (sym e))

      leaves : vacated inode (unnamed (held_of s marks inode)) ≡ vacant
      leaves = ap (vacated inode) (unnamed_away (held_of s marks inode) apart) ∙ at_same inode inode vacant _ refl

      each : (i : ℕ) → i ≢ 0 → i ≢ inode → vacated inode (unnamed (held_of s marks i)) ≡ held_of without marks i
      each i some other = ap (vacated inode) (unnamed_each i other) ∙ at_other i inode vacant _ other
