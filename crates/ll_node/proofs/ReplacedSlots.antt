-- A name that takes another node's place, in the slots that are lent and in the table.
use Rattle.std.specs.Prelude.{◌≡◌, ◌≢◌, ◌⊎◌, ℕ, true, false, not, cond, ◌&&◌, ◌==◌, Bool, List, [], ◌∷◌, ◌++◌, map}
use Rattle.std.specs.Prelude.{Some, is_some, refl}
use Rattle.std.specs.List.{AllByRecursion}
use Rattle.std.proofs.Common.{sym, subst, ap, ◌∙◌, inl, inr}
use Rattle.std.proofs.lemmas.Bool.{ne_eqb}
use Rattle.std.proofs.lemmas.Simd.{map-map}
use Rattle.ll_rights.specs.declared.errno.Errno.TheVariants.{ENOENT}
use Rattle.ll_rights.specs.Errno.{refuse}
use Rattle.ll_rights.specs.Map.{get, has, insert, remove}
use Rattle.ll_node.specs.Refusals.{missing}
use Rattle.ll_seq.specs.Effects.{lives, let_go, with_moved, renamed}
use Rattle.ll_seq.specs.State.{State}
use Rattle.ll_laws.proofs.Chains.{same_Some}
use Rattle.ll_laws.proofs.Trees.{IsTree}
use Rattle.ll_seq.specs.declared.changes.At.{At}
use Rattle.ll_seq.specs.declared.changes.Change.TheVariants.{Replace}
use Rattle.ll_seq.specs.Effect.{dentry_at, FitsReplace}
use Rattle.ll_node.specs.declared.held.Held.{Held}
use Rattle.ll_node.specs.Lent.{vacant, named_in, unnamed_in, vacated}
use Rattle.ll_node.specs.InodeTable.{Table, IsTable, NotIn, without_inode}
use Rattle.ll_node.specs.Accounts.{account, names_map}
use Rattle.ll_node.specs.Enactment.{Scene, InHand, IsGiven, Covers, IsMade, GivesBack, KeepsSlots, in_hand}
use Rattle.ll_node.proofs.NameMaps.{get-names_map}
use Rattle.ll_node.proofs.SlotAccounts.{content_of, rename_over}
use Rattle.ll_node.proofs.ChangedSlots.{replaced_apart_old, replaced_apart_new, replaced_after, replaced_from}
use Rattle.ll_node.proofs.ChangedSlots.{replaced_into, replaced_living, after_elsewhere}
use Rattle.ll_node.proofs.Survivors.{after_next}
use Rattle.ll_node.proofs.GivenSlots.{directory_there, held_there, some_there, held_of, all_given, each_stays}
use Rattle.ll_node.proofs.GivenSlots.{each_but, client_stays, given_back, given_tree, made_by}
use Rattle.ll_node.proofs.TakenSlots.{at_same, at_other, by_same, not_living, same_held}

-- another node is replaced, and it goes or lives on
pub replaced_lives : (goes other living : Bool) → goes ≡ (not other && not living) → other ≡ false → goes ≡ false
    → living ≡ true
replaced_lives goes other living is two e = not_living goes living (is ∙ ap (λ b. not b && not living) two) e

-- the one name put in, then the other taken out
pub put_and_taken : (old new : At) (inode : ℕ) (lent put taken : List Held)
    → put ≡ map (named_in new.directory new.name.now inode) lent
    → taken ≡ map (unnamed_in old.directory old.name.now) put
    → taken ≡ map (λ held. unnamed_in old.directory old.name.now (named_in new.directory new.name.now inode held)) lent
put_and_taken old new inode lent put taken first second =
    second ∙ ap (map (unnamed_in old.directory old.name.now)) first
    ∙ map-map (unnamed_in old.directory old.name.now) (named_in new.directory new.name.now inode) lent

module _ {scene : Scene} {hand : InHand} (given : IsGiven scene hand) (old new : At) (inode replaced : ℕ)
    (fits : FitsReplace scene.state old new inode replaced)
    (covers : Covers hand (Replace old new inode replaced)) where
  open scene use {state as s, marks, spares, number}
  open hand use {client as c, spare, table, slots, lent}

  abbrev moved : State
  moved = with_moved s (dentry_at old) (dentry_at new) inode

  abbrev over : State
  over = let_go moved replaced

  tree : IsTree s
  tree = given_tree given

  pub into_there : has s.nodes new.directory ≡ true
  into_there = directory_there s tree new fits.new.directory

  pub replaced_there : has s.nodes replaced ≡ true
  replaced_there = held_there s tree new replaced fits.new

  pub kept_there : (node : ℕ) → Some replaced ≡ Some node → has s.nodes node ≡ true
  kept_there node is = ap (has s.nodes) (sym (same_Some replaced node is)) ∙ replaced_there

  from_some : old.directory ≢ 0
  from_some = some_there s spares table given.counted old.directory (directory_there s tree old fits.old.directory)

  into_some : new.directory ≢ 0
  into_some = some_there s spares table given.counted new.directory into_there

  replaced_some : replaced ≢ 0
  replaced_some = some_there s spares table given.counted replaced replaced_there

  -- the directory has the name that is replaced
  pub has_replaced : AllByRecursion (λ (held : Held). held.inode ≡ new.directory
      → missing held.node.names new.name.now ≡ []) lent
  has_replaced =
      all_given (λ held. missing held.node.names new.name.now ≡ []) s marks table.inodes slots lent given.told
      new.directory into_some
      (ap (λ o. refuse (not (is_some o)) ENOENT) (get-names_map s new.directory new.name.now ∙ fits.new.child))

  two : (inode == replaced) ≡ false
  two = ne_eqb inode replaced fits.differ

  pub over_table : (table' : Table)
      → IsTable (renamed s (dentry_at old) (dentry_at new) inode (Some replaced)) spares table'
      → IsTable over spares table'
  over_table table' counted = subst (λ t. IsTable t spares table')
      (rename_over s (dentry_at old) (dentry_at new) inode replaced two) counted

  pub over_lives : (goes : Bool) → goes ≡ (not (inode == replaced) && not (lives moved replaced)) → goes ≡ false
      → lives moved replaced ≡ true
  over_lives goes is e = replaced_lives goes (inode == replaced) (lives moved replaced) is two e

  abbrev put : Held → Held
  put = named_in new.directory new.name.now inode

  abbrev renamed_in : Held → Held
  renamed_in held = unnamed_in old.directory old.name.now (put held)

  put_away : (held : Held) → held.inode ≢ new.directory → put held ≡ held
  put_away held other = at_other held.inode new.directory _ held other

  renamed_away : (held : Held) → held.inode ≢ old.directory → held.inode ≢ new.directory → renamed_in held ≡ held
  renamed_away held from into =
      ap (unnamed_in old.directory old.name.now) (put_away held into) ∙ at_other held.inode old.directory _ held from

  -- in the directory of the new name
  put_here : put (held_of s marks new.directory)
      ≡ record {
        inode = new.directory;
        node = record (content_of s new.directory)
            { names = insert (names_map s new.directory) new.name.now inode; mark = marks new.directory };
      }
  put_here = at_same new.directory new.directory _ _ refl

  renamed_into : renamed_in (held_of s marks new.directory) ≡ held_of over marks new.directory
  renamed_into =
      ap (unnamed_in old.directory old.name.now) put_here
      ∙ by_same new.directory old.directory
      (λ e.
      at_same new.directory old.directory _ _ e
      ∙ (λ j. record {
        inode = new.directory;
        node = record (sym (replaced_after s tree old new inode replaced fits (sym e)) j)
            { mark = marks new.directory };
      }))
      (λ other.
      at_other new.directory old.directory _ _ other
      ∙ (λ j. record {
        inode = new.directory;
        node = record (sym (replaced_into s tree old new inode replaced fits other) j)
            { mark = marks new.directory };
      }))

  -- in that of the old one, if it is another
  renamed_from : old.directory ≢ new.directory
      → renamed_in (held_of s marks old.directory) ≡ held_of over marks old.directory
  renamed_from other =
      ap (unnamed_in old.directory old.name.now) (put_away (held_of s marks old.directory) other)
      ∙ at_same old.directory old.directory _ _ refl
      ∙ (λ j. record {
        inode = old.directory;
        node = record (sym (replaced_from s tree old new inode replaced fits other) j)
            { mark = marks old.directory };
      })

  -- all but the slot of what is replaced
  renamed_each : (i : ℕ) → i ≢ replaced → renamed_in (held_of s marks i) ≡ held_of over marks i
  renamed_each i other =
      by_same i new.directory
      (λ e. ap (λ j. renamed_in (held_of s marks j)) e ∙ renamed_into ∙ ap (held_of over marks) (sym e))
      (λ into. by_same i old.directory
      (λ e. ap (λ j. renamed_in (held_of s marks j)) e ∙ renamed_from (λ same. into (e ∙ same))
      ∙ ap (held_of over marks) (sym e))
      (λ from. renamed_away (held_of s marks i) from into
      ∙ same_held s over marks i (after_elsewhere s number c (Replace old new inode replaced) i
      (from, (into, (other, tt))))))

  left_alone : renamed_in (held_of s marks replaced) ≡ held_of s marks replaced
  left_alone = renamed_away (held_of s marks replaced) (replaced_apart_old s tree old new inode replaced fits)
      (replaced_apart_new s tree old new inode replaced fits)

  idle : renamed_in vacant ≡ vacant
  idle = renamed_away vacant (λ e. from_some (sym e)) (λ e. into_some (sym e))

  made : (table' : Table) (lent' : List Held) (f : Held → Held) → IsTable over spares table' → lent' ≡ map f lent
      → ((k : ℕ) → account over marks table'.inodes k ≡ f (account s marks table.inodes k))
      → ((held : Held) → NotIn held.inode (old.directory ∷ new.directory ∷ replaced ∷ []) → f held ≡ held)
      → KeepsSlots table table' ⊎ GivesBack scene over hand table'
      → IsMade scene over hand (in_hand c spare table' slots lent')
  made table' lent' f counted done each spared free =
      made_by given over c table' lent' f
      (old.directory ∷ new.directory ∷ replaced ∷ []) counted
      (after_next s number c (Replace old new inode replaced)) (client_stays s over number c clients given.client) done
      each (from_some, (into_some, (replaced_some, tt))) covers.touched spared free
    where
      clients : over.clients ≡ s.clients
      clients = elim (lives moved replaced) as
          (λ b. (cond b moved (record moved { nodes = remove moved.nodes replaced })).clients ≡ s.clients)
          [ true ↦ refl | false ↦ refl ]

  -- what is replaced lives on
  pub replaced_alone : (table' : Table) (lent' : List Held) → IsTable over spares table' → lives moved replaced ≡ true
      → table'.inodes ≡ table.inodes → table'.free ≡ table.free → lent' ≡ map renamed_in lent
      → IsMade scene over hand (in_hand c spare table' slots lent')
  replaced_alone table' lent' counted living inodes free done =
      made table' lent' renamed_in counted done (λ k. ap (λ is. account over marks is k) inodes
      ∙ each_stays s over marks table.inodes renamed_in idle (λ i some. each i) k)
      (λ held away. renamed_away held away.0 away.1.0) (inl (record { inodes = inodes; free = free }))
    where
      each : (i : ℕ) → renamed_in (held_of s marks i) ≡ held_of over marks i
      each i =
          by_same i replaced
          (λ e. ap (λ j. renamed_in (held_of s marks j)) e ∙ left_alone
          ∙ same_held s over marks replaced (replaced_living s tree old new inode replaced fits living)
          ∙ ap (held_of over marks) (sym e))
          (renamed_each i)

  -- it goes
  pub replaced_whole : (table' : Table) (lent' : List Held) → IsTable over spares table'
      → table'.inodes ≡ without_inode table.inodes replaced
      → ((slot : ℕ) → get table.places replaced ≡ Some slot → table'.free ≡ table.free ++ slot ∷ [])
      → lent' ≡ map (λ held. vacated replaced (renamed_in held)) lent
      → IsMade scene over hand (in_hand c spare table' slots lent')
  replaced_whole table' lent' counted inodes free done =
      made table' lent' (λ held. vacated replaced (renamed_in held)) counted done
      (λ k. ap (λ is. account over marks is k) inodes
      ∙ each_but s over marks table.inodes (λ held. vacated replaced (renamed_in held)) idle_too replaced leaves
      each k)
      (λ held away. ap (vacated replaced) (renamed_away held away.0 away.1.0)
      ∙ at_other held.inode replaced vacant held away.1.1.0)
      (inr (given_back given replaced replaced_some covers.touched.1.1.0 over table' counted inodes free))
    where
      idle_too : vacated replaced (renamed_in vacant) ≡ vacant
      idle_too = ap (vacated replaced) idle ∙ at_other 0 replaced vacant vacant (λ e. replaced_some (sym e))

      leaves : vacated replaced (renamed_in (held_of s marks replaced)) ≡ vacant
      leaves = ap (vacated replaced) left_alone ∙ at_same replaced replaced vacant _ refl

      each : (i : ℕ) → i ≢ 0 → i ≢ replaced → vacated replaced (renamed_in (held_of s marks i)) ≡ held_of over marks i
      each i some other = ap (vacated replaced) (renamed_each i other) ∙ at_other i replaced vacant _ other
