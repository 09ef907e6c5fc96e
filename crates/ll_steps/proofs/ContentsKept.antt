-- What has to lie in the slots, before and after a step.
use Rattle.std.specs.Prelude.{◌≡◌, ◌≢◌, ℕ, zero, suc, ◌+◌, ◌-◌, ◌<◌, ◌≤◌, List, [], ◌∷◌, map, length, replicate}
use Rattle.std.specs.Prelude.{slice_index_or, cond, ◌==◌, Result, Ok, Err, OnOk, OnErr, refl}
use Rattle.std.specs.List.{range_with_len}
use Rattle.std.proofs.Common.{sym, ap, subst, ◌∙◌, arith}
use Rattle.std.proofs.lemmas.List.{length-replicate}
use Rattle.std.proofs.lemmas.List.FromFn.{get_or-map-range_with_len, length-map-range_with_len, fill_by_all}
use Rattle.ll_rights.specs.declared.kind.Kind.TheVariants.{Dir}
use Rattle.ll_rights.specs.declared.limits.TheConstants.{TREE_CLIENTS}
use Rattle.ll_rights.specs.Map.{empty, checked, get, insert, remove, entries, from_sorted}
use Rattle.ll_seq.specs.declared.rules.Rules.{Rules}
use Rattle.ll_seq.specs.State.{root}
use Rattle.ll_node.specs.declared.held.Held.{Held}
use Rattle.ll_node.specs.Lent.{vacant, filled}
use Rattle.ll_seq.specs.declared.call.Call.{Call}
use Rattle.ll_laws.specs.declared.step.Step.{Step}
use Rattle.ll_laws.specs.declared.step.Step.TheVariants.{Begin}
use Rattle.ll_laws.specs.Sound.{IsSound}
use Rattle.ll_laws.specs.World.{World, Outcome, NotNow, Begun, Stands, Forked, Restarted, new_world, advance}
use Rattle.ll_laws.proofs.SoundSteps.{sound_start, sound_kept}
use Rattle.ll_journal.specs.Book.{Book, Spares, new_book, slot_of, held_of}
use Rattle.ll_journal.specs.Steps.{Does}
use Rattle.ll_journal.specs.declared.progress.Progress as told
use Rattle.ll_journal.specs.declared.progress.Progress.TheVariants as tells
use Rattle.ll_journal.specs.SlotTree.{accounts_of}
use Rattle.ll_steps.specs.Contents.{held_at, told_as, IsKept}
use Rattle.ll_steps.specs.Makes.{Makes}
use Rattle.ll_laws.proofs.Growth.{still_within}

-- ---- of a new tree

root_account : (rules : Rules) (room limit : ℕ) → held_of (new_world rules room limit) root ≡ filled root Dir
unfolding empty checked get insert remove entries from_sorted
root_account rules room limit = refl

vacant_accounts : (b : Book) (first count : ℕ) → ((k : ℕ) → first ≤ k → slot_of b k ≡ vacant)
    → map (slot_of b) (range_with_len first count) ≡ replicate count vacant
vacant_accounts b first zero all = refl
vacant_accounts b first (suc count) all =
    λ i. all first (omega arith) i ∷ vacant_accounts b (first + 1) count (λ k le. all k (omega arith)) i

zeros : (n j : ℕ) → let none : ℕ = 0 in slice_index_or (replicate n none) j none ≡ none
zeros zero j = refl
zeros (suc n) zero = refl
zeros (suc n) (suc j) = zeros n j

no_inode : (n k : ℕ) → 1 ≤ k → let none : ℕ = 0 in slice_index_or (root ∷ replicate n none) k none ≡ none
no_inode n zero le = absurd (omega arith)
no_inode n (suc j) le = zeros n j

pub kept_new : (rules : Rules) (room limit : ℕ) (b : Book) (slots : List Held) → b ≡ new_book rules room limit
    → slots ≡ filled root Dir ∷ replicate (room + TREE_CLIENTS - 1) vacant → IsKept b slots
kept_new rules room limit b slots f e = subst (λ (b : Book). IsKept b slots) (sym f) (record {
  accounts =
      let n = room + TREE_CLIENTS - 1 in
      let rest : map (slot_of (new_book rules room limit)) (range_with_len 1 (length (replicate {A = ℕ} n 0)))
      ≡ replicate n vacant =
      vacant_accounts (new_book rules room limit) 1 (length (replicate {A = ℕ} n 0))
      (λ k le. ap (λ i. cond (i == 0) vacant (held_of (new_world rules room limit) i)) (no_inode n k le))
      ∙ ap (λ m. replicate m vacant) (length-replicate n 0) in
      e ∙ (λ i. sym (root_account rules room limit) i ∷ sym rest i);
  sound = sound_start rules room limit;
  within = omega arith;
})

-- ---- after a step

-- what lies in a slot before it
pub account_at : (b : Book) (slots : List Held) (k : ℕ) → slots ≡ accounts_of b → k < length b.inodes
    → held_at slots k ≡ slot_of b k
account_at b slots k e lt = ap (λ xs. held_at xs k) e
    ∙ get_or-map-range_with_len (slot_of b) 0 (length b.inodes) k k vacant lt (omega arith)

pub length_accounts : (b : Book) → length (accounts_of b) ≡ length b.inodes
length_accounts b = length-map-range_with_len (slot_of b) 0 (length b.inodes)

-- where each slot's content is told
pub filled_so : (b : Book) (slots : List Held) → length slots ≡ length b.inodes
    → ((k : ℕ) → k < length b.inodes → held_at slots k ≡ slot_of b k) → slots ≡ accounts_of b
filled_so b slots size each = fill_by_all (slot_of b) slots (length b.inodes) vacant size each

pub same_accounts : (b b' : Book) → Spares b b' [] → accounts_of b ≡ accounts_of b'
same_accounts b b' s = λ i. map (λ j. sym (s.slots j tt) i) (range_with_len 0 (sym s.size i))

-- the step is made, and the slots have what they have to
pub kept_on : (b b' : Book) (slots new : List Held) (step' : Step) (o : Outcome) → IsKept b slots
    → advance b.world step' ≡ (o, b'.world) → new ≡ accounts_of b' → IsKept b' new
kept_on b b' slots new step' o h is e = record {
  accounts = e;
  sound = subst (λ (p : Outcome × World). IsSound p.1) is (sound_kept b.world step' h.sound);
  within = subst (λ (p : Outcome × World). length p.1.history ≤ p.1.limit) is (still_within b.world step' h.within);
}

-- with no slot lent
pub kept_alone : (b b' : Book) (slots : List Held) (step' : Step) (o : Outcome) → IsKept b slots
    → advance b.world step' ≡ (o, b'.world) → Spares b b' [] → IsKept b' slots
kept_alone b b' slots step' o h is s = kept_on b b' slots slots step' o h is (h.accounts ∙ same_accounts b b' s)

pub kept_same : (b b' : Book) (slots : List Held) → IsKept b slots → b' ≡ b → IsKept b' slots
kept_same b b' slots h e = subst (λ (b : Book). IsKept b slots) (sym e) h

-- ---- what the journal tells

pub does_advance : (b b' : Book) (step' : Step) (o : told.Progress) → o ≢ tells.Astray → Does b step' o b'
    → (p : Outcome) × (advance b.world step' ≡ (p, b'.world))
does_advance b b' step' tells.NotNow near d = (NotNow, d)
does_advance b b' step' tells.Astray near d = absurd (near refl)
does_advance b b' step' (tells.Stands inode) near d = (Stands inode, d)
does_advance b b' step' tells.Forked near d = (Forked, d)
does_advance b b' step' tells.Restarted near d = (Restarted, d)

pub does_make : (b b' : Book) (step' : Step) (o : told.Progress) → o ≢ tells.Astray → Does b step' o b'
    → Makes b.world step' (told_as o) b'.world
does_make b b' step' tells.NotNow near d = d
does_make b b' step' tells.Astray near d = absurd (near refl)
does_make b b' step' (tells.Stands inode) near d = d
does_make b b' step' tells.Forked near d = d
does_make b b' step' tells.Restarted near d = d

pub fork_keeps : (b b' : Book) (slots : List Held) (step' : Step) (o : told.Progress) → IsKept b slots
    → o ≢ tells.Astray
    → Does b step' o b' → Spares b b' [] → IsKept b' slots
fork_keeps b b' slots step' o h near d s = let a = does_advance b b' step' o near d in
    kept_alone b b' slots step' a.0 h a.1 s

pub begin_keeps : (b b' : Book) (slots : List Held) (client : ℕ) (call : Call) (r : Result (Unit {0}) Call)
    → IsKept b slots
    → OnOk r (advance b.world (Begin client call) ≡ (Begun, b'.world)) → OnErr r (b' ≡ b) → Spares b b' []
    → IsKept b' slots
begin_keeps b b' slots client call (Ok o) h begun same s = kept_alone b b' slots (Begin client call) Begun h begun s
begin_keeps b b' slots client call (Err e) h begun same s = kept_same b b' slots h same
