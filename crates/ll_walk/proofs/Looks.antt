-- A look at what comes next tells slots of the tree, and is made from the slot in turn.
use Rattle.std.proofs.Common.{◌≡◌, ◌≢◌, ◌<◌, ℕ, length, Option, None, Some, ap, refl, subst}
use Rattle.std.specs.Sync.Mutex.{mutex_guard_value}
use Rattle.std.specs.declared.sync.MutexGuard.{MutexGuard}
use Rattle.std.specs.List.{AllByRecursion}
use Rattle.ll_seq.specs.declared.call.Call.{Call}
use Rattle.ll_journal.specs.Book.{Book}
use Rattle.ll_journal.specs.declared.next.Next.{Next}
use Rattle.ll_journal.specs.declared.next.Next.TheVariants as next
use Rattle.ll_journal.specs.NextStep.{CanBeLent, IsNamed}
use Rattle.ll_journal.specs.declared.progress.Progress.{Progress}
use Rattle.ll_journal.specs.declared.progress.Progress.TheVariants as progress
use Rattle.ll_client.specs.CallStart.{place_after}
use Rattle.ll_client.specs.Entries.{Kept}
use Rattle.ll_walk.specs.declared.held.Branch.{Branch}
use Rattle.ll_walk.specs.Sections.{AreThere, IsReady, leg_at}

pub are_there : (b : Book) (slots : ℕ) (it : Next) → length b.inodes ≡ slots → CanBeLent b it → AreThere slots it
are_there b slots next.Nothing is h = tt
are_there b slots next.Elsewhere is h = tt
are_there b slots (next.Restart needed) is h = subst (λ (n : ℕ). AllByRecursion (λ slot. slot < n) needed) is h.within
are_there b slots (next.Enter to) is h = subst (λ (n : ℕ). to < n) is h
are_there b slots (next.Descend on) is h = subst (λ (n : ℕ). on.slot < n) is h
are_there b slots next.Fork is h = tt
are_there b slots (next.Commit needed) is h = subst (λ (n : ℕ). AllByRecursion (λ slot. slot < n) needed) is h.within

pub is_ready : (b : Book) (slots : ℕ) (doing : Option Call) (here : Kept) (it : Next) → length b.inodes ≡ slots
    → CanBeLent b it → IsNamed doing here.held it → IsReady slots doing here it
is_ready b slots doing here it is lent named = (are_there b slots it is lent, named)

-- from where the walk is after a descent
module _ (slots : ℕ) (doing : Option Call) (from to : Kept) (it : Next) where
  pub ready_there : (p : Progress) (inode : ℕ) → p ≡ progress.Stands inode
      → IsReady slots doing (place_after p from to) it → IsReady slots doing to it
  ready_there p inode is = subst (λ (q : Progress). IsReady slots doing (place_after q from to) it) is

  pub ready_here : (p : Progress) → ((inode : ℕ) → p ≢ progress.Stands inode)
      → IsReady slots doing (place_after p from to) it → IsReady slots doing from it
  ready_here progress.NotNow not h = h
  ready_here progress.Astray not h = h
  ready_here (progress.Stands inode) not h = absurd (not inode refl)
  ready_here progress.Forked not h = h
  ready_here progress.Restarted not h = h

pub ready_as : (slots : ℕ) (doing doing' : Option Call) (here here' : Kept) (it it' : Next) → doing ≡ doing'
    → here ≡ here' → it ≡ it' → IsReady slots doing here it → IsReady slots doing' here' it'
ready_as slots doing doing' here here' it it' call place next =
    subst (λ (p : Option Call × (Kept × Next)). IsReady slots p.0 p.1.0 p.1.1)
    (λ i. (call i, (place i, next i)))

pub leg_at_fork : (seen : Option Branch) (common : MutexGuard Kept) (first second : Option (MutexGuard Kept))
    → seen ≡ None → leg_at seen common first second ≡ mutex_guard_value common
leg_at_fork seen common first second is =
    ap (λ (leg : Option Branch). leg_at leg common first second) is

pub leg_at_branch : (seen : Option Branch) (branch : Branch) (common : MutexGuard Kept)
    (first second : Option (MutexGuard Kept)) → seen ≡ Some branch
    → leg_at seen common first second ≡ leg_at (Some branch) common first second
leg_at_branch seen branch common first second is =
    ap (λ (leg : Option Branch). leg_at leg common first second) is
