-- What a descent asks where its directory is the one to which the walk would go down: only that it has no mark.
use Rattle.std.specs.Prelude.{◌≡◌, ◌≢◌, ℕ, suc, true, false, cond, not, ◌==◌, Option, Some, None, is_none}
use Rattle.std.specs.Prelude.{slice_get, refl}
use Rattle.std.specs.Ordering.{nat_cmp}
use Rattle.std.proofs.Common.{sym, subst, ap, ◌∙◌}
use Rattle.std.proofs.lemmas.Bool.{eqb-true}
use Rattle.ll_rights.specs.Map.{Map, get}
use Rattle.ll_seq.specs.declared.facts.Fact.{Fact}
use Rattle.ll_seq.specs.State.{Name}
use Rattle.ll_node.specs.declared.held.Held.{Held}
use Rattle.ll_journal.specs.declared.journal.Journal.TheInside.{Inside}
use Rattle.ll_journal.specs.declared.check_step.StepCheck.{StepCheck}
use Rattle.ll_journal.specs.declared.check_step.StepCheck.TheVariants.{NotNow, Astray, Go}
use Rattle.ll_journal.specs.Book.{Book, Seat, slot_of}
use Rattle.ll_journal.specs.Kept.{IsKept, book_of}
use Rattle.ll_journal.specs.Checks.{goes_on, check_descend, look_from, check_next, check_into, is_directory}
use Rattle.ll_journal.specs.Checks.{directory_below, directory_from, directory_for, directory_at}
use Rattle.ll_journal.specs.Seated.{here_in, next_in}
use Rattle.ll_journal.specs.Steps.{GoesDown, IsAstrayBelow, IsNext}
use Rattle.ll_journal.proofs.Descents as To
use Rattle.ll_journal.proofs.Descents.{down_astray, down_goes}
use Rattle.ll_journal.proofs.LentAfter.{inode_is}
use Rattle.ll_journal.proofs.Looks.{next_is, next_none}

-- ---- what is checked of the directory that a look finds

module _ (facts : Map nat_cmp Fact) (from to : Held) where
  abbrev by_mark : StepCheck
  by_mark = cond (is_none to.node.mark) Go NotNow

  -- by the inode of the directory to go down to
  abbrev Checked : Option ℕ → StepCheck → Type 0
  Checked None check = check ≢ Go
  Checked (Some i) check = check ≡ cond (not (to.inode == i)) Astray by_mark

  checked_at : (o : Option ℕ) → Checked (directory_at facts o) (check_into facts o to)
  checked_at None = λ e. cc e
  checked_at (Some i) = elim (is_directory facts i) as (λ b. Checked (cond b (Some i) None)
      (cond (not b) NotNow (cond (not (to.inode == i)) Astray by_mark))) [ true ↦ refl | false ↦ λ e. cc e ]

  checked_for : (n : Option Name) → Checked (directory_for facts n from) (check_next facts n from to)
  checked_for None = λ e. cc e
  checked_for (Some name) = checked_at (get from.node.names name)

  checked_from : (o : Option ℕ) (n : Option Name)
      → Checked (directory_from facts o n from) (look_from facts o n from to)
  checked_from None n = λ e. cc e
  checked_from (Some here) n = elim (from.inode == here) as (λ b. Checked (cond b (directory_for facts n from) None)
      (cond b (check_next facts n from to) Astray)) [ true ↦ checked_for n | false ↦ λ e. cc e ]

  checked : (seat : Seat) → Checked (directory_below facts seat from) (check_descend facts seat from to)
  checked seat = elim (goes_on seat) as (λ b.
      Checked (cond b (directory_from facts (here_in seat) (next_in seat) from) None)
      (cond (not b) NotNow (look_from facts (here_in seat) (next_in seat) from to)))
      [ true ↦ checked_from (here_in seat) (next_in seat) | false ↦ λ e. cc e ]

  -- it goes where the directory is this one, which has no mark
  there : (i : ℕ) → cond (not (to.inode == i)) Astray by_mark ≡ Go → (to.inode ≡ i) × (is_none to.node.mark ≡ true)
  there i = elim (to.inode == i) as (λ b. (to.inode == i) ≡ b → cond (not b) Astray by_mark ≡ Go
      → (to.inode ≡ i) × (is_none to.node.mark ≡ true)) [
        | true ↦ λ same e. (eqb-true to.inode i same, unmarked e)
        | false ↦ λ other e. absurd (cc e)
      ] refl
    where
      unmarked : by_mark ≡ Go → is_none to.node.mark ≡ true
      unmarked = elim (is_none to.node.mark) as (λ b. cond b Go NotNow ≡ Go → b ≡ true)
          [ true ↦ λ e. refl | false ↦ λ e. absurd (cc e) ]

  pub goes_there : (seat : Seat) → check_descend facts seat from to ≡ Go
      → (directory_below facts seat from ≡ Some to.inode) × (is_none to.node.mark ≡ true)
  goes_there seat e = by (directory_below facts seat from) refl (checked seat)
    where
      by : (o : Option ℕ) → directory_below facts seat from ≡ o → Checked o (check_descend facts seat from to)
          → (directory_below facts seat from ≡ Some to.inode) × (is_none to.node.mark ≡ true)
      by None is never = absurd (never e)
      by (Some i) is check = let at = there i (sym check ∙ e) in (is ∙ ap Some (sym at.0), at.1)

  pub by_below : (seat : Seat) (i : ℕ) → directory_below facts seat from ≡ Some i
      → check_descend facts seat from to ≡ cond (not (to.inode == i)) Astray by_mark
  by_below seat i is = by (directory_below facts seat from) is (checked seat)
    where
      by : (o : Option ℕ) → o ≡ Some i → Checked o (check_descend facts seat from to)
          → check_descend facts seat from to ≡ cond (not (to.inode == i)) Astray by_mark
      by None e check = absurd (cc e)
      by (Some k) e check = let same : k ≡ i = cc in
          check ∙ ap (λ n. cond (not (to.inode == n)) Astray by_mark) same

-- the slots are those of a descent that is told
pub not_astray : (b : Book) (number k l : ℕ) → IsNext b number k l → IsAstrayBelow b number k l → ⊥
not_astray b number k l next astray =
    let other = astray.1 next.leg next.in_turn next.from_here in
    other.2 (next.to_there ∙ cc (sym next.further_is ∙ other.1))

-- ---- the slot that a look tells

module _ (j : Inside) (h : IsKept j) (number place : ℕ) (seat : Seat) (at : slice_get j.seats.items place ≡ Some seat)
    (numbered : number ≡ suc place)
    (k l : ℕ) (from to : Held) (lent_from : from ≡ slot_of (book_of j) k) (lent_to : to ≡ slot_of (book_of j) l) where
  -- a descent that goes leads to it
  pub goes_next : check_descend j.table.facts seat from to ≡ Go → IsNext (book_of j) number k l
  goes_next e = next_is j h number place seat at numbered k from lent_from to.inode
      (goes_there j.table.facts from to seat e).0 l (sym (inode_is (book_of j) l to lent_to))

  module _ (next : IsNext (book_of j) number k l) where
    goes_down : GoesDown (book_of j) number k
    goes_down = record {
      going = next.going;
      leg = next.leg;
      next = next.next;
      in_turn = next.in_turn;
      further_is = next.further_is;
      from_here = next.from_here;
    }

    pub only_mark : check_descend j.table.facts seat from to ≡ by_mark j.table.facts from to
    only_mark = by (directory_below j.table.facts seat from) refl
      where
        found : (i : ℕ) → directory_below j.table.facts seat from ≡ Some i
            → check_descend j.table.facts seat from to ≡ by_mark j.table.facts from to
        found i is = elim (to.inode == i) as (λ b.
            check_descend j.table.facts seat from to ≡ cond (not b) Astray (by_mark j.table.facts from to)
            → check_descend j.table.facts seat from to ≡ by_mark j.table.facts from to) [
              | true ↦ λ e. e
              | false ↦ λ e. absurd (not_astray (book_of j) number k l next
                  (down_astray j h number place seat at numbered k l from to lent_from lent_to e))
            ] (by_below j.table.facts from to seat i is)

        by : (o : Option ℕ) → directory_below j.table.facts seat from ≡ o
            → check_descend j.table.facts seat from to ≡ by_mark j.table.facts from to
        by None is = absurd (next_none j h number place seat at numbered k from lent_from is goes_down)
        by (Some i) is = found i is

  -- one without a mark is gone down to
  pub next_goes : IsNext (book_of j) number k l → to.node.mark ≡ None → To.GoesDown j number seat from to
  next_goes next free = down_goes j h number place seat at numbered k l from to lent_from lent_to
      (only_mark next ∙ ap (λ (o : Option ℕ). cond (is_none o) Go NotNow) free)

-- where a book is the journal's
pub lent_here : (b b' : Book) (k : ℕ) (held : Held) → b ≡ b' → held ≡ slot_of b' k → held ≡ slot_of b k
lent_here b b' k held e is = subst (λ (c : Book). held ≡ slot_of c k) (sym e) is

pub next_here : (b b' : Book) (number k l : ℕ) → b ≡ b' → IsNext b' number k l → IsNext b number k l
next_here b b' number k l e next = subst (λ (c : Book). IsNext c number k l) (sym e) next
