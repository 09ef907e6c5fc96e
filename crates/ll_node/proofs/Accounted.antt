-- What lies in slots after a change that does the same to each: those that are lent, and the others.
use Rattle.std.specs.Prelude.{◌≡◌, ◌≢◌, ℕ, zero, suc, true, false, cond, ◌||◌, ◌==◌, List, [], ◌∷◌, map, Option, Some}
use Rattle.std.specs.Prelude.{slice_get, slice_index_or, refl}
use Rattle.std.specs.List.{AllByRecursion, list_any}
use Rattle.std.specs.Ordering.{nat_cmp}
use Rattle.std.proofs.Common.{sym, subst, ap, ◌∙◌}
use Rattle.std.proofs.lemmas.Bool.{eqb-true, eq-eqb}
use Rattle.ll_rights.specs.Map.{Map}
use Rattle.ll_laws.proofs.Chains.{same_Some}
use Rattle.ll_seq.specs.State.{State}
use Rattle.ll_node.specs.declared.held.Held.{Held}
use Rattle.ll_node.specs.Lent.{vacant, AreApart, Misses}
use Rattle.ll_node.specs.InodeTable.{ArePlaced, AreDistinct, NotIn}
use Rattle.ll_node.specs.Accounts.{account, accounts}
use Rattle.ll_node.proofs.SlotAccounts.{content_of}

abbrev pub inode_at : List ℕ → ℕ → ℕ
inode_at inodes k = slice_index_or inodes k 0

-- the account of a slot where an inode lies, and of a vacant one
pub account_held : (s : State) (marks : ℕ → Option ℕ) (inodes : List ℕ) (k i : ℕ) → inode_at inodes k ≡ i → i ≢ 0
    → account s marks inodes k ≡ record { inode = i; node = record (content_of s i) { mark = marks i } }
account_held s marks inodes k i at some =
    elim (inode_at inodes k == 0) as (λ b. (inode_at inodes k == 0) ≡ b
    → cond b vacant (record {
      inode = inode_at inodes k;
      node = record (content_of s (inode_at inodes k)) { mark = marks (inode_at inodes k) };
    })
    ≡ record { inode = i; node = record (content_of s i) { mark = marks i } }) [
      | true ↦ λ e. absurd (some (sym at ∙ eqb-true (inode_at inodes k) 0 e))
      | false ↦ λ e. ap (λ (x : ℕ). record { inode = x; node = record (content_of s x) { mark = marks x } }) at
    ] refl

pub account_vacant : (s : State) (marks : ℕ → Option ℕ) (inodes : List ℕ) (k : ℕ) → inode_at inodes k ≡ 0
    → account s marks inodes k ≡ vacant
account_vacant s marks inodes k none =
    ap (λ b. cond b vacant (record {
      inode = inode_at inodes k;
      node = record (content_of s (inode_at inodes k)) { mark = marks (inode_at inodes k) };
    }))
    (eq-eqb (inode_at inodes k) 0 none)

pub account_inode : (s : State) (marks : ℕ → Option ℕ) (inodes : List ℕ) (k : ℕ)
    → (account s marks inodes k).inode ≡ inode_at inodes k
account_inode s marks inodes k =
    elim (inode_at inodes k == 0) as (λ b. (inode_at inodes k == 0) ≡ b
    → (cond b vacant (record {
      inode = inode_at inodes k;
      node = record (content_of s (inode_at inodes k)) { mark = marks (inode_at inodes k) };
    })).inode
    ≡ inode_at inodes k) [
      | true ↦ λ e. sym (eqb-true (inode_at inodes k) 0 e)
      | false ↦ λ e. refl
    ] refl

-- a slot whose inode stays, and so does that inode's content
pub account_kept : (s t : State) (marks : ℕ → Option ℕ) (inodes inodes' : List ℕ) (k : ℕ)
    → inode_at inodes' k ≡ inode_at inodes k
    → (inode_at inodes k ≢ 0 → content_of t (inode_at inodes k) ≡ content_of s (inode_at inodes k))
    → account t marks inodes' k ≡ account s marks inodes k
account_kept s t marks inodes inodes' k same content =
    elim (inode_at inodes k == 0) as (λ b. (inode_at inodes k == 0) ≡ b
    → account t marks inodes' k ≡ account s marks inodes k) [
      | true ↦ λ e. let none = eqb-true (inode_at inodes k) 0 e in
          account_vacant t marks inodes' k (same ∙ none) ∙ sym (account_vacant s marks inodes k none)
      | false ↦ λ e. let some : inode_at inodes k ≢ 0 = (λ z. cc (sym e ∙ eq-eqb (inode_at inodes k) 0 z)) in
          account_held t marks inodes' k (inode_at inodes k) same some
          ∙ ap (λ c. record { inode = inode_at inodes k; node = record c { mark = marks (inode_at inodes k) } })
          (content some)
          ∙ sym (account_held s marks inodes k (inode_at inodes k) refl some)
    ] refl

-- what is done to each account is done to those that are lent
pub told_by : (s t : State) (marks : ℕ → Option ℕ) (inodes inodes' : List ℕ) (f : Held → Held)
    → ((k : ℕ) → account t marks inodes' k ≡ f (account s marks inodes k)) → (slots : List ℕ)
    → map f (accounts s marks inodes slots) ≡ accounts t marks inodes' slots
told_by s t marks inodes inodes' f same [] = refl
told_by s t marks inodes inodes' f same (k ∷ slots) =
    λ i. sym (same k) i ∷ told_by s t marks inodes inodes' f same slots i

-- ---- an inode lies in one slot

pub got : (xs : List ℕ) (k i : ℕ) → inode_at xs k ≡ i → i ≢ 0 → slice_get xs k ≡ Some i
got [] k i at some = absurd (some (sym at))
got (x ∷ xs) zero i at some = ap Some at
got (x ∷ xs) (suc k) i at some = got xs k i at some

module _ (inodes : List ℕ) (places : Map nat_cmp ℕ) (placed : ArePlaced inodes places) where
  pub one_slot : (k l i : ℕ) → i ≢ 0 → inode_at inodes k ≡ i → inode_at inodes l ≡ i → k ≡ l
  one_slot k l i some at there =
      same_Some k l (sym (placed.lies k i (got inodes k i at some) some)
      ∙ placed.lies l i (got inodes l i there some) some)

  -- so what lies in one that is lent lies in no other
  pub not_here : (i : ℕ) → i ≢ 0 → (slots : List ℕ) → list_any (λ k. inode_at inodes k == i) slots ≡ true → (k : ℕ)
      → NotIn k slots → inode_at inodes k ≢ i
  not_here i some [] any k out same = absurd (cc any)
  not_here i some (l ∷ slots) any k out same =
      elim (inode_at inodes l == i) as (λ b. (inode_at inodes l == i) ≡ b
      → (b || list_any (λ k. inode_at inodes k == i) slots) ≡ true → ⊥) [
        | true ↦ λ e f. out.0 (one_slot k l i some same (eqb-true (inode_at inodes l) i e))
        | false ↦ λ e f. not_here i some slots f k out.1 same
      ] refl any

  missed : (s : State) (marks : ℕ → Option ℕ) (k : ℕ) (slots : List ℕ) → inode_at inodes k ≢ 0 → NotIn k slots
      → Misses (inode_at inodes k) (accounts s marks inodes slots)
  missed s marks k [] some out = tt
  missed s marks k (l ∷ slots) some out = (
    λ e. out.0 (one_slot k l (inode_at inodes k) some refl (sym (account_inode s marks inodes l) ∙ e)),
    missed s marks k slots some out.1,
  )

  -- and no two of the slots that are lent have one
  pub lent_apart : (s : State) (marks : ℕ → Option ℕ) (slots : List ℕ) → AreDistinct slots
      → AreApart (accounts s marks inodes slots)
  lent_apart s marks [] apart = tt
  lent_apart s marks (k ∷ slots) apart = (
    λ some. subst (λ i. Misses i (accounts s marks inodes slots)) (sym (account_inode s marks inodes k))
        (missed s marks k slots (λ z. some (account_inode s marks inodes k ∙ z)) apart.0),
    lent_apart s marks slots apart.1,
  )

-- what holds of each account holds of those that are lent
pub all_lent : (P : Held → Type 0) (s : State) (marks : ℕ → Option ℕ) (inodes : List ℕ)
    → ((k : ℕ) → P (account s marks inodes k)) → (slots : List ℕ) → AllByRecursion P (accounts s marks inodes slots)
all_lent P s marks inodes each [] = tt
all_lent P s marks inodes each (k ∷ slots) = (each k, all_lent P s marks inodes each slots)
