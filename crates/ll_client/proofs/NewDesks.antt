-- A tree that is opened: what has to lie in its slots, and passes given out one after the other.
use Rattle.std.specs.Prelude.{◌≡◌, ℕ, zero, suc, ◌+◌, ◌-◌, ◌≤◌, ◌==◌, cond, length, replicate, slice_index_or, refl}
use Rattle.std.specs.Ordering.{nat_cmp}
use Rattle.std.proofs.Common.{sym, subst, ap, ◌∙◌, arith}
use Rattle.std.proofs.lemmas.Bool.{ne_eqb}
use Rattle.std.proofs.lemmas.List.{length-replicate}
use Rattle.ll_rights.specs.declared.kind.Kind.TheVariants.{Dir}
use Rattle.ll_rights.specs.declared.limits.TheConstants.{TREE_CLIENTS, TREE_NODES}
use Rattle.ll_rights.specs.Map.{Map, empty, checked, get, insert, remove, entries, from_sorted}
use Rattle.ll_rights.proofs.Maps.{get-empty}
use Rattle.ll_seq.specs.declared.rules.Rules.{Rules}
use Rattle.ll_seq.specs.State.{root}
use Rattle.ll_node.specs.Lent.{vacant, filled}
use Rattle.ll_laws.specs.World.{new_world}
use Rattle.ll_laws.specs.Sound.{IsSound}
use Rattle.ll_laws.proofs.SoundSteps.{sound_start}
use Rattle.ll_journal.specs.Book.{Book, new_book, slot_of, held_of}
use Rattle.ll_client.specs.declared.account.Account.{Account}
use Rattle.ll_client.specs.Entries.{AreAccounts, AreInOrder, IsDesk}
use Rattle.ll_client.specs.Hands.{held_first}
use Rattle.ll_client.proofs.Orders.{none_in_order}

root_account : (rules : Rules) (room limit : ℕ) → held_of (new_world rules room limit) root ≡ filled root Dir
unfolding empty checked get insert remove entries from_sorted
root_account rules room limit = refl

zeros : (n j : ℕ) → let none : ℕ = 0 in slice_index_or (replicate n none) j none ≡ none
zeros zero j = refl
zeros (suc n) zero = refl
zeros (suc n) (suc j) = zeros n j

pub first_slots : (rules : Rules) (room limit : ℕ) (b : Book) → b ≡ new_book rules room limit → (k : ℕ)
    → slot_of b k ≡ held_first k
first_slots rules room limit b e k = ap (λ (x : Book). slot_of x k) e ∙ at k
  where
    at : (k : ℕ) → slot_of (new_book rules room limit) k ≡ held_first k
    at zero = root_account rules room limit
    at (suc j) = ap (λ i. cond (i == 0) vacant (held_of (new_world rules room limit) i))
        (zeros (room + TREE_CLIENTS - 1) j)
        ∙ sym (ap (λ b. cond b (filled root Dir) vacant) (ne_eqb (suc j) 0 (λ f. omega (arith, f))))

pub count_slots : (rules : Rules) (room limit : ℕ) (b : Book) → b ≡ new_book rules room limit → 1 ≤ room
    → length b.inodes ≡ room + TREE_CLIENTS
count_slots rules room limit b e some =
    let rest : length (replicate {A = ℕ} (room + TREE_CLIENTS - 1) 0) ≡ room + TREE_CLIENTS - 1 =
    length-replicate (room + TREE_CLIENTS - 1) 0 in
    ap (λ (x : Book). length x.inodes) e ∙ (omega (arith, rest, some))

pub none_out : (b : Book) (m : Map nat_cmp Account) → m ≡ empty → AreAccounts b m
none_out b m e key x at = absurd
    (cc (sym at ∙ ap (λ (n : Map nat_cmp Account). get n key) e ∙ get-empty Account nat_cmp key))

pub desk_new : (slots limit : ℕ) (named : Rules) (rules : Rules) (room history : ℕ) (b : Book) (m : Map nat_cmp Account)
    → b ≡ new_book rules room history → 1 ≤ room → room ≤ TREE_NODES → slots ≡ room + TREE_CLIENTS
    → limit ≡ history → named ≡ rules → AreAccounts b m → IsDesk slots limit named b m
desk_new slots limit named rules room history b m e some most size bound same all =
    let count = count_slots rules room history b e some in
    record {
      accounts = all;
      sound = subst (λ (x : Book). IsSound x.world) (sym e) (sound_start rules room history);
      numbered = subst (λ (x : Book). AreInOrder x.world.rules x.world.room x.world.history) (sym e)
          (none_in_order rules room);
      within = subst (λ (x : Book). length x.world.history ≤ x.world.limit) (sym e) (omega arith);
      limit_is = ap (λ (x : Book). x.world.limit) e ∙ sym bound;
      rules_are = ap (λ (x : Book). x.world.rules) e ∙ sym same;
      room_is = ap (λ (x : Book). x.world.room + TREE_CLIENTS) e ∙ sym size;
      slots_are = count ∙ sym size;
      few = omega (arith, count, most);
    }
