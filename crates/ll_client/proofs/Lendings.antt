-- Slots that are lent one by one.
use Rattle.std.specs.Prelude.{◌≡◌, ◌≢◌, ℕ, ◌+◌, ◌*◌, ◌<◌, ◌≤◌, List, [], ◌∷◌, ◌++◌, map, length, None, refl}
use Rattle.std.specs.Ordering.{nat_cmp}
use Rattle.std.proofs.Common.{sym, ap, subst, ◌∙◌, arith}
use Rattle.std.proofs.lemmas.List.{length-append, map-append}
use Rattle.ll_rights.specs.Map.{Map, get}
use Rattle.ll_node.specs.declared.held.Held.{Held}
use Rattle.ll_node.specs.InodeTable.{AreDistinct, NotIn}
use Rattle.ll_journal.specs.Book.{Book, slot_of}
use Rattle.ll_client.specs.declared.account.Account.{Account}
use Rattle.ll_client.specs.Entries.{AreAccounts}
use Rattle.ll_client.specs.Hands.{AllOut, AreLent, SlotComes, SlotGoes}

-- two lists with a last element
no_more : {X : Type 0} (zs : List X) (x y z : X) → x ∷ [] ≡ z ∷ (zs ++ y ∷ []) → ⊥
no_more zs x y z e = let n = ap length e in let m = length-append zs (y ∷ []) in omega (arith, n, m)

same_last : {X : Type 0} (xs ys : List X) (x y : X) → xs ++ x ∷ [] ≡ ys ++ y ∷ [] → (xs ≡ ys) × (x ≡ y)
same_last [] [] x y e = (refl, cc e)
same_last [] (z ∷ zs) x y e = absurd (no_more zs x y z e)
same_last (z ∷ zs) [] x y e = absurd (no_more zs y x z (sym e))
same_last (z ∷ zs) (w ∷ ws) x y e =
    let tails : zs ++ x ∷ [] ≡ ws ++ y ∷ [] = cc e in
    let heads : z ≡ w = cc e in
    let r = same_last zs ws x y tails in (λ i. heads i ∷ r.0 i, r.1)

out_more : (ks : List ℕ) (k : ℕ) (m : Map nat_cmp Account) → AllOut (k ∷ ks) m → AllOut (ks ++ k ∷ []) m
out_more [] k m out = out
out_more (j ∷ ks) k m out = (out.1.0, out_more ks k m (out.0, out.1.1))

out_less : (ks : List ℕ) (k : ℕ) (m : Map nat_cmp Account) → AllOut (ks ++ k ∷ []) m
    → (get m (3 * k) ≡ None) × AllOut ks m
out_less [] k m out = (out.0, tt)
out_less (j ∷ ks) k m out = let r = out_less ks k m out.1 in (r.0, (out.0, r.1))

not_more : (ks : List ℕ) (j k : ℕ) → NotIn j ks → j ≢ k → NotIn j (ks ++ k ∷ [])
not_more [] j k away other = (other, tt)
not_more (i ∷ ks) j k away other = (away.0, not_more ks j k away.1 other)

not_less : (ks : List ℕ) (j k : ℕ) → NotIn j (ks ++ k ∷ []) → NotIn j ks × (j ≢ k)
not_less [] j k away = (tt, away.0)
not_less (i ∷ ks) j k away = let r = not_less ks j k away.1 in ((away.0, r.0), r.1)

distinct_more : (ks : List ℕ) (k : ℕ) → AreDistinct ks → NotIn k ks → AreDistinct (ks ++ k ∷ [])
distinct_more [] k each away = (tt, tt)
distinct_more (j ∷ ks) k each away =
    (not_more ks j k each.0 (λ same. away.0 (sym same)), distinct_more ks k each.1 away.1)

distinct_less : (ks : List ℕ) (k : ℕ) → AreDistinct (ks ++ k ∷ []) → AreDistinct ks × NotIn k ks
distinct_less [] k each = (tt, tt)
distinct_less (j ∷ ks) k each =
    let r = distinct_less ks k each.1 in
    let n = not_less ks j k each.0 in ((n.0, r.0), (λ same. n.1 (sym same), r.1))

-- one more slot is lent
pub lent_more : (b : Book) (m n : Map nat_cmp Account) (c k : ℕ) (held : Held) (ks ns : List ℕ) (hs gs : List Held)
    → AreLent b m c ks hs → SlotGoes k m n → AreAccounts b n → held ≡ slot_of b k → ns ≡ ks ++ k ∷ []
    → gs ≡ hs ++ held ∷ [] → AreLent b n c ns gs
lent_more b m n c k held ks ns hs gs l goes all is at held_are =
    let out = goes.out ks l.out in
    record {
      all = all;
      few = l.few;
      distinct = subst AreDistinct (sym at) (distinct_more ks k l.distinct out.1);
      out = subst (λ x. AllOut x n) (sym at) (out_more ks k n out.0);
      alone = goes.clients c ∙ l.alone;
      held_is = held_are ∙ (λ i. l.held_is i ++ is i ∷ []) ∙ sym (map-append (slot_of b) ks (k ∷ []))
          ∙ ap (map (slot_of b)) (sym at);
    }

pub room_more : (ks ns : List ℕ) (k m most : ℕ) → ns ≡ ks ++ k ∷ [] → length ks + m < most → length ns + m ≤ most
room_more ks ns k m most at room =
    let n = ap length at in let j = length-append ks (k ∷ []) in omega (arith, n, j, room)

-- the last slot that is lent
pub last_out : (b : Book) (m : Map nat_cmp Account) (c k : ℕ) (ks ns : List ℕ) (hs : List Held) → AreLent b m c ns hs
    → ns ≡ ks ++ k ∷ [] → get m (3 * k) ≡ None
last_out b m c k ks ns hs l is = (out_less ks k m (subst (λ n. AllOut n m) is l.out)).0

pub lent_less : (b : Book) (m n : Map nat_cmp Account) (c k j : ℕ) (held : Held) (ks js ns : List ℕ) (hs gs : List Held)
    → AreLent b m c ns gs → ns ≡ ks ++ k ∷ [] → ns ≡ js ++ j ∷ [] → gs ≡ hs ++ held ∷ [] → SlotComes k c m n
    → AreAccounts b n → AreLent b n c js hs
lent_less b m n c k j held ks js ns hs gs l is at held_are comes all =
    let same : js ≡ ks = (same_last js ks j k (sym at ∙ is)).0 in
    let apart = distinct_less ks k (subst AreDistinct is l.distinct) in
    let out = out_less ks k m (subst (λ x. AllOut x m) is l.out) in
    let helds = same_last hs (map (slot_of b) ks) held (slot_of b k)
    (sym held_are ∙ l.held_is ∙ ap (map (slot_of b)) is ∙ map-append (slot_of b) ks (k ∷ [])) in
    record {
      all = all;
      few = l.few;
      distinct = subst AreDistinct (sym same) apart.0;
      out = subst (λ x. AllOut x n) (sym same) (comes.out ks apart.1 out.1);
      alone = comes.client l.alone;
      held_is = helds.0 ∙ ap (map (slot_of b)) (sym same);
    }
