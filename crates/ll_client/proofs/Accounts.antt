-- The accounts whose passes are out, at each step under the journal's lock.
use Rattle.std.specs.Prelude.{◌≡◌, ◌≢◌, ℕ, ◌+◌, ◌*◌, ◌<◌, ◌≤◌, true, List, [], ◌∷◌, ◌++◌, length, Option, Some, None}
use Rattle.std.specs.Prelude.{IfSome, refl, take}
use Rattle.std.specs.List.{AllByRecursion}
use Rattle.std.specs.Ordering.{nat_cmp}
use Rattle.std.specs.Cmp.{nat_cmp_total}
use Rattle.std.specs.FinMap.{nat_cmp-IsAntisymmetric}
use Rattle.std.proofs.Common.{sym, subst, ap, ◌∙◌, inl, inr, arith}
use Rattle.std.proofs.lemmas.List.{take-append-le}
use Rattle.ll_rights.specs.declared.limits.TheConstants.{TREE_CLIENTS}
use Rattle.ll_rights.specs.Map.{Map, get, has, insert, remove}
use Rattle.ll_rights.proofs.Maps.{get-insert_other, get-remove_other, got_inserted, got_left}
use Rattle.ll_seq.specs.declared.call.Call.{Call}
use Rattle.ll_seq.specs.declared.reply.Entry.{Entry}
use Rattle.ll_seq.specs.declared.rules.Rules.{Rules}
use Rattle.ll_seq.specs.History.{state_after}
use Rattle.ll_seq.specs.Memory.{MayStarve}
use Rattle.ll_seq.specs.State.{start}
use Rattle.ll_node.specs.declared.held.Held.{Held}
use Rattle.ll_node.specs.InodeTable.{NotIn}
use Rattle.ll_laws.specs.World.{World, shown}
use Rattle.ll_journal.specs.Book.{Book, Spares, slot_of}
use Rattle.ll_client.specs.declared.account.Account.{Account}
use Rattle.ll_client.specs.declared.account.Account.TheVariants.{Slot, Client, Wants}
use Rattle.ll_client.specs.declared.account.Numbered.{Numbered}
use Rattle.ll_client.specs.declared.account.Starved.{Starved}
use Rattle.ll_client.specs.Entries.{AreAccounts, AreStarved, IsAccount, IsStarved, doing_of, part_of}
use Rattle.ll_client.specs.Hands.{AllOut, ClientGoes, OnlyWants, SlotComes, SlotGoes}

none_some : {A : Type 0} (x : A) → None ≡ Some x → ⊥
none_some x e = cc e

-- ---- one pass taken back

pub record Took (b : Book) (key : ℕ) (x : Account) (m n : Map nat_cmp Account) : Type 0 where
  pub account : IsAccount b key x
  pub all : AreAccounts b n
  pub gone : get n key ≡ None
  pub others : (j : ℕ) → j ≢ key → get n j ≡ get m j
  pub was : get m key ≡ Some x

removed : (m : Map nat_cmp Account) (key : ℕ) → get (remove m key) key ≡ None
removed m key = by (get (remove m key) key) refl
  where
    by : (o : Option Account) → get (remove m key) key ≡ o → o ≡ None
    by None e = refl
    by (Some x) e = absurd ((got_left nat_cmp_total nat_cmp-IsAntisymmetric m key key x e).1 refl)

pub took : (b : Book) (e : ℕ × Account) (o : Option (ℕ × Account)) (m n : Map nat_cmp Account) → AreAccounts b m
    → o ≡ Some e
    → IfSome o (λ x. get m x.0 ≡ Some x.1) → IfSome o (λ x. n ≡ remove m x.0) → Took b e.0 e.1 m n
took b e o m n all is shown gone =
    let was : get m e.0 ≡ Some e.1 = subst (λ p. IfSome p (λ x. get m x.0 ≡ Some x.1)) is shown in
    let now : n ≡ remove m e.0 = subst (λ p. IfSome p (λ x. n ≡ remove m x.0)) is gone in
    record {
      account = all e.0 e.1 was;
      all = λ key x at. all key x (got_left nat_cmp_total nat_cmp-IsAntisymmetric m e.0 key x
          (ap (λ q. get q key) (sym now) ∙ at)).0;
      gone = ap (λ q. get q e.0) now ∙ removed m e.0;
      others = λ j other. ap (λ q. get q j) now ∙ get-remove_other nat_cmp_total nat_cmp-IsAntisymmetric m e.0 j other;
      was = was;
    }

-- the same of a pass alone
pub wants_taken : (e : ℕ × Account) (o : Option (ℕ × Account)) (m n : Map nat_cmp Account) → o ≡ Some e
    → IfSome o (λ x. get m x.0 ≡ Some x.1) → IfSome o (λ x. n ≡ remove m x.0)
    → (get m e.0 ≡ Some e.1) × (n ≡ remove m e.0) × (get n e.0 ≡ None)
wants_taken e o m n is shown gone =
    let now : n ≡ remove m e.0 = subst (λ p. IfSome p (λ x. n ≡ remove m x.0)) is gone in (
      subst (λ p. IfSome p (λ x. get m x.0 ≡ Some x.1)) is shown,
      now,
      ap (λ q. get q e.0) now ∙ removed m e.0,
    )

pub record IsSlot (b : Book) (k : ℕ) (held : Held) : Type 0 where
  pub there : k < length b.inodes
  pub is : held ≡ slot_of b k

pub slot_account : (b : Book) (k : ℕ) (held : Held) → IsAccount b (3 * k) (Slot held) → IsSlot b k held
slot_account b k held h =
    let same : h.0 ≡ k = (let e = h.1 in omega (arith, e)) in
    record { there = subst (λ j. j < length b.inodes) same h.2; is = h.3 ∙ ap (slot_of b) same }

-- what is known of a client
pub record IsClient (b : Book) (c : ℕ) (part : List Numbered) (seen : ℕ) (doing : Option Call) : Type 0 where
  pub there : has (shown b.world).clients c ≡ true
  pub few : c ≤ TREE_CLIENTS
  pub part_is : part ≡ part_of b.world c
  pub low : seen ≤ length b.world.history
  pub doing_is : doing ≡ doing_of b.world c

pub client_account : (b : Book) (c : ℕ) (part : List Numbered) (seen : ℕ) (doing : Option Call)
    → IsAccount b (3 * c + 1) (Client part seen doing) → IsClient b c part seen doing
client_account b c part seen doing h =
    let same : h.0 ≡ c = (let e = h.1 in omega (arith, e)) in
    record {
      there = ap (has (shown b.world).clients) (sym same) ∙ h.2;
      few = subst (λ j. j ≤ TREE_CLIENTS) same h.3;
      part_is = h.4 ∙ ap (part_of b.world) same;
      low = h.5;
      doing_is = h.6 ∙ ap (doing_of b.world) same;
    }

slots_out : (k : ℕ) (x : Account) (m n : Map nat_cmp Account) → get m (3 * k) ≡ Some x
    → ((j : ℕ) → j ≢ 3 * k → get n j ≡ get m j) → (ks : List ℕ) → AllOut ks m → AllOut ks n × NotIn k ks
slots_out k x m n was others [] out = (tt, tt)
slots_out k x m n was others (j ∷ ks) out =
    let apart : k ≢ j = λ same. none_some x (sym out.0 ∙ ap (λ (i : ℕ). get m (3 * i)) (sym same) ∙ was) in
    let rest = slots_out k x m n was others ks out.1 in
    ((others (3 * j) (λ e. apart (omega (arith, e))) ∙ out.0, rest.0), (apart, rest.1))

pub slot_goes : (b : Book) (k : ℕ) (x : Account) (m n : Map nat_cmp Account) → Took b (3 * k) x m n → SlotGoes k m n
slot_goes b k x m n t = record {
  clients = λ d. t.others (3 * d + 1) (λ e. omega (arith, e));
  out = λ ks out. let rest = slots_out k x m n t.was t.others ks out
      in ((t.gone, rest.0), rest.1);
}

-- where the entries of slots are the same
still_out : (m n : Map nat_cmp Account) → ((k : ℕ) → get n (3 * k) ≡ get m (3 * k)) → (ks : List ℕ) → AllOut ks m
    → AllOut ks n
still_out m n same [] out = tt
still_out m n same (k ∷ ks) out = (same k ∙ out.0, still_out m n same ks out.1)

pub client_goes : (b : Book) (c : ℕ) (x : Account) (m n : Map nat_cmp Account) → Took b (3 * c + 1) x m n
    → ClientGoes c m n
client_goes b c x m n t = record {
  was = λ none. none_some x (sym none ∙ t.was);
  others = λ d other. t.others (3 * d + 1) (λ e. other (omega (arith, e)));
  out = still_out m n (λ k. t.others (3 * k) (λ e. omega (arith, e)));
  gone = t.gone;
}

-- ---- a client's wants

-- what is known of them
pub record IsWants (b : Book) (c : ℕ) (starved : List Starved) : Type 0 where
  pub there : has (shown b.world).clients c ≡ true
  pub few : c ≤ TREE_CLIENTS
  pub are : AreStarved b.world c starved

pub wants_account : (b : Book) (c : ℕ) (starved : List Starved) → IsAccount b (3 * c + 2) (Wants starved)
    → IsWants b c starved
wants_account b c starved h =
    let same : h.0 ≡ c = (let e = h.1 in omega (arith, e)) in
    record {
      there = ap (has (shown b.world).clients) (sym same) ∙ h.2;
      few = subst (λ j. j ≤ TREE_CLIENTS) same h.3;
      are = subst (λ j. AreStarved b.world j starved) same h.4;
    }

-- only they changed
pub only_wants : (c : ℕ) (m n : Map nat_cmp Account) → ((j : ℕ) → j ≢ 3 * c + 2 → get n j ≡ get m j) → OnlyWants m n
only_wants c m n others = record {
  out = still_out m n (λ k. others (3 * k) (λ e. omega (arith, e)));
  clients = λ d. others (3 * d + 1) (λ e. omega (arith, e));
}

-- a client went, and then something happened to its wants
pub goes_with : (c : ℕ) (m n o : Map nat_cmp Account) → ClientGoes c m n → OnlyWants n o → ClientGoes c m o
goes_with c m n o g w = record {
  was = g.was;
  others = λ d other. w.clients d ∙ g.others d other;
  out = λ ks out. w.out ks (g.out ks out);
  gone = w.clients c ∙ g.gone;
}

pub one_more : {A : Type 0} (P : A → Type 0) (xs : List A) (x : A) → AllByRecursion P xs → P x
    → AllByRecursion P (xs ++ x ∷ [])
one_more P [] x h p = (p, tt)
one_more P (y ∷ ys) x h p = (h.0, one_more P ys x h.1 p)

-- ---- one given out

pub gave : (b : Book) (e : ℕ × Account) (m n : Map nat_cmp Account) → IsAccount b e.0 e.1 → AreAccounts b m
    → n ≡ insert m e.0 e.1 → AreAccounts b n
gave b e m n new all is key x at =
    elim (got_inserted nat_cmp_total nat_cmp-IsAntisymmetric m e.0 e.1 key x (ap (λ q. get q key) (sym is) ∙ at)) [
      | inl same ↦ subst (λ (y : ℕ × Account). IsAccount b y.0 y.1) (λ i. (sym same.0 i, sym same.1 i)) new
      | inr old ↦ all key x old
    ]

pub gave_other : (j : ℕ) (e : ℕ × Account) (m n : Map nat_cmp Account) → n ≡ insert m e.0 e.1 → j ≢ e.0
    → get n j ≡ get m j
gave_other j e m n is other =
    ap (λ q. get q j) is ∙ get-insert_other nat_cmp_total nat_cmp-IsAntisymmetric m e.0 e.1 j other

slots_stay : (k : ℕ) (x : Account) (m n : Map nat_cmp Account) → n ≡ insert m (3 * k) x → (ks : List ℕ) → NotIn k ks
    → AllOut ks m → AllOut ks n
slots_stay k x m n is [] apart out = tt
slots_stay k x m n is (j ∷ ks) apart out = (
  gave_other (3 * j) (3 * k, x) m n is (λ e. apart.0 (omega (arith, e)))
      ∙ out.0,
  slots_stay k x m n is ks apart.1 out.1,
)

pub slot_comes : (k c : ℕ) (x : Account) (m n : Map nat_cmp Account) → n ≡ insert m (3 * k) x → SlotComes k c m n
slot_comes k c x m n is = record {
  out = slots_stay k x m n is;
  client = λ none. gave_other (3 * c + 1) (3 * k, x) m n is (λ e. omega (arith, e)) ∙ none;
}

-- ---- a step

-- what a step of this client leaves of the others
pub record Moved (w v : World) (c : ℕ) : Type 0 where
  pub parts : (d : ℕ) → d ≢ c → part_of v d ≡ part_of w d
  pub doing : (d : ℕ) → d ≢ c → doing_of v d ≡ doing_of w d
  pub long : length w.history ≤ length v.history
  pub came : (added : List Entry) × (v.history ≡ w.history ++ added)
  pub rules : v.rules ≡ w.rules
  pub room : v.room ≡ w.room
  pub clients : (d : ℕ) → has (shown w).clients d ≡ true → has (shown v).clients d ≡ true

not_in : (m : Map nat_cmp Account) (ks : List ℕ) (j : ℕ) (x : Account) → AllOut ks m → get m (3 * j) ≡ Some x
    → NotIn j ks
not_in m [] j x out at = tt
not_in m (k ∷ ks) j x out at =
    (λ same. none_some x (sym out.0 ∙ ap (λ (i : ℕ). get m (3 * i)) (sym same) ∙ at), not_in m ks j x out.1 at)

-- a history that goes on keeps its points, so what was refused by nothing then still is
module _ (w v : World) (c d : ℕ) (g : Moved w v c) (limit : v.limit ≡ w.limit) where
  abbrev StarvesThen : Starved → Rules × (ℕ × (ℕ × List Entry)) → Type 0
  StarvesThen x p = (x.at < p.1.1.0) × MayStarve (state_after (start p.0 p.1.0) p.1.1.1) d x.call

  one_stays : (x : Starved) → IsStarved w.rules w.room w.limit w.history d x
      → IsStarved v.rules v.room v.limit v.history d x
  one_stays x h =
      let taken : take x.at v.history ≡ take x.at w.history =
      ap (take x.at) g.came.1 ∙ take-append-le x.at w.history g.came.0 h.0 in
      let p = subst (StarvesThen x)
      (λ i. (sym g.rules i, (sym g.room i, (sym limit i, sym taken i)))) (h.1, h.2) in
      ((let low = h.0 in let long = g.long in omega (arith, low, long)), p.0, p.1)

  pub starved_stay : (xs : List Starved) → AreStarved w d xs → AreStarved v d xs
  starved_stay [] h = tt
  starved_stay (x ∷ xs) h = (one_stays x h.0, starved_stay xs h.1)

-- a step keeps the accounts that stay out: those of slots that it isn't lent, and of other clients
pub accounts_kept : (b b' : Book) (c : ℕ) (ks : List ℕ) (m : Map nat_cmp Account) → Spares b b' ks
    → Moved b.world b'.world c → AllOut ks m
    → get m (3 * c + 1) ≡ None → AreAccounts b m → AreAccounts b' m
accounts_kept b b' c ks m s g out mine all key x at = kept x at (all key x at)
  where
    kept : (x : Account) → get m key ≡ Some x → IsAccount b key x → IsAccount b' key x
    kept (Slot held) at h = (
      h.0,
      h.1,
      subst (λ n. h.0 < n) (sym s.size) h.2,
      h.3 ∙ sym (s.slots h.0 (not_in m ks h.0 (Slot held) out (ap (get m) (sym h.1) ∙ at))),
    )
    kept (Client part seen doing) at h =
        let apart : h.0 ≢ c = λ same. none_some (Client part seen doing) (sym mine
        ∙ ap (λ (j : ℕ). get m (3 * j + 1)) (sym same) ∙ ap (get m) (sym h.1) ∙ at) in (
          h.0,
          h.1,
          g.clients h.0 h.2,
          h.3,
          h.4 ∙ sym (g.parts h.0 apart),
          (let low = h.5 in let more = g.long in omega (arith, low, more)),
          h.6 ∙ sym (g.doing h.0 apart),
        )
    kept (Wants starved) at h =
        (h.0, h.1, g.clients h.0 h.2, h.3, starved_stay b.world b'.world c h.0 g s.limit starved h.4)
