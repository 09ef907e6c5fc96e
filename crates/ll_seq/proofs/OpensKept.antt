-- Facts that are true stay so as clients come and as descriptors are opened, closed and copied.
use Rattle.std.proofs.Common.{◌≡◌, ◌==◌, ℕ, zero, suc, ◌+◌, ◌-◌, ◌^◌, ◌<◌, ◌≤◌, min, Bool, true, false, cond, ◌&&◌}
use Rattle.std.proofs.Common.{List, [], ◌∷◌, length, filter, take, get_or, Option, Some, None, is_some, refl, ap, sym}
use Rattle.std.proofs.Common.{◌∙◌, inl, inr, arith}
use Rattle.std.specs.Prelude.{◌⊎◌, if◌then◌else◌, option_map, nat_lt}
use Rattle.std.specs.Option.{option_map_or}
use Rattle.std.specs.List.{list_all}
use Rattle.std.proofs.lemmas.Bool.{eqb-true}
use Rattle.std.proofs.lemmas.Bool.Decides.{nat_tests}
use Rattle.ll_rights.specs.declared.kind.Kind.{Kind}
use Rattle.ll_rights.specs.Map.{empty, entries, get, has, insert, remove}
use Rattle.ll_seq.specs.declared.client.ClientRecord.{ClientRecord}
use Rattle.ll_seq.specs.declared.client.Descriptor.{Descriptor}
use Rattle.ll_seq.specs.declared.facts.Fact.{Fact}
use Rattle.ll_seq.specs.State.{State, kind_of}
use Rattle.ll_seq.specs.Effects.{with_client}
use Rattle.ll_seq.specs.Facts.{opens_in, open_count, AreKept, has_room, have_room}
use Rattle.ll_seq.proofs.Counts.{bit, opens-new, opens-less, clients-over, clients-new, client_among}
use Rattle.ll_seq.proofs.FactsKept.{Facts, fact_with, Steps, both_steps, raised, lowered, same_fact, given_out, kept_by}
use Rattle.ll_seq.proofs.FactsKept.{kept_same, nothing_added, nothing_taken}

-- ---- clients and their descriptors

abbrev pub more_opens : ℕ → ℕ → Fact → Fact
more_opens i q f = record f { opens = if i == q then min (f.opens + 1) (2 ^ 64 - 1) else f.opens }

abbrev pub less_opens : ℕ → ℕ → Fact → Fact
less_opens i q f = record f { opens = if i == q then f.opens - 1 else f.opens }

few_opens : (s : State) (f : Facts) (q : ℕ) (k : Kind) → AreKept s f → kind_of s q ≡ Some k → has_room f q ≡ true
    → open_count s q < 2 ^ 63
few_opens s f q k kept is room =
    few (open_count s q) (sym (ap (λ o. option_map_or (λ (x : Fact). nat_lt x.opens 9223372036854775808) o true)
    (kept.told q ∙ ap (option_map (fact_with s q)) is)) ∙ room)
  where
    few : (n : ℕ) → nat_lt n 9223372036854775808 ≡ true → n < 2 ^ 63
    few n e = grind (arith, nat_tests)

module _ (s : State) (f g : Facts) (client : ℕ) (c : ClientRecord) (kept : AreKept s f)
    (there : get s.clients client ≡ Some c) where
  -- the same descriptors
  pub kept_client : (d : ClientRecord) → d.descriptors ≡ c.descriptors → AreKept (with_client s client d) f
  kept_client d same =
      kept_same s (with_client s client d) f kept (λ q. refl) refl (λ q.
      let opens = clients-over s.clients client q d c there in
      let alike = ap (λ m. opens_in m q) same in
      (refl, refl, omega arith))

  pub kept_open : (fd : ℕ) (d : Descriptor) → Steps f g (λ q x. more_opens d.inode q x) → get c.descriptors fd ≡ None
      → has s.nodes d.inode ≡ true → has_room f d.inode ≡ true
      → AreKept (with_client s client (record c { descriptors = insert c.descriptors fd d })) g
  kept_open fd d steps free node room =
      kept_by s (with_client s client (record c { descriptors = insert c.descriptors fd d })) f g _ kept steps
      (λ q. refl) refl
      (λ q k is. same_fact k _ _ _ _ _ _ refl refl
      (raised (d.inode == q) (open_count s q) _ (one_more q)
      (λ same. few_opens s f q k kept is (ap (has_room f) (sym (eqb-true d.inode q same)) ∙ room))))
      (λ q past. (refl, refl, nothing_added _ (d.inode == q) _ (one_more q) (given_out s f d.inode q kept node past)))
    where
      one_more : (q : ℕ) → open_count (with_client s client (record c { descriptors = insert c.descriptors fd d })) q
          ≡ open_count s q + bit (d.inode == q)
      one_more q =
          let all = clients-over s.clients client q (record c { descriptors = insert c.descriptors fd d }) c there in
          let own = opens-new c.descriptors fd q d free in
          omega arith

  pub kept_closed : (fd : ℕ) (d : Descriptor) → Steps f g (λ q x. less_opens d.inode q x)
      → get c.descriptors fd ≡ Some d
      → AreKept (with_client s client (record c { descriptors = remove c.descriptors fd })) g
  kept_closed fd d steps was =
      kept_by s (with_client s client (record c { descriptors = remove c.descriptors fd })) f g _ kept steps (λ q. refl)
      refl
      (λ q k is. same_fact k _ _ _ _ _ _ refl refl (lowered (d.inode == q) (open_count s q) _ (one_less q)))
      (λ q past. (refl, refl, nothing_taken _ (d.inode == q) _ (one_less q) (kept.unused q past).opens))
    where
      one_less : (q : ℕ) → open_count (with_client s client (record c { descriptors = remove c.descriptors fd })) q +
          bit (d.inode == q) ≡ open_count s q
      one_less q =
          let all = clients-over s.clients client q (record c { descriptors = remove c.descriptors fd }) c there in
          let own = opens-less c.descriptors fd q d was in
          omega arith

-- so many more, one by one
unfoldable pub more : ℕ → ℕ → ℕ
more zero n = n
more (suc k) n = min (more k n + 1) (2 ^ 64 - 1)

no_more : (n : ℕ) → more 0 n ≡ n
unfolding more
no_more n = refl

more_is : (k n : ℕ) → k + n < 2 ^ 64 → more k n ≡ n + k
unfolding more
more_is zero n fits = omega arith
more_is (suc k) n fits = let rest = more_is k n (omega arith) in omega arith

-- those of a list that are the inode's
abbrev pub among : ℕ → List (ℕ × Descriptor) → ℕ
among q ds = length (filter (λ (d : ℕ × Descriptor). d.1.inode == q) ds)

abbrev pub all_opens : List (ℕ × Descriptor) → ℕ → Fact → Fact
all_opens ds q f = record f { opens = more (among q ds) f.opens }

among_few : (q : ℕ) (ds : List (ℕ × Descriptor)) → among q ds ≤ length ds
among_few q [] = omega arith
among_few q (d ∷ ds) = elim (d.1.inode == q) as
    (λ b. length (cond b (d ∷ filter (λ (x : ℕ × Descriptor). x.1.inode == q) ds)
    (filter (λ (x : ℕ × Descriptor). x.1.inode == q) ds)) ≤ suc (length ds)) [
      | true ↦ (let rest = among_few q ds in omega arith)
      | false ↦ (let rest = among_few q ds in omega arith)
    ]

-- where one of them is the inode's, there is room for it
room_at : (f : Facts) (q : ℕ) (ds : List (ℕ × Descriptor))
    → list_all (λ (d : ℕ × Descriptor). has_room f d.1.inode) ds ≡ true → (among q ds ≡ 0) ⊎ (has_room f q ≡ true)
room_at f q [] all = inl refl
room_at f q (d ∷ ds) all = of (d.1.inode == q) refl (room_at f q ds)
    (and_parts (has_room f d.1.inode) (list_all (λ (x : ℕ × Descriptor). has_room f x.1.inode) ds) all)
  where
    and_parts : (a b : Bool) → (a && b) ≡ true → (a ≡ true) × (b ≡ true)
    and_parts true b e = (refl, e)
    and_parts false b e = absurd (cc e)

    of : (b : Bool) → (d.1.inode == q) ≡ b
        → (list_all (λ (x : ℕ × Descriptor). has_room f x.1.inode) ds ≡ true → (among q ds ≡ 0) ⊎ (has_room f q ≡ true))
        → (has_room f d.1.inode ≡ true) × (list_all (λ (x : ℕ × Descriptor). has_room f x.1.inode) ds ≡ true)
        → (length (cond b (d ∷ filter (λ (x : ℕ × Descriptor). x.1.inode == q) ds)
        (filter (λ (x : ℕ × Descriptor). x.1.inode == q) ds)) ≡ 0) ⊎ (has_room f q ≡ true)
    of true same rest parts = inr (ap (has_room f) (sym (eqb-true d.1.inode q same)) ∙ parts.0)
    of false differ rest parts = rest parts.1

pub none_yet : (f : Facts) → Steps f f (all_opens [])
none_yet f q = of (get f q)
  where
    of : (o : Option Fact) → o ≡ option_map (all_opens [] q) o
    of None = refl
    of (Some x) = ap Some (same_fact x.kind _ _ _ _ _ _ refl refl (sym (no_more x.opens)))

among_more : (q : ℕ) (ds : List (ℕ × Descriptor)) (i : ℕ) (d : ℕ × Descriptor) → i < length ds
    → among q (take (suc i) ds) ≡ among q (take i ds) + bit ((get_or ds i d).1.inode == q)
among_more q [] i d lt = absurd (omega arith)
among_more q (e ∷ ds) zero d lt = one (e.1.inode == q)
  where
    one : (b : Bool) → length (cond b (e ∷ []) []) ≡ 0 + bit b
    one true = refl
    one false = refl
among_more q (e ∷ ds) (suc i) d lt = of (e.1.inode == q) (among_more q ds i d (omega arith))
  where
    of : (b : Bool) → among q (take (suc i) ds) ≡ among q (take i ds) + bit ((get_or ds i d).1.inode == q)
        → length (cond b (e ∷ filter (λ (x : ℕ × Descriptor). x.1.inode == q) (take (suc i) ds))
        (filter (λ (x : ℕ × Descriptor). x.1.inode == q) (take (suc i) ds)))
        ≡ length (cond b (e ∷ filter (λ (x : ℕ × Descriptor). x.1.inode == q) (take i ds))
        (filter (λ (x : ℕ × Descriptor). x.1.inode == q) (take i ds))) + bit ((get_or ds i d).1.inode == q)
    of true rest = omega arith
    of false rest = rest

one_more : (a : ℕ) (b : Bool) (n : ℕ) → (if b then min (more a n + 1) (2 ^ 64 - 1) else more a n) ≡ more (a + bit b) n
unfolding more
one_more a true n = let next : a + 1 ≡ suc a = omega arith in sym (ap (λ k. more k n) next)
one_more a false n = let same : a + 0 ≡ a = omega arith in sym (ap (λ k. more k n) same)

pub all_more : (f g h : Facts) (ds : List (ℕ × Descriptor)) (i : ℕ) (d : ℕ × Descriptor) → i < length ds
    → Steps f g (all_opens (take i ds)) → Steps g h (more_opens (get_or ds i d).1.inode)
    → Steps f h (all_opens (take (i + 1) ds))
all_more f g h ds i d lt so_far step q =
    both_steps f g h (all_opens (take i ds)) (more_opens (get_or ds i d).1.inode) so_far step q ∙ of (get f q)
  where
    of : (o : Option Fact) → option_map (λ x. more_opens (get_or ds i d).1.inode q (all_opens (take i ds) q x)) o
        ≡ option_map (all_opens (take (i + 1) ds) q) o
    of None = refl
    of (Some x) =
        let next : suc i ≡ i + 1 = omega arith in
        ap Some (same_fact x.kind _ _ _ _ _ _ refl refl
        (one_more (among q (take i ds)) ((get_or ds i d).1.inode == q) x.opens
        ∙ ap (λ k. more k x.opens) (sym (among_more q ds i d lt))
        ∙ ap (λ k. more (among q (take k ds)) x.opens) next))

opens-empty : (q : ℕ) → opens_in empty q ≡ 0
unfolding empty entries
opens-empty q = refl

pub kept_copies : (s : State) (f g : Facts) (client : ℕ) (c : ClientRecord) (fresh : ℕ) (child : ClientRecord)
    → AreKept s f → get s.clients client ≡ Some c → has s.clients fresh ≡ false
    → (child.descriptors ≡ c.descriptors) ⊎ (child.descriptors ≡ empty) → length (entries child.descriptors) < 2 ^ 63
    → have_room f child.descriptors ≡ true
    → Steps f g (all_opens (entries child.descriptors)) → AreKept (with_client s fresh child) g
kept_copies s f g client c fresh child kept there unknown copies few room steps =
    kept_by s (with_client s fresh child) f g _ kept steps (λ q. refl) refl
    (λ q k is. same_fact k _ _ _ _ _ _ refl refl (copied q k is ∙ sym (all q)))
    (λ q past. (refl, refl, let none = nothing_copied q past in let sum = all q in omega arith))
  where
    absent : (o : Option ClientRecord) → is_some o ≡ false → o ≡ None
    absent None e = refl
    absent (Some x) e = absurd (cc e)

    all : (q : ℕ) → open_count (with_client s fresh child) q ≡ open_count s q + opens_in child.descriptors q
    all q = clients-new s.clients fresh q child (absent (get s.clients fresh) unknown)

    copied : (q : ℕ) (k : Kind) → kind_of s q ≡ Some k
        → more (opens_in child.descriptors q) (open_count s q) ≡ open_count s q + opens_in child.descriptors q
    copied q k is = elim (room_at f q (entries child.descriptors) room) [
      | inl none ↦ ap (λ n. more n (open_count s q)) none ∙ no_more (open_count s q) ∙ (let same = none in omega arith)
      | inr at ↦ (let own = few_opens s f q k kept is at in let most = among_few q (entries child.descriptors)
          in more_is (opens_in child.descriptors q) (open_count s q) (omega arith))
    ]

    nothing_copied : (q : ℕ) → s.next ≤ q → opens_in child.descriptors q ≡ 0
    nothing_copied q past = elim copies [
      | inl own ↦ (let alike = ap (λ m. opens_in m q) own in let part = client_among s.clients client q c there
          in let sum = part.1 in let none = (kept.unused q past).opens in omega arith)
      | inr none ↦ ap (λ m. opens_in m q) none ∙ opens-empty q
    ]

-- a client that connects
pub kept_connect : (s : State) (f : Facts) (number : ℕ) (c : ClientRecord) → AreKept s f → has s.clients number ≡ false
    → c.descriptors ≡ empty → AreKept (with_client s number c) f
kept_connect s f number c kept unknown none =
    kept_same s (with_client s number c) f kept (λ q. refl) refl (λ q.
    let opens = clients-new s.clients number q c (absent (get s.clients number) unknown) in
    let own = ap (λ m. opens_in m q) none ∙ opens-empty q in
    (refl, refl, omega arith))
  where
    absent : (o : Option ClientRecord) → is_some o ≡ false → o ≡ None
    absent None e = refl
    absent (Some x) e = absurd (cc e)
