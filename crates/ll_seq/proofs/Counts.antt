-- How counts over a map's entries change with the map.
use Rattle.std.proofs.Common.{◌≡◌, ◌==◌, ℕ, ◌+◌, Bool, true, false, cond, not, T, ◌||◌, List, [], ◌∷◌, length, map}
use Rattle.std.proofs.Common.{filter, Option, Some, None, refl, ap, sym, ◌∙◌, inl, inr, arith}
use Rattle.std.specs.Prelude.{◌⊎◌}
use Rattle.std.proofs.lemmas.Bool.Decides.{nat_tests}
use Rattle.std.specs.declared.cmp.Ordering.{Ordering}
use Rattle.std.specs.declared.cmp.Ordering.TheVariants.{Less, Equal, Greater}
use Rattle.std.specs.Ordering.{is_lt, is_eq, eq_by_cmp, nat_cmp}
use Rattle.std.specs.Cmp.{IsTotalOrder, nat_cmp_total}
use Rattle.std.specs.FinMap.{IsAntisymmetric, nat_cmp-IsAntisymmetric}
use Rattle.std.specs.FinMap.Entries.{put, by_order, find, below_all, is_sorted, where_key, is_sorted-put}
use Rattle.std.specs.List.{sum_by, list_any}
use Rattle.std.proofs.lemmas.List.{length-map}
use Rattle.std.proofs.lemmas.List.Recursion.{is_sum_by}
use Rattle.ll_rights.specs.Map.{Map, checked, get, insert, remove, entries}
use Rattle.ll_seq.specs.declared.client.ClientRecord.{ClientRecord}
use Rattle.ll_seq.specs.declared.client.Descriptor.{Descriptor}
use Rattle.ll_seq.specs.declared.dentries.Dentry.{Dentry}
use Rattle.ll_seq.specs.State.{State, dentry_cmp, is_open}
use Rattle.ll_seq.specs.Facts.{opens_in, open_count}
use Rattle.ll_seq.proofs.DentryOrder.{dentry_total, dentry_exact}
use Rattle.ll_seq.proofs.DentryRows.{both, is_less}

-- 1 where it holds
abbrev pub bit : Bool → ℕ
bit b = cond b 1 0

-- ---- a sum over entries

module _ {E : Type 0} (w : E → ℕ) where
  abbrev pub total : List E → ℕ
  total [] = 0
  total (e ∷ es) = w e + total es

  pub total-sum_by : (es : List E) → total es ≡ sum_by w es
  total-sum_by es = is_sum_by total w refl (λ x xs. refl) es

module _ {E : Type 0} (p : E → Bool) where
  pub length-total : (es : List E) → length (filter p es) ≡ total (λ e. bit (p e)) es
  length-total [] = refl
  length-total (e ∷ es) = elim (p e) as
      (λ b. length (cond b (e ∷ filter p es) (filter p es)) ≡ bit b + total (λ x. bit (p x)) es) [
        | true ↦ (let rest = length-total es in omega arith)
        | false ↦ (let rest = length-total es in omega arith)
      ]

module _ {K V : Type 0} {R : K → K → Ordering} (o : IsTotalOrder R) (exact : IsAntisymmetric R) where
  -- a key that is no higher than one below all entries has none
  nowhere : (k x : K) (es : List (K × V)) → (R k x ≡ Less) ⊎ (R k x ≡ Equal) → T (below_all R x es) → find R k es ≡ None
  nowhere k x [] up h = refl
  nowhere k x (e ∷ es) up h =
      let parts = both (is_lt (R x e.0)) (below_all R x es) h in
      let less : R k e.0 ≡ Less = elim up [
        | inl a ↦ o.trans k x e.0 a (is_less (R x e.0) parts.0)
        | inr a ↦ o.congr k x e.0 a
            ∙ is_less (R x e.0) parts.0
      ] in
      ap (λ r. cond (is_eq r) (Some e.1) (find R k es)) less ∙ nowhere k x es up parts.1

  module _ (w : K × V → ℕ) where
    -- what the key's entry weighs
    abbrev pub weighed : K → Option V → ℕ
    weighed k None = 0
    weighed k (Some v) = w (k, v)

    put_total : (k : K) (v : V) (es : List (K × V)) → T (is_sorted R es)
        → total w (put R k v es) + weighed k (find R k es) ≡ total w es + w (k, v)
    put_total k v [] h = omega arith
    put_total k v (e ∷ es) h =
        let parts = both (below_all R e.0 es) (is_sorted R es) h in
        elim (R k e.0) as (λ r. R k e.0 ≡ r
        → total w (by_order r ((k, v) ∷ e ∷ es) ((e.0, v) ∷ es) (e ∷ put R k v es)) + weighed k
        (cond (is_eq r) (Some e.1) (find R k es)) ≡ (w e + total w es) + w (k, v)) [
          | Less ↦ λ r. (let none = ap (weighed k) (nowhere k e.0 es (inl r) parts.0) in omega arith)
          | Equal ↦ λ r. (let key = exact k e.0 r in let new = ap (λ x. w (x, v)) key
              in let old = ap (λ x. w (x, e.1)) key in omega arith)
          | Greater ↦ λ r. (let rest = put_total k v es parts.1 in omega arith)
        ] refl

    left_total : (k : K) (es : List (K × V)) → T (is_sorted R es)
        → total w (where_key R (λ q. not (eq_by_cmp R k q)) es) + weighed k (find R k es) ≡ total w es
    left_total k [] h = refl
    left_total k (e ∷ es) h =
        let parts = both (below_all R e.0 es) (is_sorted R es) h in
        let rest = left_total k es parts.1 in
        elim (R k e.0) as (λ r. R k e.0 ≡ r
        → total w (cond (not (is_eq r)) (e ∷ where_key R (λ q. not (eq_by_cmp R k q)) es)
        (where_key R (λ q. not (eq_by_cmp R k q)) es)) + weighed k (cond (is_eq r) (Some e.1) (find R k es))
        ≡ w e + total w es) [
          | Less ↦ λ r. omega arith
          | Equal ↦ λ r. (let none = ap (weighed k) (nowhere k e.0 es (inr r) parts.0)
              in let old = ap (λ x. w (x, e.1)) (exact k e.0 r) in omega arith)
          | Greater ↦ λ r. omega arith
        ] refl

  list_checked : (es : List (K × V)) (b : Bool) (e : is_sorted R es ≡ b) (m : Map R V) → T b
      → entries (checked es b e m) ≡ es
  unfolding checked entries
  list_checked es true e m h = refl
  list_checked es false e m h = absurd h

  entries-insert : (m : Map R V) (k : K) (v : V) → entries (insert m k v) ≡ put R k v (entries m)
  unfolding insert entries
  entries-insert m k v = list_checked (put R k v m.list) (is_sorted R (put R k v m.list)) refl m
      (is_sorted-put R o k v m.list m.sorted)

  module _ (w : K × V → ℕ) where
    put_in_map : (m : Map R V) (k : K) (v : V)
        → total w (put R k v (entries m)) + weighed w k (get m k) ≡ total w (entries m) + w (k, v)
    unfolding entries get
    put_in_map m k v = put_total w k v m.list m.sorted

    pub total-insert : (m : Map R V) (k : K) (v : V)
        → total w (entries (insert m k v)) + weighed w k (get m k) ≡ total w (entries m) + w (k, v)
    total-insert m k v = ap (λ es. total w es + weighed w k (get m k)) (entries-insert m k v) ∙ put_in_map m k v

    pub total-remove : (m : Map R V) (k : K)
        → total w (entries (remove m k)) + weighed w k (get m k) ≡ total w (entries m)
    unfolding entries get remove
    total-remove m k = left_total w k m.list m.sorted

-- ---- the names in a directory, the names of an inode

abbrev Places : Type 0
Places = Map dentry_cmp ℕ

abbrev pub names_of : Places → ℕ → ℕ
names_of m directory = length
    (map (λ (e : Dentry × ℕ). e.0.name) (filter (λ (e : Dentry × ℕ). e.0.directory == directory) (entries m)))

abbrev pub links_of : Places → ℕ → ℕ
links_of m inode = length (filter (λ (e : Dentry × ℕ). e.1 == inode) (entries m))

abbrev in_directory : ℕ → Dentry × ℕ → ℕ
in_directory q e = bit (e.0.directory == q)

abbrev of_inode : ℕ → Dentry × ℕ → ℕ
of_inode q e = bit (e.1 == q)

names_total : (m : Places) (q : ℕ) → names_of m q ≡ total (in_directory q) (entries m)
names_total m q = length-map (filter (λ (e : Dentry × ℕ). e.0.directory == q) (entries m))
    (λ (e : Dentry × ℕ). e.0.name) ∙ length-total (λ (e : Dentry × ℕ). e.0.directory == q) (entries m)

links_total : (m : Places) (q : ℕ) → links_of m q ≡ total (of_inode q) (entries m)
links_total m q = length-total (λ (e : Dentry × ℕ). e.1 == q) (entries m)

module _ (m : Places) (at : Dentry) (q : ℕ) where
  -- a new name
  pub names-new : (x : ℕ) → get m at ≡ None → names_of (insert m at x) q ≡ names_of m q + bit (at.directory == q)
  names-new x none =
      let before = names_total m q in
      let after = names_total (insert m at x) q in
      let law = total-insert dentry_total dentry_exact (in_directory q) m at x in
      let nothing = ap (weighed dentry_total dentry_exact (in_directory q) at) none in
      omega arith

  pub links-new : (x : ℕ) → get m at ≡ None → links_of (insert m at x) q ≡ links_of m q + bit (x == q)
  links-new x none =
      let before = links_total m q in
      let after = links_total (insert m at x) q in
      let law = total-insert dentry_total dentry_exact (of_inode q) m at x in
      let nothing = ap (weighed dentry_total dentry_exact (of_inode q) at) none in
      omega arith

  -- a name that stands for another inode
  pub names-over : (x y : ℕ) → get m at ≡ Some y → names_of (insert m at x) q ≡ names_of m q
  names-over x y some =
      let before = names_total m q in
      let after = names_total (insert m at x) q in
      let law = total-insert dentry_total dentry_exact (in_directory q) m at x in
      let old = ap (weighed dentry_total dentry_exact (in_directory q) at) some in
      omega arith

  pub links-over : (x y : ℕ) → get m at ≡ Some y
      → links_of (insert m at x) q + bit (y == q) ≡ links_of m q + bit (x == q)
  links-over x y some =
      let before = links_total m q in
      let after = links_total (insert m at x) q in
      let law = total-insert dentry_total dentry_exact (of_inode q) m at x in
      let old = ap (weighed dentry_total dentry_exact (of_inode q) at) some in
      omega arith

  -- a name less
  pub names-less : (y : ℕ) → get m at ≡ Some y → names_of (remove m at) q + bit (at.directory == q) ≡ names_of m q
  names-less y some =
      let before = names_total m q in
      let after = names_total (remove m at) q in
      let law = total-remove dentry_total dentry_exact (in_directory q) m at in
      let old = ap (weighed dentry_total dentry_exact (in_directory q) at) some in
      omega arith

  pub links-less : (y : ℕ) → get m at ≡ Some y → links_of (remove m at) q + bit (y == q) ≡ links_of m q
  links-less y some =
      let before = links_total m q in
      let after = links_total (remove m at) q in
      let law = total-remove dentry_total dentry_exact (of_inode q) m at in
      let old = ap (weighed dentry_total dentry_exact (of_inode q) at) some in
      omega arith

-- ---- open descriptors

abbrev of_file : ℕ → ℕ × Descriptor → ℕ
of_file q d = bit (d.1.inode == q)

opens_total : (m : Map nat_cmp Descriptor) (q : ℕ) → opens_in m q ≡ total (of_file q) (entries m)
opens_total m q = length-total (λ (d : ℕ × Descriptor). d.1.inode == q) (entries m)

module _ (m : Map nat_cmp Descriptor) (fd q : ℕ) where
  pub opens-new : (d : Descriptor) → get m fd ≡ None → opens_in (insert m fd d) q ≡ opens_in m q + bit (d.inode == q)
  opens-new d none =
      let before = opens_total m q in
      let after = opens_total (insert m fd d) q in
      let law = total-insert nat_cmp_total nat_cmp-IsAntisymmetric (of_file q) m fd d in
      let nothing = ap (weighed nat_cmp_total nat_cmp-IsAntisymmetric (of_file q) fd) none in
      omega arith

  pub opens-less : (d : Descriptor) → get m fd ≡ Some d → opens_in (remove m fd) q + bit (d.inode == q) ≡ opens_in m q
  opens-less d some =
      let before = opens_total m q in
      let after = opens_total (remove m fd) q in
      let law = total-remove nat_cmp_total nat_cmp-IsAntisymmetric (of_file q) m fd in
      let old = ap (weighed nat_cmp_total nat_cmp-IsAntisymmetric (of_file q) fd) some in
      omega arith

-- ---- open descriptors of all clients

abbrev Clients : Type 0
Clients = Map nat_cmp ClientRecord

abbrev of_client : ℕ → ℕ × ClientRecord → ℕ
of_client q c = opens_in c.1.descriptors q

abbrev pub opens_of : Clients → ℕ → ℕ
opens_of m q = sum_by (λ (c : ℕ × ClientRecord). opens_in c.1.descriptors q) (entries m)

module _ (m : Clients) (n q : ℕ) (c : ClientRecord) where
  -- of a client that was there
  pub clients-over : (old : ClientRecord) → get m n ≡ Some old
      → opens_of (insert m n c) q + opens_in old.descriptors q ≡ opens_of m q + opens_in c.descriptors q
  clients-over old some =
      let before = total-sum_by (of_client q) (entries m) in
      let after = total-sum_by (of_client q) (entries (insert m n c)) in
      let law = total-insert nat_cmp_total nat_cmp-IsAntisymmetric (of_client q) m n c in
      let was = ap (weighed nat_cmp_total nat_cmp-IsAntisymmetric (of_client q) n) some in
      omega arith

  -- of a new client
  pub clients-new : get m n ≡ None → opens_of (insert m n c) q ≡ opens_of m q + opens_in c.descriptors q
  clients-new none =
      let before = total-sum_by (of_client q) (entries m) in
      let after = total-sum_by (of_client q) (entries (insert m n c)) in
      let law = total-insert nat_cmp_total nat_cmp-IsAntisymmetric (of_client q) m n c in
      let nothing = ap (weighed nat_cmp_total nat_cmp-IsAntisymmetric (of_client q) n) none in
      omega arith

-- no descriptor of a client counts more than those of all
pub client_among : (m : Clients) (n q : ℕ) (c : ClientRecord) → get m n ≡ Some c → (k : ℕ)
    × (opens_of m q ≡ opens_in c.descriptors q + k)
client_among m n q c some =
    let all = total-sum_by (of_client q) (entries m) in
    let law = total-remove nat_cmp_total nat_cmp-IsAntisymmetric (of_client q) m n in
    let was = ap (weighed nat_cmp_total nat_cmp-IsAntisymmetric (of_client q) n) some in
    (total (of_client q) (entries (remove m n)), omega arith)

-- ---- open exactly where the count isn't 0

module _ {E : Type 0} where
  any_count : (p : E → Bool) (w : E → ℕ) (es : List E) → ((e : E) → p e ≡ not (w e == 0))
      → list_any p es ≡ not (total w es == 0)
  any_count p w [] same = refl
  any_count p w (e ∷ es) same =
      ap (λ b. b || list_any p es) (same e) ∙ ap (λ b. not (w e == 0) || b) (any_count p w es same)
      ∙ or_sum (w e) (total w es)
    where
      or_sum : (a b : ℕ) → (not (a == 0) || not (b == 0)) ≡ not (a + b == 0)
      or_sum a b = grind (arith, nat_tests)

bit_counts : (b : Bool) → b ≡ not (bit b == 0)
bit_counts true = refl
bit_counts false = refl

pub opens_is : (s : State) (q : ℕ) → is_open s q ≡ not (open_count s q == 0)
opens_is s q =
    any_count (λ (c : ℕ × ClientRecord). list_any (λ (d : ℕ × Descriptor). d.1.inode == q) (entries c.1.descriptors))
    (of_client q) (entries s.clients) (λ c.
    any_count (λ (d : ℕ × Descriptor). d.1.inode == q) (of_file q) (entries c.1.descriptors)
    (λ d. bit_counts (d.1.inode == q)) ∙ ap (λ n. not (n == 0)) (sym (opens_total c.1.descriptors q)))
    ∙ ap (λ n. not (n == 0)) (total-sum_by (of_client q) (entries s.clients))
