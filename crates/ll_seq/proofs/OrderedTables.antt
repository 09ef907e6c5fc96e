-- Tables of rows in order.
use Rattle.std.proofs.Common.{◌≡◌, ◌≢◌, ℕ, suc, ◌<◌, Bool, true, false, cond, List, ◌∷◌, length, drop, get_or, Option}
use Rattle.std.proofs.Common.{Some, None, refl, ap, sym, ◌∙◌}
use Rattle.std.specs.Prelude.{is_some, slice_get, slice_set, remove as remove_at}
use Rattle.std.specs.declared.cmp.Ordering.{Ordering}
use Rattle.std.specs.Ordering.{nat_cmp, is_eq, eq_by_cmp}
use Rattle.std.specs.Cmp.{IsTotalOrder, nat_cmp_total, tied_itself}
use Rattle.std.specs.Option.{option_map_or}
use Rattle.std.specs.FinMap.{IsAntisymmetric, nat_cmp-IsAntisymmetric}
use Rattle.std.specs.FinMap.Entries.{find, is_sorted}
use Rattle.std.proofs.lemmas.Option.{slice_get_read, get_or_from_slice_get}
use Rattle.std.proofs.lemmas.Bool.{false≢true}
use Rattle.std.proofs.Math.Seq.{drop-cons}
use Rattle.ll_rights.specs.MapCodes.{same_list_map}
use Rattle.ll_rights.specs.Map.{Map, entries, get, has, insert, remove, from_sorted}
use Rattle.ll_rights.proofs.Maps.{equal_at, same_map, get-insert, get-remove, get-from_sorted, entries-from_sorted}
use Rattle.ll_rights.proofs.Places.{replaced, taken}
use Rattle.ll_seq.specs.declared.node.Node.{Node}

module _ {K V : Type 0} {R : K → K → Ordering} (o : IsTotalOrder R) where
  first_has : (n k : K) (v : V) (rows : List (K × V)) → k ≡ n → find R n ((k, v) ∷ rows) ≡ Some v
  first_has n k v rows same = ap (λ j. cond (is_eq (R n j)) (Some v) (find R n rows)) same
      ∙ ap (λ r. cond (is_eq r) (Some v) (find R n rows)) (tied_itself o n)

  -- the row at which a search stops
  pub row_found : (rows : List (K × V)) (i : ℕ) (n : K) (row : K × V) → i < length rows → row ≡ get_or rows i row
      → row.0 ≡ n → find R n rows ≡ find R n (drop i rows)
      → (v : V) × (find R n rows ≡ Some v) × (slice_get rows i ≡ Some (n, v))
  row_found rows i n row lt is same sought = (
    row.1,
    sought ∙ ap (find R n) (drop-cons rows i row lt ∙ ap (λ (r : K × V). r ∷ drop (suc i) rows) (sym is))
        ∙ first_has n row.0 row.1 (drop (suc i) rows) same,
    slice_get_read rows (length rows) i row refl lt is ∙ ap (λ k. Some (k, row.1)) same,
  )

-- what is said of a map's entries is said of its rows
pub of_rows : {K X A : Type 0} {R : K → K → Ordering} (f : List (K × X) → A) (rows seen : List (K × X)) (m : Map R X)
    → from_sorted rows ≡ m → is_sorted R rows ≡ true → seen ≡ rows → f (entries m) ≡ f seen
of_rows {R = R} f rows seen m is s same =
    ap (λ n. f (entries n)) (sym is) ∙ ap f (entries-from_sorted R rows s) ∙ ap f (sym same)

-- ---- maps by number

row_at : {K V : Type 0} (rows seen : List (K × V)) (k : K) (i : ℕ) (row : K × V) (v : V) → seen ≡ rows
    → slice_get seen i ≡ Some (k, v) → row ≡ get_or rows i row → row ≡ (k, v)
row_at rows seen k i row v same at value =
    value ∙ get_or_from_slice_get rows i (k, v) row (ap (λ rs. slice_get rs i) (sym same) ∙ at)

-- what the rows of a table answer
module _ {K V : Type 0} {R : K → K → Ordering} where
  pub got : (rows seen : List (K × V)) (m : Map R V) (k : K) → from_sorted rows ≡ m → is_sorted R rows ≡ true
      → seen ≡ rows → get m k ≡ find R k seen
  got rows seen m k is s same = ap (λ n. get n k) (sym is) ∙ get-from_sorted R rows k s ∙ ap (find R k) (sym same)

  pub got_row : (rows seen : List (K × V)) (m : Map R V) (k : K) (i : ℕ) (row : K × V) → from_sorted rows ≡ m
      → is_sorted R rows ≡ true → seen ≡ rows
      → (v : V) × (find R k seen ≡ Some v) × (slice_get seen i ≡ Some (k, v)) → row ≡ get_or rows i row
      → get m k ≡ Some row.1
  got_row rows seen m k i row is s same found value =
      got rows seen m k is s same ∙ found.1
      ∙ ap (λ (r : K × V). Some r.1) (sym (row_at rows seen k i row found.0 same found.2 value))

-- keys at which a map answers differently are two
pub two_keys : {K V : Type 0} {R : K → K → Ordering} (m : Map R V) (k j : K) (x y : Option V) → get m k ≡ x
    → get m j ≡ y → x ≢ y → k ≢ j
two_keys m k j x y at_k at_j differ same = differ (sym at_k ∙ ap (get m) same ∙ at_j)

module _ {K V : Type 0} {R : K → K → Ordering} (o : IsTotalOrder R) (exact : IsAntisymmetric R) where
  stays : (m : Map R V) (k q : K) (b : Bool) → get m k ≡ None → eq_by_cmp R q k ≡ b → cond b None (get m q) ≡ get m q
  stays m k q true none tied = sym none ∙ ap (get m) (sym (exact q k (equal_at _ tied)))
  stays m k q false none tied = refl

  pub remove-absent : (m : Map R V) (k : K) → get m k ≡ None → remove m k ≡ m
  remove-absent m k none = same_list_map _ _
      (same_map o exact (remove m k) m (λ q. get-remove o exact m k q ∙ stays m k q (eq_by_cmp R q k) none refl))

  -- the row of a key taken out
  pub without : (rows seen left : List (K × V)) (m : Map R V) (k : K) (i : ℕ) → from_sorted rows ≡ m
      → is_sorted R rows ≡ true → seen ≡ rows
      → (v : V) × (find R k seen ≡ Some v) × (slice_get seen i ≡ Some (k, v)) → left ≡ remove_at rows i
      → (is_sorted R left ≡ true) × (from_sorted left ≡ remove m k)
  without rows seen left m k i is s same found rest =
      taken o rows left m k found.0 i is s (ap (λ rs. slice_get rs i) (sym same) ∙ found.2) rest

  -- nothing taken out
  pub as_before : (rows seen : List (K × V)) (m : Map R V) (k : K) → from_sorted rows ≡ m → is_sorted R rows ≡ true
      → seen ≡ rows → find R k seen ≡ None → m ≡ remove m k
  as_before rows seen m k is s same none = sym (remove-absent m k (got rows seen m k is s same ∙ none))

  -- a key's value put in the place of another one, and put back
  put_back : (m : Map R V) (k q : K) (v w : V) (b : Bool) → get m k ≡ Some v → eq_by_cmp R q k ≡ b
      → cond b (Some v) (cond b (Some w) (get m q)) ≡ get m q
  put_back m k q v w true there tied = sym there ∙ ap (get m) (sym (exact q k (equal_at _ tied)))
  put_back m k q v w false there tied = refl

  pub insert_back : (m : Map R V) (k : K) (v w : V) → get m k ≡ Some v → insert (insert m k w) k v ≡ m
  insert_back m k v w there =
      same_list_map _ _ (same_map o exact (insert (insert m k w) k v) m (λ q.
      get-insert o exact (insert m k w) k v q
      ∙ ap (λ x. cond (eq_by_cmp R q k) (Some v) x) (get-insert o exact m k w q)
      ∙ put_back m k q v w (eq_by_cmp R q k) there refl))

  -- a key put in and another one taken out, in any order
  apart : (a b : Bool) (v : V) (x : Option V) → (a ≡ true → b ≡ true → ⊥)
      → cond a None (cond b (Some v) x) ≡ cond b (Some v) (cond a None x)
  apart true true v x differ = absurd (differ refl refl)
  apart true false v x differ = refl
  apart false b v x differ = refl

  pub remove-insert_other : (m : Map R V) (k j : K) (v : V) → (k ≢ j)
      → remove (insert m k v) j ≡ insert (remove m j) k v
  remove-insert_other m k j v differ =
      same_list_map _ _ (same_map o exact (remove (insert m k v) j) (insert (remove m j) k v) (λ q.
      get-remove o exact (insert m k v) j q
      ∙ ap (λ x. cond (eq_by_cmp R q j) None x) (get-insert o exact m k v q)
      ∙ apart (eq_by_cmp R q j) (eq_by_cmp R q k) v (get m q)
      (λ at_j at_k. differ (sym (exact q k (equal_at _ at_k)) ∙ exact q j (equal_at _ at_j)))
      ∙ sym (get-insert o exact (remove m j) k v q
      ∙ ap (λ x. cond (eq_by_cmp R q k) (Some v) x) (get-remove o exact m j q))))

module _ {V : Type 0} where
  back_again : (m : Map nat_cmp V) (k q : ℕ) (v : V) (b : Bool) → get m k ≡ None → eq_by_cmp nat_cmp q k ≡ b
      → cond b None (cond b (Some v) (get m q)) ≡ get m q
  back_again m k q v true none tied = sym none ∙ ap (get m) (sym (nat_cmp-IsAntisymmetric q k (equal_at _ tied)))
  back_again m k q v false none tied = refl

  pub remove-insert : (m : Map nat_cmp V) (k : ℕ) (v : V) → get m k ≡ None → remove (insert m k v) k ≡ m
  remove-insert m k v none =
      same_list_map _ _ (same_map nat_cmp_total nat_cmp-IsAntisymmetric (remove (insert m k v) k) m (λ q.
      get-remove nat_cmp_total nat_cmp-IsAntisymmetric (insert m k v) k q
      ∙ ap (λ o. cond (eq_by_cmp nat_cmp q k) None o) (get-insert nat_cmp_total nat_cmp-IsAntisymmetric m k v q)
      ∙ back_again m k q v (eq_by_cmp nat_cmp q k) none refl))

-- ---- a row with another value

module _ {K V : Type 0} {R : K → K → Ordering} (o : IsTotalOrder R) where
  pub record Changed (rows : List (K × V)) (m : Map R V) (k : K) (i : ℕ) (row : K × V) (w : V) : Type 0 where
    pub got : get m k ≡ Some row.1
    pub sorted : is_sorted R (slice_set rows i (row.0, w)) ≡ true
    pub whole : from_sorted (slice_set rows i (row.0, w)) ≡ insert m k w

  pub changed : (rows seen : List (K × V)) (m : Map R V) (k : K) (i : ℕ) (row : K × V) (w : V) → from_sorted rows ≡ m
      → is_sorted R rows ≡ true → seen ≡ rows
      → (v : V) × (find R k seen ≡ Some v) × (slice_get seen i ≡ Some (k, v)) → row ≡ get_or rows i row
      → Changed rows m k i row w
  changed rows seen m k i row w is s same found value =
      let row_is = row_at rows seen k i row found.0 same found.2 value in
      let over = replaced o rows (slice_set rows i (row.0, w)) m k found.0 w i is s
      (ap (λ rs. slice_get rs i) (sym same) ∙ found.2) (ap (λ (r : K × V). slice_set rows i (r.0, w)) row_is) in
      record {
        got = got_row rows seen m k i row is s same found value;
        sorted = over.0;
        whole = over.1;
      }

-- ---- the value of a key changed by what it was

abbrev pub instead : {K V : Type 0} {R : K → K → Ordering} → Map R V → K → V → Map R V
instead {V = V} m k w = option_map_or (λ (old : V). insert m k w) (get m k) m

module _ {K V : Type 0} {R : K → K → Ordering} where
  pub instead_there : (m after : Map R V) (k : K) (v w : V) → get m k ≡ Some v → after ≡ insert m k w
      → after ≡ instead m k w
  instead_there m after k v w there is = is ∙ sym (ap (λ o. option_map_or (λ (old : V). insert m k w) o m) there)

  pub instead_absent : (m : Map R V) (k : K) (w : V) → get m k ≡ None → m ≡ instead m k w
  instead_absent m k w missing = sym (ap (λ o. option_map_or (λ (old : V). insert m k w) o m) missing)

-- ---- numbers that are missing

module _ {V : Type 0} where
  pub not_missing : (rows seen : List (ℕ × V)) (m : Map nat_cmp V) (k : ℕ) → from_sorted rows ≡ m
      → is_sorted nat_cmp rows ≡ true → seen ≡ rows → has m k ≡ true → find nat_cmp k seen ≡ None → ⊥
  not_missing rows seen m k is s same there none =
      let gone : get m k ≡ None = got rows seen m k is s same ∙ none in
      false≢true (sym (ap is_some gone) ∙ there)

-- ---- the bytes of a node

-- with other bytes where there is such a node
abbrev pub with_bytes_by : (List ℕ → List ℕ) → Map nat_cmp Node → ℕ → Map nat_cmp Node
with_bytes_by f m k = option_map_or (λ (n : Node). insert m k (record n { bytes = f n.bytes })) (get m k) m

pub bytes_changed : (f : List ℕ → List ℕ) (m after : Map nat_cmp Node) (k : ℕ) (node : Node) (bytes : List ℕ)
    → get m k ≡ Some node → after ≡ insert m k (record node { bytes = bytes }) → bytes ≡ f node.bytes
    → after ≡ with_bytes_by f m k
bytes_changed f m after k node bytes there is new =
    is ∙ ap (λ (bs : List ℕ). insert m k (record node { bytes = bs })) new
    ∙ sym (ap (λ o. option_map_or (λ (n : Node). insert m k (record n { bytes = f n.bytes })) o m) there)

pub no_bytes : (f : List ℕ → List ℕ) (m : Map nat_cmp Node) (k : ℕ) → get m k ≡ None → m ≡ with_bytes_by f m k
no_bytes f m k missing = sym (ap (λ o. option_map_or (λ (n : Node). insert m k (record n { bytes = f n.bytes })) o m)
    missing)
