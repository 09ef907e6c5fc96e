-- Whose mark a directory carries, and what a walk that comes, goes on or ends changes of it.
use Rattle.std.specs.Prelude.{◌≡◌, ◌≢◌, ℕ, zero, suc, ◌+◌, ◌<◌, ◌≤◌, Bool, true, false, cond, ◌&&◌, ◌||◌, ◌==◌, List}
use Rattle.std.specs.Prelude.{[], ◌∷◌, Option, Some, None, is_some, option_map, slice_get, refl}
use Rattle.std.specs.Option.{option_map_or}
use Rattle.std.specs.List.{list_any}
use Rattle.std.specs.Ordering.{nat_cmp}
use Rattle.std.specs.Cmp.{nat_cmp_total}
use Rattle.std.specs.FinMap.{nat_cmp-IsAntisymmetric}
use Rattle.std.proofs.Common.{sym, ap, ◌∙◌, inl, inr, arith}
use Rattle.std.proofs.lemmas.Bool.{eqb-true, eq-eqb}
use Rattle.ll_rights.specs.Map.{Map, get, insert, remove, entries}
use Rattle.ll_rights.proofs.Maps.{get-insert_same, get-insert_other, get-remove_other, got_left}
use Rattle.ll_path.specs.Path.{is_root}
use Rattle.ll_seq.specs.declared.call.Call.{Call}
use Rattle.ll_seq.specs.Call.{first_path, second_path}
use Rattle.ll_seq.proofs.Parted.{or_split}
use Rattle.ll_seq.proofs.DentryRows.{found_of_row}
use Rattle.ll_laws.proofs.Chains.{same_Some}
use Rattle.ll_laws.specs.Walk.{Walk, Leg, Position, Above, Down, Split, has_two_paths, toward, turn, with_turn}
use Rattle.ll_laws.specs.Walk.{forked, marks, legs}
use Rattle.ll_laws.specs.World.{World, next_number, map_values, overtaken, is_marked}
use Rattle.ll_journal.specs.Book.{has_mark, marked_below, mark_of}
use Rattle.ll_laws.specs.Walks.{AreApart}
use Rattle.ll_laws.specs.Sound.{IsSound}
use Rattle.ll_laws.proofs.Shapes.{with_stale}
use Rattle.ll_laws.proofs.WalkMaps.{found, get-map_values}
use Rattle.ll_laws.proofs.Tests.{or_false}

-- ---- who has a mark

pub has_mark_of : (w : World) (i n : ℕ) (walk : Walk) → get w.walks n ≡ Some walk → has_mark w i n ≡ marks walk i
has_mark_of w i n walk is = ap (λ o. option_map_or (λ (v : Walk). marks v i) o false) is

pub whose_mark : (w : World) (i n : ℕ) → has_mark w i n ≡ true → (walk : Walk) × (get w.walks n ≡ Some walk)
    × (marks walk i ≡ true)
whose_mark w i n h =
    elim (get w.walks n) as (λ o. option_map_or (λ (v : Walk). marks v i) o false ≡ true → (walk : Walk)
    × (o ≡ Some walk) × (marks walk i ≡ true)) [
      | None ↦ λ f. absurd (cc f)
      | Some walk ↦ λ f. (walk, refl, f)
    ] h

one_has_it : (w : World) (i c d : ℕ) → AreApart w → has_mark w i c ≡ true → has_mark w i d ≡ true → c ≡ d
one_has_it w i c d apart a b = let v = whose_mark w i c a in let u = whose_mark w i d b in
    apart c v.0 v.1 d u.0 u.1 i v.2 u.2

-- ---- numbers below a bound

module _ (w : World) (i : ℕ) where
  below_found : (bound n : ℕ) → marked_below w i bound ≡ Some n → has_mark w i n ≡ true
  below_found zero n e = absurd (cc e)
  below_found (suc b) n e =
      elim (has_mark w i b) as (λ t. has_mark w i b ≡ t → cond t (Some b) (marked_below w i b) ≡ Some n
      → has_mark w i n ≡ true) [
        | true ↦ λ h f. ap (has_mark w i) (sym (same_Some b n f)) ∙ h
        | false ↦ λ h f. below_found b n f
      ] refl e

  below_only : (bound n : ℕ) → n < bound → has_mark w i n ≡ true → ((m : ℕ) → has_mark w i m ≡ true → m ≡ n)
      → marked_below w i bound ≡ Some n
  below_only zero n lt h only = absurd (omega arith)
  below_only (suc b) n lt h only =
      elim (has_mark w i b) as (λ t. has_mark w i b ≡ t → cond t (Some b) (marked_below w i b) ≡ Some n) [
        | true ↦ λ g. ap Some (only b g)
        | false ↦ λ g.
            let other : n ≢ b = λ e. cc (sym g ∙ ap (has_mark w i) (sym e) ∙ h) in
            below_only b n (omega arith) h only
      ] refl

  below_none : (bound : ℕ) → ((n : ℕ) → has_mark w i n ≡ false) → marked_below w i bound ≡ None
  below_none zero none = refl
  below_none (suc b) none = ap (λ t. cond t (Some b) (marked_below w i b)) (none b) ∙ below_none b none

  below_free : (bound : ℕ) → marked_below w i bound ≡ None → (n : ℕ) → n < bound → has_mark w i n ≡ false
  below_free zero e n lt = absurd (omega arith)
  below_free (suc b) e n lt =
      elim (has_mark w i b) as (λ t. has_mark w i b ≡ t → cond t (Some b) (marked_below w i b) ≡ None
      → has_mark w i n ≡ false) [
        | true ↦ λ h f. absurd (cc f)
        | false ↦ λ h f. elim (n == b) as (λ t. (n == b) ≡ t → has_mark w i n ≡ false) [
          | true ↦ λ same. ap (has_mark w i) (eqb-true n b same) ∙ h
          | false ↦ λ two. let other : n ≢ b = λ g. cc (sym two ∙ eq-eqb n b g) in below_free b f n (omega arith)
        ] refl
      ] refl e

  -- nobody has it past a bound
  below_more : (bound more : ℕ) → ((n : ℕ) → bound ≤ n → has_mark w i n ≡ false)
      → marked_below w i (bound + more) ≡ marked_below w i bound
  below_more bound zero past = ap (marked_below w i) (omega arith)
  below_more bound (suc more) past =
      let longer : bound + suc more ≡ suc (bound + more) = omega arith in
      ap (marked_below w i) longer
      ∙ ap (λ t. cond t (Some (bound + more)) (marked_below w i (bound + more))) (past (bound + more) (omega arith))
      ∙ below_more bound more past

below_same : (w v : World) (i bound : ℕ) → ((n : ℕ) → has_mark v i n ≡ has_mark w i n)
    → marked_below v i bound ≡ marked_below w i bound
below_same w v i zero same = refl
below_same w v i (suc b) same = let rest = below_same w v i b same in let here = same b in
    λ j. cond (here j) (Some b) (rest j)

-- ---- the mark of an inode

-- each walk is that of a client
abbrev pub AreClients : World → Type 0
AreClients w = (n : ℕ) (walk : Walk) → get w.walks n ≡ Some walk → n < next_number w

pub are_clients : (w : World) → IsSound w → AreClients w
are_clients w h n walk is = let most = h.numbers n (h.valid n walk is).0.there in omega arith

past_clients : (w : World) (i : ℕ) → AreClients w → (n : ℕ) → next_number w ≤ n → has_mark w i n ≡ false
past_clients w i known n past = by (has_mark w i n) refl
  where
    by : (t : Bool) → has_mark w i n ≡ t → t ≡ false
    by false e = refl
    by true e = let x = whose_mark w i n e in let lt = known n x.0 x.1 in absurd (omega arith)

module _ (w : World) (i : ℕ) where
  -- it is of the client whose walk stands there
  pub mark_is : AreClients w → AreApart w → (n : ℕ) → has_mark w i n ≡ true → mark_of w i ≡ Some n
  mark_is known apart n h =
      let walk = whose_mark w i n h in
      below_only w i (next_number w) n (known n walk.0 walk.1) h (λ m g. one_has_it w i m n apart g h)

  pub mark_found : (n : ℕ) → mark_of w i ≡ Some n → has_mark w i n ≡ true
  mark_found n e = below_found w i (next_number w) n e

  pub mark_none : ((n : ℕ) → has_mark w i n ≡ false) → mark_of w i ≡ None
  mark_none free = below_none w i (next_number w) free

  pub mark_free : AreClients w → mark_of w i ≡ None → (n : ℕ) → has_mark w i n ≡ false
  mark_free known e n = by (has_mark w i n) refl
    where
      by : (t : Bool) → has_mark w i n ≡ t → t ≡ false
      by false h = refl
      by true h = let walk = whose_mark w i n h in sym h ∙ below_free w i (next_number w) e n (known n walk.0 walk.1)

-- it stays where no client's does otherwise
pub mark_same : (w v : World) (i : ℕ) → AreClients w → AreClients v → ((n : ℕ) → has_mark v i n ≡ has_mark w i n)
    → mark_of v i ≡ mark_of w i
mark_same w v i known known' same =
    sym (below_more v i (next_number v) (next_number w) (past_clients v i known'))
    ∙ below_same w v i (next_number v + next_number w) same
    ∙ ap (marked_below w i) turned
    ∙ below_more w i (next_number w) (next_number v) (past_clients w i known)
  where
    turned : next_number v + next_number w ≡ next_number w + next_number v
    turned = omega arith

-- ---- tests of marks

any_row : {A : Type 0} (f : A → Bool) (es : List A) → list_any f es ≡ true → (k : ℕ) × (row : A)
    × (slice_get es k ≡ Some row) × (f row ≡ true)
any_row f [] h = absurd (cc h)
any_row f (e ∷ es) h = elim (or_split (f e) (list_any f es) h) [
  | inl a ↦ (0, e, refl, a)
  | inr a ↦ let rest = any_row f es a in (suc rest.0, rest.1, rest.2, rest.3)
]

-- a test that some walk passes
pub who_passes : (m : Map nat_cmp Walk) (f : ℕ × Walk → Bool) → list_any f (entries m) ≡ true → (n : ℕ) × (walk : Walk)
    × (get m n ≡ Some walk) × (f (n, walk) ≡ true)
unfolding get entries
who_passes m f h =
    let row = any_row f m.list h in
    (row.1.0, row.1.1, found_of_row nat_cmp_total nat_cmp-IsAntisymmetric m.list row.0 row.1 m.sorted row.2, row.3)

-- a directory is marked where its slot has a mark
pub is_marked_is : (w : World) (i : ℕ) → AreClients w → is_marked w i ≡ is_some (mark_of w i)
is_marked_is w i known = by (mark_of w i) refl
  where
    by : (o : Option ℕ) → mark_of w i ≡ o → is_marked w i ≡ is_some o
    by None e = or_false (is_marked w i) (λ h.
        let x = who_passes w.walks (λ (r : ℕ × Walk). marks r.1 i) h in
        cc (sym (mark_free w i known e x.0) ∙ has_mark_of w i x.0 x.1 x.2 ∙ x.3))
    by (Some n) e = let walk = whose_mark w i n (mark_found w i n e) in
        found w.walks (λ (r : ℕ × Walk). marks r.1 i) n walk.0 walk.1 walk.2

-- ---- a walk that comes, or has other places

module _ (w v : World) (number : ℕ) (walk : Walk) (is : v.walks ≡ insert w.walks number walk) where
  has_mark_put : (i : ℕ) → has_mark v i number ≡ marks walk i
  has_mark_put i = has_mark_of v i number walk (ap (λ m. get m number) is
      ∙ get-insert_same nat_cmp_total nat_cmp-IsAntisymmetric w.walks number walk)

  has_mark_put_other : (i n : ℕ) → n ≢ number → has_mark v i n ≡ has_mark w i n
  has_mark_put_other i n other =
      ap (λ o. option_map_or (λ (u : Walk). marks u i) o false) (ap (λ m. get m n) is
      ∙ get-insert_other nat_cmp_total nat_cmp-IsAntisymmetric w.walks number walk n other)

  -- where it stands
  pub mark_put : (i : ℕ) → AreClients v → AreApart v → marks walk i ≡ true → mark_of v i ≡ Some number
  mark_put i known apart h = mark_is v i known apart number (has_mark_put i ∙ h)

  -- where it stood, and doesn't any more
  pub mark_put_gone : (i : ℕ) → AreApart w → has_mark w i number ≡ true → marks walk i ≡ false → mark_of v i ≡ None
  mark_put_gone i apart had h = mark_none v i (λ n. by n (n == number) refl)
    where
      by : (n : ℕ) (b : Bool) → (n == number) ≡ b → has_mark v i n ≡ false
      by n true e = ap (has_mark v i) (eqb-true n number e) ∙ has_mark_put i ∙ h
      by n false e =
          let other : n ≢ number = λ same. cc (sym e ∙ eq-eqb n number same) in
          has_mark_put_other i n other ∙ or_false (has_mark w i n) (λ g. other (one_has_it w i n number apart g had))

  -- where it stands as it did
  pub mark_put_same : (i : ℕ) → AreClients w → AreClients v → has_mark w i number ≡ marks walk i
      → mark_of v i ≡ mark_of w i
  mark_put_same i known known' same = mark_same w v i known known' (λ n. by n (n == number) refl)
    where
      by : (n : ℕ) (b : Bool) → (n == number) ≡ b → has_mark v i n ≡ has_mark w i n
      by n true e = let at = eqb-true n number e in
          ap (has_mark v i) at ∙ has_mark_put i ∙ sym same ∙ ap (has_mark w i) (sym at)
      by n false e = has_mark_put_other i n (λ same. cc (sym e ∙ eq-eqb n number same))

-- ---- a walk that goes

-- of the walks that are left, all as they were
abbrev pub Leaves : World → World → ℕ → Type 0
Leaves w v number = (i n : ℕ) → has_mark v i n ≡ cond (n == number) false (has_mark w i n)

module _ (w v : World) (number : ℕ) (leaves : Leaves w v number) where
  -- where it stood
  pub mark_gone : (i : ℕ) → AreApart w → has_mark w i number ≡ true → mark_of v i ≡ None
  mark_gone i apart had = mark_none v i (λ n. leaves i n ∙ by n (n == number) refl)
    where
      by : (n : ℕ) (b : Bool) → (n == number) ≡ b → cond b false (has_mark w i n) ≡ false
      by n true e = refl
      by n false e = or_false (has_mark w i n) (λ g. cc (sym e ∙ eq-eqb n number (one_has_it w i n number apart g had)))

  -- anywhere else
  pub mark_left : (i : ℕ) → AreClients w → AreClients v → has_mark w i number ≡ false → mark_of v i ≡ mark_of w i
  mark_left i known known' free = mark_same w v i known known' (λ n. leaves i n ∙ by n (n == number) refl)
    where
      by : (n : ℕ) (b : Bool) → (n == number) ≡ b → cond b false (has_mark w i n) ≡ has_mark w i n
      by n true e = sym (ap (has_mark w i) (eqb-true n number e) ∙ free)
      by n false e = refl

-- marks that a stale walk keeps
pub has_mark_stale : (w : World) (moved : List ℕ) (i n : ℕ) → has_mark (with_stale moved w) i n ≡ has_mark w i n
has_mark_stale w moved i n =
    ap (λ o. option_map_or (λ (u : Walk). marks u i) o false) (get-map_values (overtaken moved) w.walks n)
    ∙ by (get w.walks n)
  where
    by : (o : Option Walk) → option_map_or (λ (u : Walk). marks u i) (option_map (overtaken moved) o) false
        ≡ option_map_or (λ (u : Walk). marks u i) o false
    by None = refl
    by (Some u) = refl

-- a walk that is taken out leaves the others, and so does what marks some of these stale
pub leaves_removed : (w v : World) (number : ℕ) (moved : List ℕ)
    → v.walks ≡ map_values (overtaken moved) (remove w.walks number) → Leaves w v number
leaves_removed w v number moved is i n =
    ap (λ m. option_map_or (λ (u : Walk). marks u i) (get m n) false) is
    ∙ has_mark_stale (record w { walks = remove w.walks number }) moved i n
    ∙ by (n == number) refl
  where
    by : (b : Bool) → (n == number) ≡ b
        → has_mark (record w { walks = remove w.walks number }) i n ≡ cond b false (has_mark w i n)
    by true e = or_false _ (λ g.
        let x = whose_mark (record w { walks = remove w.walks number }) i n g in
        (got_left nat_cmp_total nat_cmp-IsAntisymmetric w.walks number n x.0 x.1).1 (eqb-true n number e))
    by false e =
        ap (λ o. option_map_or (λ (u : Walk). marks u i) o false)
        (get-remove_other nat_cmp_total nat_cmp-IsAntisymmetric w.walks number n
        (λ same. cc (sym e ∙ eq-eqb n number same)))

-- ---- where a walk stands after a descent or a fork

abbrev stands_in : Position → ℕ → Bool
stands_in at i = list_any (λ (leg : Leg). leg.here == i) (legs at)

-- the directory that the leg in turn leaves, and the one that it comes to
pub turn_leaves : (at : Position) (leg from : Leg) (i : ℕ) → turn at ≡ Some from → (from.here == i) ≡ false
    → (leg.here == i) ≡ false → stands_in (with_turn at leg) i ≡ stands_in at i
turn_leaves Above leg from i is a b = absurd (cc is)
turn_leaves (Down trunk) leg from i is a b =
    ap (λ t. t || false) (b ∙ sym a ∙ ap (λ (l : Leg). l.here == i) (sym (same_Some trunk from is)))
turn_leaves (Split trunk old new) leg from i is a b =
    elim (is_root old.ahead) as (λ t. Some (cond t new old) ≡ Some from
    → stands_in (cond t (Split trunk old leg) (Split trunk leg new)) i ≡ stands_in (Split trunk old new) i) [
      | true ↦ λ f.
          let same : (leg.here == i) ≡ (new.here == i) =
          b ∙ sym a ∙ ap (λ (l : Leg). l.here == i) (sym (same_Some new from f)) in
          ap (λ t. (trunk.here == i) || ((old.here == i) || (t || false))) same
      | false ↦ λ f.
          let same : (leg.here == i) ≡ (old.here == i) =
          b ∙ sym a ∙ ap (λ (l : Leg). l.here == i) (sym (same_Some old from f)) in
          ap (λ t. (trunk.here == i) || (t || ((new.here == i) || false))) same
    ] is

-- past the fork it stands where it did
pub fork_leaves : (call : Call) (at next : Position) (i : ℕ) → forked call at ≡ Some next
    → stands_in next i ≡ stands_in at i
fork_leaves call Above next i e = absurd (cc e)
fork_leaves call (Split a b c) next i e = absurd (cc e)
fork_leaves call (Down trunk) next i e =
    elim (has_two_paths call && is_root trunk.ahead) as (λ b. cond b (Some split) None ≡ Some next
    → stands_in next i ≡ stands_in (Down trunk) i) [
      | true ↦ λ f. ap (λ p. stands_in p i) (sym (same_Some split next f)) ∙ thrice (trunk.here == i)
      | false ↦ λ f. absurd (cc f)
    ] e
  where
    split : Position
    split = Split trunk (toward trunk (first_path call)) (toward trunk (second_path call))

    thrice : (a : Bool) → (a || (a || (a || false))) ≡ (a || false)
    thrice true = refl
    thrice false = refl
