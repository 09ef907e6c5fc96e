-- The names of the rights in a set, and what text they make.
use Rattle.std.proofs.Common.{◌≡◌, ◌≢◌, ℕ, zero, suc, ◌+◌, ◌-◌, ◌*◌, ◌^◌, ◌<◌, ◌≤◌, true, false, ltb, eqb, not, ◌&&◌}
use Rattle.std.proofs.Common.{List, [], ◌∷◌, ◌++◌, length, take, drop, map, get_or, refl, ap, sym, ◌∙◌, drop-cons}
use Rattle.std.proofs.Common.{append_assoc, subst, codes, arith, inl, inr}
use Rattle.std.specs.Prelude.{◌==◌, nat_lt, bit_or}
use Rattle.std.specs.Int.{bit_at}
use Rattle.std.specs.List.{AllByRecursion, list_all, position_or_len, range_with_len, slice_split, join_with_byte}
use Rattle.std.specs.Str.{bytes_eq}
use Rattle.std.specs.Char.{digit_char}
use Rattle.std.specs.Int.Digits.{digits_of}
use Rattle.std.proofs.lemmas.Bool.{cases_lt, cases_Bool, both_ways, ne_eqb, lt-ltb, le-ltb, and_parts, agree_below_at}
use Rattle.std.proofs.lemmas.Bool.{eqb-true, ltb-true, not-true}
use Rattle.std.proofs.lemmas.Nat.{or_comm, or_shifted}
use Rattle.std.proofs.lemmas.Nat.Bits.{bit_at_above, bit_at_cat_low, bit_at_cat_high}
use Rattle.std.proofs.lemmas.List.{append-nil, take_all, take_more}
use Rattle.std.proofs.lemmas.Grind.{pow_more}
use Rattle.std.proofs.Math.Nat.{pow-le-pow_right}
use Rattle.std.proofs.lemmas.List.Elements.{All-from_recursion}
use Rattle.std.proofs.lemmas.List.Splits.{slice_split_none, slice_split_at, length-slice_split}
use Rattle.std.proofs.lemmas.List.Splits.{join_with_byte-slice_split}
use Rattle.ll_rights.specs.Right.{right_names, right_text, all_rights}
use Rattle.ll_rights.specs.Access.{holds, names_among, set_names, access_text}

-- ---- each name

place_of : List ℕ → ℕ
place_of name = position_or_len (λ other. bytes_eq other name) right_names

placed : (right : ℕ) → right < 15 → place_of (right_text right) ≡ right
unfolding place_of
placed right known = eqb-true _ _ (agree_below_at (λ k. place_of (right_text k) == k) (λ _. true) 15 right refl known)

same_name : (m n : ℕ) → m < 15 → n < 15 → right_text m ≡ right_text n → m ≡ n
same_name m n below under same = sym (placed m below) ∙ ap place_of same ∙ placed n under

-- no comma stands in the name, and it begins with a letter
pub record IsPlain (name : List ℕ) : Type 0 where
  pub letter : 57 < get_or name 0 0
  pub no_comma : AllByRecursion (λ b. (b == 44) ≡ false) name

no_comma : (bs : List ℕ) → list_all (λ b. not (b == 44)) bs ≡ true → AllByRecursion (λ b. (b == 44) ≡ false) bs
no_comma [] e = tt
no_comma (b ∷ bs) e = let p = and_parts (not (b == 44)) (list_all (λ b. not (b == 44)) bs) e in
    (not-true _ p.0, no_comma bs p.1)

plain : (right : ℕ) → right < 15 → IsPlain (right_text right)
plain right known =
    let both = agree_below_at (λ k. nat_lt 57 (get_or (right_text k) 0 0)
    && list_all (λ b. not (b == 44)) (right_text k)) (λ _. true) 15 right refl known in
    let p = and_parts (nat_lt 57 (get_or (right_text right) 0 0)) (list_all (λ b. not (b == 44)) (right_text right))
    both in
    record { letter = ltb-true _ _ p.0; no_comma = no_comma (right_text right) p.1 }

-- ---- the names in a set

pub names_yes : (right : ℕ) (rights : List ℕ) (set : ℕ) → holds set right ≡ true
    → names_among (right ∷ rights) set ≡ right_text right ∷ names_among rights set
unfolding names_among
names_yes right rights set h = rw h refl

pub names_no : (right : ℕ) (rights : List ℕ) (set : ℕ) → holds set right ≡ false
    → names_among (right ∷ rights) set ≡ names_among rights set
unfolding names_among
names_no right rights set h = rw h refl

pub names_end : (set : ℕ) → names_among [] set ≡ []
unfolding names_among
names_end set = refl

abbrev rights_from : ℕ → ℕ → List ℕ
rights_from first count = range_with_len first count

has_none : (set right k : ℕ) → set < 2 ^ k → k ≤ right → holds set right ≡ false
has_none set right k small above = rw (bit_at_above set k right small above) refl

none_above : (first count set k : ℕ) → set < 2 ^ k → k ≤ first → names_among (rights_from first count) set ≡ []
none_above first zero set k small above = names_end set
none_above first (suc count) set k small above =
    names_no first _ set (has_none set first k small above) ∙ none_above (first + 1) count set k small (omega arith)

-- the names with one more right, above all others
keeps_lower : (set right lower : ℕ) → set < 2 ^ right → lower < right → holds (set + 2 ^ right) lower ≡ holds set lower
keeps_lower set right lower small below =
    let sum : set + 2 ^ right ≡ 1 * 2 ^ right + set = omega arith in
    ap (λ n. n == 1) (ap (λ n. bit_at n lower) sum ∙ bit_at_cat_low 1 right set lower below)

has_it : (set right : ℕ) → set < 2 ^ right → holds (set + 2 ^ right) right ≡ true
has_it set right small =
    let sum : set + 2 ^ right ≡ 1 * 2 ^ right + set = omega arith in
    let place : right - right ≡ 0 = omega arith in
    ap (λ n. n == 1) (ap (λ n. bit_at n right) sum ∙ bit_at_cat_high 1 right set right small (omega arith)
    ∙ ap (bit_at 1) place)

names_push : (first count set right : ℕ) → set < 2 ^ right → first ≤ right → right < first + count
    → names_among (rights_from first count) (set + 2 ^ right) ≡ names_among (rights_from first count) set
    ++ right_text right ∷ []
names_push first zero set right small from to = absurd (omega arith)
names_push first (suc count) set right small from to = elim (cases_lt first right) [
  | inl below ↦ (
      let inner = names_push (first + 1) count set right small (omega arith) (omega arith) in
      let same = keeps_lower set right first small below in
      elim (cases_Bool (holds set first)) [
        | inl there ↦ rw (
          names_yes first (rights_from (first + 1) count) (set + 2 ^ right) (same ∙ there),
          names_yes first (rights_from (first + 1) count) set there,
          inner,
        ) refl
        | inr missing ↦ rw (
          names_no first (rights_from (first + 1) count) (set + 2 ^ right) (same ∙ missing),
          names_no first (rights_from (first + 1) count) set missing,
        ) inner
      ])
  | inr le ↦ (
      let at : right ≡ first = omega arith in
      let rest = none_above (first + 1) count (set + 2 ^ right) (right + 1) (omega (arith, pow_more 2 right))
      (omega arith) in
      let before = none_above first (suc count) set right small le in
      rw before (ap (λ f. names_among (f ∷ rights_from (first + 1) count) (set + 2 ^ right)) (sym at)
      ∙ names_yes right (rights_from (first + 1) count) (set + 2 ^ right) (has_it set right small)
      ∙ ap (λ (ns : List (List ℕ)). right_text right ∷ ns) rest))
]

not_empty : (name : List ℕ) (rest : List (List ℕ)) → [] ≢ name ∷ rest
not_empty name rest e = cc

-- the first name left says which rights are not there, and which are left
pub record NextName (first count set right : ℕ) (rest : List (List ℕ)) : Type 0 where
  pub from : first ≤ right
  pub to : right < first + count
  pub rest_is : names_among (rights_from (right + 1) (first + count - (right + 1))) set ≡ rest

next_name : (first count set : ℕ) (name : List ℕ) (rest : List (List ℕ)) (right : ℕ)
    → names_among (rights_from first count) set ≡ name ∷ rest
    → first + count ≤ 15 → right < 15 → name ≡ right_text right → NextName first count set right rest
next_name first zero set name rest right names fit known same =
    absurd (not_empty name rest (sym (names_end set) ∙ names))
next_name first (suc count) set name rest right names fit known same = elim (cases_Bool (holds set first)) [
  | inl there ↦ (
      let parts : right_text first ∷ names_among (rights_from (first + 1) count) set ≡ name ∷ rest =
      sym (names_yes first (rights_from (first + 1) count) set there) ∙ names in
      let head : right_text first ≡ name = cc in
      let tail : names_among (rights_from (first + 1) count) set ≡ rest = cc in
      let at : first ≡ right = same_name first right (omega arith) known (head ∙ same) in
      let more : first + 1 ≡ right + 1 = omega arith in
      let left : count ≡ first + suc count - (first + 1) = omega arith in
      record { from = omega arith; to = omega arith; rest_is = rw (← more, ← left) tail })
  | inr missing ↦ (
      let inner = next_name (first + 1) count set name rest right
      (sym (names_no first (rights_from (first + 1) count) set missing) ∙ names) (omega arith) known same in
      let left : first + 1 + count - (right + 1) ≡ first + suc count - (right + 1) = omega arith in
      record { from = omega (arith, inner.from); to = omega (arith, inner.to); rest_is = rw (← left) inner.rest_is })
]

pub is_name : (first count set : ℕ) (name : List ℕ) (rest : List (List ℕ))
    → names_among (rights_from first count) set ≡ name ∷ rest
    → (right : ℕ) × (right < first + count) × (name ≡ right_text right)
is_name first zero set name rest names = absurd (not_empty name rest (sym (names_end set) ∙ names))
is_name first (suc count) set name rest names = elim (cases_Bool (holds set first)) [
  | inl there ↦ (
      let parts : right_text first ∷ names_among (rights_from (first + 1) count) set ≡ name ∷ rest =
      sym (names_yes first (rights_from (first + 1) count) set there) ∙ names in
      (first, omega arith, cc))
  | inr missing ↦ (
      let inner = is_name (first + 1) count set name rest
      (sym (names_no first (rights_from (first + 1) count) set missing) ∙ names) in
      (inner.0, omega (arith, inner.1), inner.2))
]

-- ---- reading names from left to right

-- The first k parts are the names of the set, and no right from `next` on is in it. In a set with these parts as its
-- names, the parts that are left are those of its rights from `next` on
pub record ReadSoFar (parts : List (List ℕ)) (k set : ℕ) : Type 0 where
  pub next : ℕ
  pub in_range : next ≤ 15
  pub below : set < 2 ^ next
  pub names : set_names set ≡ take k parts
  pub rest : (other : ℕ) → parts ≡ set_names other → names_among (rights_from next (15 - next)) other ≡ drop k parts

pub read_none : (parts : List (List ℕ)) → ReadSoFar parts 0 0
read_none parts = record {
  next = 0;
  in_range = omega arith;
  below = omega arith;
  names = none_above 0 15 0 0 (omega arith) (omega arith);
  rest = λ other same. sym same;
}

part_at : (parts : List (List ℕ)) (k : ℕ) (part : List ℕ) → k < length parts → part ≡ get_or parts k part
    → drop k parts ≡ part ∷ drop (k + 1) parts
part_at parts k part within at =
    let next : suc k ≡ k + 1 = omega arith in
    drop-cons parts k part within ∙ (λ i. sym at i ∷ drop (next i) parts)

pub read_more : (parts : List (List ℕ)) (k set : ℕ) (part : List ℕ) (right only : ℕ) → ReadSoFar parts k set
    → k < length parts → part ≡ get_or parts k part
    → part ≡ right_text right → right < 15 → only ≡ 2 ^ right → set < only → ReadSoFar parts (k + 1) (bit_or set only)
read_more parts k set part right only so_far within at same known is below =
    let under : set < 2 ^ right = omega arith in
    let joined : bit_or set only ≡ set + 2 ^ right =
    ap (bit_or set) is ∙ or_comm set (2 ^ right) ∙ ap (λ n. bit_or n set) (omega arith)
    ∙ or_shifted 1 right set under ∙ omega arith in
    let pushed : set_names (set + 2 ^ right) ≡ take k parts ++ part ∷ [] =
    names_push 0 15 set right under (omega arith) (omega arith) ∙ rw (so_far.names, same) refl in
    record {
      next = right + 1;
      in_range = omega arith;
      below = rw joined (omega (arith, pow_more 2 right));
      names = rw joined (pushed ∙ ap (λ (p : List ℕ). take k parts ++ p ∷ []) at ∙ sym (take_more parts k part within));
      rest = λ other names.
          let left = so_far.rest other names ∙ part_at parts k part within at in
          let found = next_name so_far.next (15 - so_far.next) other part (drop (k + 1) parts) right left
          (omega (arith, so_far.in_range)) known same in
          let count : so_far.next + (15 - so_far.next) - (right + 1) ≡ 15 - (right + 1) =
          omega (arith, so_far.in_range) in
          rw (← count) found.rest_is;
    }

pub read_no_name : (parts : List (List ℕ)) (k set : ℕ) (part : List ℕ) → ReadSoFar parts k set → k < length parts
    → part ≡ get_or parts k part
    → ((right : ℕ) → right < 15 → part ≢ right_text right) → (other : ℕ) → parts ≢ set_names other
read_no_name parts k set part so_far within at unknown other names =
    let found = is_name so_far.next (15 - so_far.next) other part (drop (k + 1) parts) (so_far.rest other names
    ∙ part_at parts k part within at) in
    unknown found.0 (omega (arith, found.1, so_far.in_range)) found.2

pub read_too_low : (parts : List (List ℕ)) (k set : ℕ) (part : List ℕ) (right only : ℕ) → ReadSoFar parts k set
    → k < length parts → part ≡ get_or parts k part
    → part ≡ right_text right → right < 15 → only ≡ 2 ^ right → only ≤ set → (other : ℕ) → parts ≢ set_names other
read_too_low parts k set part right only so_far within at same known is above other names =
    let left = so_far.rest other names ∙ part_at parts k part within at in
    let found = next_name so_far.next (15 - so_far.next) other part (drop (k + 1) parts) right left
    (omega (arith, so_far.in_range)) known same in
    omega (arith, so_far.below, pow-le-pow_right {n = 2} (omega arith) {i = so_far.next} {j = right} found.from)

pub read_all : (parts : List (List ℕ)) (k set : ℕ) → ReadSoFar parts k set → length parts ≤ k → (set < 2 ^ 15)
    × (parts ≡ set_names set)
read_all parts k set so_far all = (
  omega (arith, so_far.below, pow-le-pow_right {n = 2} (omega arith) {i = so_far.next} {j = 15} so_far.in_range),
  sym (so_far.names ∙ take_all k parts all),
)

-- ---- the text of names

-- a set that has a right has a name
below_again : (first count set : ℕ) → set < 2 ^ (first + count) → names_among (rights_from first count) set ≡ []
    → set < 2 ^ first
below_again first zero set small names = let same : first + 0 ≡ first = omega arith in
    subst (λ n. set < 2 ^ n) same small
below_again first (suc count) set small names = elim (cases_Bool (holds set first)) [
  | inl there ↦ absurd (not_empty _ _ (sym names ∙ names_yes first (rights_from (first + 1) count) set there))
  | inr missing ↦ (
      let next : first + suc count ≡ first + 1 + count = omega arith in
      let inner = below_again (first + 1) count set (subst (λ n. set < 2 ^ n) next small)
      (sym (names_no first (rights_from (first + 1) count) set missing) ∙ names) in
      elim (cases_lt set (2 ^ first)) [
        | inl below ↦ below
        | inr above ↦ (
            let whole : set - 2 ^ first + 2 ^ first ≡ set = omega arith in
            let top = has_it (set - 2 ^ first) first (omega (arith, pow_more 2 first)) in
            absurd (both_ways (holds set first) missing (sym (ap (λ n. holds n first) whole) ∙ top)))
      ])
]

some_names : (set : ℕ) → 0 < set → set < 2 ^ 15 → set_names set ≢ []
some_names set some small names = omega (arith, below_again 0 15 set small names)

known_from : (k first count : ℕ) → first + count ≤ 15
    → AllByRecursion (λ right. right < 15) (take k (rights_from first count))
known_from zero first count fit = tt
known_from (suc k) first zero fit = tt
known_from (suc k) first (suc count) fit = (omega arith, known_from k (first + 1) count (omega arith))

plain_names : (rights : List ℕ) (set : ℕ) → AllByRecursion (λ right. right < 15) rights
    → AllByRecursion IsPlain (names_among rights set)
plain_names [] set known = rw (names_end set) tt
plain_names (right ∷ rights) set known = elim (cases_Bool (holds set right)) [
  | inl there ↦ rw (names_yes right rights set there) (plain right known.0, plain_names rights set known.1)
  | inr missing ↦ rw (names_no right rights set missing) (plain_names rights set known.1)
]

plain_in : (set : ℕ) → AllByRecursion IsPlain (set_names set)
plain_in set = plain_names all_rights set (known_from 15 0 15 (omega arith))

split_join : (part : List ℕ) (parts : List (List ℕ)) → AllByRecursion IsPlain (part ∷ parts)
    → slice_split (λ b. b == 44) (join_with_byte 44 (part ∷ parts)) ≡ part ∷ parts
split_join part [] h = slice_split_none (λ b. b == 44) part
    (All-from_recursion (λ b. (b == 44) ≡ false) part h.0.no_comma)
split_join part (next ∷ parts) h =
    slice_split_at (λ b. b == 44) part 44 (join_with_byte 44 (next ∷ parts))
    (All-from_recursion (λ b. (b == 44) ≡ false) part h.0.no_comma) refl
    ∙ ap (λ (ps : List (List ℕ)). part ∷ ps) (split_join next parts h.1)

split_again : (parts : List (List ℕ)) → parts ≢ [] → AllByRecursion IsPlain parts
    → slice_split (λ b. b == 44) (join_with_byte 44 parts) ≡ parts
split_again [] some h = absurd (some refl)
split_again (part ∷ parts) some h = split_join part parts h

front : (xs ys : List ℕ) → 57 < get_or xs 0 0 → 57 < get_or (xs ++ ys) 0 0
front [] ys h = absurd (omega arith)
front (x ∷ xs) ys h = h

first_letter : (parts : List (List ℕ)) → parts ≢ [] → AllByRecursion IsPlain parts
    → 57 < get_or (join_with_byte 44 parts) 0 0
first_letter [] some h = absurd (some refl)
first_letter (part ∷ []) some h = h.0.letter
first_letter (part ∷ next ∷ parts) some h = front part (44 ∷ join_with_byte 44 (next ∷ parts)) h.0.letter

-- ---- the text of a set

pub text_none : access_text 0 ≡ codes "none"
unfolding access_text
text_none = refl

pub text_names : (set : ℕ) → 0 < set → set < 2 ^ 15 → access_text set ≡ join_with_byte 44 (set_names set)
unfolding access_text
text_names set some small =
    let not_none : eqb set 0 ≡ false = ne_eqb set 0 (λ z. omega arith) in
    let known : ltb set 32768 ≡ true = lt-ltb set 32768 small in
    rw (not_none, known) refl

pub text_number : (set : ℕ) → 2 ^ 15 ≤ set → access_text set ≡ codes "0x" ++ map digit_char (digits_of 16 set)
unfolding access_text
text_number set large =
    let not_none : eqb set 0 ≡ false = ne_eqb set 0 (λ z. omega arith) in
    let unknown : ltb set 32768 ≡ false = le-ltb set 32768 large in
    rw (not_none, unknown) refl

-- the parts of a text are no empty list, so their set isn't empty
pub text_from_names : (text : List ℕ) (set : ℕ) → set < 2 ^ 15 → slice_split (λ b. b == 44) text ≡ set_names set
    → text ≡ access_text set
text_from_names text set small parts = elim (cases_lt 0 set) [
  | inl some ↦ sym (text_names set some small ∙ rw (← parts) (join_with_byte-slice_split 44 text))
  | inr le ↦ (
      let none : set_names set ≡ [] = none_above 0 15 set 0 (omega arith) (omega arith) in
      let long : length (slice_split (λ b. b == 44) text) ≡ 0 = ap length (parts ∙ none) in
      absurd (omega (arith, length-slice_split (λ b. b == 44) text)))
]

pub parts_of_text : (set : ℕ) → 0 < set → set < 2 ^ 15 → slice_split (λ b. b == 44) (access_text set) ≡ set_names set
parts_of_text set some small =
    ap (slice_split (λ b. b == 44)) (text_names set some small)
    ∙ split_again (set_names set) (some_names set some small) (plain_in set)

pub letter_of_text : (set : ℕ) → 0 < set → set < 2 ^ 15 → 57 < get_or (access_text set) 0 0
letter_of_text set some small =
    rw (text_names set some small) (first_letter (set_names set) (some_names set some small) (plain_in set))

-- ---- writing names from left to right

join_more : (parts : List (List ℕ)) (part : List ℕ) → 0 < length parts
    → join_with_byte 44 (parts ++ part ∷ []) ≡ join_with_byte 44 parts ++ 44 ∷ part
join_more [] part some = absurd (omega arith)
join_more (first ∷ []) part some = refl
join_more (first ∷ second ∷ parts) part some =
    ap (λ v. first ++ (44 ∷ v)) (join_more (second ∷ parts) part (omega arith))
    ∙ sym (append_assoc first (44 ∷ join_with_byte 44 (second ∷ parts)) (44 ∷ part))

names-append : (xs ys : List ℕ) (set : ℕ) → names_among (xs ++ ys) set ≡ names_among xs set ++ names_among ys set
names-append [] ys set = rw (names_end set) refl
names-append (x ∷ xs) ys set = elim (cases_Bool (holds set x)) [
  | inl there ↦ rw (names_yes x (xs ++ ys) set there, names_yes x xs set there, names-append xs ys set) refl
  | inr missing ↦ rw (names_no x (xs ++ ys) set missing, names_no x xs set missing, names-append xs ys set) refl
]

abbrev pub text_so_far : ℕ → ℕ → List ℕ
text_so_far k set = join_with_byte 44 (names_among (take k all_rights) set)

one_more : (k set right : ℕ) → k < 15 → right ≡ get_or all_rights k right
    → names_among (take (k + 1) all_rights) set ≡ names_among (take k all_rights) set ++ names_among (right ∷ []) set
one_more k set right within at =
    ap (λ (rights : List ℕ). names_among rights set) (take_more all_rights k right within
    ∙ ap (λ r. take k all_rights ++ r ∷ []) (sym at)) ∙ names-append (take k all_rights) (right ∷ []) set

pub written_none : (k set right : ℕ) → k < 15 → right ≡ get_or all_rights k right → holds set right ≡ false
    → text_so_far (k + 1) set ≡ text_so_far k set
written_none k set right within at missing =
    let same : names_among (take (k + 1) all_rights) set ≡ names_among (take k all_rights) set =
    one_more k set right within at
    ∙ ap (λ (ns : List (List ℕ)). names_among (take k all_rights) set ++ ns) (names_no right [] set missing
    ∙ names_end set) ∙ append-nil _ in
    ap (join_with_byte 44) same

one_name : (k set right : ℕ) → k < 15 → right ≡ get_or all_rights k right → holds set right ≡ true
    → names_among (take (k + 1) all_rights) set ≡ names_among (take k all_rights) set ++ right_text right ∷ []
one_name k set right within at there =
    one_more k set right within at ∙ rw (names_yes right [] set there, names_end set) refl

no_text : (parts : List (List ℕ)) → AllByRecursion IsPlain parts → length (join_with_byte 44 parts) ≡ 0 → parts ≡ []
no_text [] h e = refl
no_text (part ∷ parts) h e = absurd
    (no_letter (join_with_byte 44 (part ∷ parts)) (first_letter (part ∷ parts) (λ z. not_empty part parts (sym z)) h) e)
  where
    no_letter : (bs : List ℕ) → 57 < get_or bs 0 0 → length bs ≢ 0
    no_letter [] letter = absurd (omega arith)
    no_letter (b ∷ bs) letter = λ z. omega arith

pub written_first : (k set right : ℕ) → k < 15 → right ≡ get_or all_rights k right → holds set right ≡ true
    → length (text_so_far k set) ≡ 0 → text_so_far (k + 1) set ≡ right_text right
written_first k set right within at there empty =
    let none = no_text (names_among (take k all_rights) set)
    (plain_names (take k all_rights) set (known_from k 0 15 (omega arith))) empty in
    ap (join_with_byte 44) (one_name k set right within at there
    ∙ ap (λ (ns : List (List ℕ)). ns ++ right_text right ∷ []) none)

some_text : (parts : List (List ℕ)) → 0 < length (join_with_byte 44 parts) → 0 < length parts
some_text [] h = absurd (omega arith)
some_text (part ∷ parts) h = omega arith

pub written_next : (k set right : ℕ) → k < 15 → right ≡ get_or all_rights k right → holds set right ≡ true
    → 0 < length (text_so_far k set)
    → text_so_far (k + 1) set ≡ (text_so_far k set ++ 44 ∷ []) ++ right_text right
written_next k set right within at there some =
    ap (join_with_byte 44) (one_name k set right within at there)
    ∙ join_more (names_among (take k all_rights) set) (right_text right)
    (some_text (names_among (take k all_rights) set) some)
    ∙ sym (append_assoc (text_so_far k set) (44 ∷ []) (right_text right))
