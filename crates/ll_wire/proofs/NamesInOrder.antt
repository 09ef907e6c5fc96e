-- Names that rise, one after another.
use Rattle.std.proofs.Common.{◌≡◌, ◌≢◌, ℕ, ◌<◌, ◌≤◌, suc, List, [], ◌∷◌, ◌++◌, Less, length, codes, take, drop, get_or}
use Rattle.std.proofs.Common.{Option, Some, Bor, refl, ap, sym, subst, ◌∙◌, arith}
use Rattle.std.specs.Prelude.{◌==◌}
use Rattle.std.specs.Option.{MatchOption}
use Rattle.std.specs.List.{slice_split, AllByRecursion, flat_map, join_with_byte}
use Rattle.std.specs.List.Sorted.{IsStrictlySortedBy}
use Rattle.std.specs.Ordering.{nat_cmp}
use Rattle.std.specs.declared.cmp.Ordering.{Ordering}
use Rattle.std.specs.Cmp.Lexicographic.{slice_cmp, nat_list_cmp_total}
use Rattle.std.proofs.Math.Seq.{split_at}
use Rattle.std.proofs.lemmas.List.{append_assoc, map-id}
use Rattle.std.proofs.lemmas.List.Splits.{join_with_byte-slice_split, length-slice_split}
use Rattle.ll_path.specs.Name.{IsName}
use Rattle.ll_seq.specs.Listed.{AreListed}
use Rattle.ll_wire.specs.Parts.{SpellsNames}
use Rattle.ll_wire.proofs.Joined.{joined}
use Rattle.ll_wire.proofs.OneReply.{names_tokens}
use Rattle.ll_wire.proofs.Tokens.{cut_at_spaces}

abbrev pub order : List ℕ → List ℕ → Ordering
order = slice_cmp nat_cmp

abbrev pub Rise : List (List ℕ) → Type 0
Rise = IsStrictlySortedBy order

-- the last name, or the text that stands before the first
abbrev pub last_from : List ℕ → List (List ℕ) → List ℕ
last_from before [] = before
last_from before (name ∷ names) = last_from name names

pub last_is : (before : List ℕ) (names : List (List ℕ)) (name : List ℕ) → last_from before (names ++ name ∷ []) ≡ name
last_is before [] name = refl
last_is before (next ∷ names) name = last_is next names name

before_all : (before name : List ℕ) (names : List (List ℕ)) → order before name ≡ Less
    → AllByRecursion (λ other. order name other ≡ Less) names
    → AllByRecursion (λ other. order before other ≡ Less) names
before_all before name [] h k = tt
before_all before name (other ∷ names) h k =
    (nat_list_cmp_total.trans before name other h k.0, before_all before name names h k.1)

pub one_more : (before : List ℕ) (names : List (List ℕ)) (name : List ℕ) → Rise (before ∷ names)
    → order (last_from before names) name ≡ Less → Rise (before ∷ (names ++ name ∷ []))
unfolding IsStrictlySortedBy
one_more before [] name h k = ((k, tt), (tt, tt))
one_more before (next ∷ names) name h k =
    let later = one_more next names name h.1 k in
    ((h.0.0, before_all before next (names ++ name ∷ []) h.0.0 later.0), later)

pub next_rises : (before : List ℕ) (names : List (List ℕ)) (name : List ℕ) (others : List (List ℕ))
    → Rise (before ∷ (names ++ name ∷ others)) → order (last_from before names) name ≡ Less
unfolding IsStrictlySortedBy
next_rises before [] name others h = h.0.0
next_rises before (next ∷ names) name others h = next_rises next names name others h.1

after_empty : (name : List ℕ) → 0 < length name → order [] name ≡ Less
after_empty [] h = absurd (omega arith)
after_empty (b ∷ name) h = refl

all_after_empty : (names : List (List ℕ)) → AllByRecursion IsName names
    → AllByRecursion (λ name. order [] name ≡ Less) names
all_after_empty [] h = tt
all_after_empty (name ∷ names) h = (after_empty name h.0.0, all_after_empty names h.1)

from_empty : (names : List (List ℕ)) → AreListed names → Rise ([] ∷ names)
unfolding IsStrictlySortedBy
from_empty names h = (all_after_empty names h.0, h.1)

pub none_rise : Rise ([] ∷ [])
unfolding IsStrictlySortedBy
none_rise = (tt, tt)

pub are_listed : (names : List (List ℕ)) → AllByRecursion IsName names → Rise ([] ∷ names) → AreListed names
unfolding IsStrictlySortedBy
are_listed names h k = (h, k.1)

pub no_names : AreListed []
unfolding IsStrictlySortedBy
no_names = (tt, tt)

pub all_and : {X : Type 0} (P : X → Type 0) (xs : List X) (x : X) → AllByRecursion P xs → P x
    → AllByRecursion P (xs ++ x ∷ [])
all_and P [] x h k = (k, tt)
all_and P (y ∷ xs) x h k = (h.0, all_and P xs x h.1 k)

all_at : {X : Type 0} (P : X → Type 0) (xs : List X) (x : X) (ys : List X) → AllByRecursion P (xs ++ x ∷ ys) → P x
all_at P [] x ys h = h.0
all_at P (y ∷ xs) x ys h = all_at P xs x ys h.1

-- the name at a place of a listing: it is one, and comes after the last before it
pub name_at : (all before : List (List ℕ)) (name : List ℕ) (k : ℕ) → AreListed all → k < length all
    → before ≡ take k all → name ≡ get_or all k name
    → IsName name × (order (last_from [] before) name ≡ Less)
name_at all before name k h lt front at =
    let cut : all ≡ before ++ name ∷ drop (suc k) all =
    split_at all k name lt ∙ (λ i. sym front i ++ sym at i ∷ drop (suc k) all) in (
      all_at IsName before name (drop (suc k) all) (subst (AllByRecursion IsName) cut h.0),
      next_rises [] before name (drop (suc k) all)
          (subst (λ (names : List (List ℕ)). Rise ([] ∷ names)) cut (from_empty all h)),
    )

all_before : {X : Type 0} (P : X → Type 0) (xs ys : List X) → AllByRecursion P (xs ++ ys) → AllByRecursion P xs
all_before P [] ys h = tt
all_before P (x ∷ xs) ys h = (h.0, all_before P xs ys h.1)

rise_before : (names others : List (List ℕ)) → Rise (names ++ others) → Rise names
unfolding IsStrictlySortedBy
rise_before [] others h = tt
rise_before (name ∷ names) others h =
    (all_before (λ other. order name other ≡ Less) names others h.0, rise_before names others h.1)

-- the names up to a place of a listing
pub listed_to : (all before : List (List ℕ)) (name : List ℕ) (k : ℕ) → AreListed all → k < length all
    → before ≡ take k all → name ≡ get_or all k name → AreListed (before ++ name ∷ [])
listed_to all before name k h lt front at =
    let others = drop (suc k) all in
    let cut : all ≡ before ++ name ∷ others = split_at all k name lt ∙ (λ i. sym front i ++ sym at i ∷ others) in
    let again : all ≡ (before ++ name ∷ []) ++ others = cut ∙ sym (append_assoc before (name ∷ []) others) in (
      all_before IsName (before ++ name ∷ []) others (subst (AllByRecursion IsName) again h.0),
      rise_before (before ++ name ∷ []) others (subst Rise again h.1),
    )

-- ---- the text of a listing

spaced : (names : List (List ℕ)) → 1 ≤ length names → 32 ∷ join_with_byte 32 names ≡ flat_map (λ name. 32 ∷ name) names
spaced [] h = absurd (omega arith)
spaced (name ∷ names) h =
    ap (λ (x : List ℕ). 32 ∷ x) (ap (λ (others : List (List ℕ)). join_with_byte 32 (name ∷ others)) (sym (map-id names))
    ∙ joined (λ n. n) name names)

pub named : (names : List (List ℕ))
    → join_with_byte 32 (codes "names" ∷ names) ≡ codes "names" ++ flat_map (λ name. 32 ∷ name) names
named names = ap (λ (others : List (List ℕ)). join_with_byte 32 (codes "names" ∷ others)) (sym (map-id names))
    ∙ joined (λ n. n) (codes "names") names

-- a text that starts with no space is no listing's, but for the empty one
pub no_space : (text : List ℕ) → 0 < length text → ((rest : List ℕ) → text ≢ 32 ∷ rest) → (names : List (List ℕ))
    → SpellsNames text names → ⊥
no_space text some none [] h = omega (arith, ap length h.1)
no_space text some none (name ∷ names) h = none (name ++ flat_map (λ n. 32 ∷ n) names) h.1

-- behind the first space stand the names
pub names_are : (text rest : List ℕ) (names : List (List ℕ)) → text ≡ 32 ∷ rest → SpellsNames text names
    → names ≡ slice_split (λ b. b == 32) rest
names_are text rest [] e h = absurd (omega (arith, ap length (sym e ∙ h.1)))
names_are text rest (name ∷ names) e h =
    let same : rest ≡ join_with_byte 32 (name ∷ names) =
    ap (drop 1) (sym e ∙ h.1 ∙ sym (spaced (name ∷ names) (omega arith))) in
    sym (ap (slice_split (λ b. b == 32)) same ∙ cut_at_spaces name names (names_tokens (name ∷ names) h.0.0))

pub names_spelled : (text rest : List ℕ) → text ≡ 32 ∷ rest → AreListed (slice_split (λ b. b == 32) rest)
    → SpellsNames text (slice_split (λ b. b == 32) rest)
names_spelled text rest e h =
    let names = slice_split (λ b. b == 32) rest in (
      h,
      e ∙ ap (λ (x : List ℕ). 32 ∷ x) (sym (join_with_byte-slice_split 32 rest))
          ∙ spaced names (omega (arith, length-slice_split (λ b. b == 32) rest)),
    )

pub nothing_spelled : (text : List ℕ) (names : List (List ℕ)) → length text ≡ 0 → names ≡ [] → SpellsNames text names
nothing_spelled [] names none e = subst (SpellsNames []) (sym e) (no_names, refl)
nothing_spelled (b ∷ text) names none e = absurd (omega arith)

-- behind the character that a text starts with
pub behind : (c : ℕ) (text : List ℕ) (found : Option (Bor (List ℕ))) (rest : Bor (List ℕ))
    → MatchOption found ((rest : List ℕ) → text ≢ c ∷ rest) (λ x. text ≡ c ∷ x.now)
    → found ≡ Some rest → text ≡ c ∷ rest.now
behind c text found rest h e =
    subst (λ r. MatchOption r ((rest : List ℕ) → text ≢ c ∷ rest) (λ x. text ≡ c ∷ x.now)) e h
