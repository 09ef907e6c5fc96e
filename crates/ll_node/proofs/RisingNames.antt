-- The names of a table are listed: they are names, and their bytes rise.
use Rattle.std.specs.Prelude.{◌≡◌, ℕ, List, [], ◌∷◌, ◌++◌, map, String, string_bytes, string_cmp}
use Rattle.std.specs.declared.cmp.Ordering.TheVariants.{Less}
use Rattle.std.specs.Ordering.{nat_cmp}
use Rattle.std.specs.Cmp.Lexicographic.{slice_cmp}
use Rattle.std.specs.List.{AllByRecursion}
use Rattle.std.specs.List.Sorted.{IsStrictlySortedBy}
use Rattle.std.specs.BTreeMap.{BTreeMap, IsOrdered, keys}
use Rattle.std.proofs.lemmas.List.Elements.{All-map, recursion_from_All}
use Rattle.ll_path.specs.Name.{IsName}
use Rattle.ll_seq.specs.Listed.{AreListed}
use Rattle.ll_node.specs.Rows.{AreRows}

module _ {Y : Type 0} where
  above_all : (text : String Y) (texts : List (String Y)) → AllByRecursion (λ other. string_cmp text other ≡ Less) texts
      → AllByRecursion (λ name. slice_cmp nat_cmp (string_bytes text) name ≡ Less)
      (map (λ (other : String Y). string_bytes other) texts)
  above_all text [] above = tt
  above_all text (other ∷ texts) above = (above.0, above_all text texts above.1)

  texts_rise : (texts : List (String Y)) → IsStrictlySortedBy string_cmp texts
      → IsStrictlySortedBy (slice_cmp nat_cmp) (map (λ (text : String Y). string_bytes text) texts)
  unfolding IsStrictlySortedBy
  texts_rise [] ordered = tt
  texts_rise (text ∷ texts) ordered = (above_all text texts ordered.0, texts_rise texts ordered.1)

  pub keys_listed : (table : BTreeMap (String Y) ℕ) → IsOrdered string_cmp table → AreRows table
      → AreListed (map (λ (text : String Y). string_bytes text) (keys table))
  keys_listed table ordered rows = (
    recursion_from_All IsName _ (All-map IsName (λ (text : String Y). string_bytes text) (keys table) rows.1),
    texts_rise (keys table) ordered,
  )

all_first : {X : Type 0} (P : X → Type 0) (before : List X) (x : X) (after : List X)
    → AllByRecursion P (before ++ x ∷ after) → AllByRecursion P (before ++ x ∷ [])
all_first P [] x after all = (all.0, tt)
all_first P (y ∷ before) x after all = (all.0, all_first P before x after all.1)

rise_first : (before : List (List ℕ)) (name : List ℕ) (after : List (List ℕ))
    → IsStrictlySortedBy (slice_cmp nat_cmp) (before ++ name ∷ after)
    → IsStrictlySortedBy (slice_cmp nat_cmp) (before ++ name ∷ [])
unfolding IsStrictlySortedBy
rise_first [] name after rise = (tt, tt)
rise_first (first ∷ before) name after rise = (
  all_first (λ other. slice_cmp nat_cmp first other ≡ Less) before name after rise.0,
  rise_first before name after rise.1,
)

-- so are the first of them
pub listed_first : (before : List (List ℕ)) (name : List ℕ) (after : List (List ℕ)) → AreListed (before ++ name ∷ after)
    → AreListed (before ++ name ∷ [])
listed_first before name after listed =
    (all_first IsName before name after listed.0, rise_first before name after listed.1)
