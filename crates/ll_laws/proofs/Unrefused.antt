-- What is known where no stage refuses.
use Rattle.std.specs.Prelude.{◌≡◌, ◌⊎◌, ℕ, zero, suc, ◌+◌, ◌<◌, Bool, true, false, ◌&&◌, ◌||◌, List, [], ◌∷◌, ◌++◌, map}
use Rattle.std.specs.Prelude.{length, Option, Some, None, unwrap_or, option_and_then, refl, Contains, slice_index_or}
use Rattle.std.specs.Option.{option_map_or}
use Rattle.std.specs.List.{flat_map, enumerate_from, list_any}
use Rattle.std.specs.Ordering.{is_eq}
use Rattle.std.specs.Cmp.{tied_itself}
use Rattle.std.specs.Cmp.Lexicographic.{nat_list_cmp_total}
use Rattle.std.proofs.Common.{sym, ap, ◌∙◌, inl, inr, arith}
use Rattle.ll_rights.specs.declared.kind.Kind.{Kind}
use Rattle.ll_rights.specs.declared.kind.Kind.TheVariants.{Reg, Dir, Sym, Fifo, Sock, Char, Block}
use Rattle.ll_rights.specs.declared.errno.Errno.{Errno}
use Rattle.ll_rights.specs.Errno.{refuse}
use Rattle.ll_path.specs.Name.{same_name}
use Rattle.ll_path.specs.Path.{Path, parent, last_name, is_root, is_beneath}
use Rattle.ll_decide.specs.declared.denial.Cause.{Cause}
use Rattle.ll_decide.specs.declared.denial.Denial.{Denial}
use Rattle.ll_decide.specs.declared.denial.Place.{Place}
use Rattle.ll_decide.specs.Verdict.{denials, when}
use Rattle.ll_seq.specs.State.{Name, State, child, root, kind_of}
use Rattle.ll_seq.specs.Tree.{end_from, named, inode_of}
use Rattle.ll_seq.specs.Stages.{in_the_way, no_directory, kind_of_child}
use Rattle.ll_laws.proofs.Chains.{same_Some, NotFile, end_last}

pub nil_left : {A : Type 0} (xs ys : List A) → xs ++ ys ≡ [] → xs ≡ []
nil_left [] ys e = refl
nil_left (x ∷ xs) ys e = absurd (cc e)

pub nil_right : {A : Type 0} (xs ys : List A) → xs ++ ys ≡ [] → ys ≡ []
nil_right [] ys e = e
nil_right (x ∷ xs) ys e = absurd (cc e)

pub nil_both : {A : Type 0} (xs ys : List A) → xs ++ ys ≡ [] → (xs ≡ []) × (ys ≡ [])
nil_both xs ys e = (nil_left xs ys e, nil_right xs ys e)

pub nil_map : {A B : Type 0} (f : A → B) (xs : List A) → map f xs ≡ [] → xs ≡ []
nil_map f [] e = refl
nil_map f (x ∷ xs) e = absurd (cc e)

pub not_refused : (b : Bool) (errno : Errno) → refuse b errno ≡ [] → b ≡ false
not_refused true errno e = absurd (cc e)
not_refused false errno e = refl

pub neither : (a b : Bool) → (a || b) ≡ false → (a ≡ false) × (b ≡ false)
neither true b e = absurd (cc e)
neither false b e = (refl, e)

-- ---- paths

-- nothing is in the way: the path names a directory
pub walked : (s : State) (p : Path) (i : ℕ) → NotFile s i → in_the_way s p i ≡ [] → (x : ℕ) × (end_from s p i ≡ Some x)
    × NotFile s x
walked s [] i f e = (i, refl, f)
walked s (n ∷ p) i f e =
    elim (child s i n) as (λ c. no_directory (kind_of_child s c) ++ option_map_or (in_the_way s p) c [] ≡ [] → (x : ℕ)
    × (option_and_then (end_from s p) c ≡ Some x) × NotFile s x) [
      | None ↦ λ g. absurd (cc g)
      | Some j ↦ λ g. on j (kind_of s j) refl (nil_left (no_directory (kind_of s j)) (in_the_way s p j) g)
          (λ h. walked s p j h (nil_right (no_directory (kind_of s j)) (in_the_way s p j) g))
    ] e
  where
    on : (j : ℕ) (k : Option Kind) → kind_of s j ≡ k → no_directory k ≡ []
        → (NotFile s j → (x : ℕ) × (end_from s p j ≡ Some x) × NotFile s x) → (x : ℕ) × (end_from s p j ≡ Some x)
        × NotFile s x
    on j None is g f = absurd (cc g)
    on j (Some Dir) is g f = f (λ k h. same_Some k Dir (sym h ∙ is))
    on j (Some Reg) is g f = absurd (cc g)
    on j (Some Sym) is g f = absurd (cc g)
    on j (Some Fifo) is g f = absurd (cc g)
    on j (Some Sock) is g f = absurd (cc g)
    on j (Some Char) is g f = absurd (cc g)
    on j (Some Block) is g f = absurd (cc g)

pub inode_is : (s : State) (p : Path) (x : ℕ) → named s p ≡ Some x → inode_of s p ≡ x
inode_is s p x e = ap (λ o. unwrap_or o 0) e

-- a path but the root is its parent and its last name
pub parent_last : (p : Path) → is_root p ≡ false → p ≡ parent p ++ last_name p ∷ []
parent_last [] e = absurd (cc e)
parent_last (n ∷ []) e = refl
parent_last (n ∷ m ∷ p) e = ap (λ (q : Path). n ∷ q) (parent_last (m ∷ p) refl)

pub last_child : (s : State) (p : Path) (d x : ℕ) → is_root p ≡ false → named s (parent p) ≡ Some d → named s p ≡ Some x
    → child s d (last_name p) ≡ Some x
last_child s p d x r e h =
    let w = end_last s (parent p) (last_name p) root x (ap (λ q. end_from s q root) (sym (parent_last p r)) ∙ h) in
    ap (λ z. child s z (last_name p)) (same_Some d w.0 (sym e ∙ w.1)) ∙ w.2

same_itself : (n : Name) → same_name n n ≡ true
same_itself n = ap is_eq (tied_itself nat_list_cmp_total n)

pub beneath_append : (p q : Path) (n : Name) → is_beneath p ((p ++ q) ++ n ∷ []) ≡ true
beneath_append [] [] n = refl
beneath_append [] (m ∷ q) n = refl
beneath_append (m ∷ p) q n = ap (λ b. b && is_beneath p ((p ++ q) ++ n ∷ [])) (same_itself m) ∙ beneath_append p q n

-- ---- denials

abbrev pub IsIn : {A : Type 0} → List A → A → Type 0
IsIn [] x = ⊥
IsIn (y ∷ ys) x = (y ≡ x) ⊎ IsIn ys x

in_list : {A : Type 0} (xs : List A) (k : ℕ) (x : A) → k < length xs → slice_index_or xs k x ≡ x → IsIn xs x
in_list [] k x h e = absurd (omega arith)
in_list (y ∷ ys) zero x h e = inl e
in_list (y ∷ ys) (suc k) x h e = inr (in_list ys k x (omega arith) e)

pub in_left : {A : Type 0} (xs ys : List A) (x : A) → IsIn xs x → IsIn (xs ++ ys) x
in_left [] ys x i = absurd i
in_left (y ∷ xs) ys x (inl e) = inl e
in_left (y ∷ xs) ys x (inr i) = inr (in_left xs ys x i)

pub in_right : {A : Type 0} (xs ys : List A) (x : A) → IsIn ys x → IsIn (xs ++ ys) x
in_right [] ys x i = i
in_right (y ∷ xs) ys x i = inr (in_right xs ys x i)

pub in_when : {A : Type 0} (b : Bool) (x : A) → b ≡ true → IsIn (when b (x ∷ [])) x
in_when true x e = inl refl
in_when false x e = absurd (cc e)

-- a test that no element of a list passes
pub none_passes : {A : Type 0} (f : A → Bool) (xs : List A) (x : A) → list_any f xs ≡ false → IsIn xs x → f x ≡ false
none_passes f [] x e i = absurd i
none_passes f (y ∷ xs) x e (inl i) = ap f (sym i) ∙ (neither (f y) (list_any f xs) e).0
none_passes f (y ∷ xs) x e (inr i) = none_passes f xs x (neither (f y) (list_any f xs) e).1 i

pub IsIn-contains : {A : Type 0} (xs : List A) (x : A) → Contains xs x → IsIn xs x
IsIn-contains xs x c = in_list xs c.0 x c.1 c.2

module _ {A : Type 0} (cause : Cause) (test : A → ℕ → Place → Bool) where
  abbrev at_places : ℕ → A → ℕ → List Place → List Denial
  at_places number layer right places =
      flat_map (λ place. when (test layer right place)
      (record { cause = cause; layer = number; right = right; place = place } ∷ [])) places

  abbrev at_rights : ℕ → A → List ℕ → List Place → List Denial
  at_rights number layer rights places = flat_map (λ right. at_places number layer right places) rights

  none_at_place : (number : ℕ) (layer : A) (right : ℕ) (places : List Place) (place : Place)
      → at_places number layer right places ≡ [] → IsIn places place → test layer right place ≡ false
  none_at_place number layer right [] place e i = absurd i
  none_at_place number layer right (p ∷ ps) place e (inl h) =
      ap (test layer right) (sym h)
      ∙ off (test layer right p) (nil_left (when {A = Denial} (test layer right p) _) (at_places number layer right ps)
      e)
    where
      off : (b : Bool) → when {A = Denial} b (record { cause = cause; layer = number; right = right; place = p } ∷ [])
          ≡ [] → b ≡ false
      off true g = absurd (cc g)
      off false g = refl
  none_at_place number layer right (p ∷ ps) place e (inr h) =
      none_at_place number layer right ps place
      (nil_right (when {A = Denial} (test layer right p) _) (at_places number layer right ps) e) h

  none_at_right : (number : ℕ) (layer : A) (rights : List ℕ) (places : List Place) (right : ℕ) (place : Place)
      → at_rights number layer rights places ≡ [] → IsIn rights right → IsIn places place
      → test layer right place ≡ false
  none_at_right number layer [] places right place e i j = absurd i
  none_at_right number layer (r ∷ rs) places right place e (inl h) j =
      ap (λ z. test layer z place) (sym h)
      ∙ none_at_place number layer r places place
      (nil_left (at_places number layer r places) (at_rights number layer rs places) e) j
  none_at_right number layer (r ∷ rs) places right place e (inr h) j =
      none_at_right number layer rs places right place
      (nil_right (at_places number layer r places) (at_rights number layer rs places) e) h j

  none_from : (number : ℕ) (layers : List A) (rights : List ℕ) (places : List Place) (layer : A) (right : ℕ)
      (place : Place) → flat_map (λ (l : ℕ × A). at_rights l.0 l.1 rights places) (enumerate_from number layers) ≡ []
      → IsIn layers layer → IsIn rights right → IsIn places place → test layer right place ≡ false
  none_from number [] rights places layer right place e i j k = absurd i
  none_from number (l ∷ ls) rights places layer right place e (inl h) j k =
      ap (λ z. test z right place) (sym h)
      ∙ none_at_right number l rights places right place
      (nil_left (at_rights number l rights places)
      (flat_map (λ (m : ℕ × A). at_rights m.0 m.1 rights places) (enumerate_from (number + 1) ls)) e) j k
  none_from number (l ∷ ls) rights places layer right place e (inr h) j k =
      none_from (number + 1) ls rights places layer right place
      (nil_right (at_rights number l rights places)
      (flat_map (λ (m : ℕ × A). at_rights m.0 m.1 rights places) (enumerate_from (number + 1) ls)) e) h j k

-- no denial: the test fails of each layer, right and place
pub none_denied : {A : Type 0} (cause : Cause) (layers : List A) (rights : List ℕ) (places : List Place) (test : A → ℕ
    → Place → Bool) → denials cause layers rights places test ≡ [] → (layer : A) → Contains layers layer → (right : ℕ)
    → IsIn rights right → (place : Place) → IsIn places place → test layer right place ≡ false
none_denied cause layers rights places test e layer c right i place j =
    none_from cause test 1 layers rights places layer right place e (IsIn-contains layers layer c) i j
