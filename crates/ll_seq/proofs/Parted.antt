-- Chains of entries and their parts, and what is on them.
use Rattle.std.specs.Prelude.{◌≡◌, ◌⊎◌, ℕ, ◌+◌, Bool, true, false, ◌||◌, [], ◌∷◌, ◌++◌, length, Option, Some, None}
use Rattle.std.specs.Prelude.{option_and_then, refl}
use Rattle.std.specs.Option.{option_map_or}
use Rattle.std.specs.List.{list_any}
use Rattle.std.proofs.Common.{ap, ◌∙◌, inl, inr, arith}
use Rattle.std.proofs.lemmas.List.Folds.{list_any-append}
use Rattle.ll_path.specs.Path.{Path}
use Rattle.ll_seq.specs.State.{Name, State, child}
use Rattle.ll_seq.specs.Tree.{end_from, chain_from}
use Rattle.ll_seq.proofs.CutChains.{end_append}

pub or_split : (a b : Bool) → (a || b) ≡ true → (a ≡ true) ⊎ (b ≡ true)
or_split true b e = inl refl
or_split false b e = inr e

pub or_left : (a b : Bool) → a ≡ true → (a || b) ≡ true
or_left true b e = refl
or_left false b e = cc

pub or_right : (a b : Bool) → b ≡ true → (a || b) ≡ true
or_right true b e = refl
or_right false b e = e

module _ (s : State) where
  -- a path with one name more
  pub end_push : (p : Path) (n : Name) (i x y : ℕ) → end_from s p i ≡ Some x → child s x n ≡ Some y
      → end_from s (p ++ n ∷ []) i ≡ Some y
  end_push p n i x y e c = end_append s p (n ∷ []) i x e ∙ ap (option_and_then (λ z. Some z)) c

  -- where the path ends before its last name
  pub record Last (path : Path) (i y : ℕ) : Type 0 where
    pub front : Path
    pub name : Name
    pub directory : ℕ
    pub whole : path ≡ front ++ name ∷ []
    pub more : length path ≡ length front + 1
    pub leads : end_from s front i ≡ Some directory
    pub names : child s directory name ≡ Some y

  -- a path is empty or has a last name
  pub last : (path : Path) (i y : ℕ) → end_from s path i ≡ Some y → ((path ≡ []) × (i ≡ y)) ⊎ Last path i y
  last [] i y e = inl (refl, cc)
  last (name ∷ path) i y e = of (child s i name) refl e (λ j. last path j y)
    where
      of : (o : Option ℕ) → child s i name ≡ o → option_and_then (end_from s path) o ≡ Some y
          → ((j : ℕ) → end_from s path j ≡ Some y → ((path ≡ []) × (j ≡ y)) ⊎ Last path j y)
          → ((name ∷ path ≡ []) × (i ≡ y)) ⊎ Last (name ∷ path) i y
      of None is f rest = absurd (cc f)
      of (Some j) is f rest = elim (rest j f) [
        | inl a ↦ inr (record {
          front = [];
          name = name;
          directory = i;
          whole = ap (λ p. name ∷ p) a.0;
          more = let none = ap length a.0 in omega arith;
          leads = refl;
          names = is ∙ ap Some a.1;
        })
        | inr l ↦ inr (record {
          front = name ∷ l.front;
          name = l.name;
          directory = l.directory;
          whole = ap (λ p. name ∷ p) l.whole;
          more = let m = l.more in omega arith;
          leads = ap (option_and_then (end_from s l.front)) is ∙ l.leads;
          names = l.names;
        })
      ]

  -- its chain has one inode more
  pub chain_push : (p : Path) (n : Name) (i x y : ℕ) → end_from s p i ≡ Some x → child s x n ≡ Some y
      → chain_from s (p ++ n ∷ []) i ≡ chain_from s p i ++ y ∷ []
  chain_push [] n i x y e c = let same : i ≡ x = cc in
      ap (λ z. i ∷ option_map_or (λ (z : ℕ). z ∷ []) (child s z n) []) same
      ∙ ap (λ (o : Option ℕ). i ∷ option_map_or (λ (z : ℕ). z ∷ []) o []) c
  chain_push (m ∷ p) n i x y e c =
      elim (child s i m) as (λ o. option_and_then (end_from s p) o ≡ Some x
      → i ∷ option_map_or (chain_from s (p ++ n ∷ [])) o [] ≡ i ∷ option_map_or (chain_from s p) o [] ++ y ∷ []) [
        | None ↦ λ f. absurd (cc f)
        | Some j ↦ λ f. ap (λ zs. i ∷ zs) (chain_push p n j x y f c)
      ] e

  only : (b : Bool) → (b || false) ≡ b
  only true = refl
  only false = refl

  -- what is on the chain with one name more is on the chain, or is its new end
  pub any_push : (f : ℕ → Bool) (p : Path) (n : Name) (i x y : ℕ) → end_from s p i ≡ Some x → child s x n ≡ Some y
      → list_any f (chain_from s (p ++ n ∷ []) i) ≡ (list_any f (chain_from s p i) || f y)
  any_push f p n i x y e c = ap (list_any f) (chain_push p n i x y e c) ∙ list_any-append f (chain_from s p i) (y ∷ [])
      ∙ ap (λ b. list_any f (chain_from s p i) || b) (only (f y))

  -- what is at the end of a chain is on it
  pub any_end : (f : ℕ → Bool) (p : Path) (i x : ℕ) → end_from s p i ≡ Some x → f x ≡ true
      → list_any f (chain_from s p i) ≡ true
  any_end f [] i x e h = let same : i ≡ x = cc in or_left (f i) false (ap f same ∙ h)
  any_end f (n ∷ p) i x e h =
      elim (child s i n) as (λ o. option_and_then (end_from s p) o ≡ Some x
      → (f i || list_any f (option_map_or (chain_from s p) o [])) ≡ true) [
        | None ↦ λ g. absurd (cc g)
        | Some j ↦ λ g. or_right (f i) (list_any f (chain_from s p j)) (any_end f p j x g h)
      ] e

  -- and also where the chain goes on
  pub any_front : (f : ℕ → Bool) (p q : Path) (i x : ℕ) → end_from s p i ≡ Some x → f x ≡ true
      → list_any f (chain_from s (p ++ q) i) ≡ true
  any_front f [] q i x e h = first q
    where
      here : f i ≡ true
      here = let same : i ≡ x = cc in ap f same ∙ h

      first : (q : Path) → list_any f (chain_from s q i) ≡ true
      first [] = or_left (f i) false here
      first (n ∷ q) = or_left (f i) (list_any f (option_map_or (chain_from s q) (child s i n) [])) here
  any_front f (n ∷ p) q i x e h =
      elim (child s i n) as (λ o. option_and_then (end_from s p) o ≡ Some x
      → (f i || list_any f (option_map_or (chain_from s (p ++ q)) o [])) ≡ true) [
        | None ↦ λ g. absurd (cc g)
        | Some j ↦ λ g. or_right (f i) (list_any f (chain_from s (p ++ q) j)) (any_front f p q j x g h)
      ] e

  -- the path cut in two at an inode that passes the test
  pub record Cut (f : ℕ → Bool) (i y : ℕ) : Type 0 where
    pub at : ℕ
    pub passes : f at ≡ true
    pub front : Path
    pub leads : end_from s front i ≡ Some at
    pub back : Path
    pub ends : end_from s back at ≡ Some y

  pub cut : (f : ℕ → Bool) (p : Path) (i y : ℕ) → end_from s p i ≡ Some y → list_any f (chain_from s p i) ≡ true
      → Cut f i y
  cut f [] i y e h = elim (or_split (f i) false h) [
    | inl a ↦ record { at = i; passes = a; front = []; leads = refl; back = []; ends = e }
    | inr b ↦ absurd (cc b)
  ]
  cut f (n ∷ p) i y e h = elim (or_split (f i) (list_any f (option_map_or (chain_from s p) (child s i n) [])) h) [
    | inl a ↦ record { at = i; passes = a; front = []; leads = refl; back = n ∷ p; ends = e }
    | inr b ↦ of (child s i n) refl e b (λ j. cut f p j y)
  ]
    where
      of : (o : Option ℕ) → child s i n ≡ o → option_and_then (end_from s p) o ≡ Some y
          → list_any f (option_map_or (chain_from s p) o []) ≡ true
          → ((j : ℕ) → end_from s p j ≡ Some y → list_any f (chain_from s p j) ≡ true → Cut f j y) → Cut f i y
      of None is g b rest = absurd (cc g)
      of (Some j) is g b rest =
          let c = rest j g b in
          record {
            at = c.at;
            passes = c.passes;
            front = n ∷ c.front;
            leads = ap (option_and_then (end_from s c.front)) is ∙ c.leads;
            back = c.back;
            ends = c.ends;
          }
