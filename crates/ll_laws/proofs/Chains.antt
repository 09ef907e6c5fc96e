-- Chains of entries: their parts, and what one entry more does to them.
use Rattle.std.specs.Prelude.{◌≡◌, ◌≢◌, ◌⊎◌, ℕ, Bool, true, false, ◌||◌, [], ◌∷◌, ◌++◌, Some, None, unwrap_or}
use Rattle.std.specs.Prelude.{option_and_then, refl}
use Rattle.std.specs.Option.{option_map_or}
use Rattle.std.specs.List.{list_any}
use Rattle.std.proofs.Common.{sym, subst, ap, ◌∙◌, inl, inr, append_assoc}
use Rattle.std.proofs.lemmas.List.{append-nil}
use Rattle.ll_rights.specs.declared.kind.Kind.{Kind}
use Rattle.ll_rights.specs.declared.kind.Kind.TheVariants.{Dir}
use Rattle.ll_path.specs.Path.{Path}
use Rattle.ll_seq.specs.State.{Name, State, child, root, kind_of}
use Rattle.ll_seq.specs.Tree.{end_from, chain_from}
use Rattle.ll_seq.proofs.Parted.{or_split, or_left, or_right, end_push, chain_push, any_push}

pub same_Some : {A : Type 0} (x y : A) → Some x ≡ Some y → x ≡ y
same_Some x y e = ap (λ o. unwrap_or o x) e

pub or_map : (a b c : Bool) → (b ≡ true → c ≡ true) → (a || b) ≡ true → (a || c) ≡ true
or_map true b c f e = refl
or_map false b c f e = f e

-- the inode may have entries in it
abbrev pub NotFile : State → ℕ → Type 0
NotFile s inode = (k : Kind) → kind_of s inode ≡ Some k → k ≡ Dir

-- ---- parts of a chain

module _ (s : State) where
  -- the last entry of a chain
  pub end_last : (p : Path) (n : Name) (i y : ℕ) → end_from s (p ++ n ∷ []) i ≡ Some y → (x : ℕ)
      × (end_from s p i ≡ Some x) × (child s x n ≡ Some y)
  end_last [] n i y e = (
    i,
    refl,
    elim (child s i n) as (λ c. option_and_then (λ z. Some z) c ≡ Some y → c ≡ Some y)
        [ None ↦ λ f. cc | Some j ↦ λ f. f ] e,
  )
  end_last (m ∷ p) n i y e =
      elim (child s i m) as (λ c. option_and_then (end_from s (p ++ n ∷ [])) c ≡ Some y → (x : ℕ)
      × (option_and_then (end_from s p) c ≡ Some x) × (child s x n ≡ Some y)) [
        | None ↦ λ f. absurd (cc f)
        | Some j ↦ λ f. end_last p n j y f
      ] e

  -- what is on either part of a chain is on the whole
  pub chain_front : (f : ℕ → Bool) (p q : Path) (i x : ℕ) → end_from s p i ≡ Some x
      → list_any f (chain_from s p i) ≡ true → list_any f (chain_from s (p ++ q) i) ≡ true
  chain_front f [] [] i x e h = h
  chain_front f [] (m ∷ q) i x e h =
      elim (f i) as (λ b. (b || false) ≡ true
      → (b || list_any f (option_map_or (chain_from s q) (child s i m) [])) ≡ true) [
        | true ↦ λ _. refl
        | false ↦
            λ g. cc
      ] h
  chain_front f (m ∷ p) q i x e h =
      elim (child s i m) as (λ o. option_and_then (end_from s p) o ≡ Some x
      → (f i || list_any f (option_map_or (chain_from s p) o [])) ≡ true
      → (f i || list_any f (option_map_or (chain_from s (p ++ q)) o [])) ≡ true) [
        | None ↦ λ g. absurd (cc g)
        | Some j ↦ λ g. or_map (f i) (list_any f (chain_from s p j)) (list_any f (chain_from s (p ++ q) j))
            (chain_front f p q j x g)
      ] e h

  pub chain_back : (f : ℕ → Bool) (p q : Path) (i x : ℕ) → end_from s p i ≡ Some x
      → list_any f (chain_from s q x) ≡ true → list_any f (chain_from s (p ++ q) i) ≡ true
  chain_back f [] q i x e h = ap (λ z. list_any f (chain_from s q z)) (same_Some i x e) ∙ h
  chain_back f (m ∷ p) q i x e h =
      elim (child s i m) as (λ o. option_and_then (end_from s p) o ≡ Some x
      → (f i || list_any f (option_map_or (chain_from s (p ++ q)) o [])) ≡ true) [
        | None ↦ λ g. absurd (cc g)
        | Some j ↦ λ g. or_right (f i) (list_any f (chain_from s (p ++ q) j)) (chain_back f p q j x g h)
      ] e

-- ---- new entries

-- In t, each entry is one of s or a new one, and no new one's directory is beneath the node of another, or its own
pub record MoreEntries (s t : State) (Fresh : ℕ → Name → ℕ → Type 0) : Type 0 where
  pub entries : (d : ℕ) (n : Name) (x : ℕ) → child t d n ≡ Some x → (child s d n ≡ Some x) ⊎ Fresh d n x
  pub away : (d : ℕ) (n : Name) (x : ℕ) → Fresh d n x → (e : ℕ) (m : Name) (y : ℕ) → Fresh e m y → (q : Path)
      → end_from s q x ≢ Some e

-- A path to x in t goes by a new entry: in s a path, the front, names its directory, and another leads from its node to
-- x. What is passed is passed by these
pub record Beyond (s t : State) (Fresh : ℕ → Name → ℕ → Type 0) (q : Path) (x : ℕ) : Type 0 where
  pub directory : ℕ
  pub name : Name
  pub node : ℕ
  pub new : Fresh directory name node
  pub front : Path
  pub named : end_from s front root ≡ Some directory
  pub tail : Path
  pub end : end_from s tail node ≡ Some x
  pub passed : (f : ℕ → Bool) → list_any f (chain_from t q root) ≡ true → (list_any f (chain_from s front root) ≡ true)
      ⊎ (list_any f (chain_from s tail node) ≡ true)

-- what a path that names x in t was in s
abbrev pub Before : State → State → (ℕ → Name → ℕ → Type 0) → Path → ℕ → Type 0
Before s t Fresh q x = ((end_from s q root ≡ Some x) × (chain_from t q root ≡ chain_from s q root))
    ⊎ Beyond s t Fresh q x

module _ (s t : State) (Fresh : ℕ → Name → ℕ → Type 0) (more : MoreEntries s t Fresh) where
  -- one entry further
  further : (q : Path) (m : Name) (x y : ℕ) → end_from t q root ≡ Some x → child t x m ≡ Some y → Before s t Fresh q x
      → Before s t Fresh (q ++ m ∷ []) y
  further q m x y e c b = by b (more.entries x m y c)
    where
      pushed : chain_from t (q ++ m ∷ []) root ≡ chain_from t q root ++ y ∷ []
      pushed = chain_push t q m root x y e c

      on_pushed : (f : ℕ → Bool) → list_any f (chain_from t (q ++ m ∷ []) root) ≡ true
          → (list_any f (chain_from t q root) ≡ true) ⊎ (f y ≡ true)
      on_pushed f h = or_split _ _ (sym (any_push t f q m root x y e c) ∙ h)

      by : Before s t Fresh q x → (child s x m ≡ Some y) ⊎ Fresh x m y → Before s t Fresh (q ++ m ∷ []) y
      by (inl a) (inl old) =
          inl (
            end_push s q m root x y a.0 old,
            pushed ∙ ap (λ zs. zs ++ y ∷ []) a.1
                ∙ sym (chain_push s q m root x y a.0 old),
          )
      by (inl a) (inr new) =
          inr (record {
            directory = x;
            name = m;
            node = y;
            new = new;
            front = q;
            named = a.0;
            tail = [];
            end = refl;
            passed = λ f h. elim (on_pushed f h)
                [ inl g ↦ inl (ap (list_any f) (sym a.1) ∙ g) | inr g ↦ inr (or_left _ _ g) ];
          })
      by (inr a) (inl old) =
          inr (record {
            directory = a.directory;
            name = a.name;
            node = a.node;
            new = a.new;
            front = a.front;
            named = a.named;
            tail = a.tail ++ m ∷ [];
            end = end_push s a.tail m a.node x y a.end old;
            passed = λ f h. elim (on_pushed f h) [
              | inl g ↦ elim (a.passed f g)
                  [ inl k ↦ inl k | inr k ↦ inr (chain_front s f a.tail (m ∷ []) a.node x a.end k) ]
              | inr g ↦ inr (any_push s f a.tail m a.node x y a.end old ∙ or_right _ _ g)
            ];
          })
      by (inr a) (inr new) = absurd (more.away a.directory a.name a.node a.new x m y new a.tail a.end)

  from_there : (q r : Path) (x y : ℕ) → end_from t r root ≡ Some x → Before s t Fresh r x → end_from t q x ≡ Some y
      → Before s t Fresh (r ++ q) y
  from_there [] r x y e b h = subst (λ w. Before s t Fresh w y) (sym (append-nil r))
      (subst (λ z. Before s t Fresh r z) (same_Some x y h) b)
  from_there (m ∷ q) r x y e b h =
      elim (child t x m) as (λ c. child t x m ≡ c → option_and_then (end_from t q) c ≡ Some y
      → Before s t Fresh (r ++ m ∷ q) y) [
        | None ↦ λ is g. absurd (cc g)
        | Some z ↦ λ is g. subst (λ w. Before s t Fresh w y) (append_assoc r (m ∷ []) q)
            (from_there q (r ++ m ∷ []) z y (end_push t r m root x z e is) (further r m x z e is b) g)
      ] refl h

  pub before : (q : Path) (x : ℕ) → end_from t q root ≡ Some x → Before s t Fresh q x
  before q x e = from_there q [] root x refl (inl (refl, refl)) e
