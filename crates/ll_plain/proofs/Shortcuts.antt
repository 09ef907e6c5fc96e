-- What some path names, a path of no more names than there are entries names.
use Rattle.std.specs.Prelude.{◌≡◌, ◌⊎◌, ℕ, zero, suc, ◌≤◌, ◌<◌, true, false, cond, List, [], ◌∷◌, map, length, Option}
use Rattle.std.specs.Prelude.{Some, None, option_and_then, ◌==◌, refl}
use Rattle.std.specs.FinMap.Entries.{find}
use Rattle.std.specs.Ordering.{eq_by_cmp}
use Rattle.std.proofs.Common.{ap, sym, subst, ◌∙◌, inl, inr, arith}
use Rattle.std.proofs.lemmas.Bool.{eqb-true, eq-eqb}
use Rattle.std.proofs.lemmas.List.{length-map}
use Rattle.ll_rights.specs.Map.{get, entries}
use Rattle.ll_path.specs.Path.{Path}
use Rattle.ll_seq.specs.declared.dentries.Dentry.{Dentry}
use Rattle.ll_seq.specs.State.{Name, State, child, dentry, dentry_cmp}
use Rattle.ll_seq.specs.Tree.{end_from}

-- ---- numbers in a list, and the list without one

abbrev pub Among : List ℕ → ℕ → Type 0
Among [] x = ⊥
Among (y ∷ ys) x = (x ≡ y) ⊎ Among ys x

abbrev without : ℕ → List ℕ → List ℕ
without k [] = []
without k (y ∷ ys) = cond (y == k) (without k ys) (y ∷ without k ys)

still : (k x : ℕ) (ys : List ℕ) → (x == k) ≡ false → Among ys x → Among (without k ys) x
still k x [] ne a = absurd a
still k x (y ∷ ys) ne a = elim (y == k) as (λ b. (y == k) ≡ b → Among (cond b (without k ys) (y ∷ without k ys)) x) [
  | true ↦ λ e. elim a [ inl h ↦ (let same = sym_at h in absurd (cc)) | inr h ↦ still k x ys ne h ]
  | false ↦ λ e. elim a [ inl h ↦ inl h | inr h ↦ inr (still k x ys ne h) ]
] refl
  where
    sym_at : x ≡ y → (x == k) ≡ (y == k)
    sym_at h = ap (λ z. z == k) h

no_longer : (k : ℕ) (ys : List ℕ) → length (without k ys) ≤ length ys
no_longer k [] = omega (arith, none)
  where
    none : length (without k []) ≡ 0
    none = refl
no_longer k (y ∷ ys) =
    let rest = no_longer k ys in
    elim (y == k) as (λ b. length (cond b (without k ys) (y ∷ without k ys)) ≤ length (y ∷ ys))
    [ true ↦ omega arith | false ↦ omega arith ]

shorter : (k : ℕ) (ys : List ℕ) → Among ys k → length (without k ys) < length ys
shorter k [] a = absurd a
shorter k (y ∷ ys) a = elim (y == k) as (λ b. (y == k) ≡ b
    → length (cond b (without k ys) (y ∷ without k ys)) < length (y ∷ ys)) [
      | true ↦ λ e. let rest = no_longer k ys in omega arith
      | false ↦ λ e. elim a [
        | inl h ↦ (let same = eq-eqb y k (back h) in absurd (cc))
        | inr h ↦ let rest = shorter k ys h in omega arith
      ]
    ] refl
  where
    back : k ≡ y → y ≡ k
    back h = cc

-- ---- paths whose inodes are among some

module _ (s : State) where
  -- each inode after the first is among these
  abbrev pub Into : List ℕ → Path → ℕ → Type 0
  Into ys [] i = Unit {0}
  Into ys (name ∷ path) i = (j : ℕ) → child s i name ≡ Some j → Among ys j × Into ys path j

  -- a path of at most so many names between the two
  pub record Short (n i y : ℕ) : Type 0 where
    pub path : Path
    pub leads : end_from s path i ≡ Some y
    pub short : length path ≤ n

  -- a path that doesn't come to k again
  record Past (k y : ℕ) (ys : List ℕ) : Type 0 where
    path : Path
    leads : end_from s path k ≡ Some y
    into : Into (without k ys) path k

  past : (k y : ℕ) (ys : List ℕ) (p : Path) (i : ℕ) → end_from s p i ≡ Some y → Into ys p i → Into (without k ys) p i
      ⊎ Past k y ys
  past k y ys [] i e h = inl tt
  past k y ys (name ∷ p) i e h = of (child s i name) refl e (λ j. past k y ys p j)
    where
      of : (o : Option ℕ) → child s i name ≡ o → option_and_then (end_from s p) o ≡ Some y
          → ((j : ℕ) → end_from s p j ≡ Some y → Into ys p j → Into (without k ys) p j ⊎ Past k y ys)
          → Into (without k ys) (name ∷ p) i ⊎ Past k y ys
      of None is f later = absurd (cc f)
      of (Some j) is f later =
          let parts = h j is in
          elim (later j f parts.1) [
            | inr q ↦ inr q
            | inl rest ↦ elim (j == k) as (λ b. (j == k) ≡ b → Into (without k ys) (name ∷ p) i ⊎ Past k y ys) [
              | true ↦ λ t. let same : j ≡ k = eqb-true j k t in
                  inr (record {
                    path = p;
                    leads = ap (end_from s p) (sym same)
                        ∙ f;
                    into = subst (λ z. Into (without k ys) p z) same rest;
                  })
              | false ↦ λ t. inl (λ z here. let same : j ≡ z = cc (is, here) in (
                still k z ys (ap (λ w. w == k) (sym same) ∙ t) (subst (Among ys) same parts.0),
                subst (λ w. Into (without k ys) p w) same rest,
              ))
            ] refl
          ]

  one_more : (n i k y : ℕ) (name : Name) → child s i name ≡ Some k → Short n k y → Short (suc n) i y
  one_more n i k y name is q = record {
    path = name ∷ q.path;
    leads = ap (option_and_then (end_from s q.path)) is ∙ q.leads;
    short = let at_most = q.short in omega arith;
  }

  pub cut_down : (n : ℕ) (ys : List ℕ) → length ys ≤ n → (p : Path) (i y : ℕ) → end_from s p i ≡ Some y → Into ys p i
      → Short n i y
  cut_down n ys fits [] i y e h = record { path = []; leads = e; short = omega arith }
  cut_down zero ys fits (name ∷ p) i y e h = of (child s i name) refl e
    where
      none : (xs : List ℕ) (k : ℕ) → length xs ≤ 0 → Among xs k → ⊥
      none [] k few a = a
      none (x ∷ xs) k few a = omega arith

      of : (o : Option ℕ) → child s i name ≡ o → option_and_then (end_from s p) o ≡ Some y → Short 0 i y
      of None is f = absurd (cc f)
      of (Some k) is f = absurd (none ys k fits (h k is).0)
  cut_down (suc n) ys fits (name ∷ p) i y e h = of (child s i name) refl e (λ zs. cut_down n zs)
    where
      of : (o : Option ℕ) → child s i name ≡ o → option_and_then (end_from s p) o ≡ Some y
          → ((zs : List ℕ) → length zs ≤ n → (q : Path) (k z : ℕ) → end_from s q k ≡ Some z → Into zs q k → Short n k z)
          → Short (suc n) i y
      of None is f down = absurd (cc f)
      of (Some k) is f down =
          let parts = h k is in
          let fewer : length (without k ys) ≤ n = let less = shorter k ys parts.0 in omega arith in
          one_more n i k y name is (elim (past k y ys p k f parts.1) [
            | inl rest ↦ down (without k ys) fewer p k y f rest
            | inr q ↦ down (without k ys) fewer q.path k y q.leads q.into
          ])

  -- ---- the inodes that have a name

  abbrev targets : List ℕ
  targets = map (λ (e : Dentry × ℕ). e.1) (entries s.entries)

  found : (es : List (Dentry × ℕ)) (q : Dentry) (x : ℕ) → find dentry_cmp q es ≡ Some x
      → Among (map (λ (e : Dentry × ℕ). e.1) es) x
  found [] q x f = absurd (cc f)
  found (e ∷ es) q x f = elim (eq_by_cmp dentry_cmp q e.0) as (λ b. cond b (Some e.1) (find dentry_cmp q es) ≡ Some x
      → (x ≡ e.1) ⊎ Among (map (λ (e : Dentry × ℕ). e.1) es) x) [
        | true ↦ λ g. inl (cc g)
        | false ↦ λ g. inr (found es q x g)
      ] f

  is_target : (d : ℕ) (name : Name) (x : ℕ) → child s d name ≡ Some x → Among targets x
  unfolding get entries
  is_target d name x is = found s.entries.list (dentry d name) x is

  into_targets : (p : Path) (i : ℕ) → Into targets p i
  into_targets [] i = tt
  into_targets (name ∷ p) i = λ j is. (is_target i name j is, into_targets p j)

  pub shortcut : (p : Path) (i y : ℕ) → end_from s p i ≡ Some y → Short (length (entries s.entries)) i y
  shortcut p i y e = cut_down (length (entries s.entries)) targets
      (omega (arith, length-map (entries s.entries) (λ (e : Dentry × ℕ). e.1))) p i y e (into_targets p i)
