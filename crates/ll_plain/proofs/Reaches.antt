-- What is found of a layer's reach by paths of so many names.
use Rattle.std.specs.Prelude.{◌≡◌, ◌≢◌, ◌⊎◌, ℕ, ◌+◌, ◌-◌, ◌<◌, ◌≤◌, true, ◌||◌, List, [], ◌∷◌, ◌++◌, length, Option}
use Rattle.std.specs.Prelude.{Some, None, unwrap_or, slice_get, bit_or, refl}
use Rattle.std.proofs.Common.{ap, sym, subst, ◌∙◌, inl, inr, arith, below_more, length-append}
use Rattle.std.proofs.lemmas.Option.{slice_get_within}
use Rattle.ll_rights.specs.declared.access.Access.{Access}
use Rattle.ll_rights.specs.Access.{holds}
use Rattle.ll_rights.specs.Map.{get, entries}
use Rattle.ll_path.specs.Path.{Path}
use Rattle.ll_rules.specs.Layer.{Layer, has_rule}
use Rattle.ll_decide.proofs.Bits.{holds-or}
use Rattle.ll_seq.specs.declared.dentries.Dentry.{Dentry}
use Rattle.ll_seq.specs.State.{State, root}
use Rattle.ll_seq.specs.Tree.{named}
use Rattle.ll_plain.specs.BoundedReach.{Found, Leads, is_ruled}
use Rattle.ll_seq.proofs.Parted.{or_split, or_left, or_right, end_push, last, any_push, any_end}
use Rattle.ll_seq.proofs.DentryRows.{row_of_child, child_of_row}

-- the path's last name is that in the entry's row, and leads to the inode
pub record ByEntry (s : State) (steps inode k : ℕ) (path : Path) : Type 0 where
  pub row : Dentry × ℕ
  pub at : slice_get (entries s.entries) k ≡ Some row
  pub ends : row.1 ≡ inode
  pub front : Path
  pub whole : path ≡ front ++ row.0.name ∷ []
  pub leads : named s front ≡ Some row.0.directory
  pub short : length front < steps

-- the paths that a walk over the first rows has tried: the root's own, and those by one of these entries
abbrev pub Tried : State → ℕ → ℕ → ℕ → Path → Type 0
Tried s steps inode n path = ((path ≡ []) × (inode ≡ root)) ⊎ ((k : ℕ) × (k < n) × ByEntry s steps inode k path)

module _ (s : State) (layer : Layer) where
  -- another sort with the same paths
  pub same_sort : (A B : Path → Type 0) → ((p : Path) → A p → B p) → ((p : Path) → B p → A p) → (found : Option Access)
      → Found s layer A found → Found s layer B found
  same_sort A B to back None none = λ p b. none p (back p b)
  same_sort A B to back (Some set) f = (
    (f.0.0, to f.0.0 f.0.1),
    λ right.
        (λ h. let w = (f.1 right).0 h in (w.0, to w.0 w.1, w.2), λ w. (f.1 right).1 (w.0, back w.0 w.1, w.2)),
  )

  module _ (steps inode : ℕ) where
    longer : (front : Path) (name : List ℕ) → length front < steps → length (front ++ name ∷ []) ≤ steps
    longer front name short = omega (arith, length-append front (name ∷ []))

    -- what was tried leads there
    leads_there : (n : ℕ) (p : Path) → Tried s steps inode n p → Leads s steps inode p
    leads_there n p (inl a) = (ap (named s) a.0 ∙ ap Some (sym a.1), let none = ap length a.0 in omega arith)
    leads_there n p (inr b) =
        let e = b.2 in (
          ap (named s) e.whole ∙ end_push s e.front e.row.0.name root e.row.0.directory inode e.leads
              (child_of_row s b.0 e.row e.at ∙ ap Some e.ends),
          subst (λ (q : Path). length q ≤ steps) (sym e.whole) (longer e.front e.row.0.name e.short),
        )

    -- and once all rows are tried, all that lead there were
    all_tried : (p : Path) → Leads s steps inode p → Tried s steps inode (length (entries s.entries)) p
    all_tried p leads = elim (last s p root inode leads.0) [
      | inl a ↦ inl (a.0, sym a.1)
      | inr l ↦
          let row = row_of_child s l.directory l.name inode l.names in
          inr (
            row.0,
            slice_get_within (entries s.entries) row.0 _ row.1,
            record {
              row = (record { directory = l.directory; name = l.name }, inode);
              at = row.1;
              ends = refl;
              front = l.front;
              whole = l.whole;
              leads = l.leads;
              short = let more = l.more in let short = leads.1 in omega arith;
            },
          )
    ]

    pub found_all : (n : ℕ) (found : Option Access) → length (entries s.entries) ≤ n → n ≤ length (entries s.entries)
        → Found s layer (Tried s steps inode n) found → Found s layer (Leads s steps inode) found
    found_all n found least most f =
        let all : n ≡ length (entries s.entries) = omega arith in
        same_sort (Tried s steps inode n) (Leads s steps inode) (leads_there n)
        (λ p l. subst (λ k. Tried s steps inode k p) (sym all) (all_tried p l)) found f

    -- ---- one row more

    more_or_here : (n : ℕ) (p : Path) → Tried s steps inode (n + 1) p → Tried s steps inode n p
        ⊎ ByEntry s steps inode n p
    more_or_here n p (inl a) = inl (inl a)
    more_or_here n p (inr b) = below_more (λ k. ByEntry s steps inode k p → Tried s steps inode n p
        ⊎ ByEntry s steps inode n p) n (λ k lt e. inl (inr (k, lt, e))) (λ e. inr e) b.0 b.1 b.2

    wider : (n : ℕ) (p : Path) → Tried s steps inode n p → Tried s steps inode (n + 1) p
    wider n p (inl a) = inl a
    wider n p (inr b) = inr (b.0, omega (arith, b.1), b.2)

    skipped : (n : ℕ) (found : Option Access) → ((p : Path) → ByEntry s steps inode n p → ⊥)
        → Found s layer (Tried s steps inode n) found → Found s layer (Tried s steps inode (n + 1)) found
    skipped n found none f =
        same_sort (Tried s steps inode n) (Tried s steps inode (n + 1)) (wider n)
        (λ p t. elim (more_or_here n p t) [ inl a ↦ a | inr e ↦ absurd (none p e) ]) found f

    same_row : (n : ℕ) (row other : Dentry × ℕ) → slice_get (entries s.entries) n ≡ Some row
        → slice_get (entries s.entries) n ≡ Some other → other ≡ row
    same_row n row other at also = cc

    -- a row of another inode
    pub skip_other : (n : ℕ) (row : Dentry × ℕ) (found : Option Access) → slice_get (entries s.entries) n ≡ Some row
        → row.1 ≢ inode
        → Found s layer (Tried s steps inode n) found → Found s layer (Tried s steps inode (n + 1)) found
    skip_other n row found at other f =
        skipped n found (λ p e. other (ap (λ (r : Dentry × ℕ). r.1) (sym (same_row n row e.row at e.at)) ∙ e.ends)) f

    -- a row whose directory has no such path
    pub skip_nameless : (n : ℕ) (row : Dentry × ℕ) (found : Option Access) → slice_get (entries s.entries) n ≡ Some row
        → Found s layer (Leads s (steps - 1) row.0.directory) None → Found s layer (Tried s steps inode n) found
        → Found s layer (Tried s steps inode (n + 1)) found
    skip_nameless n row found at none f =
        skipped n found (λ p e. none e.front (
          e.leads
              ∙ ap (λ (r : Dentry × ℕ). Some r.0.directory) (same_row n row e.row at e.at),
          let short = e.short in
              omega arith,
        )) f

    module _ (n : ℕ) (row : Dentry × ℕ) (at : slice_get (entries s.entries) n ≡ Some row) (ends : row.1 ≡ inode)
        (some : 0 < steps) (above : Access)
        (over : Found s layer (Leads s (steps - 1) row.0.directory) (Some above)) where
      abbrev with_name : Path → Path
      with_name front = front ++ row.0.name ∷ []

      by_row : (front : Path) → Leads s (steps - 1) row.0.directory front
          → Tried s steps inode (n + 1) (with_name front)
      by_row front l = inr (
        n,
        omega arith,
        record {
          row = row;
          at = at;
          ends = ends;
          front = front;
          whole = refl;
          leads = l.0;
          short = let short = l.1
              in omega arith;
        },
      )

      ruled_by_row : (front : Path) (right : ℕ) → named s front ≡ Some row.0.directory
          → is_ruled s layer (with_name front) right ≡ (is_ruled s layer front right || has_rule layer right inode)
      ruled_by_row front right l = any_push s (has_rule layer right) front row.0.name root row.0.directory inode l
          (child_of_row s n row at ∙ ap Some ends)

      -- what a path by this row tells
      told_by_row : (p : Path) (right : ℕ) → ByEntry s steps inode n p → is_ruled s layer p right ≡ true
          → (holds above.0 right ≡ true) ⊎ (has_rule layer right inode ≡ true)
      told_by_row p right e g =
          let same = same_row n row e.row at e.at in
          let there : named s e.front ≡ Some row.0.directory =
          e.leads ∙ ap (λ (r : Dentry × ℕ). Some r.0.directory) same in
          let whole : p ≡ with_name e.front = e.whole ∙ ap (λ (r : Dentry × ℕ). e.front ++ r.0.name ∷ []) same in
          elim (or_split (is_ruled s layer e.front right) (has_rule layer right inode)
          (sym (ruled_by_row e.front right there) ∙ ap (λ q. is_ruled s layer q right) (sym whole) ∙ g)) [
            | inl a ↦ inl ((over.1 right).1 (e.front, (there, let short = e.short in omega arith), a))
            | inr b ↦ inr b
          ]

      -- the base: what the paths before hold, and the inode's own rule
      module _ (base new : Access) (is : new.0 ≡ bit_or base.0 above.0)
          (sound : (right : ℕ) → holds base.0 right ≡ true → (path : Path) × Tried s steps inode (n + 1) path
          × (is_ruled s layer path right ≡ true))
          (whole : (path : Path) (right : ℕ) → Tried s steps inode n path → is_ruled s layer path right ≡ true
          → holds base.0 right ≡ true)
          (own : (path : Path) (right : ℕ) → Tried s steps inode (n + 1) path → has_rule layer right inode ≡ true
          → holds base.0 right ≡ true) where
        joined : Found s layer (Tried s steps inode (n + 1)) (Some new)
        joined = (
          (with_name over.0.0, by_row over.0.0 over.0.1),
          λ right.
              let parts : holds new.0 right ≡ (holds base.0 right || holds above.0 right) =
              ap (λ k. holds k right) is ∙ holds-or base.0 above.0 right in (
                λ h. elim (or_split (holds base.0 right) (holds above.0 right) (sym parts ∙ h)) [
                  | inl a ↦ sound right a
                  | inr b ↦ let w = (over.1 right).0 b in (
                    with_name w.0,
                    by_row w.0 w.1,
                    ruled_by_row w.0 right w.1.0
                        ∙ or_left (is_ruled s layer w.0 right) (has_rule layer right inode) w.2,
                  )
                ],
                λ w. parts ∙ elim (more_or_here n w.0 w.1) [
                  | inl t ↦ or_left (holds base.0 right) (holds above.0 right) (whole w.0 right t w.2)
                  | inr e ↦ elim (told_by_row w.0 right e w.2) [
                    | inl a ↦ or_right (holds base.0 right) (holds above.0 right) a
                    | inr b ↦ or_left (holds base.0 right) (holds above.0 right) (own w.0 right w.1 b)
                  ]
                ],
              ),
        )

      -- a row by which there is a path
      pub taken : (own new : Access) (found : Option Access) → own.0 ≡ unwrap_or (get layer.rules inode) 0
          → new.0 ≡ bit_or (unwrap_or found own).0 above.0
          → Found s layer (Tried s steps inode n) found → Found s layer (Tried s steps inode (n + 1)) (Some new)
      taken own new None rule is none =
          joined own new is
          (λ right h. (
            with_name over.0.0,
            by_row over.0.0 over.0.1,
            ruled_by_row over.0.0 right over.0.1.0
                ∙ or_right (is_ruled s layer over.0.0 right) (has_rule layer right inode)
                (ap (λ k. holds k right) (sym rule) ∙ h),
          ))
          (λ path right t g. absurd (none path t))
          (λ path right t h. ap (λ k. holds k right) rule ∙ h)
      taken own new (Some set) rule is f =
          joined set new is
          (λ right h. let w = (f.1 right).0 h in (w.0, wider n w.0 w.1, w.2))
          (λ path right t g. (f.1 right).1 (path, t, g))
          (λ path right t h. (f.1 right).1
          (f.0.0, f.0.1, any_end s (has_rule layer right) f.0.0 root inode (leads_there n f.0.0 f.0.1).0 h))
