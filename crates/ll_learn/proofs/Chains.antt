-- The paths to directories that are known, one directory more, and what no known path leads to.
use Rattle.std.specs.Prelude.{◌≡◌, ◌≢◌, ◌⊎◌, ◌<◌, ◌≤◌, ◌+◌, ◌==◌, ℕ, zero, suc, true, List, [], ◌∷◌, ◌++◌, Some}
use Rattle.std.specs.Prelude.{drop, get_or, length, set, take, if◌then◌else◌, refl}
use Rattle.std.specs.Option.{option_map_or}
use Rattle.std.specs.declared.alloc.Global.{Global}
use Rattle.std.specs.declared.vec.Vec.{Vec}
use Rattle.std.proofs.Common.{ap, arith, inl, inr, length-append, sym, subst, ◌∙◌}
use Rattle.std.proofs.lemmas.Bool.{cases_eq, cond-true, cond-false, eq-eqb, ne_eqb}
use Rattle.std.proofs.Math.Seq.{get_or-append_seam}
use Rattle.std.proofs.lemmas.List.{drop_more, take-append-drop, take_at, take_more}
use Rattle.std.proofs.lemmas.Option.{slice_get_past, slice_get_read}
use Rattle.ll_path.specs.Path.{Path}
use Rattle.ll_rights.specs.declared.kind.Kind.TheVariants.{Dir}
use Rattle.ll_seq.specs.State.{State, kind_of}
use Rattle.ll_seq.specs.Tree.{ancestors, named}
use Rattle.ll_laws.proofs.Chains.{same_Some}
use Rattle.ll_laws.proofs.Trees.{IsTree, only_path}
use Rattle.ll_learn.specs.declared.draft.Scope.{Scope}
use Rattle.ll_learn.specs.declared.site.Sites.{Sites}
use Rattle.ll_learn.specs.declared.site_chains.SiteChains.{SiteChains}
use Rattle.ll_learn.specs.Draft.{may_have}
use Rattle.ll_learn.specs.Lesson.{IsOfSites}
use Rattle.ll_learn.specs.Mended.{ArePathsTo, AreSiteChains, HasEachOf, IsPathTo, KnowEach, chain_at, chain_in}
use Rattle.ll_learn.specs.Sites.{AreSites, IsReached}
use Rattle.ll_learn.proofs.AllSites.{reached_tree, site_is}

-- ---- rows

pub chain_more : (rows : List (Vec ℕ Global)) (row : Vec ℕ Global) (inode : ℕ) → row.items ≡ []
    → chain_in (rows ++ row ∷ []) inode ≡ chain_in rows inode
chain_more [] row zero e = e
chain_more [] row (suc k) e = refl
chain_more (x ∷ rows) row zero e = refl
chain_more (x ∷ rows) row (suc k) e = chain_more rows row k e

same_row : (rows : List (Vec ℕ Global)) (place : ℕ) (row : Vec ℕ Global) → place < length rows
    → chain_in (set rows place row) place ≡ row.items
same_row [] place row lt = absurd (omega (arith, lt))
same_row (x ∷ rows) zero row lt = refl
same_row (x ∷ rows) (suc p) row lt = same_row rows p row (omega (arith, lt))

other_row : (rows : List (Vec ℕ Global)) (place inode : ℕ) (row : Vec ℕ Global) → inode ≢ place
    → chain_in (set rows place row) inode ≡ chain_in rows inode
other_row [] place inode row ne = refl
other_row (x ∷ rows) zero zero row ne = absurd (ne refl)
other_row (x ∷ rows) zero (suc k) row ne = refl
other_row (x ∷ rows) (suc p) zero row ne = refl
other_row (x ∷ rows) (suc p) (suc k) row ne = other_row rows p k row (λ e. ne (ap suc e))

pub chain_set : (rows : List (Vec ℕ Global)) (place inode : ℕ) (row : Vec ℕ Global) → place < length rows
    → chain_in (set rows place row) inode ≡ (if inode == place then row.items else chain_in rows inode)
chain_set rows place inode row lt = elim (cases_eq inode place) [
  | inl e ↦
      ap (chain_in (set rows place row)) e ∙ same_row rows place row lt
      ∙ sym (cond-true (inode == place) row.items (chain_in rows inode) (eq-eqb inode place e))
  | inr ne ↦
      other_row rows place inode row ne
      ∙ sym (cond-false (inode == place) row.items (chain_in rows inode) (ne_eqb inode place ne))
]

pub chain_within : (rows : List (Vec ℕ Global)) (i : ℕ) (row : Vec ℕ Global) → i < length rows
    → row ≡ get_or rows i row → chain_in rows i ≡ row.items
chain_within rows i row lt is = ap (λ o. option_map_or (λ (r : Vec ℕ Global). r.items) o [])
    (slice_get_read rows (length rows) i row refl lt is)

pub chain_past : (rows : List (Vec ℕ Global)) (i : ℕ) → length rows ≤ i → chain_in rows i ≡ []
chain_past rows i ge = ap (λ o. option_map_or (λ (r : Vec ℕ Global). r.items) o []) (slice_get_past rows i ge)

-- ---- one directory more

chain_some : (s : State) (path : Path) → ancestors s path ≢ []
chain_some s [] e = absurd (cc e)
chain_some s (name ∷ path) e = absurd (cc e)

path_some : (s : State) (inode : ℕ) (inodes : List ℕ) → IsPathTo s inode inodes → inodes ≢ []
path_some s inode inodes is none = chain_some s is.path (is.chain ∙ none)

module _ (s : State) (old new : SiteChains) (inode : ℕ) (inodes : List ℕ) (is : IsPathTo s inode inodes)
    (put : (other : ℕ) → chain_at new other ≡ (if other == inode then inodes else chain_at old other)) where
  now : (other : ℕ) → other ≡ inode → chain_at new other ≡ inodes
  now other e = put other ∙ cond-true (other == inode) inodes (chain_at old other) (eq-eqb other inode e)

  still : (other : ℕ) → other ≢ inode → chain_at new other ≡ chain_at old other
  still other ne = put other ∙ cond-false (other == inode) inodes (chain_at old other) (ne_eqb other inode ne)

  pub put_chains : AreSiteChains s old → AreSiteChains s new
  put_chains are other = elim (cases_eq other inode) [
    | inl e ↦ inr (subst (IsPathTo s other) (sym (now other e)) (subst (λ i. IsPathTo s i inodes) (sym e) is))
    | inr ne ↦ subst (λ (l : List ℕ). (l ≡ []) ⊎ IsPathTo s other l) (sym (still other ne)) (are other)
  ]

  pub put_stay : (other : ℕ) → chain_at old other ≢ [] → chain_at new other ≢ []
  put_stay other was none = elim (cases_eq other inode) [
    | inl e ↦ path_some s inode inodes is (sym (now other e) ∙ none)
    | inr ne ↦ was (sym (still other ne) ∙ none)
  ]

  pub put_there : (other : ℕ) → other ≡ inode → chain_at new other ≢ []
  put_there other e none = path_some s inode inodes is (sym (now other e) ∙ none)

-- ---- a path along which not each directory is known

pub cut_there : (inodes : List ℕ) (i d : ℕ) → i < length inodes
    → inodes ≡ take i inodes ++ get_or inodes i d ∷ drop (i + 1) inodes
cut_there inodes i d lt =
    sym (take-append-drop i inodes) ∙ ap (λ (l : List ℕ). take i inodes ++ l) (drop_more inodes i d lt)

pub unknown_there : (s : State) (scope : Scope) (chains : SiteChains) (inodes : List ℕ) (i right : ℕ)
    → KnowEach s scope chains → ArePathsTo s scope inodes → i < length inodes → right < 15
    → may_have scope right (get_or inodes i 0) ≡ true → chain_at chains (get_or inodes i 0) ≡ take (i + 1) inodes
unknown_there s scope chains inodes i right know paths lt known may =
    let inode = get_or inodes i 0 in
    know inode right (take i inodes ++ inode ∷ []) known may
    (paths (take i inodes) (drop (i + 1) inodes) inode right (cut_there inodes i 0 lt) known may)
    ∙ sym (take_more inodes i 0 lt)

-- ---- a path along which each directory is known

module _ (inodes front behind : List ℕ) (inode i : ℕ) (parts : inodes ≡ front ++ inode ∷ behind)
    (here : length front ≡ i) where
  pub node_there : get_or inodes i 0 ≡ inode
  node_there =
      ap (λ (l : List ℕ). get_or l i 0) parts ∙ ap (λ n. get_or (front ++ inode ∷ behind) n 0) (sym here)
      ∙ get_or-append_seam front inode behind 0

  front_there : take (i + 1) inodes ≡ front ++ inode ∷ []
  front_there =
      take_more inodes i 0 (subst (λ (l : List ℕ). i < length l) (sym parts) within)
      ∙ ap (λ (l : List ℕ). l ++ get_or inodes i 0 ∷ []) (ap (take i) parts ∙ take_at front (inode ∷ behind) i here)
      ∙ ap (λ n. front ++ n ∷ []) node_there
    where
      within : i < length (front ++ inode ∷ behind)
      within = let long = length-append front (inode ∷ behind) in omega (arith, long, here)

  not_nil : (xs : List ℕ) → xs ++ inode ∷ [] ≢ []
  not_nil [] e = absurd (cc e)
  not_nil (x ∷ xs) e = absurd (cc e)

  pub known_there : (s : State) (chains : SiteChains) → AreSiteChains s chains
      → chain_at chains (get_or inodes i 0) ≡ take (i + 1) inodes → IsPathTo s inode (front ++ inode ∷ [])
  known_there s chains are has =
      let chain : chain_at chains inode ≡ front ++ inode ∷ [] =
      ap (chain_at chains) (sym node_there) ∙ has ∙ front_there in
      elim (are inode) [
        | inl none ↦ absurd (not_nil front (sym chain ∙ none))
        | inr way ↦ subst (IsPathTo s inode) chain way
      ]

-- ---- each directory of a tree's nodes is known

-- a directory has one path
only_way : (s : State) → IsTree s → (p q : Path) (x : ℕ) → kind_of s x ≡ Some Dir → named s p ≡ Some x
    → named s q ≡ Some x → p ≡ q
only_way s tree p q x is a b = only_path s tree p q x (λ k e. same_Some k Dir (sym e ∙ is)) a b

pub know_each : (s : State) → IsReached s → (held : ℕ) (sites : Sites) → AreSites s held sites → (scope : Scope)
    → IsOfSites sites scope → (chains : SiteChains) → AreSiteChains s chains → HasEachOf s sites.rows.items chains
    → KnowEach s scope chains
know_each s reached held sites are scope of chains ok each inode right inodes known may path =
    let can = (of inode right known may).1 in
    let is = site_is s held sites are can.0 can.1 in
    let names = is.named ∙ ap Some can.2 in
    elim (ok inode) [
      | inl none ↦ absurd (each can.1.0 can.0 inode can.1.1 names path.directory none)
      | inr way ↦
          sym way.chain
          ∙ ap (ancestors s)
          (only_way s (reached_tree s reached) way.path path.path inode path.directory way.names path.names)
          ∙ path.chain
    ]
