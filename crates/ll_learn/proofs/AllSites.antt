-- Sites to which what is right below each was added are all that spelt paths name.
use Rattle.std.specs.Prelude.{◌≡◌, ◌<◌, ◌≤◌, ◌+◌, ◌==◌, ◌||◌, ℕ, zero, suc, Bool, true, false, List, [], ◌∷◌, ◌++◌}
use Rattle.std.specs.Prelude.{Some, length, refl, slice_get, unwrap_or}
use Rattle.std.specs.List.{list_any}
use Rattle.std.proofs.Common.{ap, append_assoc, arith, inl, inr, sym, subst, ◌∙◌}
use Rattle.std.proofs.lemmas.Bool.{cases_lt, eqb-true}
use Rattle.std.proofs.lemmas.List.{append-nil}
use Rattle.std.proofs.lemmas.Option.{get_or_from_slice_get, slice_get_within}
use Rattle.ll_path.specs.Path.{Path}
use Rattle.ll_rights.specs.declared.kind.Kind.TheVariants.{Dir}
use Rattle.ll_seq.specs.State.{Name, State, child, kind_of, names_in, root, start}
use Rattle.ll_seq.specs.Tree.{inode_of, named}
use Rattle.ll_seq.proofs.Parted.{Last, end_push, last}
use Rattle.ll_laws.proofs.Gain.{after_tree, start_tree}
use Rattle.ll_laws.proofs.Trees.{IsTree, only_path}
use Rattle.ll_learn.specs.declared.site.Site.{Site}
use Rattle.ll_learn.specs.declared.site.Sites.{Sites}
use Rattle.ll_learn.specs.Sites.{AreAll, AreSites, IsLonger, HasBelow, HaveBelow, IsAmong, IsReached, IsSite, IsSpelt}
use Rattle.ll_learn.specs.Sites.{HasSite}
use Rattle.ll_learn.proofs.EarlierReach.{named_kind}
use Rattle.ll_learn.proofs.ListedNames.{listed}
use Rattle.ll_learn.proofs.SpeltPaths.{spelt_front}

-- where a history led there is a tree
pub reached_tree : (s : State) → IsReached s → IsTree s
reached_tree s is =
    subst IsTree (sym is.leads) (after_tree (start is.rules is.room) is.early (start_tree is.rules is.room))

-- each that is among them is a site
pub site_is : (s : State) (all : ℕ) (sites : Sites) → AreSites s all sites → (site : Site) → IsAmong sites site
    → IsSite s all site
site_is s all sites are site among =
    subst (IsSite s all) (get_or_from_slice_get sites.rows.items among.0 site site among.1)
    (are.each among.0 site (slice_get_within sites.rows.items among.0 site among.1))

-- what names its node names it
pub same_node : (s : State) (all : ℕ) (site : Site) (path : Path) (inode : ℕ) → IsSite s all site → site.path ≡ path
    → named s path ≡ Some inode → site.inode ≡ inode
same_node s all site path inode is same names =
    let both : Some site.inode ≡ Some inode = sym is.named ∙ ap (named s) same ∙ names in cc

-- an element that passes is somewhere
pub any_among : {A : Type 0} (p : A → Bool) (xs : List A) → list_any p xs ≡ true → (x : A)
    × ((i : ℕ) × (slice_get xs i ≡ Some x)) × (p x ≡ true)
any_among p [] there = absurd (cc there)
any_among {A} p (x ∷ xs) there = by (p x) refl there (any_among p xs)
  where
    by : (b : Bool) → p x ≡ b → (b || list_any p xs) ≡ true
        → (list_any p xs ≡ true → (y : A) × ((i : ℕ) × (slice_get xs i ≡ Some y)) × (p y ≡ true))
        → (y : A) × ((i : ℕ) × (slice_get (x ∷ xs) i ≡ Some y)) × (p y ≡ true)
    by true is e rest = (x, (0, refl), is)
    by false is e rest = let found = rest e in (found.0, (suc found.1.0, found.1.1), found.2)

pub found_there : (sites : Sites) (inode : ℕ) → list_any (λ (site : Site). site.inode == inode) sites.rows.items ≡ true
    → HasSite sites inode
found_there sites inode there =
    let found = any_among (λ (site : Site). site.inode == inode) sites.rows.items there in
    (found.0, found.1, eqb-true found.0.inode inode found.2)

-- ---- more sites

front_same : {A : Type 0} (xs ys : List A) (i : ℕ) → i < length xs → slice_get (xs ++ ys) i ≡ slice_get xs i
front_same [] ys i lt = absurd (omega arith)
front_same (x ∷ xs) ys zero lt = refl
front_same (x ∷ xs) ys (suc i) lt = front_same xs ys i (omega arith)

same_on : (old new : Sites) → IsLonger old new → (i : ℕ) → i < length old.rows.items
    → slice_get new.rows.items i ≡ slice_get old.rows.items i
same_on old new more i lt = ap (λ (l : List Site). slice_get l i) more.1 ∙ front_same old.rows.items more.0 i lt

pub no_more : (sites : Sites) → IsLonger sites sites
no_more sites = ([], sym (append-nil sites.rows.items))

pub one_more : (old new : Sites) (site : Site) → new.rows.items ≡ old.rows.items ++ site ∷ [] → IsLonger old new
one_more old new site e = (site ∷ [], e)

last_at : {A : Type 0} (xs : List A) (x : A) → slice_get (xs ++ x ∷ []) (length xs) ≡ Some x
last_at [] x = refl
last_at (y ∷ xs) x = last_at xs x

pub new_there : (old new : Sites) (site : Site) (inode : ℕ) → new.rows.items ≡ old.rows.items ++ site ∷ []
    → site.inode ≡ inode → HasSite new inode
new_there old new site inode e is = (
  site,
  (length old.rows.items, ap (λ (l : List Site). slice_get l (length old.rows.items)) e ∙ last_at old.rows.items site),
  is,
)

pub more_yet : (old next new : Sites) → IsLonger old next → IsLonger next new → IsLonger old new
more_yet old next new first second = (
  first.0 ++ second.0,
  second.1 ∙ ap (λ (l : List Site). l ++ second.0) first.1 ∙ append_assoc old.rows.items first.0 second.0,
)

pub there_on : (old new : Sites) → IsLonger old new → (inode : ℕ) → HasSite old inode → HasSite new inode
there_on old new more inode there =
    let lt = slice_get_within old.rows.items there.1.0 there.0 there.1.1 in
    (there.0, (there.1.0, same_on old new more there.1.0 lt ∙ there.1.1), there.2)

pub below_on : (s : State) (old new : Sites) → IsLonger old new → (site : Site) → HasBelow s old site
    → HasBelow s new site
below_on s old new more site below name inode spelt is = there_on old new more inode (below name inode spelt is)

-- what is below one row more is among them
pub below_next : (s : State) (old new : Sites) (index : ℕ) → IsLonger old new → index < length old.rows.items
    → HaveBelow s old index → ((site : Site) → slice_get old.rows.items index ≡ Some site → HasBelow s new site)
    → HaveBelow s new (index + 1)
below_next s old new index more within have here i lt site at = elim (cases_lt i index) [
  | inl below ↦
      let old_at : slice_get old.rows.items i ≡ Some site = sym (same_on old new more i (omega arith)) ∙ at in
      below_on s old new more site (have i below site old_at)
  | inr above ↦
      let same : i ≡ index = omega arith in
      here site (sym (same_on old new more index within) ∙ ap (slice_get new.rows.items) (sym same) ∙ at)
]

-- ---- what is below a site

-- what is no directory has nothing below
pub none_below : (s : State) → IsReached s → (all : ℕ) (sites : Sites) (site : Site) → IsSite s all site
    → (kind_of s site.inode ≡ Some Dir → ⊥) → HasBelow s sites site
none_below s reached all sites site is none name inode spelt at =
    let tree = reached_tree s reached in
    let known = named_kind s tree site.path site.inode is.named in
    absurd (none (known.1 ∙ ap Some (tree.dirs site.inode name inode at known.0 known.1)))

-- where the node of each name that is listed was added, what is below is among them
pub below_listed : (s t : State) → t ≡ s → (all : ℕ) (sites : Sites) (site : Site) → IsSite s all site → (above : Path)
    (names : List Name) → above ≡ site.path → names ≡ names_in s (inode_of s site.path)
    → ((k : ℕ) (name : Name) (inode : ℕ) → slice_get names k ≡ Some name → IsSpelt (above ++ name ∷ [])
    → named t (above ++ name ∷ []) ≡ Some inode → HasSite sites inode) → HasBelow s sites site
below_listed s t same all sites site is above names e f there name inode spelt at =
    let place = listed s site.inode name inode at in
    there place.0 name inode
    (ap (λ (l : List Name). slice_get l place.0) (f ∙ ap (λ o. names_in s (unwrap_or o 0)) is.named) ∙ place.1)
    (subst (λ (p : Path). IsSpelt (p ++ name ∷ [])) (sym e) spelt)
    (ap (λ (u : State). named u (above ++ name ∷ [])) same ∙ ap (λ (p : Path). named s (p ++ name ∷ [])) e
    ∙ end_push s site.path name root site.inode inode is.named at)

-- ---- all of them

module _ (s : State) (tree : IsTree s) (all : ℕ) (sites : Sites) (are : AreSites s all sites) (index : ℕ)
    (end : length sites.rows.items ≤ index) (have : HaveBelow s sites index) where
  below_there : (path : Path) (inode : ℕ) → IsSpelt path → (l : Last s path root inode) → HasSite sites l.directory
      → HasSite sites inode
  below_there path inode spelt l there =
      let site = there.0 in
      let within = slice_get_within sites.rows.items there.1.0 site there.1.1 in
      let is = site_is s all sites are site there.1 in
      let names : named s site.path ≡ Some l.directory = is.named ∙ ap Some there.2 in
      let same : site.path ≡ l.front =
      only_path s tree site.path l.front l.directory (tree.dirs l.directory l.name inode l.names) names l.leads in
      have there.1.0 (omega arith) site there.1.1 l.name inode
      (subst (λ (p : Path). IsSpelt (p ++ l.name ∷ [])) (sym same) (subst IsSpelt l.whole spelt))
      (ap (λ d. child s d l.name) there.2 ∙ l.names)

  of_length : (k : ℕ) (path : Path) (inode : ℕ) → length path ≡ k → IsSpelt path → named s path ≡ Some inode
      → HasSite sites inode
  of_length zero path inode size spelt names = elim (last s path root inode names) [
    | inl a ↦ (are.top.0, are.top.1, are.top.2 ∙ a.1)
    | inr l ↦ let more = l.more in absurd (omega arith)
  ]
  of_length (suc k) path inode size spelt names = elim (last s path root inode names) [
    | inl a ↦ (are.top.0, are.top.1, are.top.2 ∙ a.1)
    | inr l ↦
        let more = l.more in
        below_there path inode spelt l (of_length k l.front l.directory (omega arith)
        (spelt_front l.front l.name (subst IsSpelt l.whole spelt)) l.leads)
  ]

  pub all_there : AreAll s sites
  all_there inode name = of_length (length name.0) name.0 inode refl name.1 name.2
