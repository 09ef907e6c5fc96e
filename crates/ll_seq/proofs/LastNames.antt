-- Where a path's last name stands.
use Rattle.std.specs.Prelude.{◌≡◌, ◌≢◌, ◌⊎◌, ℕ, Bool, true, false, ◌||◌, ◌&&◌, [], ◌∷◌, ◌++◌, Option, Some, None}
use Rattle.std.specs.Prelude.{is_some, option_and_then, unwrap_or, refl}
use Rattle.std.specs.List.{flat_map}
use Rattle.std.specs.Option.{option_map_or}
use Rattle.std.proofs.Common.{ap, sym, subst, ◌∙◌, inl, inr}
use Rattle.ll_rights.specs.declared.errno.Errno.{Errno}
use Rattle.ll_rights.specs.declared.errno.Errno.TheVariants.{EBUSY, EEXIST}
use Rattle.ll_rights.specs.declared.kind.Kind.{Kind}
use Rattle.ll_rights.specs.declared.kind.Kind.TheVariants.{Reg, Dir, Sym, Fifo, Sock, Char, Block}
use Rattle.ll_rights.specs.Errno.{refuse}
use Rattle.ll_rights.specs.Kind.{is_dir}
use Rattle.ll_rights.specs.MapCodes.{same_list_map}
use Rattle.ll_rights.specs.Map.{Map, get, insert}
use Rattle.ll_rights.proofs.Maps.{insert_cases, same_map}
use Rattle.ll_path.specs.Name.{IsName}
use Rattle.ll_path.specs.Path.{Path, parent, last_name, is_root}
use Rattle.ll_path.specs.declared.target.Target.{Target}
use Rattle.ll_path.proofs.PathLemmas.{parent-last_name}
use Rattle.ll_seq.proofs.CutChains.{named-child}
use Rattle.ll_seq.proofs.DentryOrder.{dentry_total, dentry_exact}
use Rattle.ll_seq.specs.declared.dentries.Dentry.{Dentry}
use Rattle.ll_seq.specs.Effects.{with_name}
use Rattle.ll_seq.specs.Stages.{in_the_way, no_directory, kind_of_child, lying, present, no_space, way_to, has_names}
use Rattle.ll_seq.specs.State.{State, child, kind_of, root, dentry, dentry_cmp}
use Rattle.ll_seq.specs.Tree.{end_from, named, inode_of, directory_of, kind_at, kind_or_file}
use Rattle.ll_seq.proofs.Walked.{one_free, other_free}
use Rattle.ll_seq.specs.declared.changes.At.{At}
use Rattle.ll_seq.specs.declared.found.Spot.{Spot}
use Rattle.ll_seq.specs.Effect.{IsPlace, IsEmpty, Lacks, Holds, HasRoom, dentry_at}
use Rattle.ll_seq.specs.Found.{Stands}

-- ---- A free way leads to a directory

is_directory : (k : Option Kind) → no_directory k ≡ [] → k ≡ Some Dir
is_directory None e = absurd cc
is_directory (Some Dir) e = refl
is_directory (Some Sym) e = absurd cc
is_directory (Some Reg) e = absurd cc
is_directory (Some Fifo) e = absurd cc
is_directory (Some Sock) e = absurd cc
is_directory (Some Char) e = absurd cc
is_directory (Some Block) e = absurd cc

onward : (s : State) (path : Path) (o : Option ℕ)
    → ((j : ℕ) → in_the_way s path j ≡ [] → (d : ℕ) × (end_from s path j ≡ Some d)
    × (kind_of s j ≡ Some Dir → kind_of s d ≡ Some Dir))
    → no_directory (kind_of_child s o) ++ option_map_or (in_the_way s path) o [] ≡ []
    → (d : ℕ) × (option_and_then (end_from s path) o ≡ Some d) × (kind_of s d ≡ Some Dir)
onward s path None further e = absurd cc
onward s path (Some j) further e =
    let led = further j (other_free (no_directory (kind_of s j)) (in_the_way s path j) e) in
    let here = is_directory (kind_of s j) (one_free (no_directory (kind_of s j)) (in_the_way s path j) e) in
    (led.0, led.1, led.2 here)

pub way_leads : (s : State) (path : Path) (i : ℕ) → in_the_way s path i ≡ [] → (d : ℕ) × (end_from s path i ≡ Some d)
    × (kind_of s i ≡ Some Dir → kind_of s d ≡ Some Dir)
way_leads s [] i free = (i, refl, λ here. here)
way_leads s (name ∷ path) i free =
    let led = onward s path (child s i name) (way_leads s path) free in
    (led.0, led.1, λ here. led.2)

-- ---- Places

-- the place of the last name of a path that isn't the root
pub is_place : (s : State) (path : Path) (spot : Spot) (at : At) → at.directory ≡ spot.directory
    → at.name.now ≡ last_name path → IsName at.name.now
    → Stands s path spot → in_the_way s (parent path) root ≡ [] → is_root path ≡ false → IsPlace s path at
is_place s path spot at there name is_name stands free inner =
    let led = way_leads s (parent path) root free in
    let directory : at.directory ≡ directory_of s path = there ∙ stands.directory in
    let ends : directory_of s path ≡ led.0 = ap (λ o. unwrap_or o 0) led.1 in
    record {
      name = is_name;
      directory = λ rooted. subst (λ (d : ℕ). kind_of s d ≡ Some Dir) (sym (directory ∙ ends)) (led.2 rooted);
      dentry = λ i. dentry (directory i) (name i);
      child = (λ i. child s ((directory ∙ ends) i) (name i))
          ∙ sym (named-child s path (parent path) (last_name path) led.0 (parent-last_name path inner) led.1);
    }

pub lacks : (s : State) (path : Path) (at : At) → IsPlace s path at → named s path ≡ None → Lacks s at
lacks s path at place none = record { name = place.name; directory = place.directory; child = place.child ∙ none }

pub holds : (s : State) (path : Path) (at : At) (inode : ℕ) → IsPlace s path at → named s path ≡ Some inode
    → Holds s at inode
holds s path at inode place some = record { name = place.name; directory = place.directory; child = place.child ∙ some }

pub has_room : (s : State) (path : Path) (at : At) → IsPlace s path at → named s path ≡ None
    → no_space s (directory_of s path) ≡ [] → HasRoom s at
has_room s path at place none space =
    record { lacks = lacks s path at place none; space = ap (λ d. no_space s d.directory) place.dentry ∙ space }

-- ---- What no refusal says

pub not_refused : (b : Bool) (e : Errno) → refuse b e ≡ [] → b ≡ false
not_refused false e free = refl
not_refused true e free = absurd cc

pub absent : (s : State) (path : Path) → present s path ≡ [] → named s path ≡ None
absent s path free = of (named s path) (not_refused (is_some (named s path)) EEXIST free)
  where
    of : (o : Option ℕ) → is_some o ≡ false → o ≡ None
    of None e = refl
    of (Some x) e = absurd cc

pub found_some : (o : Option ℕ) → is_some o ≡ true → o ≡ Some (unwrap_or o 0)
found_some None e = absurd cc
found_some (Some x) e = refl

-- neither path is the root
pub no_roots : (old new : Path) (above : Errno) → lying old new above ≡ [] → (is_root old ≡ false)
    × (is_root new ≡ false)
no_roots old new above e = of (is_root old) (is_root new)
    (not_refused (is_root old || is_root new) EBUSY
    (one_free (refuse (is_root old || is_root new) EBUSY) _ (one_free _ _ e)))
  where
    of : (a b : Bool) → (a || b) ≡ false → (a ≡ false) × (b ≡ false)
    of true b e = absurd cc
    of false b e = (refl, e)

-- a node is there, and it is this one
pub stands_there : (s : State) (path : Path) (inode : ℕ) → is_some (named s path) ≡ true → inode ≡ inode_of s path
    → named s path ≡ Some inode
stands_there s path inode there is = found_some (named s path) there ∙ ap Some (sym is)

-- the way to the one word of a call is free
pub one_way : (s : State) (word : Target) → flat_map (way_to s) (word ∷ []) ≡ [] → way_to s word ≡ []
one_way s word free = one_free (way_to s word) [] free

-- and that to the second of two
pub last_way : (s : State) (old new : Target) → flat_map (way_to s) (old ∷ new ∷ []) ≡ [] → way_to s new ≡ []
last_way s old new free = one_free (way_to s new) [] (other_free (way_to s old) (way_to s new ++ []) free)

-- the root is there, so a path that names nothing is another
pub not_named : (s : State) (path : Path) → named s path ≡ None → is_root path ≡ false
not_named s [] e = absurd cc
not_named s (name ∷ path) e = refl

-- ---- Directories that go are empty

pub no_directory_goes : (s : State) (path : Path) (inode : ℕ) → inode ≡ inode_of s path
    → is_dir (kind_at s path) ≡ false → IsEmpty s inode
no_directory_goes s path inode is file =
    ap (λ (j : ℕ). is_dir (kind_or_file s j) && has_names s j) is ∙ ap (λ b. b && has_names s (inode_of s path)) file

pub empty_goes : (s : State) (path : Path) (inode : ℕ) → inode ≡ inode_of s path → has_names s (inode_of s path) ≡ false
    → IsEmpty s inode
empty_goes s path inode is empty =
    ap (λ (j : ℕ). is_dir (kind_or_file s j) && has_names s j) is
    ∙ of (is_dir (kind_at s path)) (has_names s (inode_of s path)) empty
  where
    of : (a b : Bool) → b ≡ false → (a && b) ≡ false
    of true b e = e
    of false b e = refl

-- ---- An entry that is there already

pub insert_again : (m : Map dentry_cmp ℕ) (k : Dentry) (x : ℕ) → get m k ≡ Some x → insert m k x ≡ m
insert_again m k x e = same_list_map (insert m k x) m
    (same_map dentry_total dentry_exact (insert m k x) m (λ q. of q (insert_cases dentry_total dentry_exact m k x q)))
  where
    of : (q : Dentry) → ((q ≡ k) × (get (insert m k x) q ≡ Some x)) ⊎ ((q ≢ k) × (get (insert m k x) q ≡ get m q))
        → get (insert m k x) q ≡ get m q
    of q (inl (same, new)) = new ∙ sym e ∙ ap (get m) (sym same)
    of q (inr (other, old)) = old

-- one node under both names keeps both
pub exchange_of_one : (s : State) (old new : At) (first second : ℕ) → first ≡ second → Holds s old first
    → Holds s new second
    → with_name (with_name s (dentry_at new) first) (dentry_at old) second ≡ s
exchange_of_one s old new first second same one other i =
    record s {
      entries = (ap (λ (m : Map dentry_cmp ℕ). insert m (dentry_at old) second)
          (insert_again s.entries (dentry_at new) first (other.child ∙ ap Some (sym same)))
          ∙ insert_again s.entries (dentry_at old) second (one.child ∙ ap Some same)) i;
    }
