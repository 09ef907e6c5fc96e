-- Where a path's last name stands, by what is counted of each node.
use Rattle.std.specs.Prelude.{◌≡◌, ℕ, false, length, Option, Some, None, nat_le, option_and_then, option_map, slice_get}
use Rattle.std.specs.Prelude.{unwrap_or, refl}
use Rattle.std.specs.Option.{option_map_or}
use Rattle.std.specs.Ordering.{nat_cmp}
use Rattle.std.proofs.Common.{ap, sym, ◌∙◌}
use Rattle.ll_rights.specs.declared.errno.Errno.{Errno}
use Rattle.ll_rights.specs.declared.kind.Kind.{Kind}
use Rattle.ll_rights.specs.declared.kind.Kind.TheVariants.{Reg, Dir}
use Rattle.ll_rights.specs.declared.limits.TheConstants.{DIRECTORY_ENTRIES}
use Rattle.ll_rights.specs.Map.{Map, get}
use Rattle.ll_path.specs.Path.{Path, parent}
use Rattle.ll_seq.specs.declared.facts.Fact.{Fact}
use Rattle.ll_seq.specs.Facts.{AreKept, open_count}
use Rattle.ll_seq.specs.Stages.{has_many_names, has_names, in_the_way, is_crowded}
use Rattle.ll_seq.specs.State.{State, kind_of, name_count, names_in, root}
use Rattle.ll_seq.specs.Tree.{directory_of, named}
use Rattle.ll_seq.proofs.StepParts.{none_first}
use Rattle.ll_seq.proofs.LastNames.{way_leads}
use Rattle.ll_seq.specs.Found.{IsSpot, crowded_at, spot_by, there_at, there_by, there_in}

module _ (s : State) (facts : Map nat_cmp Fact) (kept : AreKept s facts) where
  abbrev fact_by : ℕ → Kind → Fact
  fact_by i k = record { kind = k; names = length (names_in s i); links = name_count s i; opens = open_count s i }

  pub kind_counted : (inode : ℕ) → option_map (λ (fact : Fact). fact.kind) (get facts inode) ≡ kind_of s inode
  kind_counted inode = ap (option_map (λ (fact : Fact). fact.kind)) (kept.told inode) ∙ by (kind_of s inode)
    where
      by : (o : Option Kind) → option_map (λ (fact : Fact). fact.kind) (option_map (fact_by inode) o) ≡ o
      by None = refl
      by (Some kind) = refl

  module _ (inode : ℕ) (kind : Kind) (is : kind_of s inode ≡ Some kind) where
    counted : get facts inode ≡ Some (fact_by inode kind)
    counted = kept.told inode ∙ ap (option_map (fact_by inode)) is

    there_counted : there_at facts inode ≡ Some (there_in s inode)
    there_counted = ap (option_map (there_by inode)) counted ∙ (λ i. Some (record {
      inode = inode;
      kind = unwrap_or (sym is i) Reg;
      has_names = has_names s inode;
      has_many_names = has_many_names s inode;
    }))

    crowded_counted : crowded_at facts inode ≡ is_crowded s inode
    crowded_counted = ap (λ o. option_map_or (λ (fact : Fact). nat_le DIRECTORY_ENTRIES fact.names) o false) counted

  -- what is counted tells where the path's last name stands
  pub spot_counted : kind_of s root ≡ Some Dir → (path : Path) (way : Option Errno) (directory : ℕ) (there : Option ℕ)
      → way ≡ slice_get (in_the_way s (parent path) root) 0 → directory ≡ directory_of s path → there ≡ named s path
      → ((i : ℕ) → named s path ≡ Some i → (kind : Kind) × (kind_of s i ≡ Some kind))
      → IsSpot s path (spot_by facts way directory there)
  spot_counted rooted path way directory there blocked stands names known = record {
    way = blocked;
    stands = λ free.
        let led = way_leads s (parent path) root (none_first (in_the_way s (parent path) root) (sym blocked ∙ free)) in
        record {
          directory = stands;
          crowded = ap (crowded_at facts) stands
              ∙ crowded_counted (directory_of s path) Dir
              (ap (λ o. kind_of s (unwrap_or o 0)) led.1 ∙ led.2 rooted);
          there = ap (option_and_then (there_at facts)) names ∙ there_for (named s path) refl;
        };
  }
    where
      there_for : (o : Option ℕ) → named s path ≡ o → option_and_then (there_at facts) o ≡ option_map (there_in s) o
      there_for None e = refl
      there_for (Some i) e = let kind = known i e in there_counted i kind.0 kind.1
