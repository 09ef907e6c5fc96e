-- Which rights all layers of a client grant on a path. own
use Rattle.std.specs.Prelude.{◌≡◌, ◌≢◌, ℕ, ◌<◌, ◌≤◌, ◌^◌, ◌&&◌, List, Option, Some, None, option_and_then}
use Rattle.std.specs.List.{AllZip, list_all}
use Rattle.ll_rights.specs.declared.kind.Kind.{Kind}
use Rattle.ll_rights.specs.declared.kind.Kind.TheVariants.{Dir, Reg}
use Rattle.ll_rights.specs.Access.{holds}
use Rattle.ll_rights.specs.Kind.{relevant}
use Rattle.ll_path.specs.Path.{Path, parent}
use Rattle.ll_rules.specs.Layer.{Layer, grants_on}
use Rattle.ll_seq.specs.Asked.{grants}
use Rattle.ll_seq.specs.State.{State, kind_of}
use Rattle.ll_seq.specs.Tree.{ancestors, named}
use Rattle.ll_why.specs.Grants.{AreGrants}
use Rattle.ll_why.specs.declared.rights.PathRights.{PathRights}
use Rattle.ll_why.specs.declared.rights.RightsAt.{RightsAt}
use Rattle.ll_why.specs.declared.rights.RightsAt.TheVariants.{Node, New, Nowhere}

-- the kind of the node that the path leads to
abbrev pub kind_named : State → Path → Option Kind
kind_named s path = option_and_then (kind_of s) (named s path)

-- the rights that apply to a node of this kind; without a node, none
abbrev pub meant : Option Kind → ℕ
meant None = 0
meant (Some kind) = relevant kind

-- the rights that these layers grant, of some, on a path with these inodes: all layers together, and each alone
pub record AreByLayers (domain : List Layer) (inodes : List ℕ) (all : ℕ) (told : PathRights) : Type 0 where
  pub fewer : told.rights.0 ≤ all
  pub rights : (right : ℕ) → right < 15 → holds told.rights.0 right
      ≡ (holds all right && list_all (λ layer. grants_on layer inodes right) domain)
  pub layers : AllZip (λ g layer. AreGrants layer inodes all g) told.layers.items domain

-- The rights that apply to a node of this kind and that every layer grants on the path, as far as it exists; and those
-- that each layer grants
pub record AreRightsOf (s : State) (domain : List Layer) (path : Path) (kind : Kind) (told : PathRights) : Type 0 where
  pub is : told.kind ≡ kind
  pub known : told.rights.0 < 2 ^ 15
  pub rights : (right : ℕ) → right < 15 → holds told.rights.0 right
      ≡ (holds (relevant kind) right && list_all (λ layer. grants s layer path right) domain)
  pub layers : AllZip (λ g layer. AreGrants layer (ancestors s path) (relevant kind) g) told.layers.items domain

-- The rights on the path's node. If there is none: those on a new file and a new directory, which have their
-- directory's rules and none of their own; or what the path has in place of a directory
abbrev pub AreRightsAt : State → List Layer → Path → RightsAt → Type 0
AreRightsAt s domain path (Node told) =
    (kind : Kind) × (kind_named s path ≡ Some kind) × AreRightsOf s domain path kind told
AreRightsAt s domain path (New file directory) =
    (kind_named s path ≡ None) × (kind_named s (parent path) ≡ Some Dir)
    × AreRightsOf s domain path Reg file × AreRightsOf s domain path Dir directory
AreRightsAt s domain path (Nowhere kind) =
    (kind_named s path ≡ None) × (kind_named s (parent path) ≡ kind) × (kind ≢ Some Dir)
