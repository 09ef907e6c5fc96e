-- What an allowed call of each kind may change.
use Rattle.std.specs.Prelude.{◌≡◌, ◌≢◌, ◌<◌, ℕ, Bool, true, false, not, ◌&&◌, ◌==◌, List, [], ◌++◌, Option, Some, None}
use Rattle.std.specs.Prelude.{is_some, is_none, length, slice_get, unwrap_or, refl}
use Rattle.std.specs.Option.{option_map_or}
use Rattle.std.proofs.Common.{ap, sym, ◌∙◌, arith}
use Rattle.std.proofs.lemmas.Option.{slice_get_within}
use Rattle.ll_rights.specs.declared.errno.Errno.TheVariants.{EISDIR, ENOTDIR, ENOTEMPTY, EMFILE, EMLINK, ENOSPC, EBADF}
use Rattle.ll_rights.specs.Errno.{refuse}
use Rattle.ll_rights.specs.Kind.{is_dir}
use Rattle.ll_path.specs.Path.{Path}
use Rattle.ll_rules.specs.Layer.{Layer}
use Rattle.ll_rules.specs.Rules.{rule_refusals, rule_limit}
use Rattle.ll_decide.specs.Verdict.{when}
use Rattle.ll_seq.proofs.LowestFree.{found_free}
use Rattle.ll_seq.specs.declared.client.ClientRecord.{ClientRecord}
use Rattle.ll_seq.specs.Stages.{crowds, replace_refusals, has_names, has_many_names, is_crowded, no_space, no_ruleset}
use Rattle.ll_seq.specs.Stages.{ruleset_at, lowest_free}
use Rattle.ll_seq.specs.State.{State}
use Rattle.ll_seq.specs.Tree.{named, inode_of, directory_of, kind_at, kind_or_file}
use Rattle.ll_seq.proofs.LastNames.{lacks, holds, has_room, not_refused, stands_there}
use Rattle.ll_seq.proofs.Walked.{one_free, other_free}
use Rattle.ll_seq.specs.declared.changes.At.{At}
use Rattle.ll_seq.specs.declared.changes.Opening.{Opening}
use Rattle.ll_seq.specs.declared.changes.Rule.{Rule}
use Rattle.ll_seq.specs.Effect.{IsPlace, IsEmpty, CanOpen, FitsMove, FitsName, FitsRename, FitsOpening, FitsRule}

-- ---- A name that comes into another directory finds room there

room_there : (missing differ crowded : Bool) → missing ≡ true → refuse (missing && differ && crowded) ENOSPC ≡ []
    → (differ && crowded) ≡ false
room_there true differ crowded none free = not_refused (differ && crowded) ENOSPC free
room_there false differ crowded none free = absurd cc

module _ (s : State) (old new : Path) (from into : At) (inode : ℕ) (left : IsPlace s old from)
    (entered : IsPlace s new into) (there : named s old ≡ Some inode) where
  pub move_fits : named s new ≡ None → crowds s old new ≡ [] → FitsMove s from into inode
  move_fits none free = record {
    old = holds s old from inode left there;
    new = lacks s new into entered none;
    room =
        (λ i. not ((left.dentry i).directory == (entered.dentry i).directory)
        && is_crowded s (entered.dentry i).directory)
        ∙ room_there (is_none (named s new)) (not (directory_of s old == directory_of s new))
        (is_crowded s (directory_of s new)) (ap is_none none) free;
  }

  replaced_empty : (replaced : ℕ) → inode ≢ replaced → replace_refusals s inode replaced ≡ [] → IsEmpty s replaced
  replaced_empty replaced differ free =
      of (inode == replaced) (is_dir (kind_or_file s replaced)) (is_dir (kind_or_file s inode)) (has_names s replaced)
      refl free
    where
      of : (same : Bool) (dir file names : Bool) → (inode == replaced) ≡ same
          → when (not same) (refuse (dir && not file) EISDIR ++ refuse (file && not dir) ENOTDIR
          ++ refuse (dir && names) ENOTEMPTY) ≡ []
          → (dir && names) ≡ false
      of true dir file names e f = absurd (differ (grind arith))
      of false dir file names e f =
          not_refused (dir && names) ENOTEMPTY
          (other_free (refuse (dir && not file) EISDIR ++ refuse (file && not dir) ENOTDIR) _ f)

  -- kinds and limits of a rename
  pub rename_fits : option_map_or (replace_refusals s inode) (named s new) [] ≡ [] → crowds s old new ≡ []
      → (replaced : Option ℕ) → replaced ≡ named s new
      → FitsRename s from into inode replaced
  rename_fits kinds limits None is = move_fits (sym is) limits
  rename_fits kinds limits (Some replaced) is = λ differ. record {
    old = holds s old from inode left there;
    new = holds s new into replaced entered (sym is);
    differ = differ;
    empty = replaced_empty replaced differ (ap (λ o. option_map_or (replace_refusals s inode) o []) is ∙ kinds);
  }

pub link_fits : (s : State) (old new : Path) (into : At) (inode : ℕ) → IsPlace s new into → inode ≡ inode_of s old
    → is_some (named s old) ≡ true → named s new ≡ None
    → refuse (has_many_names s (inode_of s old)) EMLINK ++ refuse (is_crowded s (directory_of s new)) ENOSPC ≡ []
    → FitsName s into inode
link_fits s old new into inode entered is there none free = record {
  lacks = lacks s new into entered none;
  named = (old, stands_there s old inode there is);
  few_names = ap (has_many_names s) is
      ∙ not_refused (has_many_names s (inode_of s old)) EMLINK
      (one_free _ (refuse (is_crowded s (directory_of s new)) ENOSPC) free);
  room = ap (λ d. is_crowded s d.directory) entered.dentry
      ∙ not_refused (is_crowded s (directory_of s new)) ENOSPC
      (other_free (refuse (has_many_names s (inode_of s old)) EMLINK) _ free);
}

-- ---- An opening

free_number : (o : Option ℕ) → is_none o ≡ false → o ≡ Some (unwrap_or o 0)
free_number None e = absurd cc
free_number (Some n) e = refl

can_open : (s : State) (path : Path) (o : Opening) → (named s path ≡ None → IsPlace s path o.at)
    → when (is_none (named s path)) (no_space s (directory_of s path)) ≡ []
    → (x : Option ℕ) → x ≡ named s path → CanOpen s o x
can_open s path o place space None is =
    has_room s path o.at (place (sym is)) (sym is)
    (ap (λ (z : Option ℕ). when (is_none z) (no_space s (directory_of s path))) is ∙ space)
can_open s path o place space (Some inode) is = (path, sym is)

pub opening_fits : (s : State) (c : ClientRecord) (path : Path) (o : Opening)
    → o.number ≡ unwrap_or (lowest_free c.descriptors) 0 → (named s path ≡ None → IsPlace s path o.at)
    → o.there ≡ named s path → refuse (is_none (lowest_free c.descriptors)) EMFILE
    ++ when (is_none (named s path)) (no_space s (directory_of s path)) ≡ []
    → FitsOpening s c o
opening_fits s c path o number place there free =
    let some = free_number (lowest_free c.descriptors)
    (not_refused (is_none (lowest_free c.descriptors)) EMFILE (one_free _ _ free)) ∙ ap Some (sym number) in
    record {
      lowest = some;
      free = found_free c.descriptors o.number some;
      file = can_open s path o place (other_free (refuse (is_none (lowest_free c.descriptors)) EMFILE) _ free) o.there
          there;
    }

-- ---- A rule

made : (rulesets : List Layer) (number : ℕ) → refuse (is_none (slice_get rulesets number)) EBADF ≡ []
    → number < length rulesets
made rulesets number free = of (slice_get rulesets number) refl free
  where
    of : (o : Option Layer) → slice_get rulesets number ≡ o → refuse (is_none o) EBADF ≡ [] → number < length rulesets
    of None e f = absurd cc
    of (Some layer) e f = slice_get_within rulesets number layer e

pub rule_fits : (s : State) (c : ClientRecord) (path : Path) (rule : Rule) → rule.inode ≡ inode_of s path
    → rule.kind ≡ kind_at s path → is_some (named s path) ≡ true
    → no_ruleset c rule.number ≡ []
    → rule_refusals (ruleset_at c rule.number) (kind_at s path) rule.rights.0 ≡ []
    → rule_limit (ruleset_at c rule.number) (inode_of s path) ≡ []
    → FitsRule s c rule
rule_fits s c path rule inode kind there numbers kinds limits = record {
  number = made c.rulesets rule.number numbers;
  named = (path, stands_there s path rule.inode there inode);
  kind = kind ∙ ap (kind_or_file s) (sym inode);
  free = (λ i. rule_refusals (ruleset_at c rule.number) (kind i) rule.rights.0
      ++ rule_limit (ruleset_at c rule.number) (inode i)) ∙ (λ i. kinds i ++ limits i);
}
