-- The rights that a call needs of each layer. `at` and `new` are a call's first path and its second
use Rattle.std.specs.Prelude.{ℕ, Bool, not, List, [], ◌∷◌, ◌++◌, Option, is_some, ◌==◌, ◌&&◌, option_map}
use Rattle.std.specs.Prelude.{option_and_then, option_to_list}
use Rattle.ll_rights.specs.Kind.{make_right, remove_right, relevant}
use Rattle.ll_rights.specs.Map.{get}
use Rattle.ll_rights.specs.Right as right
use Rattle.ll_path.specs.Path.{Path, parent}
use Rattle.ll_rules.specs.Layer.{Layer, grants_on}
use Rattle.ll_decide.specs.declared.denial.Cause.TheVariants.{EACCES}
use Rattle.ll_decide.specs.declared.denial.Denial.{Denial}
use Rattle.ll_decide.specs.declared.denial.Place.{Place}
use Rattle.ll_decide.specs.declared.denial.Place.TheVariants.{At, Old, New}
use Rattle.ll_decide.specs.Verdict.{Ask, Move, when, all_denials, verdict}
use Rattle.ll_seq.specs.declared.client.ClientRecord.{ClientRecord}
use Rattle.ll_seq.specs.declared.client.Descriptor.{Descriptor}
use Rattle.ll_seq.specs.declared.call.Mode.{Mode}
use Rattle.ll_seq.specs.declared.call.Call.{Call}
use Rattle.ll_seq.specs.declared.call.Call.TheVariants.{Make, Open, Read, Write, Ftruncate, Close, Truncate, ReadDir}
use Rattle.ll_seq.specs.declared.call.Call.TheVariants.{Stat, Exec, Unlink, Rmdir, Rename, RenameNoreplace, Exchange}
use Rattle.ll_seq.specs.declared.call.Call.TheVariants.{Link, Ruleset, Allow, Confine, Spawn, Connect}
use Rattle.ll_seq.specs.Call.{reads, writes, first_path, second_path}
use Rattle.ll_seq.specs.State.{State}
use Rattle.ll_seq.specs.Tree.{ancestors, named, directory_of, kind_at}

abbrev pub ask : Path → ℕ → Place → List (Ask Path)
ask path right place = record { path = path; right = right; place = place } ∷ []

-- the rights that an opening needs. A missing file is created (a right on its directory) and isn't truncated
abbrev pub opening_asked : Mode → Path → Bool → List (Ask Path)
opening_asked mode path exists =
    when (not exists) (ask (parent path) right.make_reg At)
    ++ when (reads mode.access) (ask path right.read_file At)
    ++ when (writes mode.access) (ask path right.write_file At)
    ++ when (mode.truncate && exists) (ask path right.truncate At)

module _ (s : State) where
  -- a layer grants a right on a path by the rules of the inodes on it. landlock.rst, "Landlock rules"
  abbrev pub grants : Layer → Path → ℕ → Bool
  grants layer path right = grants_on layer (ancestors s path) right

  abbrev pub parents_differ : Path → Path → Bool
  parents_differ old new = not (directory_of s old == directory_of s new)

  -- leaves: the node at the path loses this name. enters: a node of its kind gets a name in the other path's directory
  abbrev pub leaves : Path → Place → List (Ask Path)
  leaves path place = ask (parent path) (remove_right (kind_at s path)) place

  abbrev pub enters : Path → Path → Place → List (Ask Path)
  enters path other place = ask (parent other) (make_right (kind_at s path)) place

  -- refer is needed on both directories if they differ. linux/landlock.h, LANDLOCK_ACCESS_FS_REFER
  abbrev pub refers : Path → Path → List (Ask Path)
  refers old new = when (parents_differ old new) (ask (parent old) right.refer Old ++ ask (parent new) right.refer New)

  abbrev pub goes : Path → Path → Place → List (Move Path)
  goes from into place = when (parents_differ from into)
      (record { from = from; into = parent into; relevant = relevant (kind_at s from); place = place } ∷ [])

  module _ (at new : Path) where
    -- the rights that a call needs, and the nodes that it moves. linux/landlock.h, "Filesystem flags"
    abbrev pub demanded : Call → List (Ask Path) × List (Move Path)
    demanded (Make kind target) = (ask (parent at) (make_right kind) At, [])
    demanded (Open mode target) = (opening_asked mode at (is_some (named s at)), [])
    demanded (Read fd offset count) = ([], [])
    demanded (Write fd offset bytes) = ([], [])
    demanded (Ftruncate fd size) = ([], [])
    demanded (Close fd) = ([], [])
    demanded (Truncate target size) = (ask at right.truncate At, [])
    demanded (ReadDir target) = (ask at right.read_dir At, [])
    demanded (Stat target) = ([], [])
    demanded (Exec target) = (ask at right.execute At ++ ask at right.read_file At, [])
    demanded (Unlink target) = (ask (parent at) right.remove_file At, [])
    demanded (Rmdir target) = (ask (parent at) right.remove_dir At, [])
    demanded (Rename from into) = (
      leaves at Old ++ enters at new New ++ when (is_some (named s new)) (leaves new New) ++ refers at new,
      goes at new New,
    )
    demanded (RenameNoreplace from into) = (leaves at Old ++ enters at new New ++ refers at new, goes at new New)
    demanded (Exchange from into) = (
      leaves at Old ++ enters new at Old ++ enters at new New ++ leaves new New ++ refers at new,
      goes at new New ++ goes new at Old,
    )
    demanded (Link from into) = (enters at new New ++ refers at new, goes at new New)
    demanded (Ruleset rights) = ([], [])
    demanded (Allow number target rights) = ([], [])
    demanded (Confine number) = ([], [])
    demanded Spawn = ([], [])
    demanded Connect = ([], [])

  -- The layers decide at the time of the call, except for ftruncate: there they decided at the opening. landlock.rst,
  -- "Truncating files"
  abbrev pub call_denials : ClientRecord → Call → List Denial
  call_denials c (Ftruncate fd size) =
      option_to_list (option_map
      (λ (layer : ℕ). record { cause = EACCES; layer = layer; right = right.truncate; place = At })
      (option_and_then (λ (d : Descriptor). d.kept) (get c.descriptors fd)))
  call_denials c call =
      let demand = demanded (first_path call) (second_path call) call in all_denials grants c.domain demand.0 demand.1

  -- the layer that would deny truncate, which an opening keeps
  abbrev pub kept_at : List Layer → Path → Option ℕ
  kept_at layers path =
      option_map (λ (d : Denial). d.layer) (verdict grants layers (ask path right.truncate At) [])
