-- Stages that are read off their table with any tree, client or paths are the same with every one.
use Rattle.std.specs.Prelude.{◌≡◌, refl}
use Rattle.ll_path.specs.Path.{Path}
use Rattle.ll_seq.specs.declared.client.ClientRecord.{ClientRecord}
use Rattle.ll_seq.specs.declared.call.Call.{Call}
use Rattle.ll_seq.specs.declared.call.Call.TheVariants.{Make, Open, Read, Write, Ftruncate, Close, Truncate, ReadDir}
use Rattle.ll_seq.specs.declared.call.Call.TheVariants.{Stat, Exec, Unlink, Rmdir, Rename, RenameNoreplace, Exchange}
use Rattle.ll_seq.specs.declared.call.Call.TheVariants.{Link, Ruleset, Allow, Confine, Spawn, Connect}
use Rattle.ll_seq.specs.State.{State}
use Rattle.ll_seq.specs.Stages.{stages, number_refusals, relation_refusals}
use Rattle.ll_seq.specs.CallParts.{existence_refusals}

module _ (s : State) (c : ClientRecord) (at new : Path) where
  -- the caller's numbers need neither tree nor path
  pub numbers_of : (call : Call) → (stages s c at new call).numbers ≡ number_refusals c call
  numbers_of (Make kind target) = refl
  numbers_of (Open mode target) = refl
  numbers_of (Read fd offset count) = refl
  numbers_of (Write fd offset bytes) = refl
  numbers_of (Ftruncate fd size) = refl
  numbers_of (Close fd) = refl
  numbers_of (Truncate target size) = refl
  numbers_of (ReadDir target) = refl
  numbers_of (Stat target) = refl
  numbers_of (Exec target) = refl
  numbers_of (Unlink target) = refl
  numbers_of (Rmdir target) = refl
  numbers_of (Rename from into) = refl
  numbers_of (RenameNoreplace from into) = refl
  numbers_of (Exchange from into) = refl
  numbers_of (Link from into) = refl
  numbers_of (Ruleset rights) = refl
  numbers_of (Allow number target rights) = refl
  numbers_of (Confine number) = refl
  numbers_of Spawn = refl
  numbers_of Connect = refl

  -- how the paths lie needs neither tree nor client
  pub relation_of : (call : Call) → (stages s c at new call).relation ≡ relation_refusals call at new
  relation_of (Make kind target) = refl
  relation_of (Open mode target) = refl
  relation_of (Read fd offset count) = refl
  relation_of (Write fd offset bytes) = refl
  relation_of (Ftruncate fd size) = refl
  relation_of (Close fd) = refl
  relation_of (Truncate target size) = refl
  relation_of (ReadDir target) = refl
  relation_of (Stat target) = refl
  relation_of (Exec target) = refl
  relation_of (Unlink target) = refl
  relation_of (Rmdir target) = refl
  relation_of (Rename from into) = refl
  relation_of (RenameNoreplace from into) = refl
  relation_of (Exchange from into) = refl
  relation_of (Link from into) = refl
  relation_of (Ruleset rights) = refl
  relation_of (Allow number target rights) = refl
  relation_of (Confine number) = refl
  relation_of Spawn = refl
  relation_of Connect = refl

  -- whether the last names are there needs no client
  pub existence_of : (call : Call) → (stages s c at new call).existence ≡ existence_refusals s call at new
  existence_of (Make kind target) = refl
  existence_of (Open mode target) = refl
  existence_of (Read fd offset count) = refl
  existence_of (Write fd offset bytes) = refl
  existence_of (Ftruncate fd size) = refl
  existence_of (Close fd) = refl
  existence_of (Truncate target size) = refl
  existence_of (ReadDir target) = refl
  existence_of (Stat target) = refl
  existence_of (Exec target) = refl
  existence_of (Unlink target) = refl
  existence_of (Rmdir target) = refl
  existence_of (Rename from into) = refl
  existence_of (RenameNoreplace from into) = refl
  existence_of (Exchange from into) = refl
  existence_of (Link from into) = refl
  existence_of (Ruleset rights) = refl
  existence_of (Allow number target rights) = refl
  existence_of (Confine number) = refl
  existence_of Spawn = refl
  existence_of Connect = refl
