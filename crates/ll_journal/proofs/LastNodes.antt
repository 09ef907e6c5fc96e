-- Which node a call may change or tell of, and whether it may make one, by where its last name stands.
use Rattle.std.specs.Prelude.{◌≡◌, ℕ, Bool, refl}
use Rattle.std.specs.Ordering.{nat_cmp}
use Rattle.ll_rights.specs.Map.{Map}
use Rattle.ll_seq.specs.Near.{may_make, nodes_of}
use Rattle.ll_seq.specs.declared.found.Found.{Found}
use Rattle.ll_node.specs.declared.held.Held.{Held}
use Rattle.ll_seq.specs.declared.call.Call.{Call}
use Rattle.ll_seq.specs.declared.call.Call.TheVariants.{Make, Open, Read, Write, Ftruncate, Close, Truncate, ReadDir}
use Rattle.ll_seq.specs.declared.call.Call.TheVariants.{Stat, Exec, Unlink, Rmdir, Rename, RenameNoreplace, Exchange}
use Rattle.ll_seq.specs.declared.call.Call.TheVariants.{Link, Ruleset, Allow, Confine, Spawn, Connect}
use Rattle.ll_seq.specs.Call.{second_path}
use Rattle.ll_seq.specs.declared.facts.Fact.{Fact}
use Rattle.ll_journal.specs.Checks.{found_at, found_last, last_found, spot_at}
use Rattle.ll_journal.specs.Needs.{slot_besides}

pub same_nodes : (call : Call) (found : Found)
    → nodes_of call (found_last (last_found call found)) ≡ nodes_of call found
same_nodes (Make kind t) found = refl
same_nodes (Open mode t) found = refl
same_nodes (Read fd offset count) found = refl
same_nodes (Write fd offset bytes) found = refl
same_nodes (Ftruncate fd size) found = refl
same_nodes (Close fd) found = refl
same_nodes (Truncate t size) found = refl
same_nodes (ReadDir t) found = refl
same_nodes (Stat t) found = refl
same_nodes (Exec t) found = refl
same_nodes (Unlink t) found = refl
same_nodes (Rmdir t) found = refl
same_nodes (Rename o n) found = refl
same_nodes (RenameNoreplace o n) found = refl
same_nodes (Exchange o n) found = refl
same_nodes (Link o n) found = refl
same_nodes (Ruleset rights) found = refl
same_nodes (Allow rs t rights) found = refl
same_nodes (Confine rs) found = refl
same_nodes Spawn found = refl
same_nodes Connect found = refl

pub same_made : (call : Call) (found : Found) → may_make call (found_last (last_found call found)) ≡ may_make call found
same_made (Make kind t) found = refl
same_made (Open mode t) found = refl
same_made (Read fd offset count) found = refl
same_made (Write fd offset bytes) found = refl
same_made (Ftruncate fd size) found = refl
same_made (Close fd) found = refl
same_made (Truncate t size) found = refl
same_made (ReadDir t) found = refl
same_made (Stat t) found = refl
same_made (Exec t) found = refl
same_made (Unlink t) found = refl
same_made (Rmdir t) found = refl
same_made (Rename o n) found = refl
same_made (RenameNoreplace o n) found = refl
same_made (Exchange o n) found = refl
same_made (Link o n) found = refl
same_made (Ruleset rights) found = refl
same_made (Allow rs t rights) found = refl
same_made (Confine rs) found = refl
same_made Spawn found = refl
same_made Connect found = refl

-- in the directory of the second path's leg
module _ (places : Map nat_cmp ℕ) (spare : ℕ) (facts : Map nat_cmp Fact) (full : Bool) (here : Held) where
  pub same_besides : (call : Call)
      → slot_besides places spare call (found_last (spot_at facts here (second_path call)))
      ≡ slot_besides places spare call (found_at facts full here here call)
  same_besides (Make kind t) = refl
  same_besides (Open mode t) = refl
  same_besides (Read fd offset count) = refl
  same_besides (Write fd offset bytes) = refl
  same_besides (Ftruncate fd size) = refl
  same_besides (Close fd) = refl
  same_besides (Truncate t size) = refl
  same_besides (ReadDir t) = refl
  same_besides (Stat t) = refl
  same_besides (Exec t) = refl
  same_besides (Unlink t) = refl
  same_besides (Rmdir t) = refl
  same_besides (Rename o n) = refl
  same_besides (RenameNoreplace o n) = refl
  same_besides (Exchange o n) = refl
  same_besides (Link o n) = refl
  same_besides (Ruleset rights) = refl
  same_besides (Allow rs t rights) = refl
  same_besides (Confine rs) = refl
  same_besides Spawn = refl
  same_besides Connect = refl
