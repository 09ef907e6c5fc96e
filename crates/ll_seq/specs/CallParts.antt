-- The parts of a call: what refuses it, the rights that it needs, and its effect. Cited by contracts between crates
-- alone. own
use Rattle.std.specs.Prelude.{ℕ, Bool, false, List, Option, is_none, if◌then◌else◌}
use Rattle.std.specs.Option.{option_map_or}
use Rattle.ll_rights.specs.declared.kind.Kind.{Kind}
use Rattle.ll_rights.specs.declared.kind.Kind.TheVariants.{Reg}
use Rattle.ll_rights.specs.Kind.{relevant}
use Rattle.ll_rights.specs.Access.{holds}
use Rattle.ll_rights.specs.declared.errno.Errno.{Errno}
use Rattle.ll_rights.specs.declared.errno.Errno.TheVariants.{EINVAL, ENXIO}
use Rattle.ll_path.specs.Path.{Path}
use Rattle.ll_decide.specs.Verdict.{Ask, Move}
use Rattle.ll_seq.specs.declared.client.ClientRecord.{ClientRecord}
use Rattle.ll_seq.specs.declared.client.Descriptor.{Descriptor}
use Rattle.ll_seq.specs.declared.call.Mode.{Mode}
use Rattle.ll_seq.specs.declared.call.Call.{Call}
use Rattle.ll_seq.specs.declared.reply.Reply.{Reply}
use Rattle.ll_seq.specs.Call.{reads, writes, first_path, second_path}
use Rattle.ll_seq.specs.State.{State, new_client}
use Rattle.ll_seq.specs.Tree.{named, inode_of}
use Rattle.ll_seq.specs.Asked.{demanded, kept_at}
use Rattle.ll_seq.specs.Stages.{no_file, stages}
use Rattle.ll_seq.specs.Effects.{with_client, with_name, with_node, with_opened, emptied, dentry_of, effect}

abbrev pub not_to_open : Kind → List Errno
not_to_open = no_file ENXIO

abbrev pub not_to_truncate : Kind → List Errno
not_to_truncate = no_file EINVAL

abbrev pub is_relevant : Option Kind → ℕ → Bool
is_relevant kind right = option_map_or (λ kind. holds (relevant kind) right) kind false

module _ (s : State) where
  -- looks at no client
  abbrev pub existence_refusals : Call → Path → Path → List Errno
  existence_refusals call at new = (stages s new_client at new call).existence

  abbrev pub kind_refusals : ClientRecord → Call → Path → Path → List Errno
  kind_refusals c call at new = (stages s c at new call).kinds

  abbrev pub limit_refusals : ClientRecord → Call → Path → Path → List Errno
  limit_refusals c call at new = (stages s c at new call).limits

  abbrev pub asked : Call → List (Ask Path)
  asked call = (demanded s (first_path call) (second_path call) call).0

  abbrev pub moved : Call → List (Move Path)
  moved call = (demanded s (first_path call) (second_path call) call).1

  abbrev pub opened : ClientRecord → Mode → Path → ℕ → Descriptor
  opened c mode path inode = record
      { inode = inode; reads = reads mode.access; writes = writes mode.access; kept = kept_at s c.domain path }

  abbrev pub exchanged : Path → Path → State
  exchanged old new = with_name (with_name s (dentry_of s new) (inode_of s old)) (dentry_of s old) (inode_of s new)

  abbrev pub after_opening : ℕ → ClientRecord → Mode → Path → State
  after_opening number c mode path =
      if is_none (named s path)
      then with_client (with_node s Reg (dentry_of s path)) number (with_opened s c mode path s.next)
      else with_client (emptied s mode (inode_of s path)) number (with_opened s c mode path (inode_of s path))

  abbrev pub done : ℕ → ClientRecord → Call → Path → Path → ℕ → Reply × State
  done number c call at new fresh = effect s number c at new fresh call
