-- When a call is refused, policy aside. Each stage lists the refusals that hold, and the first of all is reported. The
-- order is own. `at` and `new` are a call's first path and its second
use Rattle.std.specs.Prelude.{ℕ, zero, suc, ◌+◌, Bool, true, false, not, ◌||◌, List, [], ◌∷◌, ◌++◌, length, Option}
use Rattle.std.specs.Prelude.{Some, None, nat_lt, nat_le, is_some, is_none, unwrap_or, option_and_then, slice_get, find}
use Rattle.std.specs.Prelude.{◌==◌, ◌&&◌}
use Rattle.std.specs.List.{flat_map}
use Rattle.std.specs.Option.{option_map_or}
use Rattle.std.specs.Ordering.{nat_cmp}
use Rattle.ll_rights.specs.declared.kind.Kind.{Kind}
use Rattle.ll_rights.specs.declared.kind.Kind.TheVariants.{Reg, Dir, Sym}
use Rattle.ll_rights.specs.declared.errno.Errno.{Errno}
use Rattle.ll_rights.specs.declared.errno.Errno.TheVariants.{ENOENT, EEXIST, ENOTDIR, EISDIR, ENOTEMPTY, EINVAL, EBUSY}
use Rattle.ll_rights.specs.declared.errno.Errno.TheVariants.{EBADF, EMFILE, EMLINK, ENOSPC, EPERM, EFBIG, ELOOP, ENXIO}
use Rattle.ll_rights.specs.declared.limits.TheConstants.{DATA_BYTES, DIRECTORY_ENTRIES, NODE_NAMES, FILE_BYTES}
use Rattle.ll_rights.specs.declared.limits.TheConstants.{CLIENT_DESCRIPTORS, CLIENT_RULESETS, TREE_CLIENTS}
use Rattle.ll_rights.specs.Errno.{refuse}
use Rattle.ll_rights.specs.Kind.{is_dir}
use Rattle.ll_rights.specs.Map.{Map, get, has, len}
use Rattle.ll_path.specs.Path.{Path, parent, is_root, is_beneath}
use Rattle.ll_path.specs.declared.target.Target.{Target}
use Rattle.ll_path.specs.declared.target.Target.TheVariants.{Good, Bad}
use Rattle.ll_rules.specs.Layer.{Layer}
use Rattle.ll_decide.specs.Verdict.{when}
use Rattle.ll_rules.specs.Rules.{create_refusals, new_ruleset, rule_refusals, rule_limit, layer_limit}
use Rattle.ll_seq.specs.declared.client.ClientRecord.{ClientRecord}
use Rattle.ll_seq.specs.declared.client.Descriptor.{Descriptor}
use Rattle.ll_seq.specs.declared.call.Call.{Call}
use Rattle.ll_seq.specs.declared.call.Call.TheVariants.{Make, Open, Read, Write, Ftruncate, Close, Truncate, ReadDir}
use Rattle.ll_seq.specs.declared.call.Call.TheVariants.{Stat, Exec, Unlink, Rmdir, Rename, RenameNoreplace, Exchange}
use Rattle.ll_seq.specs.declared.call.Call.TheVariants.{Link, Ruleset, Allow, Confine, Spawn, Connect}
use Rattle.ll_seq.specs.Call.{creates, first_path, is_exclusive, path_of, second_path, targets}
use Rattle.ll_seq.specs.State.{State, child, kind_of, names_in, name_count, new_client, root, start}
use Rattle.ll_seq.specs.Tree.{named, inode_of, directory_of, kind_or_file, kind_at}

-- The stages of refusals: the caller's numbers; how the paths relate; (here comes the walk;) whether the last names
-- exist; (here comes policy;) kinds; limits
pub record Stages : Type 0 where
  pub numbers : List Errno
  pub relation : List Errno
  pub existence : List Errno
  pub kinds : List Errno
  pub limits : List Errno

abbrev pub nothing : Stages
nothing = record { numbers = []; relation = []; existence = []; kinds = []; limits = [] }

abbrev pub bad_text : Target → List Errno
bad_text (Good path) = []
bad_text (Bad word) = word.errno ∷ []

abbrev pub text_refusals : Call → List Errno
text_refusals call = flat_map bad_text (targets call)

-- the descriptor doesn't exist, or doesn't allow this. read(2), write(2), close(2): EBADF; ftruncate(2): EINVAL
abbrev pub without : ClientRecord → ℕ → (Descriptor → Bool) → Errno → List Errno
without c fd allows errno =
    refuse (is_none (get c.descriptors fd)) EBADF
    ++ refuse (not (option_map_or allows (get c.descriptors fd) true)) errno

abbrev pub no_ruleset : ClientRecord → ℕ → List Errno
no_ruleset c number = refuse (is_none (slice_get c.rulesets number)) EBADF

abbrev pub ruleset_at : ClientRecord → ℕ → Layer
ruleset_at c number = unwrap_or (slice_get c.rulesets number) (new_ruleset 0)

-- neither path is the root, and neither is below the other. rename(2), link(2)
abbrev pub lying : Path → Path → Errno → List Errno
lying old new above =
    refuse (is_root old || is_root new) EBUSY ++ refuse (is_beneath old new) EINVAL ++ refuse (is_beneath new old) above

-- what isn't a directory. path_resolution(7): ENOENT, ENOTDIR; openat2(2), RESOLVE_NO_SYMLINKS: ELOOP
abbrev pub no_directory : Option Kind → List Errno
no_directory None = ENOENT ∷ []
no_directory (Some Dir) = []
no_directory (Some Sym) = ELOOP ∷ []
no_directory (Some _) = ENOTDIR ∷ []

-- what isn't a regular file. open(2): EISDIR, ELOOP (O_NOFOLLOW), ENXIO; truncate(2): EISDIR, EINVAL
abbrev pub no_file : Errno → Kind → List Errno
no_file other Reg = []
no_file other Dir = EISDIR ∷ []
no_file other Sym = ELOOP ∷ []
no_file other _ = other ∷ []

-- a file's limit. truncate(2), write(2): EFBIG
abbrev pub is_too_long : ℕ → Bool
is_too_long size = nat_lt FILE_BYTES size

unfoldable pub numbers_from : ℕ → ℕ → List ℕ
numbers_from k zero = []
numbers_from k (suc n) = k ∷ numbers_from (suc k) n

-- the lowest-numbered descriptor that is free. open(2)
abbrev pub lowest_free : Map nat_cmp Descriptor → Option ℕ
lowest_free descriptors = find (λ fd. not (has descriptors fd)) (numbers_from 0 CLIENT_DESCRIPTORS)

module _ (s : State) where
  abbrev pub kind_of_child : Option ℕ → Option Kind
  kind_of_child = option_and_then (kind_of s)

  -- the obstacle at each name, starting from an inode
  abbrev pub in_the_way : Path → ℕ → List Errno
  in_the_way [] inode = []
  in_the_way (name ∷ path) inode =
      no_directory (kind_of_child (child s inode name)) ++ option_map_or (in_the_way path) (child s inode name) []

  -- the obstacles on the way to the parent, where the walk goes
  abbrev pub way_to : Target → List Errno
  way_to target = in_the_way (parent (path_of target)) root

  abbrev pub walk_refusals : Call → List Errno
  walk_refusals call = flat_map way_to (targets call)

  -- the path doesn't exist. open(2): ENOENT
  abbrev pub missing : Path → List Errno
  missing path = refuse (is_none (named s path)) ENOENT

  -- the path exists. mknod(2), link(2), renameat2(2), open(2) with O_EXCL: EEXIST
  abbrev pub present : Path → List Errno
  present path = refuse (is_some (named s path)) EEXIST

  abbrev pub has_names : ℕ → Bool
  has_names directory = nat_lt 0 (length (names_in s directory))

  -- of a name whose node is replaced by another. rename(2)
  abbrev pub replace_refusals : ℕ → ℕ → List Errno
  replace_refusals inode replaced = when (not (inode == replaced)) (
      refuse (is_dir (kind_or_file s replaced) && not (is_dir (kind_or_file s inode))) EISDIR
      ++ refuse (is_dir (kind_or_file s inode) && not (is_dir (kind_or_file s replaced))) ENOTDIR
      ++ refuse (is_dir (kind_or_file s replaced) && has_names replaced) ENOTEMPTY)

  abbrev pub is_crowded : ℕ → Bool
  is_crowded directory = nat_le DIRECTORY_ENTRIES (length (names_in s directory))

  abbrev pub no_space : ℕ → List Errno
  no_space directory = refuse (is_crowded directory || nat_le s.room (len s.nodes)) ENOSPC

  -- the node has as many names as it may. link(2): EMLINK
  abbrev pub has_many_names : ℕ → Bool
  has_many_names inode = nat_le NODE_NAMES (name_count s inode)

  -- a rename that replaces nothing adds an entry to another directory, which is full
  abbrev pub crowds : Path → Path → List Errno
  crowds old new = refuse
      (is_none (named s new) && not (directory_of s old == directory_of s new) && is_crowded (directory_of s new))
      ENOSPC

  abbrev pub many_clients : List Errno
  many_clients = refuse (nat_le TREE_CLIENTS (len s.clients)) EMFILE

  module _ (c : ClientRecord) (at new : Path) where
    abbrev pub here : ℕ
    here = inode_of s at

    abbrev pub its_kind : Kind
    its_kind = kind_at s at

    -- A stage that isn't listed refuses nothing. opendir(3), unlink(2), rmdir(2), link(2), landlock_create_ruleset(2),
    -- landlock_add_rule(2), landlock_restrict_self(2)
    abbrev pub stages : Call → Stages
    stages (Make kind target) = record nothing {
      relation = refuse (is_root at) EBUSY;
      existence = present at;
      limits = no_space (directory_of s at);
    }
    stages (Open mode target) = record nothing {
      existence = when (not (creates mode.creation)) (missing at) ++ when (is_exclusive mode.creation) (present at);
      kinds = when (is_some (named s at)) (no_file ENXIO its_kind);
      limits = refuse (is_none (lowest_free c.descriptors)) EMFILE
          ++ when (is_none (named s at)) (no_space (directory_of s at));
    }
    stages (Read fd offset count) = record nothing {
      numbers = refuse (nat_lt DATA_BYTES count) EINVAL ++ without c fd (λ d. d.reads) EBADF;
    }
    stages (Write fd offset bytes) = record nothing {
      numbers = without c fd (λ d. d.writes) EBADF;
      limits = refuse (nat_lt 0 (length bytes) && is_too_long (offset + length bytes)) EFBIG;
    }
    stages (Ftruncate fd size) = record nothing {
      numbers = without c fd (λ d. d.writes) EINVAL;
      limits = refuse (is_too_long size) EFBIG;
    }
    stages (Close fd) = record nothing { numbers = refuse (is_none (get c.descriptors fd)) EBADF }
    stages (Truncate target size) = record nothing {
      existence = missing at;
      kinds = no_file EINVAL its_kind;
      limits = refuse (is_too_long size) EFBIG;
    }
    stages (ReadDir target) = record nothing {
      existence = missing at;
      kinds = refuse (not (is_dir its_kind)) ENOTDIR;
    }
    stages (Stat target) = record nothing { existence = missing at }
    stages (Exec target) = record nothing { existence = missing at; kinds = no_file ENXIO its_kind }
    stages (Unlink target) = record nothing {
      relation = refuse (is_root at) EBUSY;
      existence = missing at;
      kinds = refuse (is_dir its_kind) EISDIR;
    }
    stages (Rmdir target) = record nothing {
      relation = refuse (is_root at) EBUSY;
      existence = missing at;
      kinds = refuse (not (is_dir its_kind)) ENOTDIR ++ refuse (has_names here) ENOTEMPTY;
    }
    stages (Rename from into) = record nothing {
      relation = lying at new ENOTEMPTY;
      existence = missing at;
      kinds = option_map_or (replace_refusals here) (named s new) [];
      limits = crowds at new;
    }
    stages (RenameNoreplace from into) = record nothing {
      relation = lying at new EEXIST;
      existence = missing at ++ present new;
      limits = crowds at new;
    }
    stages (Exchange from into) = record nothing {
      relation = lying at new EINVAL;
      existence = missing at ++ missing new;
    }
    stages (Link from into) = record nothing {
      relation = lying at new EEXIST;
      existence = missing at ++ present new;
      kinds = refuse (is_dir its_kind) EPERM;
      limits = refuse (has_many_names here) EMLINK ++ refuse (is_crowded (directory_of s new)) ENOSPC;
    }
    stages (Ruleset rights) = record nothing {
      kinds = create_refusals s.rules.abi rights.0;
      limits = refuse (nat_le CLIENT_RULESETS (length c.rulesets)) EMFILE;
    }
    stages (Allow number target rights) = record nothing {
      numbers = no_ruleset c number;
      existence = missing at;
      kinds = rule_refusals (ruleset_at c number) its_kind rights.0;
      limits = rule_limit (ruleset_at c number) here;
    }
    stages (Confine number) = record nothing { numbers = no_ruleset c number; limits = layer_limit c.domain }
    stages Spawn = record nothing { limits = many_clients }
    stages Connect = record nothing { limits = many_clients }

-- Some stages ignore the tree, the client or the paths, so any can be given here
abbrev pub any_tree : State
any_tree = start (record { abi = 1; copies = false }) 1

abbrev pub number_refusals : ClientRecord → Call → List Errno
number_refusals c call = (stages any_tree c [] [] call).numbers

abbrev pub relation_refusals : Call → Path → Path → List Errno
relation_refusals call at new = (stages any_tree new_client at new call).relation

-- the refusals of the first three stages, which depend on neither the tree nor the layers
abbrev pub early_refusals : ClientRecord → Call → List Errno
early_refusals c call =
    text_refusals call ++ number_refusals c call ++ relation_refusals call (first_path call) (second_path call)
