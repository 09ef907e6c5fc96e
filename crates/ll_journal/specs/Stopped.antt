-- What each reason for stopping a commit means. No public contract cites it. own
use Rattle.std.specs.Prelude.{◌≡◌, ◌≢◌, ℕ, true, List, Some, None}
use Rattle.ll_rights.specs.declared.errno.Errno.{Errno}
use Rattle.ll_rights.specs.declared.kind.Kind.TheVariants.{Dir}
use Rattle.ll_rights.specs.Map.{get}
use Rattle.ll_path.specs.Path.{Path, parent}
use Rattle.ll_seq.specs.Found.{AreFacts}
use Rattle.ll_seq.specs.Near.{nodes_of, may_make}
use Rattle.ll_seq.specs.declared.found.Found.{Found}
use Rattle.ll_seq.specs.declared.found.Spot.{Spot}
use Rattle.ll_seq.specs.declared.reply.Reply.TheVariants.{Refused}
use Rattle.ll_seq.specs.Call.{first_path, second_path}
use Rattle.ll_seq.specs.State.{State, kind_of}
use Rattle.ll_seq.specs.Tree.{named, ancestors}
use Rattle.ll_laws.specs.Commits.{first_end, second_end}
use Rattle.ll_laws.specs.Walk.{Walk, Leg, is_in, marks}
use Rattle.ll_laws.specs.World as world
use Rattle.ll_laws.specs.World.{advance, shown, may_commit, reply_to}
use Rattle.ll_laws.specs.declared.step.Step.TheVariants.{Commit}
use Rattle.ll_journal.specs.CommitCheck.{CommitCheck}
use Rattle.ll_journal.specs.CommitCheck as stops
use Rattle.ll_journal.specs.Book.{Book}
use Rattle.ll_journal.specs.WalkEnds.{IsAstrayAtEnd, is_lent, spare_of}

-- the client's walk may be answered, and the directories where it is are lent
pub record MayEnd (b : Book) (number : ℕ) (slots : List ℕ) (walk : Walk) : Type 0 where
  pub is : get b.world.walks number ≡ Some walk
  pub may : may_commit b.world number walk ≡ true
  pub marked : (inode : ℕ) → marks walk inode ≡ true → is_lent b slots inode ≡ true

pub record IsBlockedEnd (b : Book) (number : ℕ) (slots : List ℕ) (errno : Errno) : Type 0 where
  pub walk : Walk
  pub ends : MayEnd b number slots walk
  pub reply : reply_to b.world number walk.call ≡ Refused errno

-- the leg is in the directory of the path's last name, and this is found there
pub record IsEndOf (s : State) (path : Path) (spot : Spot) (leg : Leg) : Type 0 where
  pub way : spot.way ≡ None
  pub here : spot.directory ≡ leg.here
  pub names : named s (parent path) ≡ Some leg.here
  pub directory : kind_of s leg.here ≡ Some Dir
  pub chain : leg.chain ≡ ancestors s (parent path)

pub record IsReachedEnd (b : Book) (number : ℕ) (slots : List ℕ) (found : Found) : Type 0 where
  pub walk : Walk
  pub ends : MayEnd b number slots walk
  pub first : Leg
  pub second : Leg
  pub first_is : first_end walk.at ≡ Some first
  pub second_is : second_end walk.at ≡ Some second
  pub old : IsEndOf (shown b.world) (first_path walk.call) found.first first
  pub new : IsEndOf (shown b.world) (second_path walk.call) found.second second
  pub facts : AreFacts (shown b.world) walk.call found
  pub nodes : (inode : ℕ) → is_in (nodes_of walk.call found) inode ≡ true → inode ≢ 0 → is_lent b slots inode ≡ true
  pub spare : may_make walk.call found ≡ true → is_in slots (spare_of b number) ≡ true

abbrev pub IsStop : Book → ℕ → List ℕ → CommitCheck → Type 0
IsStop b number slots stops.NotNow = advance b.world (Commit number) ≡ (world.NotNow, b.world)
IsStop b number slots stops.Astray = IsAstrayAtEnd b number slots
IsStop b number slots (stops.Blocked errno) = IsBlockedEnd b number slots errno
IsStop b number slots (stops.Reached found) = IsReachedEnd b number slots found
