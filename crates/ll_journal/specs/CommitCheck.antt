-- Why a commit isn't made, or what it finds. No public contract cites it. own
use Rattle.ll_rights.specs.declared.errno.Errno.{Errno}
use Rattle.ll_seq.specs.declared.found.Found.{Found}
use Rattle.ll_journal.specs.declared.check_commit.Stop.{Stop}
use Rattle.ll_journal.specs.declared.check_commit.Stop.TheVariants as code

-- What the code returns in two parts. NotNow: not yet. Astray: other slots are lent than it may need. Blocked: the leg
-- in turn can't go on, which is the refusal. Reached: each branch is at its end, and this is found there
pub data CommitCheck : Type 0 where
  NotNow : CommitCheck
  Astray : CommitCheck
  Blocked : (errno : Errno) → CommitCheck
  Reached : (found : Found) → CommitCheck

-- with `found` as what is found
abbrev pub check_of : Stop → Found → CommitCheck
check_of code.NotNow found = NotNow
check_of code.Astray found = Astray
check_of (code.Blocked errno) found = Blocked errno
check_of code.Reached found = Reached found
