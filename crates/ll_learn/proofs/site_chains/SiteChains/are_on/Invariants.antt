use Rattle.std.proofs.Common.{◌≡◌, ◌<◌, ◌++◌, ◌∷◌, [], ℕ, List, true, length}
use Rattle.ll_seq.specs.State.{State}
use Rattle.ll_learn.specs.Draft.{may_have}
use Rattle.ll_learn.specs.Mended.{AreSiteChains, IsPathTo}
use Rattle.ll_learn.proofs.site_chains.SiteChains.are_on.Given as goal

-- so far
abbrev pub invariant-loop-i : goal.invariant-loop-i
invariant-loop-i l = (s : State) → AreSiteChains s l.self → (front behind : List ℕ) (inode right : ℕ)
    → l.inodes ≡ front ++ inode ∷ behind → length front < l.i → right < 15 → may_have l.scope right inode ≡ true
    → IsPathTo s inode (front ++ inode ∷ [])
