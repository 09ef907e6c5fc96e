-- Where an inode's slot is found among those lent.
use Rattle.std.specs.Prelude.{◌≡◌, ◌≢◌, ℕ, suc, ◌<◌, List, [], ◌∷◌, length, Option, Some, None, IfSome, IfNone}
use Rattle.std.specs.Prelude.{slice_get}
use Rattle.std.specs.Option.{MatchOption}
use Rattle.std.specs.List.{AllWithin, HoldsAt}
use Rattle.std.proofs.Common.{arith}
use Rattle.std.proofs.Math.ListN.{get_or}
use Rattle.std.proofs.lemmas.Option.{slice_get-get_or}
use Rattle.ll_node.specs.declared.held.Held.{Held}
use Rattle.ll_node.specs.Lent.{Misses, vacant}

-- the first place of the inode, or none has it
abbrev pub IsPlace : ℕ → List Held → Option ℕ → Type 0
IsPlace inode lent place =
    MatchOption place (AllWithin (λ (held : Held). held.inode ≢ inode) lent 0 (length lent))
    (λ i. (i < length lent) × HoldsAt (λ (held : Held). held.inode ≡ inode) lent i
    × AllWithin (λ (held : Held). held.inode ≢ inode) lent 0 i)

pub place_holds : (inode : ℕ) (lent : List Held) (place : Option ℕ) → IsPlace inode lent place
    → IfSome place (λ i. (held : Held) × (slice_get lent i ≡ Some held) × (held.inode ≡ inode))
place_holds inode lent None is = tt
place_holds inode lent (Some i) is = (get_or lent i vacant, slice_get-get_or lent i vacant is.0, is.1 vacant)

misses : (inode : ℕ) (lent : List Held) → AllWithin (λ (held : Held). held.inode ≢ inode) lent 0 (length lent)
    → Misses inode lent
misses inode [] all = tt
misses inode (held ∷ lent) all = (
  all 0 held (omega arith) (omega arith),
  misses inode lent (λ k d low less. all (suc k) d (omega arith) (omega arith)),
)

pub all_miss : (inode : ℕ) (lent : List Held) (place : Option ℕ) → IsPlace inode lent place
    → IfNone place (Misses inode lent)
all_miss inode lent None is = misses inode lent is
all_miss inode lent (Some i) is = tt
