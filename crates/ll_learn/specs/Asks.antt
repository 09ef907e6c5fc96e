-- What a call needs, as what a layer has to grant. Cited by contracts between functions of the crate. own
use Rattle.std.specs.Prelude.{◌≡◌, ◌<◌, ℕ, Bool, false, List}
use Rattle.ll_decide.specs.declared.demands.On.{On}
use Rattle.ll_why.specs.Places.{denies}
use Rattle.ll_why.specs.Reasons.{chain_of}
use Rattle.ll_why.specs.declared.asks.Asks.{Asks}
use Rattle.ll_learn.specs.Needs.{StartsAtRoot}

-- no needed right is denied. grants: what a layer grants on a path with these inodes
abbrev pub AllowsAsked : (List ℕ → ℕ → Bool) → Asks → Type 0
AllowsAsked grants asks =
    (right : ℕ) → right < 15 → denies (λ on r. grants (chain_of asks on) r) asks.demands right ≡ false

abbrev pub AreAsksRooted : Asks → Type 0
AreAsksRooted asks = (on : On) → StartsAtRoot (chain_of asks on)
