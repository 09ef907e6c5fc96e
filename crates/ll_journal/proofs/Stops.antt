-- Why a commit stops, as the code finds it.
use Rattle.std.specs.Prelude.{◌≡◌, ℕ, zero, suc, Bool, List, [], ◌∷◌, Option, Some, slice_get, slice_index_or}
use Rattle.std.specs.Ordering.{nat_cmp}
use Rattle.std.proofs.Common.{ap, ◌∙◌, inl}
use Rattle.ll_rights.specs.Map.{Map, get}
use Rattle.ll_rights.specs.declared.errno.Errno.{Errno}
use Rattle.ll_laws.proofs.Chains.{same_Some}
use Rattle.ll_seq.specs.declared.found.Found.{Found}
use Rattle.ll_seq.specs.declared.call.Call.{Call}
use Rattle.ll_seq.specs.declared.facts.Fact.{Fact}
use Rattle.ll_seq.specs.State.{Name}
use Rattle.ll_node.specs.declared.held.Held.{Held}
use Rattle.ll_journal.specs.CommitCheck.{CommitCheck}
use Rattle.ll_journal.specs.Checks.{StopsBefore, StopsBetween, stop_by, check_there, found_at, blocked_at}

-- an element is the one at its place
at_place : (lent : List Held) (place : ℕ) (d held : Held) → slice_get lent place ≡ Some held
    → slice_index_or lent place d ≡ held
at_place [] place d held e = absurd (cc e)
at_place (x ∷ lent) zero d held e = same_Some x held e
at_place (x ∷ lent) (suc place) d held e = at_place lent place d held e

module _ (facts : Map nat_cmp Fact) (lent : List Held) (here place : ℕ) (d : Held) (name : Name) (lies : (held : Held)
    × (slice_get lent place ≡ Some held) × (held.inode ≡ here)) where
  pub stops_before : (found : Option ℕ) (errno : Option Errno) (stop : CommitCheck)
      → found ≡ get (slice_index_or lent place d).node.names name → errno ≡ blocked_at facts found
      → stop ≡ stop_by errno → StopsBefore facts lent here name stop
  stops_before found errno stop looked blocked is =
      inl (
        lies.0,
        record { place = place; there = lies.1; is = lies.2 },
        is
            ∙ ap stop_by (blocked ∙ ap (blocked_at facts) (looked
            ∙ ap (λ (held : Held). get held.node.names name) (at_place lent place d lies.0 lies.1))),
      )

module _ (facts : Map nat_cmp Fact) (full : Bool) (marked : ℕ → Bool) (slots : List ℕ) (lent : List Held) (spare : ℕ)
    (call : Call) (first second : ℕ) (i j : ℕ) (d e : Held)
    (one : (held : Held) × (slice_get lent i ≡ Some held) × (held.inode ≡ first)) (other : (held : Held)
    × (slice_get lent j ≡ Some held) × (held.inode ≡ second)) where
  pub stops_between : (found : Found) (stop : CommitCheck)
      → found ≡ found_at facts full (slice_index_or lent i d) (slice_index_or lent j e) call
      → stop ≡ check_there marked slots lent spare call found
      → StopsBetween facts full marked slots lent spare call first second stop
  stops_between found stop is stopped =
      inl (
        one.0,
        other.0,
        record { place = i; there = one.1; is = one.2 },
        record { place = j; there = other.1; is = other.2 },
        stopped ∙ ap (check_there marked slots lent spare call) (is
            ∙ (λ k. found_at facts full (at_place lent i d one.0 one.1 k) (at_place lent j e other.0 other.1 k) call)),
      )
