-- Calls on a client's own record.
use Rattle.std.specs.Prelude.{◌≡◌, ℕ, ◌+◌, zero, suc, ◌<◌, Bool, true, false, List, [], ◌∷◌, ◌++◌, Some, None, is_some}
use Rattle.std.specs.Prelude.{length, slice_get, refl}
use Rattle.std.proofs.Common.{ap, sym, ◌∙◌, arith}
use Rattle.std.specs.List.{flat_map, enumerate_from}
use Rattle.ll_rights.specs.declared.errno.Errno.{Errno}
use Rattle.ll_rights.specs.Errno.{refuse}
use Rattle.ll_rights.specs.Map.{get, has}
use Rattle.ll_rules.specs.Layer.{Layer}
use Rattle.ll_decide.specs.declared.denial.Denial.{Denial}
use Rattle.ll_decide.specs.Verdict.{all_denials}
use Rattle.ll_seq.specs.declared.client.ClientRecord.{ClientRecord}
use Rattle.ll_seq.specs.Asked.{grants}
use Rattle.ll_seq.specs.State.{State}
use Rattle.ll_seq.specs.Step.{client_of}
use Rattle.ll_seq.proofs.Results.{same_some}
use Rattle.ll_plain.proofs.Clients.{got_client}

abbrev silent : {A : Type 0} → ℕ × A → List Denial
silent l = []

pub refused_if : (b : Bool) (e : Errno) → b ≡ true → slice_get (refuse b e) 0 ≡ Some e
refused_if b e h = ap (λ c. slice_get (refuse c e) 0) h

pub not_refused : (b : Bool) (e : Errno) → b ≡ false → refuse b e ≡ []
not_refused b e h = ap (λ c. refuse c e) h

-- a call that asks nothing isn't denied
nothing_asked : {A : Type 0} (n : ℕ) (layers : List A) → flat_map silent (enumerate_from n layers) ≡ []
nothing_asked n [] = refl
nothing_asked n (l ∷ layers) = nothing_asked (n + 1) layers

pub no_denials : (s : State) (layers : List Layer) → slice_get (all_denials (grants s) layers [] []) 0 ≡ None
no_denials s layers = ap (λ ds. slice_get ds 0)
    (λ i. nothing_asked 1 layers i ++ nothing_asked 1 layers i ++ nothing_asked 1 layers i)

-- a ruleset that is there has a number below their count
pub number_below : (a s : State) (n rs : ℕ) → a ≡ s → has s.clients n ≡ true
    → is_some (slice_get (client_of s n).rulesets rs) ≡ true → (c : ClientRecord) → get a.clients n ≡ Some c
    → rs < length c.rulesets
number_below a s n rs is there some c got =
    let same : client_of s n ≡ c = same_some (got_client a s n is there) got in
    within c.rulesets rs (ap (λ (x : ClientRecord). is_some (slice_get x.rulesets rs)) (sym same) ∙ some)
  where
    within : (xs : List Layer) (i : ℕ) → is_some (slice_get xs i) ≡ true → i < length xs
    within [] i e = absurd cc
    within (x ∷ xs) zero e = omega arith
    within (x ∷ xs) (suc i) e = let more = within xs i e in omega arith
