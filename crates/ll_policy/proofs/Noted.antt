-- What is noted of a table, and of one table after another.
use Rattle.std.proofs.Common.{◌≡◌, ◌≢◌, ◌≤◌, ◌+◌, ℕ, Bool, true, false, List, [], ◌∷◌, ◌++◌, Option, Some, None}
use Rattle.std.proofs.Common.{Result, Ok, Err, append_assoc, append-nil, ap, arith, inl, inr, length, map}
use Rattle.std.proofs.Common.{slice_get, sym, ◌∙◌}
use Rattle.std.specs.Prelude.{OnOk, flat_map, option_to_list}
use Rattle.std.specs.List.{enumerate_from}
use Rattle.std.specs.Result.{result_err}
use Rattle.std.proofs.lemmas.List.{map-append}
use Rattle.toml.specs.Data.{Data, Members}
use Rattle.ll_policy.specs.declared.fault.PolicyFault.{PolicyFault}
use Rattle.ll_policy.specs.declared.fault.PolicyFault.TheVariants.{NoMemory}
use Rattle.ll_policy.specs.Answers.{Checks, Reads}
use Rattle.ll_policy.specs.Faults.{fault_if, optional, required, typed}
use Rattle.ll_policy.specs.Places.{Site, at}

-- ---- a check that finds one fault at most finds all

one : (faults : List PolicyFault) (fault : PolicyFault) → length faults ≤ 1 → slice_get faults 0 ≡ Some fault
    → fault ∷ [] ≡ faults
one [] fault few e = absurd cc
one (first ∷ []) fault few e = cc
one (first ∷ next ∷ faults) fault few e = absurd (omega arith)

pub all_read : {V : Type 0} (faults : List PolicyFault) (Right : V → Type 0) (r : Result V PolicyFault)
    → length faults ≤ 1 → Reads faults Right r → result_err r ≢ Some NoMemory → option_to_list (result_err r) ≡ faults
all_read faults Right (Ok v) few reads other = sym reads.0
all_read faults Right (Err fault) few (inl memory) other = absurd (other (ap Some memory))
all_read faults Right (Err fault) few (inr first) other = one faults fault few first

pub all_checked : {V : Type 0} (faults : List PolicyFault) (Right : V → Type 0) (r : Result V PolicyFault)
    → length faults ≤ 1 → Checks faults Right r → option_to_list (result_err r) ≡ faults
all_checked faults Right (Ok v) few checks = sym checks.0
all_checked faults Right (Err fault) few first = one faults fault few first

pub few_if : (test : Bool) (fault : PolicyFault) → length (fault_if test fault) ≤ 1
few_if true fault = omega arith
few_if false fault = omega arith

few_typed : {A : Type 0} (passes : A → Bool) (bad : PolicyFault) (o : Option A) → length (typed passes bad o) ≤ 1
few_typed passes bad None = omega arith
few_typed passes bad (Some a) = few_if _ bad

pub few_required : {A : Type 0} (as_type : Data → Option A) (passes : A → Bool) (bad : PolicyFault) (o : Option Data)
    → length (required as_type passes bad o) ≤ 1
few_required as_type passes bad None = omega arith
few_required as_type passes bad (Some d) = few_typed passes bad (as_type d)

pub few_optional : {A : Type 0} (as_type : Data → Option A) (passes : A → Bool) (bad : PolicyFault) (o : Option Data)
    → length (optional as_type passes bad o) ≤ 1
few_optional as_type passes bad None = omega arith
few_optional as_type passes bad (Some d) = few_typed passes bad (as_type d)

-- ---- one check after another

pub one_more : (site : Site) (old now next : List (Site × PolicyFault)) (done more : List PolicyFault)
    → now ≡ old ++ at site done → next ≡ now ++ at site more → next ≡ old ++ at site (done ++ more)
one_more site old now next done more before then =
    then ∙ ap (λ some. some ++ at site more) before ∙ append_assoc old (at site done) (at site more)
    ∙ ap (λ some. old ++ some) (sym (map-append (λ fault. (site, fault)) done more))

-- ---- one table after another

module _ (faults_of : ℕ × Members → List (Site × PolicyFault)) (old now whole : List (Site × PolicyFault)) where
  -- the table at the front is noted
  pub next_noted : (number : ℕ) (t : Members) (left rest : List Members) (next : List (Site × PolicyFault))
      → now ++ flat_map faults_of (enumerate_from (number + 1) left) ≡ old ++ whole
      → left ≡ t ∷ rest → next ≡ now ++ faults_of (number + 1, t)
      → next ++ flat_map faults_of (enumerate_from (number + 1 + 1) rest) ≡ old ++ whole
  next_noted number t left rest next before front more =
      ap (λ some. some ++ flat_map faults_of (enumerate_from (number + 1 + 1) rest)) more
      ∙ append_assoc now (faults_of (number + 1, t)) (flat_map faults_of (enumerate_from (number + 1 + 1) rest))
      ∙ sym (ap (λ ts. now ++ flat_map faults_of (enumerate_from (number + 1) ts)) front)
      ∙ before

  pub none_left : (number : ℕ) (left : List Members)
      → now ++ flat_map faults_of (enumerate_from (number + 1) left) ≡ old ++ whole → left ≡ [] → now ≡ old ++ whole
  none_left number left before none =
      sym (append-nil now) ∙ sym (ap (λ ts. now ++ flat_map faults_of (enumerate_from (number + 1) ts)) none) ∙ before

-- ---- from contracts

pub on_ok : {A E : Type 0} (r : Result A E) {P Q : Type 0} → OnOk r P → (P → Q) → OnOk r Q
on_ok (Ok a) p f = f p
on_ok (Err e) p f = tt

pub read_found : {V : Type 0} (faults : List PolicyFault) (Right : V → Type 0) (r : Result V PolicyFault)
    (found : Option PolicyFault)
    → length faults ≤ 1 → Reads faults Right r → found ≡ result_err r → found ≢ Some NoMemory
    → option_to_list found ≡ faults
read_found faults Right r found few reads is other =
    ap option_to_list is ∙ all_read faults Right r few reads (λ e. other (is ∙ e))

pub check_found : {V : Type 0} (faults : List PolicyFault) (Right : V → Type 0) (r : Result V PolicyFault)
    (found : Option PolicyFault)
    → length faults ≤ 1 → Checks faults Right r → found ≡ result_err r → option_to_list found ≡ faults
check_found faults Right r found few checks is = ap option_to_list is ∙ all_checked faults Right r few checks

-- one more check of a table, which has found this
pub found_more : (site : Site) (old now next : List (Site × PolicyFault)) (done faults : List PolicyFault)
    (found : Option PolicyFault)
    → now ≡ old ++ at site done → next ≡ now ++ at site (option_to_list found) → option_to_list found ≡ faults
    → next ≡ old ++ at site (done ++ faults)
found_more site old now next done faults found before then is =
    one_more site old now next done faults before (then ∙ ap (λ more. now ++ at site more) is)

-- the tables in a table come after its own keys
pub tables_more : (site : Site) (old now next rest inside : List (Site × PolicyFault)) (own : List PolicyFault)
    → now ≡ old ++ at site own → next ≡ now ++ rest → rest ≡ inside → next ≡ old ++ (at site own ++ inside)
tables_more site old now next rest inside own before then is =
    then ∙ ap (λ some. some ++ rest) before ∙ append_assoc old (at site own) rest
    ∙ ap (λ more. old ++ (at site own ++ more)) is
