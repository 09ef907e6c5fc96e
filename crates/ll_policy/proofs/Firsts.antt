-- The first of several faults.
use Rattle.std.proofs.Common.{◌≡◌, Bool, true, false, not, List, [], ◌∷◌, ◌++◌, Option, Some, None, slice_get, refl}
use Rattle.std.proofs.Common.{sym, ap, ◌∙◌, subst, ◌⊎◌, inl, inr}
use Rattle.std.specs.Prelude.{option_and_then}
use Rattle.toml.specs.Data.{Data}
use Rattle.ll_policy.specs.declared.fault.PolicyFault.{PolicyFault}
use Rattle.ll_policy.specs.declared.fault.PolicyFault.TheVariants.{NoMemory}
use Rattle.ll_policy.specs.Faults.{fault_if, typed, required}

-- the fault is the first, or memory ran out
abbrev pub Told : List PolicyFault → PolicyFault → Type 0
Told faults fault = (fault ≡ NoMemory) ⊎ (slice_get faults 0 ≡ Some fault)

pub first : (ones others : List PolicyFault) (fault : PolicyFault) → slice_get ones 0 ≡ Some fault
    → slice_get (ones ++ others) 0 ≡ Some fault
first [] others fault e = absurd cc
first (one ∷ ones) others fault e = e

pub told_first : (ones others : List PolicyFault) (fault : PolicyFault) → Told ones fault → Told (ones ++ others) fault
told_first ones others fault (inl memory) = inl memory
told_first ones others fault (inr e) = inr (first ones others fault e)

-- the first fault behind parts in which nothing is wrong
pub told_after : (ones others : List PolicyFault) (fault : PolicyFault) → ones ≡ [] → Told others fault
    → Told (ones ++ others) fault
told_after ones others fault none told = subst (λ (fs : List PolicyFault). Told (fs ++ others) fault) (sym none) told

pub first_after : (ones others : List PolicyFault) (fault : PolicyFault) → ones ≡ [] → slice_get others 0 ≡ Some fault
    → slice_get (ones ++ others) 0 ≡ Some fault
first_after ones others fault none e =
    subst (λ (fs : List PolicyFault). slice_get (fs ++ others) 0 ≡ Some fault) (sym none) e

pub no_faults : (ones others : List PolicyFault) → ones ≡ [] → others ≡ [] → ones ++ others ≡ []
no_faults ones others none nothing = λ i. none i ++ nothing i

pub only_one : (faults : List PolicyFault) (fault : PolicyFault) → faults ≡ fault ∷ [] → slice_get faults 0 ≡ Some fault
only_one faults fault e = ap (λ (fs : List PolicyFault). slice_get fs 0) e

-- a value of the right type is tested
pub required_value : {A : Type 0} (as_type : Data → Option A) (passes : A → Bool) (bad : PolicyFault) (o : Option Data)
    (a : A)
    → option_and_then as_type o ≡ Some a → required as_type passes bad o ≡ fault_if (not (passes a)) bad
required_value as_type passes bad None a e = absurd cc
required_value as_type passes bad (Some d) a e = ap (typed passes bad) e

pub passed : (test : Bool) (bad : PolicyFault) → test ≡ true → fault_if (not test) bad ≡ []
passed true bad e = refl
passed false bad e = absurd cc

pub failed : (test : Bool) (bad : PolicyFault) → test ≡ false → fault_if (not test) bad ≡ bad ∷ []
failed true bad e = absurd cc
failed false bad e = refl

pub value_passed : {A : Type 0} (as_type : Data → Option A) (passes : A → Bool) (bad : PolicyFault) (o : Option Data)
    (a : A)
    → option_and_then as_type o ≡ Some a → passes a ≡ true → required as_type passes bad o ≡ []
value_passed as_type passes bad o a e right = required_value as_type passes bad o a e ∙ passed (passes a) bad right

pub value_failed : {A : Type 0} (as_type : Data → Option A) (passes : A → Bool) (bad : PolicyFault) (o : Option Data)
    (a : A)
    → option_and_then as_type o ≡ Some a → passes a ≡ false → slice_get (required as_type passes bad o) 0 ≡ Some bad
value_failed as_type passes bad o a e wrong =
    only_one _ bad (required_value as_type passes bad o a e ∙ failed (passes a) bad wrong)

-- what is missing or of another type whatever is asked of it has no value
pub no_value : {A : Type 0} (as_type : Data → Option A) (o : Option Data) (fault : PolicyFault)
    → ((passes : A → Bool) (bad : PolicyFault) → required as_type passes bad o ≡ fault ∷ [])
    → option_and_then as_type o ≡ None
no_value as_type None fault h = refl
no_value as_type (Some d) fault h = untyped (as_type d) fault (h (λ _. true) fault)
  where
    untyped : {A : Type 0} (o : Option A) (fault : PolicyFault) → typed (λ _. true) fault o ≡ fault ∷ [] → o ≡ None
    untyped None fault e = refl
    untyped (Some a) fault e = absurd cc
