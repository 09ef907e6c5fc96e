-- What `rights` is asked for. own
use Rattle.std.specs.Prelude.{ℕ, Bool, true, false, not, ◌&&◌, List, Option, Some, None, is_some, map, option_map}
use Rattle.clap.specs.Words.{Text}
use Rattle.ll_program.specs.declared.report.AnswerForm.{AnswerForm}
use Rattle.ll_program.specs.declared.rights.RightsOptions.{RightsOptions}
use Rattle.ll_program.specs.declared.rights.RightsScope.{RightsScope}
use Rattle.ll_program.specs.declared.rights.RightsScope.TheVariants.{Profile, AllProfiles, Difference}

-- the rights of a profile, or of all profiles of the policy, or what differs for a profile from an old policy
pub data Scope : Type 0 where
  of_profile : (profile : Text) → Scope
  of_all : Scope
  of_difference : (old profile : Text) → Scope

pub record RightsOrder : Type 0 where
  pub policy : Text
  pub scope : Option Scope
  pub nodes : ℕ
  pub paths : List Text
  pub layers : Bool
  pub form : Option AnswerForm

abbrev pub scope_of : RightsScope → Scope
scope_of (Profile name) = of_profile name.now
scope_of AllProfiles = of_all
scope_of (Difference it) = of_difference it.old.now it.profile.now

abbrev pub rights_in : RightsOptions → RightsOrder
rights_in o =
    record {
      policy = o.policy.now;
      scope = option_map scope_of o.scope;
      nodes = o.nodes;
      paths = map (λ t. t.now) o.paths.items;
      layers = o.layers;
      form = o.form;
    }

-- a profile, or all, or a profile and an old policy; nothing else goes together
abbrev pub scope_by : (profile : Option Text) → (all : Bool) → (old : Option Text) → Option Scope
scope_by (Some name) false None = Some (of_profile name)
scope_by (Some name) false (Some old) = Some (of_difference old name)
scope_by (Some name) true old = None
scope_by None false old = None
scope_by None true None = Some of_all
scope_by None true (Some old) = None

-- layers are no part of a difference
abbrev pub scope_fits : Option Scope → (layers : Bool) → Bool
scope_fits None layers = false
scope_fits (Some (of_profile name)) layers = true
scope_fits (Some of_all) layers = true
scope_fits (Some (of_difference old name)) layers = not layers

-- the form is known, and so is what is asked for
abbrev pub fits_rights : RightsOrder → Bool
fits_rights o = is_some o.form && scope_fits o.scope o.layers
