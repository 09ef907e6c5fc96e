-- A learned profile's calls, made where the histories are cut. own
use Rattle.std.specs.Prelude.{◌≡◌, ◌≤◌, ◌++◌, ◌∷◌, [], ℕ, List, length, map}
use Rattle.ll_rights.specs.declared.limits.TheConstants.{RULESET_INODES}
use Rattle.ll_rules.specs.Layer.{Layer}
use Rattle.ll_rules.specs.Rules.{create_refusals}
use Rattle.ll_seq.specs.declared.call.Call.{Call}
use Rattle.ll_seq.specs.declared.call.Call.TheVariants.{Ruleset}
use Rattle.ll_seq.specs.declared.client.ClientRecord.{ClientRecord}
use Rattle.ll_seq.specs.declared.reply.Entry.{Entry}
use Rattle.ll_seq.specs.declared.reply.Reply.{Reply}
use Rattle.ll_seq.specs.declared.reply.Reply.TheVariants.{Created, Done}
use Rattle.ll_seq.specs.Effects.{with_client}
use Rattle.ll_seq.specs.History.{IsLegal, state_after}
use Rattle.ll_seq.specs.State.{State}
use Rattle.ll_seq.specs.Step.{client_of}
use Rattle.ll_learn.specs.declared.profile.LearnedProfile.{LearnedProfile}
use Rattle.ll_learn.specs.Lesson.{IsOfProfile}
use Rattle.ll_learn.specs.Profile.{calls_of}

-- the reply to a profile's call that is accepted: the client's first ruleset has the number 0
abbrev pub acceptance : Call → Reply
acceptance (Ruleset rights) = Created 0
acceptance _ = Done

-- the client makes these calls, one after another, and each is accepted
abbrev pub accepted_calls : ℕ → List Call → List Entry
accepted_calls client calls = map (λ call. record { client = client; call = call; reply = acceptance call }) calls

-- the tree creates a ruleset for the profile's rights, and the ruleset takes as many rules
abbrev pub FitsRuleset : State → LearnedProfile → Type 0
FitsRuleset s profile =
    (create_refusals s.rules.abi profile.handled.0 ≡ []) × (length profile.rules.items ≤ RULESET_INODES)

-- the client with the layer on top of its domain, and as its newest ruleset
abbrev pub with_layer : ClientRecord → Layer → ClientRecord
with_layer c layer = record c { domain = c.domain ++ layer ∷ []; rulesets = c.rulesets ++ layer ∷ [] }

-- The profile's calls are accepted in this state. They leave the client with the profile's layer, and change nothing
-- else
pub record IsEnforced (s : State) (client : ℕ) (profile : LearnedProfile) : Type 0 where
  pub accepted : IsLegal s (accepted_calls client (calls_of profile))
  pub layer : Layer
  pub spelt : IsOfProfile profile layer
  pub state : state_after s (accepted_calls client (calls_of profile))
      ≡ with_client s client (with_layer (client_of s client) layer)
