-- Why no stream comes.
use Rattle.std.specs.Prelude.{◌≡◌, ℕ, List, Option}
use Rattle.std.proofs.Common.{inl}
use Rattle.ll_client.specs.Closed.{IsClosed}
use Rattle.ll_client.specs.Entries.{Knows}
use Rattle.ll_program.specs.declared.failure.Failure.{Failure}
use Rattle.ll_program.specs.declared.failure.Failure.TheVariants.{CommandLine, Policy, Opening, File, Output, Socket}
use Rattle.ll_program.specs.declared.failure.Failure.TheVariants.{NoMemory}
use Rattle.ll_seq.specs.declared.reply.Entry.{Entry}
use Rattle.ll_seq.specs.declared.rules.Rules.{Rules}
use Rattle.ll_session.specs.declared.setup.Setup.{Setup}
use Rattle.ll_commands.specs.Service.{EndsEarly, MayStop}
use Rattle.ll_commands.proofs.Loadings.{may_load, was_stopped}

pub stops_early : (setup : Setup) (rules : Rules) (limit port : ℕ) (ks : List Knows) (entries : List Entry)
    (out out' : Option (List ℕ)) (failure : Failure) → rules ≡ setup.rules → limit ≡ setup.history
    → IsClosed rules setup.nodes limit entries ks → EndsEarly limit port setup.loader ks out out' failure
    → MayStop setup port out out' failure
stops_early setup rules limit port ks entries out out' CommandLine same most c h = absurd h
stops_early setup rules limit port ks entries out out' (Policy fault) same most c h = absurd h
stops_early setup rules limit port ks entries out out' (Opening refusal) same most c h =
    (was_stopped setup rules limit ks entries same most c refusal h.0, h.1)
stops_early setup rules limit port ks entries out out' Socket same most c h =
    (may_load setup rules limit ks entries same most c h.0, h.1)
stops_early setup rules limit port ks entries out out' Output same most c h =
    (may_load setup rules limit ks entries same most c h.0, h.1)
stops_early setup rules limit port ks entries out out' File same most c h = absurd h
stops_early setup rules limit port ks entries out out' NoMemory same most c h = inl h
