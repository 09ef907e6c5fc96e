use Rattle.std.proofs.Common.{◌≡◌, Ok, Err, codes, refl, rules}
use Rattle.std.specs.Result.{MatchResult}
use Rattle.ll_laws.specs.declared.step.Step.TheVariants.{Begin, FdCommit, ClientStep}
use Rattle.ll_wire.specs.declared.schedule.ScheduleLine.TheVariants as lines
use Rattle.ll_wire.proofs.FirstTokens.{parted}
use Rattle.ll_wire.proofs.ScheduleTokens.{called_reads}
use Rattle.ll_wire.proofs.schedule.behind_name.Goals as goal

pub returns-in-begin : goal.returns-in-begin
returns-in-begin c =
    let made : MatchResult c.call_of.result
    (λ call. c.map.result ≡ Ok (lines.Step (Begin c.args.client call)))
    (λ e. c.map.result ≡ Err e) = search rules in
    called_reads (codes "begin") (λ client call. lines.Step (Begin client call)) (λ client call. (refl, refl))
    c.args.client _ _ _ _ (parted _ _ _ c.in-len1-up.len_at_least c.in-begin.is) made c.call_of.ensures

pub returns-in-fd : goal.returns-in-fd
returns-in-fd c =
    let made : MatchResult c.call_of-in-fd.result
    (λ call. c.map-in-fd.result ≡ Ok (lines.Step (FdCommit c.args.client call)))
    (λ e. c.map-in-fd.result ≡ Err e) = search rules in
    called_reads (codes "fd") (λ client call. lines.Step (FdCommit client call)) (λ client call. (refl, refl))
    c.args.client _ _ _ _ (parted _ _ _ c.in-len1-up.len_at_least c.in-fd.is) made c.call_of-in-fd.ensures

pub returns-in-step : goal.returns-in-step
returns-in-step c =
    let made : MatchResult c.call_of-in-step.result
    (λ call. c.map-in-step.result ≡ Ok (lines.Step (ClientStep c.args.client call)))
    (λ e. c.map-in-step.result ≡ Err e) = search rules in
    called_reads (codes "step") (λ client call. lines.Step (ClientStep client call)) (λ client call. (refl, refl))
    c.args.client _ _ _ _ (parted _ _ _ c.in-len1-up.len_at_least c.in-step.is) made c.call_of-in-step.ensures

pub returns-in-do : goal.returns-in-do
returns-in-do c =
    let made : MatchResult c.call_of-in-do.result
    (λ call. c.map-in-do.result ≡ Ok (lines.Do c.args.client call))
    (λ e. c.map-in-do.result ≡ Err e) = search rules in
    called_reads (codes "do") lines.Do (λ client call. (refl, refl))
    c.args.client _ _ _ _ (parted _ _ _ c.in-len1-up.len_at_least c.in-do.is) made c.call_of-in-do.ensures
