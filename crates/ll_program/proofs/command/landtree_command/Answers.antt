use Rattle.std.proofs.Common.{◌≡◌, ◌∙◌, ap, codes, true}
use Rattle.clap.specs.Words.{App, app_of, new_app}
use Rattle.clap.specs.Simple.{Shape, app_of_fields, on_top}
use Rattle.ll_program.proofs.command.landtree_command.Goals as goal

abbrev versioned : App → App
versioned = on_top (λ (s : Shape). record s { has_version = true })

abbrev demanding : App → App
demanding = on_top (λ (s : Shape). record s { subcommand_required = true })

pub returns : goal.returns
returns c =
    let top_is : app_of c.subcommand_required-top.result ≡ demanding (versioned (new_app (codes "landtree"))) =
    ap app_of_fields c.subcommand_required-top.ensures
    ∙ ap demanding (ap app_of_fields c.version.ensures
    ∙ ap versioned (ap app_of_fields c.about.ensures ∙ c.new.ensures.app)) in
    let runs = c.joined-with_run.ensures _ _ top_is c.run_command.ensures.app in
    let audits = c.joined-with_audit.ensures _ _ runs c.audit_command.ensures.app in
    let schedules = c.joined-with_schedule.ensures _ _ audits c.schedule_command.ensures.app in
    let tells = c.joined-with_rights.ensures _ _ schedules c.rights_command.ensures.app in
    let checks = c.joined-with_check.ensures _ _ tells c.check_command.ensures.app in
    let serves = c.joined-with_serve.ensures _ _ checks c.serve_command.ensures.app in
    let exports = c.joined-with_export.ensures _ _ serves c.export_command.ensures.app in
    let explains = c.joined-with_why.ensures _ _ exports c.why_command.ensures.app in
    c.joined.ensures _ _ explains c.learn_command.ensures.app
