use Rattle.std.proofs.Common.{◌≡◌, ◌∙◌, sym, ap, codes, Bool, false, cond, List, Option, Some, None, option_map}
use Rattle.std.specs.Prelude.{bytes_eq}
use Rattle.clap.specs.Words.{Row, Text, first_of, found_of, rows_of}
use Rattle.clap.proofs.WalkLemmas.{first_value-rows}
use Rattle.ll_program.specs.Options.{check_order, export_order, rights_order, run_order, schedule_order, serve_order}
use Rattle.ll_program.specs.Options.{to_audit, to_check, to_export, to_rights, to_run, to_schedule, to_serve}
use Rattle.ll_program.specs.Options.{learn_order, to_learn, to_why, why_order}
use Rattle.ll_program.proofs.options.Options.of_matches.Goals as goal

-- what is wanted by another name than those of the other subcommands
audits : (b d r k v x y z : Bool) (rows : List Row) (file : Option Text) → b ≡ false → d ≡ false → r ≡ false
    → k ≡ false → v ≡ false → x ≡ false → y ≡ false → z ≡ false → file ≡ first_of (codes "FILE") rows
    → option_map to_audit file ≡ cond b (option_map to_run (run_order rows))
    (cond d (option_map to_schedule (schedule_order rows))
    (cond r (option_map to_rights (rights_order rows))
    (cond k (option_map to_check (check_order rows))
    (cond v (option_map to_serve (serve_order rows))
    (cond x (option_map to_export (export_order rows))
    (cond y (option_map to_why (why_order rows))
    (cond z (option_map to_learn (learn_order rows)) (option_map to_audit (first_of (codes "FILE") rows)))))))))
audits b d r k v x y z rows file e f g h i j l n m = rw (e, f, g, h, i, j, l, n) (ap (option_map to_audit) m)

pub returns-in-Some-get_str : goal.returns-in-Some-get_str
returns-in-Some-get_str c =
    let f = found_of c.args.matches.now in
    let name = c.args.name.now in
    audits (bytes_eq name (codes "run")) (bytes_eq name (codes "schedule")) (bytes_eq name (codes "rights"))
    (bytes_eq name (codes "check")) (bytes_eq name (codes "serve")) (bytes_eq name (codes "export"))
    (bytes_eq name (codes "why")) (bytes_eq name (codes "learn")) (rows_of f)
    (Some c.in-Some-get_str.file.now) (sym c.eq.ensures ∙ c.if-eq.false)
    (sym c.eq-2.ensures ∙ c.if-eq-2.false) (sym c.eq-3.ensures ∙ c.if-eq-3.false)
    (sym c.eq-4.ensures ∙ c.if-eq-4.false) (sym c.eq-5.ensures ∙ c.if-eq-5.false)
    (sym c.eq-6.ensures ∙ c.if-eq-6.false) (sym c.eq-7.ensures ∙ c.if-eq-7.false)
    (sym c.eq-8.ensures ∙ c.if-eq-8.false)
    (c.in-Some-get_str.ensures ∙ first_value-rows f (codes "FILE"))

pub returns-in-None-get_str : goal.returns-in-None-get_str
returns-in-None-get_str c =
    let f = found_of c.args.matches.now in
    let name = c.args.name.now in
    audits (bytes_eq name (codes "run")) (bytes_eq name (codes "schedule")) (bytes_eq name (codes "rights"))
    (bytes_eq name (codes "check")) (bytes_eq name (codes "serve")) (bytes_eq name (codes "export"))
    (bytes_eq name (codes "why")) (bytes_eq name (codes "learn")) (rows_of f)
    None (sym c.eq.ensures ∙ c.if-eq.false)
    (sym c.eq-2.ensures ∙ c.if-eq-2.false) (sym c.eq-3.ensures ∙ c.if-eq-3.false)
    (sym c.eq-4.ensures ∙ c.if-eq-4.false) (sym c.eq-5.ensures ∙ c.if-eq-5.false)
    (sym c.eq-6.ensures ∙ c.if-eq-6.false) (sym c.eq-7.ensures ∙ c.if-eq-7.false)
    (sym c.eq-8.ensures ∙ c.if-eq-8.false)
    (c.in-None-get_str.ensures ∙ first_value-rows f (codes "FILE"))
