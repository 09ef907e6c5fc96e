use Rattle.std.proofs.Common.{◌≡◌, ◌∙◌, ap, refl, Option, Some, None, option_map, Box, List}
use Rattle.std.proofs.lemmas.Result.{IfOk-weaker}
use Rattle.clap.specs.Words.{Row, Text, found_of, rows_of, subcommand_rows, subcommand_rows_of}
use Rattle.clap.specs.declared.parser.matches.ArgMatches.TheViews.{out-ArgMatches, out-SubCommand}
use Rattle.std.specs.Box.{box_value}
use Rattle.std.specs.declared.alloc.Global.{Global}
use Rattle.clap.specs.declared.parser.matches.SubCommand.{SubCommand}
use Rattle.ll_program.specs.Options.{ordered_of}
use Rattle.ll_program.proofs.options.Options.of_subcommand.Goals as goal

-- a pair is known by its parts
both : (o : Option (Text × List Row)) (name : Text) (rows : List Row) → Some name ≡ option_map (λ p. p.0) o
    → Some rows ≡ option_map (λ p. p.1) o → Some (name, rows) ≡ o
both None name rows e f = absurd cc
both (Some p) name rows e f =
    let one : name ≡ p.0 = cc in let two : rows ≡ p.1 = cc in
    ap (λ (n : Text). Some (n, rows)) one ∙ ap (λ (r : List Row). Some (p.0, r)) two

none_of : (o : Option (Text × List Row)) → None ≡ option_map (λ (p : Text × List Row). p.1) o → None ≡ o
none_of None e = refl
none_of (Some p) e = absurd cc

name_is : (o : Option (Box SubCommand Global))
    → option_map (λ (b : Box SubCommand Global). (out-SubCommand (box_value b)).name.now) o
    ≡ option_map (λ p. p.0) (subcommand_rows o)
name_is None = refl
name_is (Some b) = refl

pub returns-in-Some : goal.returns-in-Some
returns-in-Some c =
    let m = c.args.matches.now in
    let rows : Some (rows_of (found_of c.in-Some.found.now)) ≡ option_map (λ p. p.1) (subcommand_rows_of m) =
    c.in-Some.ensures.rows in
    let name : Some c.in-Some.name.now ≡ option_map (λ p. p.0) (subcommand_rows_of m) =
    c.in-Some.ensures.name ∙ name_is (out-ArgMatches m).subcommand in
    let is = both (subcommand_rows_of m) c.in-Some.name.now (rows_of (found_of c.in-Some.found.now)) name rows in
    IfOk-weaker c.of_matches.result _ _ (λ o told. told ∙ ap ordered_of is) c.of_matches.ensures

pub returns-in-None : goal.returns-in-None
returns-in-None c = ap ordered_of (none_of (subcommand_rows_of c.args.matches.now) c.in-None.ensures.rows)
