-- What arguments make of a command, and settings of an argument.
use Rattle.std.proofs.Common.{◌≡◌, ◌∙◌, sym, ap, ap₂, false, true, ◌||◌, List, [], ◌∷◌, map, fold, Option, Some}
use Rattle.std.proofs.Common.{ℕ, ◌≤◌, arith, ℤ, pos, cond, is_lt, nat_cmp, Ordering, Less}
use Rattle.std.specs.List.{AllByRecursion}
use Rattle.std.specs.Cmp.{nat_cmp_is}
use Rattle.std.specs.Ordering.{ord_min}
use Rattle.clap.specs.Lexer.{usize_max}
use Rattle.clap.specs.Words.{AddsArg, AddsInTurn, App, NarrowsTo, Rule, app_of, rule_of, with_rule}
use Rattle.clap.specs.declared.builder.action.ArgAction.TheVariants.{Append}
use Rattle.clap.specs.declared.builder.arg.Arg.{Arg}
use Rattle.clap.specs.declared.builder.command.Command.{Command}
use Rattle.clap.specs.declared.builder.command.Command.TheViews.{out-Command as fields_of}
use Rattle.clap.specs.declared.builder.value_parser.ValueParser.{ValueParser}
use Rattle.clap.specs.declared.builder.value_parser.ValueParser.TheVariants.{Unsigned}

-- none of the arguments is global
abbrev pub AreLocal : List Arg → Type 0
AreLocal = AllByRecursion (λ (argument : Arg). argument.global ≡ false)

-- what a command is after arguments that aren't global
pub app_after : (start made : Command) (args : List Arg) (app : App) → app_of start ≡ app → AreLocal args
    → AddsInTurn AddsArg start args made → app_of made ≡ fold with_rule app (map rule_of args)
app_after start made [] app is local h = sym (ap app_of h) ∙ is
app_after start made (a ∷ more) app is local h =
    app_after h.0 made more (with_rule app (rule_of a))
    (h.1.shape local.0 ∙ ap (λ (old : App). with_rule old (rule_of a)) is) local.1 h.2

-- and none of its own arguments is global then
pub local_after : (start made : Command) (args : List Arg) → (fields_of start).has_globals ≡ false → AreLocal args
    → AddsInTurn AddsArg start args made → (fields_of made).has_globals ≡ false
local_after start made [] is local h = sym (ap (λ (c : Command). (fields_of c).has_globals) h) ∙ is
local_after start made (a ∷ more) is local h =
    local_after h.0 made more (h.1.globals ∙ ap₂ ◌||◌ is local.0) local.1 h.2

-- the same rule, of an argument that must be there
abbrev pub must : Rule → Rule
must rule = record rule { required = true }

-- of an argument to which each use gives one value more
abbrev pub append : Rule → Rule
append rule = record rule { action = Some Append }

-- of an argument with one value or more
abbrev pub several : Rule → Rule
several rule = record rule { range = Some (record { start_inclusive = 1; end_inclusive = usize_max }) }

-- what a range from 1 makes of the numbers of 64 bits, where its end is far below theirs
pub narrowed : (p r : ValueParser) (low high : Option ℤ) (most : ℕ) → p ≡ Unsigned 0 18446744073709551615
    → low ≡ Some (pos 1) → high ≡ Some (pos most) → most ≤ 1000000000 → NarrowsTo p low high r
    → r ≡ Unsigned 1 most
narrowed p r low high most all from to few h =
    let made : r ≡ Unsigned 1 (ord_min nat_cmp 18446744073709551615 most) = rw (all, from, to) at h in
    made ∙ sym (ap (λ (o : Ordering). Unsigned 1 (cond (is_lt o) most 18446744073709551615))
    (nat_cmp_is most 18446744073709551615 Less (omega (arith, few))))
