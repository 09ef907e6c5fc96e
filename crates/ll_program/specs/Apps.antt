-- The command line that clap is given: its rules and apps. own
use Rattle.std.specs.Prelude.{[], ◌∷◌, Some, codes, true}
use Rattle.std.specs.List.{fold}
use Rattle.clap.specs.declared.builder.action.ArgAction.TheVariants.{Append, SetTrue}
use Rattle.clap.specs.Words.{App, Rule, Text, new_app, new_rule, with_rule, with_subcommand}
use Rattle.clap.specs.Lexer.{usize_max}
use Rattle.clap.specs.Simple.{on_top}
use Rattle.clap.specs.declared.builder.value_parser.ValueParser.{ValueParser}
use Rattle.clap.specs.declared.builder.value_parser.ValueParser.TheVariants.{Unsigned}

abbrev pub script : Rule
script = record (new_rule (codes "SCRIPT")) { required = true }

-- an option of this name, with one value
abbrev pub valued : Text → Rule
valued name = record (new_rule name) { long = Some name; value_names = 1 }

-- from 1 to 4,096, in decimal digits; a plus may come first
abbrev pub node_numbers : ValueParser
node_numbers = Unsigned 1 4096

-- from 1 to 3
abbrev pub levels : ValueParser
levels = Unsigned 1 3

-- the limit of live nodes; the default is 1,024
abbrev pub nodes : Rule
nodes = record (valued (codes "nodes")) { parser = Some node_numbers; defaults = codes "1024" ∷ [] }

-- from 1 to 1,000,000
abbrev pub history_numbers : ValueParser
history_numbers = Unsigned 1 1000000

-- the limit of the history's entries; the default is 10,000
abbrev pub history : Rule
history = record (valued (codes "history")) { parser = Some history_numbers; defaults = codes "10000" ∷ [] }

-- the level of Landlock's ABI
abbrev pub abi : Rule
abi = record (valued (codes "abi")) { parser = Some levels }

-- an option of this name, without a value
abbrev pub flag : Text → Rule
flag name = record (new_rule name) { long = Some name; action = Some SetTrue }

abbrev pub run : App
run = fold with_rule (new_app (codes "run"))
    (script ∷ nodes ∷ abi ∷ valued (codes "policy") ∷ valued (codes "profile") ∷ history ∷ valued (codes "save")
    ∷ flag (codes "strict") ∷ flag (codes "comments") ∷ [])

abbrev pub file : Rule
file = record (new_rule (codes "FILE")) { required = true }

abbrev pub audit : App
audit = with_rule (new_app (codes "audit")) file

-- from 1 to 1,000,000,000
abbrev pub line_numbers : ValueParser
line_numbers = Unsigned 1 1000000000

-- an option of this name, whose value is the number of a line
abbrev pub line_number : Text → Rule
line_number name = record (valued name) { parser = Some line_numbers }

abbrev pub schedule : App
schedule = fold with_rule (new_app (codes "schedule"))
    (file ∷ nodes ∷ abi ∷ history ∷ valued (codes "picture") ∷ line_number (codes "from") ∷ line_number (codes "to")
    ∷ flag (codes "strict") ∷ [])

-- one path or more
abbrev pub paths : Rule
paths = record (new_rule (codes "PATH")) {
  range = Some (record { start_inclusive = 1; end_inclusive = usize_max });
}

-- an option of this name, with one value, that must be there
abbrev pub needed : Text → Rule
needed name = record (valued name) { required = true }

abbrev pub rights : App
rights = fold with_rule (new_app (codes "rights"))
    (paths ∷ needed (codes "policy") ∷ valued (codes "profile") ∷ flag (codes "all-profiles")
    ∷ valued (codes "diff") ∷ nodes ∷ flag (codes "layers") ∷ valued (codes "as") ∷ [])

-- one file or more
abbrev pub files : Rule
files = record file { range = Some (record { start_inclusive = 1; end_inclusive = usize_max }) }

abbrev pub check : App
check = fold with_rule (new_app (codes "check"))
    (files ∷ nodes ∷ abi ∷ valued (codes "policy") ∷ valued (codes "profile") ∷ flag (codes "quiet")
    ∷ flag (codes "verbose") ∷ valued (codes "as") ∷ flag (codes "schedule") ∷ [])

-- from 1 to 65,535
abbrev pub ports : ValueParser
ports = Unsigned 1 65535

-- the port to listen at, which is required
abbrev pub port : Rule
port = record (needed (codes "port")) { parser = Some ports }

-- from 1 to 32
abbrev pub worker_numbers : ValueParser
worker_numbers = Unsigned 1 32

-- how many connections are served at a time; the default is 4
abbrev pub workers : Rule
workers = record (valued (codes "workers")) { parser = Some worker_numbers; defaults = codes "4" ∷ [] }

-- from 1 to 62
abbrev pub connection_numbers : ValueParser
connection_numbers = Unsigned 1 62

-- how many connections are served in all; the default is 1
abbrev pub connections : Rule
connections = record (valued (codes "connections")) { parser = Some connection_numbers; defaults = codes "1" ∷ [] }

-- from 1 to 3,600
abbrev pub idle_seconds : ValueParser
idle_seconds = Unsigned 1 3600

-- after how many seconds without a byte a connection is closed
abbrev pub idle : Rule
idle = record (valued (codes "idle")) { parser = Some idle_seconds }

-- from 1 to 65,536
abbrev pub room_megabytes : ValueParser
room_megabytes = Unsigned 1 65536

-- how many megabytes a connection's lines and replies may take; the default is 64
abbrev pub room : Rule
room = record (valued (codes "room")) { parser = Some room_megabytes; defaults = codes "64" ∷ [] }

abbrev pub serve : App
serve = fold with_rule (new_app (codes "serve"))
    (port ∷ workers ∷ connections ∷ idle ∷ room ∷ flag (codes "log") ∷ nodes ∷ abi
    ∷ valued (codes "policy") ∷ valued (codes "profile") ∷ history ∷ valued (codes "save") ∷ [])

-- an option with a value, which may be repeated
abbrev pub repeated : Text → Rule
repeated name = record (valued name) { action = Some Append }

abbrev pub export : App
export = fold with_rule (new_app (codes "export"))
    (needed (codes "policy") ∷ needed (codes "profile") ∷ needed (codes "as") ∷ valued (codes "root")
    ∷ repeated (codes "also") ∷ flag (codes "follow") ∷ valued (codes "deny") ∷ flag (codes "best-effort")
    ∷ repeated (codes "checked") ∷ [])

-- a history and a number, or a command
abbrev pub words : Rule
words = record (new_rule (codes "WORD")) {
  required = true;
  range = Some (record { start_inclusive = 1; end_inclusive = usize_max });
}

abbrev pub why : App
why = fold with_rule (new_app (codes "why"))
    (words ∷ valued (codes "policy") ∷ valued (codes "profile") ∷ nodes ∷ valued (codes "as") ∷ [])

-- files of checks, if any
abbrev pub lessons : Rule
lessons = record (new_rule (codes "FILE")) {
  range = Some (record { start_inclusive = 1; end_inclusive = usize_max });
}

-- the option `--history` of a saved history
abbrev pub saved : Rule
saved = record (new_rule (codes "saved")) { long = Some (codes "history"); value_names = 1 }

-- from 1 to 1,000,000,000
abbrev pub client_numbers : ValueParser
client_numbers = Unsigned 1 1000000000

-- from 1 to 256
abbrev pub rule_numbers : ValueParser
rule_numbers = Unsigned 1 256

-- an option of this name, whose value is a number
abbrev pub counted : Text → ValueParser → Rule
counted name parser = record (valued name) { parser = Some parser }

abbrev pub learn : App
learn = fold with_rule (new_app (codes "learn"))
    (lessons ∷ valued (codes "policy") ∷ saved ∷ counted (codes "client") client_numbers ∷ valued (codes "name")
    ∷ valued (codes "never") ∷ repeated (codes "beneath") ∷ counted (codes "most") rule_numbers ∷ nodes ∷ [])

abbrev pub landtree : App
landtree =
    let top = on_top (λ s. record s { has_version = true; subcommand_required = true }) (new_app (codes "landtree")) in
    let scheduled = with_subcommand (with_subcommand (with_subcommand top run.top) audit.top) schedule.top in
    let checked = with_subcommand (with_subcommand scheduled rights.top) check.top in
    let explained = with_subcommand (with_subcommand (with_subcommand checked serve.top) export.top) why.top in
    with_subcommand explained learn.top
