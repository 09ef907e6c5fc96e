-- The words of the command line, as clap matches them. own
use Rattle.std.specs.Prelude.{bytes_eq, ◌==◌, ◌≡◌, ◌⊎◌, ℕ, List, [], ◌∷◌, Option, Some, None, is_some, option_and_then}
use Rattle.std.specs.Prelude.{option_map, codes, Bool, true, false, not, map, unwrap_or, ◌&&◌, if◌then◌else◌, is_none}
use Rattle.std.specs.Prelude.{length, nat_eq, nat_le, ◌||◌}
use Rattle.std.specs.List.{list_all, starts_with}
use Rattle.std.specs.Option.{option_map_or}
use Rattle.std.specs.Str.Parse.{digits_value, without_leading_plus}
use Rattle.clap.specs.declared.error.kind.ErrorKind.TheVariants.{DisplayHelp, DisplayVersion}
use Rattle.clap.specs.Words.{IsAmong, Kinds, Row, Text, all_of, first_of, one_of, subcommand_of}
use Rattle.clap.specs.ValueTests.{accepts}
use Rattle.clap.specs.declared.builder.value_parser.ValueParser.{ValueParser}
use Rattle.ll_program.specs.declared.options.RunOptions.{RunOptions}
use Rattle.ll_program.specs.declared.options.ScheduleOptions.{ScheduleOptions}
use Rattle.ll_program.specs.declared.options.CheckOptions.{CheckOptions}
use Rattle.ll_program.specs.declared.serve.ServeOptions.{ServeOptions}
use Rattle.ll_program.specs.declared.denied.Denied.{Denied}
use Rattle.ll_program.specs.declared.report.AnswerForm.{AnswerForm}
use Rattle.ll_program.specs.declared.report.ReportForm.{ReportForm}
use Rattle.ll_program.specs.declared.report.ReportForm.TheVariants as reports
use Rattle.ll_program.specs.declared.export.Form.{Form}
use Rattle.ll_program.specs.declared.export.ExportOptions.{ExportOptions}
use Rattle.ll_program.specs.declared.why.Question.{Question}
use Rattle.ll_program.specs.declared.why.Question.TheVariants.{Command, Entry}
use Rattle.ll_program.specs.declared.why.WhyOptions.{WhyOptions}
use Rattle.ll_program.specs.declared.options.Options.{Options}
use Rattle.ll_program.specs.declared.options.Options.TheVariants.{Run, Schedule, Rights, Audit, Check, Serve, Export}
use Rattle.ll_program.specs.declared.options.Options.TheVariants.{Learn, Why}
use Rattle.ll_program.specs.declared.learn.LearnOptions.{LearnOptions}
use Rattle.ll_program.specs.declared.tree.TreeOptions.{TreeOptions}
pub use Rattle.ll_program.specs.Apps.{abi, audit, check, client_numbers, connection_numbers, connections, counted}
pub use Rattle.ll_program.specs.Apps.{export, file, files, flag, history, history_numbers, idle, idle_seconds}
pub use Rattle.ll_program.specs.Apps.{landtree, learn, lessons, levels, line_number, line_numbers, needed}
pub use Rattle.ll_program.specs.Apps.{node_numbers, nodes, paths, port, ports, repeated, rights, room}
pub use Rattle.ll_program.specs.Apps.{room_megabytes, rule_numbers, run, saved, schedule, script, serve, valued}
pub use Rattle.ll_program.specs.Apps.{why, words, worker_numbers, workers}
pub use Rattle.ll_program.specs.Rights.{RightsOrder, Scope, fits_rights, of_all, of_difference, of_profile, rights_in}
pub use Rattle.ll_program.specs.Rights.{scope_by, scope_fits, scope_of}
pub use Rattle.ll_program.specs.Forms.{answer_form_by, denied_all, denied_by, denied_of, denied_too, form_of}
pub use Rattle.ll_program.specs.Forms.{nothing_denied, report_form_by, report_form_of}

pub record RunOrder : Type 0 where
  pub script : Text
  pub nodes : ℕ
  pub level : Option ℕ
  pub history : ℕ
  pub policy : Option Text
  pub profile : Option Text
  pub save : Option Text
  pub strict : Bool
  pub comments : Bool

pub record ScheduleOrder : Type 0 where
  pub file : Text
  pub nodes : ℕ
  pub level : Option ℕ
  pub history : ℕ
  pub picture : Option Text
  pub from : Option ℕ
  pub to : Option ℕ
  pub strict : Bool

pub record CheckOrder : Type 0 where
  pub files : List Text
  pub nodes : ℕ
  pub level : Option ℕ
  pub policy : Option Text
  pub profile : Option Text
  pub quiet : Bool
  pub verbose : Bool
  pub form : Option ReportForm
  pub schedule : Bool

pub record ServeOrder : Type 0 where
  pub port : ℕ
  pub workers : ℕ
  pub connections : ℕ
  pub idle : Option ℕ
  pub room : ℕ
  pub log : Bool
  pub nodes : ℕ
  pub level : Option ℕ
  pub history : ℕ
  pub policy : Option Text
  pub profile : Option Text
  pub save : Option Text

pub record ExportOrder : Type 0 where
  pub policy : Text
  pub profile : Text
  pub form : Option Form
  pub root : Option Text
  pub also : List Text
  pub follow : Bool
  pub deny : Option Denied
  pub best_effort : Bool
  pub checked : List Text

pub record WhyOrder : Type 0 where
  pub words : List Text
  pub policy : Option Text
  pub profile : Option Text
  pub nodes : ℕ
  pub form : Option AnswerForm

pub record LearnOrder : Type 0 where
  pub files : List Text
  pub policy : Option Text
  pub history : Option Text
  pub client : Option ℕ
  pub name : Option Text
  pub never : Option Text
  pub beneath : List Text
  pub most : Option ℕ
  pub nodes : ℕ

-- what sets up a tree: its limits; its level, or a policy's file and one of its profiles
pub record TreeOrder : Type 0 where
  pub nodes : ℕ
  pub level : Option ℕ
  pub history : ℕ
  pub policy : Option Text
  pub profile : Option Text

pub data Order : Type 0 where
  to_run : RunOrder → Order
  to_audit : Text → Order
  to_schedule : ScheduleOrder → Order
  to_rights : RightsOrder → Order
  to_check : CheckOrder → Order
  to_serve : ServeOrder → Order
  to_export : ExportOrder → Order
  to_why : WhyOrder → Order
  to_learn : LearnOrder → Order

abbrev pub order_in : RunOptions → RunOrder
order_in o =
    let text = option_map (λ t. t.now) in
    record {
      script = o.script.now;
      nodes = o.tree.nodes;
      level = o.tree.level;
      history = o.tree.history;
      policy = text o.tree.policy;
      profile = text o.tree.profile;
      save = text o.save;
      strict = o.strict;
      comments = o.comments;
    }

abbrev pub scheduled_in : ScheduleOptions → ScheduleOrder
scheduled_in o =
    record {
      file = o.file.now;
      nodes = o.nodes;
      level = o.level;
      history = o.history;
      picture = option_map (λ t. t.now) o.picture;
      from = o.from;
      to = o.to;
      strict = o.strict;
    }

abbrev pub checked_in : CheckOptions → CheckOrder
checked_in o =
    let text = option_map (λ t. t.now) in
    record {
      files = map (λ t. t.now) o.files.items;
      nodes = o.nodes;
      level = o.level;
      policy = text o.policy;
      profile = text o.profile;
      quiet = o.quiet;
      verbose = o.verbose;
      form = o.form;
      schedule = o.schedule;
    }

abbrev pub served_in : ServeOptions → ServeOrder
served_in o =
    let text = option_map (λ t. t.now) in
    record {
      port = o.port;
      workers = o.workers;
      connections = o.connections;
      idle = o.idle;
      room = o.room;
      log = o.log;
      nodes = o.tree.nodes;
      level = o.tree.level;
      history = o.tree.history;
      policy = text o.tree.policy;
      profile = text o.tree.profile;
      save = text o.save;
    }

abbrev pub exported_in : ExportOptions → ExportOrder
exported_in o =
    record {
      policy = o.policy.now;
      profile = o.profile.now;
      form = o.form;
      root = option_map (λ t. t.now) o.root;
      also = map (λ t. t.now) o.also.items;
      follow = o.follow;
      deny = o.deny;
      best_effort = o.best_effort;
      checked = map (λ t. t.now) o.checked.items;
    }

abbrev pub why_in : WhyOptions → WhyOrder
why_in o =
    let text = option_map (λ t. t.now) in
    record {
      words = map (λ t. t.now) o.words.items;
      policy = text o.policy;
      profile = text o.profile;
      nodes = o.nodes;
      form = o.form;
    }

abbrev pub learn_in : LearnOptions → LearnOrder
learn_in o =
    let text = option_map (λ t. t.now) in
    record {
      files = map (λ t. t.now) o.files.items;
      policy = text o.policy;
      history = text o.history;
      client = o.client;
      name = text o.name;
      never = text o.never;
      beneath = map (λ t. t.now) o.beneath.items;
      most = o.most;
      nodes = o.nodes;
    }

abbrev pub tree_in : TreeOptions → TreeOrder
tree_in o =
    let text = option_map (λ t. t.now) in
    record {
      nodes = o.nodes;
      level = o.level;
      history = o.history;
      policy = text o.policy;
      profile = text o.profile;
    }

-- the tree of a run
abbrev pub tree_of : RunOrder → TreeOrder
tree_of o =
    record { nodes = o.nodes; level = o.level; history = o.history; policy = o.policy; profile = o.profile }

-- the tree that connections are served on
abbrev pub served_tree : ServeOrder → TreeOrder
served_tree o =
    record { nodes = o.nodes; level = o.level; history = o.history; policy = o.policy; profile = o.profile }

-- a tree for a file of checks, with this much room in its history
abbrev pub checked_tree : CheckOrder → (room : ℕ) → TreeOrder
checked_tree o room =
    record { nodes = o.nodes; level = o.level; history = room; policy = o.policy; profile = o.profile }

-- a tree with a policy's nodes and no layer, for a file of checks to learn from
abbrev pub lesson_tree : LearnOrder → (room : ℕ) → TreeOrder
lesson_tree o room = record { nodes = o.nodes; level = None; history = room; policy = o.policy; profile = None }

-- a tree whose first client has the profile of a policy, and whose history isn't needed
abbrev pub profile_tree : (policy profile : Text) → (nodes : ℕ) → TreeOrder
profile_tree policy profile nodes =
    record { nodes = nodes; level = None; history = 1; policy = Some policy; profile = Some profile }

abbrev pub ordered_in : Options → Order
ordered_in (Run o) = to_run (order_in o)
ordered_in (Schedule o) = to_schedule (scheduled_in o)
ordered_in (Rights o) = to_rights (rights_in o)
ordered_in (Audit file) = to_audit file.now
ordered_in (Check o) = to_check (checked_in o)
ordered_in (Serve o) = to_serve (served_in o)
ordered_in (Export o) = to_export (exported_in o)
ordered_in (Why o) = to_why (why_in o)
ordered_in (Learn o) = to_learn (learn_in o)

-- the number that the text spells, if the parser accepts it
abbrev pub number_in : ValueParser → Text → Option ℕ
number_in parser text = if accepts false parser text then Some (digits_value 10 (without_leading_plus text)) else None

abbrev pub number_of : Text → ValueParser → List Row → Option ℕ
number_of name parser rows = option_and_then (number_in parser) (one_of name rows)

-- whether the flag is given
abbrev pub is_set : Text → List Row → Bool
is_set name rows = option_map_or (λ text. bytes_eq text (codes "true")) (first_of name rows) false

-- what the matches of `run` ask for
abbrev pub run_order : List Row → Option RunOrder
run_order rows =
    option_and_then (λ path. option_and_then (λ n. option_map (λ most. record {
      script = path;
      nodes = n;
      level = number_of (codes "abi") levels rows;
      history = most;
      policy = first_of (codes "policy") rows;
      profile = first_of (codes "profile") rows;
      save = first_of (codes "save") rows;
      strict = is_set (codes "strict") rows;
      comments = is_set (codes "comments") rows;
    })
    (number_of (codes "history") history_numbers rows))
    (number_of (codes "nodes") node_numbers rows))
    (first_of (codes "SCRIPT") rows)

abbrev pub schedule_order : List Row → Option ScheduleOrder
schedule_order rows =
    option_and_then (λ path. option_and_then (λ n. option_map (λ most. record {
      file = path;
      nodes = n;
      level = number_of (codes "abi") levels rows;
      history = most;
      picture = first_of (codes "picture") rows;
      from = number_of (codes "from") line_numbers rows;
      to = number_of (codes "to") line_numbers rows;
      strict = is_set (codes "strict") rows;
    })
    (number_of (codes "history") history_numbers rows))
    (number_of (codes "nodes") node_numbers rows))
    (first_of (codes "FILE") rows)

abbrev pub rights_order : List Row → Option RightsOrder
rights_order rows =
    option_and_then (λ file. option_map (λ n. record {
      policy = file;
      scope = scope_by (first_of (codes "profile") rows) (is_set (codes "all-profiles") rows)
          (first_of (codes "diff") rows);
      nodes = n;
      paths = unwrap_or (all_of (codes "PATH") rows) [];
      layers = is_set (codes "layers") rows;
      form = answer_form_by (first_of (codes "as") rows);
    })
    (number_of (codes "nodes") node_numbers rows))
    (first_of (codes "policy") rows)

abbrev pub check_order : List Row → Option CheckOrder
check_order rows =
    option_and_then (λ paths. option_map (λ n. record {
      files = paths;
      nodes = n;
      level = number_of (codes "abi") levels rows;
      policy = first_of (codes "policy") rows;
      profile = first_of (codes "profile") rows;
      quiet = is_set (codes "quiet") rows;
      verbose = is_set (codes "verbose") rows;
      form = report_form_by (first_of (codes "as") rows);
      schedule = is_set (codes "schedule") rows;
    })
    (number_of (codes "nodes") node_numbers rows))
    (all_of (codes "FILE") rows)

abbrev pub serve_order : List Row → Option ServeOrder
serve_order rows =
    option_and_then (λ at. option_and_then (λ threads. option_and_then (λ all. option_and_then (λ megabytes.
    option_and_then (λ n. option_map (λ most. record {
      port = at;
      workers = threads;
      connections = all;
      idle = number_of (codes "idle") idle_seconds rows;
      room = megabytes;
      log = is_set (codes "log") rows;
      nodes = n;
      level = number_of (codes "abi") levels rows;
      history = most;
      policy = first_of (codes "policy") rows;
      profile = first_of (codes "profile") rows;
      save = first_of (codes "save") rows;
    })
    (number_of (codes "history") history_numbers rows))
    (number_of (codes "nodes") node_numbers rows))
    (number_of (codes "room") room_megabytes rows))
    (number_of (codes "connections") connection_numbers rows))
    (number_of (codes "workers") worker_numbers rows))
    (number_of (codes "port") ports rows)

abbrev pub export_order : List Row → Option ExportOrder
export_order rows =
    option_and_then (λ file. option_map (λ name. record {
      policy = file;
      profile = name;
      form = option_and_then form_of (first_of (codes "as") rows);
      root = first_of (codes "root") rows;
      also = unwrap_or (all_of (codes "also") rows) [];
      follow = is_set (codes "follow") rows;
      deny = denied_of (first_of (codes "deny") rows);
      best_effort = is_set (codes "best-effort") rows;
      checked = unwrap_or (all_of (codes "checked") rows) [];
    })
    (first_of (codes "profile") rows))
    (first_of (codes "policy") rows)

abbrev pub why_order : List Row → Option WhyOrder
why_order rows =
    option_and_then (λ told. option_map (λ n. record {
      words = told;
      policy = first_of (codes "policy") rows;
      profile = first_of (codes "profile") rows;
      nodes = n;
      form = answer_form_by (first_of (codes "as") rows);
    })
    (number_of (codes "nodes") node_numbers rows))
    (all_of (codes "WORD") rows)

abbrev pub learn_order : List Row → Option LearnOrder
learn_order rows =
    option_map (λ n. record {
      files = unwrap_or (all_of (codes "FILE") rows) [];
      policy = first_of (codes "policy") rows;
      history = first_of (codes "saved") rows;
      client = number_of (codes "client") client_numbers rows;
      name = first_of (codes "name") rows;
      never = first_of (codes "never") rows;
      beneath = unwrap_or (all_of (codes "beneath") rows) [];
      most = number_of (codes "most") rule_numbers rows;
      nodes = n;
    })
    (number_of (codes "nodes") node_numbers rows)

abbrev pub ordered : Text → List Row → Option Order
ordered name rows =
    if bytes_eq name (codes "run") then option_map to_run (run_order rows)
    else if bytes_eq name (codes "schedule") then option_map to_schedule (schedule_order rows)
    else if bytes_eq name (codes "rights") then option_map to_rights (rights_order rows)
    else if bytes_eq name (codes "check") then option_map to_check (check_order rows)
    else if bytes_eq name (codes "serve") then option_map to_serve (serve_order rows)
    else if bytes_eq name (codes "export") then option_map to_export (export_order rows)
    else if bytes_eq name (codes "why") then option_map to_why (why_order rows)
    else if bytes_eq name (codes "learn") then option_map to_learn (learn_order rows)
    else option_map to_audit (first_of (codes "FILE") rows)

-- what the named subcommand and its matches ask for
abbrev pub ordered_of : Option (Text × List Row) → Option Order
ordered_of = option_and_then (λ named. ordered named.0 named.1)

abbrev pub ordered_by : List Text → Option Order
ordered_by words = ordered_of (subcommand_of landtree words)

-- a level is given only without a policy, and a profile only with one
abbrev pub go_together : Option ℕ → Option Text → Option Text → Bool
go_together level policy profile = if is_some policy then not (is_some level) else not (is_some profile)

-- the file that an input's word names: none if it is `-`, standard input
abbrev pub file_of : Text → Option Text
file_of word = if bytes_eq word (codes "-") then None else Some word

-- the output file, if there is one, is the file of this input
abbrev pub names_input : Option Text → Option Text → Bool
names_input (Some output) (Some input) = bytes_eq output input
names_input (Some output) None = false
names_input None input = false

abbrev pub fits : RunOrder → Bool
fits o = go_together o.level o.policy o.profile
    && (not (names_input o.save (file_of o.script)) && not (names_input o.save o.policy))

-- lines are chosen only for a picture, and the first of them isn't after the last
abbrev pub may_be_drawn : (picture : Option Text) → (from to : Option ℕ) → Bool
may_be_drawn (Some picture) (Some from) (Some to) = nat_le from to
may_be_drawn (Some picture) from to = true
may_be_drawn None from to = is_none from && is_none to

abbrev pub fits_schedule : ScheduleOrder → Bool
fits_schedule o = not (names_input o.picture (file_of o.file)) && may_be_drawn o.picture o.from o.to

-- whether a report's form goes with these wishes: only a text has fewer tests or more
abbrev pub fits_report : Option ReportForm → (quiet verbose : Bool) → Bool
fits_report None quiet verbose = false
fits_report (Some reports.Text) quiet verbose = not (quiet && verbose)
fits_report (Some form) quiet verbose = not (quiet || verbose)

-- schedules have no policy, and so no profile
abbrev pub fits_check : CheckOrder → Bool
fits_check o = go_together o.level o.policy o.profile && fits_report o.form o.quiet o.verbose
    && not (o.schedule && is_some o.policy)

abbrev pub fits_serve : ServeOrder → Bool
fits_serve o = go_together o.level o.policy o.profile && not (names_input o.save o.policy)

-- it begins with a slash
abbrev pub is_absolute : Text → Bool
is_absolute path = starts_with nat_eq path (codes "/")

-- the words after `--as` and `--deny` exist, and paths are absolute
abbrev pub fits_export : ExportOrder → Bool
fits_export o = (is_some o.form && is_some o.deny)
    && (is_absolute (unwrap_or o.root (codes "/")) && list_all is_absolute o.also)

-- the profile must pass checks
abbrev pub is_checked : ExportOrder → Bool
is_checked o = not (length o.checked == 0)

-- what `why` explains: a command, by a policy and its profile, after others, or an entry of a history, by its number
pub data Asked : Type 0 where
  of_command : (policy profile : Text) → (before : List Text) → (command : Text) → Asked
  of_entry : (history : Text) → ℕ → Asked

abbrev pub question_of : Question → Asked
question_of (Command it) =
    of_command it.policy.now it.profile.now (map (λ w. w.now) it.before.now) it.command.now
question_of (Entry history number) = of_entry history.now number

-- the last of these words, and those before it
abbrev pub last_of : Text → List Text → Text
last_of word [] = word
last_of word (next ∷ words) = last_of next words

abbrev pub before_last : Text → List Text → List Text
before_last word [] = []
before_last word (next ∷ words) = word ∷ before_last next words

abbrev pub asked_in : List Text → Option Text → Option Text → Option Asked
asked_in (word ∷ words) (Some policy) (Some profile) =
    Some (of_command policy profile (before_last word words) (last_of word words))
asked_in (history ∷ (number ∷ [])) None None = option_map (of_entry history) (number_in history_numbers number)
asked_in told policy profile = None

abbrev pub asked_by : WhyOrder → Option Asked
asked_by o = asked_in o.words o.policy o.profile

-- the words ask for something, in a known form
abbrev pub fits_why : WhyOrder → Bool
fits_why o = is_some (asked_by o) && is_some o.form

-- words with these faults end well: there is none, or help or the version is asked for
abbrev pub EndsWell : Kinds → Type 0
EndsWell faults = (faults ≡ []) ⊎ IsAmong DisplayHelp faults ⊎ IsAmong DisplayVersion faults
