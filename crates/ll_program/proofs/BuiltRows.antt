-- The rows of a subcommand, as clap builds them from its arguments.
use Rattle.std.proofs.Common.{◌≡◌, ap, subst, ℕ, Bool, true, false, cond, codes, refl, sym, ◌∙◌, List, []}
use Rattle.std.proofs.Common.{◌∷◌, ◌++◌, ◌||◌, length, Option, None, Some, true≢false}
use Rattle.std.specs.List.{AllByRecursion, find, list_any}
use Rattle.std.specs.Str.{bytes_eq}
use Rattle.clap.specs.Lexer.{usize_max}
use Rattle.clap.specs.Walk.{Row, Rule, Text, at_row, more_values, reading_by}
use Rattle.clap.specs.Walk.{with_values, without}
use Rattle.clap.specs.Simple.{Shape, filled, help_rule, new_rule, with_index}
use Rattle.clap.specs.Kinds.{range_kinds, value_kinds, values_kinds}
use Rattle.clap.specs.ValueTests.{accepts}
use Rattle.clap.specs.Faults.{repeat_fault, set_fault}
use Rattle.clap.specs.declared.error.kind.ErrorKind.{ErrorKind}
use Rattle.clap.specs.declared.builder.value_parser.ValueParser.{ValueParser}
use Rattle.clap.specs.declared.builder.value_parser.ValueParser.TheVariants.{Unsigned}
use Rattle.clap.specs.Values.{refused_kind}
use Rattle.clap.specs.declared.parser.matches.ValueSource.{ValueSource}
use Rattle.clap.specs.declared.parser.matches.ValueSource.TheVariants.{CommandLine}
use Rattle.clap.specs.declared.builder.value_parser.Reading.{Reading}
use Rattle.clap.specs.declared.builder.value_parser.Reading.TheVariants.{AsWritten}
use Rattle.ll_program.specs.Options.{abi, audit, check, connection_numbers, connections, export, file, files}
use Rattle.ll_program.specs.Options.{room, room_megabytes}
use Rattle.ll_program.specs.Options.{flag, history, history_numbers, idle, needed, node_numbers, nodes, paths, port}
use Rattle.ll_program.specs.Options.{ports, rights, run, schedule, script, serve, valued, why, worker_numbers, workers}
use Rattle.ll_program.specs.Options.{client_numbers, counted, learn, lessons, line_number, line_numbers, repeated}
use Rattle.ll_program.specs.Options.{rule_numbers, saved, words}
use Rattle.ll_program.proofs.ArgumentsUsed.{Keeps, no_faults}

-- ---- what the rows of a subcommand hold

-- of the option with this name, a value that its parser accepts
abbrev pub IsRead : Text × ValueParser → Text → Text → Reading → Type 0
IsRead option id v how = bytes_eq id option.0 ≡ true → (accepts false option.1 v ≡ true) × (how ≡ AsWritten)

-- the options whose numbers are there wherever clap finds no fault
abbrev pub numbered : List (Text × ValueParser)
numbered = (codes "nodes", node_numbers) ∷ (codes "history", history_numbers) ∷ (codes "port", ports)
    ∷ (codes "workers", worker_numbers) ∷ (codes "connections", connection_numbers)
    ∷ (codes "room", room_megabytes) ∷ []

-- of each of them, a value that its parser accepts
abbrev pub AreRead : Text → Text → Reading → Type 0
AreRead id v how = AllByRecursion (λ (option : Text × ValueParser). IsRead option id v how) numbered

-- none of them has this name
abbrev pub IsOther : Text → Type 0
IsOther id = list_any (λ (option : Text × ValueParser). bytes_eq id option.0) numbered ≡ false

pub no_option : (e : false ≡ true) → {A : Type 0} → A
no_option e = absurd (true≢false (sym e))

pub others : (id v : Text) (how : Reading) → IsOther id → AreRead id v how
others id v how = of numbered
  where
    of : (options : List (Text × ValueParser))
        → list_any (λ (option : Text × ValueParser). bytes_eq id option.0) options ≡ false
        → AllByRecursion (λ (option : Text × ValueParser). IsRead option id v how) options
    of [] is = tt
    of (option ∷ options) is = go (bytes_eq id option.0) refl is (of options)
      where
        go : (b : Bool) → bytes_eq id option.0 ≡ b
            → (b || list_any (λ (option : Text × ValueParser). bytes_eq id option.0) options) ≡ false
            → (list_any (λ (option : Text × ValueParser). bytes_eq id option.0) options ≡ false
            → AllByRecursion (λ (option : Text × ValueParser). IsRead option id v how) options)
            → IsRead option id v how
            × AllByRecursion (λ (option : Text × ValueParser). IsRead option id v how) options
        go true e is' later = absurd (true≢false is')
        go false e is' later = (λ same. no_option (sym e ∙ same), later is')

-- a first value, and that is read
abbrev pub GoodRow : Row → Type 0
GoodRow r = (v : Text) × (vs : List Text) × (r.values ≡ v ∷ vs) × AreRead r.id v r.reading

abbrev pub Good : List Row → Type 0
Good [] = Unit {0}
Good (r ∷ rs) = GoodRow r × Good rs

pub good_append : (xs ys : List Row) → Good xs → Good ys → Good (xs ++ ys)
good_append [] ys g h = h
good_append (x ∷ xs) ys g h = (g.0, good_append xs ys g.1 h)

pub good_at : (id : Text) (change : Row → List Row) (missing rows : List Row)
    → ((r : Row) → GoodRow r → Good (change r))
    → Good missing → Good rows → Good (at_row id change missing rows)
good_at id change missing [] changes m g = m
good_at id change missing (r ∷ rs) changes m g = go (bytes_eq r.id id) (good_at id change missing rs changes m g.1)
  where
    go : (b : Bool) → Good (at_row id change missing rs)
        → Good (cond b (change r ++ rs) (r ∷ at_row id change missing rs))
    go true later = good_append (change r) rs (changes r g.0) g.1
    go false later = (g.0, later)

pub good_without : (id : Text) (rows : List Row) → Good rows → Good (without id rows)
good_without id rows g = good_at id (λ _. []) [] rows (λ r h. tt) tt g

pub good_values : (id : Text) (how : Reading) (s : ValueSource) (v : Text) (vs : List Text) (rows : List Row)
    → AreRead id v how → Good rows → Good (with_values id how s (v ∷ vs) rows)
good_values id how s v vs rows given g = good_at id (more_values s (v ∷ vs)) _ rows
    (λ r h. ((h.0, h.1 ++ v ∷ vs, ap (λ l. l ++ v ∷ vs) h.2, h.3), tt)) ((v, vs, refl, given), tt) g

-- ---- the arguments, as clap builds them

-- an option of this name with one value, and a number's
abbrev pub option_built : Text → Option ValueParser → List Text → Bool → Rule
option_built name parser defaults is_needed =
    filled (record (valued name) { parser = parser; defaults = defaults; required = is_needed })

-- what has no name, in the first place
abbrev pub placed : Rule → Rule
placed a = with_index 1 (filled a)

abbrev pub help_built : Rule
help_built = filled help_rule

-- the subcommand with these arguments
abbrev pub with_built : Shape → List Rule → Shape
with_built s rules = record s { rules = rules; disable_help_subcommand = true; is_built = true }

abbrev pub run_built : Shape
run_built = with_built run.top
    (placed script ∷ filled nodes ∷ filled abi ∷ filled (valued (codes "policy")) ∷ filled (valued (codes "profile"))
    ∷ filled history ∷ filled (valued (codes "save")) ∷ filled (flag (codes "strict"))
    ∷ filled (flag (codes "comments")) ∷ help_built ∷ [])

abbrev pub audit_built : Shape
audit_built = with_built audit.top (placed file ∷ help_built ∷ [])

abbrev pub schedule_built : Shape
schedule_built = with_built schedule.top
    (placed file ∷ filled nodes ∷ filled abi ∷ filled history ∷ filled (valued (codes "picture"))
    ∷ filled (line_number (codes "from")) ∷ filled (line_number (codes "to")) ∷ filled (flag (codes "strict"))
    ∷ help_built ∷ [])

abbrev pub rights_built : Shape
rights_built = with_built rights.top
    (placed paths ∷ filled (needed (codes "policy")) ∷ filled (valued (codes "profile"))
    ∷ filled (flag (codes "all-profiles")) ∷ filled (valued (codes "diff")) ∷ filled nodes
    ∷ filled (flag (codes "layers")) ∷ filled (valued (codes "as")) ∷ help_built ∷ [])

abbrev pub check_built : Shape
check_built = with_built check.top
    (placed files ∷ filled nodes ∷ filled abi ∷ filled (valued (codes "policy")) ∷ filled (valued (codes "profile"))
    ∷ filled (flag (codes "quiet")) ∷ filled (flag (codes "verbose")) ∷ filled (valued (codes "as"))
    ∷ filled (flag (codes "schedule")) ∷ help_built ∷ [])

abbrev pub serve_built : Shape
serve_built = with_built serve.top
    (filled port ∷ filled workers ∷ filled connections ∷ filled idle ∷ filled room ∷ filled (flag (codes "log"))
    ∷ filled nodes ∷ filled abi ∷ filled (valued (codes "policy")) ∷ filled (valued (codes "profile")) ∷ filled history
    ∷ filled (valued (codes "save")) ∷ help_built ∷ [])

abbrev pub export_built : Shape
export_built = with_built export.top
    (filled (needed (codes "policy")) ∷ filled (needed (codes "profile")) ∷ filled (needed (codes "as"))
    ∷ filled (valued (codes "root")) ∷ filled (repeated (codes "also")) ∷ filled (flag (codes "follow"))
    ∷ filled (valued (codes "deny")) ∷ filled (flag (codes "best-effort"))
    ∷ filled (repeated (codes "checked")) ∷ help_built ∷ [])

abbrev pub why_built : Shape
why_built = with_built why.top
    (placed words ∷ filled (valued (codes "policy")) ∷ filled (valued (codes "profile")) ∷ filled nodes
    ∷ filled (valued (codes "as")) ∷ help_built ∷ [])

abbrev pub learn_built : Shape
learn_built = with_built learn.top
    (placed lessons ∷ filled (valued (codes "policy")) ∷ filled saved
    ∷ filled (counted (codes "client") client_numbers) ∷ filled (valued (codes "name"))
    ∷ filled (valued (codes "never")) ∷ filled (repeated (codes "beneath"))
    ∷ filled (counted (codes "most") rule_numbers) ∷ filled nodes ∷ help_built ∷ [])

-- ---- what each of them keeps

single_keeps : (name : Text) → IsOther name → Keeps Good (placed (record (new_rule name) { required = true }))
single_keeps name other again [] rows e g = absurd cc
single_keeps name other again (v ∷ vs) rows e g =
    good_values name AsWritten CommandLine v vs _ (others name v AsWritten other) (good_without name rows g)

several_keep : (name : Text) (is_needed : Bool) → IsOther name → Keeps Good (placed (record (new_rule name) {
  required = is_needed;
  range = Some (record { start_inclusive = 1; end_inclusive = usize_max });
}))
several_keep name is_needed other again [] rows e g = absurd cc
several_keep name is_needed other again (v ∷ vs) rows e g =
    good_values name AsWritten CommandLine v vs _ (others name v AsWritten other) g

option_keeps : (name : Text) (parser : Option ValueParser) (defaults : List Text) (is_needed : Bool) → IsOther name
    → Keeps Good (option_built name parser defaults is_needed)
option_keeps name parser defaults is_needed other again [] rows e g = absurd cc
option_keeps name parser defaults is_needed other again (v ∷ vs) rows e g =
    let how = reading_by (option_built name parser defaults is_needed) in
    good_values name how CommandLine v vs _ (others name v how other) (good_without name rows g)

valued_keeps : (name : Text) → IsOther name → Keeps Good (filled (valued name))
valued_keeps name = option_keeps name None [] false

needed_keeps : (name : Text) → IsOther name → Keeps Good (filled (needed name))
needed_keeps name = option_keeps name None [] true

saved_keeps : Keeps Good (filled saved)
saved_keeps again [] rows e g = absurd cc
saved_keeps again (v ∷ vs) rows e g =
    let how = reading_by (filled saved) in
    good_values (codes "saved") how CommandLine v vs _ (others (codes "saved") v how refl)
    (good_without (codes "saved") rows g)

flag_keeps : (name : Text) → IsOther name → Keeps Good (filled (flag name))
flag_keeps name other again [] rows e g = good_values name AsWritten CommandLine (codes "true") [] _
    (others name (codes "true") AsWritten other) (good_without name rows g)
flag_keeps name other again (v ∷ vs) rows e g =
    good_values name AsWritten CommandLine v vs _ (others name v AsWritten other) (good_without name rows g)

repeated_keeps : (name : Text) → IsOther name → Keeps Good (filled (repeated name))
repeated_keeps name other again [] rows e g = absurd cc
repeated_keeps name other again (v ∷ vs) rows e g =
    good_values name AsWritten CommandLine v vs _ (others name v AsWritten other) g

accepted : (ignore_case : Bool) (p : ValueParser) (t : Text) → value_kinds ignore_case p t ≡ []
    → accepts ignore_case p t ≡ true
accepted ignore_case p t e = go (accepts ignore_case p t) (refused_kind p) e
  where
    go : (b : Bool) (k : ErrorKind) → cond b [] (k ∷ []) ≡ [] → b ≡ true
    go true k e' = refl
    go false k e' = absurd cc

-- the values of an option that find no fault begin with one that its parser accepts
first_accepted : (parser : ValueParser) (v : Text) (vs : List Text) → values_kinds false parser (v ∷ vs) ≡ []
    → accepts false parser v ≡ true
first_accepted parser v vs values =
    accepted false parser v (no_faults (value_kinds false parser v) (values_kinds false parser vs) values).0

-- of a number's option, the value is one that its parser accepts
number_keeps : (name : Text) (low high : ℕ) (defaults : List Text) (is_needed : Bool)
    → ((v : Text) → accepts false (Unsigned low high) v ≡ true → AreRead name v AsWritten)
    → Keeps Good (option_built name (Some (Unsigned low high)) defaults is_needed)
number_keeps name low high defaults is_needed reads again [] rows e g = absurd cc
number_keeps name low high defaults is_needed reads again (v ∷ vs) rows e g =
    let built = option_built name (Some (Unsigned low high)) defaults is_needed in
    let action : set_fault again built (v ∷ vs) rows ≡ [] = (no_faults (range_kinds 1 1 (length (v ∷ vs))) _ e).1 in
    let values : values_kinds false (Unsigned low high) (v ∷ vs) ≡ [] =
    (no_faults (repeat_fault again name rows) _ action).1 in
    good_values name AsWritten CommandLine v vs _ (reads v (first_accepted (Unsigned low high) v vs values))
    (good_without name rows g)

-- what is read of a value of each of these options
pub nodes_read : (v : Text) → accepts false node_numbers v ≡ true → AreRead (codes "nodes") v AsWritten
nodes_read v is = (
  λ same. (is, refl),
  (
    λ same. no_option same,
    (
      λ same. no_option same,
      (λ same. no_option same, (λ same. no_option same, (λ same. no_option same, tt))),
    ),
  ),
)

pub history_read : (v : Text) → accepts false history_numbers v ≡ true → AreRead (codes "history") v AsWritten
history_read v is = (
  λ same. no_option same,
  (
    λ same. (is, refl),
    (
      λ same. no_option same,
      (λ same. no_option same, (λ same. no_option same, (λ same. no_option same, tt))),
    ),
  ),
)

port_read : (v : Text) → accepts false ports v ≡ true → AreRead (codes "port") v AsWritten
port_read v is = (
  λ same. no_option same,
  (
    λ same. no_option same,
    (
      λ same. (is, refl),
      (λ same. no_option same, (λ same. no_option same, (λ same. no_option same, tt))),
    ),
  ),
)

pub workers_read : (v : Text) → accepts false worker_numbers v ≡ true → AreRead (codes "workers") v AsWritten
workers_read v is = (
  λ same. no_option same,
  (
    λ same. no_option same,
    (
      λ same. no_option same,
      (λ same. (is, refl), (λ same. no_option same, (λ same. no_option same, tt))),
    ),
  ),
)

pub connections_read : (v : Text) → accepts false connection_numbers v ≡ true
    → AreRead (codes "connections") v AsWritten
connections_read v is = (
  λ same. no_option same,
  (
    λ same. no_option same,
    (
      λ same. no_option same,
      (λ same. no_option same, (λ same. (is, refl), (λ same. no_option same, tt))),
    ),
  ),
)

pub room_read : (v : Text) → accepts false room_megabytes v ≡ true → AreRead (codes "room") v AsWritten
room_read v is = (
  λ same. no_option same,
  (
    λ same. no_option same,
    (
      λ same. no_option same,
      (λ same. no_option same, (λ same. no_option same, (λ same. (is, refl), tt))),
    ),
  ),
)

nodes_keep : Keeps Good (filled nodes)
nodes_keep = number_keeps (codes "nodes") 1 4096 (codes "1024" ∷ []) false nodes_read

history_keeps : Keeps Good (filled history)
history_keeps = number_keeps (codes "history") 1 1000000 (codes "10000" ∷ []) false history_read

port_keeps : Keeps Good (filled port)
port_keeps = number_keeps (codes "port") 1 65535 [] true port_read

workers_keep : Keeps Good (filled workers)
workers_keep = number_keeps (codes "workers") 1 32 (codes "4" ∷ []) false workers_read

connections_keep : Keeps Good (filled connections)
connections_keep = number_keeps (codes "connections") 1 62 (codes "1" ∷ []) false connections_read

room_keeps : Keeps Good (filled room)
room_keeps = number_keeps (codes "room") 1 65536 (codes "64" ∷ []) false room_read

abi_keeps : Keeps Good (filled abi)
abi_keeps = option_keeps (codes "abi") abi.parser [] false refl

idle_keeps : Keeps Good (filled idle)
idle_keeps = option_keeps (codes "idle") idle.parser [] false refl

line_number_keeps : (name : Text) → IsOther name → Keeps Good (filled (line_number name))
line_number_keeps name = option_keeps name (Some line_numbers) [] false

help_keeps : Keeps Good help_built
help_keeps again values rows e g = g

found_there : (P : Rule → Type 0) (p : Rule → Bool) (rules : List Rule) (a : Rule) → AllByRecursion P rules
    → find p rules ≡ Some a → P a
found_there P p [] a all e = absurd cc
found_there P p (x ∷ xs) a all e = go (p x) e (λ e'. found_there P p xs a all.1 e')
  where
    go : (b : Bool) → cond b (Some x) (find p xs) ≡ Some a → (find p xs ≡ Some a → P a) → P a
    go true e' later = let same : x ≡ a = cc in subst P same all.0
    go false e' later = later e'

-- each argument of the subcommand keeps what is known of the rows
abbrev pub AllKeep : Shape → Type 0
AllKeep s = (p : Rule → Bool) (a : Rule) → find p s.rules ≡ Some a → Keeps Good a

pub run_keeps : AllKeep run_built
run_keeps p a e = found_there (Keeps Good) p run_built.rules a (
  single_keeps (codes "SCRIPT") refl,
  (
    nodes_keep,
    (
      abi_keeps,
      (
        valued_keeps (codes "policy") refl,
        (
          valued_keeps (codes "profile") refl,
          (
            history_keeps,
            (
              valued_keeps (codes "save") refl,
              (flag_keeps (codes "strict") refl, (flag_keeps (codes "comments") refl, (help_keeps, tt))),
            ),
          ),
        ),
      ),
    ),
  ),
) e

pub audit_keeps : AllKeep audit_built
audit_keeps p a e =
    found_there (Keeps Good) p audit_built.rules a (single_keeps (codes "FILE") refl, (help_keeps, tt)) e

pub schedule_keeps : AllKeep schedule_built
schedule_keeps p a e = found_there (Keeps Good) p schedule_built.rules a (
  single_keeps (codes "FILE") refl,
  (
    nodes_keep,
    (
      abi_keeps,
      (
        history_keeps,
        (
          valued_keeps (codes "picture") refl,
          (
            line_number_keeps (codes "from") refl,
            (line_number_keeps (codes "to") refl, (flag_keeps (codes "strict") refl, (help_keeps, tt))),
          ),
        ),
      ),
    ),
  ),
) e

pub rights_keep : AllKeep rights_built
rights_keep p a e = found_there (Keeps Good) p rights_built.rules a (
  several_keep (codes "PATH") false refl,
  (
    needed_keeps (codes "policy") refl,
    (
      valued_keeps (codes "profile") refl,
      (
        flag_keeps (codes "all-profiles") refl,
        (
          valued_keeps (codes "diff") refl,
          (
            nodes_keep,
            (flag_keeps (codes "layers") refl, (valued_keeps (codes "as") refl, (help_keeps, tt))),
          ),
        ),
      ),
    ),
  ),
) e

pub check_keeps : AllKeep check_built
check_keeps p a e = found_there (Keeps Good) p check_built.rules a (
  several_keep (codes "FILE") true refl,
  (
    nodes_keep,
    (
      abi_keeps,
      (
        valued_keeps (codes "policy") refl,
        (
          valued_keeps (codes "profile") refl,
          (
            flag_keeps (codes "quiet") refl,
            (
              flag_keeps (codes "verbose") refl,
              (valued_keeps (codes "as") refl, (flag_keeps (codes "schedule") refl, (help_keeps, tt))),
            ),
          ),
        ),
      ),
    ),
  ),
) e

pub serve_keeps : AllKeep serve_built
serve_keeps p a e = found_there (Keeps Good) p serve_built.rules a (
  port_keeps,
  (
    workers_keep,
    (
      connections_keep,
      (
        idle_keeps,
        (
          room_keeps,
          (
            flag_keeps (codes "log") refl,
            (
              nodes_keep,
              (
                abi_keeps,
                (
                  valued_keeps (codes "policy") refl,
                  (
                    valued_keeps (codes "profile") refl,
                    (history_keeps, (valued_keeps (codes "save") refl, (help_keeps, tt))),
                  ),
                ),
              ),
            ),
          ),
        ),
      ),
    ),
  ),
) e

pub export_keeps : AllKeep export_built
export_keeps p a e = found_there (Keeps Good) p export_built.rules a (
  needed_keeps (codes "policy") refl,
  (
    needed_keeps (codes "profile") refl,
    (
      needed_keeps (codes "as") refl,
      (
        valued_keeps (codes "root") refl,
        (
          repeated_keeps (codes "also") refl,
          (
            flag_keeps (codes "follow") refl,
            (
              valued_keeps (codes "deny") refl,
              (
                flag_keeps (codes "best-effort") refl,
                (repeated_keeps (codes "checked") refl, (help_keeps, tt)),
              ),
            ),
          ),
        ),
      ),
    ),
  ),
) e

pub why_keeps : AllKeep why_built
why_keeps p a e = found_there (Keeps Good) p why_built.rules a (
  several_keep (codes "WORD") true refl,
  (
    valued_keeps (codes "policy") refl,
    (
      valued_keeps (codes "profile") refl,
      (nodes_keep, (valued_keeps (codes "as") refl, (help_keeps, tt))),
    ),
  ),
) e

pub learn_keeps : AllKeep learn_built
learn_keeps p a e = found_there (Keeps Good) p learn_built.rules a (
  several_keep (codes "FILE") false refl,
  (
    valued_keeps (codes "policy") refl,
    (
      saved_keeps,
      (
        option_keeps (codes "client") (Some client_numbers) [] false refl,
        (
          valued_keeps (codes "name") refl,
          (
            valued_keeps (codes "never") refl,
            (
              repeated_keeps (codes "beneath") refl,
              (
                option_keeps (codes "most") (Some rule_numbers) [] false refl,
                (nodes_keep, (help_keeps, tt)),
              ),
            ),
          ),
        ),
      ),
    ),
  ),
) e
