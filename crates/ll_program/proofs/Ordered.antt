-- Words in which clap finds no fault want a run, with a script and its numbers, an audit of a file, a schedule,
-- rights, a check, a serving with its port and its numbers, an export, a why, or a learning.
use Rattle.std.proofs.Common.{◌≡◌, ◌≢◌, ◌∙◌, ap, ap₂, subst, ℕ, Bool, true, false, cond, codes, refl, sym, List, []}
use Rattle.std.proofs.Common.{◌∷◌, not, Option, Some, None, is_some, ◌||◌, true≢false}
use Rattle.std.specs.Prelude.{option_and_then, option_map, slice_get}
use Rattle.std.specs.List.{find, list_any}
use Rattle.std.specs.Option.{option_map_or}
use Rattle.std.specs.Str.{bytes_eq}
use Rattle.std.specs.Str.Parse.{digits_value, without_leading_plus}
use Rattle.clap.specs.Facts.{explicit_source}
use Rattle.clap.specs.Words.{all_of, first_of}
use Rattle.clap.specs.Walk.{Row, Text, has_row, nothing_held, row_text, rows_after}
use Rattle.clap.specs.Simple.{Shape, argument_words, built, rows_at}
use Rattle.clap.specs.Takes.{is_given}
use Rattle.clap.specs.ValueTests.{accepts}
use Rattle.clap.specs.Faults.{fault_of, level_fault}
use Rattle.clap.specs.declared.builder.value_parser.ValueParser.{ValueParser}
use Rattle.clap.specs.declared.error.kind.ErrorKind.TheVariants.{MissingRequiredArgument}
use Rattle.clap.specs.Values.{read_as}
use Rattle.clap.specs.declared.builder.value_parser.Reading.{Reading}
use Rattle.clap.specs.declared.builder.value_parser.Reading.TheVariants.{AsWritten}
use Rattle.ll_program.specs.Options.{check_order, connection_numbers, export_order, history_numbers, landtree}
use Rattle.ll_program.specs.Options.{learn_order, to_learn}
use Rattle.ll_program.specs.Options.{node_numbers, number_in, number_of, ordered, ordered_by, ports, rights_order}
use Rattle.ll_program.specs.Options.{room_megabytes}
use Rattle.ll_program.specs.Options.{run_order, schedule_order, serve_order, to_audit, to_check, to_export, to_rights}
use Rattle.ll_program.specs.Options.{to_run, to_schedule, to_serve, to_why, why_order, worker_numbers}
use Rattle.ll_program.proofs.Entered.{built_enters}
use Rattle.ll_program.proofs.Numbers.{whole, whole_check, whole_export, whole_rights, whole_schedule, whole_serve}
use Rattle.ll_program.proofs.Numbers.{whole_learn, whole_why}
use Rattle.ll_program.proofs.Defaults.{EndsIn, ends_in}
use Rattle.ll_program.proofs.BuiltRows.{AreRead, Good, GoodRow, IsOther, IsRead, audit_built, audit_keeps, check_built}
use Rattle.ll_program.proofs.BuiltRows.{check_keeps, connections_read, export_built, export_keeps, history_read}
use Rattle.ll_program.proofs.BuiltRows.{nodes_read, others, rights_built, rights_keep, room_read, run_built, run_keeps}
use Rattle.ll_program.proofs.BuiltRows.{schedule_built, schedule_keeps, serve_built, serve_keeps, why_built}
use Rattle.ll_program.proofs.BuiltRows.{learn_built, learn_keeps, why_keeps, workers_read}

-- ---- what is read of the rows

found_good : (p : Row → Bool) (rows : List Row) (r : Row) → find p rows ≡ Some r → Good rows → GoodRow r × (p r ≡ true)
found_good p [] r e g = absurd cc
found_good p (x ∷ xs) r e g = go (p x) refl e (λ e'. found_good p xs r e' g.1)
  where
    go : (b : Bool) → p x ≡ b → cond b (Some x) (find p xs) ≡ Some r → (find p xs ≡ Some r → GoodRow r × (p r ≡ true))
        → GoodRow r × (p r ≡ true)
    go true is e' later = let same : x ≡ r = cc in subst (λ y. GoodRow y × (p y ≡ true)) same (g.0, is)
    go false is e' later = later e'

found_any : (p : Row → Bool) (rows : List Row) → list_any p rows ≡ true → is_some (find p rows) ≡ true
found_any p [] e = e
found_any p (x ∷ xs) e = go (p x) e (found_any p xs)
  where
    go : (b : Bool) → (b || list_any p xs) ≡ true → (list_any p xs ≡ true → is_some (find p xs) ≡ true)
        → is_some (cond b (Some x) (find p xs)) ≡ true
    go true e' later = refl
    go false e' later = later e'

number_read : (parser : ValueParser) (o : Option Row) → is_some o ≡ true
    → ((r : Row) → o ≡ Some r → (v : Text) × (vs : List Text) × (r.values ≡ v ∷ vs) × (accepts false parser v ≡ true)
    × (r.reading ≡ AsWritten))
    → (n : ℕ) × (option_and_then (number_in parser) (option_and_then row_text o) ≡ Some n)
number_read parser None has good = absurd (true≢false (sym has))
number_read parser (Some r) has good =
    let row = good r refl in
    let n = digits_value 10 (without_leading_plus row.0) in (
      n,
      ap₂ (λ (how : Reading) (l : List Text). option_and_then (number_in parser)
          (option_map (read_as how) (slice_get l 0))) row.4 row.2 ∙ ap (λ (b : Bool). cond b (Some n) None) row.3,
    )

text_read : (o : Option Row) → option_map_or (λ r. explicit_source r.source) o false ≡ true
    → ((r : Row) → o ≡ Some r → GoodRow r) → (t : Text) × (option_and_then (λ r. slice_get r.values 0) o ≡ Some t)
text_read None has good = absurd (true≢false (sym has))
text_read (Some r) has good = let row = good r refl in (row.0, ap (λ (l : List Text). slice_get l 0) row.2)

-- the values of a row that is there
texts_read : (o : Option Row) → option_map_or (λ r. explicit_source r.source) o false ≡ true
    → (ts : List Text) × (option_map (λ (r : Row). r.values) o ≡ Some ts)
texts_read None has = absurd (true≢false (sym has))
texts_read (Some r) has = (r.values, refl)

there : (o : Option Row) → option_map_or (λ r. explicit_source r.source) o false ≡ true → is_some o ≡ true
there None has = has
there (Some r) has = refl

module _ (rows : List Row) (good : Good rows) where
  text_of : (name : Text) → is_given name rows ≡ true → (t : Text) × (first_of name rows ≡ Some t)
  text_of name has =
      text_read (find (λ r. bytes_eq r.id name) rows) has (λ r is. (found_good _ rows r is good).0)

  texts_of : (name : Text) → is_given name rows ≡ true → (ts : List Text) × (all_of name rows ≡ Some ts)
  texts_of name has = texts_read (find (λ r. bytes_eq r.id name) rows) has

  -- where what is read of a value of this option is known
  module _ (name : Text) (parser : ValueParser)
      (reads : (id v : Text) (how : Reading) → AreRead id v how → IsRead (name, parser) id v how) where
    number_found : is_some (find (λ r. bytes_eq r.id name) rows) ≡ true
        → (n : ℕ) × (number_of name parser rows ≡ Some n)
    number_found has = number_read parser (find (λ r. bytes_eq r.id name) rows) has (λ r is.
        let row = found_good _ rows r is good in
        let fits = reads r.id row.0.0 r.reading row.0.3 row.1 in (row.0.0, row.0.1, row.0.2, fits.0, fits.1))

    number_there : has_row name rows ≡ true → (n : ℕ) × (number_of name parser rows ≡ Some n)
    number_there has = number_found (found_any _ rows has)

    number_given : is_given name rows ≡ true → (n : ℕ) × (number_of name parser rows ≡ Some n)
    number_given has = number_found (there (find (λ r. bytes_eq r.id name) rows) has)

  nodes_of : has_row (codes "nodes") rows ≡ true → (n : ℕ) × (number_of (codes "nodes") node_numbers rows ≡ Some n)
  nodes_of = number_there (codes "nodes") node_numbers (λ id v how read. read.0)

  history_of : has_row (codes "history") rows ≡ true
      → (n : ℕ) × (number_of (codes "history") history_numbers rows ≡ Some n)
  history_of = number_there (codes "history") history_numbers (λ id v how read. read.1.0)

  port_of : is_given (codes "port") rows ≡ true → (n : ℕ) × (number_of (codes "port") ports rows ≡ Some n)
  port_of = number_given (codes "port") ports (λ id v how read. read.1.1.0)

  workers_of : has_row (codes "workers") rows ≡ true
      → (n : ℕ) × (number_of (codes "workers") worker_numbers rows ≡ Some n)
  workers_of = number_there (codes "workers") worker_numbers (λ id v how read. read.1.1.1.0)

  connections_of : has_row (codes "connections") rows ≡ true
      → (n : ℕ) × (number_of (codes "connections") connection_numbers rows ≡ Some n)
  connections_of = number_there (codes "connections") connection_numbers (λ id v how read. read.1.1.1.1.0)

  room_of : has_row (codes "room") rows ≡ true
      → (n : ℕ) × (number_of (codes "room") room_megabytes rows ≡ Some n)
  room_of = number_there (codes "room") room_megabytes (λ id v how read. read.1.1.1.1.1.0)

-- a required argument is given
given : (b others : Bool) → cond (not b || others) (MissingRequiredArgument ∷ []) [] ≡ [] → b ≡ true
given true others e = refl
given false others e = absurd cc

-- so are two
both_given : (a b others : Bool) → cond (not a || (not b || others)) (MissingRequiredArgument ∷ []) [] ≡ []
    → (a ≡ true) × (b ≡ true)
both_given true true others e = (refl, refl)
both_given true false others e = absurd cc
both_given false b others e = absurd cc

-- ---- the subcommands

-- where the subcommand's level finds no fault, these are its rows
abbrev Ends : Shape → List Text → Type 0
Ends s rest = EndsIn s (rows_after s.rules [] rest)

-- what is read of the defaults
nodes_default : AreRead (codes "nodes") (codes "1024") AsWritten
nodes_default = nodes_read (codes "1024") refl

history_default : AreRead (codes "history") (codes "10000") AsWritten
history_default = history_read (codes "10000") refl

flag_default : (name : Text) → IsOther name → AreRead name (codes "false") AsWritten
flag_default name other = others name (codes "false") AsWritten other

run_ends : (rest : List Text) → level_fault run_built [] nothing_held rest false [] ≡ [] → Ends run_built rest
run_ends = ends_in run_built run_keeps (
  tt,
  (
    nodes_default,
    (
      tt,
      (
        tt,
        (
          tt,
          (
            history_default,
            (
              tt,
              (flag_default (codes "strict") refl, (flag_default (codes "comments") refl, (tt, tt))),
            ),
          ),
        ),
      ),
    ),
  ),
)

audit_ends : (rest : List Text) → level_fault audit_built [] nothing_held rest false [] ≡ [] → Ends audit_built rest
audit_ends = ends_in audit_built audit_keeps (tt, (tt, tt))

schedule_ends : (rest : List Text) → level_fault schedule_built [] nothing_held rest false [] ≡ []
    → Ends schedule_built rest
schedule_ends = ends_in schedule_built schedule_keeps
    (tt, (nodes_default, (tt, (history_default, (tt, (tt, (tt, (flag_default (codes "strict") refl, (tt, tt)))))))))

rights_ends : (rest : List Text) → level_fault rights_built [] nothing_held rest false [] ≡ [] → Ends rights_built rest
rights_ends = ends_in rights_built rights_keep (
  tt,
  (
    tt,
    (
      tt,
      (
        flag_default (codes "all-profiles") refl,
        (
          tt,
          (nodes_default, (flag_default (codes "layers") refl, (tt, (tt, tt)))),
        ),
      ),
    ),
  ),
)

check_ends : (rest : List Text) → level_fault check_built [] nothing_held rest false [] ≡ [] → Ends check_built rest
check_ends = ends_in check_built check_keeps (
  tt,
  (
    nodes_default,
    (
      tt,
      (
        tt,
        (
          tt,
          (
            flag_default (codes "quiet") refl,
            (
              flag_default (codes "verbose") refl,
              (tt, (flag_default (codes "schedule") refl, (tt, tt))),
            ),
          ),
        ),
      ),
    ),
  ),
)

serve_ends : (rest : List Text) → level_fault serve_built [] nothing_held rest false [] ≡ [] → Ends serve_built rest
serve_ends = ends_in serve_built serve_keeps (
  tt,
  (
    workers_read (codes "4") refl,
    (
      connections_read (codes "1") refl,
      (
        tt,
        (
          room_read (codes "64") refl,
          (
            flag_default (codes "log") refl,
            (nodes_default, (tt, (tt, (tt, (history_default, (tt, (tt, tt))))))),
          ),
        ),
      ),
    ),
  ),
)

export_ends : (rest : List Text) → level_fault export_built [] nothing_held rest false [] ≡ [] → Ends export_built rest
export_ends = ends_in export_built export_keeps (
  tt,
  (
    tt,
    (
      tt,
      (
        tt,
        (
          tt,
          (
            flag_default (codes "follow") refl,
            (
              tt,
              (flag_default (codes "best-effort") refl, (tt, (tt, tt))),
            ),
          ),
        ),
      ),
    ),
  ),
)

why_ends : (rest : List Text) → level_fault why_built [] nothing_held rest false [] ≡ [] → Ends why_built rest
why_ends = ends_in why_built why_keeps (tt, (tt, (tt, (nodes_default, (tt, (tt, tt))))))

learn_ends : (rest : List Text) → level_fault learn_built [] nothing_held rest false [] ≡ [] → Ends learn_built rest
learn_ends = ends_in learn_built learn_keeps
    (tt, (tt, (tt, (tt, (tt, (tt, (tt, (tt, (nodes_default, (tt, tt))))))))))

run_wanted : (rest : List Text) → level_fault run_built [] nothing_held rest false [] ≡ []
    → is_some (run_order (rows_after run_built.rules [] rest)) ≡ true
run_wanted rest e =
    let rows = rows_after run_built.rules [] rest in
    let ends = run_ends rest e in
    let path = text_of rows ends.0 (codes "SCRIPT") (given (is_given (codes "SCRIPT") rows) _ ends.2) in
    let n = nodes_of rows ends.0 (ends.1.1.0 tt) in
    let most = history_of rows ends.0 (ends.1.1.1.1.1.1.0 tt) in
    whole _ _ _ _ _ _ _ _ _ path.0 n.0 most.0 path.1 n.1 most.1

audit_wanted : (rest : List Text) → level_fault audit_built [] nothing_held rest false [] ≡ []
    → is_some (first_of (codes "FILE") (rows_after audit_built.rules [] rest)) ≡ true
audit_wanted rest e =
    let rows = rows_after audit_built.rules [] rest in
    let ends = audit_ends rest e in
    ap is_some (text_of rows ends.0 (codes "FILE") (given (is_given (codes "FILE") rows) _ ends.2)).1

schedule_wanted : (rest : List Text) → level_fault schedule_built [] nothing_held rest false [] ≡ []
    → is_some (schedule_order (rows_after schedule_built.rules [] rest)) ≡ true
schedule_wanted rest e =
    let rows = rows_after schedule_built.rules [] rest in
    let ends = schedule_ends rest e in
    let path = text_of rows ends.0 (codes "FILE") (given (is_given (codes "FILE") rows) _ ends.2) in
    let n = nodes_of rows ends.0 (ends.1.1.0 tt) in
    let most = history_of rows ends.0 (ends.1.1.1.1.0 tt) in
    whole_schedule _ _ _ _ _ _ _ _ path.0 n.0 most.0 path.1 n.1 most.1

rights_wanted : (rest : List Text) → level_fault rights_built [] nothing_held rest false [] ≡ []
    → is_some (rights_order (rows_after rights_built.rules [] rest)) ≡ true
rights_wanted rest e =
    let rows = rows_after rights_built.rules [] rest in
    let ends = rights_ends rest e in
    let policy = text_of rows ends.0 (codes "policy") (given (is_given (codes "policy") rows) _ ends.2) in
    let n = nodes_of rows ends.0 (ends.1.1.1.1.1.1.0 tt) in
    whole_rights _ _ _ _ _ _ policy.0 n.0 policy.1 n.1

check_wanted : (rest : List Text) → level_fault check_built [] nothing_held rest false [] ≡ []
    → is_some (check_order (rows_after check_built.rules [] rest)) ≡ true
check_wanted rest e =
    let rows = rows_after check_built.rules [] rest in
    let ends = check_ends rest e in
    let paths = texts_of rows ends.0 (codes "FILE") (given (is_given (codes "FILE") rows) _ ends.2) in
    let n = nodes_of rows ends.0 (ends.1.1.0 tt) in
    whole_check _ _ _ _ _ _ _ _ _ paths.0 n.0 paths.1 n.1

serve_wanted : (rest : List Text) → level_fault serve_built [] nothing_held rest false [] ≡ []
    → is_some (serve_order (rows_after serve_built.rules [] rest)) ≡ true
serve_wanted rest e =
    let rows = rows_after serve_built.rules [] rest in
    let ends = serve_ends rest e in
    let at = port_of rows ends.0 (given (is_given (codes "port") rows) _ ends.2) in
    let threads = workers_of rows ends.0 (ends.1.1.0 tt) in
    let all = connections_of rows ends.0 (ends.1.1.1.0 tt) in
    let room = room_of rows ends.0 (ends.1.1.1.1.1.0 tt) in
    let n = nodes_of rows ends.0 (ends.1.1.1.1.1.1.1.0 tt) in
    let most = history_of rows ends.0 (ends.1.1.1.1.1.1.1.1.1.1.1.0 tt) in
    whole_serve _ _ _ _ _ _ _ _ _ _ _ _ at.0 threads.0 all.0 room.0 n.0 most.0 at.1 threads.1 all.1 room.1 n.1 most.1

export_wanted : (rest : List Text) → level_fault export_built [] nothing_held rest false [] ≡ []
    → is_some (export_order (rows_after export_built.rules [] rest)) ≡ true
export_wanted rest e =
    let rows = rows_after export_built.rules [] rest in
    let ends = export_ends rest e in
    let told = both_given (is_given (codes "policy") rows) (is_given (codes "profile") rows) _ ends.2 in
    let policy = text_of rows ends.0 (codes "policy") told.0 in
    let profile = text_of rows ends.0 (codes "profile") told.1 in
    whole_export _ _ _ _ _ _ _ _ _ policy.0 profile.0 policy.1 profile.1

why_wanted : (rest : List Text) → level_fault why_built [] nothing_held rest false [] ≡ []
    → is_some (why_order (rows_after why_built.rules [] rest)) ≡ true
why_wanted rest e =
    let rows = rows_after why_built.rules [] rest in
    let ends = why_ends rest e in
    let told = texts_of rows ends.0 (codes "WORD") (given (is_given (codes "WORD") rows) _ ends.2) in
    let n = nodes_of rows ends.0 (ends.1.1.1.1.0 tt) in
    whole_why _ _ _ _ _ told.0 n.0 told.1 n.1

learn_wanted : (rest : List Text) → level_fault learn_built [] nothing_held rest false [] ≡ []
    → is_some (learn_order (rows_after learn_built.rules [] rest)) ≡ true
learn_wanted rest e =
    let rows = rows_after learn_built.rules [] rest in
    let ends = learn_ends rest e in
    let n = nodes_of rows ends.0 (ends.1.1.1.1.1.1.1.1.1.0 tt) in
    whole_learn _ _ _ _ _ _ _ _ _ n.0 n.1

is_some-map : {A B : Type 0} (f : A → B) (o : Option A) → is_some o ≡ true → is_some (option_map f o) ≡ true
is_some-map f None e = e
is_some-map f (Some x) e = refl

-- where the subcommand's level finds no fault, its words want something
abbrev Wants : Shape → Type 0
Wants sub = (rest : List Text) → level_fault sub [] nothing_held rest false [] ≡ []
    → is_some (ordered (rows_at sub rest).0 (rows_at sub rest).1) ≡ true

pub never_none : (words : List Text) → fault_of landtree words ≡ [] → ordered_by words ≢ None
never_none words e none =
    let found = built_enters (built landtree)
    (run_built ∷ audit_built ∷ schedule_built ∷ rights_built ∷ check_built ∷ serve_built ∷ export_built ∷ why_built
    ∷ learn_built ∷ []) _
    refl refl refl Wants (
      λ rest f. is_some-map to_run _ (run_wanted rest f),
      (
        λ rest f. is_some-map to_audit _ (audit_wanted rest f),
        (
          λ rest f. is_some-map to_schedule _ (schedule_wanted rest f),
          (
            λ rest f. is_some-map to_rights _ (rights_wanted rest f),
            (
              λ rest f. is_some-map to_check _ (check_wanted rest f),
              (
                λ rest f. is_some-map to_serve _ (serve_wanted rest f),
                (
                  λ rest f. is_some-map to_export _ (export_wanted rest f),
                  (
                    λ rest f. is_some-map to_why _ (why_wanted rest f),
                    (λ rest f. is_some-map to_learn _ (learn_wanted rest f), tt),
                  ),
                ),
              ),
            ),
          ),
        ),
      ),
    ) (argument_words landtree words) refl refl e in
    let entered = found.2 in
    true≢false (sym (found.1 entered.0 entered.2)
    ∙ ap is_some (sym (ap (option_and_then (λ named. ordered named.0 named.1)) entered.1) ∙ none))
