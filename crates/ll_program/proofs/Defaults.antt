-- The rows of a subcommand in the end, where clap finds no fault: each argument that has a default is among them, and
-- what is known of the rows still holds.
use Rattle.std.proofs.Common.{◌≡◌, ◌∙◌, ap, Bool, true, false, cond, refl, sym, List, [], ◌∷◌, ◌++◌, ◌||◌, true≢false}
use Rattle.std.specs.List.{AllByRecursion, fold}
use Rattle.std.specs.Str.{bytes_eq}
use Rattle.std.proofs.lemmas.Slice.Eq.{bytes_eq-Decides}
use Rattle.clap.specs.Walk.{Row, Rule, Text, default_rows, has_row, more_values, nothing_held, reading_by, rows_after}
use Rattle.clap.specs.Walk.{settled, walk, walk_from, with_default, with_values}
use Rattle.clap.specs.Simple.{Shape}
use Rattle.clap.specs.Faults.{check_fault, level_fault}
use Rattle.clap.specs.declared.parser.matches.ValueSource.{ValueSource}
use Rattle.clap.specs.declared.parser.matches.ValueSource.TheVariants.{DefaultValue}
use Rattle.clap.specs.declared.builder.value_parser.Reading.{Reading}
use Rattle.ll_program.proofs.ArgumentsUsed.{by_words, no_faults, settles}
use Rattle.ll_program.proofs.BuiltRows.{AllKeep, AreRead, Good, good_values}

row_there : (id : Text) (s : ValueSource) (how : Reading) (vs : List Text) (rows : List Row) → bytes_eq id id ≡ true
    → has_row id (with_values id how s vs rows) ≡ true
row_there id s how vs [] same = ap (λ b. b || false) same
row_there id s how vs (r ∷ rs) same = go (bytes_eq r.id id) refl (row_there id s how vs rs same)
  where
    go : (b : Bool) → bytes_eq r.id id ≡ b → has_row id (with_values id how s vs rs) ≡ true
        → has_row id (cond b (more_values s vs r ++ rs) (r ∷ with_values id how s vs rs)) ≡ true
    go true e later = rw e refl
    go false e later = rw e later

-- a row stays when another is put in
row_stays : (name id : Text) (s : ValueSource) (how : Reading) (vs : List Text) (rows : List Row)
    → has_row name rows ≡ true → has_row name (with_values id how s vs rows) ≡ true
row_stays name id s how vs [] e = absurd (true≢false (sym e))
row_stays name id s how vs (r ∷ rs) e =
    go (bytes_eq r.id id) (bytes_eq r.id name) refl e (row_stays name id s how vs rs)
  where
    go : (b n : Bool) → bytes_eq r.id name ≡ n → (n || has_row name rs) ≡ true
        → (has_row name rs ≡ true → has_row name (with_values id how s vs rs) ≡ true)
        → has_row name (cond b (more_values s vs r ++ rs) (r ∷ with_values id how s vs rs)) ≡ true
    go true n is e' later = ap (λ (x : Bool). x || has_row name rs) is ∙ e'
    go false true is e' later = ap (λ (x : Bool). x || has_row name (with_values id how s vs rs)) is
    go false false is e' later = ap (λ (x : Bool). x || has_row name (with_values id how s vs rs)) is ∙ later e'

-- ---- one argument

-- what is read of its default, if it has one
abbrev DefaultRead : Text → Reading → List Text → Type 0
DefaultRead id how [] = Unit {0}
DefaultRead id how (v ∷ vs) = AreRead id v how

abbrev pub GoodDefault : Rule → Type 0
GoodDefault a = DefaultRead a.id (reading_by a) a.defaults

-- it has a default
abbrev IsThere : List Text → Type 0
IsThere [] = ⊥
IsThere (v ∷ vs) = Unit {0}

good_rows : (id : Text) (how : Reading) (values : List Text) (rows : List Row) (b : Bool) → DefaultRead id how values
    → Good rows → Good (cond b rows (default_rows id how values rows))
good_rows id how values rows true d g = g
good_rows id how [] rows false d g = g
good_rows id how (v ∷ vs) rows false d g = good_values id how DefaultValue v vs rows d g

kept_row : (name id : Text) (how : Reading) (values : List Text) (rows : List Row) (b : Bool)
    → has_row name rows ≡ true → has_row name (cond b rows (default_rows id how values rows)) ≡ true
kept_row name id how values rows true e = e
kept_row name id how [] rows false e = e
kept_row name id how (v ∷ vs) rows false e = row_stays name id DefaultValue how (v ∷ vs) rows e

new_row : (id : Text) (how : Reading) (values : List Text) (rows : List Row) (b : Bool) → has_row id rows ≡ b
    → IsThere values → has_row id (cond b rows (default_rows id how values rows)) ≡ true
new_row id how values rows true e there = e
new_row id how [] rows false e there = absurd there
new_row id how (v ∷ vs) rows false e there =
    row_there id DefaultValue how (v ∷ vs) rows ((bytes_eq-Decides id id).1 refl)

-- ---- all of them

good_defaults : (rules : List Rule) (rows : List Row) → AllByRecursion GoodDefault rules → Good rows
    → Good (fold with_default rows rules)
good_defaults [] rows all g = g
good_defaults (a ∷ rest) rows all g = good_defaults rest (with_default rows a) all.1
    (good_rows a.id (reading_by a) a.defaults rows (has_row a.id rows) all.0 g)

row_lasts : (name : Text) (rules : List Rule) (rows : List Row) → has_row name rows ≡ true
    → has_row name (fold with_default rows rules) ≡ true
row_lasts name [] rows e = e
row_lasts name (a ∷ rest) rows e = row_lasts name rest (with_default rows a)
    (kept_row name a.id (reading_by a) a.defaults rows (has_row a.id rows) e)

-- an argument with a default is among the rows
abbrev pub HasRow : List Row → Rule → Type 0
HasRow rows a = IsThere a.defaults → has_row a.id rows ≡ true

given_rows : (rules : List Rule) (rows : List Row) → AllByRecursion (HasRow (fold with_default rows rules)) rules
given_rows [] rows = tt
given_rows (a ∷ rest) rows = (
  λ there. row_lasts a.id rest (with_default rows a)
      (new_row a.id (reading_by a) a.defaults rows (has_row a.id rows) refl there),
  given_rows rest (with_default rows a),
)

-- ---- the rows in the end

-- they are good, the defaults are among them, and the last check finds no fault
abbrev pub EndsIn : Shape → List Row → Type 0
EndsIn s rows = Good rows × AllByRecursion (HasRow rows) s.rules × (check_fault s rows false ≡ [])

pub ends_in : (s : Shape) → AllKeep s → AllByRecursion GoodDefault s.rules → (rest : List Text)
    → level_fault s [] nothing_held rest false [] ≡ [] → EndsIn s (rows_after s.rules [] rest)
ends_in s keeps all rest e =
    let walks = no_faults _ _ e in
    let ends = no_faults _ _ walks.1 in
    let checks = no_faults _ _ ends.1 in
    let h = (walk s.rules [] nothing_held rest).held in
    let walked : Good h.rows = by_words Good s [] keeps rest (walk_from nothing_held) walks.0 tt in
    let good : Good (settled s.rules h).rows = settles Good s.rules s.args_override_self keeps h ends.0 walked in (
      good_defaults s.rules (settled s.rules h).rows all good,
      given_rows s.rules (settled s.rules h).rows,
      checks.1,
    )
