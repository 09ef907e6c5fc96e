-- A parse that finds no fault enters one of the subcommands that aren't `help`, where a subcommand is required.
use Rattle.std.proofs.Common.{◌≡◌, ◌∙◌, ap, ℕ, Bool, true, false, not, cond, codes, refl, sym, List, [], ◌∷◌, ◌++◌}
use Rattle.std.proofs.Common.{Option}
use Rattle.std.proofs.Common.{Some, None, is_some, ◌&&◌, true≢false}
use Rattle.std.specs.Prelude.{option_map}
use Rattle.std.specs.List.{AllByRecursion, find, fold}
use Rattle.std.specs.Option.{option_map_or}
use Rattle.std.specs.Str.{bytes_eq}
use Rattle.std.proofs.lemmas.Slice.Eq.{bytes_eq-Decides}
use Rattle.clap.specs.Lexer.{long_of, short_of}
use Rattle.clap.specs.Walk.{Held, Names, Outcome, Row, Rule, Step, Text, Waiting, Walk, next, trailing, subcommand}
use Rattle.clap.specs.Walk.{value, idle, option, positional, done, waits, plain, refused}
use Rattle.clap.specs.Walk.{after_flag, after_step, answers_to, arg_by_index, arg_by_long, bundle, finished, long_met}
use Rattle.clap.specs.Walk.{long_or_other, nothing_held, plain_word, short_or_plain, subcommand_met}
use Rattle.clap.specs.Walk.{subcommand_or_other, to_positional, walk, walked, walked_from, word_met}
use Rattle.clap.specs.Simple.{App, Shape, entered, label_of, names_of, rows_at}
use Rattle.clap.specs.Kinds.{check_kinds, or_else}
use Rattle.clap.specs.Faults.{built_fault, check_fault, entered_fault, level_fault, other_fault, step_fault, turn_fault}
use Rattle.clap.specs.Faults.{walk_fault, word_fault}
use Rattle.clap.specs.declared.error.kind.ErrorKind.TheVariants as kind
use Rattle.ll_program.proofs.ArgumentsUsed.{no_faults}

abbrev help : Text
help = codes "help"

-- the step enters no subcommand `help`
abbrev Passes : Step → Type 0
Passes (subcommand name) = bytes_eq name help ≡ false
Passes _ = Unit {0}

-- the walk didn't stop at `help`
abbrev Passed : Option (Text × List Text) → Type 0
Passed None = Unit {0}
Passed (Some p) = bytes_eq p.0 help ≡ false

module _ (s : Shape) (names : Names) (helps : s.disable_help_subcommand ≡ false) where
  by_plain_word : (waiting : Waiting) (word : Text) (h : Held) → Passes (plain_word s.rules waiting word h).1
  by_plain_word (option id) word h = tt
  by_plain_word idle word h = tt
  by_plain_word positional word h = tt

  after : (waiting : Waiting) (word : Text) (h : Held) (met : Outcome)
      → Passes (after_flag s.rules waiting word h met).1
  after waiting word h done = tt
  after waiting word h (waits id) = tt
  after waiting word h plain = by_plain_word waiting word h
  after waiting word h refused = by_plain_word waiting word h

  by_bundle : (waiting : Waiting) (word : Text) (o : Option Text) (h : Held)
      → Passes (short_or_plain s.rules waiting word o h).1
  by_bundle waiting word None h = by_plain_word waiting word h
  by_bundle waiting word (Some flags) h = after waiting word (bundle s.rules flags h).0 (bundle s.rules flags h).1

  by_flag_word : (waiting : Waiting) (word : Text) (p : Option (Text × Option Text)) (h : Held)
      → Passes (long_or_other s.rules waiting word p h).1
  by_flag_word waiting word None h = by_bundle waiting word (short_of word) h
  by_flag_word waiting word (Some p) h = let met = long_met s.rules (arg_by_long s.rules p.0) p.1 h in
      after waiting word met.0 met.1

  by_other : (o : Option Text) (waiting : Waiting) (position : ℕ) (word : Text) (h : Held) → other_fault s o word h ≡ []
      → Passes (subcommand_or_other s.rules o waiting position word h).1
  by_other (Some name) waiting position word h e = go (bytes_eq name help) s.disable_help_subcommand helps e
    where
      go : (b d : Bool) → d ≡ false → cond (b && not d) (kind.DisplayHelp ∷ kind.InvalidSubcommand ∷ []) [] ≡ []
          → b ≡ false
      go false d kept e' = refl
      go true false kept e' = absurd cc
      go true true kept e' = kept
  by_other None waiting position word h e = go (bytes_eq word (45 ∷ 45 ∷ []))
    where
      go : (b : Bool) → Passes (cond b (h, trailing position) (long_or_other s.rules waiting word (long_of word) h)).1
      go true = tt
      go false = by_flag_word waiting word (long_of word) h

  by_word : (is_trailing : Bool) (waiting : Waiting) (position : ℕ) (word : Text) (h : Held)
      → word_fault s names is_trailing waiting word h ≡ []
      → Passes (word_met s.rules names is_trailing waiting position word h).1
  by_word true waiting position word h e = tt
  by_word false waiting position word h e = by_other (subcommand_met names waiting word) waiting position word h e

  by_index : (w : Walk) (o : Option Rule) (word : Text) (h : Held) → Passed w.stopped
      → Passed (to_positional s.rules o word w h).stopped
  by_index w None word h p = p
  by_index w (Some a) word h p = tt

  by_step : (w : Walk) (word : Text) (h : Held) (step : Step) → Passes step → Passed w.stopped
      → Passed (after_step s.rules word w h step).stopped
  by_step w word h (next waiting) q p = p
  by_step w word h (trailing position) q p = p
  by_step w word h (subcommand name) q p = q
  by_step w word h value q p = by_index w (arg_by_index s.rules w.position) word h p

  by_turn : (w : Walk) (word : Text) → turn_fault s names w word ≡ [] → Passed w.stopped
      → Passed (walked s.rules names w word).stopped
  unfolding walked
  by_turn w word e p = go w.stopped p e
    where
      go : (o : Option (Text × List Text)) → Passed o
          → cond (is_some o) [] (or_else (word_fault s names w.is_trailing w.waiting word w.held)
          (step_fault s w.position (word_met s.rules names w.is_trailing w.waiting w.position word w.held).0
          (word_met s.rules names w.is_trailing w.waiting w.position word w.held).1)) ≡ []
          → Passed (walked_from s.rules names o w word).stopped
      go (Some q) p' e' = p'
      go None p' e' = by_step w word _ _ (by_word w.is_trailing w.waiting w.position word w.held (no_faults _ _ e').0) p

  by_words : (words : List Text) (w : Walk) → walk_fault s names w words ≡ [] → Passed w.stopped
      → Passed (fold (walked s.rules names) w words).stopped
  unfolding walk_fault
  by_words [] w e p = p
  by_words (word ∷ rest) w e p = let parts = no_faults _ _ e in
      by_words rest (walked s.rules names w word) parts.1 (by_turn w word parts.0 p)

-- a subcommand is there where it is required
entered_where_required : (s : Shape) (rows : List Row) (has : Bool) → s.subcommand_required ≡ true
    → check_fault s rows has ≡ [] → has ≡ true
entered_where_required s rows true wants e = refl
entered_where_required s rows false wants e = go _ s.subcommand_required _ wants e
  where
    go : (b d f : Bool) → d ≡ true → check_kinds b d f ≡ [] → false ≡ true
    go true d f w e' = absurd cc
    go false true f w e' = absurd cc
    go false false f w e' = w

abbrev pub named : Text → List Shape → Option Shape
named name = find (λ s. answers_to name (label_of s))

-- of these and `help`, only these answer to a name that isn't `help`
not_help : (P : Shape → Type 0) (subs : List Shape) (other : Shape) (name : Text) → AllByRecursion P subs
    → bytes_eq name help ≡ false → other.name ≡ help → other.aliases ≡ []
    → is_some (named name (subs ++ other ∷ [])) ≡ true
    → (sub : Shape) × P sub × (named name (subs ++ other ∷ []) ≡ Some sub)
not_help P [] other name all differs is none has = go (answers_to name (label_of other)) unnamed has
  where
    turned : (b : Bool) → bytes_eq help name ≡ b → b ≡ false
    turned false e = refl
    turned true e = let same : help ≡ name = (bytes_eq-Decides help name).0 e in
        absurd (true≢false (sym ((bytes_eq-Decides name help).1 (sym same)) ∙ differs))

    unnamed : answers_to name (label_of other) ≡ false
    unnamed = rw (is, none, turned (bytes_eq help name) refl) refl

    go : (b : Bool) → b ≡ false → is_some (cond b (Some other) None) ≡ true
        → (sub : Shape) × P sub × (cond b (Some other) None ≡ Some sub)
    go true e h = absurd (true≢false e)
    go false e h = absurd (true≢false (sym h))
not_help P (first ∷ subs) other name all differs is none has =
    go (answers_to name (label_of first)) has
    (λ h. not_help P subs other name all.1 differs is none h)
  where
    go : (b : Bool) → is_some (cond b (Some first) (named name (subs ++ other ∷ []))) ≡ true
        → (is_some (named name (subs ++ other ∷ [])) ≡ true
        → (sub : Shape) × P sub × (named name (subs ++ other ∷ []) ≡ Some sub))
        → (sub : Shape) × P sub × (cond b (Some first) (named name (subs ++ other ∷ [])) ≡ Some sub)
    go true h later = (first, all.0, refl)
    go false h later = later h

-- the subcommand's words, where its level finds no fault
abbrev pub Enters : App → Shape → Option (Text × List Text) → Type 0
Enters a sub stop = (rest : List Text) × (entered a stop ≡ Some (rows_at sub rest))
    × (level_fault sub [] nothing_held rest false [] ≡ [])

module _ (a : App) (subs : List Shape) (other : Shape) (all : a.subs ≡ subs ++ other ∷ [])
    (is : other.name ≡ help) (none : other.aliases ≡ []) (P : Shape → Type 0) (each : AllByRecursion P subs) where
  enters_by : (sub : Shape) (q : Text × List Text) → named q.0 a.subs ≡ Some sub → entered_fault a (Some q) ≡ []
      → Enters a sub (Some q)
  enters_by sub q first e = (
    q.1,
    ap (option_map (λ s. rows_at s q.1)) first,
    sym (ap (λ o. option_map_or (λ s. level_fault s [] nothing_held q.1 false []) o []) first) ∙ e,
  )

  -- one of them is entered
  abbrev pub EntersOne : Option (Text × List Text) → Type 0
  EntersOne stop = (sub : Shape) × P sub × Enters a sub stop

  enters : (stop : Option (Text × List Text)) → Passed stop → is_some (entered a stop) ≡ true
      → entered_fault a stop ≡ [] → EntersOne stop
  enters None p has e = absurd (true≢false (sym has))
  enters (Some q) p has e =
      let found = not_help P subs other q.0 each p is none (ap (λ l. is_some (named q.0 l)) (sym all)
      ∙ there (named q.0 a.subs) has) in
      (found.0, found.1, enters_by found.0 q (ap (named q.0) all ∙ found.2) e)
    where
      there : (o : Option Shape) → is_some (option_map (λ s. rows_at s q.1) o) ≡ true → is_some o ≡ true
      there None h = h
      there (Some s) h = refl

  pub built_enters : (words : List Text) → a.top.disable_help_subcommand ≡ false → a.top.subcommand_required ≡ true
      → built_fault a nothing_held words ≡ []
      → EntersOne (walk a.top.rules (names_of a) nothing_held words).stopped
  built_enters words helps wants e =
      let walks = no_faults _ _ e in
      let below = no_faults _ _ walks.1 in
      let settles = no_faults _ _ below.1 in
      let defaults = no_faults _ _ settles.1 in
      enters _ (by_words a.top (names_of a) helps words _ walks.0 tt)
      (entered_where_required a.top (finished a.top.rules (walk a.top.rules (names_of a) nothing_held words).held)
      (is_some (entered a (walk a.top.rules (names_of a) nothing_held words).stopped)) wants defaults.1) below.0
