-- What each use of an argument keeps, a walk that finds no fault keeps.
use Rattle.std.proofs.Common.{◌≡◌, ℕ, Bool, true, false, cond, zero, suc, refl, List, [], ◌∷◌, drop, length, Option}
use Rattle.std.proofs.Common.{Some, None, is_some, ◌&&◌}
use Rattle.std.specs.Prelude.{encode_utf8, slice_get}
use Rattle.std.specs.List.{find, fold}
use Rattle.std.specs.Option.{option_map_or}
use Rattle.std.specs.Str.{bytes_eq, chars}
use Rattle.clap.specs.Lexer.{long_of, short_of}
use Rattle.clap.specs.Walk.{Held, Names, Outcome, Row, Rule, Step, Text, Waiting, Walk, next, trailing, subcommand}
use Rattle.clap.specs.Walk.{value, idle, option, positional, done, waits, plain, refused}
use Rattle.clap.specs.Walk.{after_flag, after_step, arg_by_id, arg_by_index, arg_by_long, arg_by_short, attached_value}
use Rattle.clap.specs.Walk.{bundle, bundle_met, bundle_step, flag_met, is_pending, long_met, long_or_other, option_met}
use Rattle.clap.specs.Walk.{option_word, plain_word, positional_held, pushed, reacted, settled, settled_rows, short_met}
use Rattle.clap.specs.Walk.{short_or_plain, subcommand_met, subcommand_or_other, takes_several, takes_values}
use Rattle.clap.specs.Walk.{to_positional, used, used_by_id, walked, walked_from, word_met}
use Rattle.clap.specs.Simple.{Shape}
use Rattle.clap.specs.Kinds.{Kinds, or_else}
use Rattle.clap.specs.Faults.{bundle_fault, bundle_step_fault, flag_word_fault, flags_fault, long_fault, option_fault}
use Rattle.clap.specs.Faults.{other_fault, positional_fault, react_fault, settle_fault, short_fault, step_fault}
use Rattle.clap.specs.Faults.{stray_fault, turn_fault, use_fault, walk_fault, word_fault}
use Rattle.clap.specs.declared.error.kind.ErrorKind.TheVariants as kind

pub no_faults : (a b : Kinds) → or_else a b ≡ [] → (a ≡ []) × (b ≡ [])
no_faults [] b e = (refl, e)
no_faults (k ∷ ks) b e = absurd cc

-- a use of the argument that finds no fault keeps what is said of the rows
abbrev pub Keeps : (List Row → Type 0) → Rule → Type 0
Keeps Good a = (again : Bool) (values : List Text) (rows : List Row) → use_fault again a values rows ≡ [] → Good rows
    → Good (used a values rows)

module _ (Good : List Row → Type 0) (c : List Rule) (again : Bool) (keeps : (p : Rule → Bool) (a : Rule)
    → find p c ≡ Some a → Keeps Good a) where
  by_id : (id : Text) (values : List Text) (rows : List Row) (o : Option Rule) → arg_by_id c id ≡ o
      → option_map_or (λ a. use_fault again a values rows) o [] ≡ []
      → Good rows → Good (used_by_id o values rows)
  by_id id values rows None is e g = g
  by_id id values rows (Some a) is e g = keeps (λ x. bytes_eq x.id id) a is again values rows e g

  settles_rows : (rows : List Row) (pending : Option (Text × List Text))
      → option_map_or (λ p. option_map_or (λ a. use_fault again a p.1 rows) (arg_by_id c p.0) []) pending [] ≡ []
      → Good rows → Good (settled_rows c pending rows)
  settles_rows rows None e g = g
  settles_rows rows (Some p) e g = by_id p.0 p.1 rows (arg_by_id c p.0) refl e g

  pub settles : (h : Held) → settle_fault c again h ≡ [] → Good h.rows → Good (settled c h).rows
  settles h e g = settles_rows h.rows h.pending e g

  reacts : (a : Rule) → Keeps Good a → (values : List Text) (h : Held) → react_fault c again a values h ≡ []
      → Good h.rows → Good (reacted c a values h).rows
  reacts a keep values h e g =
      let parts = no_faults (settle_fault c again h) (use_fault again a values (settled c h).rows) e in
      keep again values (settled c h).rows parts.1 (settles h parts.0 g)

  by_option : (a : Rule) → Keeps Good a → (v : Option Text) (h : Held) → option_fault c again a v h ≡ [] → Good h.rows
      → Good (option_met c a v h).0.rows
  by_option a keep (Some v) h e g = reacts a keep (v ∷ []) h e g
  by_option a keep None h e g = settles h e g

  by_flag : (a : Rule) → Keeps Good a → (v : Option Text) (h : Held)
      → cond (is_some v) (kind.TooManyValues ∷ []) (react_fault c again a [] h) ≡ [] → Good h.rows
      → Good (flag_met c a v h).0.rows
  by_flag a keep (Some v) h e g = g
  by_flag a keep None h e g = reacts a keep [] h e g

  by_long : (name : Text) (o : Option Rule) → arg_by_long c name ≡ o → (v : Option Text) (h : Held)
      → long_fault c again o v h ≡ [] → Good h.rows → Good (long_met c o v h).0.rows
  by_long name None is v h e g = g
  by_long name (Some a) is v h e g = go (takes_values a) e
    where
      keep : Keeps Good a
      keep = keeps _ a is

      go : (b : Bool) → cond b (option_fault c again a v h)
          (cond (is_some v) (kind.TooManyValues ∷ []) (react_fault c again a [] h)) ≡ []
          → Good (cond b (option_met c a v h) (flag_met c a v h)).0.rows
      go true e' = by_option a keep v h e' g
      go false e' = by_flag a keep v h e' g

  -- what the rest of a bundle keeps
  abbrev Onward : (Text → ℕ → Outcome → Held → Held × Outcome) → (Text → ℕ → Held → Kinds) → Type 0
  Onward onward fault = (t : Text) (n : ℕ) (so_far : Outcome) (h : Held) → fault t n h ≡ [] → Good h.rows
      → Good (onward t n so_far h).0.rows

  by_short : (x : ℕ) (o : Option Rule) → arg_by_short c x ≡ o
      → (rest : Text) (h : Held) (onward : Held → Held × Outcome) (fault : Held → Kinds)
      → ((h : Held) → fault h ≡ [] → Good h.rows → Good (onward h).0.rows) → short_fault c again o rest h fault ≡ []
      → Good h.rows → Good (short_met c o rest h onward).0.rows
  by_short x None is rest h onward fault more e g = g
  by_short x (Some a) is rest h onward fault more e g = go (takes_values a) e
    where
      keep : Keeps Good a
      keep = keeps _ a is

      go : (b : Bool) → cond b (option_fault c again a (attached_value rest) h)
          (or_else (react_fault c again a [] h) (fault (reacted c a [] h))) ≡ []
          → Good (cond b (option_met c a (attached_value rest) h) (onward (reacted c a [] h))).0.rows
      go true e' = by_option a keep (attached_value rest) h e' g
      go false e' =
          let parts = no_faults (react_fault c again a [] h) (fault (reacted c a [] h)) e' in
          more (reacted c a [] h) parts.1 (reacts a keep [] h parts.0 g)

  by_character : (o : Option ℕ) (flags : Text) (skip : ℕ) (so_far : Outcome) (h : Held) (onward : Text → ℕ → Outcome
      → Held → Held × Outcome) (fault : Text → ℕ → Held → Kinds)
      → Onward onward fault → bundle_step_fault c again o flags skip h fault ≡ [] → Good h.rows
      → Good (bundle_step c o flags skip so_far h onward).0.rows
  by_character None flags skip so_far h onward fault more e g = g
  by_character (Some x) flags zero so_far h onward fault more e g =
      let rest = drop (length (encode_utf8 x)) flags in
      by_short x (arg_by_short c x) refl rest h (onward rest 0 done) (fault rest 0) (more rest 0 done) e g
  by_character (Some x) flags (suc skip) so_far h onward fault more e g =
      more (drop (length (encode_utf8 x)) flags) skip so_far h e g

  by_flags : (k : ℕ) → Onward (bundle_met c k) (flags_fault c again k)
  unfolding flags_fault bundle_met
  by_flags zero flags skip so_far h e g = g
  by_flags (suc k) flags skip so_far h e g =
      by_character (slice_get (chars flags) 0) flags skip so_far h (bundle_met c k) (flags_fault c again k) (by_flags k)
      e g

  by_option_word : (o : Option Rule) (id word : Text) (h : Held) → Good h.rows → Good (option_word o id word h).0.rows
  by_option_word None id word h g = g
  by_option_word (Some a) id word h g = g

  by_plain_word : (waiting : Waiting) (word : Text) (h : Held) → Good h.rows → Good (plain_word c waiting word h).0.rows
  by_plain_word (option id) word h g = by_option_word (arg_by_id c id) id word h g
  by_plain_word idle word h g = g
  by_plain_word positional word h g = g

  after : (waiting : Waiting) (word : Text) (h : Held) (met : Outcome) → Good h.rows
      → Good (after_flag c waiting word h met).0.rows
  after waiting word h done g = g
  after waiting word h (waits id) g = g
  after waiting word h plain g = by_plain_word waiting word h g
  after waiting word h refused g = by_plain_word waiting word h g

  by_bundle : (waiting : Waiting) (word : Text) (o : Option Text) (h : Held)
      → option_map_or (λ flags. bundle_fault c again flags h) o [] ≡ [] → Good h.rows
      → Good (short_or_plain c waiting word o h).0.rows
  by_bundle waiting word None h e g = by_plain_word waiting word h g
  by_bundle waiting word (Some flags) h e g =
      after waiting word (bundle c flags h).0 (bundle c flags h).1
      (by_flags (length flags) flags h.skip plain (record h { skip = 0 }) e g)

  by_flag_word : (waiting : Waiting) (word : Text) (p : Option (Text × Option Text)) (h : Held)
      → flag_word_fault c again p word h ≡ [] → Good h.rows
      → Good (long_or_other c waiting word p h).0.rows
  by_flag_word waiting word None h e g = by_bundle waiting word (short_of word) h e g
  by_flag_word waiting word (Some p) h e g =
      let met = long_met c (arg_by_long c p.0) p.1 h in
      after waiting word met.0 met.1 (by_long p.0 (arg_by_long c p.0) refl p.1 h e g)

  by_positional : (a : Rule) (word : Text) (h : Held) → positional_fault c again a h ≡ [] → Good h.rows
      → Good (positional_held c a word h).rows
  by_positional a word h e g = go (is_pending a h.pending && takes_several a) e
    where
      go : (b : Bool) → cond b [] (settle_fault c again h) ≡ [] → Good (pushed a.id word (cond b h (settled c h))).rows
      go true e' = g
      go false e' = settles h e' g

module _ (Good : List Row → Type 0) (s : Shape) (names : Names) (keeps : (p : Rule → Bool) (a : Rule)
    → find p s.rules ≡ Some a → Keeps Good a) where
  by_other : (o : Option Text) (waiting : Waiting) (position : ℕ) (word : Text) (h : Held) → other_fault s o word h ≡ []
      → Good h.rows
      → Good (subcommand_or_other s.rules o waiting position word h).0.rows
  by_other (Some name) waiting position word h e g = g
  by_other None waiting position word h e g = go (bytes_eq word (45 ∷ 45 ∷ [])) e
    where
      go : (b : Bool) → cond b [] (flag_word_fault s.rules s.args_override_self (long_of word) word h) ≡ []
          → Good (cond b (h, trailing position) (long_or_other s.rules waiting word (long_of word) h)).0.rows
      go true e' = g
      go false e' = by_flag_word Good s.rules s.args_override_self keeps waiting word (long_of word) h e' g

  by_word : (is_trailing : Bool) (waiting : Waiting) (position : ℕ) (word : Text) (h : Held)
      → word_fault s names is_trailing waiting word h ≡ [] → Good h.rows
      → Good (word_met s.rules names is_trailing waiting position word h).0.rows
  by_word true waiting position word h e g = g
  by_word false waiting position word h e g = by_other (subcommand_met names waiting word) waiting position word h e g

  by_index : (w : Walk) (o : Option Rule) (word : Text) (h : Held)
      → option_map_or (λ a. positional_fault s.rules s.args_override_self a h) o (stray_fault s) ≡ []
      → Good h.rows → Good (to_positional s.rules o word w h).held.rows
  by_index w None word h e g = g
  by_index w (Some a) word h e g = by_positional Good s.rules s.args_override_self keeps a word h e g

  by_step : (w : Walk) (word : Text) (h : Held) (step : Step) → step_fault s w.position h step ≡ [] → Good h.rows
      → Good (after_step s.rules word w h step).held.rows
  by_step w word h (next waiting) e g = g
  by_step w word h (trailing position) e g = g
  by_step w word h (subcommand name) e g = g
  by_step w word h value e g = by_index w (arg_by_index s.rules w.position) word h e g

  by_turn : (w : Walk) (word : Text) → turn_fault s names w word ≡ [] → Good w.held.rows
      → Good (walked s.rules names w word).held.rows
  unfolding walked
  by_turn w word e g = go w.stopped e
    where
      go : (o : Option (Text × List Text))
          → cond (is_some o) [] (or_else (word_fault s names w.is_trailing w.waiting word w.held)
          (step_fault s w.position (word_met s.rules names w.is_trailing w.waiting w.position word w.held).0
          (word_met s.rules names w.is_trailing w.waiting w.position word w.held).1)) ≡ []
          → Good (walked_from s.rules names o w word).held.rows
      go (Some p) e' = g
      go None e' =
          let parts = no_faults _ _ e' in
          by_step w word _ _ parts.1 (by_word w.is_trailing w.waiting w.position word w.held parts.0 g)

  pub by_words : (words : List Text) (w : Walk) → walk_fault s names w words ≡ [] → Good w.held.rows
      → Good (fold (walked s.rules names) w words).held.rows
  unfolding walk_fault
  by_words [] w e g = g
  by_words (word ∷ rest) w e g = let parts = no_faults _ _ e in
      by_words rest (walked s.rules names w word) parts.1 (by_turn w word parts.0 g)
