-- The number that a word gives, the texts that the matches tell, and the orders whose parts are there.
use Rattle.std.proofs.Common.{◌≡◌, ◌∙◌, ◌<◌, ◌≤◌, ◌^◌, ◌&&◌, ℕ, Bool, true, false, Option, Some, None, refl, sym, ap}
use Rattle.std.proofs.Common.{List, cond, option_map, is_some, nat_le}
use Rattle.std.specs.Option.{SomeIff}
use Rattle.std.specs.Prelude.{option_and_then}
use Rattle.std.specs.Str.Parse.{IsNumeral, digits_value, without_leading_plus}
use Rattle.std.proofs.lemmas.Bool.{le-leb, leb-true}
use Rattle.clap.specs.Words.{Text, all_of, first_of, first_value, rows_of}
use Rattle.clap.specs.ValueTests.{accepts}
use Rattle.clap.specs.declared.builder.value_parser.ValueParser.{ValueParser}
use Rattle.clap.specs.declared.builder.value_parser.ValueParser.TheVariants.{Unsigned}
use Rattle.clap.specs.declared.parser.matches.Found.{Found}
use Rattle.clap.proofs.ValueTestLemmas.{Accepts-accepts, accepts-Accepts}
use Rattle.clap.specs.Matches.{matched_of, raw_values}
use Rattle.clap.proofs.WalkLemmas.{both, first_value-rows, raw_values-rows}
use Rattle.ll_program.specs.Options.{CheckOrder, ExportOrder, RightsOrder, RunOrder, ScheduleOrder, ServeOrder}
use Rattle.ll_program.specs.Options.{LearnOrder, Scope, WhyOrder}
use Rattle.ll_program.specs.Options.{number_in}
use Rattle.ll_program.specs.declared.denied.Denied.{Denied}
use Rattle.ll_program.specs.declared.report.AnswerForm.{AnswerForm}
use Rattle.ll_program.specs.declared.report.ReportForm.{ReportForm}
use Rattle.ll_program.specs.declared.export.Form.{Form}

-- the first text of an argument, and all of them, by its row
pub text_told : (f : Found) (name : Text) → first_value f name ≡ first_of name (rows_of f)
text_told f name = first_value-rows f name

pub texts_told : (f : Found) (name : Text) → option_map raw_values (matched_of f name) ≡ all_of name (rows_of f)
texts_told f name = raw_values-rows f name

abbrev number : Text → ℕ
number t = digits_value 10 (without_leading_plus t)

-- the text is a number that the type holds
abbrev IsNumber : Text → Type 0
IsNumber t = IsNumeral 10 (without_leading_plus t) × (number t < 2 ^ 64)

-- what `get_one` reads of a text, and the range lets through
abbrev pub Reads : Text → Option ℕ → Type 0
Reads t (Some n) = IsNumber t × (n ≡ number t)
Reads t None = IsNumber t → ⊥

module _ (low high : ℕ) where
  abbrev parser : ValueParser
  parser = Unsigned low high

  abbrev pub allowed : ℕ → Option ℕ
  allowed n = cond (nat_le low n && nat_le n high) (Some n) None

  same : (a b : Bool) → (a ≡ true → b ≡ true) → (b ≡ true → a ≡ true) → a ≡ b
  same true b to from = sym (to refl)
  same false true to from = from refl
  same false false to from = refl

  -- of such a text the range decides
  in_range : (t : Text) → IsNumber t → number_in parser t ≡ allowed (number t)
  in_range t is = ap (λ (b : Bool). cond b (Some (number t)) None)
      (same (accepts false parser t) (nat_le low (number t) && nat_le (number t) high)
      (λ e. let in_bounds = accepts-Accepts false parser t e
      in rw (le-leb _ _ in_bounds.2, le-leb _ _ in_bounds.3) refl)
      (λ e. let bounds = both _ _ e
      in Accepts-accepts false parser t (is.0, is.1, leb-true _ _ bounds.0, leb-true _ _ bounds.1)))

  -- and of any other text nothing comes
  no_number : (t : Text) → (IsNumber t → ⊥) → number_in parser t ≡ None
  no_number t not = go (accepts false parser t) refl
    where
      go : (b : Bool) → accepts false parser t ≡ b → cond b (Some (number t)) None ≡ None
      go true e = let in_bounds = accepts-Accepts false parser t e in absurd (not (in_bounds.0, in_bounds.1))
      go false e = refl

  pub number_read : (text : Option Text) (r : Option ℕ) → (text ≡ None → r ≡ None)
      → ((t : Text) → text ≡ Some t → Reads t r)
      → option_and_then allowed r ≡ option_and_then (number_in parser) text
  number_read None r none value = ap (option_and_then allowed) (none refl)
  number_read (Some t) (Some n) none value = let read = value t refl in ap allowed read.1 ∙ sym (in_range t read.0)
  number_read (Some t) None none value = sym (no_number t (value t refl))

  pub within : (n : ℕ) → low ≤ n → n ≤ high → Some n ≡ allowed n
  within n first last = rw (le-leb low n first, le-leb n high last) refl

  pub beyond : (n : ℕ) → ((low ≤ n) × (n ≤ high) → ⊥) → None ≡ allowed n
  beyond n out = go (nat_le low n) (nat_le n high) refl refl
    where
      go : (a b : Bool) → nat_le low n ≡ a → nat_le n high ≡ b → None ≡ cond (a && b) (Some n) None
      go true true e f = absurd (out (leb-true low n e, leb-true n high f))
      go true false e f = refl
      go false b e f = refl

-- the level of a number
pub level_allowed : (o : Option ℕ) (n : ℕ) → SomeIff o ((1 ≤ n) × (n ≤ 3)) n → o ≡ allowed 1 3 n
level_allowed (Some level) n h = ap Some h.1 ∙ within 1 3 n h.0.0 h.0.1
level_allowed None n h = beyond 1 3 n h

-- the run that is wanted, where each part is there
abbrev pub together : Option Text → (n most level : Option ℕ) → (policy profile save : Option Text)
    → (strict comments : Bool) → Option RunOrder
together path n most level policy profile save strict comments =
    option_and_then (λ p. option_and_then
    (λ k. option_map (λ m. record {
      script = p;
      nodes = k;
      level = level;
      history = m;
      policy = policy;
      profile = profile;
      save = save;
      strict = strict;
      comments = comments;
    }) most) n) path

-- the same of a schedule
abbrev pub together_scheduled : Option Text → Option ℕ → Option ℕ → Option ℕ → Option Text → (from to : Option ℕ)
    → Bool → Option ScheduleOrder
together_scheduled path n most level picture from to strict =
    option_and_then (λ p. option_and_then
    (λ k. option_map (λ m. record {
      file = p;
      nodes = k;
      level = level;
      history = m;
      picture = picture;
      from = from;
      to = to;
      strict = strict;
    }) most) n) path

-- the rights that are wanted, where each part is there
abbrev pub together_rights : Option Text → Option ℕ → Option Scope → List Text → Bool → Option AnswerForm
    → Option RightsOrder
together_rights file n scope told layers form =
    option_and_then (λ p. option_map (λ k. record {
      policy = p;
      scope = scope;
      nodes = k;
      paths = told;
      layers = layers;
      form = form;
    }) n) file

-- the same of a check
abbrev pub together_checked : Option (List Text) → Option ℕ → Option ℕ → Option Text → Option Text → Bool → Bool
    → Option ReportForm → Bool → Option CheckOrder
together_checked paths n level policy profile quiet verbose form schedule =
    option_and_then (λ p. option_map (λ k. record {
      files = p;
      nodes = k;
      level = level;
      policy = policy;
      profile = profile;
      quiet = quiet;
      verbose = verbose;
      form = form;
      schedule = schedule;
    }) n) paths

-- the same of a serving
abbrev pub together_served : (at threads all megabytes n most idle level : Option ℕ) → Bool
    → (policy profile save : Option Text) → Option ServeOrder
together_served at threads all megabytes n most idle level log policy profile save =
    option_and_then (λ p. option_and_then (λ w. option_and_then (λ c. option_and_then (λ r. option_and_then (λ k.
    option_map (λ m. record {
      port = p;
      workers = w;
      connections = c;
      idle = idle;
      room = r;
      log = log;
      nodes = k;
      level = level;
      history = m;
      policy = policy;
      profile = profile;
      save = save;
    }) most) n) megabytes) all) threads) at

-- the same of an export
abbrev pub together_exported : Option Text → Option Text → Option Form → Option Text → List Text → Bool → Option Denied
    → (effort : Bool) → List Text → Option ExportOrder
together_exported file name form root told follow deny effort files =
    option_and_then (λ p. option_map (λ q. record {
      policy = p;
      profile = q;
      form = form;
      root = root;
      also = told;
      follow = follow;
      deny = deny;
      best_effort = effort;
      checked = files;
    }) name) file

-- the same of a why
abbrev pub together_why : Option (List Text) → Option ℕ → Option Text → Option Text → Option AnswerForm
    → Option WhyOrder
together_why told n policy profile form =
    option_and_then (λ p. option_map (λ k. record {
      words = p;
      policy = policy;
      profile = profile;
      nodes = k;
      form = form;
    }) n) told

-- the same of a learning
abbrev pub together_learned : (files beneath : List Text) → (policy history name never : Option Text)
    → (client most n : Option ℕ) → Option LearnOrder
together_learned files beneath policy history name never client most n =
    option_map (λ k. record {
      files = files;
      policy = policy;
      history = history;
      client = client;
      name = name;
      never = never;
      beneath = beneath;
      most = most;
      nodes = k;
    }) n

pub whole : (p : Option Text) (n m l : Option ℕ) (q r s : Option Text) (t u : Bool) (path : Text) (nodes most : ℕ)
    → p ≡ Some path → n ≡ Some nodes → m ≡ Some most
    → is_some (together p n m l q r s t u) ≡ true
whole p n m l q r s t u path nodes most e f g = rw (e, f, g) refl

pub whole_schedule : (p : Option Text) (n m l : Option ℕ) (q : Option Text) (i j : Option ℕ) (s : Bool)
    (path : Text) (nodes most : ℕ) → p ≡ Some path → n ≡ Some nodes → m ≡ Some most
    → is_some (together_scheduled p n m l q i j s) ≡ true
whole_schedule p n m l q i j s path nodes most e f g = rw (e, f, g) refl

pub whole_rights : (p : Option Text) (n : Option ℕ) (scope : Option Scope) (told : List Text) (layers : Bool)
    (form : Option AnswerForm) (file : Text) (nodes : ℕ) → p ≡ Some file → n ≡ Some nodes
    → is_some (together_rights p n scope told layers form) ≡ true
whole_rights p n scope told layers form file nodes e f = rw (e, f) refl

pub whole_check : (p : Option (List Text)) (n l : Option ℕ) (q r : Option Text) (s t : Bool) (u : Option ReportForm)
    (v : Bool) (paths : List Text) (nodes : ℕ) → p ≡ Some paths → n ≡ Some nodes
    → is_some (together_checked p n l q r s t u v) ≡ true
whole_check p n l q r s t u v paths nodes e f = rw (e, f) refl

pub whole_serve : (p w c b n m i l : Option ℕ) (log : Bool) (q r s : Option Text)
    (at threads all room nodes most : ℕ)
    → p ≡ Some at → w ≡ Some threads → c ≡ Some all → b ≡ Some room → n ≡ Some nodes → m ≡ Some most
    → is_some (together_served p w c b n m i l log q r s) ≡ true
whole_serve p w c b n m i l log q r s at threads all room nodes most e f g k h j = rw (e, f, g, k, h, j) refl

pub whole_export : (p q : Option Text) (form : Option Form) (root : Option Text) (told : List Text) (follow : Bool)
    (deny : Option Denied) (effort : Bool) (files : List Text) (file name : Text) → p ≡ Some file → q ≡ Some name
    → is_some (together_exported p q form root told follow deny effort files) ≡ true
whole_export p q form root told follow deny effort files file name e f = rw (e, f) refl

pub whole_why : (p : Option (List Text)) (n : Option ℕ) (q r : Option Text) (form : Option AnswerForm)
    (told : List Text) (nodes : ℕ) → p ≡ Some told → n ≡ Some nodes
    → is_some (together_why p n q r form) ≡ true
whole_why p n q r form told nodes e f = rw (e, f) refl

pub whole_learn : (files beneath : List Text) (policy history name never : Option Text) (client most n : Option ℕ)
    (nodes : ℕ) → n ≡ Some nodes
    → is_some (together_learned files beneath policy history name never client most n) ≡ true
whole_learn files beneath policy history name never client most n nodes e = rw e refl
