-- What is read from one table after another.
use Rattle.std.proofs.Common.{◌≡◌, ℕ, suc, ◌+◌, ◌<◌, ◌≤◌, map, arith, append_assoc, append-nil, List, [], ◌∷◌, ◌++◌}
use Rattle.std.proofs.Common.{length, get_or, drop, Option, Some, None, ap, sym, ◌∙◌, subst}
use Rattle.std.specs.Prelude.{flat_map, option_map, option_to_list, string_bytes}
use Rattle.std.proofs.lemmas.List.{drop_all, map-append}
use Rattle.std.proofs.lemmas.List.Concat.{flat_map-append}
use Rattle.toml.specs.Data.{Members, as_table}
use Rattle.toml.specs.View.{view, members_view}
use Rattle.toml.specs.declared.value.Value.{Value}
use Rattle.toml.proofs.Views.{Entry}
use Rattle.ll_seq.specs.declared.call.Call.{Call}
use Rattle.ll_policy.specs.declared.fault.PolicyFault.{PolicyFault}
use Rattle.ll_policy.specs.declared.profile.Layer.{Layer}
use Rattle.ll_policy.specs.Table.{named_tables}
use Rattle.ll_policy.specs.KeptCalls.{calls_of_layer, calls_of_layers}
use Rattle.ll_policy.proofs.Firsts.{Told, told_first}
use Rattle.ll_policy.proofs.Keys.{tables_in, tables_in-drop}

pub next_table : (values : List Value) (i : ℕ) (v : Value) (t : Members) → i < length values → v ≡ get_or values i v
    → as_table (view v) ≡ Some t
    → tables_in (drop i values) ≡ t ∷ tables_in (drop (i + 1) values)
next_table values i v t low is e =
    tables_in-drop values i v low
    ∙ ap (λ x. option_to_list (as_table (view x)) ++ tables_in (drop (i + 1) values)) (sym is)
    ∙ ap (λ o. option_to_list o ++ tables_in (drop (i + 1) values)) e

pub next_other : (values : List Value) (i : ℕ) (v : Value) → i < length values → v ≡ get_or values i v
    → as_table (view v) ≡ None
    → tables_in (drop i values) ≡ tables_in (drop (i + 1) values)
next_other values i v low is e =
    tables_in-drop values i v low
    ∙ ap (λ x. option_to_list (as_table (view x)) ++ tables_in (drop (i + 1) values)) (sym is)
    ∙ ap (λ o. option_to_list o ++ tables_in (drop (i + 1) values)) e

-- ---- what is wrong with tables in turn

-- what is wrong with those that are left is what is wrong with the whole
module _ {A : Type 0} (faults_of : A → List PolicyFault) (whole left : List A)
    (invariant : flat_map faults_of left ≡ flat_map faults_of whole) where
  pub fails_at : (a : A) {rest : List A} (fault : PolicyFault) → left ≡ a ∷ rest → Told (faults_of a) fault
      → Told (flat_map faults_of whole) fault
  fails_at a {rest} fault next told =
      subst (λ faults. Told faults fault) (sym (ap (flat_map faults_of) next) ∙ invariant)
      (told_first (faults_of a) (flat_map faults_of rest) fault told)

  pub passes_at : (a : A) {rest : List A} → left ≡ a ∷ rest → faults_of a ≡ []
      → flat_map faults_of rest ≡ flat_map faults_of whole
  passes_at a {rest} next none =
      ap (λ faults. faults ++ flat_map faults_of rest) (sym none) ∙ sym (ap (flat_map faults_of) next) ∙ invariant

  pub passes_over : {rest : List A} → left ≡ rest → flat_map faults_of rest ≡ flat_map faults_of whole
  passes_over next = ap (flat_map faults_of) (sym next) ∙ invariant

  pub all_pass : left ≡ [] → flat_map faults_of whole ≡ []
  all_pass none = sym invariant ∙ ap (flat_map faults_of) none

-- ---- what several tables give

pub no_tables : (values : List Value) (i : ℕ) → length values ≤ i → tables_in (drop i values) ≡ []
no_tables values i end = ap tables_in (drop_all i values end)

pub flat_map-push : {A B : Type 0} (f : A → List B) (items : List A) (a : A) (rest : List B)
    → flat_map f items ++ (f a ++ rest) ≡ flat_map f (items ++ a ∷ []) ++ rest
flat_map-push f items a rest =
    sym (append_assoc (flat_map f items) (f a) rest)
    ∙ ap (λ some. some ++ rest) (ap (λ some. flat_map f items ++ some) (sym (append-nil (f a)))
    ∙ sym (flat_map-append f items (a ∷ [])))

pub map-push : {A B : Type 0} (f : A → B) (items : List A) (a : A) (rest : List B)
    → map f items ++ f a ∷ rest ≡ map f (items ++ a ∷ []) ++ rest
map-push f items a rest = sym (append_assoc (map f items) (f a ∷ []) rest)
    ∙ ap (λ some. some ++ rest) (sym (map-append f items (a ∷ [])))

-- more layers after some
pub calls_of_layers-append : (number : ℕ) (layers others : List Layer)
    → calls_of_layers number (layers ++ others) ≡ calls_of_layers number layers
    ++ calls_of_layers (number + length layers) others
calls_of_layers-append number [] others = let same : number ≡ number + 0 = omega arith in
    ap (λ n. calls_of_layers n others) same
calls_of_layers-append number (layer ∷ layers) others =
    let same : number + 1 + length layers ≡ number + suc (length layers) = omega arith in
    ap (λ calls. calls_of_layer number layer ++ calls) (calls_of_layers-append (number + 1) layers others
    ∙ ap (λ n. calls_of_layers (number + 1) layers ++ calls_of_layers n others) same)
    ∙ sym (append_assoc (calls_of_layer number layer) (calls_of_layers (number + 1) layers)
    (calls_of_layers (number + suc (length layers)) others))

pub one_layer : (number : ℕ) (layer : Layer) → calls_of_layers number (layer ∷ []) ≡ calls_of_layer number layer
one_layer number layer = append-nil (calls_of_layer number layer)

pub layers-push : (layers : List Layer) (layer : Layer) (rest : List Call)
    → calls_of_layers 0 layers ++ (calls_of_layer (length layers) layer ++ rest)
    ≡ calls_of_layers 0 (layers ++ layer ∷ []) ++ rest
layers-push layers layer rest =
    let number : length layers ≡ 0 + length layers = omega arith in
    sym (append_assoc (calls_of_layers 0 layers) (calls_of_layer (length layers) layer) rest)
    ∙ ap (λ some. some ++ rest) (ap (λ some. calls_of_layers 0 layers ++ some) (sym (one_layer (length layers) layer)
    ∙ ap (λ n. calls_of_layers n (layer ∷ [])) number) ∙ sym (calls_of_layers-append 0 layers (layer ∷ [])))

-- ---- tables with names

pub next_named : (e : Entry) (left : List Entry) (t : Members) → as_table (view e.1) ≡ Some t
    → named_tables (members_view (e ∷ left)) ≡ (string_bytes e.0, t) ∷ named_tables (members_view left)
next_named e left t is = ap (λ (o : Option Members). option_to_list (option_map (λ x. (string_bytes e.0, x)) o)
    ++ named_tables (members_view left)) is
