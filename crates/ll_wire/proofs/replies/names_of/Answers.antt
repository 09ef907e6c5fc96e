use Rattle.std.proofs.Common.{◌≡◌, ◌<◌, length, inl, inr, lit<, refl, sym, subst, rules}
use Rattle.std.specs.Prelude.{◌==◌}
use Rattle.std.specs.List.{slice_split}
use Rattle.std.proofs.lemmas.Str.Pattern.{strip_prefix_char}
use Rattle.ll_seq.specs.Listed.{AreListed}
use Rattle.ll_wire.specs.Parts.{SpellsNames}
use Rattle.ll_wire.proofs.NamesInOrder.{behind, nothing_spelled, no_space, names_are, names_spelled}
use Rattle.ll_wire.proofs.replies.names_of.Goals as goal

pub returns-then-is_empty : goal.returns-then-is_empty
returns-then-is_empty c = let none : length c.args.text.now ≡ 0 = search rules in nothing_spelled _ _ none c.new.ensures

pub returns-in_default : goal.returns-in_default
unfolding lib.Utf8.encode
returns-in_default c = let some : 0 < length c.args.text.now = search rules in
    inl (refl, no_space _ some c.in_default.ensures.cases)

pub returns-then-not-are_listed : goal.returns-then-not-are_listed
returns-then-not-are_listed c =
    let starts = behind 32 _ _ c.in-Some.names
    (strip_prefix_char 32 c.args.text.now c.strip_prefix.result c.strip_prefix.ensures.cases (lit< tt))
    (search rules) in
    inl (
      refl,
      λ names is. c.if-not-are_listed.ensures
          (subst AreListed (names_are c.args.text.now c.in-Some.names.now names starts is) is.0),
    )

pub returns-in-Ok : goal.returns-in-Ok
returns-in-Ok c =
    let starts = behind 32 _ _ c.in-Some.names
    (strip_prefix_char 32 c.args.text.now c.strip_prefix.result c.strip_prefix.ensures.cases (lit< tt))
    (search rules) in
    subst (SpellsNames c.args.text.now) (sym c.in-Ok.ensures)
    (names_spelled c.args.text.now c.in-Some.names.now starts c.if-not-are_listed.ensures)

pub returns-in-Err : goal.returns-in-Err
returns-in-Err c =
    let starts = behind 32 _ _ c.in-Some.names
    (strip_prefix_char 32 c.args.text.now c.strip_prefix.result c.strip_prefix.ensures.cases (lit< tt))
    (search rules) in
    inr (
      refl,
      slice_split (λ b. b == 32) c.in-Some.names.now,
      names_spelled c.args.text.now c.in-Some.names.now starts c.if-not-are_listed.ensures,
      tt,
    )
