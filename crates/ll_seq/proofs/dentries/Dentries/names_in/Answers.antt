use Rattle.std.proofs.Common.{◌++◌, ◌∷◌, [], ℕ, ◌≤◌, List, length, map, ap, sym, subst, ◌∙◌, arith}
use Rattle.std.specs.List.Sorted.{IsStrictlySortedBy}
use Rattle.std.specs.Ordering.{nat_cmp}
use Rattle.std.specs.Cmp.Lexicographic.{slice_cmp}
use Rattle.std.proofs.lemmas.List.{take_all}
use Rattle.ll_path.specs.Name.{IsName}
use Rattle.ll_seq.specs.declared.dentries.Dentry.{Dentry}
use Rattle.ll_seq.specs.Listed.{AreListed}
use Rattle.ll_seq.proofs.NameOrder.{listed_rise, told_more, listed_more}
use Rattle.ll_seq.proofs.dentries.Dentries.names_in.Goals as goal

abbrev names : List (Dentry × ℕ) → List (List ℕ)
names es = map (λ (e : Dentry × ℕ). e.0.name) es

pub returns : goal.returns
returns c =
    let all : length c.rows_of-row-items.result.now ≤ c.loop-row.row-index = omega arith in
    c.loop-row.invariant.told ∙ ap names (take_all c.loop-row.row-index c.rows_of-row-items.result.now all)
    ∙ ap names c.rows_of-row-items.ensures

pub push-requires : goal.push-requires
push-requires c =
    listed_more c.loop-row.listing c.in_ok-from_text.field-0 c.rows_of-row-items.result.now c.loop-row.row-index
    c.row-item.result c.loop-row.invariant.listed
    (subst IsName (sym (c.in_ok-from_text.ensures ∙ c.as_str.ensures.text)) c.as_str.ensures.name)
    c.loop-row.invariant.told (c.in_ok-from_text.ensures ∙ c.as_str.ensures.text) c.row-item.is c.loop-row-test.true
    (subst (IsStrictlySortedBy (slice_cmp nat_cmp)) (sym (ap names c.rows_of-row-items.ensures))
    (listed_rise c.args.self.now c.args.directory))

pub loop-row-preserved : goal.loop-row-preserved
loop-row-preserved c =
    let more : AreListed (c.loop-row.listing ++ c.in_ok-from_text.field-0 ∷ []) =
    listed_more c.loop-row.listing c.in_ok-from_text.field-0 c.rows_of-row-items.result.now c.loop-row.row-index
    c.row-item.result c.loop-row.invariant.listed
    (subst IsName (sym (c.in_ok-from_text.ensures ∙ c.as_str.ensures.text)) c.as_str.ensures.name)
    c.loop-row.invariant.told (c.in_ok-from_text.ensures ∙ c.as_str.ensures.text) c.row-item.is c.loop-row-test.true
    (subst (IsStrictlySortedBy (slice_cmp nat_cmp)) (sym (ap names c.rows_of-row-items.ensures))
    (listed_rise c.args.self.now c.args.directory)) in
    record {
      told = c.in_ok-push.ensures.ok
          ∙ told_more c.loop-row.listing c.in_ok-from_text.field-0 c.rows_of-row-items.result.now c.loop-row.row-index
          c.row-item.result c.loop-row.invariant.told (c.in_ok-from_text.ensures ∙ c.as_str.ensures.text) c.row-item.is
          c.loop-row-test.true;
      listed = subst AreListed (sym c.in_ok-push.ensures.ok) more;
    }
