use Rattle.std.proofs.Common.{◌≡◌, ◌≤◌, ℕ, Bool, true, false, List, length, refl, ap, sym, subst, inl, inr, ◌∙◌, arith}
use Rattle.std.specs.Prelude.{◌⊎◌, if◌then◌else◌}
use Rattle.std.specs.Ordering.{nat_cmp}
use Rattle.std.proofs.lemmas.List.{take_all}
use Rattle.ll_rights.specs.Map.{Map, empty, entries}
use Rattle.ll_seq.specs.declared.client.Descriptor.{Descriptor}
use Rattle.ll_seq.specs.Effects.{child_of}
use Rattle.ll_seq.specs.Facts.{have_room}
use Rattle.ll_seq.proofs.OrderedTables.{of_rows}
use Rattle.ll_seq.proofs.FactsKept.{Steps}
use Rattle.ll_seq.proofs.OpensKept.{all_opens, none_yet, all_more, kept_copies}
use Rattle.ll_seq.proofs.facts.NumberMap+Fact.open_all.Goals as goal

pub loop-row-init : goal.loop-row-init
loop-row-init c = none_yet c.args.self.now

pub loop-row-preserved : goal.loop-row-preserved
loop-row-preserved c = all_more c.args.self.now c.loop-row.self c.add_open.new.self c.deref-row-items.result.now
    c.loop-row.row-index _ c.loop-row-test.true c.loop-row.invariant c.add_open.ensures

own_or_none : (b : Bool) (m : Map nat_cmp Descriptor) → ((if b then m else empty) ≡ m)
    ⊎ ((if b then m else empty) ≡ empty)
own_or_none true m = inl refl
own_or_none false m = inr refl

pub returns : goal.returns
returns c s client holder fresh kept there unknown child =
    let items = c.deref-row-items.result.now in
    let own : entries c.args.descriptors.now ≡ items =
    of_rows (λ es. es) c.descriptors.inside.rows.items c.deref-row-items.result.now c.args.descriptors.now
    c.descriptors.view_is c.descriptors.invariant c.deref-row-items.ensures.value in
    let whole : entries (child_of s.rules holder).descriptors ≡ c.deref-row-items.result.now =
    ap (λ (m : Map nat_cmp Descriptor). entries m) child ∙ own in
    let all : length c.deref-row-items.result.now ≤ c.loop-row.row-index = omega arith in
    kept_copies s c.args.self.now c.loop-row.self client holder fresh (child_of s.rules holder) kept there unknown
    (own_or_none s.rules.copies holder.descriptors)
    (let len = ap (λ (es : List (ℕ × Descriptor)). length es) whole in let most = c.deref-row-items.type_inv
    in omega arith)
    (ap (have_room c.args.self.now) child ∙ c.requires)
    (subst (λ ds. Steps c.args.self.now c.loop-row.self (all_opens ds))
    (take_all c.loop-row.row-index c.deref-row-items.result.now all ∙ sym whole) c.loop-row.invariant)
