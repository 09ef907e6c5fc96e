use Rattle.std.proofs.Common.{◌≡◌, ◌++◌, ℕ, List, take, drop, refl, sym, ◌∙◌, arith}
use Rattle.std.proofs.lemmas.List.{take-append-drop}
use Rattle.ll_seq.specs.declared.reply.Entry.{Entry}
use Rattle.ll_audit.specs.Audit.{IsFirstIllegal}
use Rattle.ll_audit.proofs.FollowedParts.{goes_on, has_numbers, starves, stops, within_all}
use Rattle.ll_audit.proofs.parts.follow_parts.Goals as goal

abbrev cut : (rest front back : List Entry) (n : ℕ) → front ≡ take n rest → back ≡ drop n rest → rest ≡ front ++ back
cut rest front back n e f = sym (take-append-drop n rest) ∙ rw (e, f) refl

pub follow-requires : goal.follow-requires
follow-requires g c =
    let s = c.args.tree.now in
    let parts = cut c.loop-rest.rest.now c.split_at.result.0.now c.split_at.result.1.now c.min.result
    c.split_at.ensures.front c.split_at.ensures.back in
    omega (
      arith,
      c.requires,
      has_numbers s c.args.entries.now c.loop-rest.rest.now c.loop-rest.tree
          c.loop-rest.invariant c.split_at.result.0.now c.split_at.result.1.now parts,
    )

pub overflow_add-result : goal.overflow_add-result
overflow_add-result g c =
    let bad : IsFirstIllegal c.loop-rest.tree c.split_at.result.0.now c.in-Err-Illegal.entry =
    c.in-Err-Illegal.ensures.illegal c.in-Err-Illegal.entry c.in-Err-Illegal.field-0-is in
    let last = bad.last in
    let parts = cut c.loop-rest.rest.now c.split_at.result.0.now c.split_at.result.1.now c.min.result
    c.split_at.ensures.front c.split_at.ensures.back in
    let within = within_all c.args.tree.now c.args.entries.now c.loop-rest.rest.now c.loop-rest.tree
    c.loop-rest.invariant c.split_at.result.0.now c.split_at.result.1.now parts in
    omega (arith, c.requires, last, within, c.in-Err-Illegal.entry-is)

pub returns-in-Err-Illegal-clause-illegal : goal.returns-in-Err-Illegal-clause-illegal
returns-in-Err-Illegal-clause-illegal g c number is =
    let bad : IsFirstIllegal c.loop-rest.tree c.split_at.result.0.now c.in-Err-Illegal.entry =
    c.in-Err-Illegal.ensures.illegal c.in-Err-Illegal.entry c.in-Err-Illegal.field-0-is in
    let parts = cut c.loop-rest.rest.now c.split_at.result.0.now c.split_at.result.1.now c.min.result
    c.split_at.ensures.front c.split_at.ensures.back in
    stops c.args.tree.now c.args.entries.now c.loop-rest.rest.now c.loop-rest.tree c.loop-rest.invariant
    c.split_at.result.0.now c.split_at.result.1.now parts c.in-Err-Illegal.entry number bad cc

pub returns-in-Err-NoMemory-clause-starved : goal.returns-in-Err-NoMemory-clause-starved
returns-in-Err-NoMemory-clause-starved g c is =
    let parts = cut c.loop-rest.rest.now c.split_at.result.0.now c.split_at.result.1.now c.min.result
    c.split_at.ensures.front c.split_at.ensures.back in
    starves c.args.tree.now c.args.entries.now c.loop-rest.rest.now c.loop-rest.tree c.loop-rest.invariant
    c.split_at.result.0.now c.split_at.result.1.now parts
    (c.in-Err-NoMemory.ensures.starved c.in-Err-NoMemory.field-0-is)

pub loop-rest-preserved : goal.loop-rest-preserved
loop-rest-preserved g c =
    let parts = cut c.loop-rest.rest.now c.split_at.result.0.now c.split_at.result.1.now c.min.result
    c.split_at.ensures.front c.split_at.ensures.back in
    goes_on c.args.tree.now c.args.entries.now c.loop-rest.rest.now c.loop-rest.tree c.loop-rest.invariant
    c.split_at.result.0.now c.split_at.result.1.now parts
    c.follow.new.tree c.in-Ok.ensures.legal c.in-Ok.ensures.after
