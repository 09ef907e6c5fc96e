use Rattle.std.proofs.Common.{◌≡◌, ◌<◌, ◌==◌, ℕ, true, length, ap, sym, subst, refl, ◌∙◌, arith}
use Rattle.std.specs.Prelude.{List, Option, Some, IfSome}
use Rattle.std.specs.List.{list_any}
use Rattle.std.proofs.lemmas.Bool.{both_ways, eq-eqb}
use Rattle.ll_learn.specs.Columns.{free_count, is_at}
use Rattle.ll_learn.specs.Draft.{is_some_at, may_have, place_of}
use Rattle.ll_learn.specs.declared.draft.Scope.{Scope}
use Rattle.ll_learn.proofs.Columns.{any_not, any_of, set_fewer, set_grows, set_here}
use Rattle.ll_learn.proofs.Places.{place_found, place_none}
use Rattle.ll_learn.proofs.Solutions.{may_within}
use Rattle.ll_learn.proofs.right_column.grow.Goals as goal

there : (scope : Scope) (right : ℕ) (inodes : List ℕ) (inode : ℕ) → Some inode ≡ place_of scope right inodes
    → (may_have scope right inode ≡ true) × (list_any (λ j. j == inode) inodes ≡ true)
there scope right inodes inode e =
    subst (λ (o : Option ℕ). IfSome o (λ i. (may_have scope right i ≡ true) × (list_any (λ j. j == i) inodes ≡ true)))
    (sym e) (place_found scope right inodes)

pub returns-in-Some-clause-grows : goal.returns-in-Some-clause-grows
returns-in-Some-clause-grows c =
    let inode = c.in-Some.inode in
    set_grows (is_some_at (place_of c.args.scope.now c.args.right c.args.inodes.now)) c.args.held.now.items
    c.set_held.new.held.items inode (ap (λ o. is_some_at o inode) (sym c.in-Some.ensures) ∙ eq-eqb inode inode refl)
    c.set_held.ensures

pub returns-in-Some-clause-on : goal.returns-in-Some-clause-on
returns-in-Some-clause-on c =
    let inode = c.in-Some.inode in
    let held = c.args.held.now.items in
    let found = there c.args.scope.now c.args.right c.args.inodes.now inode c.in-Some.ensures in
    let within = may_within c.args.scope.now.may.items c.args.right inode found.0 in
    let lt : inode < length held = let e = c.requires.len in omega arith in
    any_of (is_at c.set_held.new.held.items) inode c.args.inodes.now
    (ap (λ hs. is_at hs inode) c.set_held.ensures ∙ set_here held inode lt) found.1

pub returns-in-Some-clause-more : goal.returns-in-Some-clause-more
returns-in-Some-clause-more c none =
    let inode = c.in-Some.inode in
    let held = c.args.held.now.items in
    let found = there c.args.scope.now c.args.right c.args.inodes.now inode c.in-Some.ensures in
    let within = may_within c.args.scope.now.may.items c.args.right inode found.0 in
    let lt : inode < length held = let e = c.requires.len in omega arith in
    let less = set_fewer held inode lt (any_not (is_at held) inode c.args.inodes.now found.1 none) in
    let e = ap free_count c.set_held.ensures in
    omega arith

pub returns-in_default-clause-on : goal.returns-in_default-clause-on
returns-in_default-clause-on c =
    absurd (both_ways (list_any (may_have c.args.scope.now c.args.right) c.args.inodes.now)
    (place_none c.args.scope.now c.args.right c.args.inodes.now (sym c.in_default.ensures)) c.requires.some)

pub returns-in_default-clause-more : goal.returns-in_default-clause-more
returns-in_default-clause-more c =
    absurd (both_ways (list_any (may_have c.args.scope.now c.args.right) c.args.inodes.now)
    (place_none c.args.scope.now c.args.right c.args.inodes.now (sym c.in_default.ensures)) c.requires.some)
