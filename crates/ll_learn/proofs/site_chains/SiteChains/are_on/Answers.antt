use Rattle.std.proofs.Common.{◌≡◌, ap, arith, inl, inr, length, ◌∙◌}
use Rattle.std.proofs.lemmas.Bool.{both_ways, cases_lt}
use Rattle.ll_learn.specs.Draft.{may_have}
use Rattle.ll_learn.proofs.Chains.{known_there, node_there, unknown_there}
use Rattle.ll_learn.proofs.site_chains.SiteChains.are_on.Goals.{else-may_have_any-via-then-may_have_any+else-not-has}
use Rattle.ll_learn.proofs.site_chains.SiteChains.are_on.Goals.{else-may_have_any-via-else-may_have_any}
use Rattle.ll_learn.proofs.site_chains.SiteChains.are_on.Goals as goal

pub returns-then-not-has-clause-moved : goal.returns-then-not-has-clause-moved
returns-then-not-has-clause-moved c = λ _ s know paths.
    let some = c.may_have_any.ensures.some c.if-may_have_any.true in
    both_ways c.has.result c.if-not-has.true (c.has.ensures.1 (unknown_there s c.args.scope.now c.args.self.now
    c.args.inodes.now c.loop-i.i some.0 know paths c.loop-i-test.true some.1 some.2))

pub loop-i-preserved : goal.loop-i-preserved
loop-i-preserved c = λ s are front behind inode right parts lt known may.
    let inodes = c.args.inodes.now in
    let i = c.loop-i.i in
    elim (cases_lt (length front) i) [
      | inl below ↦ c.loop-i.invariant s are front behind inode right parts below known may
      | inr above ↦
          let here : length front ≡ i = omega (arith, lt, above) in
          elim c.else-may_have_any.branch [
            | else-may_have_any-via-then-may_have_any+else-not-has w ↦
                known_there inodes front behind inode i parts here s c.args.self.now are
                (w.has.ensures.0 w.if-not-has.false)
            | else-may_have_any-via-else-may_have_any w ↦ absurd (both_ways c.may_have_any.result
                w.if-may_have_any.false (c.may_have_any.ensures.all right known
                (ap (may_have c.args.scope.now right) (node_there inodes front behind inode i parts here) ∙ may)))
          ]
    ]
