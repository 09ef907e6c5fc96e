use Rattle.std.specs.Prelude.{◌≡◌}
use Rattle.std.specs.List.{position_from}
use Rattle.std.proofs.Common.{rules, ◌∙◌}
use Rattle.std.proofs.lemmas.Iterator.{YieldsList-from_slice}
use Rattle.std.proofs.lemmas.Iterator.Search.{position_from_yields_List}
use Rattle.std.proofs.lemmas.Iterator.Adapters.{position_from-zero}
use borrow.Author.Tests.{tests}
use Rattle.ll_learn.specs.Watched.{is_descriptor}
use Rattle.ll_learn.proofs.Positions.{none_is, some_is}
use Rattle.ll_learn.proofs.watch.descriptor_place.Goals as goal

place : (c : goal.After-position) → c.position.result ≡ position_from (is_descriptor c.args.descriptor) 0
    c.args.opened.now
place c =
    position_from_yields_List (is_descriptor c.args.descriptor) _ _ c.position.result c.position.ensures.ran
    (YieldsList-from_slice c.args.opened.now cc) (λ x b q k. search (rules, tests))
    ∙ position_from-zero (is_descriptor c.args.descriptor) c.args.opened.now

pub returns-clause-none : goal.returns-clause-none
returns-clause-none c = none_is (is_descriptor c.args.descriptor) c.args.opened.now c.position.result (place c)

pub returns-clause-first : goal.returns-clause-first
returns-clause-first c = some_is (is_descriptor c.args.descriptor) c.args.opened.now c.position.result (place c)
