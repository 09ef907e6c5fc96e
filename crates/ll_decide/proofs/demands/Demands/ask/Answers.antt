use Rattle.std.proofs.Common.{ap, sym, subst, ◌∙◌}
use Rattle.std.specs.Prelude.{[], ◌∷◌, ◌++◌, bit_or}
use Rattle.ll_decide.specs.declared.demands.On.{On}
use Rattle.ll_decide.specs.Demands.{AreAsks, ask_on}
use Rattle.ll_decide.proofs.OneByOne.{ask_itself, ask_other, ask_parent, ask_left, ask_entered}
use Rattle.ll_decide.proofs.demands.Demands.ask.Goals as goal

pub returns-in-Itself-clause-asks : goal.returns-in-Itself-clause-asks
returns-in-Itself-clause-asks c asks are =
    let whole = ask_itself c.args.self c.args.right c.with.result asks are (c.with.ensures
    ∙ ap (bit_or c.args.self.itself.0) c.access-one.ensures) in
    subst (λ (on : On). AreAsks (record c.args.self { itself = c.with.result }) (asks ++ ask_on on c.args.right ∷ []))
    (sym c.in-Itself.is) whole

pub returns-in-Other-clause-asks : goal.returns-in-Other-clause-asks
returns-in-Other-clause-asks c asks are =
    let whole = ask_other c.args.self c.args.right c.with-in-Other.result asks are (c.with-in-Other.ensures
    ∙ ap (bit_or c.args.self.other.0) c.access-one.ensures) in
    subst (λ (on : On). AreAsks (record c.args.self { other = c.with-in-Other.result })
    (asks ++ ask_on on c.args.right ∷ [])) (sym c.in-Other.is) whole

pub returns-in-Parent-clause-asks : goal.returns-in-Parent-clause-asks
returns-in-Parent-clause-asks c asks are =
    let whole = ask_parent c.args.self c.args.right c.with-in-Parent.result asks are (c.with-in-Parent.ensures
    ∙ ap (bit_or c.args.self.parent.0) c.access-one.ensures) in
    subst (λ (on : On). AreAsks (record c.args.self { parent = c.with-in-Parent.result })
    (asks ++ ask_on on c.args.right ∷ [])) (sym c.in-Parent.is) whole

pub returns-in-Left-clause-asks : goal.returns-in-Left-clause-asks
returns-in-Left-clause-asks c asks are =
    let whole = ask_left c.args.self c.args.right c.with-in-Left.result asks are (c.with-in-Left.ensures
    ∙ ap (bit_or c.args.self.left.0) c.access-one.ensures) in
    subst (λ (on : On). AreAsks (record c.args.self { left = c.with-in-Left.result })
    (asks ++ ask_on on c.args.right ∷ [])) (sym c.in-Left.is) whole

pub returns-in-Entered-clause-asks : goal.returns-in-Entered-clause-asks
returns-in-Entered-clause-asks c asks are =
    let whole = ask_entered c.args.self c.args.right c.with-in-Entered.result asks are (c.with-in-Entered.ensures
    ∙ ap (bit_or c.args.self.entered.0) c.access-one.ensures) in
    subst (λ (on : On). AreAsks (record c.args.self { entered = c.with-in-Entered.result })
    (asks ++ ask_on on c.args.right ∷ [])) (sym c.in-Entered.is) whole
