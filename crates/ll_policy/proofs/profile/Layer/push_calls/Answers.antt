use Rattle.std.proofs.Common.{◌≡◌, ◌+◌, ◌++◌, ◌∷◌, [], take, map, sym, ap, ◌∙◌, append_assoc}
use Rattle.std.proofs.lemmas.List.{take_more, take_all, map-append}
use Rattle.ll_seq.specs.declared.call.Call.TheVariants.{Ruleset, Allow, Confine}
use Rattle.ll_policy.specs.KeptCalls.{call_of_rule}
use Rattle.ll_policy.proofs.profile.Layer.push_calls.Goals as goal

pub loop-rule-init : goal.loop-rule-init
loop-rule-init c = c.in_ok-push.ensures.items

pub loop-rule-preserved : goal.loop-rule-preserved
loop-rule-preserved c =
    let old = c.args.calls.now.items in
    let number = c.args.number in
    let handled = c.args.self.now.handled in
    let rules = c.deref-rule-items.result.now in
    let i = c.loop-rule.rule-index in
    let rule = c.rule-item.result in
    let before = take i rules in
    let call = Allow number c.in_ok-target.target rule.rights in
    let whole : take (i + 1) rules ≡ before ++ rule ∷ [] =
    take_more rules i rule c.loop-rule-test.true ∙ ap (λ l. before ++ l ∷ []) (sym c.rule-item.is) in
    let made : call ≡ call_of_rule number rule =
    ap (λ target. Allow number target rule.rights) c.in_ok-target.ensures in
    let next : map (call_of_rule number) before ++ call ∷ [] ≡ map (call_of_rule number) (take (i + 1) rules) =
    ap (λ last. map (call_of_rule number) before ++ last ∷ []) made
    ∙ sym (map-append (call_of_rule number) before (rule ∷ [])) ∙ ap (map (call_of_rule number)) (sym whole) in
    c.in_ok-push-2.ensures.items ∙ ap (λ calls. calls ++ call ∷ []) c.loop-rule.invariant
    ∙ append_assoc old (Ruleset handled ∷ map (call_of_rule number) before) (call ∷ [])
    ∙ ap (λ calls. old ++ Ruleset handled ∷ calls) next

pub returns : goal.returns
returns c =
    let old = c.args.calls.now.items in
    let number = c.args.number in
    let handled = c.args.self.now.handled in
    let rules = c.deref-rule-items.result.now in
    let i = c.loop-rule.rule-index in
    let all : take i rules ≡ c.args.self.now.rules.items =
    take_all i rules c.loop-rule-test.false ∙ c.deref-rule-items.ensures.value in
    c.in_ok-push-3.ensures.items ∙ ap (λ calls. calls ++ Confine number ∷ []) c.loop-rule.invariant
    ∙ append_assoc old (Ruleset handled ∷ map (call_of_rule number) (take i rules)) (Confine number ∷ [])
    ∙ ap (λ some. old ++ (Ruleset handled ∷ (map (call_of_rule number) some ++ Confine number ∷ []))) all
