use Rattle.std.proofs.Common.{◌≡◌, ◌∙◌, Err, ap, inl, map, refl, rules, subst, sym, true, false, List, ℕ}
use Rattle.std.specs.Borrow.{Bor}
use Rattle.std.specs.List.{list_all}
use Rattle.ll_program.specs.Options.{learn_in}
use Rattle.landtree.specs.Learned.{EndsByChecks, concluded, is_of_line}
use Rattle.landtree.proofs.Taught.{by_checks, lines_told, unread_file}
use Rattle.landtree.proofs.lessons.learn_checks.Goals as goal

pub returns-then-not-are_lines : goal.returns-then-not-are_lines
returns-then-not-are_lines g c =
    let lines = ap (list_all (λ (name : Bor (List ℕ)). list_all is_of_line name.now)) (sym c.as_slice.ensures.value) in
    inl (refl, inl (refl, lines_told c.args.options.now.files.items ∙ lines ∙ sym c.if-not-are_lines.ensures))

pub returns-in_err-policy : goal.returns-in_err-policy
returns-in_err-policy g c =
    let same : c.from_residual.result ≡ Err c.in_err-policy.field-0.0 = search rules in
    let lines = ap (list_all (λ (name : Bor (List ℕ)). list_all is_of_line name.now)) (sym c.as_slice.ensures.value) in
    rw same (unread_file (g.S.Sources.texts c.args.sources.now) (learn_in c.args.options.now)
    (g.W.Write.contents c.args.out.now) c.in_err-policy.field-0.0 c.in_err-policy.ensures.failure
    (lines_told c.args.options.now.files.items ∙ lines ∙ sym c.if-not-are_lines.ensures))

pub returns-in_err-files : goal.returns-in_err-files
returns-in_err-files g c =
    let same : c.from_residual-in_err-files.result ≡ Err c.in_err-files.field-0.0 = search rules in
    let lines = ap (list_all (λ (name : Bor (List ℕ)). list_all is_of_line name.now)) (sym c.as_slice.ensures.value) in
    rw same (unread_file (g.S.Sources.texts c.args.sources.now) (learn_in c.args.options.now)
    (g.W.Write.contents c.args.out.now) c.in_err-files.field-0.0 c.in_err-files.ensures.failure
    (lines_told c.args.options.now.files.items ∙ lines ∙ sym c.if-not-are_lines.ensures))

pub returns-in-Ok : goal.returns-in-Ok
returns-in-Ok g c =
    let texts = g.S.Sources.texts c.args.sources.now in
    let order = learn_in c.args.options.now in
    let lines = ap (list_all (λ (name : Bor (List ℕ)). list_all is_of_line name.now)) (sym c.as_slice.ensures.value) in
    rw c.ended_by.ensures (subst (λ e. EndsByChecks texts order (g.W.Write.contents c.args.out.now)
    (g.W.Write.contents c.learn_over-ended.new.out) (concluded e)) c.in-Ok.is
    (by_checks texts order c.as_slice-2.result.now c.in_ok-policy.policy.items c.as_slice-3.result.now
    c.in_ok-files.files.items c.as_slice-4.result.now c.learn_over-ended.result
    (ap (map (λ (n : Bor (List ℕ)). n.now)) c.as_slice-2.ensures.value) c.as_slice-3.ensures.value
    c.as_slice-4.ensures.value c.in_ok-policy.ensures.text c.in_ok-files.ensures.sources _ _ c.learn_over-ended.ensures
    (lines_told c.args.options.now.files.items ∙ lines ∙ sym c.if-not-are_lines.ensures)))

pub returns : goal.returns
returns g c =
    let texts = g.S.Sources.texts c.args.sources.now in
    let order = learn_in c.args.options.now in
    let lines = ap (list_all (λ (name : Bor (List ℕ)). list_all is_of_line name.now)) (sym c.as_slice.ensures.value) in
    subst (λ e. EndsByChecks texts order (g.W.Write.contents c.args.out.now)
    (g.W.Write.contents c.learn_over-ended.new.out) (concluded e)) c.in-Err.is
    (by_checks texts order c.as_slice-2.result.now c.in_ok-policy.policy.items c.as_slice-3.result.now
    c.in_ok-files.files.items c.as_slice-4.result.now c.learn_over-ended.result
    (ap (map (λ (n : Bor (List ℕ)). n.now)) c.as_slice-2.ensures.value) c.as_slice-3.ensures.value
    c.as_slice-4.ensures.value c.in_ok-policy.ensures.text c.in_ok-files.ensures.sources _ _ c.learn_over-ended.ensures
    (lines_told c.args.options.now.files.items ∙ lines ∙ sym c.if-not-are_lines.ensures))
