use Rattle.std.proofs.Common.{◌≡◌, ℕ, List, length, sym, ap, subst, ◌∙◌, arith}
use Rattle.ll_seq.specs.declared.reply.Entry.{Entry}
use Rattle.ll_seq.specs.declared.rules.Rules.{Rules}
use Rattle.ll_seq.specs.History.{IsLegal}
use Rattle.ll_seq.specs.State.{State, start}
use Rattle.ll_audit.specs.Audit.{IsFirstIllegal}
use Rattle.ll_audit.specs.Saved.{Judges, legal, illegal, opened}
use Rattle.ll_audit.specs.declared.verdict.Verdict.TheVariants.{Legal}
use Rattle.ll_audit.proofs.saved.Saved.judged.Goals as goal

pub returns-in-Ok : goal.returns-in-Ok
returns-in-Ok g c =
    let h = c.args.self.now.header in
    let es = c.args.self.now.entries.items in
    let tree : c.in_ok-tree.tree ≡ opened h =
    c.in_ok-tree.ensures ∙ ap (λ (r : Rules). start r h.nodes) c.rules.ensures in
    let whole : IsLegal (opened h) es
    = subst (λ (s : State). IsLegal s es) tree
    (subst (λ (xs : List Entry). IsLegal c.in_ok-tree.tree xs) c.deref.ensures.value c.in-Ok.ensures.legal) in
    let count : c.len.result ≡ length es =
    omega (arith, c.len.ensures, c.deref.ensures.len, ap length c.deref.ensures.value) in
    λ lines told. subst (λ (n : ℕ). Judges lines (Legal n)) (sym count) (legal h es told whole)

pub returns-in-Err-Illegal : goal.returns-in-Err-Illegal
returns-in-Err-Illegal g c =
    let h = c.args.self.now.header in
    let es = c.args.self.now.entries.items in
    let k = c.in-Err-Illegal.entry in
    let tree : c.in_ok-tree.tree ≡ opened h =
    c.in_ok-tree.ensures ∙ ap (λ (r : Rules). start r h.nodes) c.rules.ensures in
    let first : IsFirstIllegal c.in_ok-tree.tree c.deref.result.now k
    = (rw c.in-Err-Illegal.is at c.follow_parts-followed.ensures.illegal) k
    (rw c.in-Err-Illegal.is at c.in-Err-Illegal.field-0-is) in
    λ lines told. illegal h es k told
    (subst (λ (s : State). IsFirstIllegal s es k) tree
    (subst (λ (xs : List Entry). IsFirstIllegal c.in_ok-tree.tree xs k) c.deref.ensures.value first))
