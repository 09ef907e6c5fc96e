use Rattle.std.proofs.Common.{◌≡◌, ℕ, ◌*◌, ◌-◌, length, ap, sym, subst, ◌∙◌}
use Rattle.std.specs.Prelude.{IfNone, IsTrue, ◌↔◌, bit_and, slice_get}
use Rattle.std.proofs.lemmas.Option.{get_or_from_slice_get}
use Rattle.ll_rights.specs.Access.{holds}
use Rattle.ll_rights.specs.Map.{entries}
use Rattle.ll_rules.specs.Layer.{Layer}
use Rattle.ll_seq.specs.State.{State}
use Rattle.ll_seq.specs.Reach.{HasName, InReach}
use Rattle.ll_plain.proofs.PathGrants.{nameless, are_reached}
use Rattle.ll_plain.proofs.Plain.reach.Goals as goal

pub returns-in_err-ruled-clause-unnamed : goal.returns-in_err-ruled-clause-unnamed
returns-in_err-ruled-clause-unnamed c =
    let enough : 2 * c.len-most.result ≡ 2 * length (entries c.args.self.now.entries) =
    ap (λ n. 2 * n) (c.len-most.ensures.len ∙ ap (λ (s : State). length (entries s.entries)) c.self.view_is) in
    subst (λ o. IfNone o (HasName c.args.self.now c.args.inode → ⊥)) (sym c.from_residual.ensures)
    (nameless c.args.self.now c.args.inode (2 * c.len-most.result) enough c.index-layers-number.result
    c.in_err-ruled.ensures)

pub returns-clause-rights : goal.returns-clause-rights
returns-clause-rights c = λ layer at.
    let enough : 2 * c.len-most.result ≡ 2 * length (entries c.args.self.now.entries) =
    ap (λ n. 2 * n) (c.len-most.ensures.len ∙ ap (λ (s : State). length (entries s.entries)) c.self.view_is) in
    let same : c.index-layers-number.result ≡ layer =
    c.index-layers-number.is ∙ get_or_from_slice_get c.layers.result.now (c.args.number - 1) layer
    c.index-layers-number.result (ap (λ ls. slice_get ls (c.args.number - 1)) c.layers.ensures ∙ at) in
    subst (λ (l : Layer). (right : ℕ) → IsTrue (holds (bit_and c.with-granted.result.0 c.relevant.result.0) right)
    ↔ InReach c.args.self.now l c.args.inode right) same
    (are_reached c.args.self.now c.args.inode (2 * c.len-most.result) enough c.index-layers-number.result c.in-Some.kind
    (sym c.kind.ensures ∙ c.in-Some.is) c.unrestricted.result.0 c.with-granted.result.0
    c.in_ok-ruled.ruled c.unrestricted.ensures c.with-granted.ensures c.in_ok-ruled.ensures c.relevant.result.0
    c.relevant.ensures)
