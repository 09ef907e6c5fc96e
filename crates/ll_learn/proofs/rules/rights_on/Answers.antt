use Rattle.std.proofs.Common.{◌∙◌, ◌&&◌, Bool, true, false, ap, sym, refl, ◌≡◌, rules}
use Rattle.ll_rights.specs.Access.{holds}
use Rattle.ll_rights.specs.declared.access.Access.{Access}
use Rattle.ll_decide.proofs.Bits.{holds-and, holds_all}
use Rattle.ll_learn.specs.Draft.{no_rights}
use Rattle.ll_learn.proofs.Given.{read_at}
use Rattle.ll_learn.proofs.rules.rights_on.Goals as goal

and_true : (b : Bool) → (b && true) ≡ b
and_true true = refl
and_true false = refl

pub returns-then-place-len-clause-rights : goal.returns-then-place-len-clause-rights
returns-then-place-len-clause-rights c right known =
    let set = c.index.result.now in
    holds-and set.0 0x7fff right
    ∙ ap (λ b. holds set.0 right && b) (holds_all right known)
    ∙ and_true (holds set.0 right)
    ∙ ap (λ (a : Access). holds a.0 right)
    (sym (read_at c.args.draft.now.rules.items c.args.inode set no_rights (search rules) c.index.ensures))
