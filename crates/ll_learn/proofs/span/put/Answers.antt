use Rattle.std.proofs.Common.{◌≡◌, ◌==◌, ◌&&◌, ◌||◌, ◌∙◌, Bool, true, ap, sym}
use Rattle.std.proofs.Common.{eq-eqb, inl, inr}
use Rattle.std.proofs.lemmas.Bool.{cases_eq, ne_eqb}
use Rattle.std.proofs.lemmas.Grind.{get_or-set_at}
use Rattle.std.proofs.lemmas.List.{get_or-set_other}
use Rattle.ll_rights.specs.Access.{holds}
use Rattle.ll_rights.specs.declared.access.Access.{Access}
use Rattle.ll_decide.proofs.Bits.{holds-or}
use Rattle.ll_learn.specs.Draft.{no_rights, right_at}
use Rattle.ll_learn.proofs.Given.{or_nothing, read_at}
use Rattle.ll_learn.proofs.span.put.Goals as goal

and_of : (t b : Bool) → t ≡ true → b ≡ (t && b)
and_of t b e = sym (ap (λ x. x && b) e)

pub returns-clause-rights : goal.returns-clause-rights
returns-clause-rights c other right known =
    let sets = c.args.may.now.items in
    let inode = c.args.inode in
    let rights = c.args.rights in
    let old = c.index.result.now in
    let new = c.with.result in
    elim (cases_eq inode other) [
      | inl e ↦
          ap (λ (a : Access). holds a.0 right) (get_or-set_at sets inode other new no_rights (sym e) c.requires)
          ∙ ap (λ n. holds n right) c.with.ensures ∙ holds-or old.0 rights.0 right
          ∙ ap (λ b. b || holds rights.0 right)
          (ap (λ (a : Access). holds a.0 right) (sym (read_at sets inode old no_rights c.requires c.index.ensures))
          ∙ ap (right_at sets right) e)
          ∙ ap (λ b. right_at sets right other || b)
          (and_of (inode == other) (holds rights.0 right) (eq-eqb inode other e))
      | inr ne ↦
          ap (λ (a : Access). holds a.0 right) (get_or-set_other sets inode other new no_rights (λ e. ne (sym e)))
          ∙ or_nothing (right_at sets right other) ((inode == other) && holds rights.0 right)
          (ap (λ b. b && holds rights.0 right) (ne_eqb inode other ne))
    ]
