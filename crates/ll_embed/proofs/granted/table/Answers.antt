use Rattle.std.proofs.Common.{ℕ, inl, inr, subst, sym}
use Rattle.std.specs.declared.alloc.Global.{Global}
use Rattle.std.specs.declared.vec.Vec.{Vec}
use Rattle.ll_embed.specs.Questions.{IsRightsTold, profile_order_in}
use Rattle.ll_embed.proofs.granted.table.Goals as goal

pub returns-in-Ok : goal.returns-in-Ok
returns-in-Ok c = inl (subst (λ (v : Vec ℕ Global). IsRightsTold (profile_order_in c.args.given.now) c.args.form
    c.args.names.now 0 v.items) (sym c.into_bytes.ensures.value) c.in-Ok.ensures.table)

pub returns-in-Err : goal.returns-in-Err
returns-in-Err c = inr (c.in-Err.fault, c.in-Err.ensures.fault, c.answer.ensures)
