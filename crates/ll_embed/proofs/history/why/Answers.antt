use Rattle.std.proofs.Common.{ℕ, ap, inl, refl, subst}
use Rattle.std.specs.declared.alloc.Global.{Global}
use Rattle.std.specs.declared.vec.Vec.{Vec}
use Rattle.ll_why.specs.Entries.{IsHistoryWhy}
use Rattle.ll_why.specs.declared.style.WhyStyle.TheVariants.{Lines}
use Rattle.ll_why.specs.declared.history.HistoryWhy.{HistoryWhy}
use Rattle.ll_wire.specs.Pieces.{pieces}
use Rattle.ll_embed.proofs.history.why.Goals as goal

pub returns-in-Ok-Told : goal.returns-in-Ok-Told
returns-in-Ok-Told c = inl (inl (
  c.in-Ok-Told.text,
  subst (λ (told : HistoryWhy). IsHistoryWhy Lines (pieces c.args.history.now) c.args.number told)
      c.in-Ok-Told.field-0-is c.in-Ok-Told.ensures,
  ap (λ (v : Vec ℕ Global). v.items) c.into_bytes.ensures.value,
  refl,
))
