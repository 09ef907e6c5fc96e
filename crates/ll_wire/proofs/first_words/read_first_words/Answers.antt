use Rattle.std.proofs.Common.{inl, refl}
use Rattle.ll_wire.proofs.FirstReads.{spelled_is_utf8}
use Rattle.ll_wire.proofs.first_words.read_first_words.Goals as goal

pub returns-in-Err : goal.returns-in-Err
returns-in-Err c = inl (refl, λ words h. c.in-Err.ensures.cases.0 (spelled_is_utf8 _ words h))
