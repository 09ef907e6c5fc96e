use Rattle.std.specs.Prelude.{◌≡◌, Bool, true, false, ◌&&◌}
use Rattle.std.proofs.Common.{refl, inl, inr}
use Rattle.std.proofs.lemmas.Bool.{false≢true}
use Rattle.ll_plain.proofs.Spared.{takes_unless}
use Rattle.ll_plain.proofs.Plain.perform.Goals as goal

last : (a b : Bool) → (a && b) ≡ true → b ≡ true
last true b e = e
last false b e = absurd cc

pub returns-in-Err : goal.returns-in-Err
returns-in-Err c = λ fresh. inl (c.in-Err.ensures fresh)

pub returns-in-Err-enact : goal.returns-in-Err-enact
returns-in-Err-enact c = λ fresh. inr (
  refl,
  c.in-Err-enact.ensures.err,
  record {
    takes = takes_unless c.args.call.now c.requires.path (λ spares. false≢true
        (c.in-Err-enact.ensures.lean (last _ _ (c.in-Ok.ensures.lean spares))));
    passes = c.in-Ok.ensures.free;
  },
)
