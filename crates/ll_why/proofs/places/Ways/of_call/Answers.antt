use Rattle.ll_decide.specs.declared.demands.On.TheVariants.{Itself, Other, Parent, Entered}
use Rattle.ll_why.proofs.places.Ways.of_call.Goals as goal

pub returns : goal.returns
returns c = record {
  itself = λ from. c.on_path.ensures Itself from c.deref.ensures.value;
  other = λ from. c.on_path-2.ensures Other from c.deref-2.ensures.value;
  entered = λ from. c.on_path-3.ensures Entered from c.deref-3.ensures.value;
  parent = λ from. c.on_path-4.ensures Parent from c.deref-4.ensures.value;
}
