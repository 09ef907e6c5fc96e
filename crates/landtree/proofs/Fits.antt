-- Words that go together, or don't.
use Rattle.std.proofs.Common.{◌≡◌, ℕ, List, Bool, true, false, Option, Result, Err, refl, inl}
use Rattle.ll_program.specs.declared.conclusion.Conclusion.{Conclusion}
use Rattle.ll_program.specs.declared.failure.Failure.{Failure}
use Rattle.ll_program.specs.declared.failure.Failure.TheVariants.{CommandLine}
use Rattle.landtree.specs.Ends.{EndsFitting}

pub fitting : (fit : Bool) (End : Type 0) (out out' : Option (List ℕ)) (result : Result Conclusion Failure)
    → (fit ≡ false → (result ≡ Err CommandLine) × (out' ≡ out)) → (fit ≡ true → End)
    → EndsFitting fit End out out' result
fitting false End out out' result unfit ends = (inl (unfit refl).0, (unfit refl).1)
fitting true End out out' result unfit ends = ends refl
