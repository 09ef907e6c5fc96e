-- Layers that lack nothing and let nothing be gained deny nothing.
use Rattle.std.specs.Prelude.{◌≡◌, ℕ, ◌<◌, false, ◌||◌, List, [], ◌∷◌, refl}
use Rattle.std.specs.List.{AllByRecursion, AllZip}
use Rattle.std.proofs.Common.{ap, sym, ◌∙◌}
use Rattle.ll_rights.specs.Access.{holds}
use Rattle.ll_rules.specs.Layer.{Layer}
use Rattle.ll_decide.proofs.OneByOne.{holds_none}
use Rattle.ll_decide.specs.Demands.{gaining, lacking, misses}
use Rattle.ll_decide.specs.Judge.{grants_along}
use Rattle.ll_decide.specs.declared.demands.On.{On}
use Rattle.ll_decide.specs.declared.demands.On.TheVariants.{Itself, Other, Parent, Left, Entered}
use Rattle.ll_decide.specs.declared.denial.Place.{Place}
use Rattle.ll_decide.specs.declared.denial.Place.TheVariants.{At, Old, New}
use Rattle.ll_why.specs.Places.{denies}
use Rattle.ll_why.specs.Reasons.{IsClear, IsLayerReason, chain_of}
use Rattle.ll_why.specs.declared.asks.Asks.{Asks}
use Rattle.ll_why.specs.declared.reason.LayerReason.{LayerReason}
use Rattle.ll_why.proofs.Denials.{AreWilling, no_denial}

module _ (asks : Asks) (layer : Layer) (told : LayerReason) (is : IsLayerReason asks layer told) (clear : IsClear told)
    (right : ℕ) (known : right < 15) where
  lacks_none : (on : On) → misses (grants_along (chain_of asks) layer) asks.demands right on ≡ false
  lacks_none on =
      sym ((is.grants on).missing right known) ∙ ap (λ n. holds n right) (clear.0 on) ∙ holds_none right

  lack : (place : Place) → lacking (grants_along (chain_of asks) layer) asks.demands right place ≡ false
  lack At = λ i. lacks_none Itself i || lacks_none Parent i
  lack Old = lacks_none Left
  lack New = λ i. lacks_none Other i || lacks_none Entered i

  gain : (place : Place) → gaining (grants_along (chain_of asks) layer) asks.demands right place ≡ false
  gain At = refl
  gain Old = sym (is.back right known) ∙ ap (λ n. holds n right) clear.2 ∙ holds_none right
  gain New = sym (is.there right known) ∙ ap (λ n. holds n right) clear.1 ∙ holds_none right

  clear_layer : denies (grants_along (chain_of asks) layer) asks.demands right ≡ false
  clear_layer = no_denial (grants_along (chain_of asks) layer) asks.demands right lack gain

pub clear_willing : (asks : Asks) (domain : List Layer) (told : List LayerReason)
    → AllZip (λ one layer. IsLayerReason asks layer one) told domain → AllByRecursion IsClear told
    → AreWilling (chain_of asks) asks.demands domain
clear_willing asks [] [] are clear = tt
clear_willing asks [] (one ∷ told) are clear = absurd are
clear_willing asks (layer ∷ layers) [] are clear = absurd are
clear_willing asks (layer ∷ layers) (one ∷ told) are clear =
    (clear_layer asks layer one are.0 clear.0, clear_willing asks layers told are.1 clear.1)
