-- Every step keeps a world sound, and so does a walk that is given up.
use Rattle.std.specs.Prelude.{◌≡◌, ℕ, ◌<◌, Bool, true, false, ◌||◌, [], Option, Some, None, option_map, refl}
use Rattle.std.specs.Ordering.{nat_cmp}
use Rattle.std.specs.Cmp.{nat_cmp_total}
use Rattle.std.specs.FinMap.{nat_cmp-IsAntisymmetric}
use Rattle.std.proofs.Common.{sym, ap, subst, ◌∙◌}
use Rattle.ll_rights.specs.declared.kind.Kind.TheVariants.{Dir}
use Rattle.ll_rights.specs.Map.{Map, get}
use Rattle.ll_rights.specs.MapCodes.{same_list_map}
use Rattle.ll_rights.proofs.Maps.{get-empty, same_map}
use Rattle.ll_seq.specs.declared.rules.Rules.{Rules}
use Rattle.ll_laws.specs.Walk.{Walk, marks}
use Rattle.ll_laws.specs.World.{World, new_world, overtaken, shown, advance, without_walk}
use Rattle.ll_laws.specs.declared.step.Step.{Step}
use Rattle.ll_laws.specs.Sound.{EndsKeepSound, IsSound, NewAreSound, SoundAreLegal, StepsKeepSound}
use Rattle.ll_laws.proofs.Shapes.{with_stale}
use Rattle.ll_laws.proofs.Turns.{advance_kept}
use Rattle.ll_laws.proofs.WalkMaps.{get-map_values}
use Rattle.ll_laws.proofs.Worlds.{Holds, starts, tree_of}
use Rattle.ll_laws.proofs.Marks.{Apart, apart}
use Rattle.ll_laws.proofs.LivingMarks.{Living, HoldsLiving, living}
use Rattle.ll_laws.proofs.Gates.{Gated, gated}

pub holds_of : (w : World) → IsSound w → Holds w
holds_of w h = record {
  legal = h.legal;
  numbers = h.numbers;
  under_way = λ number walk is. (h.valid number walk is).0;
  right = λ number walk is. (h.valid number walk is).1;
}

pub apart_of : (w : World) → IsSound w → Apart w
apart_of w h c d v u e f = h.apart c v e d u f

living_of : (w : World) → IsSound w → Living w
living_of w h number walk is i m =
    record { directory = h.living number walk is i m; place = h.placed number walk is i m }

gated_of : (w : World) → IsSound w → Gated w
gated_of w h number walk is =
    record {
      few = h.few number walk is;
      held = λ n. (h.gate number walk is n).0;
      fresh = λ n. (h.gate number walk is n).1;
      above = h.above number walk is;
    }

sound_of : (w : World) → HoldsLiving w → Apart w → Gated w → IsSound w
sound_of w both a g = let h = both.0 in record {
  legal = h.legal;
  numbers = h.numbers;
  valid = λ number walk is. (h.under_way number walk is, h.right number walk is);
  apart = λ c v e d u f. a c d v u e f;
  few = λ number walk is. (g number walk is).few;
  gate = λ number walk is n. ((g number walk is).held n, (g number walk is).fresh n);
  above = λ number walk is. (g number walk is).above;
  living = λ number walk is i m. (both.1 number walk is i m).directory;
  placed = λ number walk is i m. (both.1 number walk is i m).place;
}

pub sound_start : NewAreSound
sound_start rules room limit = sound_of (new_world rules room limit)
    (starts rules room limit, λ c v e. absurd (cc (sym e ∙ get-empty Walk nat_cmp c)))
    (λ c d v u e. absurd (cc (sym e ∙ get-empty Walk nat_cmp c)))
    (λ c v e. absurd (cc (sym e ∙ get-empty Walk nat_cmp c)))

pub sound_kept : StepsKeepSound
sound_kept w step' h = sound_of (advance w step').1
    (advance_kept HoldsLiving living w step' (holds_of w h, living_of w h))
    (advance_kept Apart apart w step' (apart_of w h))
    (advance_kept Gated gated w step' (gated_of w h))

-- where nothing is moved, nobody is overtaken
pub with_stale_none : (w : World) → with_stale [] w ≡ w
with_stale_none w = ap (λ (m : Map nat_cmp Walk). record w { walks = m })
    (same_list_map _ _ (same_map nat_cmp_total nat_cmp-IsAntisymmetric _ _ (λ q. get-map_values (overtaken []) w.walks q
    ∙ by (get w.walks q))))
  where
    as_it_was : (b : Bool) → (b || false) ≡ b
    as_it_was true = refl
    as_it_was false = refl

    by : (o : Option Walk) → option_map (overtaken []) o ≡ o
    by None = refl
    by (Some walk) = ap (λ b. Some (record walk { stale = b })) (as_it_was walk.stale)

-- want of memory ends a walk, too
pub sound_ended : EndsKeepSound
sound_ended w number walk h is = subst IsSound (with_stale_none (without_walk w number))
    (sound_of (with_stale [] (without_walk w number))
    (living.gives_up w number walk (holds_of w h, living_of w h) is)
    (apart.gives_up w number walk (apart_of w h) is)
    (gated.gives_up w number walk (gated_of w h) is))

pub sound_legal : SoundAreLegal
sound_legal w h = (h.legal, refl, h.valid, h.apart, h.few, h.gate)

-- what is marked has a number that was given
pub marked_below : (w : World) → IsSound w → (number : ℕ) (walk : Walk) → get w.walks number ≡ Some walk → (i : ℕ)
    → marks walk i ≡ true → i < (shown w).next
marked_below w h number walk is i m = (tree_of w).nodes i Dir (h.living number walk is i m)
