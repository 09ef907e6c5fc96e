use Rattle.std.proofs.Common.{◌≡◌, ◌∙◌, [], ◌∷◌, ℕ, List, Less, length, map, lit<, ap, sym, refl, subst, rules}
use Rattle.std.specs.Prelude.{◌==◌}
use Rattle.std.specs.List.{slice_split, AllByRecursion}
use Rattle.std.proofs.lemmas.List.{map-append}
use Rattle.std.proofs.lemmas.Iterator.Splits.{YieldsList-from_str_split}
use Rattle.std.proofs.lemmas.Iterator.Consumers.{YieldsList-so_far, YieldsList-turn, YieldsList-end}
use Rattle.ll_path.specs.Name.{IsName}
use Rattle.ll_wire.proofs.NamesInOrder.{order, Rise, last_from, last_is, one_more, all_and, none_rise, are_listed}
use Rattle.ll_wire.proofs.NamesInOrder.{name_at}
use Rattle.ll_wire.proofs.replies.are_listed.Goals as goal
use Rattle.ll_wire.proofs.replies.are_listed.Goals.{then-not-fits-via-then-not-fits}
use Rattle.ll_wire.proofs.replies.are_listed.Goals.{then-not-fits-via-else-not-fits+then-ne}

pub loop-name-init : goal.loop-name-init
loop-name-init c = record {
  can_next = tt;
  is_finite = tt;
  text = search rules;
  last = refl;
  names = tt;
  rising = none_rise;
}

pub returns-then-not-fits : goal.returns-then-not-fits
returns-then-not-fits c listed =
    let front = YieldsList-so_far (YieldsList-from_str_split 32 c.args.text.now (lit< tt) (cc) (cc) (cc))
    c.loop-name.yielded _ c.loop-name.yielded_by in
    let t = YieldsList-turn (YieldsList-from_str_split 32 c.args.text.now (lit< tt) (cc) (cc) (cc)) c.loop-name.yielded
    _ c.loop-name.yielded_by _ _ c.in-Some.name c.in-Some.is c.next.ensures.steps in
    let at = name_at (slice_split (λ b. b == 32) c.args.text.now) (map (λ s. s.now) c.loop-name.yielded)
    c.in-Some.name.now (length c.loop-name.yielded) listed t.0 front t.1 in
    let less : order c.loop-name.last.now c.in-Some.name.now ≡ Less =
    ap (λ (x : List ℕ). order x c.in-Some.name.now) c.loop-name.invariant.last ∙ at.1 in
    let fits = c.fits.ensures.1 at.0 in
    elim c.then-not-fits.branch [
      | then-not-fits-via-then-not-fits w ↦ search rules
      | then-not-fits-via-else-not-fits+then-ne w ↦ search rules
    ]

pub loop-name-preserved : goal.loop-name-preserved
loop-name-preserved c =
    let name : IsName c.in-Some.name.now = c.fits.ensures.0 (search rules) in
    let less : order c.loop-name.last.now c.in-Some.name.now ≡ Less = search rules in
    let after : order (last_from [] (map (λ s. s.now) c.loop-name.yielded)) c.in-Some.name.now ≡ Less =
    ap (λ (x : List ℕ). order x c.in-Some.name.now) (sym c.loop-name.invariant.last) ∙ less in
    let more = sym (map-append (λ s. s.now) c.loop-name.yielded (c.in-Some.name ∷ [])) in
    record {
      can_next = tt;
      is_finite = tt;
      text = search rules;
      last = sym (last_is [] (map (λ s. s.now) c.loop-name.yielded) c.in-Some.name.now) ∙ ap (last_from []) more;
      names = subst (AllByRecursion IsName) more
          (all_and IsName (map (λ s. s.now) c.loop-name.yielded) c.in-Some.name.now c.loop-name.invariant.names name);
      rising = subst (λ (names : List (List ℕ)). Rise ([] ∷ names)) more
          (one_more [] (map (λ s. s.now) c.loop-name.yielded) c.in-Some.name.now c.loop-name.invariant.rising after);
    }

pub returns : goal.returns
returns c =
    let t = YieldsList-end (YieldsList-from_str_split 32 c.args.text.now (lit< tt) (cc) (cc) (cc)) c.loop-name.yielded _
    c.loop-name.yielded_by _ _ c.in-None.is c.next.ensures.steps in
    are_listed _ (subst (AllByRecursion IsName) t.0 c.loop-name.invariant.names)
    (subst (λ (names : List (List ℕ)). Rise ([] ∷ names)) t.0 c.loop-name.invariant.rising)
