-- What several parts need, one after the other.
use Rattle.std.specs.Prelude.{◌≡◌, ◌↔◌, ◌+◌, ◌⊎◌, ℕ, zero, suc, List, [], ◌∷◌, ◌++◌, All, Contains, Option, None, Some}
use Rattle.std.specs.Prelude.{◌<◌, ◌≤◌, drop, length, map, option_map, slice_get, take, refl}
use Rattle.std.specs.Borrow.{Bor}
use Rattle.std.specs.Option.{option_or}
use Rattle.std.proofs.Common.{ap, arith, get_or, inl, inr, subst, sym, ◌∙◌}
use Rattle.std.proofs.lemmas.List.{map_more, take_all}
use Rattle.std.proofs.lemmas.Option.{slice_get-map, slice_get_read}
use Rattle.std.proofs.lemmas.List.Elements.{All-append, All-contains, Contains-append_left, Contains-append_right}
use Rattle.std.proofs.lemmas.List.Elements.{Contains-get_or, Contains-push_cases}
use Rattle.ll_rules.specs.Layer.{Layer, grants_on}
use Rattle.ll_seq.specs.declared.reply.Entry.{Entry}
use Rattle.ll_seq.specs.History.{state_after}
use Rattle.ll_seq.specs.State.{State}
use Rattle.ll_learn.specs.declared.needs.Asked.{Asked}
use Rattle.ll_learn.specs.declared.needs.Moved.{Moved}
use Rattle.ll_learn.specs.declared.needs.Needs.{Needs}
use Rattle.ll_learn.specs.declared.needs.Origin.{Origin}
use Rattle.ll_learn.specs.Bound.{AllowsEach, MovesAreTheirs, Part, WereThere}
use Rattle.ll_learn.specs.Charges.{WereInOne}
use Rattle.ll_learn.specs.Learned.{BeginsSo, part_behind}
use Rattle.ll_learn.specs.Needs.{AreRooted, Meets}
use Rattle.ll_learn.specs.Gathered.{AreNeedsOfAll}
use Rattle.ll_learn.specs.Preface.{AreGathered, Gathers}
use Rattle.ll_learn.specs.Outside.{first_outside}
use Rattle.ll_learn.specs.PassedCalls.{AllowsRun, IsLearnable, is_client}
use Rattle.ll_learn.proofs.OutsideMoves.{both_are, moves_are_theirs, none_is_outside}

-- no part needs anything
pub of_none : (needs : Needs) → ((layer : Layer) → Meets (grants_on layer) needs) → AreRooted needs
    → needs.asks.items ≡ [] → needs.moves.items ≡ [] → needs.outside ≡ None → AreNeedsOfAll [] needs
of_none needs meets rooted none unmoved alone = record {
  learnable = λ part there. absurd (nowhere part there);
  met = λ layer. (λ m part there. absurd (nowhere part there), λ all. meets layer);
  rooted = rooted;
  paths = subst (All (λ (a : Asked). WereInOne [] a.inodes.items)) (sym none)
      (λ k d within. absurd (omega (arith, within)));
  moves = subst (All (λ (m : Moved). WereInOne [] m.from.items)) (sym unmoved)
      (λ k d within. absurd (omega (arith, within)));
  theirs = (λ _ part there. absurd (nowhere part there), λ _. alone);
}
  where
    nowhere : (part : Part) → Contains [] part → ⊥
    nowhere part there = omega (arith, there.1)

both_none : (o p : Option Origin) → option_or o p ≡ None → (o ≡ None) × (p ≡ None)
both_none None p e = (refl, e)
both_none (Some x) p e = absurd (cc e)

-- nothing is moved outside exactly if nothing was before, and nothing is by these entries
pub none_outside : (client history : ℕ) (es : List Entry) (old new : Needs)
    → new.outside ≡ option_or old.outside (first_outside (is_client client) history 1 es)
    → (new.outside ≡ None) ↔ ((old.outside ≡ None) × MovesAreTheirs (is_client client) es)
none_outside client history es old new is = (
  λ none.
      let w = both_none old.outside (first_outside (is_client client) history 1 es) (sym is ∙ none) in
      (w.0, moves_are_theirs (is_client client) history 1 es w.1),
  λ both.
      is ∙ both_are old.outside (first_outside (is_client client) history 1 es) both.0
      (none_is_outside (is_client client) history 1 es both.1),
)

module _ (parts : List Part) (part : Part) (old new : Needs) (were : AreNeedsOfAll parts old)
    (more : Gathers part.cut part.client part.entries old new) where
  abbrev all : List Part
  all = parts ++ part ∷ []

  here : Contains all part
  here = Contains-append_right parts (part ∷ []) part (0, omega arith, refl)

  -- what holds of each old part and of the new one
  each : (P : Part → Type 0) → ((p : Part) → Contains parts p → P p) → P part → (p : Part) → Contains all p → P p
  each P before now p there = elim (Contains-push_cases parts part p there) [
    | inl was ↦ before p was
    | inr same ↦ subst P same now
  ]

  allows : (layer : Layer) → Meets (grants_on layer) new ↔ AllowsEach all layer
  allows layer = (
    λ meets.
        let w = (more.adds layer).0 meets in
        each (λ p. AllowsRun p.cut p.client p.entries layer) ((were.met layer).0 w.0) w.1,
    λ allows. (more.adds layer).1
        ((were.met layer).1 (λ p there. allows p (Contains-append_left parts (part ∷ []) p there)), allows part here),
  )

  was_in_one : (inodes : List ℕ) → WereInOne parts inodes → WereInOne all inodes
  was_in_one inodes was = (was.0, Contains-append_left parts (part ∷ []) was.0 was.1, was.2)

  paths : (a : Asked) → Contains new.asks.items a → WereInOne all a.inodes.items
  paths a there =
      elim (All-contains (λ (b : Asked). Contains old.asks.items b ⊎ WereThere part.cut part.entries b.inodes.items)
      new.asks.items a more.paths there) [
        | inl before ↦ was_in_one a.inodes.items
            (All-contains (λ (b : Asked). WereInOne parts b.inodes.items) old.asks.items a were.paths before)
        | inr was ↦ (part, here, was)
      ]

  moves : (m : Moved) → Contains new.moves.items m → WereInOne all m.from.items
  moves m there =
      elim (All-contains (λ (b : Moved). Contains old.moves.items b ⊎ WereThere part.cut part.entries b.from.items)
      new.moves.items m more.moves there) [
        | inl before ↦ was_in_one m.from.items
            (All-contains (λ (b : Moved). WereInOne parts b.from.items) old.moves.items m were.moves before)
        | inr was ↦ (part, here, was)
      ]

  pub one_part_more : AreNeedsOfAll all new
  one_part_more = record {
    learnable = each (λ p. IsLearnable p.cut p.client p.entries) were.learnable more.learnable;
    met = allows;
    rooted = more.rooted were.rooted;
    paths = λ k d within. paths (get_or new.asks.items k d) (Contains-get_or new.asks.items k d within);
    moves = λ k d within. moves (get_or new.moves.items k d) (Contains-get_or new.moves.items k d within);
    theirs = (
      λ none.
          let w = more.outside.0 none in
          each (λ p. MovesAreTheirs (is_client p.client) p.entries) (were.theirs.0 w.0) w.1,
      λ all. more.outside.1 (
        were.theirs.1 (λ p there. all p (Contains-append_left parts (part ∷ []) p there)),
        all part here,
      ),
    );
  }

-- one history more
pub gathered_more : (s : State) (early : List Entry) (client : ℕ) (hs : List (List Entry)) (es : List Entry)
    (old new : Needs) → AreGathered s early client hs old → BeginsSo early client es
    → Gathers (state_after s early) client (part_behind (state_after s early) client (length early) es).entries old new
    → AreGathered s early client (hs ++ es ∷ []) new
gathered_more s early client hs es old new were begins more =
    let part = part_behind (state_after s early) client (length early) in
    record {
      begin = All-append (BeginsSo early client) hs (es ∷ []) were.begin (one es begins);
      of = subst (λ (parts : List Part). AreNeedsOfAll parts new) (sym (map_last part hs es))
          (one_part_more (map part hs) (part es) old new were.of more);
    }
  where
    one : (x : List Entry) → BeginsSo early client x → All (BeginsSo early client) (x ∷ [])
    one x is zero d within = is
    one x is (suc k) d within = absurd (omega (arith, within))

    map_last : (f : List Entry → Part) (xs : List (List Entry)) (x : List Entry)
        → map f (xs ++ x ∷ []) ≡ map f xs ++ f x ∷ []
    map_last f [] x = refl
    map_last f (y ∷ xs) x = ap (λ (l : List Part). f y ∷ l) (map_last f xs x)

-- ---- Histories that are lent

module _ (s : State) (early : List Entry) (client : ℕ) (hs : List (Bor (List Entry))) where
  abbrev lent : Bor (List Entry) → List Entry
  lent h = h.now

  pub gathered_none : (needs : Needs) → ((layer : Layer) → Meets (grants_on layer) needs) → AreRooted needs
      → needs.asks.items ≡ [] → needs.moves.items ≡ [] → needs.outside ≡ None
      → AreGathered s early client (map lent (take 0 hs)) needs
  gathered_none needs meets rooted none unmoved alone =
      subst (λ (l : List (Bor (List Entry))). AreGathered s early client (map lent l) needs) (sym (nothing hs))
      of_nothing
    where
      of_nothing : AreGathered s early client [] needs
      of_nothing = record {
        begin = λ k d within. absurd (omega (arith, within));
        of = of_none needs meets rooted none unmoved alone;
      }

      nothing : (l : List (Bor (List Entry))) → take 0 l ≡ []
      nothing [] = refl
      nothing (x ∷ l) = refl

  module _ (i : ℕ) (x : Bor (List Entry)) (within : i < length hs) (at : x ≡ get_or hs i x) where
    pub gathered_next : (old new : Needs) → AreGathered s early client (map lent (take i hs)) old
        → BeginsSo early client x.now
        → Gathers (state_after s early) client (drop (length early) x.now) old new
        → AreGathered s early client (map lent (take (i + 1) hs)) new
    gathered_next old new were begins more =
        subst (λ (l : List (List Entry)). AreGathered s early client l new)
        (sym (map_more lent hs i x within ∙ ap (λ y. map lent (take i hs) ++ lent y ∷ []) (sym at)))
        (gathered_more s early client (map lent (take i hs)) x.now old new were begins more)

    pub is_lent : slice_get (map lent hs) i ≡ Some x.now
    is_lent = slice_get-map lent hs i ∙ ap (option_map lent) (slice_get_read hs (length hs) i x refl within at)

  pub gathered_all : (i : ℕ) (needs : Needs) → length hs ≤ i → AreGathered s early client (map lent (take i hs)) needs
      → AreGathered s early client (map lent hs) needs
  gathered_all i needs past were =
      subst (λ (l : List (Bor (List Entry))). AreGathered s early client (map lent l) needs) (take_all i hs past) were
