-- What a layer has to grant, so that it denies nothing of what is asked.
use Rattle.std.specs.Prelude.{◌≡◌, ◌↔◌, ◌<◌, ℕ, Bool, true, false, not, ◌&&◌, ◌||◌, List, [], ◌∷◌, Option, Some, None}
use Rattle.std.specs.Prelude.{MatchOption, ⊤, ◌==◌, slice_get, refl}
use Rattle.std.proofs.Common.{ap, arith, eqb-true, sym, subst, ◌∙◌}
use Rattle.std.proofs.lemmas.Bool.{agree_below_at}
use Rattle.ll_rights.specs.Access.{holds}
use Rattle.ll_rights.specs.Right.{truncate}
use Rattle.ll_rules.specs.Layer.{Layer, grants_on}
use Rattle.ll_decide.specs.declared.demands.Demands.{Demands}
use Rattle.ll_decide.specs.declared.demands.On.{On}
use Rattle.ll_decide.specs.declared.demands.On.TheVariants.{Itself, Other, Parent, Left, Entered}
use Rattle.ll_decide.specs.declared.denial.Place.{Place}
use Rattle.ll_decide.specs.declared.denial.Place.TheVariants.{At, Old, New}
use Rattle.ll_decide.specs.Demands.{gaining, lacking, misses, set_on}
use Rattle.ll_decide.specs.Judge.{grants_along}
use Rattle.ll_decide.specs.Verdict.{all_denials, verdict}
use Rattle.std.specs.Prelude.{bit_or}
use Rattle.ll_decide.proofs.Bits.{holds-or}
use Rattle.ll_seq.specs.Asked.{grants}
use Rattle.ll_seq.specs.Call.{first_path, second_path}
use Rattle.ll_seq.specs.CallParts.{asked, moved}
use Rattle.ll_seq.specs.Demanded.{AreDemands, chains}
use Rattle.ll_seq.specs.State.{State}
use Rattle.ll_seq.specs.declared.call.Call.{Call}
use Rattle.ll_seq.specs.declared.reply.Entry.{Entry}
use Rattle.ll_seq.proofs.AskedLists.{verdict_same}
use Rattle.ll_seq.proofs.StepParts.{none_first}
use Rattle.ll_why.specs.Places.{denies}
use Rattle.ll_why.specs.Reasons.{AreAsked, chain_of, kept_number}
use Rattle.ll_why.specs.declared.asks.Asks.{Asks}
use Rattle.ll_why.proofs.Denials.{allows_willing, no_denial, no_gain, no_lack, willing_allows}
use Rattle.ll_learn.specs.Asks.{AllowsAsked}
use Rattle.ll_learn.specs.PassedCalls.{Allows, Openings}
use Rattle.ll_learn.specs.declared.needs.Needs.{Needs}
use Rattle.ll_learn.specs.Needs.{GivesNone, GrantsAll, Meets}

either_off : (a b : Bool) → (a || b) ≡ false → (a ≡ false) × (b ≡ false)
either_off false false e = (refl, refl)
either_off true b e = absurd cc
either_off false true e = absurd cc

-- what is asked and not missing is granted
is_granted : (asks grants : Bool) → (asks && not grants) ≡ false → asks ≡ true → grants ≡ true
is_granted true true e a = refl
is_granted true false e a = absurd cc
is_granted false grants e a = absurd cc

none_missing : (asks grants : Bool) → (asks ≡ true → grants ≡ true) → (asks && not grants) ≡ false
none_missing true true e = refl
none_missing true false e = let g : false ≡ true = e refl in absurd cc
none_missing false grants e = refl

-- what means something and isn't gained is granted before
is_kept : (means into from : Bool) → (means && into && not from) ≡ false → means ≡ true → into ≡ true → from ≡ true
is_kept true true true e m i = refl
is_kept true true false e m i = absurd cc
is_kept true false from e m i = absurd cc
is_kept false into from e m i = absurd cc

none_gained : (means into from : Bool) → (means ≡ true → into ≡ true → from ≡ true)
    → (means && into && not from) ≡ false
none_gained true true true e = refl
none_gained true true false e = let g : false ≡ true = e refl refl in absurd cc
none_gained true false from e = refl
none_gained false into from e = refl

module _ (g : On → ℕ → Bool) (d : Demands) where
  -- each right that is asked on this is granted there
  abbrev IsMet : On → Type 0
  IsMet on = (right : ℕ) → right < 15 → holds (set_on d on) right ≡ true → g on right ≡ true

  abbrev Keeps : ℕ → (into from : On) → Type 0
  Keeps rights into from =
      (right : ℕ) → right < 15 → holds rights right ≡ true → g into right ≡ true → g from right ≡ true

  abbrev NothingDenied : Type 0
  NothingDenied = (right : ℕ) → right < 15 → denies g d right ≡ false

  abbrev AllMet : Type 0
  AllMet = ((on : On) → IsMet on) × Keeps d.there.0 Entered Itself × Keeps d.back.0 Left Other

  no_miss : (right : ℕ) → denies g d right ≡ false → (on : On) → misses g d right on ≡ false
  no_miss right free Itself = (either_off _ (misses g d right Parent) (no_lack g d right free At)).0
  no_miss right free Parent = (either_off (misses g d right Itself) _ (no_lack g d right free At)).1
  no_miss right free Left = no_lack g d right free Old
  no_miss right free Other = (either_off _ (misses g d right Entered) (no_lack g d right free New)).0
  no_miss right free Entered = (either_off (misses g d right Other) _ (no_lack g d right free New)).1

  all_met : NothingDenied → AllMet
  all_met free = (
    λ on right known. is_granted (holds (set_on d on) right) (g on right) (no_miss right (free right known) on),
    λ right known. is_kept (holds d.there.0 right) (g Entered right) (g Itself right)
        (no_gain g d right (free right known) New),
    λ right known. is_kept (holds d.back.0 right) (g Left right) (g Other right)
        (no_gain g d right (free right known) Old),
  )

  nothing_denied : AllMet → NothingDenied
  nothing_denied met right known = no_denial g d right lack gain
    where
      miss : (on : On) → misses g d right on ≡ false
      miss on = none_missing (holds (set_on d on) right) (g on right) (met.0 on right known)

      lack : (place : Place) → lacking g d right place ≡ false
      lack At = λ i. miss Itself i || miss Parent i
      lack Old = miss Left
      lack New = λ i. miss Other i || miss Entered i

      gain : (place : Place) → gaining g d right place ≡ false
      gain At = refl
      gain Old = none_gained (holds d.back.0 right) (g Left right) (g Other right) (met.2 right known)
      gain New = none_gained (holds d.there.0 right) (g Entered right) (g Itself right) (met.1 right known)

-- ---- by chains

or_true : (a b : Bool) → (a || b) ≡ true → (C : Type 0) → (a ≡ true → C) → (b ≡ true → C) → C
or_true true b e C f g = f refl
or_true false true e C f g = g refl
or_true false false e C f g = absurd cc

first_true : (a b : Bool) → a ≡ true → (a || b) ≡ true
first_true true b e = refl
first_true false b e = absurd cc

second_true : (a b : Bool) → b ≡ true → (a || b) ≡ true
second_true true b e = refl
second_true false true e = refl
second_true false false e = absurd cc

module _ (grants : List ℕ → ℕ → Bool) (asks : Asks) where
  abbrev sets : Demands
  sets = asks.demands

  abbrev along : On → ℕ → Bool
  along on right = grants (chain_of asks on) right

  -- the six parts that are added one after the other
  abbrev pub SixParts : Type 0
  SixParts =
      GrantsAll grants sets.itself.0 asks.first.itself.items
      × GrantsAll grants sets.other.0 asks.second.itself.items
      × GrantsAll grants (bit_or sets.parent.0 sets.left.0) asks.first.parent.items
      × GrantsAll grants sets.entered.0 asks.second.parent.items
      × GivesNone grants sets.there.0 asks.first.itself.items asks.second.parent.items
      × GivesNone grants sets.back.0 asks.second.itself.items asks.first.parent.items

  pub six_parts : AllowsAsked grants asks → SixParts
  six_parts free =
      let met = all_met along sets free in (
        met.0 Itself,
        met.0 Other,
        λ right known has. or_true (holds sets.parent.0 right) (holds sets.left.0 right)
            (sym (holds-or sets.parent.0 sets.left.0 right) ∙ has) (grants asks.first.parent.items right ≡ true)
            (met.0 Parent right known) (met.0 Left right known),
        met.0 Entered,
        met.1,
        met.2,
      )

  pub from_six : SixParts → AllowsAsked grants asks
  from_six parts = nothing_denied along sets (each, parts.4, parts.5)
    where
      each : (on : On) → IsMet along sets on
      each Itself = parts.0
      each Other = parts.1
      each Parent = λ right known has. parts.2 right known
          (holds-or sets.parent.0 sets.left.0 right
          ∙ first_true (holds sets.parent.0 right) (holds sets.left.0 right) has)
      each Left = λ right known has. parts.2 right known
          (holds-or sets.parent.0 sets.left.0 right
          ∙ second_true (holds sets.parent.0 right) (holds sets.left.0 right) has)
      each Entered = parts.3

-- ---- by the call's paths

module _ (s : State) (call : Call) (asks : Asks) (are : AreAsked s call asks) (layer : Layer) where
  same_chains : ◌≡◌ {A = On → List ℕ} (chain_of asks) (chains s call)
  same_chains = λ i on. are.chains on i

  abbrev told : AreDemands s call asks.demands
  told = are.demands

  verdicts : verdict (grants s) (layer ∷ []) (asked s call) (moved s call)
      ≡ verdict (grants_along (chain_of asks)) (layer ∷ []) told.asks told.moves
  verdicts =
      (λ i. verdict (grants s) (layer ∷ []) (told.all_asked i) (told.all_moved i))
      ∙ verdict_same s (first_path call) (second_path call) (layer ∷ []) told.asks told.moves
      ∙ sym (λ i. verdict (grants_along (same_chains i)) (layer ∷ []) told.asks told.moves)

  pub allowed_is : AllowsAsked (grants_on layer) asks
      ↔ (all_denials (grants s) (layer ∷ []) (asked s call) (moved s call) ≡ [])
  allowed_is = (
    λ free. none_first (all_denials (grants s) (layer ∷ []) (asked s call) (moved s call))
        (verdicts ∙ willing_allows (chain_of asks) asks.demands told.asks told.moves told.are_asks told.are_moves
        (layer ∷ []) (free, tt)),
    λ none. (allows_willing (chain_of asks) asks.demands told.asks told.moves told.are_asks told.are_moves
        (layer ∷ []) (sym verdicts ∙ ap (λ l. slice_get l 0) none)).0,
  )

-- ---- added one after the other

module _ (grants : List ℕ → ℕ → Bool) (asks : Asks) (n0 n1 n2 n3 n4 n5 n6 : Needs)
    (itself other parent entered : List ℕ) (a : itself ≡ asks.first.itself.items) (b : other ≡ asks.second.itself.items)
    (p : parent ≡ asks.first.parent.items) (e : entered ≡ asks.second.parent.items) (both : ℕ)
    (u : both ≡ bit_or asks.demands.parent.0 asks.demands.left.0) where
  abbrev Parts : Type 0
  Parts =
      GrantsAll grants asks.demands.itself.0 itself
      × GrantsAll grants asks.demands.other.0 other
      × GrantsAll grants both parent
      × GrantsAll grants asks.demands.entered.0 entered
      × GivesNone grants asks.demands.there.0 itself entered
      × GivesNone grants asks.demands.back.0 other parent

  along_two : (rights : ℕ) (from into off on : List ℕ) → from ≡ off → into ≡ on → GivesNone grants rights from into
      → GivesNone grants rights off on
  along_two rights from into off on f i given =
      subst (λ (l : List ℕ). GivesNone grants rights off l) i
      (subst (λ (l : List ℕ). GivesNone grants rights l into) f given)

  to_six : Parts → SixParts grants asks
  to_six parts = (
    subst (GrantsAll grants asks.demands.itself.0) a parts.0,
    subst (GrantsAll grants asks.demands.other.0) b parts.1,
    subst (λ n. GrantsAll grants n asks.first.parent.items) u (subst (GrantsAll grants both) p parts.2),
    subst (GrantsAll grants asks.demands.entered.0) e parts.3,
    along_two asks.demands.there.0 itself entered asks.first.itself.items asks.second.parent.items a e parts.4,
    along_two asks.demands.back.0 other parent asks.second.itself.items asks.first.parent.items b p parts.5,
  )

  of_six : SixParts grants asks → Parts
  of_six parts = (
    subst (GrantsAll grants asks.demands.itself.0) (sym a) parts.0,
    subst (GrantsAll grants asks.demands.other.0) (sym b) parts.1,
    subst (GrantsAll grants both) (sym p) (subst (λ n. GrantsAll grants n asks.first.parent.items) (sym u) parts.2),
    subst (GrantsAll grants asks.demands.entered.0) (sym e) parts.3,
    along_two asks.demands.there.0 asks.first.itself.items asks.second.parent.items itself entered (sym a) (sym e)
        parts.4,
    along_two asks.demands.back.0 asks.second.itself.items asks.first.parent.items other parent (sym b) (sym p)
        parts.5,
  )

  pub collected : Meets grants n1 ↔ (Meets grants n0 × GrantsAll grants asks.demands.itself.0 itself)
      → Meets grants n2 ↔ (Meets grants n1 × GrantsAll grants asks.demands.other.0 other)
      → Meets grants n3 ↔ (Meets grants n2 × GrantsAll grants both parent)
      → Meets grants n4 ↔ (Meets grants n3 × GrantsAll grants asks.demands.entered.0 entered)
      → Meets grants n5 ↔ (Meets grants n4 × GivesNone grants asks.demands.there.0 itself entered)
      → Meets grants n6 ↔ (Meets grants n5 × GivesNone grants asks.demands.back.0 other parent)
      → Meets grants n6 ↔ (Meets grants n0 × AllowsAsked grants asks)
  collected one two three four five six = (
    λ meets.
        let r6 = six.0 meets in
        let r5 = five.0 r6.0 in
        let r4 = four.0 r5.0 in
        let r3 = three.0 r4.0 in
        let r2 = two.0 r3.0 in
        let r1 = one.0 r2.0 in
        (r1.0, from_six grants asks (to_six (r1.1, r2.1, r3.1, r4.1, r5.1, r6.1))),
    λ start.
        let parts = of_six (six_parts grants asks start.1) in
        six.1 (
          five.1 (four.1 (three.1 (two.1 (one.1 (start.0, parts.0), parts.1), parts.2), parts.3), parts.4),
          parts.5,
        ),
  )

-- ---- one call

truncate_alone : (right : ℕ) → right < 15 → holds 0x4000 right ≡ (right == truncate)
truncate_alone right known = agree_below_at (λ r. holds 0x4000 r) (λ r. r == truncate) 15 right refl known

pub truncate_is : (grants : List ℕ → ℕ → Bool) (inodes : List ℕ)
    → GrantsAll grants 0x4000 inodes ↔ (grants inodes truncate ≡ true)
truncate_is grants inodes = (
  λ all. all truncate (omega arith) refl,
  λ one right known has.
      let same : right ≡ truncate = eqb-true right truncate (sym (truncate_alone right known) ∙ has) in
      subst (λ r. grants inodes r ≡ true) (sym same) one,
)

-- what a descriptor keeps is asked at its opening
pub kept_allows : (layer : Layer) (s : State) (known : Openings) (e : Entry) (fd : ℕ) (inodes : List ℕ)
    → kept_number e.call ≡ Some fd → known e.client fd ≡ Some inodes
    → Allows layer s known e ↔ GrantsAll (grants_on layer) 0x4000 inodes
kept_allows layer s known e fd inodes kept there = (
  λ allows. (truncate_is (grants_on layer) inodes).1
      (subst (λ (o : Option (List ℕ)). MatchOption o ⊤ (λ l. grants_on layer l truncate ≡ true)) there
      (subst (λ (o : Option ℕ). AsKept o) kept allows)),
  λ granted. subst (λ (o : Option ℕ). AsKept o) (sym kept)
      (subst (λ (o : Option (List ℕ)). MatchOption o ⊤ (λ l. grants_on layer l truncate ≡ true)) (sym there)
      ((truncate_is (grants_on layer) inodes).0 granted)),
)
  where
    AsKept : Option ℕ → Type 0
    AsKept o = MatchOption o (all_denials (grants s) (layer ∷ []) (asked s e.call) (moved s e.call) ≡ [])
        (λ fd. MatchOption (known e.client fd) ⊤ (λ l. grants_on layer l truncate ≡ true))

-- and nothing where that isn't known
pub unknown_allows : (layer : Layer) (s : State) (known : Openings) (e : Entry) (fd : ℕ)
    → kept_number e.call ≡ Some fd → known e.client fd ≡ None → Allows layer s known e
unknown_allows layer s known e fd kept there =
    subst (λ (o : Option ℕ). AsKept o) (sym kept)
    (subst (λ (o : Option (List ℕ)). MatchOption o ⊤ (λ l. grants_on layer l truncate ≡ true)) (sym there) tt)
  where
    AsKept : Option ℕ → Type 0
    AsKept o = MatchOption o (all_denials (grants s) (layer ∷ []) (asked s e.call) (moved s e.call) ≡ [])
        (λ fd. MatchOption (known e.client fd) ⊤ (λ l. grants_on layer l truncate ≡ true))

pub judged_allows : (layer : Layer) (s : State) (known : Openings) (e : Entry) (asks : Asks)
    → kept_number e.call ≡ None → AreAsked s e.call asks
    → Allows layer s known e ↔ AllowsAsked (grants_on layer) asks
judged_allows layer s known e asks kept are = (
  λ allows. (allowed_is s e.call asks are layer).1 (subst (λ (o : Option ℕ). AsKept o) kept allows),
  λ free. subst (λ (o : Option ℕ). AsKept o) (sym kept) ((allowed_is s e.call asks are layer).0 free),
)
  where
    AsKept : Option ℕ → Type 0
    AsKept o = MatchOption o (all_denials (grants s) (layer ∷ []) (asked s e.call) (moved s e.call) ≡ [])
        (λ fd. MatchOption (known e.client fd) ⊤ (λ l. grants_on layer l truncate ≡ true))

-- what is added of a call is what the layer has to allow
pub added : (new old part allows on free : Type 0) → new ↔ (old × part) → allows ↔ part → on → free
    → new ↔ (old × (on → free → allows))
added new old part allows on free adds is here passed = (
  λ meets. let both = adds.0 meets in (both.0, λ _ _. is.1 both.1),
  λ both. adds.1 (both.0, is.0 (both.1 here passed)),
)
