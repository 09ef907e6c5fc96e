-- The steps as the keeper makes them, with a pass or for one.
use Rattle.std.proofs.Common.{◌≡◌, ℕ, List, [], ◌∷◌, Option, Some, None, IsSome, IfSome, true, sym, ap, ◌∙◌, subst}
use Rattle.std.specs.Ordering.{nat_cmp}
use Rattle.atomic_table.specs.Seated.{TableId}
use Rattle.ll_rights.specs.Map.{Map, get, remove}
use Rattle.ll_client.specs.Views.{Known, keeper, joined}
use Rattle.ll_client.specs.TieRule.{TakesEntry, GivesEntry}
use Rattle.ll_client.specs.PassViews.{shown, IsSeat}
use Rattle.ll_client.proofs.TieSteps.{Sees, MayStep, with_pass, by_itself, takes_back, gives_out}

module _ {D : Type 0} where
  -- a pass that shows an entry is a seat of the table
  pub seat_of : (table its_table : TableId) (views : List (Known D)) → IsSeat table its_table views
      → IsSome (shown views) → (its_table ≡ table) × ((v : Known D) × (views ≡ v ∷ []))
  seat_of table its_table [] is some = absurd (cc some)
  seat_of table its_table (v ∷ vs) is some = (is.0, (v, ap (λ rest. v ∷ rest) is.1))

  -- the keeper of these entries, to whom a pass came back that shows one
  pub record HasJoined (me : Sees D) (entries : Map nat_cmp D) (entry : Option (ℕ × D)) : Type 0 where
    pub keeps : me.0.keeps ≡ true
    pub entries_are : me.0.entries ≡ entries
    pub shows : me.0.shows ≡ entry
    pub holds_no_slot : me.1 ≡ []

  pub has_joined :
      (before after seat : Sees D) (views : List (Known D)) (entries : Map nat_cmp D) (entry : Option (ℕ × D))
      → before ≡ by_itself before.0.entries → before.0.entries ≡ entries → after ≡ (joined before.0 seat.0, before.1)
      → views ≡ seat.0 ∷ [] → shown views ≡ entry → HasJoined after entries entry
  has_joined before after seat views entries entry keeper_is entries_are after_is views_are shown_is = record {
    keeps = ap (λ m. m.0.keeps) after_is ∙ ap (λ m. m.0.keeps) keeper_is;
    entries_are = ap (λ m. m.0.entries) after_is ∙ entries_are;
    shows = ap (λ m. m.0.shows) after_is ∙ ap shown (sym views_are) ∙ shown_is;
    holds_no_slot = ap (λ m. m.1) after_is ∙ ap (λ m. m.1) keeper_is;
  }

  pub may_take : (slots by : ℕ) (me : Sees D) (entries : Map nat_cmp D) (entry : Option (ℕ × D))
      → HasJoined me entries entry → IsSome entry → MayStep slots by me (TakesEntry me)
  may_take slots by me entries None is some = absurd (cc some)
  may_take slots by me entries (Some (number, x)) is some =
      let me_is : with_pass entries (number, x) ≡ me = λ i. (
        record { keeps = sym is.keeps i; entries = sym is.entries_are i; shows = sym is.shows i },
        sym is.holds_no_slot i,
      ) in
      subst (λ (m : Sees D). MayStep slots by m (TakesEntry m)) me_is (takes_back slots by number x entries)

  -- what the keeper has learnt of the entry
  pub record Took (entries : Map nat_cmp D) (entry : Option (ℕ × D)) (after : Sees D) : Type 0 where
    pub shown_is : IfSome entry (λ e. get entries e.0 ≡ Some e.1)
    pub gone : IfSome entry (λ e. after.0.entries ≡ remove entries e.0)
    pub keeps_on : after ≡ by_itself after.0.entries

  pub took : (me after : Sees D) (entries : Map nat_cmp D) (entry : Option (ℕ × D)) → HasJoined me entries entry
      → IsSome entry → TakesEntry me after → Took entries entry after
  took me after entries None is some takes = absurd (cc some)
  took me after entries (Some (number, x)) is some takes =
      let told = takes number x is.shows in
      let after_is : after ≡ by_itself (remove entries number) =
      told.1 ∙ (λ i. (keeper (remove (is.entries_are i) number), is.holds_no_slot i)) in
      record {
        shown_is = ap (λ m. get m number) (sym is.entries_are) ∙ told.0;
        gone = ap (λ m. m.0.entries) after_is;
        keeps_on = after_is ∙ (λ i. by_itself (sym after_is i).0.entries);
      }

  pub may_give : (slots by : ℕ) (me : Sees D) (entries : Map nat_cmp D) (entry : ℕ × D) → me ≡ by_itself entries
      → get entries entry.0 ≡ None → MayStep slots by me (GivesEntry entry.0 entry.1 me)
  may_give slots by me entries entry is free =
      subst (λ (m : Sees D). MayStep slots by m (GivesEntry entry.0 entry.1 m)) (sym is)
      (gives_out slots by entry.0 entry.1 entries free)
