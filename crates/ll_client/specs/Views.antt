-- What a seat at the table knows. own
use Rattle.std.specs.Prelude.{ℕ, Bool, true, false, Option, Some, None, refl}
use Rattle.std.specs.Coded.{Coded, code_by, coded×, coded_ℕ, coded_bool, coded_option}
use Rattle.std.specs.Ordering.{nat_cmp}
use Rattle.ll_rights.specs.Map.{Map, empty}
use Rattle.ll_rights.specs.MapCodes.{code}

-- keeps: whether the seat is the keeper's. entries: all entries shown by passes. shows: the entry that the seat itself
-- shows
pub record Known (D : Type 0) : Type 0 where
  pub keeps : Bool
  pub entries : Map nat_cmp D
  pub shows : Option (ℕ × D)

module _ {D : Type 0} where
  abbrev pub coded_known : Coded D → Coded (Known D)
  coded_known c =
      code_by (Bool × (Map nat_cmp D × Option (ℕ × D)))
      (coded× coded_bool (coded× (code coded_ℕ c) (coded_option (coded× coded_ℕ c))))
      (λ (v : Known D). (v.keeps, (v.entries, v.shows)))
      (λ p. record { keeps = p.0; entries = p.1.0; shows = p.1.1 })
      (λ _. refl)

  -- the keeper with these entries
  abbrev pub keeper : Map nat_cmp D → Known D
  keeper entries = record { keeps = true; entries = entries; shows = None }

  -- the keeper while it shows an entry itself: that of a returned pass, or of one about to be given out
  abbrev pub showing : Map nat_cmp D → ℕ × D → Known D
  showing entries entry = record { keeps = true; entries = entries; shows = Some entry }

  -- a pass that was taken back
  abbrev pub spent : Known D
  spent = record { keeps = false; entries = empty; shows = None }

  -- two seats made one, which shows the entry of the second
  abbrev pub joined : Known D → Known D → Known D
  joined v w = record v { shows = w.shows }

  -- the seat after it stopped showing its entry
  abbrev pub without_entry : Known D → Known D
  without_entry v = record v { shows = None }

  -- a pass with the entry that the seat shows
  abbrev pub only_entry : Known D → Known D
  only_entry v = record spent { shows = v.shows }
