-- Codes with which a client with its walk, and the journal's book, can be a model's value.
use Rattle.std.specs.Prelude.{◌≡◌, ℕ, Bool, List, [], ◌∷◌, Option, refl}
use Rattle.std.specs.Ordering.{nat_cmp}
use Rattle.std.specs.Coded.{Coded, code_by, coded×, coded_list, coded_option, coded_bool, coded_ℕ}
use Rattle.ll_rights.specs.MapCodes.{code}
use Rattle.ll_rights.specs.Map.{Map}
use Rattle.ll_path.specs.Path.{Path}
use Rattle.ll_seq.specs.declared.call.Call.{Call}
use Rattle.ll_seq.specs.contracts.call.Call as call
use Rattle.ll_seq.specs.declared.client.ClientRecord.{ClientRecord}
use Rattle.ll_seq.specs.contracts.client.ClientRecord as client
use Rattle.ll_seq.specs.declared.reply.Entry.{Entry}
use Rattle.ll_seq.specs.contracts.reply.Entry as entry
use Rattle.ll_seq.specs.declared.rules.Rules.{Rules}
use Rattle.ll_seq.specs.StateCodes.{coded_rules}
use Rattle.ll_laws.specs.Walk.{Leg, Mask, Position, Above, Down, Split, Walk, legs}
use Rattle.ll_laws.specs.World.{World}
use Rattle.ll_journal.specs.Book.{Seat, Book}

abbrev pub coded_path : Coded Path
coded_path = coded_list (coded_list coded_ℕ)

abbrev pub coded_leg : Coded Leg
coded_leg =
    code_by (Path × (Path × (List ℕ × (ℕ × List Mask))))
    (coded× coded_path (coded× coded_path (coded× (coded_list coded_ℕ)
    (coded× coded_ℕ (coded_list (coded_list coded_ℕ))))))
    (λ l. (l.walked, (l.ahead, (l.chain, (l.here, l.masks)))))
    (λ p. record { walked = p.0; ahead = p.1.0; chain = p.1.1.0; here = p.1.1.1.0; masks = p.1.1.1.1 }) (λ _. refl)

-- the position with these legs
abbrev pub position_of : List Leg → Position
position_of [] = Above
position_of (trunk ∷ []) = Down trunk
position_of (trunk ∷ old ∷ []) = Above
position_of (trunk ∷ old ∷ new ∷ more) = Split trunk old new

abbrev pub same_position : (at : Position) → position_of (legs at) ≡ at
same_position Above = refl
same_position (Down trunk) = refl
same_position (Split trunk old new) = refl

abbrev pub coded_position : Coded Position
coded_position = code_by (List Leg) (coded_list coded_leg) legs position_of same_position

abbrev pub coded_walk : Coded Walk
coded_walk =
    code_by (Call × (ℕ × (Bool × Position)))
    (coded× (call.the_row).coded (coded× coded_ℕ (coded× coded_bool coded_position)))
    (λ w. (w.call, (w.starts, (w.stale, w.at))))
    (λ p. record { call = p.0; starts = p.1.0; stale = p.1.1.0; at = p.1.1.1 }) (λ _. refl)

abbrev pub coded_seat : Coded Seat
coded_seat =
    code_by (ClientRecord × (ℕ × Option Walk))
    (coded× (client.the_row).coded (coded× coded_ℕ (coded_option coded_walk)))
    (λ s. (s.client, (s.spare, s.walk)))
    (λ p. record { client = p.0; spare = p.1.0; walk = p.1.1 }) (λ _. refl)

abbrev pub coded_world : Coded World
coded_world =
    code_by (Rules × (ℕ × (ℕ × (List Entry × (Map nat_cmp Walk × Option ℕ)))))
    (coded× coded_rules (coded× coded_ℕ (coded× coded_ℕ (coded× (coded_list (entry.the_row).coded)
    (coded× (code coded_ℕ coded_walk) (coded_option coded_ℕ))))))
    (λ w. (w.rules, (w.room, (w.limit, (w.history, (w.walks, w.gate))))))
    (λ p. record {
      rules = p.0;
      room = p.1.0;
      limit = p.1.1.0;
      history = p.1.1.1.0;
      walks = p.1.1.1.1.0;
      gate = p.1.1.1.1.1;
    }) (λ _. refl)

abbrev pub coded_book : Coded Book
coded_book =
    code_by (World × (List ℕ × (List ℕ × List ℕ)))
    (coded× coded_world (coded× (coded_list coded_ℕ) (coded× (coded_list coded_ℕ) (coded_list coded_ℕ))))
    (λ b. (b.world, (b.inodes, (b.free, b.spares))))
    (λ p. record { world = p.0; inodes = p.1.0; free = p.1.1.0; spares = p.1.1.1 }) (λ _. refl)
