-- What the entries of the table mean, and what contracts see of a slot and of a client. own
use Rattle.std.specs.Prelude.{◌≡◌, ℕ, ◌+◌, ◌*◌, ◌<◌, ◌≤◌, ◌==◌, true, List, [], ◌∷◌, length, Option, Some, None}
use Rattle.std.specs.Prelude.{option_map, take, ◌++◌, if◌then◌else◌, refl}
use Rattle.std.specs.List.{AllByRecursion}
use Rattle.std.specs.Ordering.{nat_cmp}
use Rattle.std.specs.Coded.{Coded, code_by, coded×, coded_list, coded_option, coded_ℕ}
use Rattle.ll_rights.specs.declared.limits.TheConstants.{TREE_CLIENTS, TREE_NODES}
use Rattle.ll_rights.specs.Map.{Map, get, has, len}
use Rattle.ll_seq.specs.declared.call.Call.{Call}
use Rattle.ll_seq.specs.declared.rules.Rules.{Rules}
use Rattle.ll_seq.specs.contracts.call.Call as call
use Rattle.ll_seq.specs.declared.reply.Entry.{Entry}
use Rattle.ll_seq.specs.declared.reply.Reply.{Reply}
use Rattle.ll_seq.specs.History.{state_after}
use Rattle.ll_seq.specs.Memory.{MayStarve}
use Rattle.ll_seq.specs.State.{start}
use Rattle.ll_node.specs.declared.held.Held.{Held}
use Rattle.ll_node.specs.contracts.held.Held as held
use Rattle.ll_laws.specs.Walk.{Walk}
use Rattle.ll_laws.specs.World.{World, shown}
use Rattle.ll_laws.specs.Sound.{IsSound}
use Rattle.ll_journal.specs.Book.{Book, slot_of}
use Rattle.ll_client.specs.declared.account.Account.{Account}
use Rattle.ll_client.specs.declared.account.Account.TheVariants.{Slot, Client, Wants}
use Rattle.ll_client.specs.declared.account.Numbered.{Numbered}
use Rattle.ll_client.specs.declared.account.Starved.{Starved}
use Rattle.ll_client.specs.contracts.account.Numbered as numbered_type
use Rattle.ll_client.specs.contracts.account.Starved as starved_type

abbrev pub numbered : ℕ → Call → Reply → Numbered
numbered number call reply = record { number = number; call = call; reply = reply }

-- the client's entries, with their numbers, after this many others
abbrev pub part_from : ℕ → ℕ → List Entry → List Numbered
part_from before client [] = []
part_from before client (e ∷ es) =
    let others = part_from (before + 1) client es in
    if e.client == client then numbered (before + 1) e.call e.reply ∷ others else others

-- a client's part of the history
abbrev pub part_of : World → ℕ → List Numbered
part_of w client = part_from 0 client w.history

-- the call of its walk under way
abbrev pub doing_of : World → ℕ → Option Call
doing_of w client = option_map (λ (walk : Walk). walk.call) (get w.walks client)

abbrev pub starved_at : ℕ → Call → Starved
starved_at at call = record { at = at; call = call }

-- Memory ran out for this call of the client, when the history had this many entries. There was room for one more, and
-- the call may find no memory
abbrev pub IsStarved : Rules → (room limit : ℕ) → List Entry → ℕ → Starved → Type 0
IsStarved rules room limit history client x =
    let s = state_after (start rules room) (take x.at history) in
    (x.at ≤ length history) × (x.at < limit) × MayStarve s client x.call

abbrev pub AreStarved : World → ℕ → List Starved → Type 0
AreStarved w client starved = AllByRecursion (IsStarved w.rules w.room w.limit w.history client) starved

-- after each prefix of the history, its clients have numbers from 1 to their count
abbrev pub AreInOrder : Rules → ℕ → List Entry → Type 0
AreInOrder rules room history =
    (early late : List Entry) → history ≡ early ++ late → (c : ℕ)
    → has (state_after (start rules room) early).clients c ≡ true
    → (1 ≤ c) × (c ≤ len (state_after (start rules room) early).clients)

-- ---- What contracts see

-- a slot: its number, and what it holds
pub record Kept : Type 0 where
  pub number : ℕ
  pub held : Held

-- A client. number: its number. part: its part of the history. starved: the calls for which memory ran out, in their
-- order. seen: the number of the last entry that it knows of. doing: the call of its walk under way
pub record Knows : Type 0 where
  pub number : ℕ
  pub part : List Numbered
  pub starved : List Starved
  pub seen : ℕ
  pub doing : Option Call

abbrev pub knows : ℕ → List Numbered → List Starved → ℕ → Option Call → Knows
knows number part starved seen doing =
    record { number = number; part = part; starved = starved; seen = seen; doing = doing }

abbrev pub coded_kept : Coded Kept
coded_kept =
    code_by (ℕ × Held) (coded× coded_ℕ (held.the_row).coded) (λ k. (k.number, k.held))
    (λ p. record { number = p.0; held = p.1 }) (λ _. refl)

abbrev pub coded_knows : Coded Knows
coded_knows =
    code_by (ℕ × (List Numbered × (List Starved × (ℕ × Option Call))))
    (coded× coded_ℕ (coded× (coded_list (numbered_type.the_row).coded)
    (coded× (coded_list (starved_type.the_row).coded) (coded× coded_ℕ (coded_option (call.the_row).coded)))))
    (λ k. (k.number, (k.part, (k.starved, (k.seen, k.doing)))))
    (λ p. record { number = p.0; part = p.1.0; starved = p.1.1.0; seen = p.1.1.1.0; doing = p.1.1.1.1 }) (λ _. refl)

-- ---- Entries: the numbers 0, 3, 6 and so on are those of slots; 1, 4, 7 those of clients' accounts; 2, 5, 8 those of
-- clients' calls for which memory ran out

abbrev pub slot_entry : ℕ → Held → ℕ × Account
slot_entry k held = (3 * k, Slot held)

abbrev pub client_entry : ℕ → List Numbered → ℕ → Option Call → ℕ × Account
client_entry c part seen doing = (3 * c + 1, Client part seen doing)

abbrev pub wants_entry : ℕ → List Starved → ℕ × Account
wants_entry c starved = (3 * c + 2, Wants starved)

-- what a client's two passes show
abbrev pub part_in : Option (ℕ × Account) → List Numbered
part_in None = []
part_in (Some entry) = elim entry.1 [ Slot held ↦ [] | Client part seen doing ↦ part | Wants starved ↦ [] ]

abbrev pub doing_in : Option (ℕ × Account) → Option Call
doing_in None = None
doing_in (Some entry) = elim entry.1 [ Slot held ↦ None | Client part seen doing ↦ doing | Wants starved ↦ None ]

abbrev pub starved_in : Option (ℕ × Account) → List Starved
starved_in None = []
starved_in (Some entry) = elim entry.1 [ Slot held ↦ [] | Client part seen doing ↦ [] | Wants starved ↦ starved ]

-- The value under the number is one of three. The account of its slot; or of its client, which knows of no entry that
-- doesn't exist; or its client's calls for which memory ran out
abbrev pub IsAccount : Book → ℕ → Account → Type 0
IsAccount b key (Slot held) = (k : ℕ) × (key ≡ 3 * k) × (k < length b.inodes) × (held ≡ slot_of b k)
IsAccount b key (Client part seen doing) =
    (c : ℕ) × (key ≡ 3 * c + 1) × (has (shown b.world).clients c ≡ true) × (c ≤ TREE_CLIENTS)
    × (part ≡ part_of b.world c) × (seen ≤ length b.world.history) × (doing ≡ doing_of b.world c)
IsAccount b key (Wants starved) =
    (c : ℕ) × (key ≡ 3 * c + 2) × (has (shown b.world).clients c ≡ true) × (c ≤ TREE_CLIENTS)
    × AreStarved b.world c starved

abbrev pub AreAccounts : Book → Map nat_cmp Account → Type 0
AreAccounts b entries = (key : ℕ) (x : Account) → get entries key ≡ Some x → IsAccount b key x

-- What is behind the journal's lock: the accounts given out are the journal's, and steps lead to its world
pub record IsDesk (slots limit : ℕ) (rules : Rules) (b : Book) (entries : Map nat_cmp Account) : Type 0 where
  pub accounts : AreAccounts b entries
  pub sound : IsSound b.world
  pub numbered : AreInOrder b.world.rules b.world.room b.world.history
  pub within : length b.world.history ≤ b.world.limit
  pub limit_is : b.world.limit ≡ limit
  pub rules_are : b.world.rules ≡ rules
  pub room_is : b.world.room + TREE_CLIENTS ≡ slots
  pub slots_are : length b.inodes ≡ slots
  pub few : length b.inodes ≤ TREE_NODES + TREE_CLIENTS
