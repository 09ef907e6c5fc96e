-- What a saved history teaches. own
use Rattle.std.specs.Prelude.{◌≡◌, ◌<◌, ◌≤◌, ◌+◌, ◌-◌, ◌^◌, min, ℕ, List, [], ◌∷◌, Option, Some, None, codes, decimal}
use Rattle.std.specs.Prelude.{filter, length, map, option_map, slice_get, string_bytes, unwrap_or}
use Rattle.std.specs.List.{concat}
use Rattle.std.specs.Option.{option_map_or}
use Rattle.ll_rights.specs.declared.limits.TheConstants.{RULESET_INODES}
use Rattle.ll_rights.specs.Access.{known_set}
use Rattle.ll_seq.specs.declared.reply.Entry.{Entry}
use Rattle.ll_seq.specs.History.{is_connect, state_after}
use Rattle.ll_wire.specs.Entries.{version_rules}
use Rattle.ll_wire.specs.Grammar.{call_tokens, line_of}
use Rattle.ll_wire.specs.Pieces.{pieces}
use Rattle.ll_wire.specs.declared.header.Header.{Header}
use Rattle.ll_audit.specs.Saved.{IsFirstBad, Tell, opened}
use Rattle.ll_learn.specs.declared.fault.Unlearned.{Unlearned}
use Rattle.ll_learn.specs.declared.fault.Unlearned.TheVariants as fault
use Rattle.ll_learn.specs.declared.learned.Aim.{Aim}
use Rattle.ll_learn.specs.declared.needs.Origin.{Origin}
use Rattle.ll_learn.specs.declared.profile.LearnedProfile.{LearnedProfile}
use Rattle.ll_learn.specs.declared.saved_lesson.Learned.{Learned}
use Rattle.ll_learn.specs.declared.saved_lesson.Learned.TheVariants as learned
use Rattle.ll_learn.specs.declared.saved_lesson.SavedLesson.{SavedLesson}
use Rattle.ll_learn.specs.Enforcement.{IsEnforced}
use Rattle.ll_learn.specs.Learned.{IsCut, IsLearned, IsUnlearned}
use Rattle.ll_learn.specs.Profile.{profile_text}

-- ---- What is to be learned

-- the clients that connect, in order
abbrev pub connected : List Entry → List ℕ
connected es = map (λ e. e.client) (filter (λ e. is_connect e.call) es)

-- The second of them, as the first creates a policy's nodes. Without a second, the first; without any, client 1
abbrev pub client_among : List ℕ → ℕ
client_among [] = 1
client_among (first ∷ []) = first
client_among (first ∷ second ∷ others) = second

-- for the given client, or that one: all rights of the history's level, except those that are withheld
pub record IsAim (lesson : SavedLesson) (h : Header) (es : List Entry) (aim : Aim) : Type 0 where
  pub client : aim.client ≡ unwrap_or lesson.client (client_among (connected es))
  pub handled : aim.handled.0 ≡ known_set (version_rules h.version).abi
  pub never : aim.never ≡ lesson.never
  pub beneath : aim.beneath.now ≡ lesson.beneath.now

-- this is the history with the text, and what is to be learned from it
pub record Teaches (lesson : SavedLesson) (text : List ℕ) (h : Header) (es : List Entry) (aim : Aim) : Type 0 where
  pub tells : Tell (pieces text) h es
  pub aimed : IsAim lesson h es aim

-- ---- What is learned

-- the number of an entry after this many others. (No list in memory is long enough to exceed the limit)
abbrev pub number_behind : ℕ → ℕ → ℕ
number_behind cut entry = min (cut + entry) (2 ^ 64 - 1)

-- the line on an entry of a history after the cut: its number in the whole history, and its call
abbrev pub entry_note : ℕ → List Entry → Origin → List ℕ
entry_note cut es origin =
    let number = number_behind cut origin.entry in
    option_map_or
    (λ (e : Entry). concat (codes "entry " ∷ decimal number ∷ codes ": " ∷ line_of (call_tokens e.call) ∷ []))
    (slice_get es (number - 1)) (codes "\n")

-- the profile that is learned after the cut is reported, if it doesn't have too many rules
abbrev pub IsTold : SavedLesson → List Entry → ℕ → LearnedProfile → Learned → Type 0
IsTold lesson es cut profile (learned.Profile text) =
    (length profile.rules.items ≤ lesson.most)
    × (string_bytes text ≡ profile_text (entry_note cut es) lesson.name.now profile)
IsTold lesson es cut profile (learned.BadLine line) = ⊥
IsTold lesson es cut profile (learned.Nothing fault) = ⊥
IsTold lesson es cut profile (learned.Many rules) =
    (rules ≡ length profile.rules.items) × (lesson.most < rules)

-- The text is of a profile that is learned from the history with this text. After the client's connect a tree accepts
-- the profile's calls
pub record IsProfileText (lesson : SavedLesson) (text written : List ℕ) : Type 0 where
  pub header : Header
  pub entries : List Entry
  pub aim : Aim
  pub cut : ℕ
  pub profile : LearnedProfile
  pub teaches : Teaches lesson text header entries aim
  pub is_cut : IsCut entries aim.client cut
  pub learned : IsLearned (opened header) (entries ∷ []) aim profile
  pub few : length profile.rules.items ≤ lesson.most
  pub enforced : lesson.most ≤ RULESET_INODES
      → IsEnforced (state_after (opened header) learned.early) aim.client profile
  pub is : written ≡ profile_text (entry_note cut entries) lesson.name.now profile

-- nothing is learned from it, for this reason
abbrev pub TeachesNothing : SavedLesson → List ℕ → Unlearned → Type 0
TeachesNothing lesson text fault =
    (h : Header) × (es : List Entry) × (aim : Aim) × Teaches lesson text h es aim
    × IsUnlearned (opened h) (es ∷ []) aim fault

-- the profile that is learned from it has this many rules, which is too many
abbrev pub TeachesMuch : SavedLesson → List ℕ → ℕ → Type 0
TeachesMuch lesson text rules =
    (h : Header) × (es : List Entry) × (aim : Aim) × (profile : LearnedProfile) × Teaches lesson text h es aim
    × IsLearned (opened h) (es ∷ []) aim profile × (rules ≡ length profile.rules.items) × (lesson.most < rules)

abbrev pub IsLearnedBy : SavedLesson → List ℕ → Learned → Type 0
IsLearnedBy lesson text (learned.Profile written) = IsProfileText lesson text (string_bytes written)
IsLearnedBy lesson text (learned.BadLine line) = IsFirstBad (pieces text) line
IsLearnedBy lesson text (learned.Nothing fault) = TeachesNothing lesson text fault
IsLearnedBy lesson text (learned.Many rules) = TeachesMuch lesson text rules

-- ---- Why nothing is learned, in words

-- the number of the entry at fault
abbrev pub entry_in : Unlearned → Option ℕ
entry_in (fault.NoClient history) = None
entry_in (fault.Unlike history) = None
entry_in (fault.Illegal at) = Some at.entry
entry_in (fault.Denied at) = Some at.entry
entry_in (fault.Full at) = Some at.entry
entry_in (fault.Unmet at) = Some at.entry
entry_in (fault.NoNode index) = None
entry_in fault.NoMemory = None

-- the number of its line, behind the header
abbrev pub line_in : Unlearned → Option ℕ
line_in fault = option_map (λ entry. number_behind entry 1) (entry_in fault)

abbrev pub words_on : Unlearned → List ℕ
words_on (fault.NoClient history) = codes "no such client connects"
words_on (fault.Unlike history) = codes "it begins in another way"
words_on (fault.Illegal at) = codes "the entry isn't legal"
words_on (fault.Denied at) = codes "the call is denied already"
words_on (fault.Full at) = codes "behind it the client has no room for a layer"
words_on (fault.Unmet at) = codes "no layer that may be learned lets the call pass"
words_on (fault.NoNode index) = codes "a path leads to no node"
words_on fault.NoMemory = codes "no memory"

-- the entry's number, if there is one, and the words
abbrev pub reason : Unlearned → List ℕ
reason fault =
    option_map_or (λ entry. concat (codes "entry " ∷ decimal entry ∷ codes ": " ∷ words_on fault ∷ [])) (entry_in fault)
    (words_on fault)

-- the line on a path of the words that leads to no node
abbrev pub stray_line : List ℕ → List ℕ
stray_line path = concat (codes "--beneath " ∷ path ∷ codes ": no such node\n" ∷ [])
