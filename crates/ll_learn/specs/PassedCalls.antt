-- Under which layers a program does what it did. own
use Rattle.std.specs.Prelude.{◌≡◌, ◌≢◌, ◌↔◌, ◌<◌, ⊤, ℕ, ◌==◌, Bool, true, ◌&&◌, ◌||◌, List, [], ◌∷◌, ◌++◌, length}
use Rattle.std.specs.Prelude.{Option, Some, None, MatchOption, if◌then◌else◌}
use Rattle.ll_rights.specs.declared.limits.TheConstants.{DOMAIN_LAYERS}
use Rattle.ll_rights.specs.Map.{has}
use Rattle.ll_rights.specs.Right as right
use Rattle.ll_rules.specs.Layer.{Layer, grants_on}
use Rattle.ll_decide.specs.declared.denial.Denial.{Denial}
use Rattle.ll_decide.specs.Verdict.{all_denials}
use Rattle.ll_seq.specs.declared.reply.Entry.{Entry}
use Rattle.ll_seq.specs.declared.reply.Reply.TheVariants.{Denied}
use Rattle.ll_seq.specs.Asked.{grants}
use Rattle.ll_seq.specs.Call.{first_path}
use Rattle.ll_seq.specs.CallParts.{asked, moved}
use Rattle.ll_seq.specs.Effects.{with_client}
use Rattle.ll_seq.specs.History.{IsLegal, after}
use Rattle.ll_seq.specs.Passed.{before_policy}
use Rattle.ll_seq.specs.State.{State}
use Rattle.ll_seq.specs.Step.{client_of}
use Rattle.ll_seq.specs.Tree.{ancestors}
use Rattle.ll_why.specs.Opener.{is_spawned, opens}
use Rattle.ll_why.specs.Reasons.{kept_number}

-- the tree in which the client also has this layer, as its newest
abbrev pub under : State → ℕ → Layer → State
under s client layer =
    with_client s client (record (client_of s client) { domain = (client_of s client).domain ++ layer ∷ [] })

-- the entries are legal there too: each call of the history gets the same reply
abbrev pub Passes : State → ℕ → List Entry → Layer → Type 0
Passes s client es layer = IsLegal (under s client layer) es

-- ---- Stated for each call of the history

-- the clients that the layer is on: one, and those spawned by any of them
abbrev pub joins : (ℕ → Bool) → Entry → ℕ → Bool
joins is_on e client = is_on client || (is_on e.client && is_spawned client e.reply)

-- for each client and number, if known, the inodes of the path by which that descriptor was opened
abbrev pub Openings : Type 0
Openings = ℕ → ℕ → Option (List ℕ)

abbrev pub none_known : Openings
none_known client fd = None

-- with one more entry, in the state before it: a spawned client has what its parent has
abbrev pub opened_at : State → Openings → Entry → Openings
opened_at s known e client fd =
    if opens client fd e then Some (ancestors s (first_path e.call))
    else known (if is_spawned client e.reply then e.client else client) fd

-- In the state before it, the layer alone denies no right that the call needs. What ftruncate needs was needed at the
-- opening of its descriptor
abbrev pub Allows : Layer → State → Openings → Entry → Type 0
Allows layer s known e =
    MatchOption (kept_number e.call)
    (all_denials (grants s) (layer ∷ []) (asked s e.call) (moved s e.call) ≡ [])
    (λ fd. MatchOption (known e.client fd) ⊤ (λ inodes. grants_on layer inodes right.truncate ≡ true))

-- the layer allows each call of the clients that it is on, unless something before policy refuses the call
abbrev pub AllowsAll : Layer → State → (ℕ → Bool) → Openings → List Entry → Type 0
AllowsAll layer s is_on known [] = ⊤
AllowsAll layer s is_on known (e ∷ es) =
    (is_on e.client ≡ true → before_policy s (client_of s e.client) e.call ≡ [] → Allows layer s known e)
    × AllowsAll layer (after s e) (joins is_on e) (opened_at s known e) es

abbrev pub is_client : ℕ → ℕ → Bool
is_client client other = client == other

-- for a client's calls after a cut, and those of the clients spawned since
abbrev pub AllowsRun : State → ℕ → List Entry → Layer → Type 0
AllowsRun s client es layer = AllowsAll layer s (is_client client) none_known es

-- ---- When a layer can be learned from them

-- no call of the clients that the layer is on is denied, and after each there is room for one more layer
abbrev pub IsOpen : State → (ℕ → Bool) → List Entry → Type 0
IsOpen s is_on [] = ⊤
IsOpen s is_on (e ∷ es) =
    (is_on e.client ≡ true → ((denial : Denial) → e.reply ≢ Denied denial)
    × (length (client_of (after s e) e.client).domain < DOMAIN_LAYERS))
    × IsOpen (after s e) (joins is_on e) es

-- the part of a history after a cut, and the client that a layer is learned for
pub record IsLearnable (s : State) (client : ℕ) (es : List Entry) : Type 0 where
  pub there : has s.clients client ≡ true
  pub room : length (client_of s client).domain < DOMAIN_LAYERS
  pub legal : IsLegal s es
  pub stays : IsOpen s (is_client client) es

-- both conditions are equivalent
abbrev pub SameReplies : Type 0
SameReplies = (s : State) (client : ℕ) (es : List Entry) → IsLearnable s client es → (layer : Layer) →
    AllowsRun s client es layer ↔ Passes s client es layer
