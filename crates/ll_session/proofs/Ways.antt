-- How clients come on, and what that comes to when their tree is closed.
use Rattle.std.specs.Prelude.{◌≡◌, ℕ, ◌+◌, ◌<◌, List, [], length, Some, slice_get, refl}
use Rattle.std.proofs.Common.{sym, ap, subst, ◌∙◌, arith}
use Rattle.ll_seq.specs.declared.call.Call.{Call}
use Rattle.ll_seq.specs.declared.reply.Entry.{Entry}
use Rattle.ll_seq.specs.declared.reply.Reply.{Reply}
use Rattle.ll_seq.specs.declared.rules.Rules.{Rules}
use Rattle.ll_client.specs.Closed.{IsClosed, numbers_of}
use Rattle.ll_client.specs.Entries.{Knows}
use Rattle.ll_session.specs.Between.{IsSettled, Leads, between}
use Rattle.ll_session.specs.PartySession.{Session, Called}
use Rattle.ll_session.proofs.Edges.{points}
use Rattle.ll_session.proofs.Growths.{stays_so}
use Rattle.ll_session.proofs.ActChains.{at_closing, so_leads, then_leads}
use Rattle.ll_session.specs.declared.setup.Setup.{Setup}
use Rattle.ll_session.specs.FirstClients.{fresh}
use Rattle.ll_session.specs.Progress.{Closes}
use Rattle.ll_session.proofs.SessionPlaces.{at}

-- who came after so many others has the next number
pub number_at : (rules : Rules) (room : ℕ) (history : List Entry) (ks : List Knows) (before client : ℕ)
    → IsSettled rules room history ks → before < length ks → slice_get (numbers_of ks) before ≡ Some client
    → client ≡ before + 1
number_at rules room history ks before client s less is =
    let told : Some (1 + before) ≡ Some client =
    sym (ap (λ ns. slice_get ns before) s.numbers ∙ at 1 (length ks) before less) ∙ is in
    let same : 1 + before ≡ client = cc told in
    omega (arith, same)

pub by_number : (rules : Rules) (room limit : ℕ) (ks ks' : List Knows) (before : ℕ) (call : Call) (reply : Reply)
    → before < length ks
    → Leads rules room limit ks ks'
    (λ s t. (client : ℕ) × (slice_get s.clients before ≡ Some client) × Called s client call reply t)
    → Leads rules room limit ks ks' (λ s t. Called s (before + 1) call reply t)
by_number rules room limit ks ks' before call reply less leads = so_leads rules room limit ks ks'
    (λ s t. (client : ℕ) × (slice_get s.clients before ≡ Some client) × Called s client call reply t)
    (λ s t. Called s (before + 1) call reply t) leads
    (λ history end c s t h.
    subst (λ n. Called (between rules room limit history ks) n call reply (between rules room limit history ks'))
    (number_at rules room history ks before h.0 s less h.1) h.2)

-- ---- at the end

-- what holds of the session that is opened, and from that to the end, whose entries are all
abbrev pub AtEnd : (First : Session → Type 0) (Second : Session → Session → Type 0) → List Entry → Type 0
AtEnd First Second entries = (mid last : Session) × First mid × Second mid last × (last.entries ≡ entries)

begins_fresh : (setup : Setup) (rules : Rules) (limit : ℕ) (history : List Entry) → rules ≡ setup.rules
    → limit ≡ setup.history → between rules setup.nodes limit history [] ≡ fresh setup
begins_fresh setup rules limit history same most =
    ap (λ (r : Rules). between r setup.nodes limit history []) same
    ∙ ap (λ n. between setup.rules setup.nodes n history []) most

pub at_end : (setup : Setup) (rules : Rules) (limit : ℕ) (ks : List Knows) (entries : List Entry)
    (First : Session → Type 0) (Second : Session → Session → Type 0) → rules ≡ setup.rules → limit ≡ setup.history
    → Leads rules setup.nodes limit [] ks (λ s t. s ≡ fresh setup → First t)
    → Closes rules setup.nodes limit ks entries Second → AtEnd First Second entries
at_end setup rules limit ks entries First Second same most opens closes =
    let end = closes.0 in
    let h = at_closing rules setup.nodes limit entries end
    (λ s u. (t : Session) × (s ≡ fresh setup → First t) × Second t u) closes.1
    (then_leads rules setup.nodes limit [] ks end (λ s t. s ≡ fresh setup → First t) Second opens closes.2) in (
      h.1.0,
      between rules setup.nodes limit entries end,
      h.1.1 (begins_fresh setup rules limit entries same most),
      h.1.2,
      (points rules setup.nodes limit entries end closes.1).2 h.0,
    )

pub at_last : (setup : Setup) (rules : Rules) (limit : ℕ) (none ks : List Knows) (entries : List Entry)
    (First : Session → Type 0) (Second : Session → Session → Type 0) → rules ≡ setup.rules → limit ≡ setup.history
    → none ≡ [] → Leads rules setup.nodes limit none ks (λ s t. s ≡ fresh setup → First t)
    → Closes rules setup.nodes limit ks entries Second → AtEnd First Second entries
at_last setup rules limit none ks entries First Second same most nobody opens =
    at_end setup rules limit ks entries First Second same most
    (subst (λ (is : List Knows). Leads rules setup.nodes limit is ks (λ s t. s ≡ fresh setup → First t)) nobody opens)

-- the tree is closed at once
pub closes_here : (rules : Rules) (room limit : ℕ) (ks : List Knows) (entries : List Entry)
    → IsClosed rules room limit entries ks → Closes rules room limit ks entries (λ s t. t ≡ s)
closes_here rules room limit ks entries c = (ks, c, (stays_so ks, λ history end c g s. (s, refl)))
