-- Acts of a session one after the other, and what they come to at the end.
use Rattle.std.specs.Prelude.{◌≡◌, ℕ, List, [], refl}
use Rattle.ll_seq.specs.declared.reply.Entry.{Entry}
use Rattle.ll_seq.specs.declared.rules.Rules.{Rules}
use Rattle.ll_session.specs.Between.{IsSettled, Leads, between}
use Rattle.ll_client.specs.Closed.{IsClosed}
use Rattle.ll_client.specs.Entries.{Knows}
use Rattle.ll_session.specs.PartySession.{Session}
use Rattle.ll_session.proofs.Edges.{nobody_yet}
use Rattle.ll_session.proofs.Growths.{stays_so, then_grows}

-- nothing was done
pub nothing_leads : (rules : Rules) (room limit : ℕ) (ks : List Knows) → Leads rules room limit ks ks (λ s t. t ≡ s)
nothing_leads rules room limit ks = (stays_so ks, λ history end c g s. (s, refl))

pub then_leads : (rules : Rules) (room limit : ℕ) (is js ks : List Knows) (First Second : Session → Session → Type 0)
    → Leads rules room limit is js First → Leads rules room limit js ks Second
    → Leads rules room limit is ks (λ s u. (t : Session) × First s t × Second t u)
then_leads rules room limit is js ks First Second one two = (
  then_grows is js ks one.0 two.0,
  λ history end c g s.
      let first = one.1 history end c (then_grows js ks end two.0 g) s in
      let second = two.1 history end c g first.0 in
      (second.0, (between rules room limit history js, first.1, second.1)),
)

-- what follows where both points are settled
pub so_leads : (rules : Rules) (room limit : ℕ) (ks ks' : List Knows) (First Second : Session → Session → Type 0)
    → Leads rules room limit ks ks' First
    → ((history : List Entry) (end : List Knows) → IsClosed rules room limit history end
    → IsSettled rules room history ks → IsSettled rules room history ks'
    → First (between rules room limit history ks) (between rules room limit history ks')
    → Second (between rules room limit history ks) (between rules room limit history ks'))
    → Leads rules room limit ks ks' Second
so_leads rules room limit ks ks' First Second one so = (
  one.0,
  λ history end c g s. let h = one.1 history end c g s in (h.0, so history end c s h.0 h.1),
)

-- what a session that began without clients has come to when its tree is closed
pub at_closing : (rules : Rules) (room limit : ℕ) (history : List Entry) (end : List Knows)
    (Holds : Session → Session → Type 0) → IsClosed rules room limit history end
    → Leads rules room limit [] end Holds → IsSettled rules room history end
    × Holds (between rules room limit history []) (between rules room limit history end)
at_closing rules room limit history end Holds c one =
    one.1 history end c (stays_so end) (nobody_yet rules room history)
