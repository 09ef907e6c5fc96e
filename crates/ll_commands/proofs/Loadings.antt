-- What the loader's coming is, where it comes to a fresh tree.
use Rattle.std.specs.Prelude.{◌≡◌, ◌≤◌, ℕ, List, [], ◌∷◌, ◌++◌, Option, None, Some, drop, refl}
use Rattle.std.specs.declared.alloc.Global.{Global}
use Rattle.std.specs.declared.vec.Vec.{Vec}
use Rattle.std.proofs.Common.{◌∙◌, ap, arith, false, subst, sym}
use Rattle.std.proofs.lemmas.Bool.{ne_eqb}
use Rattle.std.proofs.lemmas.List.{take-append-drop}
use Rattle.ll_client.specs.Closed.{IsClosed}
use Rattle.ll_client.specs.Entries.{Knows}
use Rattle.ll_seq.specs.declared.call.Call.{Call}
use Rattle.ll_seq.specs.declared.reply.Entry.{Entry}
use Rattle.ll_seq.specs.declared.reply.Reply.TheVariants.{Done}
use Rattle.ll_seq.specs.declared.rules.Rules.{Rules}
use Rattle.ll_session.specs.FirstClients.{Loads, Makes, Opens, Refuses, Stops, coming_at, fresh, is_told, is_told_to}
use Rattle.ll_session.specs.FirstClients.{made, stopped}
use Rattle.ll_session.specs.declared.refusal.Opener.{Opener}
use Rattle.ll_session.specs.declared.refusal.Opener.TheVariants.{Loader}
use Rattle.ll_session.specs.declared.refusal.Refusal.{Refusal}
use Rattle.ll_session.specs.declared.setup.Setup.{Setup}
use Rattle.ll_session.proofs.FirstComers.{comes_then, comes_unmade, loads_none, makes_so, no_loader, stops_so}
use Rattle.ll_session.proofs.Ways.{at_end, closes_here}
use Rattle.ll_session.specs.Between.{Leads, between}
use Rattle.ll_session.specs.PartySession.{Connects, Session, following, joined}
use Rattle.ll_session.specs.Talk.{seen_by}
use Rattle.ll_session.proofs.Edges.{nobody_yet}
use Rattle.ll_session.proofs.ActChains.{so_leads}
use Rattle.ll_session.proofs.Turns.{joins}
use Rattle.ll_commands.specs.Loader.{HasBegun, HasLoaded, WasStopped, entry_count}
use Rattle.ll_commands.specs.Service.{BeginsLoaded, IsServed, MayLoad}
use Rattle.ll_commands.proofs.First.{come_first, loaded_all}

module _ (rules : Rules) (room limit : ℕ) where
  begins : (me : Knows) → HasBegun me → Leads rules room limit [] (me ∷ [])
      (λ s t. (mid : Session) × Connects s Done mid × (joined s mid ≡ t))
  begins me come = so_leads rules room limit [] (me ∷ [])
      (λ s t. (mid : Session) × Connects s Done mid × (joined s mid ≡ t) × (me.number ≡ following s))
      (λ s t. (mid : Session) × Connects s Done mid × (joined s mid ≡ t))
      (joins rules room limit [] (me ∷ []) me.number
      (record { seen = me.seen; later = come.1; after = ap (λ (k : Knows). k ∷ []) come.0 }))
      (λ history end c s t h. (h.0, h.1, h.2))

  loads : (loader : Option (Vec Call Global)) (ks : List Knows) → HasLoaded limit loader ks
      → Leads rules room limit [] ks (λ s t. Loads s loader (made t))
  loads None ks none =
      subst (λ (l : List Knows). Leads rules room limit [] l (λ s t. Loads s None (made t))) (sym none)
      (loads_none rules room limit [] None refl)
  loads (Some calls) ks h =
      comes_then rules room limit [] (h.0 ∷ []) ks 0 (λ n s t. Makes n s calls.items t) refl (begins h.0 h.1)
      (makes_so rules room limit 0 (h.0 ∷ []) ks calls.items (omega arith) h.2)

  stops : (loader : Option (Vec Call Global)) (refusal : Refusal) (ks : List Knows)
      → WasStopped limit loader refusal ks
      → Leads rules room limit [] ks (λ s t. Loads s loader (coming_at refusal t))
  stops None refusal ks h = absurd h
  stops (Some calls) refusal ks h =
      comes_unmade rules room limit [] ks calls.items refusal h.1
      (comes_then rules room limit [] (h.2 ∷ []) ks 0 (λ n s t. Stops n s calls.items refusal.calls refusal.reply t)
      refl (begins h.2 h.3)
      (stops_so rules room limit 0 (h.2 ∷ []) ks calls.items refusal.calls refusal.reply (omega arith) h.4))

-- it is the loader that is refused, and nothing is written
by_loader : (loader : Option (Vec Call Global)) (limit : ℕ) (refusal : Refusal) (ks : List Knows)
    → WasStopped limit loader refusal ks → (refusal.opener ≡ Loader) × (is_told refusal ≡ false)
by_loader None limit refusal ks h = absurd h
by_loader (Some calls) limit refusal ks h =
    let some = h.1 in (
      h.0,
      ap (λ (o : Opener). is_told_to o refusal.calls) h.0
          ∙ ne_eqb refusal.calls 0 (λ e. omega (arith, e, some)),
    )

module _ (setup : Setup) (rules : Rules) (limit : ℕ) (ks : List Knows) (entries : List Entry)
    (same : rules ≡ setup.rules) (most : limit ≡ setup.history) (c : IsClosed rules setup.nodes limit entries ks)
  where
    pub may_load : HasLoaded limit setup.loader ks → MayLoad setup
    may_load h =
        let e = at_end setup rules limit ks entries (λ t. Loads (fresh setup) setup.loader (made t)) (λ s t. t ≡ s) same
        most (so_leads rules setup.nodes limit [] ks (λ s t. Loads s setup.loader (made t))
        (λ s t. s ≡ fresh setup → Loads (fresh setup) setup.loader (made t))
        (loads rules setup.nodes limit setup.loader ks h)
        (λ history end k s t it is. subst (λ (z : Session). Loads z setup.loader (made (between rules setup.nodes limit
        history ks))) is it)) (closes_here rules setup.nodes limit ks entries c) in
        (e.0, e.2)

    pub was_stopped : (refusal : Refusal) → WasStopped limit setup.loader refusal ks → Opens setup (stopped refusal)
    was_stopped refusal h =
        let by = by_loader setup.loader limit refusal ks h in
        let e = at_end setup rules limit ks entries (Refuses setup refusal) (λ s t. t ≡ s) same most
        (no_loader setup rules setup.nodes limit [] ks refusal by.0
        (stops rules setup.nodes limit setup.loader refusal ks h)) (closes_here rules setup.nodes limit ks entries c) in
        (by.1, e.0, e.2)

-- the history begins as the loader's calls do, where it knows of no other entries
pub begins_loaded : (setup : Setup) (ks others : List Knows) (entries : List Entry)
    → HasLoaded setup.history setup.loader ks → seen_by ks ≤ entry_count setup.loader
    → IsClosed setup.rules setup.nodes setup.history entries (ks ++ others) → BeginsLoaded setup entries
begins_loaded setup ks others entries h most c =
    let all = loaded_all setup.history setup.loader ks h most in
    let it = (loads setup.rules setup.nodes setup.history setup.loader ks h).1 entries (ks ++ others) c
    (come_first setup.rules setup.nodes setup.history entries ks others c all)
    (nobody_yet setup.rules setup.nodes entries) in (
      between setup.rules setup.nodes setup.history entries ks,
      drop (seen_by ks) entries,
      it.1,
      sym (take-append-drop (seen_by ks) entries),
    )

-- streams were served after the loader had come, if there is one
pub served : (setup : Setup) (rules : Rules) (limit : ℕ) (ks : List Knows) (entries : List Entry)
    → rules ≡ setup.rules → limit ≡ setup.history → HasLoaded limit setup.loader ks
    → seen_by ks ≤ entry_count setup.loader
    → (others : List Knows) × IsClosed rules setup.nodes limit entries (ks ++ others) → IsServed setup entries
served setup rules limit ks entries same most loaded first it =
    let others = it.0 in
    let h : HasLoaded setup.history setup.loader ks = subst (λ n. HasLoaded n setup.loader ks) most loaded in
    let c : IsClosed setup.rules setup.nodes setup.history entries (ks ++ others) =
    subst (λ r. IsClosed r setup.nodes setup.history entries (ks ++ others)) same
    (subst (λ n. IsClosed rules setup.nodes n entries (ks ++ others)) most it.1) in
    (begins_loaded setup ks others entries h first c, ks, others, h, c)
