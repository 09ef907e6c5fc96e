-- The clients that come before the first line, with their calls.
use Rattle.std.proofs.Common.{◌≡◌, ◌<◌, ◌≤◌, ◌+◌, ℕ, suc, Bool, List, [], ◌∷◌, ◌++◌, length, drop}
use Rattle.std.proofs.Common.{drop-cons}
use Rattle.std.proofs.Common.{Result, Ok, Err}
use Rattle.std.specs.Prelude.{IfErr, cond}
use Rattle.std.proofs.lemmas.Bool.{ne_eqb}
use Rattle.std.proofs.Common.{get_or, Option, None, Some, refl, sym, ap, subst, ◌∙◌, inl, inr, arith, true, false}
use Rattle.std.specs.declared.alloc.Global.{Global}
use Rattle.std.proofs.lemmas.List.{drop_all, length-append}
use Rattle.std.specs.declared.vec.Vec.{Vec}
use Rattle.ll_rights.specs.Map.{empty, checked, entries, get, insert}
use Rattle.ll_rights.specs.declared.errno.Errno.{Errno}
use Rattle.ll_rights.specs.declared.errno.Errno.TheVariants.{NoMemory}
use Rattle.ll_seq.specs.declared.call.Call.{Call}
use Rattle.ll_seq.specs.declared.reply.Reply.{Reply}
use Rattle.ll_seq.specs.declared.reply.Reply.TheVariants.{Done, Refused}
use Rattle.ll_seq.specs.declared.rules.Rules.{Rules}
use Rattle.ll_plain.specs.Refusal.{is_refusal}
use Rattle.ll_client.specs.Entries.{Knows}
use Rattle.ll_session.specs.Between.{Leads, between}
use Rattle.ll_session.specs.PartySession.{Session, Called, Connects, following, joined, starved}
use Rattle.ll_session.specs.Talk.{AsksFor}
use Rattle.ll_session.proofs.Growths.{then_grows}
use Rattle.ll_session.proofs.ActChains.{nothing_leads, so_leads, then_leads}
use Rattle.ll_session.proofs.Leadings.{ask_so}
use Rattle.ll_session.proofs.Lists.{asks_for_count}
use Rattle.ll_session.proofs.Seen.{count_numbers}
use Rattle.ll_session.specs.Beside.{MakesBeside, StopsBeside}
use Rattle.ll_session.specs.declared.refusal.Opener.{Opener}
use Rattle.ll_session.specs.declared.refusal.Opener.TheVariants.{Loader, Profile}
use Rattle.ll_session.specs.declared.refusal.Refusal.{Refusal}
use Rattle.ll_session.specs.declared.setup.Setup.{Setup}
use Rattle.ll_session.specs.FirstClients.{Coming, Comes, EndsOpening, Loads, Makes, Opens, Refuses, Stops, begun}
use Rattle.ll_session.specs.FirstClients.{coming_at, fresh, made, refused, unconnected, unconnected_by, unmade}
use Rattle.ll_session.specs.Progress.{without}
use Rattle.ll_session.proofs.Ways.{by_number}

-- memory may run out before anyone has connected
start_refused : (setup : Setup) → Connects (fresh setup) (Refused NoMemory) (fresh setup)
unfolding empty checked entries get insert
start_refused setup = (refl, starved setup.some_entries (record { takes = refl; passes = refl }))

by_loader : (setup : Setup) (loader : Option (Vec Call Global)) → setup.loader ≡ loader
    → (refusal : Refusal) × Opens setup (refused refusal (fresh setup))
by_loader setup (Some calls) is = (
  unconnected_by Loader NoMemory,
  (
    refl,
    subst (λ (o : Option (Vec Call Global)). Loads (fresh setup) o (unconnected (Refused NoMemory) (fresh setup)))
        (sym is) (fresh setup, start_refused setup, λ e. absurd cc, refl),
  ),
)
by_loader setup None is = (
  unconnected_by Profile NoMemory,
  (
    refl,
    (
      fresh setup,
      subst (λ (o : Option (Vec Call Global)). Loads (fresh setup) o (made (fresh setup))) (sym is) refl,
      (fresh setup, start_refused setup, λ e. absurd cc, refl),
    ),
  ),
)

pub may_be_refused : (setup : Setup) → (refusal : Refusal) × Opens setup (refused refusal (fresh setup))
may_be_refused setup = by_loader setup setup.loader refl

-- the next of the calls that are left
pub next_call : (items yielded : List Call) (call : Call) → (length yielded < length items)
    × (call ≡ get_or items (length yielded) call)
    → drop (length yielded) items ≡ call ∷ drop (length (yielded ++ call ∷ [])) items
next_call items yielded call turn =
    let more : length (yielded ++ call ∷ []) ≡ length yielded + 1 = length-append yielded (call ∷ []) in
    drop-cons items (length yielded) call turn.0 ∙ ap (λ x. x ∷ drop (suc (length yielded)) items) (sym turn.1)
    ∙ ap (λ n. call ∷ drop n items)
    (let same : suc (length yielded) ≡ length (yielded ++ call ∷ []) = omega (arith, more) in same)

-- ---- calls in turn

-- what follows of the calls of a client whose first so many led from ks to mid
abbrev pub MakesSome : (limit place : ℕ) → List Call → ℕ → (ks mid : List Knows) → Type 0
MakesSome limit place items count ks mid =
    ((ks' : List Knows) → MakesBeside limit mid place (drop count items) ks' → MakesBeside limit ks place items ks')
    × ((number all : ℕ) (reply : Reply) (ks' : List Knows) → all ≡ count + number
    → StopsBeside limit mid place (drop count items) number reply ks' → StopsBeside limit ks place items all reply ks')

module _ (limit place : ℕ) (items : List Call) where
  pub makes_none : (ks : List Knows) → MakesSome limit place items 0 ks ks
  makes_none ks = (
    λ ks' h. h,
    λ number all reply ks' e h.
        let same : number ≡ all = omega (arith, e) in
        subst (λ n. StopsBeside limit ks place items n reply ks') same h,
  )

  module _ (ks mid ks' : List Knows) (yielded : List Call) (call : Call) (reply : Reply)
      (some : MakesSome limit place items (length yielded) ks mid) (act : AsksFor limit mid place call reply ks')
      (split : drop (length yielded) items ≡ call ∷ drop (length (yielded ++ call ∷ [])) items) where
    pub makes_one : is_refusal reply ≡ false → MakesSome limit place items (length (yielded ++ call ∷ [])) ks ks'
    makes_one quiet = (
      λ end rest. some.0 end (subst (λ (l : List Call). MakesBeside limit mid place l end) (sym split)
          (reply, ks', act, quiet, rest)),
      λ number all told end e rest.
          let more : length (yielded ++ call ∷ []) ≡ length yielded + 1 = length-append yielded (call ∷ []) in
          some.1 (number + 1) all told end (omega (arith, e, more))
          (subst (λ (l : List Call). StopsBeside limit mid place l (number + 1) told end) (sym split)
          (reply, ks', act, inr (quiet, number, refl, rest))),
    )

    pub stops_here : (all : ℕ) (told : Reply) → all ≡ length yielded + 1 → (told ≡ reply) × (is_refusal reply ≡ true)
        → StopsBeside limit ks place items all told ks'
    stops_here all told e loud =
        some.1 1 all told ks' e (subst (λ (l : List Call). StopsBeside limit mid place l 1 told ks') (sym split)
        (reply, ks', act, inl (loud.1, refl, loud.0, refl)))

  pub makes_all : (ks ks' : List Knows) (count : ℕ) → length items ≤ count → MakesSome limit place items count ks ks'
      → MakesBeside limit ks place items ks'
  makes_all ks ks' count over some =
      some.0 ks' (subst (λ (l : List Call). MakesBeside limit ks' place l ks') (sym (drop_all count items over)) refl)

-- ---- what such calls come to where the clients are all that the tree has

module _ (rules : Rules) (room limit place : ℕ) where
  one_call : (ks mid : List Knows) (call : Call) (reply : Reply) → place < length ks
      → AsksFor limit ks place call reply mid
      → Leads rules room limit ks mid (λ s t. Called s (place + 1) call reply t)
  one_call ks mid call reply less act =
      by_number rules room limit ks mid place call reply less (ask_so rules room limit ks mid place call reply act)

  still_less : (ks mid : List Knows) (call : Call) (reply : Reply) → place < length ks
      → AsksFor limit ks place call reply mid → place < length mid
  still_less ks mid call reply less act =
      let more = (asks_for_count limit ks mid place call reply act).0 in omega (arith, less, more)

  pub makes_so : (ks ks' : List Knows) (calls : List Call) → place < length ks → MakesBeside limit ks place calls ks'
      → Leads rules room limit ks ks' (λ s t. Makes (place + 1) s calls t)
  makes_so ks ks' [] less h =
      subst (λ (l : List Knows). Leads rules room limit ks l (λ s t. t ≡ s)) (sym h) (nothing_leads rules room limit ks)
  makes_so ks ks' (call ∷ calls) less h =
      let reply = h.0 in
      let mid = h.1 in
      so_leads rules room limit ks ks'
      (λ s u. (t : Session) × Called s (place + 1) call reply t × Makes (place + 1) t calls u)
      (λ s t. Makes (place + 1) s (call ∷ calls) t)
      (then_leads rules room limit ks mid ks' (λ s t. Called s (place + 1) call reply t)
      (λ s t. Makes (place + 1) s calls t) (one_call ks mid call reply less h.2)
      (makes_so mid ks' calls (still_less ks mid call reply less h.2) h.4))
      (λ history end c s s' it. (reply, it.0, it.1, h.3, it.2))

  pub stops_so : (ks ks' : List Knows) (calls : List Call) (number : ℕ) (reply : Reply) → place < length ks
      → StopsBeside limit ks place calls number reply ks'
      → Leads rules room limit ks ks' (λ s t. Stops (place + 1) s calls number reply t)
  stops_so ks ks' [] number reply less h = absurd h
  stops_so ks ks' (call ∷ calls) number reply less h =
      let told = h.0 in
      let mid = h.1 in
      let one = one_call ks mid call told less h.2 in elim h.3 [
        | inl now ↦ subst (λ (l : List Knows). Leads rules room limit ks l
            (λ s t. Stops (place + 1) s (call ∷ calls) number reply t)) (sym now.3)
            (so_leads rules room limit ks mid (λ s t. Called s (place + 1) call told t)
            (λ s t. Stops (place + 1) s (call ∷ calls) number reply t) one
            (λ history end c s s' called.
            (told, between rules room limit history mid, called, inl (now.0, now.1, now.2, refl))))
        | inr later ↦ so_leads rules room limit ks ks'
            (λ s u. (t : Session) × Called s (place + 1) call told t × Stops (place + 1) t calls later.1 reply u)
            (λ s t. Stops (place + 1) s (call ∷ calls) number reply t)
            (then_leads rules room limit ks mid ks' (λ s t. Called s (place + 1) call told t)
            (λ s t. Stops (place + 1) s calls later.1 reply t) one
            (stops_so mid ks' calls later.1 reply (still_less ks mid call told less h.2) later.3))
            (λ history end c s s' it. (told, it.0, it.1, inr (later.0, later.1, later.2, it.2)))
      ]

-- ---- a client that comes

-- its connect, and then this of the client
pub comes_then : (rules : Rules) (room limit : ℕ) (ks js ls : List Knows) (count : ℕ)
    (Does : ℕ → Session → Session → Type 0) → count ≡ length ks
    → Leads rules room limit ks js (λ s t. (mid : Session) × Connects s Done mid × (joined s mid ≡ t))
    → Leads rules room limit js ls (Does (count + 1))
    → Leads rules room limit ks ls
    (λ s t. (mid : Session) × Connects s Done mid × Does (following s) (joined s mid) t)
comes_then rules room limit ks js ls count Does all connects does = so_leads rules room limit ks ls
    (λ s u. (t : Session) × ((mid : Session) × Connects s Done mid × (joined s mid ≡ t)) × Does (count + 1) t u)
    (λ s t. (mid : Session) × Connects s Done mid × Does (following s) (joined s mid) t)
    (then_leads rules room limit ks js ls
    (λ s t. (mid : Session) × Connects s Done mid × (joined s mid ≡ t)) (Does (count + 1)) connects does)
    (λ history end c s s' h.
    let now = between rules room limit history ks in
    let then = between rules room limit history ls in (
      h.1.0,
      h.1.1,
      subst (λ (t : Session). Does (following now) t then) (sym h.1.2)
          (subst (λ m. Does m h.0 then) (ap (λ m. m + 1) (all ∙ sym (count_numbers ks))) h.2),
    ))

-- a refused connect
pub comes_not : (rules : Rules) (room limit : ℕ) (ks ks' : List Knows) (calls : List Call) (errno : Errno)
    → Leads rules room limit ks ks'
    (λ s t. ((mid : Session) × Connects s (Refused errno) mid) × (t ≡ s))
    → Leads rules room limit ks ks' (λ s t. Comes s calls (unconnected (Refused errno) t))
comes_not rules room limit ks ks' calls errno leads = so_leads rules room limit ks ks'
    (λ s t. ((mid : Session) × Connects s (Refused errno) mid) × (t ≡ s))
    (λ s t. Comes s calls (unconnected (Refused errno) t)) leads
    (λ history end c s t h. (h.0.0, h.0.1, λ e. absurd cc, h.1))

-- both of an error, and what follows
pub if_err_both : {T E : Type 0} (r : Result T E) (P Q R : E → Type 0) → ((e : E) → P e → Q e → R e) → IfErr r P
    → IfErr r Q → IfErr r R
if_err_both (Ok value) P Q R f p q = tt
if_err_both (Err e) P Q R f p q = f e p q

-- a refused call
pub comes_unmade : (rules : Rules) (room limit : ℕ) (ks ks' : List Knows) (calls : List Call) (refusal : Refusal)
    → 1 ≤ refusal.calls
    → Leads rules room limit ks ks' (λ s t. Comes s calls (unmade refusal.calls refusal.reply t))
    → Leads rules room limit ks ks' (λ s t. Comes s calls (coming_at refusal t))
comes_unmade rules room limit ks ks' calls refusal some = subst (λ (b : Bool). Leads rules room limit ks ks'
    (λ s t. Comes s calls (cond b (unconnected refusal.reply t) (unmade refusal.calls refusal.reply t))))
    (sym (ne_eqb refusal.calls 0 (λ e. omega (arith, e, some))))

-- ---- a loader

pub loads_some : (rules : Rules) (room limit : ℕ) (ks ks' : List Knows) (loader : Option (Vec Call Global))
    (calls : Vec Call Global) (end : Session → Coming) → loader ≡ Some calls
    → Leads rules room limit ks ks' (λ s t. Comes s calls.items (end t))
    → Leads rules room limit ks ks' (λ s t. Loads s loader (end t))
loads_some rules room limit ks ks' loader calls end is =
    subst (λ (o : Option (Vec Call Global)). Leads rules room limit ks ks' (λ s t. Comes s calls.items (end t))
    → Leads rules room limit ks ks' (λ s t. Loads s o (end t))) (sym is) (λ h. h)

pub loads_none : (rules : Rules) (room limit : ℕ) (ks : List Knows) (loader : Option (Vec Call Global))
    → loader ≡ None → Leads rules room limit ks ks (λ s t. Loads s loader (made t))
loads_none rules room limit ks loader is =
    subst (λ (o : Option (Vec Call Global)). Leads rules room limit ks ks (λ s t. Loads s o (made t))) (sym is)
    (nothing_leads rules room limit ks)

-- ---- an opening

module _ (setup : Setup) (rules : Rules) (room limit : ℕ) where
  -- the session begins
  pub opens : (ks js ls : List Knows) (before : ℕ)
      → Leads rules room limit ks js (λ s t. Loads s setup.loader (made t))
      → Leads rules room limit js ls (λ s t. Comes s setup.profile.items (made t)) → before ≡ length js
      → Leads rules room limit ks ls (λ s t. s ≡ fresh setup → Opens setup (begun (without before t)))
  opens ks js ls before loads comes count = (
    then_grows ks js ls loads.0 comes.0,
    λ history end c g s.
        let loaded = between rules room limit history js in
        let then = between rules room limit history ls in
        let one = loads.1 history end c (then_grows js ls end comes.0 g) s in
        let two = comes.1 history end c g one.0 in (
          two.0,
          λ is. (
            loaded,
            then,
            subst (λ (z : Session). Loads z setup.loader (made loaded)) is one.1,
            two.1,
            ap (λ m. without m then) (count ∙ sym (count_numbers js)),
          ),
        ),
  )

  -- the loader doesn't come, or one of its calls is refused
  pub no_loader : (ks js : List Knows) (refusal : Refusal) → refusal.opener ≡ Loader
      → Leads rules room limit ks js (λ s t. Loads s setup.loader (coming_at refusal t))
      → Leads rules room limit ks js (λ s t. s ≡ fresh setup → Refuses setup refusal t)
  no_loader ks js refusal who loads = so_leads rules room limit ks js
      (λ s t. Loads s setup.loader (coming_at refusal t))
      (λ s t. s ≡ fresh setup → Refuses setup refusal t) loads
      (λ history end c s t h is.
      let left = between rules room limit history js in
      subst (λ (o : Opener). EndsOpening o setup (coming_at refusal left)) (sym who)
      (subst (λ (z : Session). Loads z setup.loader (coming_at refusal left)) is h))

  -- the first client doesn't come, or one of its calls is refused
  pub no_session : (ks js ls : List Knows) (refusal : Refusal) → refusal.opener ≡ Profile
      → Leads rules room limit ks js (λ s t. Loads s setup.loader (made t))
      → Leads rules room limit js ls (λ s t. Comes s setup.profile.items (coming_at refusal t))
      → Leads rules room limit ks ls (λ s t. s ≡ fresh setup → Refuses setup refusal t)
  no_session ks js ls refusal who loads comes = so_leads rules room limit ks ls
      (λ s u. (t : Session) × Loads s setup.loader (made t) × Comes t setup.profile.items (coming_at refusal u))
      (λ s t. s ≡ fresh setup → Refuses setup refusal t)
      (then_leads rules room limit ks js ls (λ s t. Loads s setup.loader (made t))
      (λ s t. Comes s setup.profile.items (coming_at refusal t)) loads comes)
      (λ history end c s t h is.
      subst (λ (o : Opener). EndsOpening o setup (coming_at refusal (between rules room limit history ls))) (sym who) (
        h.0,
        subst (λ (z : Session). Loads z setup.loader (made h.0)) is h.1,
        h.2,
      ))
