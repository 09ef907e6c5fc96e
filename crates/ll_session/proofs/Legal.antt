-- The entries of a run are a legal history.
use Rattle.std.proofs.Common.{◌≡◌, ℕ, zero, suc, ◌-◌, true, false, true≢false, List, [], ◌∷◌, ◌++◌, ◌⊎◌, Some, refl}
use Rattle.std.proofs.Common.{sym, ap, subst, ◌∙◌, inl, inr}
use Rattle.std.specs.Prelude.{◌==◌, Bool, drop, if◌then◌else◌, length, slice_get, not, IfSome, Option, None}
use Rattle.std.specs.List.{AllByRecursion}
use Rattle.std.specs.declared.alloc.Global.{Global}
use Rattle.std.specs.declared.vec.Vec.{Vec}
use Rattle.std.proofs.lemmas.List.Elements.{recursion_from_All}
use Rattle.ll_rights.specs.Map.{has}
use Rattle.ll_seq.specs.declared.call.Call.{Call}
use Rattle.ll_seq.specs.declared.call.Call.TheVariants.{Make, Open, Read, Write, Ftruncate, Close, Truncate, ReadDir}
use Rattle.ll_seq.specs.declared.call.Call.TheVariants.{Stat, Exec, Unlink, Rmdir, Rename, RenameNoreplace, Exchange}
use Rattle.ll_seq.specs.declared.call.Call.TheVariants.{Link, Ruleset, Allow, Confine, Spawn, Connect}
use Rattle.ll_seq.specs.declared.reply.Entry.{Entry}
use Rattle.ll_seq.specs.declared.reply.Reply.{Reply}
use Rattle.ll_seq.specs.declared.reply.Reply.TheVariants.{Done, Opened, Bytes, Wrote, Listed, Found, Created, Spawned}
use Rattle.ll_seq.specs.declared.reply.Reply.TheVariants.{Refused, Denied}
use Rattle.ll_seq.specs.Call.{first_path, second_path}
use Rattle.ll_seq.specs.CallParts.{done}
use Rattle.ll_seq.specs.History.{is_connect, fresh_of, MayStand, IsLegal, state_after}
use Rattle.ll_seq.specs.State.{State, start}
use Rattle.ll_seq.specs.Step.{step, first_or, refusals, client_of}
use Rattle.ll_seq.proofs.Consequences.{step-clients_stay, step-spawned}
use Rattle.ll_seq.proofs.Histories.{after_push, legal_append}
use Rattle.ll_wire.specs.Grammar.{IsCall}
use Rattle.ll_session.proofs.Comers.{connected_there}
use Rattle.ll_session.specs.declared.refusal.Opener.{Opener}
use Rattle.ll_session.specs.declared.refusal.Opener.TheVariants.{Loader, Profile}
use Rattle.ll_session.specs.declared.refusal.Refusal.{Refusal}
use Rattle.ll_session.specs.declared.setup.Setup.{Setup}
use Rattle.ll_session.specs.PartySession.{following, joined}
use Rattle.ll_session.specs.FirstClients.{Comes, EndsOpening, Loads, Makes, Opens, Stops, begun, fresh, made, refused}
use Rattle.ll_session.specs.FirstClients.{unconnected, unmade}
use Rattle.ll_session.specs.Run.{RunsLegally}
use Rattle.ll_wire.specs.Transcript.{Transcript}
use Rattle.ll_session.specs.PartySession.{Session, Called, answered, full, starved}
use Rattle.ll_session.specs.Session.{AreOthers, Answers, Tells, calls, unread}
use Rattle.ll_session.specs.PartySession.{brought}
use Rattle.ll_session.specs.Session.{bad}

-- these clients are there
abbrev AreThere : State → List ℕ → Type 0
AreThere tree = AllByRecursion (λ number. has tree.clients number ≡ true)

-- the entries are a legal history that leads to the tree, and the clients are there
record IsSound (empty : State) (s : Session) : Type 0 where
  legal : IsLegal empty s.entries
  tree : s.tree ≡ state_after empty s.entries
  there : AreThere s.tree s.clients

-- a call that has a spelling is no connect
pub no_connect : (call : Call) → IsCall call → is_connect call ≡ false
no_connect (Make kind target) is = refl
no_connect (Open mode target) is = refl
no_connect (Read fd offset count) is = refl
no_connect (Write fd offset bytes) is = refl
no_connect (Ftruncate fd size) is = refl
no_connect (Close fd) is = refl
no_connect (Truncate target size) is = refl
no_connect (ReadDir target) is = refl
no_connect (Stat target) is = refl
no_connect (Exec target) is = refl
no_connect (Unlink target) is = refl
no_connect (Rmdir target) is = refl
no_connect (Rename old new) is = refl
no_connect (RenameNoreplace old new) is = refl
no_connect (Exchange old new) is = refl
no_connect (Link old new) is = refl
no_connect (Ruleset rights) is = refl
no_connect (Allow number target rights) is = refl
no_connect (Confine number) is = refl
no_connect Spawn is = refl
no_connect Connect is = absurd is

-- the number that the reply tells is all that a step needs of the fresh one
module _ (s : State) (n : ℕ) where
  by_reply : (call : Call) (fresh : ℕ)
      → ◌≡◌ {A = Reply × State} (step s n call (fresh_of (step s n call fresh).0)) (step s n call fresh)
  by_reply (Make kind target) fresh = refl
  by_reply (Open mode target) fresh = refl
  by_reply (Read fd offset count) fresh = refl
  by_reply (Write fd offset bytes) fresh = refl
  by_reply (Ftruncate fd size) fresh = refl
  by_reply (Close fd) fresh = refl
  by_reply (Truncate target size) fresh = refl
  by_reply (ReadDir target) fresh = refl
  by_reply (Stat target) fresh = refl
  by_reply (Exec target) fresh = refl
  by_reply (Unlink target) fresh = refl
  by_reply (Rmdir target) fresh = refl
  by_reply (Rename old new) fresh = refl
  by_reply (RenameNoreplace old new) fresh = refl
  by_reply (Exchange old new) fresh = refl
  by_reply (Link old new) fresh = refl
  by_reply (Ruleset rights) fresh = refl
  by_reply (Allow number target rights) fresh = refl
  by_reply (Confine number) fresh = refl
  by_reply Spawn fresh = of (refusals s (client_of s n) Spawn)
    where
      spawned : ℕ → Reply × State
      spawned = done s n (client_of s n) Spawn (first_path Spawn) (second_path Spawn)

      of : (replies : List Reply) → ◌≡◌ {A = Reply × State}
          (first_or s replies (done s n (client_of s n) Spawn (first_path Spawn) (second_path Spawn)
          (fresh_of (first_or s replies
          (done s n (client_of s n) Spawn (first_path Spawn) (second_path Spawn) fresh)).0)))
          (first_or s replies (done s n (client_of s n) Spawn (first_path Spawn) (second_path Spawn) fresh))
      of [] = refl
      of (reply ∷ replies) = refl
  by_reply Connect fresh = refl

there_at : (tree : State) (clients : List ℕ) (i number : ℕ) → AreThere tree clients → slice_get clients i ≡ Some number
    → has tree.clients number ≡ true
there_at tree [] i number all e = absurd cc
there_at tree (k ∷ clients) zero number all e = let same : k ≡ number = cc in
    subst (λ j. has tree.clients j ≡ true) same all.0
there_at tree (k ∷ clients) (suc i) number all e = there_at tree clients i number all.1 e

there_more : (tree : State) (clients more : List ℕ) → AreThere tree clients → AreThere tree more
    → AreThere tree (clients ++ more)
there_more tree [] more all others = others
there_more tree (k ∷ clients) more all others = (all.0, there_more tree clients more all.1 others)

still_there : (tree later : State) (clients : List ℕ)
    → ((number : ℕ) → has tree.clients number ≡ true → has later.clients number ≡ true) → AreThere tree clients
    → AreThere later clients
still_there tree later [] stay all = tt
still_there tree later (k ∷ clients) stay all = (stay k all.0, still_there tree later clients stay all.1)

brought_there : (tree : State) (reply : Reply)
    → ((number : ℕ) → reply ≡ Spawned number → has tree.clients number ≡ true) → AreThere tree (brought reply)
brought_there tree Done there = tt
brought_there tree (Opened number) there = tt
brought_there tree (Bytes bytes) there = tt
brought_there tree (Wrote count) there = tt
brought_there tree (Listed names) there = tt
brought_there tree (Found status) there = tt
brought_there tree (Created number) there = tt
brought_there tree (Spawned number) there = (there number refl, tt)
brought_there tree (Refused errno) there = tt
brought_there tree (Denied denial) there = tt

module _ (empty : State) where
  by_call : (s t : Session) (client : ℕ) (call : Call) (reply : Reply) → is_connect call ≡ false
      → has s.tree.clients client ≡ true → Called s client call reply t
      → IsSound empty s → IsSound empty t
  by_call s t client call answer other there (answered reply tree fresh vacant free is) sound =
      let outcome : ◌≡◌ {A = Reply × State} (step s.tree client call (fresh_of reply)) (reply, tree) =
      ap (λ (p : Reply × State). step s.tree client call (fresh_of p.0)) is ∙ by_reply s.tree client call fresh
      ∙ sym is in
      let told : (number : ℕ) → reply ≡ Spawned number → (number ≡ fresh) × (has tree.clients number ≡ true) =
      λ number e.
      let spawned = step-spawned s.tree client call fresh number (ap (λ (p : Reply × State). p.0) (sym is) ∙ e) in
      (spawned.0, ap (λ (p : Reply × State). has p.1.clients number) is ∙ spawned.1) in
      let entry : Entry = record { client = client; call = call; reply = reply } in
      let stands : MayStand s.tree entry = record {
        caller = there ∙ ap not (sym other);
        connected = λ connects. absurd (true≢false (sym connects ∙ other));
        spawned = λ number e. ap (has s.tree.clients) (told number e).0 ∙ free;
        answered = ap (λ (p : Reply × State). p.0) outcome;
      } in
      record {
        legal = legal_append empty s.entries entry sound.legal
            (subst (λ (z : State). MayStand z entry) sound.tree stands);
        tree = ap (λ (p : Reply × State). p.1) (sym outcome)
            ∙ ap (λ (z : State). (step z client call (fresh_of reply)).1) sound.tree
            ∙ sym (after_push empty s.entries entry);
        there = there_more tree s.clients (brought reply)
            (still_there s.tree tree s.clients (λ number e. ap (λ (p : Reply × State). has p.1.clients number) is
            ∙ step-clients_stay s.tree client call fresh number e) sound.there)
            (brought_there tree reply (λ number e. (told number e).1));
      }
  by_call s t client call reply other there (full filled) sound = sound
  by_call s t client call reply other there (starved room may) sound = sound

  stays : (s t : Session) (n k : ℕ) (call : Call) (reply : Reply) → Called s n call reply t
      → has s.tree.clients k ≡ true → has t.tree.clients k ≡ true
  stays s t n k call reply (answered answer tree fresh vacant free is) there =
      ap (λ (p : Reply × State). has p.1.clients k) is ∙ step-clients_stay s.tree n call fresh k there
  stays s t n k call reply (full filled) there = there
  stays s t n k call reply (starved room may) there = there

  -- a client that has come, where it had not
  abbrev Came : Session → ℕ → Session → Type 0
  Came s n t = IsSound empty (record t { clients = t.clients ++ n ∷ [] }) × (has t.tree.clients n ≡ true)

  by_connect : (s t : Session) (n : ℕ) (call : Call) (reply : Reply) → call ≡ Connect → reply ≡ Done
      → has s.tree.clients n ≡ false → Called s n call reply t
      → IsSound empty s → Came s n t
  by_connect s t n call reply connects done vacant (full filled) sound = absurd cc
  by_connect s t n call reply connects done vacant (starved room may) sound = absurd cc
  by_connect s t n call given connects done vacant (answered reply tree fresh room free is) sound =
      let outcome : ◌≡◌ {A = Reply × State} (step s.tree n call (fresh_of reply)) (reply, tree) =
      ap (λ (p : Reply × State). step s.tree n call (fresh_of p.0)) is ∙ by_reply s.tree n call fresh ∙ sym is in
      let entry : Entry = record { client = n; call = call; reply = reply } in
      let stands : MayStand s.tree entry = record {
        caller = vacant ∙ ap (λ (c : Call). not (is_connect c)) (sym connects);
        connected = λ _. done;
        spawned = λ number e. absurd (let both : Done ≡ Spawned number = sym done ∙ e in cc);
        answered = ap (λ (p : Reply × State). p.0) outcome;
      } in
      let same : ◌≡◌ {A = Reply × State} (reply, tree) (step s.tree n Connect fresh) =
      is ∙ ap (λ (c : Call). step s.tree n c fresh) connects in
      let here : has tree.clients n ≡ true =
      ap (λ (p : Reply × State). has p.1.clients n) same
      ∙ connected_there s.tree n fresh vacant (sym (ap (λ (p : Reply × State). p.0) same) ∙ done) in
      let others : AreThere tree s.clients = still_there s.tree tree s.clients
      (λ k e. ap (λ (p : Reply × State). has p.1.clients k) is ∙ step-clients_stay s.tree n call fresh k e) sound.there
      in
      let brings : AreThere tree (brought reply) =
      brought_there tree reply (λ number e. absurd (let both : Done ≡ Spawned number = sym done ∙ e in cc)) in (
        record {
          legal = legal_append empty s.entries entry sound.legal
              (subst (λ (z : State). MayStand z entry) sound.tree stands);
          tree = ap (λ (p : Reply × State). p.1) (sym outcome)
              ∙ ap (λ (z : State). (step z n call (fresh_of reply)).1) sound.tree
              ∙ sym (after_push empty s.entries entry);
          there = there_more tree (s.clients ++ brought reply) (n ∷ [])
              (there_more tree s.clients (brought reply) others brings) (here, tt);
        },
        here,
      )

  by_makes : (client : ℕ) (s t : Session) (list : List Call) → AllByRecursion (λ call. is_connect call ≡ false) list
      → has s.tree.clients client ≡ true → Makes client s list t → IsSound empty s → IsSound empty t
  by_makes client s t [] others there h sound = subst (IsSound empty) (sym h) sound
  by_makes client s t (call ∷ rest) others there h sound =
      by_makes client h.1 t rest others.1 (stays s h.1 client client call h.0 h.2 there) h.4
      (by_call s h.1 client call h.0 others.0 there h.2 sound)

  by_coming : (s t : Session) (list : List Call) → AreOthers list → Comes s list (made t) → IsSound empty s
      → IsSound empty t
  by_coming s t list others h sound =
      let came = by_connect s h.0 (following s) Connect Done refl refl h.1.0 h.1.1 sound in
      by_makes (following s) (joined s h.0) t list (recursion_from_All (λ call. is_connect call ≡ false) list others)
      came.1 h.2 came.0

  by_stops : (client : ℕ) (s t : Session) (list : List Call) (number : ℕ) (reply : Reply)
      → AllByRecursion (λ call. is_connect call ≡ false) list → has s.tree.clients client ≡ true
      → Stops client s list number reply t
      → IsSound empty s → IsSound empty t
  by_stops client s t [] number reply others there h sound = absurd h
  by_stops client s t (call ∷ rest) number reply others there h sound =
      let mid = by_call s h.1 client call h.0 others.0 there h.2 sound in elim h.3 [
        | inl now ↦ subst (IsSound empty) (sym now.3) mid
        | inr later ↦ by_stops client h.1 t rest later.1 reply others.1
            (stays s h.1 client client call h.0 h.2 there) later.3 mid
      ]

  -- whether its connect is refused or a call
  by_refusal : (s t : Session) (list : List Call) (number : ℕ) (reply : Reply) (at_connect : Bool) → AreOthers list
      → Comes s list (if at_connect then unconnected reply t else unmade number reply t)
      → IsSound empty s → IsSound empty t
  by_refusal s t list number reply true others h sound = subst (IsSound empty) (sym h.3) sound
  by_refusal s t list number reply false others h sound =
      let came = by_connect s h.0 (following s) Connect Done refl refl h.1.0 h.1.1 sound in
      by_stops (following s) (joined s h.0) t list number reply
      (recursion_from_All (λ call. is_connect call ≡ false) list others) came.1 h.2 came.0

  by_answer : (s t : Session) (piece : List ℕ) (reply : Reply) → Answers s piece reply t → IsSound empty s
      → IsSound empty t
  by_answer s t piece reply (calls n client call told u spells at was) sound =
      by_call s u client call told (no_connect call spells.is_call)
      (there_at s.tree s.clients (n - 1) client sound.there at) was sound
  by_answer s t piece reply (unread n client call spells at room holds) sound = sound
  by_answer s t piece reply (bad none) sound = sound

  by_lines : (s t : Session) (done : List (List ℕ)) (text : List ℕ) → Transcript Tells s done text t → IsSound empty s
      → IsSound empty t
  by_lines s t [] text h sound = subst (IsSound empty) (sym h.1) sound
  by_lines s t (piece ∷ done) text h sound = by_lines h.1 t done h.2 h.4 (by_answer s h.1 piece h.3.0 h.3.1 sound)

those_left : (tree : State) (n : ℕ) (clients : List ℕ) → AreThere tree clients → AreThere tree (drop n clients)
those_left tree zero clients all = all
those_left tree (suc n) [] all = tt
those_left tree (suc n) (k ∷ clients) all = those_left tree n clients all.1

by_loading : (empty : State) (s t : Session) (loader : Option (Vec Call Global))
    → IfSome loader (λ list. AreOthers list.items) → Loads s loader (made t) → IsSound empty s → IsSound empty t
by_loading empty s t (Some list) others h sound = by_coming empty s t list.items others h sound
by_loading empty s t None others h sound = subst (IsSound empty) (sym h) sound

by_opening : (setup : Setup) (first : Session) → Opens setup (begun first)
    → IsSound (start setup.rules setup.nodes) first
by_opening setup first h =
    let empty = start setup.rules setup.nodes in
    let loaded = by_loading empty (fresh setup) h.0 setup.loader setup.loads h.2
    (record { legal = tt; tree = refl; there = tt }) in
    let came = by_coming empty h.0 h.1 setup.profile.items setup.makes h.3 loaded in
    subst (IsSound empty) (sym h.4)
    (record {
      legal = came.legal;
      tree = came.tree;
      there = those_left h.1.tree (length h.0.clients) h.1.clients came.there;
    })

by_refused_loader : (empty : State) (s t : Session) (loader : Option (Vec Call Global)) (number : ℕ) (reply : Reply)
    (at_connect : Bool) → IfSome loader (λ list. AreOthers list.items)
    → Loads s loader (if at_connect then unconnected reply t else unmade number reply t)
    → IsSound empty s → IsSound empty t
by_refused_loader empty s t (Some list) number reply at_connect others h sound =
    by_refusal empty s t list.items number reply at_connect others h sound
by_refused_loader empty s t None number reply true others h sound = absurd h
by_refused_loader empty s t None number reply false others h sound = absurd h

by_opener : (setup : Setup) (opener : Opener) (number : ℕ) (reply : Reply) (at_connect : Bool) (last : Session)
    → EndsOpening opener setup (if at_connect then unconnected reply last else unmade number reply last)
    → IsSound (start setup.rules setup.nodes) (fresh setup) → IsSound (start setup.rules setup.nodes) last
by_opener setup Loader number reply at_connect last h begins =
    by_refused_loader (start setup.rules setup.nodes) (fresh setup) last setup.loader number reply at_connect
    setup.loads h begins
by_opener setup Profile number reply at_connect last h begins =
    let empty = start setup.rules setup.nodes in
    by_refusal empty h.0 last setup.profile.items number reply at_connect setup.makes h.2
    (by_loading empty (fresh setup) h.0 setup.loader setup.loads h.1 begins)

by_refused_opening : (setup : Setup) (refusal : Refusal) (last : Session) → Opens setup (refused refusal last)
    → IsSound (start setup.rules setup.nodes) last
by_refused_opening setup refusal last opens =
    by_opener setup refusal.opener refusal.calls refusal.reply (refusal.calls == 0) last opens.1
    (record { legal = tt; tree = refl; there = tt })

pub legally : RunsLegally
legally setup done left text last (inl h) =
    let sound = by_lines (start setup.rules setup.nodes) h.0 last done text h.3 (by_opening setup h.0 h.1) in
    (sound.legal, sound.tree)
legally setup done left text last (inr h) = let sound = by_refused_opening setup h.0 last h.1 in
    (sound.legal, sound.tree)
