-- What comes of calls that don't walk, and of the coming of clients.
use Rattle.std.specs.Prelude.{◌≡◌, ◌≢◌, ℕ, ◌<◌, ◌≤◌, Bool, true, false, cond, ◌&&◌, List, [], ◌∷◌, length}
use Rattle.std.specs.Prelude.{slice_set, Option, Some, None, is_some, unwrap_or, Result, Ok, Err, IfOk, OnErr, refl}
use Rattle.std.specs.Option.{option_map_or}
use Rattle.std.proofs.Common.{sym, ap, subst, ◌∙◌, inl, inr}
use Rattle.ll_laws.proofs.Chains.{same_Some}
use Rattle.ll_rights.specs.declared.errno.Errno.{Errno}
use Rattle.ll_rights.specs.declared.errno.Errno.TheVariants.{HistoryFull, NoMemory}
use Rattle.ll_rights.specs.Map.{get, has}
use Rattle.ll_node.specs.declared.held.Held.{Held}
use Rattle.ll_seq.specs.declared.call.Call.{Call}
use Rattle.ll_seq.specs.declared.call.Call.TheVariants as call
use Rattle.ll_seq.specs.declared.client.ClientRecord.{ClientRecord}
use Rattle.ll_seq.specs.declared.client.Descriptor.{Descriptor}
use Rattle.ll_seq.specs.declared.reply.Reply.TheVariants.{Refused}
use Rattle.ll_seq.specs.State.{new_client}
use Rattle.ll_seq.specs.Step.{client_of}
use Rattle.ll_seq.proofs.Results.{wants_memory}
use Rattle.ll_laws.specs.declared.step.Step.{Step}
use Rattle.ll_laws.specs.declared.step.Step.TheVariants.{Join, Begin, FdCommit, ClientStep}
use Rattle.ll_laws.specs.Sound.{IsSound}
use Rattle.ll_laws.specs.World as world
use Rattle.ll_laws.specs.World.{World, advance, shown, is_full, is_idle, is_on_descriptor, descriptor_of, next_number}
use Rattle.ll_laws.proofs.Shapes.{replied}
use Rattle.ll_laws.proofs.StepGrowth.{Went, went}
use Rattle.ll_laws.proofs.Tests.{both}
use Rattle.ll_journal.specs.Book.{Book, Spares, inode_in, slot_of}
use Rattle.ll_journal.specs.Direct.{Answers, ComesBack, IsOpen}
use Rattle.ll_journal.specs.Direct.{Starves, is_refusal, succeeds}
use Rattle.ll_journal.specs.declared.direct.Made.{Made}
use Rattle.ll_journal.specs.declared.direct.Made.TheVariants as answer
use Rattle.ll_journal.specs.Direct.{Starts}
use Rattle.ll_journal.specs.declared.start.Start.{Start}
use Rattle.ll_journal.specs.declared.start.Start.TheVariants as start
use Rattle.ll_journal.specs.declared.open_file.Unmade.{Unmade}
use Rattle.ll_journal.specs.declared.open_file.Unmade.TheVariants as unmade
use Rattle.ll_journal.specs.SlotTree.{accounts_of}
use Rattle.ll_journal.proofs.Granted.{none_refuses}
use Rattle.ll_steps.specs.CallOutcomes.{Calls, Waits, alone, waits}
use Rattle.ll_steps.specs.Contents.{answered_as, IsKept}
use Rattle.ll_steps.specs.Makes.{Makes, starved}
use Rattle.ll_steps.specs.declared.report.Report.TheVariants as report
use Rattle.ll_steps.proofs.AddedEntries.{replied_makes, full_told}
use Rattle.ll_steps.proofs.ContentsKept.{kept_on, kept_alone, kept_same, same_accounts}
use Rattle.ll_steps.proofs.LentContents.{put_one}

-- ---- the coming of a client

pub join_keeps : (b b' : Book) (slots : List Held) (r : Result ℕ Errno) → IsKept b slots
    → IfOk r (λ number. advance b.world Join ≡ (world.Joined number, b'.world)) → OnErr r (b' ≡ b) → Spares b b' []
    → IsKept b' slots
join_keeps b b' slots (Ok number) h joined same spares =
    kept_alone b b' slots Join (world.Joined number) h joined spares
join_keeps b b' slots (Err errno) h joined same spares = kept_same b b' slots h same

-- nothing refuses the connect of a client that would come
join_starves : (w after : World) → advance w Join ≡ (world.Joined (next_number w), after) → Starves w Join
join_starves w after e =
    let came = subst (Went w Join) e (went w Join) in
    record {
      client = next_number w;
      call = call.Connect;
      is = refl;
      may = record {
        takes = refl;
        passes = none_refuses (shown w) (next_number w) call.Connect (next_number w) (ap is_refusal (sym came.2));
      };
      room = came.0;
      would = ap (λ (p : world.Outcome × World). succeeds p.0) e;
    }

pub join_refused : (w : World) (errno : Errno)
    → (errno ≢ NoMemory → advance w Join ≡ (world.Replied (Refused errno), w))
    → (errno ≡ NoMemory → (after : World) × (advance w Join ≡ (world.Joined (next_number w), after)))
    → Makes w Join (report.Refused errno) w
join_refused w errno refused starves = elim (wants_memory errno) [
  | inl memory ↦ inr (memory, join_starves w (starves memory).0 (starves memory).1, refl)
  | inr other ↦ inl (inr refl, refused other)
]

-- ---- calls that are answered at once

pub answer_makes : (b b' : Book) (step' : Step) (a : Made) → step' ≢ Join → starved b.world step' ≡ b.world
    → Answers b step' a b'
    → Makes b.world step' (answered_as (length b.world.history) a) b'.world
answer_makes b b' step' (answer.Replied reply) other same d = replied_makes b.world b'.world step' reply d.0 other d.1
answer_makes b b' step' answer.HistoryFull other same d = inl (full_told b.world b'.world step' d.0, d.0)
answer_makes b b' step' answer.NoMemory other same d =
    inr (refl, d.1, ap (λ (b : Book). b.world) d.0 ∙ sym same)

pub answer_keeps : (b b' : Book) (slots new : List Held) (step' : Step) (a : Made) → IsKept b slots
    → Answers b step' a b' → new ≡ accounts_of b' → IsKept b' new
answer_keeps b b' slots new step' (answer.Replied reply) h d e =
    kept_on b b' slots new step' (world.Replied reply) h d.1 e
answer_keeps b b' slots new step' answer.HistoryFull h d e =
    kept_on b b' slots new step' (world.Replied (Refused HistoryFull)) h d.0 e
answer_keeps b b' slots new step' answer.NoMemory h d e = record {
  accounts = e;
  sound = subst (λ (b : Book). IsSound b.world) (sym d.0) h.sound;
  within = subst (λ (b : Book). length b.world.history ≤ b.world.limit) (sym d.0) h.within;
}

pub answered_made : (number : ℕ) (a : Made) → answered_as number a ≢ report.NotNow
answered_made number (answer.Replied reply) e = cc e
answered_made number answer.HistoryFull e = cc e
answered_made number answer.NoMemory e = cc e

-- ---- a call for the client alone

pub alone_keeps : (b b' : Book) (slots : List Held) (client : ℕ) (c : Call) (r : Result Made Call) → IsKept b slots
    → IfOk r (λ a. Answers b (ClientStep client c) a b') → OnErr r (b' ≡ b) → Spares b b' [] → IsKept b' slots
alone_keeps b b' slots client c (Ok a) h does same spares =
    answer_keeps b b' slots slots (ClientStep client c) a h does (h.accounts ∙ same_accounts b b' spares)
alone_keeps b b' slots client c (Err back) h does same spares = kept_same b b' slots h same

-- ---- a call that is on no descriptor

pub start_keeps : (b b' : Book) (slots : List Held) (client : ℕ) (c : Call) (s : Start) → IsKept b slots
    → Starts b client c s b' → Spares b b' [] → IsKept b' slots
start_keeps b b' slots client c (start.Made a) h d spares = alone_keeps b b' slots client c (Ok a) h d tt spares
start_keeps b b' slots client c start.Begun h d spares = kept_alone b b' slots (Begin client c) world.Begun h d.1 spares
start_keeps b b' slots client c (start.Back back) h d spares = kept_same b b' slots h d.1

-- it is made at once
pub made_calls : (b b' : Book) (client : ℕ) (c : Call) (a : Made) → Answers b (ClientStep client c) a b'
    → Waits b.world (FdCommit client c)
    → Calls b.world client c (answered_as (length b.world.history) a) b'.world
made_calls b b' client c a d waits' =
    let number : ℕ = length b.world.history in
    alone b'.world (answered_as number a) waits' (answer_makes b b' (ClientStep client c) a (λ e. cc e) refl d)
    (answered_made number a)

-- or may not set out
pub back_calls : (b b' : Book) (client : ℕ) (c back : Call) → Starts b client c (start.Back back) b'
    → Waits b.world (FdCommit client c) → Calls b.world client c report.NotNow b'.world
back_calls b b' client c back d waits' =
    subst (λ (v : Book). Calls b.world client c report.NotNow v.world) (sym d.1) (waits waits' d.2 d.3)

-- ---- a call on a descriptor

module _ (w : World) (client : ℕ) (c : Call) where
  abbrev here : Bool → Bool → world.Outcome × World
  here idle on = unwrap_or (cond (idle && on) (Some (replied w client c)) None) (world.NotNow, w)

  never : (idle : Bool) → here idle false ≡ (world.NotNow, w)
  never true = refl
  never false = refl

  pub no_descriptor : descriptor_of c ≡ None → advance w (FdCommit client c) ≡ (world.NotNow, w)
  no_descriptor e = ap (λ o. here (is_idle w client)
      (option_map_or (has (client_of (shown w) client).descriptors) o false)) e ∙ never (is_idle w client)

  pub not_open : (fd : ℕ) → descriptor_of c ≡ Some fd → ((file : Descriptor) → IsOpen w client fd file → ⊥)
      → advance w (FdCommit client c) ≡ (world.NotNow, w)
  not_open fd e closed = by (is_idle w client && is_on_descriptor (client_of (shown w) client) c) refl
    where
      open_of : (o : Option ClientRecord) → get (shown w).clients client ≡ o → is_some o ≡ true
          → has (unwrap_or o new_client).descriptors fd ≡ true → ⊥
      open_of None is there on = cc there
      open_of (Some caller) is there on = at (get caller.descriptors fd) refl on
        where
          at : (o : Option Descriptor) → get caller.descriptors fd ≡ o → is_some o ≡ true → ⊥
          at None f g = cc g
          at (Some file) f g = closed file (record { caller = caller; there = is; holds = f })

      by : (t : Bool) → (is_idle w client && is_on_descriptor (client_of (shown w) client) c) ≡ t
          → unwrap_or (cond t (Some (replied w client c)) None) (world.NotNow, w) ≡ (world.NotNow, w)
      by false is = refl
      by true is =
          let idle = both (is_idle w client) (is_on_descriptor (client_of (shown w) client) c) is in
          absurd (open_of (get (shown w).clients client) refl (both (has (shown w).clients client) _ idle.0).0
          (sym (ap (λ o. option_map_or (has (client_of (shown w) client).descriptors) o false) e) ∙ idle.1))

-- the slot of the file that is open is lent
pub file_near : (b : Book) (client : ℕ) (c back : Call) (slot fd : ℕ) (file : Descriptor) → descriptor_of c ≡ Some fd
    → IsOpen b.world client fd file → inode_in b slot ≡ file.inode → ComesBack b client c slot (unmade.Astray back) → ⊥
file_near b client c back slot fd file e opened there comes =
    let astray = comes.1 in
    let one : fd ≡ astray.number = same_Some fd astray.number (sym e ∙ astray.on) in
    let caller : opened.caller ≡ astray.is_open.caller =
    same_Some opened.caller astray.is_open.caller (sym opened.there ∙ astray.is_open.there) in
    let held : file ≡ astray.file =
    same_Some file astray.file (sym opened.holds ∙ (λ i. get (caller i).descriptors (one i)) ∙ astray.is_open.holds)
    in
    astray.elsewhere (there ∙ ap (λ (f : Descriptor). f.inode) held)

pub file_keeps : (b b' : Book) (slots : List Held) (client : ℕ) (c : Call) (slot : ℕ) (file : Held)
    (r : Result Made Unmade) (F : Type 0) → IsKept b slots → slot < length b.inodes
    → IfOk r (λ a. Answers b (FdCommit client c) a b')
    → OnErr r ((b' ≡ b) × F) → file ≡ slot_of b' slot → Spares b b' (slot ∷ []) → IsKept b' (slice_set slots slot file)
file_keeps b b' slots client c slot file (Ok a) F h there does same lent spares =
    answer_keeps b b' slots (slice_set slots slot file) (FdCommit client c) a h does
    (put_one b b' slots slot file h.accounts there spares lent)
file_keeps b b' slots client c slot file (Err back) F h there does same lent spares = record {
  accounts = put_one b b' slots slot file h.accounts there spares lent;
  sound = subst (λ (b : Book). IsSound b.world) (sym same.0) h.sound;
  within = subst (λ (b : Book). length b.world.history ≤ b.world.limit) (sym same.0) h.within;
}

pub join_makes : (b b' : Book) (errno : Errno) → b' ≡ b
    → (errno ≢ NoMemory → advance b.world Join ≡ (world.Replied (Refused errno), b.world))
    → (errno ≡ NoMemory → (after : World) × (advance b.world Join ≡ (world.Joined (next_number b.world), after)))
    → Makes b.world Join (report.Refused errno) b'.world
join_makes b b' errno same refused starves =
    subst (λ (b' : Book). Makes b.world Join (report.Refused errno) b'.world) (sym same)
    (join_refused b.world errno refused starves)
