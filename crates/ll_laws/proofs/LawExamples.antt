-- A legal history with a confined move, and what both laws say of it: they aren't empty.
use Rattle.std.specs.Prelude.{◌≡◌, ◌≢◌, ℕ, ◌<◌, Bool, true, false, cond, not, List, [], ◌∷◌, ◌++◌, ◌&&◌, ◌||◌, ◌==◌}
use Rattle.std.specs.Prelude.{map, drop, Option, Some, None, is_some, codes, slice_index_or, unwrap_or, refl, IsTrue}
use Rattle.std.specs.Prelude.{Contains, if◌then◌else◌}
use Rattle.std.specs.List.{list_any, list_all}
use Rattle.std.specs.Ordering.{nat_cmp, eq_by_cmp}
use Rattle.std.specs.FinMap.Entries.{find}
use Rattle.std.proofs.lemmas.Bool.{eq-eqb, eqb-true}
use Rattle.std.proofs.Common.{sym, subst, ap, ◌∙◌, inl, inr, arith}
use Rattle.ll_rights.specs.declared.kind.Kind.TheVariants.{Reg, Dir}
use Rattle.ll_rights.specs.declared.access.Access.{Access}
use Rattle.ll_rights.specs.Map.{empty, checked, get, has, insert, remove, entries}
use Rattle.ll_rights.specs.Right.{read_file}
use Rattle.ll_path.specs.Path.{path_of_text}
use Rattle.ll_path.specs.declared.target.Target.{Target}
use Rattle.ll_path.specs.declared.target.Target.TheVariants.{Good}
use Rattle.ll_rules.specs.Layer.{Layer}
use Rattle.ll_rules.specs.Rules.{new_ruleset}
use Rattle.ll_seq.specs.declared.call.AccessMode.TheVariants as way
use Rattle.ll_seq.specs.declared.call.Creation.TheVariants.{Never}
use Rattle.ll_seq.specs.declared.rules.Rules.{Rules}
use Rattle.ll_seq.specs.declared.call.Call.{Call}
use Rattle.ll_seq.specs.declared.call.Call.TheVariants.{Make, Open, Read, Rename, RenameNoreplace, Exchange, Link}
use Rattle.ll_seq.specs.declared.call.Call.TheVariants.{Ruleset, Allow, Confine, Spawn, Connect}
use Rattle.ll_seq.specs.declared.reply.Reply.{Reply}
use Rattle.ll_seq.specs.declared.reply.Reply.TheVariants.{Done, Opened, Bytes, Created, Spawned}
use Rattle.ll_seq.specs.declared.reply.Entry.{Entry}
use Rattle.ll_seq.specs.declared.client.ClientRecord.{ClientRecord}
use Rattle.ll_seq.specs.declared.client.Descriptor.{Descriptor}
use Rattle.ll_seq.specs.State.{State, start, new_client, is_open}
use Rattle.ll_seq.specs.Stages.{numbers_from}
use Rattle.ll_seq.specs.Step.{client_of, step, first_or}
use Rattle.ll_seq.specs.History.{MayStand, IsLegal, state_after, after, outcome_of, is_connect, fresh_of}
use Rattle.ll_seq.specs.Reach.{InReach, HasName}
use Rattle.ll_laws.specs.NoGain.{is_move, MovesUnder}
use Rattle.ll_laws.specs.Withheld.{IsConfined, Withheld}
use Rattle.ll_seq.proofs.Histories.{legal_late}
use Rattle.ll_seq.proofs.Parted.{or_left, or_right}
use Rattle.ll_laws.proofs.Chains.{same_Some}
use Rattle.ll_laws.proofs.Gain.{done_of, start_tree, after_tree, kept_tree, one_entry, named_below, no_gain}
use Rattle.ll_laws.proofs.Trees.{IsTree}
use Rattle.ll_laws.proofs.WithheldBytes.{no_refusal, entry_clients, bytes_are_withheld}

abbrev path : List ℕ → Target
path text = Good (path_of_text text)

abbrev set : ℕ → Access
set rights = record { 0 = rights }

abbrev entry : ℕ → Call → Reply → Entry
entry client call reply = record { client = client; call = call; reply = reply }

abbrev newest : Rules
newest = record { abi = 3; copies = true }

-- a client confines itself to reading beneath two directories, and to moving between them
abbrev early : List Entry
early = entry 1 Connect Done
    ∷ entry 1 (Make Dir (path (codes "/a"))) Done
    ∷ entry 1 (Make Dir (path (codes "/b"))) Done
    ∷ entry 1 (Make Reg (path (codes "/a/f"))) Done
    ∷ entry 1 (Make Reg (path (codes "/b/g"))) Done
    ∷ entry 1 (Ruleset (set 0x2004)) (Created 0)
    ∷ entry 1 (Allow 0 (path (codes "/a")) (set 0x2004)) Done
    ∷ entry 1 (Allow 0 (path (codes "/b")) (set 0x2004)) Done
    ∷ entry 1 (Confine 0) Done
    ∷ []

-- It moves the file to and fro by each of the four moves, and opens it. Whom it spawns then reads it by the descriptor
abbrev late : List Entry
late = entry 1 (Rename (path (codes "/a/f")) (path (codes "/b/h"))) Done
    ∷ entry 1 (RenameNoreplace (path (codes "/b/h")) (path (codes "/a/h"))) Done
    ∷ entry 1 (Link (path (codes "/a/h")) (path (codes "/b/i"))) Done
    ∷ entry 1 (Exchange (path (codes "/a/h")) (path (codes "/b/g"))) Done
    ∷ entry 1 (Open (record { access = way.Read; truncate = false; creation = Never }) (path (codes "/b/g"))) (Opened 0)
    ∷ entry 1 Spawn (Spawned 2)
    ∷ entry 2 (Read 0 0 1) (Bytes [])
    ∷ []

abbrev cut : State
cut = state_after (start newest 8) early

abbrev end : State
end = state_after (start newest 8) (early ++ late)

abbrev file : ℕ
file = 4

abbrev layer : Layer
layer = slice_index_or (client_of cut 1).domain 0 (new_ruleset 0)

-- ---- legality by computation

abbrev is_done : Reply → Bool
is_done Done = true
is_done _ = false

abbrev replies_from : State → List Entry → List Reply
replies_from s [] = []
replies_from s (e ∷ es) = (outcome_of s e).0 ∷ replies_from (after s e) es

-- who calls is there, or connects and is told ok; nobody has the number of a spawned client
abbrev may_call : State → Entry → Bool
may_call s e = (if is_connect e.call then not (has s.clients e.client) && is_done e.reply else has s.clients e.client)
    && not (has s.clients (fresh_of e.reply))

abbrev may_call_from : State → List Entry → Bool
may_call_from s [] = true
may_call_from s (e ∷ es) = may_call s e && may_call_from (after s e) es

both : (a b : Bool) → (a && b) ≡ true → (a ≡ true) × (b ≡ true)
both true b e = (refl, e)
both false b e = absurd (cc e)

holds_not : (b : Bool) → not b ≡ true → b ≡ false
holds_not true e = absurd (cc e)
holds_not false e = refl

done_is : (r : Reply) → is_done r ≡ true → r ≡ Done
done_is Done e = refl
done_is _ e = absurd (cc e)

stands : (s : State) (e : Entry) → may_call s e ≡ true → (outcome_of s e).0 ≡ e.reply → MayStand s e
stands s e may answered = record {
  caller = (by (is_connect e.call) w.0).0;
  connected = λ is. (by (is_connect e.call) w.0).1 is;
  spawned = λ number is. ap (λ r. has s.clients (fresh_of r)) (sym is) ∙ holds_not _ w.1;
  answered = answered;
}
  where
    w : ((if is_connect e.call then not (has s.clients e.client) && is_done e.reply else has s.clients e.client) ≡ true)
        × (not (has s.clients (fresh_of e.reply)) ≡ true)
    w = both _ _ may

    by : (b : Bool) → (if b then not (has s.clients e.client) && is_done e.reply else has s.clients e.client) ≡ true
        → (has s.clients e.client ≡ not b) × (IsTrue b → e.reply ≡ Done)
    by true h = (holds_not _ (both _ _ h).0, λ is. done_is e.reply (both _ _ h).1)
    by false h = (h, λ is. absurd (cc is))

legal_by : (s : State) (es : List Entry) → may_call_from s es ≡ true
    → replies_from s es ≡ map (λ (e : Entry). e.reply) es → IsLegal s es
legal_by s [] may answered = tt
legal_by s (e ∷ es) may answered = (
  stands s e (both _ _ may).0 (ap (λ rs. slice_index_or rs 0 Done) answered),
  legal_by (after s e) es (both _ _ may).1 (ap (drop 1) answered),
)

-- ---- an inode that nobody has open

some_passes : {A : Type 0} (f : A → Bool) (es : List (ℕ × A)) (q : ℕ) (v : A) → find nat_cmp q es ≡ Some v → f v ≡ true
    → list_any (λ (e : ℕ × A). f e.1) es ≡ true
some_passes f [] q v is h = absurd (cc is)
some_passes {A} f (e ∷ es) q v is h =
    elim (eq_by_cmp nat_cmp q e.0) as (λ b. cond b (Some e.1) (find nat_cmp q es) ≡ Some v
    → (f e.1 || list_any (λ (e : ℕ × A). f e.1) es) ≡ true) [
      | true ↦ λ g. or_left _ _ (ap f (same_Some _ _ g) ∙ h)
      | false ↦ λ g. or_right _ _ (some_passes f es q v g h)
    ] is

opened : (s : State) (inode client fd : ℕ) (c : ClientRecord) (d : Descriptor) → get s.clients client ≡ Some c
    → get c.descriptors fd ≡ Some d → d.inode ≡ inode → is_open s inode ≡ true
unfolding get entries
opened s inode client fd c d is g same =
    some_passes (λ (k : ClientRecord). list_any (λ (d : ℕ × Descriptor). d.1.inode == inode) (entries k.descriptors)) _
    client c is
    (some_passes (λ (d : Descriptor). d.inode == inode) _ fd d g (eq-eqb _ _ same))

closed_to_all : (s : State) (inode : ℕ) → is_open s inode ≡ false → (client : ℕ) → has s.clients client ≡ true
    → (fd : ℕ) (d : Descriptor) → get (client_of s client).descriptors fd ≡ Some d → d.inode ≢ inode
closed_to_all s inode closed client there fd d g same = by (get s.clients client) refl there
  where
    by : (o : Option ClientRecord) → get s.clients client ≡ o → is_some o ≡ true → ⊥
    by None is h = cc (h)
    by (Some c) is h = cc (sym closed
        ∙ opened s inode client fd c d is (ap (λ o. get (unwrap_or o new_client).descriptors fd) (sym is) ∙ g) same)

-- ---- no call but a read is answered by bytes

bytes_done : (s : State) (number : ℕ) (c : ClientRecord) (call : Call) (fresh : ℕ) (bytes : List ℕ)
    → (done_of s number c call fresh).0 ≡ Bytes bytes → (fd : ℕ) × (offset : ℕ) × (count : ℕ)
    × (call ≡ Read fd offset count)
bytes_done s number c (Read fd offset count) fresh bytes e = (fd, offset, count, refl)
bytes_done s number c _ fresh bytes e = absurd (cc e)

pub only_reads : (s : State) (number : ℕ) (call : Call) (fresh : ℕ) (bytes : List ℕ)
    → (step s number call fresh).0 ≡ Bytes bytes → (fd : ℕ) × (offset : ℕ) × (count : ℕ) × (call ≡ Read fd offset count)
only_reads s number call fresh bytes e =
    let c = client_of s number in
    bytes_done s number c call fresh bytes
    (ap (λ rs. (first_or s rs (done_of s number c call fresh)).0)
    (sym (no_refusal s number call fresh (Bytes bytes) refl e)) ∙ e)

-- ---- who is under a layer stays so

mover : (a : Bool) (client by : ℕ) → IsTrue a → (not a || client == by) ≡ true → by ≡ client
mover true client by i e = sym (eqb-true client by e)
mover false client by i e = absurd (cc i)

all_under : (s : State) (es : List Entry) (bound : Layer) (x by : ℕ) → IsTree s → IsLegal s es → x < s.next
    → IsConfined bound s by → list_all (λ (e : Entry). not (is_move e.call) || e.client == by) es ≡ true
    → MovesUnder bound s es
all_under s [] bound x by t l small c all = tt
all_under s (e ∷ es) bound x by t l small c all =
    let here : IsTrue (is_move e.call) → e.reply ≡ Done → Contains (client_of s e.client).domain bound =
    λ i d. subst (λ n. Contains (client_of s n).domain bound) (mover (is_move e.call) e.client by i (both _ _ all).0)
    c.under in
    let clients = entry_clients s bound x s e t l.0 small in
    let there : IsConfined bound (after s e) by =
    record { there = clients.there by c.there; under = clients.under by c.there c.under } in (
      here,
      all_under (after s e) es bound x by (kept_tree s e t) l.1
          (one_entry s e bound x read_file t l.0 here small).0 there (both _ _ all).1,
    )

-- ---- the example

legal : IsLegal (start newest 8) (early ++ late)
unfolding empty checked get insert remove entries numbers_from
legal = legal_by (start newest 8) (early ++ late) refl refl

confined : IsConfined layer cut 1
unfolding empty checked get insert remove entries numbers_from
confined = record { there = refl; under = (0, omega arith, refl) }

has_name : HasName cut file
unfolding empty checked get insert remove entries numbers_from
has_name = (path_of_text (codes "/a/f"), refl)

under : MovesUnder layer cut late
under =
    let t = after_tree (start newest 8) early (start_tree newest 8) in
    all_under cut late layer file 1 t (legal_late (start newest 8) early late legal)
    (named_below cut t has_name.0 file has_name.1) confined refl

reached : InReach end layer file read_file
unfolding empty checked get insert remove entries numbers_from
reached = record { path = path_of_text (codes "/b/g"); names = refl; relevant = refl; granted = refl }

-- so the file was within the layer's reach before it was moved
pub reached_before : InReach cut layer file read_file
reached_before = no_gain newest 8 early late legal layer under file has_name read_file reached

closed : is_open cut file ≡ false
unfolding empty checked get insert remove entries numbers_from
closed = refl

withheld : Withheld layer file cut (IsConfined layer cut) cut late
withheld = bytes_are_withheld newest 8 early late legal layer under file has_name
    (λ client c. closed_to_all cut file closed client c.there)

-- and so, too, as the spawned client reads it
pub read_by_spawned : InReach cut layer file read_file
unfolding empty checked get insert remove entries numbers_from
read_by_spawned = withheld.2.2.2.2.2.2.0 (inr (inl (inl (inl (inl (inl confined)))), refl))
    (record { fd = 0; offset = 0; count = 1; bytes = []; call = refl; answered = refl; from = refl })
