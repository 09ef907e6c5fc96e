-- Bytes are withheld from confined clients.
use Rattle.std.specs.Prelude.{◌≡◌, ◌⊎◌, ℕ, ◌<◌, Bool, true, false, cond, not, ◌&&◌, ◌==◌, List, [], ◌∷◌, ◌++◌, map}
use Rattle.std.specs.Prelude.{length, Option, Some, None, unwrap_or, is_some, is_none, nat_lt, refl, Contains, IsTrue}
use Rattle.std.specs.List.{list_all}
use Rattle.std.specs.Ordering.{nat_cmp}
use Rattle.std.specs.Cmp.{nat_cmp_total}
use Rattle.std.specs.FinMap.{nat_cmp-IsAntisymmetric}
use Rattle.std.proofs.Common.{sym, subst, ap, ◌∙◌, inl, inr, arith}
use Rattle.std.proofs.lemmas.List.Elements.{Contains-append_left}
use Rattle.std.proofs.lemmas.List.Folds.{list_all-append}
use Rattle.ll_rights.specs.declared.kind.Kind.TheVariants.{Reg}
use Rattle.ll_rights.specs.declared.errno.Errno.{Errno}
use Rattle.ll_rights.specs.declared.errno.Errno.TheVariants.{ENOENT, EBADF, EINVAL}
use Rattle.ll_rights.specs.declared.limits.TheConstants.{DATA_BYTES}
use Rattle.ll_rights.specs.Errno.{refuse}
use Rattle.ll_rights.specs.Map.{Map, empty, get, has, insert, remove}
use Rattle.ll_rights.specs.Right.{read_file, write_file, truncate}
use Rattle.ll_rights.proofs.Maps.{get-empty, get-insert_same, got_inserted, got_left}
use Rattle.ll_path.specs.declared.target.Target.{Target}
use Rattle.ll_rules.specs.Layer.{Layer}
use Rattle.ll_decide.specs.declared.denial.Denial.{Denial}
use Rattle.ll_seq.specs.declared.client.ClientRecord.{ClientRecord}
use Rattle.ll_seq.specs.declared.client.Descriptor.{Descriptor}
use Rattle.ll_seq.specs.declared.node.Node.{Node}
use Rattle.ll_seq.specs.declared.call.Mode.{Mode}
use Rattle.ll_seq.specs.declared.call.Call.{Call}
use Rattle.ll_seq.specs.declared.call.Call.TheVariants.{Make, Open, Read, Write, Ftruncate, Close, Truncate, ReadDir}
use Rattle.ll_seq.specs.declared.call.Call.TheVariants.{Stat, Exec, Unlink, Rmdir, Rename, RenameNoreplace, Exchange}
use Rattle.ll_seq.specs.declared.call.Call.TheVariants.{Link, Ruleset, Allow, Confine, Spawn, Connect}
use Rattle.ll_seq.specs.declared.reply.Reply.{Reply}
use Rattle.ll_seq.specs.declared.reply.Reply.TheVariants.{Bytes, Spawned, Refused, Denied}
use Rattle.ll_seq.specs.declared.reply.Entry.{Entry}
use Rattle.ll_seq.specs.Call.{path_of, first_path, second_path}
use Rattle.ll_seq.specs.State.{State, empty_node, new_client, start, bytes_of}
use Rattle.ll_seq.specs.Tree.{named, inode_of}
use Rattle.ll_seq.specs.Asked.{call_denials}
use Rattle.ll_seq.specs.Stages.{lowest_free, ruleset_at, text_refusals, number_refusals, relation_refusals}
use Rattle.ll_seq.specs.Stages.{walk_refusals}
use Rattle.ll_seq.specs.CallParts.{existence_refusals, kind_refusals, limit_refusals, opened}
use Rattle.ll_seq.specs.Effects.{dentry_of, with_opened, emptied, with_node, with_bytes, with_client, inode_at}
use Rattle.ll_seq.specs.Effects.{overwritten, child_of}
use Rattle.ll_seq.specs.Step.{step, refusals, first_or, client_of}
use Rattle.ll_seq.specs.History.{MayStand, IsLegal, state_after, after, is_connect, fresh_of}
use Rattle.ll_seq.specs.Reach.{InReach}
use Rattle.ll_seq.proofs.Histories.{legal_late}
use Rattle.ll_laws.specs.NoGain.{MovesUnder}
use Rattle.ll_laws.specs.Withheld.{ReadsFrom, ChangesBytes, IsConfined, Confined, Withheld, BytesAreWithheld}
use Rattle.ll_laws.proofs.Chains.{same_Some}
use Rattle.ll_laws.proofs.Trees.{IsTree}
use Rattle.ll_laws.proofs.Unrefused.{inode_is, nil_right, not_refused}
use Rattle.ll_laws.proofs.Gain.{Passes, passes, done_of, there_is, one_entry, kept_tree, start_tree, after_tree}
use Rattle.ll_laws.proofs.Gain.{named_below}
use Rattle.ll_laws.proofs.Granted.{open_granted, truncate_granted, reading_asked, writing_asked, truncating_asked}
use Rattle.ll_laws.proofs.Granted.{read_is, write_is, truncate_is, may_read, may_write, may_truncate}
use Rattle.ll_laws.proofs.ClientChanges.{ClientsAfter, same_clients, caller_after, new_after, let_go_clients}
use Rattle.ll_laws.proofs.ClientChanges.{with_bytes_clients, renamed_clients, let_go_node, with_bytes_node}
use Rattle.ll_laws.proofs.ClientChanges.{renamed_node, new_node, described, inode_at_is}

abbrev is_spawn : Call → Bool
is_spawn Spawn = true
is_spawn _ = false

is_none_not : {A : Type 0} (o : Option A) → is_none o ≡ false → is_some o ≡ true
is_none_not None e = cc
is_none_not (Some a) e = refl

module _ (s : State) (number : ℕ) (x : ℕ) (layer : Layer) (t : IsTree s) (small : x < s.next) where
  abbrev me : ClientRecord
  me = client_of s number

  -- what an opening by a client under the layer gives
  open_clients : (mode : Mode) (a : Target) (inode : ℕ) (u : State) → u.clients ≡ s.clients → Passes s me (Open mode a)
      → (inode ≡ x → named s (path_of a) ≡ Some x)
      → ClientsAfter s (with_client u number (with_opened s me mode (path_of a) inode)) x layer
  open_clients mode a inode u same h names =
      caller_after s _ x layer number (with_opened s me mode (path_of a) inode)
      (ap (λ m. insert m number (with_opened s me mode (path_of a) inode)) same) (λ l. l) (λ l fd d g.
      elim (got_inserted nat_cmp_total nat_cmp-IsAntisymmetric me.descriptors (unwrap_or (lowest_free me.descriptors) 0)
      (opened s me mode (path_of a) inode) fd d g) [
        | inl f ↦ inr (
          (λ i e. may_read s t layer (path_of a) x (names (ap (λ (k : Descriptor). k.inode) (sym f.1) ∙ i))
              (open_granted s me mode a read_file h.policy read_is
              (reading_asked s mode a (ap (λ (k : Descriptor). k.reads) (sym f.1) ∙ e)) layer l)),
          (λ i e. may_write s t layer (path_of a) x (names (ap (λ (k : Descriptor). k.inode) (sym f.1) ∙ i))
              (open_granted s me mode a write_file h.policy write_is
              (writing_asked s mode a (ap (λ (k : Descriptor). k.writes) (sym f.1) ∙ e)) layer l)),
        )
        | inr f ↦ inl f
      ])

  -- the caller's rulesets or domain change, and its descriptors don't
  mine : (u : State) (k : ClientRecord) → u.clients ≡ insert s.clients number k → k.descriptors ≡ me.descriptors
      → (Contains me.domain layer → Contains k.domain layer) → ClientsAfter s u x layer
  mine u k e same grows = caller_after s u x layer number k e grows
      (λ l fd d g. inl (ap (λ m. get m fd) (sym same) ∙ g))

  done_clients : (call : Call) (fresh : ℕ) → Passes s me call → (IsTrue (is_spawn call) → has s.clients fresh ≡ false)
      → (IsTrue (is_connect call) → has s.clients number ≡ false)
      → ClientsAfter s (done_of s number me call fresh).1 x layer
  done_clients (Make kind p) fresh h f g = same_clients s _ x layer refl
  done_clients (Open mode a) fresh h f g =
      elim (is_none (named s (path_of a))) as (λ b. is_none (named s (path_of a)) ≡ b
      → ClientsAfter s (cond b (with_client (with_node s Reg (dentry_of s (path_of a))) number
      (with_opened s me mode (path_of a) s.next))
      (with_client (emptied s mode (inode_of s (path_of a))) number
      (with_opened s me mode (path_of a) (inode_of s (path_of a))))) x layer) [
        | true ↦ λ e. open_clients mode a s.next (with_node s Reg (dentry_of s (path_of a))) refl h
            (λ i. absurd (omega arith))
        | false ↦ λ e.
            let w = there_is s (path_of a) e in
            open_clients mode a (inode_of s (path_of a)) (emptied s mode (inode_of s (path_of a))) (cut mode.truncate) h
            (λ i. w.1 ∙ ap Some (sym (inode_is s (path_of a) w.0 w.1) ∙ i))
      ] refl
    where
      cut : (b : Bool) → (cond b (with_bytes s (inode_of s (path_of a)) []) s).clients ≡ s.clients
      cut true = with_bytes_clients s (inode_of s (path_of a)) []
      cut false = refl
  done_clients (Read fd offset count) fresh h f g = same_clients s s x layer refl
  done_clients (Write fd offset bytes) fresh h f g =
      same_clients s _ x layer (elim (length bytes == 0) as
      (λ b. (cond b s (with_bytes s (inode_at me fd)
      (overwritten (bytes_of s (inode_at me fd)) offset bytes))).clients ≡ s.clients)
      [ true ↦ refl | false ↦ with_bytes_clients s _ _ ])
  done_clients (Ftruncate fd size) fresh h f g = same_clients s _ x layer (with_bytes_clients s _ _)
  done_clients (Truncate p size) fresh h f g = same_clients s _ x layer (with_bytes_clients s _ _)
  done_clients (Close fd) fresh h f g =
      caller_after s _ x layer number (record me { descriptors = remove me.descriptors fd }) (let_go_clients _ _)
      (λ l. l) (λ l k d e. inl (got_left nat_cmp_total nat_cmp-IsAntisymmetric me.descriptors fd k d e).0)
  done_clients (ReadDir p) fresh h f g = same_clients s s x layer refl
  done_clients (Stat p) fresh h f g = same_clients s s x layer refl
  done_clients (Exec p) fresh h f g = same_clients s s x layer refl
  done_clients (Unlink p) fresh h f g = same_clients s _ x layer (let_go_clients _ _)
  done_clients (Rmdir p) fresh h f g = same_clients s _ x layer (let_go_clients _ _)
  done_clients (Rename o n) fresh h f g =
      same_clients s _ x layer (renamed_clients s (dentry_of s (path_of o)) (dentry_of s (path_of n))
      (inode_of s (path_of o)) (named s (path_of n)))
  done_clients (RenameNoreplace o n) fresh h f g = same_clients s _ x layer refl
  done_clients (Exchange o n) fresh h f g = same_clients s _ x layer refl
  done_clients (Link o n) fresh h f g = same_clients s _ x layer refl
  done_clients (Ruleset rights) fresh h f g = mine _ _ refl refl (λ l. l)
  done_clients (Allow rs p rights) fresh h f g = mine _ _ refl refl (λ l. l)
  done_clients (Confine rs) fresh h f g =
      mine _ _ refl refl (λ l. Contains-append_left me.domain (ruleset_at me rs ∷ []) layer l)
  done_clients Spawn fresh h f g = new_after s _ x layer fresh (child_of s.rules me) refl (f refl)
  done_clients Connect fresh h f g = new_after s _ x layer number new_client refl (g refl)

  -- the caller has the node open for writing
  abbrev IsWriter : Type 0
  IsWriter = (d : Descriptor) × (fd : ℕ) × (get me.descriptors fd ≡ Some d) × (d.inode ≡ x) × (d.writes ≡ true)

  -- the node has its old bytes, or the caller writes or truncates it
  abbrev BytesAfter : Node → Type 0
  BytesAfter m = (get s.nodes x ≡ Some m) ⊎ (IsWriter ⊎ (Contains me.domain layer → InReach s layer x truncate))

  -- where it is still there
  done_bytes : (call : Call) (fresh : ℕ) (m : Node) → Passes s me call
      → get (done_of s number me call fresh).1.nodes x ≡ Some m → BytesAfter m
  done_bytes (Make kind p) fresh m h g = inl (new_node s x (empty_node kind) m small g)
  done_bytes (Open mode a) fresh m h g =
      elim (is_none (named s (path_of a))) as (λ b. is_none (named s (path_of a)) ≡ b
      → get (cond b (with_client (with_node s Reg (dentry_of s (path_of a))) number
      (with_opened s me mode (path_of a) s.next))
      (with_client (emptied s mode (inode_of s (path_of a))) number
      (with_opened s me mode (path_of a) (inode_of s (path_of a))))).nodes x ≡ Some m → BytesAfter m) [
        | true ↦ λ e k. inl (new_node s x (empty_node Reg) m small k)
        | false ↦ λ e k. cut e mode.truncate refl k
      ] refl g
    where
      cut : is_none (named s (path_of a)) ≡ false → (b : Bool) → mode.truncate ≡ b
          → get (cond b (with_bytes s (inode_of s (path_of a)) []) s).nodes x ≡ Some m → BytesAfter m
      cut e true is k = elim (with_bytes_node s (inode_of s (path_of a)) [] x m k) [
        | inl i ↦
            let w = there_is s (path_of a) e in
            inr (inr (λ l. may_truncate s t layer (path_of a) x (w.1
            ∙ ap Some (sym (inode_is s (path_of a) w.0 w.1) ∙ sym i))
            (open_granted s me mode a truncate h.policy truncate_is (truncating_asked s mode a is (is_none_not _ e))
            layer l)))
        | inr i ↦ inl i
      ]
      cut e false is k = inl k
  done_bytes (Read fd offset count) fresh m h g = inl g
  done_bytes (Write fd offset bytes) fresh m h g =
      elim (length bytes == 0) as (λ b. get
      (cond b s (with_bytes s (inode_at me fd) (overwritten (bytes_of s (inode_at me fd)) offset bytes))).nodes x
      ≡ Some m → BytesAfter m) [
        | true ↦ λ k. inl k
        | false ↦ λ k. elim (with_bytes_node s (inode_at me fd) _ x m k) [
          | inl i ↦ let d = described me fd (λ d. d.writes) EBADF h.numbers in
              inr (inl (d.0, fd, d.1, sym (inode_at_is me fd d.0 d.1) ∙ sym i, d.2))
          | inr i ↦ inl i
        ]
      ] g
  done_bytes (Ftruncate fd size) fresh m h g = elim (with_bytes_node s (inode_at me fd) _ x m g) [
    | inl i ↦ let d = described me fd (λ d. d.writes) EINVAL h.numbers in
        inr (inl (d.0, fd, d.1, sym (inode_at_is me fd d.0 d.1) ∙ sym i, d.2))
    | inr i ↦ inl i
  ]
  done_bytes (Truncate p size) fresh m h g = elim (with_bytes_node s (inode_of s (path_of p)) _ x m g) [
    | inl i ↦
        let w = there_is s (path_of p) (not_refused _ ENOENT h.existence) in
        inr (inr (λ l. may_truncate s t layer (path_of p) x (w.1
        ∙ ap Some (sym (inode_is s (path_of p) w.0 w.1) ∙ sym i)) (truncate_granted s me p size h.policy layer l)))
    | inr i ↦ inl i
  ]
  done_bytes (Close fd) fresh m h g =
      inl (let_go_node (with_client s number (record me { descriptors = remove me.descriptors fd })) (inode_at me fd) x
      m g)
  done_bytes (ReadDir p) fresh m h g = inl g
  done_bytes (Stat p) fresh m h g = inl g
  done_bytes (Exec p) fresh m h g = inl g
  done_bytes (Unlink p) fresh m h g = inl (let_go_node _ _ x m g)
  done_bytes (Rmdir p) fresh m h g = inl (let_go_node _ _ x m g)
  done_bytes (Rename o n) fresh m h g =
      inl (renamed_node s (dentry_of s (path_of o)) (dentry_of s (path_of n)) (inode_of s (path_of o))
      (named s (path_of n)) x m g)
  done_bytes (RenameNoreplace o n) fresh m h g = inl g
  done_bytes (Exchange o n) fresh m h g = inl g
  done_bytes (Link o n) fresh m h g = inl g
  done_bytes (Ruleset rights) fresh m h g = inl g
  done_bytes (Allow rs p rights) fresh m h g = inl g
  done_bytes (Confine rs) fresh m h g = inl g
  done_bytes Spawn fresh m h g = inl g
  done_bytes Connect fresh m h g = inl g

-- ---- whole histories

abbrev is_refusal : Reply → Bool
is_refusal (Refused e) = true
is_refusal (Denied d) = true
is_refusal _ = false

record AreRefusals (rs : List Reply) : Type 0 where
  all : list_all is_refusal rs ≡ true

joined : (xs ys : List Reply) → AreRefusals xs → AreRefusals ys → AreRefusals (xs ++ ys)
joined xs ys e h = record {
  all = list_all-append is_refusal xs ys ∙ ap (λ b. b && list_all is_refusal ys) e.all
      ∙ h.all;
}

each : {A : Type 0} (g : A → Reply) (xs : List A) → ((a : A) → is_refusal (g a) ≡ true)
    → list_all is_refusal (map g xs) ≡ true
each g [] e = refl
each g (x ∷ xs) e = ap (λ b. b && list_all is_refusal (map g xs)) (e x) ∙ each g xs e

refused : (xs : List Errno) → AreRefusals (map Refused xs)
refused xs = record { all = each Refused xs (λ _. refl) }

denied : (xs : List Denial) → AreRefusals (map Denied xs)
denied xs = record { all = each Denied xs (λ _. refl) }

are_refusals : (s : State) (c : ClientRecord) (call : Call) → AreRefusals (refusals s c call)
are_refusals s c call =
    let to_relation = joined _ _ (joined _ _ (refused (text_refusals call)) (refused (number_refusals c call)))
    (refused (relation_refusals call (first_path call) (second_path call))) in
    let to_existence = joined _ _ (joined _ _ to_relation (refused (walk_refusals s call)))
    (refused (existence_refusals s call (first_path call) (second_path call))) in
    let to_policy = joined _ _ to_existence (denied (call_denials s c call)) in
    joined _ _ (joined _ _ to_policy (refused (kind_refusals s c call (first_path call) (second_path call))))
    (refused (limit_refusals s c call (first_path call) (second_path call)))

-- a reply that is no refusal: no stage refused
pub no_refusal : (s : State) (number : ℕ) (call : Call) (fresh : ℕ) (r : Reply) → is_refusal r ≡ false
    → (step s number call fresh).0 ≡ r → refusals s (client_of s number) call ≡ []
no_refusal s number call fresh r isnt e =
    by (refusals s (client_of s number) call) refl (are_refusals s (client_of s number) call).all e
  where
    first_is : (b c : Bool) → (b && c) ≡ true → b ≡ true
    first_is true c g = refl
    first_is false c g = cc

    by : (rs : List Reply) → refusals s (client_of s number) call ≡ rs → list_all is_refusal rs ≡ true
        → (first_or s rs (done_of s number (client_of s number) call fresh)).0 ≡ r
        → refusals s (client_of s number) call ≡ []
    by [] is all g = is
    by (q ∷ rs) is all g = absurd
        (cc (sym (first_is (is_refusal q) (list_all is_refusal rs) all) ∙ ap is_refusal g ∙ isnt))

-- the replies that tell which call it was
spawn_reply : (s : State) (number : ℕ) (c : ClientRecord) (call : Call) (fresh : ℕ) → IsTrue (is_spawn call)
    → (done_of s number c call fresh).0 ≡ Spawned fresh
spawn_reply s number c Spawn fresh e = refl
spawn_reply s number c _ fresh e = absurd (cc e)

spawned_by : (s : State) (number : ℕ) (c : ClientRecord) (call : Call) (fresh child : ℕ)
    → (done_of s number c call fresh).0 ≡ Spawned child
    → (done_of s number c call fresh).1.clients ≡ insert s.clients child (child_of s.rules c)
spawned_by s number c Spawn fresh child e = ap (λ n. insert s.clients n (child_of s.rules c)) (ap fresh_of e)
spawned_by s number c _ fresh child e = absurd (cc e)

-- what holds of the clients of whom P holds
record Holds (from : State) (layer : Layer) (x : ℕ) (P : ℕ → Type 0) (s : State) : Type 0 where
  there : (c : ℕ) → P c → has s.clients c ≡ true
  under : (c : ℕ) → P c → Contains (client_of s c).domain layer
  files : (c : ℕ) → P c → (fd : ℕ) (d : Descriptor) → get (client_of s c).descriptors fd ≡ Some d
      → (d.inode ≡ x → d.reads ≡ true → InReach from layer x read_file)
      × (d.inode ≡ x → d.writes ≡ true → InReach from layer x write_file)

module _ (from : State) (layer : Layer) (x : ℕ) (s : State) (e : Entry) (t : IsTree s) (m : MayStand s e)
    (small : x < s.next) where
  abbrev caller : ClientRecord
  caller = client_of s e.client

  abbrev fresh : ℕ
  fresh = fresh_of e.reply

  outcome_done : refusals s caller e.call ≡ [] → step s e.client e.call fresh ≡ done_of s e.client caller e.call fresh
  outcome_done n = ap (λ rs. first_or s rs (done_of s e.client caller e.call fresh)) n

  fresh_client : refusals s caller e.call ≡ [] → IsTrue (is_spawn e.call) → has s.clients fresh ≡ false
  fresh_client n is =
      let reply : e.reply ≡ Spawned fresh =
      sym m.answered ∙ ap (λ (o : Reply × State). o.0) (outcome_done n)
      ∙ spawn_reply s e.client caller e.call fresh is in
      m.spawned fresh reply

  new_caller : IsTrue (is_connect e.call) → has s.clients e.client ≡ false
  new_caller is = m.caller ∙ ap not is

  pub entry_clients : ClientsAfter s (after s e) x layer
  entry_clients = by (refusals s caller e.call) refl
    where
      by : (rs : List Reply) → refusals s caller e.call ≡ rs
          → ClientsAfter s (first_or s rs (done_of s e.client caller e.call fresh)).1 x layer
      by [] n = done_clients s e.client x layer t small e.call fresh (passes s caller e.call n) (fresh_client n)
          new_caller
      by (r ∷ rs) n = same_clients s s x layer refl

  -- the client that a spawn brings
  child : (c : ℕ) → e.reply ≡ Spawned c → (after s e).clients ≡ insert s.clients c (child_of s.rules caller)
  child c is =
      let n = no_refusal s e.client e.call fresh (Spawned c) refl (m.answered ∙ is) in
      ap (λ (o : Reply × State). o.1.clients) (outcome_done n)
      ∙ spawned_by s e.client caller e.call fresh c (ap (λ (o : Reply × State). o.0) (sym (outcome_done n)) ∙ m.answered
      ∙ is)

  child_is : (c : ℕ) → e.reply ≡ Spawned c → get (after s e).clients c ≡ Some (child_of s.rules caller)
  child_is c is = ap (λ (k : Map nat_cmp ClientRecord). get k c) (child c is)
      ∙ get-insert_same nat_cmp_total nat_cmp-IsAntisymmetric s.clients c (child_of s.rules caller)

  module _ (P : ℕ → Type 0) (h : Holds from layer x P s) (back : (right : ℕ) → InReach s layer x right
      → InReach from layer x right) where
    holds_after : Holds from layer x (Confined P e) (after s e)
    holds_after = record {
      there = λ c b. elim b [ inl p ↦ entry_clients.there c (h.there c p) | inr p ↦ ap is_some (child_is c p.1) ];
      under = λ c b. elim b [
        | inl p ↦ entry_clients.under c (h.there c p) (h.under c p)
        | inr p ↦ subst (λ (k : ClientRecord). Contains k.domain layer)
            (sym (ap (λ o. unwrap_or o new_client) (child_is c p.1))) (h.under e.client p.0)
      ];
      files = λ c b fd d g. elim b [
        | inl p ↦ elim (entry_clients.files c (h.there c p) (h.under c p) fd d g) [
          | inl k ↦ h.files c p fd d k
          | inr k ↦ (λ i r. back read_file (k.0 i r), λ i w. back write_file (k.1 i w))
        ]
        | inr p ↦ copied s.rules.copies p.0 fd d
            (ap (λ o. get (unwrap_or o new_client).descriptors fd) (sym (child_is c p.1)) ∙ g)
      ];
    }
      where
        -- a spawned client has its parent's descriptors, or none
        copied : (copies : Bool) → P e.client → (fd : ℕ) (d : Descriptor)
            → get (cond copies caller.descriptors empty) fd ≡ Some d
            → (d.inode ≡ x → d.reads ≡ true → InReach from layer x read_file)
            × (d.inode ≡ x → d.writes ≡ true → InReach from layer x write_file)
        copied true p fd d g = h.files e.client p fd d g
        copied false p fd d g = absurd (cc (sym (get-empty Descriptor nat_cmp fd) ∙ g))

    reading : P e.client → ReadsFrom s e x → InReach from layer x read_file
    reading p r =
        let n = no_refusal s e.client e.call fresh (Bytes r.bytes) refl (m.answered ∙ r.answered) in
        let numbers : number_refusals caller (Read r.fd r.offset r.count) ≡ [] =
        ap (number_refusals caller) (sym r.call) ∙ (passes s caller e.call n).numbers in
        let d = described caller r.fd (λ d. d.reads) EBADF
        (nil_right (refuse (nat_lt DATA_BYTES r.count) EINVAL) _ numbers) in
        (h.files e.client p r.fd d.0 d.1).0 (sym (inode_at_is caller r.fd d.0 d.1) ∙ r.from) d.2

    changing : P e.client → ChangesBytes s (after s e) x → InReach from layer x write_file
        ⊎ InReach from layer x truncate
    changing p b = by (refusals s caller e.call) refl b.after
      where
        same : get s.nodes x ≡ Some b.new → ⊥
        same g = b.differ (ap (λ (k : Node). k.bytes) (same_Some b.old b.new (sym b.before ∙ g)))

        by : (rs : List Reply) → refusals s caller e.call ≡ rs
            → get (first_or s rs (done_of s e.client caller e.call fresh)).1.nodes x ≡ Some b.new
            → InReach from layer x write_file ⊎ InReach from layer x truncate
        by [] n g = elim (done_bytes s e.client x layer t small e.call fresh b.new (passes s caller e.call n) g) [
          | inl k ↦ absurd (same k)
          | inr (inl k) ↦ inl ((h.files e.client p k.1 k.0 k.2).1 k.3 k.4)
          | inr (inr k) ↦ inr (back truncate (k (h.under e.client p)))
        ]
        by (r ∷ rs) n g = absurd (same g)

withheld : (from : State) (layer : Layer) (x : ℕ) → (s : State) (es : List Entry) (P : ℕ → Type 0) → IsTree s
    → IsLegal s es → MovesUnder layer s es → x < s.next → Holds from layer x P s
    → ((right : ℕ) → InReach s layer x right → InReach from layer x right) → Withheld layer x from P s es
withheld from layer x s [] P t l u small h back = tt
withheld from layer x s (e ∷ es) P t l u small h back = (
  reading from layer x s e t l.0 small P h back,
  changing from layer x s e t l.0 small P h back,
  withheld from layer x (after s e) es (Confined P e) (kept_tree s e t) l.1 u.1
      (one_entry s e layer x read_file t l.0 u.0 small).0
      (holds_after from layer x s e t l.0 small P h back)
      (λ right r. back right ((one_entry s e layer x right t l.0 u.0 small).1 r)),
)

pub bytes_are_withheld : BytesAreWithheld
bytes_are_withheld rules room early late legal layer under inode has none =
    let s = state_after (start rules room) early in
    let t = after_tree (start rules room) early (start_tree rules room) in
    withheld s layer inode s late (IsConfined layer s) t (legal_late (start rules room) early late legal) under
    (named_below s t has.0 inode has.1)
    (record {
      there = λ c p. p.there;
      under = λ c p. p.under;
      files = λ c p fd d g. (λ i r. absurd (none c p fd d g i), λ i w. absurd (none c p fd d g i));
    })
    (λ right r. r)
