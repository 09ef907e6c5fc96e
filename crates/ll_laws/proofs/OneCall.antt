-- One call, whose spawned client would have the next number: it may stand in the history, and other clients stay as
-- they are.
use Rattle.std.specs.Prelude.{◌≡◌, ◌≢◌, ◌⊎◌, ℕ, ◌+◌, ◌≤◌, Bool, true, false, cond, ◌==◌, T, List, [], ◌∷◌, length, Some}
use Rattle.std.specs.Prelude.{is_some, is_none, refl}
use Rattle.std.specs.Ordering.{nat_cmp}
use Rattle.std.specs.Cmp.{nat_cmp_total}
use Rattle.std.specs.FinMap.{nat_cmp-IsAntisymmetric}
use Rattle.std.specs.FinMap.Entries.{put, is_sorted, is_sorted-put, length-put}
use Rattle.std.proofs.Common.{sym, subst, ap, ◌∙◌, inl, inr, arith}
use Rattle.ll_rights.specs.declared.kind.Kind.TheVariants.{Reg}
use Rattle.ll_rights.specs.Map.{Map, checked, get, has, insert, entries, len}
use Rattle.ll_rights.proofs.Maps.{insert_cases}
use Rattle.ll_rights.proofs.Sizes.{len-insert}
use Rattle.ll_seq.specs.declared.call.Call.{Call}
use Rattle.ll_seq.specs.declared.call.Call.TheVariants.{Make, Open, Read, Write, Ftruncate, Close, Truncate, ReadDir}
use Rattle.ll_seq.specs.declared.call.Call.TheVariants.{Stat, Exec, Unlink, Rmdir, Rename, RenameNoreplace, Exchange}
use Rattle.ll_seq.specs.declared.call.Call.TheVariants.{Link, Ruleset, Allow, Confine, Spawn, Connect}
use Rattle.ll_seq.specs.declared.client.ClientRecord.{ClientRecord}
use Rattle.ll_seq.specs.declared.reply.Reply.{Reply}
use Rattle.ll_seq.specs.declared.reply.Reply.TheVariants.{Done}
use Rattle.ll_seq.specs.Call.{path_of}
use Rattle.ll_seq.specs.State.{State, bytes_of}
use Rattle.ll_seq.specs.Tree.{named, inode_of}
use Rattle.ll_seq.specs.Effects.{with_bytes, with_client, with_node, with_opened, emptied, dentry_of, overwritten}
use Rattle.ll_seq.specs.Effects.{inode_at}
use Rattle.ll_seq.specs.Step.{step, refusals, first_or, client_of}
use Rattle.ll_seq.specs.History.{MayStand, is_connect, fresh_of}
use Rattle.ll_seq.proofs.Consequences.{step-spawned}
use Rattle.ll_laws.proofs.ClientChanges.{let_go_clients, with_bytes_clients, renamed_clients}
use Rattle.ll_laws.proofs.Gain.{done_of}
use Rattle.ll_laws.specs.Sound.{AreNumbered}

-- ---- the number that the entry shows is the number that was given

done_again : (s : State) (number : ℕ) (c : ClientRecord) (call : Call) (fresh : ℕ)
    → done_of s number c call (fresh_of (done_of s number c call fresh).0) ≡ done_of s number c call fresh
done_again s number c (Make k t) fresh = refl
done_again s number c (Open mode t) fresh = refl
done_again s number c (Read fd offset count) fresh = refl
done_again s number c (Write fd offset bytes) fresh = refl
done_again s number c (Ftruncate fd size) fresh = refl
done_again s number c (Close fd) fresh = refl
done_again s number c (Truncate t size) fresh = refl
done_again s number c (ReadDir t) fresh = refl
done_again s number c (Stat t) fresh = refl
done_again s number c (Exec t) fresh = refl
done_again s number c (Unlink t) fresh = refl
done_again s number c (Rmdir t) fresh = refl
done_again s number c (Rename o n) fresh = refl
done_again s number c (RenameNoreplace o n) fresh = refl
done_again s number c (Exchange o n) fresh = refl
done_again s number c (Link o n) fresh = refl
done_again s number c (Ruleset rights) fresh = refl
done_again s number c (Allow rs t rights) fresh = refl
done_again s number c (Confine rs) fresh = refl
done_again s number c Spawn fresh = refl
done_again s number c Connect fresh = refl

pub step_again : (s : State) (number : ℕ) (call : Call) (fresh : ℕ)
    → step s number call (fresh_of (step s number call fresh).0) ≡ step s number call fresh
step_again s number call fresh = by (refusals s (client_of s number) call)
  where
    by : (rs : List Reply) → first_or s rs
        (done_of s number (client_of s number) call
        (fresh_of (first_or s rs (done_of s number (client_of s number) call fresh)).0))
        ≡ first_or s rs (done_of s number (client_of s number) call fresh)
    by [] = done_again s number (client_of s number) call fresh
    by (r ∷ rs) = refl

pub stands : (s : State) (number : ℕ) (call : Call) (fresh : ℕ) (reply : Reply) → reply ≡ (step s number call fresh).0
    → has s.clients fresh ≡ false → (has s.clients number ≡ true) × (is_connect call ≡ false)
    ⊎ (has s.clients number ≡ false) × (is_connect call ≡ true) × (reply ≡ Done)
    → MayStand s (record { client = number; call = call; reply = reply })
stands s number call fresh reply answer unused caller = record {
  caller = elim caller [ inl a ↦ cc (a.0, a.1) | inr a ↦ cc (a.0, a.1) ];
  connected = λ c. elim caller [ inl a ↦ absurd (cc (sym a.1 ∙ c)) | inr a ↦ a.2 ];
  spawned = λ told e. ap (has s.clients) (step-spawned s number call fresh told (sym answer ∙ e)).0 ∙ unused;
  answered = ap (λ r. (step s number call (fresh_of r)).0) answer
      ∙ ap (λ (p : Reply × State). p.0) (step_again s number call fresh) ∙ sym answer;
}

-- ---- the clients

-- at most one client changes, or is new
abbrev pub OneClient : State → State → ℕ → ℕ → Type 0
OneClient s t number fresh = (t.clients ≡ s.clients)
    ⊎ ((m : ℕ) × ((m ≡ number) ⊎ (m ≡ fresh)) × (k : ClientRecord) × (t.clients ≡ insert s.clients m k))

done_clients : (s : State) (number : ℕ) (c : ClientRecord) (call : Call) (fresh : ℕ)
    → OneClient s (done_of s number c call fresh).1 number fresh
done_clients s number c (Make kind t) fresh = inl refl
done_clients s number c (Open mode t) fresh =
    elim (is_none (named s (path_of t))) as
    (λ b. OneClient s (cond b (with_client (with_node s Reg (dentry_of s (path_of t))) number
    (with_opened s c mode (path_of t) s.next))
    (with_client (emptied s mode (inode_of s (path_of t))) number
    (with_opened s c mode (path_of t) (inode_of s (path_of t))))) number fresh) [
      | true ↦ inr (number, inl refl, with_opened s c mode (path_of t) s.next, refl)
      | false ↦ inr (
        number,
        inl refl,
        with_opened s c mode (path_of t) (inode_of s (path_of t)),
        ap (λ m. insert m number (with_opened s c mode (path_of t) (inode_of s (path_of t))))
            (elim mode.truncate as (λ b. (cond b (with_bytes s (inode_of s (path_of t)) []) s).clients ≡ s.clients)
            [ true ↦ with_bytes_clients s _ _ | false ↦ refl ]),
      )
    ]
done_clients s number c (Read fd offset count) fresh = inl refl
done_clients s number c (Write fd offset bytes) fresh =
    elim (length bytes == 0) as (λ b. OneClient s
    (cond b s (with_bytes s (inode_at c fd) (overwritten (bytes_of s (inode_at c fd)) offset bytes))) number fresh)
    [ true ↦ inl refl | false ↦ inl (with_bytes_clients s _ _) ]
done_clients s number c (Ftruncate fd size) fresh = inl (with_bytes_clients s _ _)
done_clients s number c (Close fd) fresh = inr (number, inl refl, _, let_go_clients _ _)
done_clients s number c (Truncate t size) fresh = inl (with_bytes_clients s _ _)
done_clients s number c (ReadDir t) fresh = inl refl
done_clients s number c (Stat t) fresh = inl refl
done_clients s number c (Exec t) fresh = inl refl
done_clients s number c (Unlink t) fresh = inl (let_go_clients _ _)
done_clients s number c (Rmdir t) fresh = inl (let_go_clients _ _)
done_clients s number c (Rename o n) fresh = inl (renamed_clients s _ _ _ (named s (path_of n)))
done_clients s number c (RenameNoreplace o n) fresh = inl refl
done_clients s number c (Exchange o n) fresh = inl refl
done_clients s number c (Link o n) fresh = inl refl
done_clients s number c (Ruleset rights) fresh = inr (number, inl refl, _, refl)
done_clients s number c (Allow rs t rights) fresh = inr (number, inl refl, _, refl)
done_clients s number c (Confine rs) fresh = inr (number, inl refl, _, refl)
done_clients s number c Spawn fresh = inr (fresh, inr refl, _, refl)
done_clients s number c Connect fresh = inr (number, inl refl, _, refl)

pub step_clients : (s : State) (number : ℕ) (call : Call) (fresh : ℕ)
    → OneClient s (step s number call fresh).1 number fresh
step_clients s number call fresh = by (refusals s (client_of s number) call)
  where
    by : (rs : List Reply) → OneClient s (first_or s rs (done_of s number (client_of s number) call fresh)).1 number
        fresh
    by [] = done_clients s number (client_of s number) call fresh
    by (r ∷ rs) = inl refl

pub other_client : (s t : State) (number fresh : ℕ) → OneClient s t number fresh → (c : ℕ) → c ≢ number → c ≢ fresh
    → get t.clients c ≡ get s.clients c
other_client s t number fresh one c n f =
    elim one [
      | inl e ↦ ap (λ m. get m c) e
      | inr a ↦ elim (insert_cases nat_cmp_total nat_cmp-IsAntisymmetric s.clients a.0 a.2 c) [
        | inl b ↦ elim a.1 [ inl e ↦ absurd (n (b.0 ∙ e)) | inr e ↦ absurd (f (b.0 ∙ e)) ]
        | inr b ↦ ap (λ m. get m c) a.3 ∙ b.1
      ]
    ]

-- ---- clients are numbered from 1 in the order in which they come

pub unused : (s : State) → AreNumbered s → has s.clients (len s.clients + 1) ≡ false
unused s h = by (has s.clients (len s.clients + 1)) refl
  where
    by : (b : Bool) → has s.clients (len s.clients + 1) ≡ b → b ≡ false
    by false e = refl
    by true e = let w = h (len s.clients + 1) e in absurd (omega arith)

pub numbered : (s t : State) (number : ℕ) → AreNumbered s → (has s.clients number ≡ true) ⊎ (number ≡ len s.clients + 1)
    → OneClient s t number (len s.clients + 1) → AreNumbered t
numbered s t number h known (inl e) c g = let w = h c (ap (λ m. has m c) (sym e) ∙ g) in
    subst (λ m. c ≤ len m) (sym e) w
numbered s t number h known (inr a) c g =
    subst (λ m. c ≤ len m) (sym a.3)
    (by (has s.clients a.0) refl (insert_cases nat_cmp_total nat_cmp-IsAntisymmetric s.clients a.0 a.2 c))
  where
    size : len (insert s.clients a.0 a.2) ≡ cond (has s.clients a.0) (len s.clients) (len s.clients + 1)
    size = len-insert s.clients a.0 a.2

    at : has s.clients a.0 ≡ false → a.0 ≡ len s.clients + 1
    at e = elim a.1 [
      | inl f ↦ elim known [ inl k ↦ absurd (cc (sym e ∙ ap (has s.clients) f ∙ k)) | inr k ↦ f ∙ k ]
      | inr f ↦ f
    ]

    there : get (insert s.clients a.0 a.2) c ≡ get s.clients c → has s.clients c ≡ true
    there e = ap is_some (sym e ∙ ap (λ m. get m c) (sym a.3)) ∙ g

    by : (b : Bool) → has s.clients a.0 ≡ b → ((c ≡ a.0) × (get (insert s.clients a.0 a.2) c ≡ Some a.2))
        ⊎ ((c ≢ a.0) × (get (insert s.clients a.0 a.2) c ≡ get s.clients c)) → c ≤ len (insert s.clients a.0 a.2)
    by true e (inl b) =
        let z : len (insert s.clients a.0 a.2) ≡ len s.clients =
        size ∙ ap (λ b. cond b (len s.clients) (len s.clients + 1)) e in
        let v = h a.0 e in let u : c ≡ a.0 = b.0 in omega arith
    by true e (inr b) =
        let z : len (insert s.clients a.0 a.2) ≡ len s.clients =
        size ∙ ap (λ b. cond b (len s.clients) (len s.clients + 1)) e in
        let v = h c (there b.1) in omega arith
    by false e (inl b) =
        let z : len (insert s.clients a.0 a.2) ≡ len s.clients + 1 =
        size ∙ ap (λ b. cond b (len s.clients) (len s.clients + 1)) e in
        let v = at e in let u : c ≡ a.0 = b.0 in omega arith
    by false e (inr b) =
        let z : len (insert s.clients a.0 a.2) ≡ len s.clients + 1 =
        size ∙ ap (λ b. cond b (len s.clients) (len s.clients + 1)) e in
        let v = h c (there b.1) in omega arith
