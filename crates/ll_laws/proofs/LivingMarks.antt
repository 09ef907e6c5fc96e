-- Where a walk stands there is a directory, and it has a place: what a call of another takes away is one of its last
-- nodes.
use Rattle.std.specs.Prelude.{◌≡◌, ℕ, ◌+◌, true, false, cond, ◌==◌, List, [], ◌∷◌, ◌++◌, Option, Some, None}
use Rattle.std.specs.Prelude.{option_and_then, refl}
use Rattle.std.specs.Ordering.{nat_cmp}
use Rattle.std.specs.Cmp.{nat_cmp_total}
use Rattle.std.specs.FinMap.{nat_cmp-IsAntisymmetric}
use Rattle.std.proofs.Common.{sym, subst, ap, ◌∙◌, inl, inr}
use Rattle.std.proofs.lemmas.Bool.{eqb-true}
use Rattle.ll_rights.specs.declared.kind.Kind.TheVariants.{Dir}
use Rattle.ll_rights.specs.Map.{Map, get, insert, remove}
use Rattle.ll_rights.proofs.Maps.{got_inserted}
use Rattle.ll_rules.specs.Layer.{Layer}
use Rattle.ll_seq.specs.declared.call.Call.{Call}
use Rattle.ll_seq.specs.declared.call.Call.TheVariants.{Connect}
use Rattle.ll_seq.specs.declared.client.ClientRecord.{ClientRecord}
use Rattle.ll_seq.specs.declared.reply.Entry.{Entry}
use Rattle.ll_seq.specs.declared.reply.Reply.{Reply}
use Rattle.ll_seq.specs.declared.reply.Reply.TheVariants.{Done}
use Rattle.ll_seq.specs.State.{State, root, start, kind_of, child}
use Rattle.ll_seq.specs.Step.{step, refusals, first_or, client_of}
use Rattle.ll_seq.specs.History.{fresh_of}
use Rattle.ll_seq.proofs.Histories.{after_push}
use Rattle.ll_seq.proofs.Parted.{or_split}
use Rattle.ll_laws.proofs.Gain.{done_of, passes, kept_tree}
use Rattle.ll_laws.proofs.Trees.{IsTree}
use Rattle.ll_laws.specs.Walk.{Walk, Leg, Position, Above, Down, is_in, trunk_path, first_leg, further, turn}
use Rattle.ll_laws.specs.Walk.{with_turn, marks}
use Rattle.ll_laws.specs.World.{World, shown, domain_of, takes_gate, last_nodes, map_values, overtaken, released}
use Rattle.ll_laws.specs.World.{next_number, moved_by, reply_to}
use Rattle.ll_laws.specs.Sound.{HasPlace}
use Rattle.ll_laws.proofs.Undisturbed.{done_kinds, done_kept, stays}
use Rattle.ll_laws.proofs.CarriedMasks.{one_further}
use Rattle.ll_laws.proofs.Legs.{placed_kept}
use Rattle.ll_laws.proofs.Worlds.{Holds, holds_on, tree_of, unwalked_away, marked_away}
use Rattle.ll_laws.proofs.WalkMaps.{was_other}
use Rattle.ll_laws.proofs.Marks.{turn_marks, fork_marks}
use Rattle.ll_laws.proofs.Turns.{Keeps}

-- ---- one call

-- a directory that has a place
pub record IsPlaced (s : State) (x : ℕ) : Type 0 where
  pub directory : kind_of s x ≡ Some Dir
  pub place : HasPlace s x

-- the call is refused, or the directory is no last node of it
abbrev IsLeft : State → ℕ → Call → ℕ → Type 0
IsLeft s number call x = refusals s (client_of s number) call ≡ [] → is_in (last_nodes s call) x ≡ false

placed_after : (s : State) (number : ℕ) (call : Call) (fresh : ℕ) → IsTree s → IsTree (step s number call fresh).1
    → (x : ℕ) → IsPlaced s x → IsLeft s number call x → IsPlaced (step s number call fresh).1 x
placed_after s number call fresh tree grown x h left = by (refusals s c call) refl
  where
    c : ClientRecord
    c = client_of s number

    with_refusals : List Reply → State
    with_refusals rs = (first_or s rs (done_of s number c call fresh)).1

    next : State
    next = (step s number call fresh).1

    by : (rs : List Reply) → refusals s c call ≡ rs → IsPlaced next x
    by (reply ∷ rs) e = subst (λ u. IsPlaced u x) (sym (ap with_refusals e)) h
    by [] e =
        let same : next ≡ (done_of s number c call fresh).1 = ap with_refusals e in
        let passed = passes s c call e in
        let place : HasPlace next x = elim h.place [
          | inl top ↦ inl top
          | inr at ↦ inr (
            at.0,
            at.1,
            ap (λ u. child u at.0 at.1) same
                ∙ done_kept s number c fresh tree at.0 at.1 x at.2 call passed
                (stays s tree c x call passed h.directory (left e)),
          )
        ] in
        record {
          directory = placed_kept s next grown x
              (λ k f. done_kinds s number c call fresh x k (tree.nodes x Dir h.directory)
              (ap (λ u. kind_of u x) (sym same) ∙ f)) place h.directory;
          place = place;
        }

-- ---- worlds

abbrev pub Living : World → Type 0
Living w = (number : ℕ) (walk : Walk) → get w.walks number ≡ Some walk → (i : ℕ) → marks walk i ≡ true
    → IsPlaced (shown w) i

-- of a world of which the rest holds
abbrev pub HoldsLiving : World → Type 0
HoldsLiving w = Holds w × Living w

put_living : (w : World) (number : ℕ) (walk : Walk) (gate : Option ℕ) → Living w
    → ((i : ℕ) → marks walk i ≡ true → IsPlaced (shown w) i)
    → Living (record w { walks = insert w.walks number walk; gate = gate })
put_living w number walk gate h new c v e i m =
    elim (got_inserted nat_cmp_total nat_cmp-IsAntisymmetric w.walks number walk c v e) [
      | inl a ↦ new i (ap (λ x. marks x i) (sym a.1) ∙ m)
      | inr a ↦ h c v a i m
    ]

-- the walks that are left mark what they marked
left_living : (w : World) (number : ℕ) (moved : List ℕ) (gate : Option ℕ) → Living w
    → Living (record w { walks = map_values (overtaken moved) (remove w.walks number); gate = gate })
left_living w number moved gate h c v e i m =
    let o = was_other w number moved c v e in
    h c o.1 o.2 i (ap (λ x. marks x i) o.3 ∙ m)

entry_living : (w : World) (entry : Entry) (walks : Map nat_cmp Walk) (gate : Option ℕ)
    → ((c : ℕ) (v : Walk) → get walks c ≡ Some v → (i : ℕ) → marks v i ≡ true → IsPlaced (shown w) i
    × IsLeft (shown w) entry.client entry.call i)
    → Living (record w { history = w.history ++ entry ∷ []; walks = walks; gate = gate })
entry_living w entry walks gate h c v e i m =
    let before = h c v e i m in
    subst (λ s. IsPlaced s i) (sym (after_push (start w.rules w.room) w.history entry))
    (placed_after (shown w) entry.client entry.call (fresh_of entry.reply) (tree_of w)
    (kept_tree (shown w) entry (tree_of w)) i before.0 before.1)

root_placed : (w : World) → IsPlaced (shown w) root
root_placed w = record { directory = (tree_of w).root_node; place = inl refl }

-- so is where the leg in turn goes on
turn_placed : (s : State) (domain : List Layer) (at : Position) (leg : Leg)
    → option_and_then (further s domain) (turn at) ≡ Some leg → IsPlaced s leg.here
turn_placed s domain at leg e = by (turn at) e
  where
    by : (o : Option Leg) → option_and_then (further s domain) o ≡ Some leg → IsPlaced s leg.here
    by None f = absurd (cc f)
    by (Some last) f =
        let w = one_further s domain last leg f in
        subst (IsPlaced s) (sym (ap (λ (l : Leg). l.here) w.next_is))
        (record { directory = w.directory; place = inr (last.here, w.name, w.child_is) })

pub living : Keeps HoldsLiving
living = record {
  begins = λ w number call h idle walked g. (
    holds_on.begins w number call h.0 idle walked g,
    put_living w number (record { call = call; starts = 1; stale = false; at = Above })
        (cond (takes_gate call) (Some number) w.gate) h.1 (λ i m. absurd (cc m)),
  );
  enters = λ w number walk h is fresh high free g. (
    holds_on.enters w number walk h.0 is fresh high free g,
    put_living w number (record walk { at = Down (first_leg (domain_of w number) (trunk_path walk.call)) })
        (cond (walk.starts == 4) (Some number) w.gate) h.1
        (λ i m. elim (or_split (root == i) false m)
        [ inl a ↦ subst (IsPlaced (shown w)) (eqb-true root i a) (root_placed w) | inr a ↦ absurd (cc a) ]),
  );
  stands = λ w number walk leg h is fresh low e free. (
    holds_on.stands w number walk leg h.0 is fresh low e free,
    put_living w number (record walk { at = with_turn walk.at leg }) w.gate h.1
        (λ i m. elim (turn_marks walk.at leg i m) [
          | inl a ↦ subst (IsPlaced (shown w)) a (turn_placed (shown w) (domain_of w number) walk.at leg e)
          | inr a ↦ h.1 number walk is i a
        ]),
  );
  forks = λ w number walk at h is fresh e. (
    holds_on.forks w number walk at h.0 is fresh e,
    put_living w number (record walk { at = at }) w.gate h.1
        (λ i m. h.1 number walk is i (fork_marks walk.call walk.at at i e m)),
  );
  restarts = λ w number walk h is stale. (
    holds_on.restarts w number walk h.0 is stale,
    put_living w number (record walk { starts = walk.starts + 1; stale = false; at = Above }) w.gate h.1
        (λ i m. absurd (cc m)),
  );
  gives_up = λ w number walk h is.
      (holds_on.gives_up w number walk h.0 is, left_living w number [] (released w.gate number) h.1);
  commits = λ w number walk h is may not_full.
      let reply = reply_to w number walk.call in
      let moved = moved_by (shown w) walk.call reply in (
        holds_on.commits w number walk h.0 is may not_full,
        entry_living w (record { client = number; call = walk.call; reply = reply })
            (map_values (overtaken moved) (remove w.walks number)) (released w.gate number) (λ c v e i m.
            let o = was_other w number moved c v e in
            let marked = ap (λ x. marks x i) o.3 ∙ m in
            (h.1 c o.1 o.2 i marked, marked_away w number walk h.0 is may c o.1 o.0 o.2 i marked)),
      );
  calls = λ w number call h idle plain unwalked not_full. (
    holds_on.calls w number call h.0 idle plain unwalked not_full,
    entry_living w (record { client = number; call = call; reply = reply_to w number call }) w.walks w.gate
        (λ c v e i m.
        (h.1 c v e i m, unwalked_away (shown w) number call i unwalked)),
  );
  joins = λ w h not_full answer. (
    holds_on.joins w h.0 not_full answer,
    entry_living w (record { client = next_number w; call = Connect; reply = Done }) w.walks w.gate
        (λ c v e i m. (h.1 c v e i m, λ none. refl)),
  );
}
