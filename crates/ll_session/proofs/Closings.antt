-- What a closed tree tells of clients that came on to its own.
use Rattle.std.specs.Prelude.{◌≡◌, ℕ, ◌+◌, ◌-◌, ◌≤◌, true, List, ◌++◌, length, take, drop, Some}
use Rattle.std.specs.Prelude.{slice_get}
use Rattle.std.specs.List.{AllByRecursion}
use Rattle.std.proofs.Common.{sym, subst, ◌∙◌, inl, inr, arith}
use Rattle.std.proofs.lemmas.List.{take-append-drop}
use Rattle.ll_rights.specs.Map.{has, len}
use Rattle.ll_seq.specs.declared.reply.Entry.{Entry}
use Rattle.ll_seq.specs.declared.rules.Rules.{Rules}
use Rattle.ll_seq.specs.State.{start}
use Rattle.ll_session.specs.Between.{tree_at}
use Rattle.ll_client.specs.Closed.{IsClosed, HoldsPart}
use Rattle.ll_client.specs.Entries.{IsStarved, Knows, part_from}
use Rattle.ll_session.specs.Growth.{Grows}
use Rattle.ll_session.specs.Talk.{seen_by}
use Rattle.ll_session.proofs.Entered.{IsAmong, IsEntered, entered_before, entered_of, part_has}
use Rattle.ll_session.proofs.KeptParts.{IsEntry, all_at, all_first, all_map, part_entries, still_there}
use Rattle.ll_session.proofs.Points.{client_there, has_entry}
use Rattle.ll_session.proofs.Seen.{seen_all}

module _ (rules : Rules) (room limit : ℕ) (history : List Entry) (end : List Knows)
    (c : IsClosed rules room limit history end) where
  -- each entry stands in a client's part
  pub all_entered : (i : ℕ) → 1 ≤ i → i ≤ length history → IsEntered end i
  all_entered i first last =
      let there = has_entry history (i - 1) (omega arith) in
      let e : Entry = there.0 in
      let same : 0 + (i - 1) + 1 ≡ i = omega arith in
      entered_of history end e.client i
      (all_map (HoldsPart rules room limit history) (λ (k : Knows). k.part ≡ part_from 0 k.number history) end
      (λ k h. h.0) c.clients.parts)
      (c.clients.all e.client (client_there (start rules room) history (i - 1) e c.legal there.1))
      (subst (IsAmong (part_from 0 e.client history)) same (part_has 0 history (i - 1) e there.1))

  seen_in : seen_by end ≤ length history
  seen_in = seen_all end (length history)
      (all_map (HoldsPart rules room limit history) (λ (k : Knows). k.seen ≤ length history) end (λ k h. h.2)
      c.clients.parts)

  -- the clients at each point have numbers from 1 to how many there are
  pub numbers_at : (n q : ℕ) → has (tree_at rules room history n).clients q ≡ true
      → (1 ≤ q) × (q ≤ len (tree_at rules room history n).clients)
  numbers_at n q there = c.numbered (take n history) (drop n history) (sym (take-append-drop n history)) q there

  module _ (ks : List Knows) (g : Grows ks end) where
    pub low : seen_by ks ≤ length history
    low = let more = g.1 in let within = seen_in in omega (arith, more, within)

    -- what is no later than what one of them knows of was theirs before
    pub covered : (i : ℕ) → 1 ≤ i → i ≤ seen_by ks → IsEntered ks i
    covered i first last =
        let within = low in
        elim (entered_before (seen_by ks) ks end i g.0 (all_entered i first (omega (arith, within, last)))) [
          | inl a ↦ a
          | inr above ↦ absurd (omega arith)
        ]

    module _ (place : ℕ) (k : Knows) (at : slice_get ks place ≡ Some k) where
      abbrev later : Knows
      later = (still_there (seen_by ks) ks end place k g.0 at).0

      holds : HoldsPart rules room limit history later
      holds = let s = still_there (seen_by ks) ks end place k g.0 at in
          all_at (HoldsPart rules room limit history) end place later c.clients.parts s.1

      -- its part tells entries
      pub part_tells : AllByRecursion (IsEntry history k.number) k.part
      part_tells =
          let came = (still_there (seen_by ks) ks end place k g.0 at).2 in
          all_first (IsEntry history k.number) k.part came.part.0
          (subst (λ n. AllByRecursion (IsEntry history n) (k.part ++ came.part.0)) came.number
          (subst (AllByRecursion (IsEntry history later.number)) (sym holds.0 ∙ came.part.1)
          (part_entries later.number history)))

      pub was_starved : AllByRecursion (IsStarved rules room limit history k.number) k.starved
      was_starved =
          let came = (still_there (seen_by ks) ks end place k g.0 at).2 in
          all_first (IsStarved rules room limit history k.number) k.starved came.starved.0
          (subst (λ n. AllByRecursion (IsStarved rules room limit history n) (k.starved ++ came.starved.0)) came.number
          (subst (AllByRecursion (IsStarved rules room limit history later.number)) came.starved.1 holds.1))
