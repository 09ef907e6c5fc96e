-- What each layer that meets needs grants and allows.
use Rattle.std.specs.Prelude.{◌≡◌, ◌==◌, ℕ, Bool, true, List, [], ◌∷◌, None, Some, drop, length, map}
use Rattle.std.specs.Prelude.{refl, slice_get, take}
use Rattle.std.specs.List.{list_all, list_any}
use Rattle.std.proofs.Common.{inl, inr, ap, ◌∙◌}
use Rattle.std.proofs.lemmas.Bool.{and_parts, eqb-true, or_cases, or_left, or_right}
use Rattle.ll_rules.specs.Layer.{Layer, grants_on, has_rule}
use Rattle.ll_seq.specs.declared.reply.Entry.{Entry}
use Rattle.ll_seq.specs.History.{IsLegal, state_after}
use Rattle.ll_seq.specs.State.{State}
use Rattle.ll_laws.proofs.Trees.{granted_on}
use Rattle.ll_why.specs.Reasons.{AreAsked, kept_number}
use Rattle.ll_why.specs.declared.asks.Asks.{Asks}
use Rattle.ll_learn.specs.declared.needs.Needs.{Needs}
use Rattle.ll_learn.specs.declared.undenied.Trial.{Trial}
use Rattle.ll_learn.specs.Asks.{AllowsAsked}
use Rattle.ll_learn.specs.Learned.{part_behind}
use Rattle.ll_learn.specs.Needs.{Meets}
use Rattle.ll_learn.specs.Preface.{AreGathered}
use Rattle.ll_learn.specs.Undeniable.{IsUndeniable}
use Rattle.ll_learn.proofs.AskedGrants.{allowed_is}
use Rattle.ll_learn.proofs.SameReplies.{same_replies}

-- ---- a path with all inodes of another

module _ (f : ℕ → Bool) where
  found : (x : ℕ) (path : List ℕ) → list_any (λ i. i == x) path ≡ true → f x ≡ true → list_any f path ≡ true
  found x [] e here = absurd (cc e)
  found x (y ∷ ys) e here = elim (or_cases (y == x) (list_any (λ i. i == x) ys) e) [
    | inl same ↦ or_left (f y) (list_any f ys) (ap f (eqb-true y x same) ∙ here)
    | inr rest ↦ or_right (f y) (list_any f ys) (found x ys rest here)
  ]

  any_on : (path inodes : List ℕ) → list_all (λ inode. list_any (λ i. i == inode) path) inodes ≡ true
      → list_any f inodes ≡ true → list_any f path ≡ true
  any_on path [] all e = absurd (cc e)
  any_on path (x ∷ xs) all e =
      let parts = and_parts (list_any (λ i. i == x) path)
      (list_all (λ inode. list_any (λ i. i == inode) path) xs) all in
      elim (or_cases (f x) (list_any f xs) e) [
        | inl here ↦ found x path parts.0 here
        | inr later ↦ any_on path xs parts.1 later
      ]

pub granted_on_more : (layer : Layer) (right : ℕ) (path inodes : List ℕ)
    → list_all (λ inode. list_any (λ i. i == inode) path) inodes ≡ true → grants_on layer inodes right ≡ true
    → grants_on layer path right ≡ true
granted_on_more layer right path inodes all granted =
    granted_on layer inodes path right (λ restricted rule. any_on (has_rule layer right) path inodes all rule) granted

-- ---- what all layers allow under which the histories pass

pub undeniable : (s : State) (early : List Entry) (client : ℕ) (hs : List (List Entry)) (needs : Needs)
    → IsLegal s early → AreGathered s early client hs needs → (trial : Trial) (es : List Entry)
    → slice_get hs trial.history ≡ Some es → kept_number trial.call.now ≡ None → (asks : Asks)
    → AreAsked (state_after (state_after s early) (take trial.entries (drop (length early) es))) trial.call.now asks
    → ((layer : Layer) → Meets (grants_on layer) needs → AllowsAsked (grants_on layer) asks)
    → IsUndeniable s hs client trial
undeniable s early client hs needs legal gathered trial es is judged asks are implied = record {
  early = early;
  parts = map (part_behind (state_after s early) client (length early)) hs;
  cut = record { legal = legal; begin = gathered.begin; are = refl };
  entries = es;
  is = is;
  judged = judged;
  allowed = λ layer passes. (allowed_is _ trial.call.now asks are layer).0 (implied layer
      ((gathered.of.met layer).1 (λ part there.
      (same_replies part.cut part.client part.entries (gathered.of.learnable part there) layer).1
      (passes part there))));
}
