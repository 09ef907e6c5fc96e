-- A layer allows each call of those whom it is on exactly if the history is legal where they have it.
use Rattle.std.specs.Prelude.{◌≡◌, ◌≢◌, ℕ, Bool, true, false, ◌==◌, ◌&&◌, List, [], ◌∷◌, ◌++◌, Option, Some, None}
use Rattle.std.specs.Prelude.{is_none, is_some, refl, unwrap_or}
use Rattle.std.specs.Ordering.{nat_cmp}
use Rattle.std.specs.Cmp.{nat_cmp_total}
use Rattle.std.specs.FinMap.{nat_cmp-IsAntisymmetric}
use Rattle.std.proofs.Common.{sym, subst, ap, ◌∙◌, inl, inr}
use Rattle.std.proofs.lemmas.Bool.{eqb-true, eq-eqb}
use Rattle.std.proofs.lemmas.List.{append-nil}
use Rattle.ll_rights.specs.Map.{Map, get, has, insert}
use Rattle.ll_rights.proofs.Maps.{insert_cases}
use Rattle.ll_rules.specs.Layer.{Layer}
use Rattle.ll_seq.specs.History.{IsLegal, after, outcome_of}
use Rattle.ll_seq.specs.State.{State, new_client}
use Rattle.ll_seq.specs.Step.{client_of}
use Rattle.ll_seq.specs.declared.client.ClientRecord.{ClientRecord}
use Rattle.ll_seq.specs.declared.client.Descriptor.{Descriptor}
use Rattle.ll_seq.specs.declared.reply.Entry.{Entry}
use Rattle.ll_learn.specs.PassedCalls.{AllowsAll, IsOpen, Openings, SameReplies, is_client, joins, none_known}
use Rattle.ll_learn.specs.PassedCalls.{opened_at}
use Rattle.ll_learn.proofs.TwinEffects.{Follow}
use Rattle.ll_learn.proofs.TwinPolicy.{allowed, allowing}
use Rattle.ll_learn.proofs.TwinSteps.{caller_layered, entry_goes, standing_undenied, stands_there, undenied}
use Rattle.ll_learn.proofs.Twins.{Both, IsFile, IsLayered, Twin, Twins, with_all}

-- ---- whole histories

-- what both runs come to
abbrev pub Follows : Layer → (ℕ → Bool) → Openings → Entry → State → Map nat_cmp ClientRecord → Type 0
Follows layer on known e s m =
    Follow layer (joins on e) (opened_at s known e) (outcome_of s e) (outcome_of (with_all s m) e)

pub legal_there : (layer : Layer) (s : State) (m : Map nat_cmp ClientRecord) (on : ℕ → Bool) (known : Openings)
    → Twins layer on known s.clients m → (es : List Entry) → IsLegal s es → IsOpen s on es
    → AllowsAll layer s on known es → IsLegal (with_all s m) es
legal_there layer s m on known w [] legal fine allows = tt
legal_there layer s m on known w (e ∷ es) legal fine allows =
    let goes : Follows layer on known e s m =
    entry_goes layer s m on known w e legal.0 fine.0 (λ g b. allowing layer s m known e.client _ _
    (caller_layered layer s m on known w e legal.0 g) e.call e.reply b
    (undenied layer s m on known w e legal.0 (fine.0 g).0 b) (allows.0 g b)) in (
      stands_there layer s m on known w e legal.0 goes,
      subst (λ (z : State). IsLegal z es) (sym goes.state)
          (legal_there layer (after s e) goes.clients (joins on e) (opened_at s known e) goes.twins es legal.1 fine.1
          allows.1),
    )

pub allowed_there : (layer : Layer) (s : State) (m : Map nat_cmp ClientRecord) (on : ℕ → Bool) (known : Openings)
    → Twins layer on known s.clients m → (es : List Entry) → IsLegal s es → IsOpen s on es
    → IsLegal (with_all s m) es → AllowsAll layer s on known es
allowed_there layer s m on known w [] legal fine stands = tt
allowed_there layer s m on known w (e ∷ es) legal fine stands =
    let none = λ (g : on e.client ≡ true). standing_undenied layer s m on known w e legal.0 g (fine.0 g) stands.0 in
    let goes : Follows layer on known e s m = entry_goes layer s m on known w e legal.0 fine.0 none in (
      λ g b. allowed layer s m known e.client _ _ (caller_layered layer s m on known w e legal.0 g) e.call e.reply b
          (undenied layer s m on known w e legal.0 (fine.0 g).0 b) (none g b),
      allowed_there layer (after s e) goes.clients (joins on e) (opened_at s known e) goes.twins es legal.1 fine.1
          (subst (λ (z : State). IsLegal z es) goes.state stands.1),
    )

-- ---- where the layer comes

-- the record with the layer as its newest
abbrev pub newest : Layer → ClientRecord → ClientRecord
newest layer c = record c { domain = c.domain ++ layer ∷ [] }

file_itself : (layer : Layer) (o : Option Descriptor) → Both (IsFile layer None) o o
file_itself layer None = tt
file_itself layer (Some d) = record { same = refl; kept = by d.kept }
  where
    by : (k : Option ℕ) → is_none k ≡ (is_none k && true)
    by None = refl
    by (Some n) = refl

layered_newest : (layer : Layer) (c : ClientRecord) → IsLayered layer (λ fd. None) c (newest layer c)
layered_newest layer c = record {
  front = c.domain;
  back = [];
  was = sym (append-nil c.domain);
  is = refl;
  rulesets = refl;
  files = λ fd. file_itself layer (get c.descriptors fd);
}

both_itself : (layer : Layer) (o : Option ClientRecord) → Both (λ (c d : ClientRecord). d ≡ c) o o
both_itself layer None = tt
both_itself layer (Some c) = refl

module _ (layer : Layer) (s : State) (client : ℕ) (there : has s.clients client ≡ true) where
  abbrev own : ClientRecord
  own = client_of s client

  found : (o : Option ClientRecord) → is_some o ≡ true → o ≡ Some (unwrap_or o new_client)
  found None e = absurd (cc e)
  found (Some c) e = refl

  twin_at : (q : ℕ) → Both (Twin layer (is_client client q) (λ fd. None)) (get s.clients q)
      (get (insert s.clients client (newest layer own)) q)
  twin_at q = elim (insert_cases nat_cmp_total nat_cmp-IsAntisymmetric s.clients client (newest layer own) q) [
    | inl a ↦ subst (λ z. Both (Twin layer (is_client client q) (λ fd. None)) (get s.clients q) z) (sym a.1)
        (subst (λ z. Both (Twin layer (is_client client q) (λ fd. None)) z (Some (newest layer own)))
        (sym (ap (get s.clients) a.0 ∙ found (get s.clients client) there))
        (subst (λ (z : Bool). Twin layer z (λ fd. None) own (newest layer own)) (sym (eq-eqb client q (sym a.0)))
        (layered_newest layer own)))
    | inr a ↦ subst (λ z. Both (Twin layer (is_client client q) (λ fd. None)) (get s.clients q) z) (sym a.1)
        (subst (λ (z : Bool). Both (Twin layer z (λ fd. None)) (get s.clients q) (get s.clients q))
        (sym (away q (λ e. a.0 (sym e)))) (both_itself layer (get s.clients q)))
  ]
    where
      away : (k : ℕ) → client ≢ k → (client == k) ≡ false
      away k n = by (client == k) refl
        where
          by : (z : Bool) → (client == k) ≡ z → (client == k) ≡ false
          by true e = absurd (n (eqb-true client k e))
          by false e = e

  pub first_twins : Twins layer (is_client client) none_known s.clients (insert s.clients client (newest layer own))
  first_twins = record {
    at = twin_at;
    there = λ q e. ap (has s.clients) (sym (eqb-true client q e)) ∙ there;
  }

pub same_replies : SameReplies
same_replies s client es learnable layer = (
  legal_there layer s _ (is_client client) none_known (first_twins layer s client learnable.there) es learnable.legal
      learnable.stays,
  allowed_there layer s _ (is_client client) none_known (first_twins layer s client learnable.there) es learnable.legal
      learnable.stays,
)
