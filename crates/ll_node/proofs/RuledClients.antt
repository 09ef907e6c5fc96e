-- A rule more in a client's ruleset: no slot changes.
use Rattle.std.specs.Prelude.{◌≡◌, false, Result, Ok, Err, OnOk, cond, ◌==◌, List, Some, slice_set}
use Rattle.std.specs.Prelude.{slice_get, unwrap_or, refl}
use Rattle.std.specs.Result.{is_err}
use Rattle.std.proofs.Common.{sym, subst, ap, ◌∙◌, arith, inl}
use Rattle.ll_rights.specs.Map.{get}
use Rattle.ll_rules.specs.Layer.{Layer}
use Rattle.ll_rules.specs.Rules.{new_ruleset, with_rule}
use Rattle.ll_seq.specs.declared.client.ClientRecord.{ClientRecord}
use Rattle.ll_seq.specs.Effects.{with_client}
use Rattle.ll_seq.proofs.OpensKept.{kept_client}
use Rattle.ll_seq.specs.declared.changes.Rule.{Rule}
use Rattle.ll_seq.specs.Effect.{with_rule_of}
use Rattle.ll_node.specs.InodeTable.{IsTable}
use Rattle.ll_node.proofs.TableSteps.{still_table}
use Rattle.ll_node.specs.Enactment.{Scene, InHand, IsGiven, IsMade, in_hand}
use Rattle.ll_node.proofs.GivenSlots.{put_again}
use Rattle.ll_node.proofs.OpenedSlots.{one_client}

-- what holds on success holds where there is no error
pub no_error : {A E P : Type 0} (r : Result A E) → false ≡ is_err r → OnOk r P → P
no_error (Ok a) none p = p
no_error (Err e) none p = absurd (cc none)

-- the ruleset of the rule's number is the one that got it
pub allowed : (c : ClientRecord) (rule : Rule) (rulesets : List Layer) (made : Layer)
    → slice_get c.rulesets rule.number ≡ Some made
    → rulesets ≡ slice_set c.rulesets rule.number (with_rule made rule.inode rule.rights.0)
    → record c { rulesets = rulesets } ≡ with_rule_of c rule
allowed c rule rulesets made there put =
    ap (λ (rs : List Layer). record c { rulesets = rs }) put
    ∙ sym (ap (λ o. record c {
      rulesets = slice_set c.rulesets rule.number
          (with_rule (unwrap_or o (new_ruleset 0)) rule.inode rule.rights.0);
    }) there)

module _ {scene : Scene} {hand : InHand} (given : IsGiven scene hand) where
  open scene use {state as s, spares, number, place}
  open hand use {client as c, spare, table, slots, lent}

  pub ruled_client : (rule : Rule) (c' : ClientRecord) → c' ≡ with_rule_of c rule
      → IsMade scene (with_client s number (with_rule_of c rule)) hand (in_hand c' spare table slots lent)
  ruled_client rule c' is =
      let ruled = with_client s number (with_rule_of c rule) in
      record {
        counted = subst (λ ks. IsTable ruled ks table) (sym (put_again spares place spare given.kept))
            (still_table s spares table given.counted ruled table.facts refl refl refl
            (kept_client s table.facts table.facts number c given.counted.facts given.client (with_rule_of c rule)
            refl));
        next = omega arith;
        clients = λ q. one_client s.clients number (with_rule_of c rule) q
            ∙ ap (λ d. cond (q == number) (Some d) (get s.clients q)) (sym is);
        told = given.told;
        others = λ k out. refl;
        freed = inl (given.kept, record { inodes = refl; free = refl });
      }
