-- What a layer grants to which rules are added.
use Rattle.std.specs.Prelude.{◌≡◌, ℕ, ◌<◌, Bool, true, false, not, ◌&&◌, ◌||◌, ◌==◌, List, [], ◌∷◌, unwrap_or}
use Rattle.std.specs.Prelude.{bit_or, if◌then◌else◌, refl}
use Rattle.std.specs.Cmp.{nat_cmp_total}
use Rattle.std.specs.FinMap.{nat_cmp-IsAntisymmetric}
use Rattle.std.specs.List.{list_any}
use Rattle.std.proofs.Common.{ap, arith, eq-eqb, ne_eqb, sym, inl, inr, ◌∙◌}
use Rattle.ll_rights.specs.Access.{holds}
use Rattle.ll_rights.specs.Map.{get}
use Rattle.ll_rights.specs.Right.{refer}
use Rattle.ll_rights.proofs.Maps.{insert_cases}
use Rattle.ll_rules.specs.Layer.{Layer, grants_on, has_rule, restricts}
use Rattle.ll_rules.specs.Rules.{with_rule}
use Rattle.ll_decide.proofs.Bits.{holds-or}
use Rattle.ll_decide.proofs.OneByOne.{holds_none}
use Rattle.ll_decide.specs.Judge.{grants_along}
use Rattle.ll_decide.specs.declared.demands.On.{On}
use Rattle.ll_decide.specs.declared.demands.On.TheVariants.{Itself, Other, Parent, Entered}
use Rattle.ll_seq.specs.State.{State}
use Rattle.ll_why.specs.Changes.{IsChange, changed, is_added, rule_on, with_more}
use Rattle.ll_why.specs.Places.{granted_with}
use Rattle.ll_why.specs.Reasons.{chain_of}
use Rattle.ll_why.specs.declared.asks.Asks.{Asks}
use Rattle.ll_why.specs.declared.change.LayerChange.{LayerChange}
use Rattle.ll_why.specs.declared.grants.Ruled.{Ruled}

or_false : (b : Bool) → (b || false) ≡ b
or_false true = refl
or_false false = refl

and_true : (h x : Bool) → (h || x) ≡ (h || (x && true))
and_true h true = refl
and_true h false = refl

and_false : (h x : Bool) → h ≡ (h || (x && false))
and_false h true = sym (or_false h)
and_false h false = sym (or_false h)

-- a rule more, joined with that on the same inode
rule_is : (layer : Layer) (inode rights right j : ℕ) → has_rule (with_rule layer inode rights) right j
    ≡ (has_rule layer right j || (holds rights right && (j == inode)))
rule_is layer inode rights right j =
    let old = unwrap_or (get layer.rules inode) 0 in
    elim (insert_cases nat_cmp_total nat_cmp-IsAntisymmetric layer.rules inode (bit_or old rights) j) as
    (λ _. has_rule (with_rule layer inode rights) right j
    ≡ (has_rule layer right j || (holds rights right && (j == inode)))) [
      | inl w ↦ ap (λ o. holds (unwrap_or o 0) right) w.1
          ∙ holds-or old rights right
          ∙ ap (λ k. has_rule layer right k || holds rights right) (sym w.0)
          ∙ and_true (has_rule layer right j) (holds rights right)
          ∙ ap (λ b. has_rule layer right j || (holds rights right && b)) (sym (eq-eqb j inode w.0))
      | inr w ↦ ap (λ o. holds (unwrap_or o 0) right) w.1
          ∙ and_false (has_rule layer right j) (holds rights right)
          ∙ ap (λ b. has_rule layer right j || (holds rights right && b)) (sym (ne_eqb j inode w.0))
    ]

more_is : (layer : Layer) (rule : Ruled) (right j : ℕ) → has_rule (with_more layer rule) right j
    ≡ (has_rule layer right j || (holds rule.rights.0 right && (j == rule.inode)))
more_is layer rule right j = of (rule.rights.0 == 0) refl
  where
    of : (b : Bool) → (rule.rights.0 == 0) ≡ b
        → has_rule (if b then layer else with_rule layer rule.inode rule.rights.0) right j
        ≡ (has_rule layer right j || (holds rule.rights.0 right && (j == rule.inode)))
    of true e = let zero : rule.rights.0 ≡ 0 = grind arith in
        sym (ap (λ b. has_rule layer right j || (b && (j == rule.inode)))
        (ap (λ n. holds n right) zero ∙ holds_none right)
        ∙ or_false (has_rule layer right j))
    of false e = rule_is layer rule.inode rule.rights.0 right j

shuffle : (h H x e E : Bool) → ((h || (x && e)) || (H || (x && E))) ≡ ((h || H) || (x && (e || E)))
shuffle true H x e E = refl
shuffle false true true true E = refl
shuffle false true true false E = refl
shuffle false false true e E = refl
shuffle false H false e E = refl

any_is : (layer : Layer) (rule : Ruled) (right : ℕ) (inodes : List ℕ)
    → list_any (has_rule (with_more layer rule) right) inodes
    ≡ (list_any (has_rule layer right) inodes
    || (holds rule.rights.0 right && list_any (λ inode. inode == rule.inode) inodes))
any_is layer rule right [] = and_false false (holds rule.rights.0 right)
any_is layer rule right (j ∷ inodes) =
    (λ i. more_is layer rule right j i || any_is layer rule right inodes i)
    ∙ shuffle (has_rule layer right j) (list_any (has_rule layer right) inodes) (holds rule.rights.0 right)
    (j == rule.inode) (list_any (λ inode. inode == rule.inode) inodes)

-- refer is restricted anyhow
handled_same : (h x r : Bool) → (x ≡ true → r ≡ true) → ((h || x) || r) ≡ (h || r)
handled_same true x r only = refl
handled_same false true r only = sym (only refl)
handled_same false false r only = refl

refer_bit : (q a h : Bool) → ((q && a) && not h) ≡ true → q ≡ true
refer_bit true a h e = refl
refer_bit false a h e = absurd (cc e)

four : (n b p q r s : Bool) → (n || ((((b || p) || q) || r) || s)) ≡ ((n || b) || (((p || q) || r) || s))
four true b p q r s = refl
four false true p q r s = refl
four false false p q r s = refl

module _ (level : ℕ) (s : State) (asks : Asks) (layer : Layer) (change : LayerChange)
    (is : IsChange level s asks layer change) (right : ℕ) (known : right < 15) where
  restricts_same : restricts (changed layer change) right ≡ restricts layer right
  restricts_same =
      ap (λ b. b || (right == refer)) (holds-or layer.handled change.handled.0 right)
      ∙ handled_same (holds layer.handled right) (holds change.handled.0 right) (right == refer)
      (λ new. refer_bit (right == refer) (is_added change right) (holds layer.handled right)
      (sym (is.handled right known) ∙ new))

  abbrev added : On → Bool
  added from = holds (rule_on change from).rights.0 right

  abbrev by_rule : On → List ℕ → Bool
  by_rule from inodes = added from && list_any (λ inode. inode == (rule_on change from).inode) inodes

  any_changed : (inodes : List ℕ) → list_any (has_rule (changed layer change) right) inodes
      ≡ ((((list_any (has_rule layer right) inodes || by_rule Itself inodes) || by_rule Other inodes)
      || by_rule Entered inodes) || by_rule Parent inodes)
  any_changed inodes =
      any_is (with_more (with_more (with_more layer change.itself) change.other) change.entered) change.parent right
      inodes
      ∙ ap (λ b. b || by_rule Parent inodes)
      (any_is (with_more (with_more layer change.itself) change.other) change.entered right inodes
      ∙ ap (λ b. b || by_rule Entered inodes)
      (any_is (with_more layer change.itself) change.other right inodes
      ∙ ap (λ b. b || by_rule Other inodes) (any_is layer change.itself right inodes)))

  pub changed_grants : (on : On)
      → grants_along (chain_of asks) (changed layer change) on right ≡ granted_with asks layer added on right
  changed_grants on =
      let inodes = chain_of asks on in
      (λ i. not (restricts_same i) || any_changed inodes i)
      ∙ four (not (restricts layer right)) (list_any (has_rule layer right) inodes) (by_rule Itself inodes)
      (by_rule Other inodes) (by_rule Entered inodes) (by_rule Parent inodes)
      ∙ (λ i. grants_on layer inodes right
      || ((((added Itself && list_any (λ inode. inode == is.ends Itself i) inodes)
      || (added Other && list_any (λ inode. inode == is.ends Other i) inodes))
      || (added Entered && list_any (λ inode. inode == is.ends Entered i) inodes))
      || (added Parent && list_any (λ inode. inode == is.ends Parent i) inodes)))
