-- What a layer reaches, found by paths of so many names.
use Rattle.std.specs.Prelude.{◌≡◌, ◌↔◌, ℕ, ◌*◌, ◌^◌, ◌<◌, Bool, true, false, not, ◌&&◌, ◌||◌, ◌==◌, [], ◌++◌, length}
use Rattle.std.specs.Prelude.{Some, None, IsTrue, bit_and, bit_or, refl}
use Rattle.std.proofs.Common.{ap, sym, ◌∙◌, inl, inr, arith, length-append}
use Rattle.std.proofs.lemmas.Bool.{cases_lt}
use Rattle.std.proofs.lemmas.Nat.Bits.{bit_at_above}
use Rattle.ll_rights.specs.declared.access.Access.{Access}
use Rattle.ll_rights.specs.declared.kind.Kind.{Kind}
use Rattle.ll_rights.specs.declared.kind.Kind.TheVariants.{Reg, Dir, Sym, Fifo, Sock, Char, Block}
use Rattle.ll_rights.specs.Access.{holds}
use Rattle.ll_rights.specs.Kind.{relevant}
use Rattle.ll_rights.specs.Map.{entries}
use Rattle.ll_path.specs.Path.{Path}
use Rattle.ll_rules.specs.Layer.{Layer, has_rule, restricts}
use Rattle.ll_rules.proofs.Grants.{grants_on-none}
use Rattle.ll_decide.specs.Masks.{IsMask}
use Rattle.ll_decide.proofs.Bits.{holds-and, holds-or}
use Rattle.ll_seq.specs.State.{State, kind_of, root}
use Rattle.ll_seq.specs.Tree.{named}
use Rattle.ll_seq.specs.Reach.{HasName, InReach}
use Rattle.ll_seq.specs.CallParts.{is_relevant}
use Rattle.ll_plain.specs.BoundedReach.{Found, Leads, is_ruled}
use Rattle.ll_seq.proofs.CutChains.{end_append}
use Rattle.ll_seq.proofs.Parted.{or_split, or_left, or_right, any_front, cut}
use Rattle.ll_plain.proofs.Shortcuts.{shortcut}

and_split : (a b : Bool) → (a && b) ≡ true → (a ≡ true) × (b ≡ true)
and_split true b e = (refl, e)
and_split false b e = absurd (cc e)

and_both : (a b : Bool) → a ≡ true → b ≡ true → (a && b) ≡ true
and_both true b e f = f
and_both false b e f = absurd (cc e)

-- a set of known rights holds no other
known : (set right : ℕ) → set < 2 ^ 15 → holds set right ≡ true → right < 15
known set right fits h = elim (cases_lt right 15) [
  | inl below ↦ below
  | inr above ↦ absurd (cc (sym h ∙ ap (λ n. n == 1) (bit_at_above set 15 right fits above)))
]

relevant_known : (kind : Kind) → relevant kind < 2 ^ 15
relevant_known Dir = omega arith
relevant_known Reg = omega arith
relevant_known Sym = omega arith
relevant_known Fifo = omega arith
relevant_known Sock = omega arith
relevant_known Char = omega arith
relevant_known Block = omega arith

module _ (s : State) (inode steps : ℕ) (enough : steps ≡ 2 * length (entries s.entries)) where
  -- what has a name is named by a path of so many names
  pub named_soon : HasName s inode → (path : Path) × Leads s steps inode path
  named_soon h =
      let short = shortcut s h.0 root inode h.1 in
      (short.path, (short.leads, let most = short.short in omega arith))

  -- and where a rule on some path to it holds a right, one does on such a path
  pub ruled_soon : (layer : Layer) (path : Path) (right : ℕ) → named s path ≡ Some inode
      → is_ruled s layer path right ≡ true → (p : Path) × Leads s steps inode p × IsTrue (is_ruled s layer p right)
  ruled_soon layer path right leads ruled =
      let c = cut s (has_rule layer right) path root inode leads ruled in
      let front = shortcut s c.front root c.at c.leads in
      let back = shortcut s c.back c.at inode c.ends in (
        front.path ++ back.path,
        (
          end_append s front.path back.path root c.at front.leads ∙ back.leads,
          let one = front.short in let two = back.short in omega (arith, length-append front.path back.path),
        ),
        any_front s (has_rule layer right) front.path back.path root c.at front.leads c.passes,
      )

  pub nameless : (layer : Layer) → Found s layer (Leads s steps inode) None → HasName s inode → ⊥
  nameless layer none h = let soon = named_soon h in none soon.0 soon.1

  module _ (layer : Layer) (kind : Kind) (kind_is : kind_of s inode ≡ Some kind) (free granted : ℕ) (ruled : Access)
      (mask : IsMask free layer []) (is : granted ≡ bit_or free ruled.0)
      (found : Found s layer (Leads s steps inode) (Some ruled)) where
    in_granted : (right : ℕ) → holds granted right ≡ (holds free right || holds ruled.0 right)
    in_granted right = ap (λ n. holds n right) is ∙ holds-or free ruled.0 right

    in_free : (right : ℕ) → right < 15 → holds free right ≡ not (restricts layer right)
    in_free right below = mask.same right below ∙ grants_on-none layer right

    meant : (right : ℕ) → is_relevant (kind_of s inode) right ≡ holds (relevant kind) right
    meant right = ap (λ k. is_relevant k right) kind_is

    reaches : (right : ℕ) → holds granted right ≡ true → holds (relevant kind) right ≡ true
        → InReach s layer inode right
    reaches right g r = elim (or_split (holds free right) (holds ruled.0 right) (sym (in_granted right) ∙ g)) [
      | inl a ↦ record {
        path = found.0.0;
        names = found.0.1.0;
        relevant = meant right ∙ r;
        granted = or_left (not (restricts layer right)) (is_ruled s layer found.0.0 right)
            (sym (in_free right (known (relevant kind) right (relevant_known kind) r)) ∙ a);
      }
      | inr b ↦
          let w = (found.1 right).0 b in
          record {
            path = w.0;
            names = w.1.0;
            relevant = meant right
                ∙ r;
            granted = or_right (not (restricts layer right)) (is_ruled s layer w.0 right) w.2;
          }
    ]

    reached : (right : ℕ) → InReach s layer inode right → holds granted right ≡ true
    reached right h =
        let r : holds (relevant kind) right ≡ true = sym (meant right) ∙ h.relevant in
        in_granted right ∙ elim (or_split (not (restricts layer right)) (is_ruled s layer h.path right) h.granted) [
          | inl a ↦ or_left (holds free right) (holds ruled.0 right)
              (in_free right (known (relevant kind) right (relevant_known kind) r) ∙ a)
          | inr b ↦ or_right (holds free right) (holds ruled.0 right)
              ((found.1 right).1 (ruled_soon layer h.path right h.names b))
        ]

    pub are_reached : (means : ℕ) → means ≡ relevant kind → (right : ℕ) → IsTrue (holds (bit_and granted means) right)
        ↔ InReach s layer inode right
    are_reached means same right =
        let parts : holds (bit_and granted means) right ≡ (holds granted right && holds (relevant kind) right) =
        holds-and granted means right ∙ ap (λ n. holds granted right && holds n right) same in (
          λ h. let two = and_split (holds granted right) (holds (relevant kind) right) (sym parts ∙ h) in
              reaches right two.0 two.1,
          λ h. parts ∙ and_both (holds granted right) (holds (relevant kind) right) (reached right h) (sym (meant right)
              ∙ h.relevant),
        )
