use Rattle.std.proofs.Common.{◌≡◌, ℕ, List, [], ◌∷◌, ◌++◌, sym, ap, ◌∙◌, length, get_or, lit<, refl, arith}
use Rattle.std.specs.Prelude.{string_bytes}
use Rattle.std.specs.List.{join_with_byte}
use Rattle.std.proofs.lemmas.Bool.{eqb-true, eqb-false}
use Rattle.ll_rights.specs.Right.{all_rights, right_text}
use Rattle.ll_rights.proofs.RightNames.{text_so_far, names_end, written_none, written_first, written_next}
use Rattle.ll_rights.proofs.access.Access.names.Goals as goal
use Rattle.ll_rights.proofs.access.Access.names.Goals.{then-holds+in_ok-push_str, then-not-is_empty+in_ok-push}
use Rattle.ll_rights.proofs.access.Access.names.Goals.{else-not-is_empty, else-holds}

pub loop-right-init : goal.loop-right-init
loop-right-init c = c.new-text.ensures.bytes ∙ sym (ap (join_with_byte 44) (names_end c.args.self.0))

pub loop-right-preserved : goal.loop-right-preserved
loop-right-preserved c =
    let k = c.loop-right.right-index in
    let set = c.args.self.0 in
    let right = get_or all_rights k c.right-item.result in
    let at : right ≡ get_or all_rights k right = ap (get_or all_rights k) c.right-item.is in
    let so_far : string_bytes c.loop-right.text ≡ text_so_far k set = c.loop-right.invariant in
    let long = ap length so_far in
    elim c.if-holds.branch [
      | then-holds+in_ok-push_str w ↦
          let pushed : string_bytes c.if-holds.text ≡ string_bytes w.if-not-is_empty.text ++ right_text right =
          ap string_bytes w.text-is ∙ w.in_ok-push_str.ensures.bytes
          ∙ ap (λ (t : List ℕ). string_bytes w.if-not-is_empty.text ++ t) w.text.ensures in
          elim w.if-not-is_empty.branch [
            | then-not-is_empty+in_ok-push v ↦ (
                let some = eqb-false _ _ (sym v.if-not-is_empty.ensures) in
                let comma = v.in_ok-push.ensures.ascii (lit< tt) in
                let before : string_bytes w.if-not-is_empty.text ≡ text_so_far k set ++ 44 ∷ [] =
                ap string_bytes v.text-is ∙ v.in_ok-push.ensures.bytes ∙ (λ i. so_far i ++ comma i) in
                let next = written_next k set right c.loop-right-test.true at (sym w.if-holds.ensures)
                (omega (arith, long, some, c.loop-right.text.bytes.ok.0)) in
                pushed ∙ ap (λ (t : List ℕ). t ++ right_text right) before ∙ sym next)
            | else-not-is_empty v ↦ (
                let none = eqb-true _ _ (sym v.if-not-is_empty.ensures) in
                let no_text : length (text_so_far k set) ≡ 0 =
                omega (arith, long, none, c.loop-right.text.bytes.ok.0) in
                let first = written_first k set right c.loop-right-test.true at (sym w.if-holds.ensures) no_text in
                pushed ∙ ap (λ (t : List ℕ). t ++ right_text right) (ap string_bytes v.text-is ∙ so_far
                ∙ empty_is _ no_text) ∙ sym first)
          ]
      | else-holds w ↦ ap string_bytes w.text-is ∙ so_far
          ∙ sym (written_none k set right c.loop-right-test.true at (sym w.if-holds.ensures))
    ]
  where
    empty_is : (xs : List ℕ) → length xs ≡ 0 → xs ≡ []
    empty_is [] e = refl
    empty_is (x ∷ xs) e = absurd (omega arith)
