use Rattle.std.proofs.Common.{◌≡◌, ℕ, List, String, Vec, ◌+◌, ◌++◌, ◌∷◌, sym, ap, ◌∙◌, drop, get_or, map, string_bytes}
use Rattle.std.specs.declared.alloc.Global.{Global}
use Rattle.std.proofs.lemmas.List.{append-nil, drop_all}
use Rattle.ll_rights.specs.Access.{names_among}
use Rattle.ll_rights.specs.Right.{all_rights, right_text}
use Rattle.ll_rights.proofs.RightNames.{names_end, names_no, names_yes}
use Rattle.ll_why.specs.Quoted.{quoted}
use Rattle.ll_why.proofs.TextGrowth.{added, from_element}
use Rattle.ll_why.proofs.quoted.names_of.Goals as goal
use Rattle.ll_why.proofs.quoted.names_of.Goals.{then-holds+in_ok-concat+in_ok-push, else-holds}

pub loop-right-preserved : goal.loop-right-preserved
loop-right-preserved c =
    let set = c.args.set.0 in
    let i = c.loop-right.right-index in
    let right = get_or all_rights i c.right-item.result in
    let at : right ≡ get_or all_rights i right = ap (get_or all_rights i) c.right-item.is in
    let names = c.loop-right.names.items in
    let rest = drop (i + 1) all_rights in
    let whole = map quoted (names_among all_rights set) in
    let split : drop i all_rights ≡ right ∷ rest = from_element all_rights i right c.loop-right-test.true at in
    let so_far : whole ≡ map string_bytes names ++ map quoted (names_among (right ∷ rest) set) =
    c.loop-right.invariant ∙ ap (λ (l : List ℕ). map string_bytes names ++ map quoted (names_among l set)) split in
    elim c.if-holds.branch [
      | then-holds+in_ok-concat+in_ok-push w ↦
          added quoted string_bytes whole names c.if-holds.names.items w.in_ok-concat.field-0 (right_text right)
          (names_among rest set)
          (so_far ∙ ap (λ (l : List (List ℕ)). map string_bytes names ++ map quoted l)
          (names_yes right rest set (sym w.if-holds.ensures)))
          (ap (λ (v : Vec (String Global) Global). v.items) w.names-is ∙ w.in_ok-push.ensures.items)
          (w.in_ok-concat.ensures ∙ ap quoted w.text.ensures)
      | else-holds w ↦
          so_far ∙ ap (λ (l : List (List ℕ)). map string_bytes names ++ map quoted l)
          (names_no right rest set (sym w.if-holds.ensures))
          ∙ ap (λ (v : Vec (String Global) Global). map string_bytes v.items ++ map quoted (names_among rest set))
          (sym w.names-is)
    ]

pub returns : goal.returns
returns c =
    let names = c.loop-right.names.items in
    let set = c.args.set.0 in
    sym (c.loop-right.invariant
    ∙ ap (λ (l : List ℕ). map string_bytes names ++ map quoted (names_among l set))
    (drop_all c.loop-right.right-index all_rights c.loop-right-test.false)
    ∙ ap (λ (l : List (List ℕ)). map string_bytes names ++ map quoted l) (names_end set)
    ∙ append-nil (map string_bytes names))
