use Rattle.std.proofs.Common.{◌≡◌, ◌∙◌, ◌++◌, ◌∷◌, [], ap, append_assoc, sym, string_bytes}
use Rattle.ll_path.specs.Path.{path_of_text, path_text}
use Rattle.ll_learn.proofs.SpeltPaths.{spelt_push, text_first, text_next}
use Rattle.ll_learn.proofs.site.text_below.Goals.{then-not-is_root+in_ok-push_str, else-not-is_root}
use Rattle.ll_learn.proofs.site.text_below.Goals as goal

pub returns : goal.returns
returns c =
    let path = c.args.path.now in
    let name = c.args.name.now in
    let base : string_bytes c.in_ok-text.text ≡ path_text path = c.in_ok-text.ensures.ok ∙ c.as_str.ensures.text in
    let front : string_bytes c.if-not-is_root.text ++ name ≡ path_text (path ++ name ∷ []) =
    elim c.if-not-is_root.branch [
      | then-not-is_root+in_ok-push_str w ↦
          ap (λ t. string_bytes t ++ name) w.text-is
          ∙ ap (λ b. b ++ name) (w.in_ok-push_str.ensures.bytes ∙ ap (λ b. b ++ 47 ∷ []) base)
          ∙ append_assoc (path_text path) (47 ∷ []) name
          ∙ sym (text_next path name (sym w.if-not-is_root.ensures))
      | else-not-is_root w ↦ ap (λ t. string_bytes t ++ name) w.text-is ∙ ap (λ b. b ++ name) base
          ∙ sym (text_first path name (sym w.if-not-is_root.ensures))
    ] in
    let text : string_bytes c.push_str-2.new.self ≡ path_text (path ++ name ∷ []) =
    c.in_ok-push_str-2.ensures.bytes ∙ ap (λ b. string_bytes c.if-not-is_root.text ++ b) c.as_str-2.ensures.text
    ∙ front in
    record {
      text = text;
      path = ap path_of_text text ∙ spelt_push path name
          (c.as_str.result.now, c.as_str.ensures.word, c.as_str.ensures.path) c.as_str-2.ensures.name;
    }
