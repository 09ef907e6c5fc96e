use Rattle.std.proofs.Common.{◌≡◌, ◌+◌, ◌++◌, ◌∷◌, [], ℕ, List, add-one, map, take, drop, drop-cons, get_or, ap, sym}
use Rattle.std.proofs.Common.{Err, rules}
use Rattle.std.proofs.Common.{subst, ◌∙◌}
use Rattle.std.proofs.Common.{inl, inr, refl}
use Rattle.std.specs.Borrow.{Bor}
use Rattle.std.proofs.lemmas.List.{take_more}
use Rattle.ll_path.specs.Path.{path_of_text}
use Rattle.ll_program.specs.Paths.{HasBadWord}
use Rattle.ll_program.proofs.paths.paths_of.Goals as goal

map_more : (words : List (Bor (List ℕ))) (word : Bor (List ℕ))
    → map path_of_text (map (λ w. w.now) (words ++ word ∷ []))
    ≡ map path_of_text (map (λ w. w.now) words) ++ path_of_text word.now ∷ []
map_more [] word = refl
map_more (w ∷ words) word = ap (λ l. path_of_text w.now ∷ l) (map_more words word)

none : Bor (List ℕ)
none = record { ref_ptr = (0, 0); now = [] }

pub loop-word-preserved : goal.loop-word-preserved
unfolding none
loop-word-preserved c =
    let words = c.args.words.now in
    let i = c.loop-word.word-index in
    let word = get_or words i none in
    let split : drop i words ≡ word ∷ drop (i + 1) words =
    drop-cons words i none c.loop-word-test.true ∙ ap (λ k. word ∷ drop k words) (sym (add-one i)) in
    let last : take (i + 1) words ≡ take i words ++ word ∷ [] = take_more words i none c.loop-word-test.true in
    record {
      so_far = c.in-Ok.ensures.ok ∙ ap (λ p. c.loop-word.paths.items ++ p ∷ []) c.in_ok-path.ensures.path
          ∙ ap (λ l. l ++ path_of_text word.now ∷ []) c.loop-word.invariant.so_far
          ∙ sym (ap (λ l. map path_of_text (map (λ w. w.now) l)) last ∙ map_more (take i words) word);
      bad = λ h. c.loop-word.invariant.bad (subst (λ (l : List (Bor (List ℕ))). HasBadWord (map (λ w. w.now) l))
          (sym split) (inr h));
    }

pub returns-in_err-path-clause-bad : goal.returns-in_err-path-clause-bad
unfolding none
returns-in_err-path-clause-bad c =
    let same : c.from_residual.result ≡ Err c.in_err-path.field-0.0 = search rules in
    rw same (λ told. let words = c.args.words.now in
    let i = c.loop-word.word-index in
    let word = get_or words i none in
    let split : drop i words ≡ word ∷ drop (i + 1) words =
    drop-cons words i none c.loop-word-test.true ∙ ap (λ k. word ∷ drop k words) (sym (add-one i)) in
    c.loop-word.invariant.bad (subst (λ (l : List (Bor (List ℕ))). HasBadWord (map (λ w. w.now) l)) (sym split)
    (inl (c.in_err-path.ensures.bad told))))
