use Rattle.std.proofs.Common.{◌≡◌, ◌+◌, ◌++◌, ◌∷◌, [], take, ap, sym, subst, ◌∙◌, string_bytes, List}
use Rattle.std.specs.Prelude.{option_to_list}
use Rattle.std.proofs.lemmas.List.{append-nil, take_all, take_more}
use Rattle.std.proofs.lemmas.List.Concat.{flat_map-append}
use Rattle.ll_seq.specs.declared.call.Call.{Call}
use Rattle.ll_why.specs.Difference.{AreCompared, only_path, only_paths}
use Rattle.ll_why.specs.PathRows.{made_path}
use Rattle.ll_why.proofs.PathDifferences.{adds}
use Rattle.ll_why.proofs.comparison.Comparison.at_nodes.Goals as goal

pub loop-call-preserved : goal.loop-call-preserved
loop-call-preserved c =
    let it = c.args.self.now in
    let calls = c.args.calls.now in
    let others = c.args.others.now in
    let i = c.loop-call.call-index in
    let call = c.call-item.result in
    let told = c.loop-call.told in
    let new = c.push_node.new.told in
    let each = λ (k : Call). option_to_list (only_path others (made_path k)) in
    let last : take (i + 1) calls ≡ take i calls ++ call ∷ [] =
    take_more calls i call c.loop-call-test.true ∙ ap (λ p. take i calls ++ p ∷ []) (sym c.call-item.is) in
    let more : only_paths others (take (i + 1) calls) ≡ only_paths others (take i calls) ++ each call =
    ap (only_paths others) last ∙ flat_map-append each (take i calls) (call ∷ [])
    ∙ ap (λ l. only_paths others (take i calls) ++ l) (append-nil (each call)) in
    record {
      so_far = subst (λ ps. AreCompared it ps new.found (string_bytes new.text)) (sym more)
          (adds it (only_paths others (take i calls)) (each call) told.found new.found (string_bytes told.text)
          (string_bytes new.text) c.loop-call.invariant.so_far c.in_ok-push_node.ensures);
    }

pub returns : goal.returns
returns c = subst (λ (l : List Call). AreCompared c.args.self.now (only_paths c.args.others.now l)
    c.loop-call.told.found (string_bytes c.loop-call.told.text))
    (take_all c.loop-call.call-index c.args.calls.now c.loop-call-test.false) c.loop-call.invariant.so_far
