use Rattle.std.proofs.Common.{◌≡◌, ◌+◌, ◌++◌, ◌∷◌, [], take, ap, sym, subst, ◌∙◌, string_bytes, List}
use Rattle.std.specs.Prelude.{option_to_list}
use Rattle.std.proofs.lemmas.List.{append-nil, take_all, take_more}
use Rattle.std.proofs.lemmas.List.Concat.{flat_map-append}
use Rattle.ll_seq.specs.declared.call.Call.{Call}
use Rattle.ll_why.specs.PathRows.{AreRows, made_path, made_paths}
use Rattle.ll_why.proofs.TableRows.{rows_join}
use Rattle.ll_why.proofs.path_rows.rows_of_nodes.Goals as goal

pub loop-call-preserved : goal.loop-call-preserved
loop-call-preserved c =
    let s = c.args.tree.now in
    let domain = c.args.domain.now in
    let calls = c.args.calls.now in
    let i = c.loop-call.call-index in
    let call = c.call-item.result in
    let one = option_to_list (made_path call) in
    let last : take (i + 1) calls ≡ take i calls ++ call ∷ [] =
    take_more calls i call c.loop-call-test.true ∙ ap (λ p. take i calls ++ p ∷ []) (sym c.call-item.is) in
    let more : made_paths (take (i + 1) calls) ≡ made_paths (take i calls) ++ one =
    ap made_paths last ∙ flat_map-append (λ (k : Call). option_to_list (made_path k)) (take i calls) (call ∷ [])
    ∙ ap (λ l. made_paths (take i calls) ++ l) (append-nil one) in
    let adds = c.in_ok-push_node.ensures in
    record {
      so_far = subst (λ ps. AreRows s domain c.args.style ps (string_bytes c.push_node.new.text)) (sym more)
          (subst (λ t. AreRows s domain c.args.style (made_paths (take i calls) ++ one) t) (sym adds.2)
          (rows_join s domain c.args.style (made_paths (take i calls)) one (string_bytes c.loop-call.text) adds.0
          c.loop-call.invariant.so_far adds.1));
    }

pub returns : goal.returns
returns c = subst (λ (l : List Call). AreRows c.args.tree.now c.args.domain.now c.args.style (made_paths l)
    (string_bytes c.loop-call.text)) (take_all c.loop-call.call-index c.args.calls.now c.loop-call-test.false)
    c.loop-call.invariant.so_far
