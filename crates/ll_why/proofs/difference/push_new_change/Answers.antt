use Rattle.std.proofs.Common.{◌++◌, [], ◌∷◌, codes, string_bytes}
use Rattle.ll_why.specs.Difference.{change_of}
use Rattle.ll_why.proofs.TokenTexts.{on_ok, two}
use Rattle.ll_why.proofs.difference.push_new_change.Goals as goal

pub returns : goal.returns
returns c =
    let old = string_bytes c.args.text.now in
    let first = string_bytes c.push_token.new.text in
    let second = string_bytes c.push_change_of.new.text in
    let missing = codes "missing" ∷ [] in
    let file = change_of (codes "new-file") c.args.old_file.now c.args.file.now in
    let directory = change_of (codes "new-dir") c.args.old_directory.now c.args.directory.now in
    let by_file = two old first second missing file c.in_ok-push_token.ensures c.in_ok-push_change_of.ensures in
    on_ok c.push_change_of-2.result _ _ c.push_change_of-2.ensures (λ e. two old second
    (string_bytes c.push_change_of-2.new.text) (missing ++ file) directory by_file e)
