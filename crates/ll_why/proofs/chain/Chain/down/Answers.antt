use Rattle.std.specs.Prelude.{◌≡◌, ◌++◌, ◌∷◌, [], Some, None}
use Rattle.std.specs.Option.{option_map_or}
use Rattle.std.proofs.Common.{ap, sym, ◌∙◌}
use Rattle.std.proofs.lemmas.List.{append-nil}
use Rattle.ll_path.specs.Path.{Path}
use Rattle.ll_seq.specs.State.{root}
use Rattle.ll_seq.specs.Tree.{named, ancestors}
use Rattle.ll_seq.proofs.LongerPaths.{alone, beneath, end_push, chain_push}
use Rattle.ll_why.specs.declared.chain.Chain.{Chain}
use Rattle.ll_why.specs.Chains.{IsChain}
use Rattle.ll_why.proofs.Sets.{both_ok}
use Rattle.ll_why.proofs.chain.Chain.down.Goals as goal

pub returns-in-None : goal.returns-in-None
returns-in-None c names chain =
    let s = c.args.tree.now in
    let name = c.args.name.now in
    let none : named s names ≡ None = sym chain.end ∙ c.in-None.is in
    record {
      inodes = chain.inodes ∙ sym (chain_push s name names root
          ∙ ap (λ e. ancestors s names ++ alone s name (beneath s name e)) none ∙ append-nil (ancestors s names));
      end = c.in-None.is ∙ sym (end_push s name names root ∙ ap (beneath s name) none);
    }

pub returns-in-Some : goal.returns-in-Some
returns-in-Some c =
    let s = c.args.tree.now in
    let name = c.args.name.now in
    let there = c.in-Some.directory in
    both_ok c.with.result (λ (after : Chain). after.inodes.items
    ≡ c.args.self.inodes.items ++ option_map_or (λ inode. inode ∷ []) c.child.result [])
    (λ (after : Chain). after.end ≡ c.child.result)
    (λ (after : Chain). (names : Path) → IsChain s names c.args.self → IsChain s (names ++ name ∷ []) after)
    c.with.ensures.inodes c.with.ensures.end (λ after inodes end names chain.
    let is : named s names ≡ Some there = sym chain.end ∙ c.in-Some.is in
    record {
      inodes = inodes ∙ ap (λ l. l ++ alone s name c.child.result) chain.inodes
          ∙ ap (λ o. ancestors s names ++ alone s name o) c.child.ensures
          ∙ sym (chain_push s name names root
          ∙ ap (λ e. ancestors s names ++ alone s name (beneath s name e)) is);
      end = end ∙ c.child.ensures ∙ sym (end_push s name names root ∙ ap (beneath s name) is);
    })
