use Rattle.std.specs.Prelude.{◌≡◌, ◌∷◌, ◌++◌, [], slice_get, unwrap_or}
use Rattle.std.proofs.Common.{ap, sym, subst, ◌∙◌}
use Rattle.ll_decide.specs.Masks.{AreMasks}
use Rattle.ll_path.specs.Path.{parent}
use Rattle.ll_seq.specs.State.{root}
use Rattle.ll_seq.specs.Tree.{named, ancestors, inode_of, directory_of}
use Rattle.ll_seq.specs.Stages.{in_the_way}
use Rattle.ll_seq.proofs.LongerPaths.{alone, beneath, end_push, chain_push}
use Rattle.ll_plain.proofs.Plain.walk_path.Goals as goal

pub returns : goal.returns
returns c =
    let s = c.args.self.now in
    let path = c.args.path.now in
    let front = c.in-Some.parent in
    let name = c.in-Some.name.now in
    let above : front ≡ parent path = c.in-Some.ensures.parent in
    let whole : path ≡ front ++ name ∷ [] = c.in-Some.ensures.whole in
    let node : c.beneath-node.result ≡ named s path =
    c.beneath-node.ensures ∙ ap (beneath s name) c.walk-walk.ensures.end
    ∙ sym (ap (named s) whole ∙ end_push s name front root) in
    let directory : c.unwrap_or-directory.result ≡ directory_of s path =
    c.unwrap_or-directory.ensures ∙ ap (λ o. unwrap_or o 0) c.walk-walk.ensures.end ∙ ap (inode_of s) above in
    record {
      spot = c.spot.ensures path (c.walk-walk.ensures.way ∙ ap (λ p. slice_get (in_the_way s p root) 0) above)
          directory node;
      parent = subst (λ p. AreMasks c.walk-walk.result.masks c.args.domain.now (ancestors s p)) above
          c.walk-walk.ensures.masks;
      itself = subst (AreMasks c.granted_at.result c.args.domain.now)
          (ap (λ o. ancestors s front ++ alone s name o) (c.beneath-node.ensures
          ∙ ap (beneath s name) c.walk-walk.ensures.end)
          ∙ sym (ap (ancestors s) whole ∙ chain_push s name front root))
          (c.granted_at.ensures.masks (ancestors s front)
          (subst (λ m. AreMasks m c.args.domain.now (ancestors s front)) (sym c.copy.ensures)
          c.walk-walk.ensures.masks));
      parent_len = c.walk-walk.ensures.len;
      itself_len = c.granted_at.ensures.len;
    }
