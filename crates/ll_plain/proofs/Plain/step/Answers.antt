use Rattle.std.specs.Prelude.{◌≡◌, ◌++◌, Some, None, slice_get}
use Rattle.std.proofs.Common.{ap, sym, subst, ◌∙◌}
use Rattle.std.proofs.lemmas.List.{append-nil}
use Rattle.ll_decide.specs.Masks.{AreMasks}
use Rattle.ll_seq.specs.State.{child, root}
use Rattle.ll_seq.specs.Tree.{named, ancestors}
use Rattle.ll_seq.specs.Stages.{in_the_way, no_directory, kind_of_child}
use Rattle.ll_seq.proofs.LongerPaths.{alone, beneath, block, end_push, chain_push, way_push}
use Rattle.ll_plain.proofs.Plain.step.Goals as goal

pub returns-in_default : goal.returns-in_default
returns-in_default c names walk =
    let s = c.args.self.now in
    let name = c.args.name.now in
    let none : named s names ≡ None = sym walk.end ∙ c.in_default.is in
    record {
      end = c.in_default.is ∙ sym (end_push s name names root ∙ ap (beneath s name) none);
      way = walk.way ∙ ap (λ l. slice_get l 0)
          (sym (way_push s name names root ∙ ap (λ e. in_the_way s names root ++ block s name e) none
          ∙ append-nil (in_the_way s names root)));
      masks = subst (AreMasks c.args.walk.masks c.args.domain.now)
          (sym (chain_push s name names root ∙ ap (λ e. ancestors s names ++ alone s name (beneath s name e)) none
          ∙ append-nil (ancestors s names))) walk.masks;
      len = walk.len;
    }

pub returns : goal.returns
returns c names walk =
    let s = c.args.self.now in
    let name = c.args.name.now in
    let there : named s names ≡ Some c.in-Some.directory = sym walk.end ∙ c.in-Some.is in
    record {
      end = c.child-end.ensures ∙ sym (end_push s name names root ∙ ap (beneath s name) there);
      way = c.first.ensures (in_the_way s names root)
          (no_directory (kind_of_child s (child s c.in-Some.directory name))) walk.way
          (λ free. c.in_the_way.ensures ∙ ap (λ o. slice_get (no_directory (kind_of_child s o)) 0) c.child-end.ensures)
          ∙ ap (λ l. slice_get l 0) (sym (way_push s name names root
          ∙ ap (λ e. in_the_way s names root ++ block s name e) there));
      masks = subst (AreMasks c.granted_at.result c.args.domain.now)
          (ap (λ o. ancestors s names ++ alone s name o) c.child-end.ensures
          ∙ sym (chain_push s name names root
          ∙ ap (λ e. ancestors s names ++ alone s name (beneath s name e)) there))
          (c.granted_at.ensures.masks (ancestors s names) walk.masks);
      len = c.granted_at.ensures.len;
    }
