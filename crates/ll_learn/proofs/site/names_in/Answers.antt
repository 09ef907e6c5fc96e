use Rattle.std.proofs.Common.{◌≡◌, ◌∙◌, ℕ, ap, refl, subst, List, [], ◌∷◌}
use Rattle.ll_path.specs.Target.{IsTarget}
use Rattle.ll_seq.specs.State.{State, names_in}
use Rattle.ll_seq.specs.Step.{first_or}
use Rattle.ll_seq.specs.Tree.{inode_of}
use Rattle.ll_seq.specs.declared.reply.Reply.{Reply}
use Rattle.ll_learn.proofs.ListedNames.{listing_is, target_is}
use Rattle.ll_learn.proofs.site.names_in.Goals as goal

-- what doesn't change a state leaves it, refused or not
left : (s : State) (replies : List Reply) (reply : Reply) → (first_or s replies (reply, s)).1 ≡ s
left s [] reply = refl
left s (first ∷ others) reply = refl

pub returns-in-Listed : goal.returns-in-Listed
returns-in-Listed c =
    let step = c.in-Listed.ensures.step (λ e. absurd cc) in
    record {
      same = ap (λ p. p.1) step ∙ left c.args.tree.now _ _;
      names = listing_is c.args.tree.now c.apply-reply.new.self c.args.client c.args.client
          c.read.result c.in-Listed.names step
          ∙ ap (λ p. names_in c.args.tree.now (inode_of c.args.tree.now p))
          (target_is c.as_str.result.now c.read.result c.args.path.now
          (subst (λ (w : List ℕ). IsTarget w c.read.result) c.in_ok-from_text.ensures c.read.ensures)
          c.as_str.ensures.path.0 c.as_str.ensures.path.1);
    }
