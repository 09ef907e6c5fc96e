use Rattle.std.proofs.Common.{◌≡◌, ◌<◌, ◌^◌, ℕ, List, ap, subst, ◌∙◌, arith}
use Rattle.ll_rights.specs.Kind.{relevant}
use Rattle.ll_rights.specs.declared.kind.Kind.{Kind}
use Rattle.ll_rights.specs.declared.kind.Kind.TheVariants.{Reg, Dir, Sym, Fifo, Sock, Char, Block}
use Rattle.ll_rules.specs.Layer.{Layer}
use Rattle.ll_path.specs.Path.{Path}
use Rattle.ll_seq.specs.State.{State}
use Rattle.ll_seq.specs.Tree.{ancestors}
use Rattle.ll_why.specs.declared.rights.PathRights.{PathRights}
use Rattle.ll_why.specs.Rights.{AreByLayers, AreRightsOf}
use Rattle.ll_why.proofs.Sets.{both_ok}
use Rattle.ll_why.proofs.rights.rights_of.Goals as goal

relevant_known : (kind : Kind) → relevant kind < 2 ^ 15
relevant_known Dir = omega arith
relevant_known Reg = omega arith
relevant_known Sym = omega arith
relevant_known Fifo = omega arith
relevant_known Sock = omega arith
relevant_known Char = omega arith
relevant_known Block = omega arith

are_rights : (s : State) (domain : List Layer) (path : Path) (kind : Kind) (inodes : List ℕ) (told : PathRights)
    → inodes ≡ ancestors s path → told.kind ≡ kind → AreByLayers domain inodes (relevant kind) told
    → AreRightsOf s domain path kind told
are_rights s domain path kind inodes told chain same by =
    let all : AreByLayers domain (ancestors s path) (relevant kind) told =
    subst (λ l. AreByLayers domain l (relevant kind) told) chain by in
    record {
      is = same;
      known = let fits = relevant_known kind in let fewer = all.fewer in omega (arith, fits, fewer);
      rights = all.rights;
      layers = all.layers;
    }

pub returns : goal.returns
returns c =
    let s = c.args.tree.now in
    let path = c.args.path.now in
    let kind = c.args.kind in
    let chain = c.in_ok-chain.ensures in
    both_ok c.by_layers.result (λ (told : PathRights). told.kind ≡ kind)
    (λ (told : PathRights). AreByLayers c.layers.result.now c.deref.result.now (relevant kind) told)
    (λ (told : PathRights). AreRightsOf s c.args.domain.now path kind told)
    c.by_layers.ensures.kind c.by_layers.ensures.layers (λ told same by.
    are_rights s c.args.domain.now path kind c.deref.result.now told
    (c.deref.ensures.value ∙ chain.inodes ∙ ap (ancestors s) c.names.ensures) same
    (subst (λ (l : List Layer). AreByLayers l c.deref.result.now (relevant kind) told) c.layers.ensures
    by))
