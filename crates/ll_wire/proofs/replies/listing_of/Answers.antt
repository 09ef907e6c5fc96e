use Rattle.std.proofs.Common.{◌∙◌, [], ◌∷◌, ◌++◌, lit<, length, map, subst, sym}
use Rattle.std.specs.List.{slice_split}
use Rattle.std.specs.Prelude.{◌==◌}
use Rattle.std.proofs.lemmas.Iterator.Splits.{YieldsList-from_str_split}
use Rattle.std.proofs.lemmas.Iterator.Consumers.{YieldsList-so_far, YieldsList-turn, YieldsList-end}
use Rattle.ll_seq.specs.Listed.{AreListed}
use Rattle.ll_wire.proofs.NamesInOrder.{name_at, listed_to}
use Rattle.ll_wire.proofs.replies.listing_of.Goals as goal

pub from_text-requires : goal.from_text-requires
from_text-requires c =
    let front = YieldsList-so_far (YieldsList-from_str_split 32 c.args.text.now (lit< tt) (cc) (cc) (cc))
    c.loop-name.yielded _ c.loop-name.yielded_by in
    let t = YieldsList-turn (YieldsList-from_str_split 32 c.args.text.now (lit< tt) (cc) (cc) (cc)) c.loop-name.yielded
    _ c.loop-name.yielded_by _ _ c.in-Some.name c.in-Some.is c.next.ensures.steps in
    (name_at (slice_split (λ b. b == 32) c.args.text.now) (map (λ s. s.now) c.loop-name.yielded) c.in-Some.name.now
    (length c.loop-name.yielded) c.requires t.0 front t.1).0

pub returns : goal.returns
returns c =
    let t = YieldsList-end (YieldsList-from_str_split 32 c.args.text.now (lit< tt) (cc) (cc) (cc)) c.loop-name.yielded _
    c.loop-name.yielded_by _ _ c.in-None.is c.next.ensures.steps in
    c.loop-name.invariant.listing ∙ t.0

pub push-requires : goal.push-requires
push-requires c =
    let front = YieldsList-so_far (YieldsList-from_str_split 32 c.args.text.now (lit< tt) (cc) (cc) (cc))
    c.loop-name.yielded _ c.loop-name.yielded_by in
    let t = YieldsList-turn (YieldsList-from_str_split 32 c.args.text.now (lit< tt) (cc) (cc) (cc)) c.loop-name.yielded
    _ c.loop-name.yielded_by _ _ c.in-Some.name c.in-Some.is c.next.ensures.steps in
    let listed = listed_to (slice_split (λ b. b == 32) c.args.text.now) (map (λ s. s.now) c.loop-name.yielded)
    c.in-Some.name.now (length c.loop-name.yielded) c.requires t.0 front t.1 in
    subst AreListed (λ i. sym c.loop-name.invariant.listing i ++ sym c.in_ok-from_text.ensures i ∷ []) listed
