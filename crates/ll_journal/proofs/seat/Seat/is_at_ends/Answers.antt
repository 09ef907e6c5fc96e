use Rattle.std.proofs.Common.{ap, drop, not, sym, ◌&&◌, ◌∙◌}
use Rattle.ll_path.specs.Path.{is_root, parent}
use Rattle.ll_seq.specs.Call.{first_path, second_path}
use Rattle.ll_laws.specs.Walk.{trunk_path}
use Rattle.ll_journal.specs.declared.stage.Stage.TheVariants as stage
use Rattle.ll_journal.specs.Seated.{depth_of, is_at_ends}
use Rattle.ll_journal.proofs.Ahead.{ended}
use Rattle.ll_journal.proofs.Ended.{at_ends_by}
use Rattle.ll_journal.proofs.Seats.{trunk_fits, split_fits}
use Rattle.ll_journal.proofs.seat.Seat.is_at_ends.Goals as goal

pub returns-then-not-has_two_paths : goal.returns-then-not-has_two_paths
returns-then-not-has_two_paths c =
    let fit = trunk_fits c.self.inside c.in-Some.call c.in-Some.is c.in-Down.is c.self.invariant.fit in
    let ahead = drop (depth_of c.self.inside.trunk.chain.items) (trunk_path c.in-Some.call) in
    c.is_at_end.ensures ∙ ended (trunk_path c.in-Some.call) (depth_of c.self.inside.trunk.chain.items)
    c.self.inside.trunk.ahead fit.ahead
    ∙ ap (λ b. not b && is_root ahead) (sym c.if-not-has_two_paths.true ∙ c.has_two_paths.ensures)
    ∙ sym (at_ends_by c.self.inside c.in-Some.call stage.Down c.in-Some.is c.in-Down.is)
    ∙ ap is_at_ends c.self.view_is

pub returns-then-is_at_end : goal.returns-then-is_at_end
returns-then-is_at_end c =
    let fit = split_fits c.self.inside c.in-Some.call c.in-Some.is c.in-Split.is c.self.invariant.fit in
    let first = c.is_at_end-in-Split.ensures
    ∙ ended (parent (first_path c.in-Some.call)) (depth_of c.self.inside.first.chain.items)
    c.self.inside.first.ahead fit.first.ahead in
    let second = drop (depth_of c.self.inside.second.chain.items) (parent (second_path c.in-Some.call)) in
    c.is_at_end-then-is_at_end.ensures
    ∙ ended (parent (second_path c.in-Some.call)) (depth_of c.self.inside.second.chain.items)
    c.self.inside.second.ahead fit.second.ahead
    ∙ ap (λ b. b && is_root second) (sym c.if-is_at_end.true ∙ first)
    ∙ sym (at_ends_by c.self.inside c.in-Some.call stage.Split c.in-Some.is c.in-Split.is)
    ∙ ap is_at_ends c.self.view_is

pub returns-else-is_at_end : goal.returns-else-is_at_end
returns-else-is_at_end c =
    let fit = split_fits c.self.inside c.in-Some.call c.in-Some.is c.in-Split.is c.self.invariant.fit in
    let first = c.is_at_end-in-Split.ensures
    ∙ ended (parent (first_path c.in-Some.call)) (depth_of c.self.inside.first.chain.items)
    c.self.inside.first.ahead fit.first.ahead in
    let second = drop (depth_of c.self.inside.second.chain.items) (parent (second_path c.in-Some.call)) in
    c.if-is_at_end.false
    ∙ ap (λ b. b && is_root second) (sym c.if-is_at_end.false ∙ first)
    ∙ sym (at_ends_by c.self.inside c.in-Some.call stage.Split c.in-Some.is c.in-Split.is)
    ∙ ap is_at_ends c.self.view_is
