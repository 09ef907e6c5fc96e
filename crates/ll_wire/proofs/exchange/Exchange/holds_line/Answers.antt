use Rattle.std.proofs.Common.{◌≡◌, ◌≤◌, ◌+◌, ◌-◌, ◌∙◌, ap, arith, drop, subst, sym, take}
use Rattle.std.proofs.lemmas.List.{drop-take}
use Rattle.ll_wire.specs.Devices.{line_feeds}
use Rattle.ll_wire.proofs.Cuts.{some_feed}
use Rattle.ll_wire.proofs.exchange.Exchange.holds_line.Goals as goal

pub returns : goal.returns
returns c found =
    let start = c.self.inside.start in
    let end = c.self.inside.end in
    let shown = c.deref.result.now in
    let order = c.self.invariant.0 in
    let whole : start + (end - start) ≡ end = omega (arith, order) in
    subst (λ bytes. 1 ≤ line_feeds bytes) (sym (drop-take start (end - start) shown)
    ∙ ap (λ n. drop start (take n shown)) whole ∙ ap (λ xs. drop start (take end xs)) c.deref.ensures.value
    ∙ ap (λ r. r.bytes) c.self.view_is)
    (some_feed (take (end - start) (drop start shown)) (sym c.contains.ensures.value ∙ found))
