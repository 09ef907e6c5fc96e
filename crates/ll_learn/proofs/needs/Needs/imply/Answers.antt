use Rattle.std.proofs.Common.{List, ℕ, subst}
use Rattle.ll_rules.specs.Layer.{grants_on}
use Rattle.ll_learn.specs.Needs.{GivesNone, GrantsAll}
use Rattle.ll_learn.proofs.AskedGrants.{from_six}
use Rattle.ll_learn.proofs.needs.Needs.imply.Goals as goal

pub returns : goal.returns
returns c = λ yes layer meets.
    let g = grants_on layer in
    let asks = c.args.asks.now in
    let sets = asks.demands in
    let itself = c.as_slice-itself.ensures.value in
    let other = c.as_slice-other.ensures.value in
    let parent = c.as_slice-parent.ensures.value in
    let entered = c.as_slice-entered.ensures.value in
    from_six g asks (
      subst (GrantsAll g sets.itself.0) itself (c.require_all.ensures c.if-not-require_all.false layer meets),
      subst (GrantsAll g sets.other.0) other (c.require_all-2.ensures c.if-not-require_all-2.false layer meets),
      subst (λ n. GrantsAll g n asks.first.parent.items) c.with.ensures
          (subst (GrantsAll g c.with.result.0) parent
          (c.require_all-3.ensures c.if-not-require_all-3.false layer meets)),
      subst (GrantsAll g sets.entered.0) entered (c.require_all-4.ensures c.if-not-require_all-4.false layer meets),
      subst (λ (l : List ℕ). GivesNone g sets.there.0 l asks.second.parent.items) itself
          (subst (GivesNone g sets.there.0 c.as_slice-itself.result.now) entered
          (c.keep.ensures c.if-not-keep.false layer meets)),
      subst (λ (l : List ℕ). GivesNone g sets.back.0 l asks.first.parent.items) other
          (subst (GivesNone g sets.back.0 c.as_slice-other.result.now) parent
          (c.keep-2.ensures yes layer meets)),
    )
