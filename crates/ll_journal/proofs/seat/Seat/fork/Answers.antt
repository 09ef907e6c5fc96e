use Rattle.std.proofs.Common.{◌≡◌, ap, sym, subst, ◌∙◌, true, false, is_some, length, option_map}
use Rattle.ll_path.specs.Path.{parent}
use Rattle.std.specs.Option.{option_map_or}
use Rattle.ll_laws.specs.Walk.{Walk, forked}
use Rattle.ll_journal.specs.Book as book
use Rattle.ll_journal.specs.Seated.{split}
use Rattle.ll_journal.proofs.SeatForks.{trunk_short, fits_split, split_is}
use Rattle.ll_journal.proofs.seat.Seat.fork.Goals as goal

pub follow-requires-clause-short : goal.follow-requires-clause-short
follow-requires-clause-short c =
    let may = subst (λ (s : book.Seat). option_map_or (λ (walk : Walk). is_some (forked walk.call walk.at)) s.walk false
    ≡ true) (sym c.self.view_is) c.requires in
    trunk_short c.self.inside c.in-Some.call c.in-Some.is c.self.invariant.fit c.self.invariant.short may

pub follow-requires-2-clause-short : goal.follow-requires-2-clause-short
follow-requires-2-clause-short c =
    let may = subst (λ (s : book.Seat). option_map_or (λ (walk : Walk). is_some (forked walk.call walk.at)) s.walk false
    ≡ true) (sym c.self.view_is) c.requires in
    trunk_short c.self.inside c.in-Some.call c.in-Some.is c.self.invariant.fit c.self.invariant.short may

pub invariant_of-self : goal.invariant_of-self
invariant_of-self c =
    let may = subst (λ (s : book.Seat). option_map_or (λ (walk : Walk). is_some (forked walk.call walk.at)) s.walk false
    ≡ true) (sym c.self.view_is) c.requires in
    let first = c.way_len-first.ensures.len ∙ ap (λ p. length (parent p)) c.first_path.ensures in
    let second = c.way_len-second.ensures.len ∙ ap (λ p. length (parent p)) c.second_path.ensures in
    record {
      trunk = c.self.invariant.trunk;
      first = c.follow.ensures.roomy;
      second = c.follow-2.ensures.roomy;
      short = c.self.invariant.short;
      fit = fits_split c.self.inside c.in-Some.call c.in-Some.is c.self.invariant.fit c.self.invariant.short may
          c.follow.new.self c.follow-2.new.self
          (record {
            chain_is = c.follow.ensures.chain;
            masks_are = c.follow.ensures.masks;
            ahead_is = c.follow.ensures.ahead ∙ ap (λ n. record c.self.inside.trunk.ahead { len = n }) first;
          })
          (record {
            chain_is = c.follow-2.ensures.chain;
            masks_are = c.follow-2.ensures.masks;
            ahead_is = c.follow-2.ensures.ahead ∙ ap (λ n. record c.self.inside.trunk.ahead { len = n }) second;
          });
    }

pub returns : goal.returns
returns c =
    let may = subst (λ (s : book.Seat). option_map_or (λ (walk : Walk). is_some (forked walk.call walk.at)) s.walk false
    ≡ true) (sym c.self.view_is) c.requires in
    split_is c.self.inside c.in-Some.call c.in-Some.is c.self.invariant.fit c.self.invariant.short may c.follow.new.self
    c.follow-2.new.self c.follow.ensures.chain c.follow-2.ensures.chain
    ∙ ap (λ (s : book.Seat). record s { walk = option_map split s.walk }) c.self.view_is
