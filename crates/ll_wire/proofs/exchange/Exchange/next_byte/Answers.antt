use Rattle.std.proofs.Common.{◌≡◌, ◌∙◌, ◌+◌, ◌++◌, [], ap, refl, sym, drop, take}
use Rattle.ll_wire.proofs.LeftToRead.{next_of, none_after}
use Rattle.ll_wire.proofs.exchange.Exchange.next_byte.Goals as goal

pub returns-in-Some-clause-byte : goal.returns-in-Some-clause-byte
returns-in-Some-clause-byte g c left is =
    let l = c.in_ok-fill.ensures.left left is in
    let next = next_of c.deref.result.now c.self.inside.chunk.items c.self.inside.start c.self.inside.end
    c.in-Some.byte.now c.deref.ensures.value c.in-Some.ensures.lookup.3.0 c.in-Some.ensures.lookup.1 in (
      drop (c.self.inside.start + 1) (take c.self.inside.end c.self.inside.chunk.items) ++ l.rest,
      l.all ∙ ap (λ bytes. bytes ++ l.rest) (sym (ap (λ r. r.bytes) c.self.view_is) ∙ next),
      record {
        rest = l.rest;
        told = l.told;
        all = refl;
        ended = λ e. l.ended (sym (ap (λ r. r.is_ended) c.self.view_is) ∙ e);
      },
    )

pub returns-in-None-clause-byte : goal.returns-in-None-clause-byte
returns-in-None-clause-byte g c left is =
    let l = c.in_ok-fill.ensures.left left is in
    let none : c.fill.new.self.bytes ≡ [] = sym (ap (λ r. r.bytes) c.self.view_is)
    ∙ none_after c.deref.result.now c.self.inside.chunk.items c.self.inside.start c.self.inside.end
    c.deref.ensures.value c.in-None.ensures.lookup.3 in
    let ended : l.rest ≡ [] = l.ended (c.in_ok-fill.ensures.some none) in
    let nothing : left ≡ [] = l.all ∙ ap (λ bytes. bytes ++ l.rest) none ∙ ended in (
      nothing,
      record {
        rest = l.rest;
        told = l.told;
        all = sym (ap (λ bytes. bytes ++ l.rest) none ∙ ended);
        ended = l.ended;
      },
    )
