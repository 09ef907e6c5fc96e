use Rattle.std.proofs.Common.{◌≤◌, map, take, length, codes, arith}
use Rattle.ll_wire.proofs.EntryTokens.{one_part, length_is, no_front, no_sign, cuts, front_length}
use Rattle.ll_wire.proofs.ReadReplies.{stripped}
use Rattle.ll_wire.proofs.entry.cut_of.Goals as goal

pub returns-in_err-name-clause-none : goal.returns-in_err-name-clause-none
returns-in_err-name-clause-none c = rw c.from_residual.ensures (one_part c.args.text.now c.in_err-name.ensures.none)

pub returns-in_err-rest-clause-none : goal.returns-in_err-rest-clause-none
returns-in_err-rest-clause-none c = rw c.from_residual-in_err-rest.ensures (λ call reply is.
    no_front c.args.text.now c.call_len-count.result c.in_err-rest.ensures.none call reply
    (length_is c.args.text.now c.in_ok-name.name.now c.in_ok-name.field-0-1.now c.call_len-count.result
    c.in_ok-name.ensures.found c.call_len-count.ensures.call call reply is) is)

pub returns-in_err-reply-clause-none : goal.returns-in_err-reply-clause-none
returns-in_err-reply-clause-none c = rw c.from_residual-in_err-reply.ensures (λ call reply is.
    let len = length_is c.args.text.now c.in_ok-name.name.now c.in_ok-name.field-0-1.now c.call_len-count.result
    c.in_ok-name.ensures.found c.call_len-count.ensures.call call reply is in
    no_sign c.args.text.now c.in_ok-rest.rest.now
    (map (λ t. t.now) (take c.call_len-count.result c.front_of.new.tokens)) c.in_err-reply.ensures.cases
    c.in_ok-rest.ensures.found call reply
    (front_length c.front_of.new.tokens c.call_len-count.result _ (omega arith) len) is)

pub returns-clause-found : goal.returns-clause-found
returns-clause-found c =
    let fits : c.call_len-count.result ≤ length c.front_of.new.tokens = omega arith in (
      fits,
      cuts c.args.text.now c.in_ok-rest.rest.now c.in_ok-reply.reply.now
          (map (λ t. t.now) (take c.call_len-count.result c.front_of.new.tokens))
          (stripped (codes "= ") c.in_ok-rest.rest.now c.in_ok-reply.reply.now c.in_ok-reply.ensures.cases)
          c.in_ok-rest.ensures.found
          (λ call reply is. front_length c.front_of.new.tokens c.call_len-count.result _ fits
          (length_is c.args.text.now c.in_ok-name.name.now c.in_ok-name.field-0-1.now c.call_len-count.result
          c.in_ok-name.ensures.found c.call_len-count.ensures.call call reply is)),
    )
