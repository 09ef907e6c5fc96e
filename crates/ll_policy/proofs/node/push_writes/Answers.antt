use Rattle.std.proofs.Common.{◌≡◌, ◌+◌, ◌*◌, ◌++◌, [], ◌∷◌, min, length, take, drop, map, ap, sym, ◌∙◌, arith, rules}
use Rattle.std.proofs.Common.{append_assoc, append-nil}
use Rattle.std.specs.List.{range_with_len}
use Rattle.std.proofs.lemmas.List.{length_push, length-append}
use Rattle.std.proofs.lemmas.List.FromFn.{map-range_with_len_more}
use Rattle.ll_seq.specs.declared.call.Call.TheVariants.{Write}
use Rattle.ll_policy.specs.Calls.{write_of}
use Rattle.ll_policy.proofs.DataPieces.{this_piece, after_piece, starts_at, pieces_end}
use Rattle.ll_policy.proofs.node.push_writes.Goals as goal

pub loop-piece-init : goal.loop-piece-init
loop-piece-init c =
    let from : c.into_iter-piece-iterator.result.rest.now ≡ c.args.bytes.now = search rules in record {
      size = search rules;
      rest = from;
      offset = omega (arith, ap length from);
      few = omega arith;
      calls = sym (append-nil c.args.calls.now.items);
    }

pub loop-piece-preserved : goal.loop-piece-preserved
loop-piece-preserved c =
    let bytes = c.args.bytes.now in
    let number = length c.loop-piece.yielded in
    let rest = c.loop-piece.piece-iterator.rest.now in
    let piece = c.in-Some.piece.now in
    let others = c.next.new.self.rest.now in
    let old = c.args.calls.now.items in
    let invariant = c.loop-piece.invariant in
    let steps = c.in-Some.ensures.steps in
    let short : length piece ≡ min 4096 (length rest) = rw (← invariant.size) steps.1.1 in
    let more : length (c.loop-piece.yielded ++ c.in-Some.piece ∷ []) ≡ number + 1 =
    length_push c.loop-piece.yielded c.in-Some.piece in
    let starts = starts_at bytes rest piece others number invariant.rest steps.1.0 short in
    let here : c.loop-piece.offset ≡ number * 4096 = omega (arith, invariant.offset, starts, steps.1.2) in
    let taken : c.in-Ok.data ≡ take 4096 (drop (number * 4096) bytes) =
    c.in-Ok.ensures.ok.1 ∙ c.in_ok-to_vec.ensures.items_if_clones_equal (λ x y e. e)
    ∙ this_piece bytes rest piece others number invariant.rest steps.1.0 short in
    let call : Write 0 c.loop-piece.offset c.in-Ok.data ≡ write_of bytes number = λ i. Write 0 (here i) (taken i) in
    let front = map (write_of bytes) (range_with_len 0 number) in record {
      size = steps.0 ∙ invariant.size;
      rest = after_piece bytes rest piece others number invariant.rest steps.1.0 short
          ∙ ap (λ k. drop (k * 4096) bytes) (sym more);
      offset = omega (arith, invariant.offset, ap length steps.1.0, length-append piece others);
      few = rw more (omega (arith, starts, steps.1.2));
      calls = c.in_ok-push.ensures.items
          ∙ ap (λ calls. calls ++ Write 0 c.loop-piece.offset c.in-Ok.data ∷ []) invariant.calls
          ∙ append_assoc old front (Write 0 c.loop-piece.offset c.in-Ok.data ∷ [])
          ∙ ap (λ calls. old ++ calls) (ap (λ x. front ++ x ∷ []) call
          ∙ sym (map-range_with_len_more (write_of bytes) 0 number number (omega arith))
          ∙ ap (λ k. map (write_of bytes) (range_with_len 0 k)) (sym more));
    }

pub returns : goal.returns
returns c =
    let invariant = c.loop-piece.invariant in
    let count = pieces_end c.args.bytes.now c.loop-piece.piece-iterator.rest.now (length c.loop-piece.yielded)
    invariant.rest c.in-None.ensures.steps.1.0 invariant.few in
    invariant.calls ∙ ap (λ k. c.args.calls.now.items ++ map (write_of c.args.bytes.now) (range_with_len 0 k)) count
