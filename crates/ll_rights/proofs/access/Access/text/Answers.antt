use Rattle.std.proofs.Common.{◌≡◌, ◌≢◌, ℕ, true, false, ◌<◌, ◌≤◌, ◌^◌, ◌%◌, sym, ◌∙◌, arith}
use Rattle.std.specs.Prelude.{bit_and}
use Rattle.std.proofs.lemmas.Bool.{eqb-true, eqb-false}
use Rattle.std.proofs.lemmas.Nat.{and_comm, and_mask}
use Rattle.ll_rights.specs.Access.{is_within, all_set}
use Rattle.ll_rights.proofs.Hex.{written}
use Rattle.ll_rights.proofs.RightNames.{text_none, text_names, text_number}
use Rattle.ll_rights.proofs.access.Access.text.Goals as goal

pub returns-then-self-eq0 : goal.returns-then-self-eq0
returns-then-self-eq0 c = rw (c.if-self-eq0.true, text_none) c.from_str.ensures.ok

below : (set : ℕ) → is_within set all_set ≡ true → set < 2 ^ 15
below set within =
    let mask : bit_and all_set set ≡ set % 2 ^ 15 = and_comm all_set set ∙ and_mask set 15 in
    let same : bit_and all_set set ≡ set = eqb-true (bit_and all_set set) set within in
    omega arith

above : (set : ℕ) → is_within set all_set ≡ false → 2 ^ 15 ≤ set
above set outside =
    let mask : bit_and all_set set ≡ set % 2 ^ 15 = and_comm all_set set ∙ and_mask set 15 in
    let other : bit_and all_set set ≢ set = eqb-false (bit_and all_set set) set outside in
    omega arith

pub returns-then-is_within : goal.returns-then-is_within
returns-then-is_within c =
    let names = text_names c.args.self.0 (omega arith) (below c.args.self.0 (sym c.if-is_within.ensures)) in
    rw names c.names.ensures

pub returns-else-is_within : goal.returns-else-is_within
returns-else-is_within c =
    let number = text_number c.args.self.0 (above c.args.self.0 (sym c.if-is_within.ensures)) in
    let digits = written c.args.self.0 (omega arith) (omega arith) in
    rw (number, ← digits) (rw c.in_radix.ensures at c.format.ensures.ok)
