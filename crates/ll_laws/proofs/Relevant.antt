-- Which rights mean something for a node.
use Rattle.std.specs.Prelude.{◌≡◌, ℕ, Bool, true, false, ◌&&◌, ◌==◌, Option, Some, None, refl}
use Rattle.std.specs.List.{list_any}
use Rattle.std.proofs.Common.{sym, ap, ◌∙◌, inl, inr, arith}
use Rattle.std.proofs.lemmas.Bool.{agree_below_at, cases_lt}
use Rattle.std.proofs.lemmas.Nat.Bits.{bit_at_above}
use Rattle.ll_rights.specs.declared.kind.Kind.{Kind}
use Rattle.ll_rights.specs.declared.kind.Kind.TheVariants.{Reg, Dir, Sym, Fifo, Sock, Char, Block}
use Rattle.ll_rights.specs.Right.{all_rights, read_file, write_file, truncate}
use Rattle.ll_rights.specs.Access.{holds, all_set, file_set}
use Rattle.ll_decide.proofs.Bits.{holds-and}
use Rattle.ll_seq.specs.CallParts.{is_relevant}

and_first : (a b : Bool) → (a && b) ≡ true → a ≡ true
and_first true b e = refl
and_first false b e = cc

-- every right of a file is one of all
of_file : (right : ℕ) → holds file_set right ≡ true → holds all_set right ≡ true
of_file right e = and_first (holds all_set right) (holds file_set right) (sym (holds-and all_set file_set right) ∙ e)

-- what means something for a file does so for a directory
pub relevant_dir : (k : Kind) (right : ℕ) → is_relevant (Some k) right ≡ true → is_relevant (Some Dir) right ≡ true
relevant_dir Dir right e = e
relevant_dir Reg right e = of_file right e
relevant_dir Sym right e = of_file right e
relevant_dir Fifo right e = of_file right e
relevant_dir Sock right e = of_file right e
relevant_dir Char right e = of_file right e
relevant_dir Block right e = of_file right e

known : (right : ℕ) → holds all_set right ≡ true → list_any (λ r. r == right) all_rights ≡ true
known right e = elim (cases_lt right 15) [
  | inl below ↦ agree_below_at (λ r. list_any (λ q. q == r) all_rights) (λ _. true) 15 right refl below
  | inr above ↦ absurd (cc (sym e ∙ ap (λ n. n == 1) (bit_at_above all_set 15 right (omega arith) above)))
]

-- what means something for a node is one of the rights
pub is_one_of_all : (k : Option Kind) (right : ℕ) → is_relevant k right ≡ true
    → list_any (λ r. r == right) all_rights ≡ true
is_one_of_all None right e = absurd (cc e)
is_one_of_all (Some k) right e = known right (relevant_dir k right e)

-- the rights by which bytes are read and changed mean something for every node
pub for_bytes : (k : Kind) → (is_relevant (Some k) read_file ≡ true) × (is_relevant (Some k) write_file ≡ true)
    × (is_relevant (Some k) truncate ≡ true)
for_bytes Reg = (refl, refl, refl)
for_bytes Dir = (refl, refl, refl)
for_bytes Sym = (refl, refl, refl)
for_bytes Fifo = (refl, refl, refl)
for_bytes Sock = (refl, refl, refl)
for_bytes Char = (refl, refl, refl)
for_bytes Block = (refl, refl, refl)
