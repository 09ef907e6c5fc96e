-- Texts that a policy takes.
use Rattle.std.proofs.Common.{◌≡◌, ◌≢◌, ◌==◌, ℕ, zero, suc, ◌^◌, ◌<◌, Bool, true, false, ◌||◌, List, [], ◌∷◌, refl, ap}
use Rattle.std.proofs.Common.{sym, ◌∙◌, arith, inl, inr}
use Rattle.std.specs.List.{list_any}
use Rattle.std.specs.Str.{bytes_eq}
use Rattle.std.proofs.lemmas.Slice.Eq.{bytes_eq-Decides}
use Rattle.std.proofs.lemmas.Bool.{cases_Bool, eqb-true, eqb-false}
use Rattle.ll_rights.specs.declared.kind.Kind.{Kind}
use Rattle.ll_rights.specs.declared.kind.Kind.TheVariants.{Reg, Dir, Sym, Fifo, Sock, Char, Block}
use Rattle.ll_rights.specs.Kind.{kind_text}
use Rattle.ll_rights.specs.Access.{access_text}
use Rattle.ll_policy.specs.Value.{is_kind, is_rights, some_below}

pub bytes_eq-same : (a b : List ℕ) → a ≡ b → bytes_eq a b ≡ true
bytes_eq-same a b e = (bytes_eq-Decides a b).1 e

pub bytes_eq-other : (a b : List ℕ) → a ≢ b → bytes_eq a b ≡ false
bytes_eq-other a b other = elim (cases_Bool (bytes_eq a b)) [
  | inl same ↦ absurd (other ((bytes_eq-Decides a b).0 same))
  | inr differs ↦ differs
]

-- ---- kinds

no_kind : (text : List ℕ) (kinds : List Kind) → ((kind : Kind) → text ≢ kind_text kind)
    → list_any (λ kind. bytes_eq text (kind_text kind)) kinds ≡ false
no_kind text [] other = refl
no_kind text (kind ∷ kinds) other = rw (bytes_eq-other text (kind_text kind) (other kind)) (no_kind text kinds other)

pub is_kind-other : (text : List ℕ) → ((kind : Kind) → text ≢ kind_text kind) → is_kind text ≡ false
is_kind-other text other = no_kind text (Reg ∷ Dir ∷ Sym ∷ Fifo ∷ Sock ∷ Char ∷ Block ∷ []) other

-- ---- rights

or_true : (a b : Bool) → b ≡ true → (a || b) ≡ true
or_true true b e = refl
or_true false b e = e

some_passes : (n k : ℕ) (passes : ℕ → Bool) → k < n → passes k ≡ true → some_below n passes ≡ true
unfolding some_below
some_passes zero k passes low e = absurd (omega arith)
some_passes (suc n) k passes low e = elim (cases_Bool (k == n)) [
  | inl same ↦ (let here : passes n ≡ true = ap passes (sym (eqb-true k n same)) ∙ e in rw here refl)
  | inr other ↦ (let ne : k ≢ n = eqb-false k n other
      in or_true (passes n) (some_below n passes) (some_passes n k passes (omega arith) e))
]

none_passes : (n : ℕ) (passes : ℕ → Bool) → ((k : ℕ) → k < n → passes k ≡ false) → some_below n passes ≡ false
unfolding some_below
none_passes zero passes none = refl
none_passes (suc n) passes none = rw (none n (omega arith)) (none_passes n passes (λ k low. none k (omega arith)))

pub is_rights-text : (set : ℕ) → set < 2 ^ 64 → is_rights (access_text set) ≡ true
is_rights-text set low = some_passes (2 ^ 64) set (λ other. bytes_eq (access_text set) (access_text other)) low
    (bytes_eq-same (access_text set) (access_text set) refl)

pub is_rights-other : (text : List ℕ) → ((set : ℕ) → set < 2 ^ 64 → text ≢ access_text set) → is_rights text ≡ false
is_rights-other text other = none_passes (2 ^ 64) (λ set. bytes_eq text (access_text set))
    (λ set low. bytes_eq-other text (access_text set) (other set low))
