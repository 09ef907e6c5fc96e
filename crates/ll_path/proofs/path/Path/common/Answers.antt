use Rattle.std.proofs.Common.{◌≡◌, ◌<◌, ◌-◌, ℕ, List, take, arith, sym, ◌∙◌, ap}
use Rattle.std.specs.List.{All, slice_range}
use Rattle.std.specs.Str.{IsAscii}
use Rattle.std.proofs.lemmas.List.Elements.{All-weaker}
use Rattle.std.proofs.lemmas.Str.{IsCharBoundary-from_ascii}
use Rattle.std.proofs.lemmas.Str.Ascii.{IsAscii-from_all}
use Rattle.ll_path.specs.Word.{IsVisible}
use Rattle.ll_path.specs.Path.{Path, common}
use Rattle.ll_path.proofs.Splits.{cut_at_slashes}
use Rattle.ll_path.proofs.CommonNames.{spelled_len, spelled_few, no_bytes, cut_common}
use Rattle.ll_path.proofs.path.Path.common.Goals as goal

len_is : (p q names others : Path) (len : ℕ) → len ≡ spelled_len (common names others) → names ≡ p → others ≡ q
    → len ≡ spelled_len (common p q)
len_is p q names others len e n o =
    e ∙ ap (λ (x : Path). spelled_len (common x others)) n ∙ ap (λ (x : Path). spelled_len (common p x)) o

ascii : (text : List ℕ) → All (λ b. IsVisible b) text → IsAscii text
ascii text visible = IsAscii-from_all text
    (All-weaker (λ b. IsVisible b) (λ b. b < 128) (λ b h. omega arith) text visible)

range_is : (text : List ℕ) (n : ℕ) → slice_range text 0 n ≡ take n text
range_is text n = let all : n - 0 ≡ n = omega arith in ap (λ (m : ℕ). take m text) all

pub shared_len-len-requires : goal.shared_len-len-requires
shared_len-len-requires c = omega (
  arith,
  spelled_few c.args.self.now c.joined-joined.ensures.each c.joined-joined.ensures.few,
  ap spelled_len c.names.ensures,
)

pub returns-then-len-eq0 : goal.returns-then-len-eq0
returns-then-len-eq0 c =
    let len = len_is c.args.self.now c.args.other.now _ _ _ c.shared_len-len.ensures c.names.ensures c.names-2.ensures
    in
    c.none.ensures ∙ sym (no_bytes (common c.args.self.now c.args.other.now) (sym len ∙ c.if-len-eq0.true))

pub range-requires-clause-end_boundary : goal.range-requires-clause-end_boundary
range-requires-clause-end_boundary c =
    let len = len_is c.args.self.now c.args.other.now _ _ _ c.shared_len-len.ensures c.names.ensures c.names-2.ensures
    in
    let cut = cut_common c.args.self.now c.args.other.now _ c.joined-joined.ensures.text c.joined-joined.ensures.each
    (λ none. c.if-len-eq0.false (len ∙ none)) in
    IsCharBoundary-from_ascii _ _ (ascii _ c.joined-joined.ensures.visible) (omega (arith, cut.0, len))

pub returns : goal.returns
returns c =
    let len = len_is c.args.self.now c.args.other.now _ _ _ c.shared_len-len.ensures c.names.ensures c.names-2.ensures
    in
    let cut = cut_common c.args.self.now c.args.other.now _ c.joined-joined.ensures.text c.joined-joined.ensures.each
    (λ none. c.if-len-eq0.false (len ∙ none)) in
    c.between_slashes.ensures ∙ ap cut_at_slashes (c.range.ensures.value ∙ range_is _ _
    ∙ ap (λ (n : ℕ). take (n - 1) c.joined-joined.result.now) len) ∙ cut.1
