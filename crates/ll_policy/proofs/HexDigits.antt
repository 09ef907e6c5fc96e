-- Bytes by their digits.
use Rattle.std.proofs.Common.{arith, ◌≡◌, ◌==◌, ◌%◌, ℕ, true, ◌&&◌, nat_le, List, [], ◌∷◌, length, None, Ok, refl, ap}
use Rattle.std.proofs.Common.{◌∙◌}
use Rattle.std.specs.Prelude.{unwrap_or, option_and_then}
use Rattle.std.specs.List.{list_all}
use Rattle.std.specs.Result.{result_unwrap_or}
use Rattle.std.proofs.lemmas.Bool.{and_parts, eqb-true}
use Rattle.std.proofs.lemmas.Bool.Decides.{nat_tests}
use Rattle.std.proofs.lemmas.List.Sums.{AllPass-from_list_all}
use Rattle.hex.specs.Hex.{decode_of, decode_pairs, is_hex_digit}
use Rattle.hex.proofs.HexLemmas.{decode_of-digits}
use Rattle.toml.specs.Data.{Members, get_member, as_str}
use Rattle.ll_policy.specs.Calls.{bytes_at}
use Rattle.ll_policy.specs.Value.{is_digit, are_bytes}

decode_of-nothing : decode_of [] ≡ Ok []
unfolding decode_pairs
decode_of-nothing = refl

pub bytes_of_nothing : (key : List ℕ) (t : Members) → get_member key t ≡ None → bytes_at key t ≡ []
bytes_of_nothing key t none =
    ap (λ o. result_unwrap_or (decode_of (unwrap_or (option_and_then as_str o) [])) []) none
    ∙ ap (λ r. result_unwrap_or r []) decode_of-nothing

hex_digit : (b : ℕ) → is_digit b ≡ true → is_hex_digit b ≡ true
hex_digit b e = grind (arith, nat_tests)

all_hex : (text : List ℕ) → list_all is_digit text ≡ true → list_all is_hex_digit text ≡ true
all_hex [] e = refl
all_hex (b ∷ text) e = let parts = and_parts (is_digit b) (list_all is_digit text) e in
    rw (hex_digit b parts.0) (all_hex text parts.1)

pub decodes : (text : List ℕ) → are_bytes text ≡ true → (bytes : List ℕ) × (decode_of text ≡ Ok bytes)
decodes text e =
    let parts = and_parts (nat_le (length text) 131072 && (length text % 2 == 0)) (list_all is_digit text) e in
    let even = and_parts (nat_le (length text) 131072) (length text % 2 == 0) parts.0 in
    decode_of-digits text (eqb-true _ _ even.1) (AllPass-from_list_all is_hex_digit text (all_hex text parts.1))
