-- The tokens of a call are visible bytes, so a line is cut at its spaces.
use Rattle.std.proofs.Common.{◌≡◌, ℕ, suc, zero, ◌+◌, ◌^◌, ◌<◌, ◌≤◌, Bool, true, false, ◌&&◌, leb, List, [], ◌∷◌, ◌++◌}
use Rattle.std.proofs.Common.{map, refl, ap, ◌∙◌, arith, codes, inl, inr}
use Rattle.std.specs.Prelude.{◌==◌, if◌then◌else◌, nat_lt}
use Rattle.std.specs.List.{slice_split, AllByRecursion, join_with_byte}
use Rattle.std.specs.Fmt.{decimal}
use Rattle.std.specs.Char.{digit_char}
use Rattle.std.specs.Int.Digits.{digits_of, AllBelowBase}
use Rattle.std.specs.Str.{IsAscii}
use Rattle.std.specs.Str.Parse.{AllDigits}
use Rattle.std.proofs.lemmas.Str.Parse.{digit_from_value}
use Rattle.std.proofs.lemmas.Fmt.{decimal_is_IsNumeral}
use Rattle.std.proofs.lemmas.Int.Digits.{all_below_base_digits_of}
use Rattle.std.proofs.lemmas.Bool.{leb-true, ne_eqb, cases_lt, cases_Bool, and_parts}
use Rattle.std.proofs.lemmas.List.Elements.{All-from_recursion}
use Rattle.std.proofs.lemmas.List.Splits.{slice_split_at, slice_split_none}
use Rattle.ll_rights.specs.declared.kind.Kind.{Kind}
use Rattle.ll_rights.specs.declared.kind.Kind.TheVariants as kinds
use Rattle.ll_rights.specs.Kind.{kind_text}
use Rattle.ll_rights.specs.Right.{right_text, all_rights}
use Rattle.ll_rights.specs.Access.{holds, names_among, set_names, access_text}
use Rattle.ll_rights.proofs.RightNames.{names_yes, names_no, names_end, text_none, text_names, text_number}
use Rattle.ll_path.specs.Word.{IsVisible}
use Rattle.ll_seq.specs.declared.call.AccessMode.{AccessMode}
use Rattle.ll_seq.specs.declared.call.AccessMode.TheVariants as ways
use Rattle.ll_seq.specs.declared.call.Creation.{Creation}
use Rattle.ll_seq.specs.declared.call.Creation.TheVariants.{Never, IfMissing, Exclusive}
use Rattle.ll_seq.specs.declared.call.Mode.{Mode}
use Rattle.ll_seq.specs.declared.call.Call.{Call}
use Rattle.ll_seq.specs.declared.call.Call.TheVariants as calls
use Rattle.ll_seq.specs.Listed.{IsData}
use Rattle.ll_wire.specs.Grammar.{way_text, truncate_text, creation_text, mode_text, data_text, call_tokens, IsCall}
use Rattle.ll_wire.specs.Grammar.{client_tokens, IsClient}
use Rattle.ll_wire.specs.Parts.{IsDigit}
use Rattle.ll_wire.proofs.Digits.{data_digits}

abbrev pub IsToken : List ℕ → Type 0
IsToken token = AllByRecursion IsVisible token

-- ---- literals, by a test that computes

abbrev pub visible : List ℕ → Bool
visible [] = true
visible (b ∷ bs) = leb 33 b && (leb b 126 && visible bs)

pub visible_is : (token : List ℕ) → visible token ≡ true → IsToken token
visible_is [] e = tt
visible_is (b ∷ bs) e =
    let p = and_parts (leb 33 b) (leb b 126 && visible bs) e in
    let q = and_parts (leb b 126) (visible bs) p.1 in
    ((leb-true _ _ p.0, leb-true _ _ q.0), visible_is bs q.1)

pub kind_token : (kind : Kind) → IsToken (kind_text kind)
kind_token kinds.Reg = visible_is (codes "reg") refl
kind_token kinds.Dir = visible_is (codes "dir") refl
kind_token kinds.Sym = visible_is (codes "sym") refl
kind_token kinds.Fifo = visible_is (codes "fifo") refl
kind_token kinds.Sock = visible_is (codes "sock") refl
kind_token kinds.Char = visible_is (codes "char") refl
kind_token kinds.Block = visible_is (codes "block") refl

-- ---- numbers

digits_token : (ds : List ℕ) → AllDigits 10 ds → IsToken ds
digits_token [] h = tt
digits_token (d ∷ ds) h = let r = digit_from_value d h.0 in ((omega arith, omega arith), digits_token ds h.1)

pub number_token : (n : ℕ) → n < 2 ^ 64 → IsToken (decimal n)
number_token n h = digits_token (decimal n) (decimal_is_IsNumeral n h).0.1

pub all_append : {A : Type 0} (P : A → Type 0) (xs ys : List A) → AllByRecursion P xs → AllByRecursion P ys
    → AllByRecursion P (xs ++ ys)
all_append P [] ys h k = k
all_append P (x ∷ xs) ys h k = (h.0, all_append P xs ys h.1 k)

-- ---- modes

way_token : (way : AccessMode) → IsToken (way_text way)
way_token ways.Read = visible_is (codes "r") refl
way_token ways.Write = visible_is (codes "w") refl
way_token ways.ReadWrite = visible_is (codes "rw") refl

truncate_token : (truncate : Bool) → IsToken (truncate_text truncate)
truncate_token true = visible_is (codes "t") refl
truncate_token false = tt

creation_token : (creation : Creation) → IsToken (creation_text creation)
creation_token Never = tt
creation_token IfMissing = visible_is (codes "c") refl
creation_token Exclusive = visible_is (codes "cx") refl

mode_token : (mode : Mode) → IsToken (mode_text mode)
mode_token mode = all_append IsVisible (way_text mode.access ++ truncate_text mode.truncate)
    (creation_text mode.creation)
    (all_append IsVisible (way_text mode.access) (truncate_text mode.truncate) (way_token mode.access)
    (truncate_token mode.truncate))
    (creation_token mode.creation)

-- ---- bytes

digit_is_visible : (c : ℕ) → IsDigit c → IsVisible c
digit_is_visible c (inl h) = (omega arith, omega arith)
digit_is_visible c (inr h) = (omega arith, omega arith)

digits_are_token : (text : List ℕ) → AllByRecursion IsDigit text → IsToken text
digits_are_token [] h = tt
digits_are_token (c ∷ text) h = (digit_is_visible c h.0, digits_are_token text h.1)

pub data_token : (bytes : List ℕ) → IsData bytes → IsToken (data_text bytes)
data_token bytes h = elim (data_digits bytes h) [
  | inl none ↦ rw none (visible_is (codes "-") refl)
  | inr digits ↦ digits_are_token (data_text bytes) digits
]

-- ---- sets of rights

join_token : (names : List (List ℕ)) → AllByRecursion IsToken names → IsToken (join_with_byte 44 names)
join_token [] h = tt
join_token (name ∷ []) h = h.0
join_token (name ∷ next ∷ names) h =
    all_append IsVisible name (44 ∷ join_with_byte 44 (next ∷ names)) h.0
    ((omega arith, omega arith), join_token (next ∷ names) h.1)

abbrev all_visible : List ℕ → Bool
all_visible [] = true
all_visible (right ∷ rights) = visible (right_text right) && all_visible rights

names_tokens : (rights : List ℕ) (set : ℕ) → all_visible rights ≡ true → AllByRecursion IsToken (names_among rights set)
names_tokens [] set e = rw (names_end set) tt
names_tokens (right ∷ rights) set e =
    let p = and_parts (visible (right_text right)) (all_visible rights) e in
    elim (cases_Bool (holds set right)) [
      | inl there ↦ rw (names_yes right rights set there)
          (visible_is (right_text right) p.0, names_tokens rights set p.1)
      | inr missing ↦ rw (names_no right rights set missing) (names_tokens rights set p.1)
    ]

digit_visible : (d : ℕ) → d < 16 → IsVisible (digit_char d)
digit_visible d h = chosen (nat_lt d 10)
  where
    chosen : (b : Bool) → IsVisible (if b then 48 + d else (87 + d))
    chosen true = (omega arith, omega arith)
    chosen false = (omega arith, omega arith)

hex_token : (ds : List ℕ) → AllBelowBase 16 ds → IsToken (map digit_char ds)
hex_token [] h = tt
hex_token (d ∷ ds) h = (digit_visible d h.0, hex_token ds h.1)

rights_token : (set : ℕ) → IsToken (access_text set)
rights_token set = elim (cases_lt 0 set) [
  | inr le ↦ (let none : set ≡ 0 = omega arith in rw (none, text_none) (visible_is (codes "none") refl))
  | inl some ↦ elim (cases_lt set 32768) [
    | inl known ↦ rw (text_names set some known) (join_token (set_names set) (names_tokens all_rights set refl))
    | inr unknown ↦ rw (text_number set unknown)
        (all_append IsVisible (codes "0x") (map digit_char (digits_of 16 set)) (visible_is (codes "0x") refl)
        (hex_token (digits_of 16 set) (all_below_base_digits_of 16 set (omega arith))))
  ]
]

-- ---- calls

pub call_is_tokens : (call : Call) → IsCall call → AllByRecursion IsToken (call_tokens call)
call_is_tokens (calls.Make kind target) h = (visible_is (codes "make") refl, (kind_token kind, (h.0.2, tt)))
call_is_tokens (calls.Open mode target) h = (visible_is (codes "open") refl, (mode_token mode, (h.0.2, tt)))
call_is_tokens (calls.Read fd offset count) h =
    (visible_is (codes "read") refl, (number_token fd h.0, (number_token offset h.1, (number_token count h.2, tt))))
call_is_tokens (calls.Write fd offset bytes) h =
    (visible_is (codes "write") refl, (number_token fd h.0, (number_token offset h.1, (data_token bytes h.2, tt))))
call_is_tokens (calls.Ftruncate fd size) h =
    (visible_is (codes "ftruncate") refl, (number_token fd h.0, (number_token size h.1, tt)))
call_is_tokens (calls.Close fd) h = (visible_is (codes "close") refl, (number_token fd h, tt))
call_is_tokens (calls.Truncate target size) h =
    (visible_is (codes "truncate") refl, (h.0.0.2, (number_token size h.1, tt)))
call_is_tokens (calls.ReadDir target) h = (visible_is (codes "list") refl, (h.0.2, tt))
call_is_tokens (calls.Stat target) h = (visible_is (codes "stat") refl, (h.0.2, tt))
call_is_tokens (calls.Exec target) h = (visible_is (codes "exec") refl, (h.0.2, tt))
call_is_tokens (calls.Unlink target) h = (visible_is (codes "unlink") refl, (h.0.2, tt))
call_is_tokens (calls.Rmdir target) h = (visible_is (codes "rmdir") refl, (h.0.2, tt))
call_is_tokens (calls.Rename old new) h = (visible_is (codes "rename") refl, (h.0.0.2, (h.1.0.2, tt)))
call_is_tokens (calls.RenameNoreplace old new) h =
    (visible_is (codes "rename_noreplace") refl, (h.0.0.2, (h.1.0.2, tt)))
call_is_tokens (calls.Exchange old new) h = (visible_is (codes "exchange") refl, (h.0.0.2, (h.1.0.2, tt)))
call_is_tokens (calls.Link old new) h = (visible_is (codes "link") refl, (h.0.0.2, (h.1.0.2, tt)))
call_is_tokens (calls.Ruleset rights) h = (visible_is (codes "ruleset") refl, (rights_token rights.0, tt))
call_is_tokens (calls.Allow number target rights) h =
    (visible_is (codes "allow") refl, (number_token number h.0, (h.1.0.2, (rights_token rights.0, tt))))
call_is_tokens (calls.Confine number) h = (visible_is (codes "confine") refl, (number_token number h, tt))
call_is_tokens calls.Spawn h = (visible_is (codes "spawn") refl, tt)
call_is_tokens calls.Connect h = absurd h

client_is_tokens : (client : ℕ) → client ≤ 64 → AllByRecursion IsToken (client_tokens client)
client_is_tokens client h = of (client == 1)
  where
    of : (b : Bool) → AllByRecursion IsToken (if b then [] else (64 ∷ decimal client) ∷ [])
    of true = tt
    of false = (((omega arith, omega arith), number_token client (omega arith)), tt)

pub command_is_tokens : (client : ℕ) (call : Call) → IsClient client → IsCall call
    → AllByRecursion IsToken (client_tokens client ++ call_tokens call)
command_is_tokens client call h k =
    all_append IsToken (client_tokens client) (call_tokens call) (client_is_tokens client h.1) (call_is_tokens call k)

-- ---- lines

no_space : (token : List ℕ) → IsToken token → AllByRecursion (λ b. (b == 32) ≡ false) token
no_space [] h = tt
no_space (b ∷ bs) h = (ne_eqb b 32 (λ e. omega arith), no_space bs h.1)

pub cut_at_spaces : (token : List ℕ) (tokens : List (List ℕ)) → AllByRecursion IsToken (token ∷ tokens)
    → slice_split (λ b. b == 32) (join_with_byte 32 (token ∷ tokens)) ≡ token ∷ tokens
cut_at_spaces token [] h = slice_split_none (λ b. b == 32) token
    (All-from_recursion (λ b. (b == 32) ≡ false) token (no_space token h.0))
cut_at_spaces token (next ∷ tokens) h =
    slice_split_at (λ b. b == 32) token 32 (join_with_byte 32 (next ∷ tokens))
    (All-from_recursion (λ b. (b == 32) ≡ false) token (no_space token h.0)) refl
    ∙ ap (λ (ts : List (List ℕ)). token ∷ ts) (cut_at_spaces next tokens h.1)

small : (token : List ℕ) → IsToken token → AllByRecursion (λ b. b < 128) token
small [] h = tt
small (b ∷ bs) h = (omega arith, small bs h.1)

join_small : (tokens : List (List ℕ)) → AllByRecursion IsToken tokens
    → AllByRecursion (λ b. b < 128) (join_with_byte 32 tokens)
join_small [] h = tt
join_small (token ∷ []) h = small token h.0
join_small (token ∷ next ∷ tokens) h =
    all_append (λ b. b < 128) token (32 ∷ join_with_byte 32 (next ∷ tokens)) (small token h.0)
    (omega arith, join_small (next ∷ tokens) h.1)

ascii : (bs : List ℕ) → AllByRecursion (λ b. b < 128) bs → IsAscii bs
ascii [] h i = omega arith
ascii (b ∷ bs) h zero = h.0
ascii (b ∷ bs) h (suc i) = ascii bs h.1 i

pub body_is_ascii : (tokens : List (List ℕ)) → AllByRecursion IsToken tokens → IsAscii (join_with_byte 32 tokens)
body_is_ascii tokens h = ascii _ (join_small tokens h)
