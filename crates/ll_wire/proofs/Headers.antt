-- Headers of histories: what their tokens tell.
use Rattle.std.proofs.Common.{◌≡◌, ◌≢◌, ℕ, ◌<◌, ◌≤◌, ◌-◌, List, [], ◌∷◌, ◌++◌, length, map, take, drop, get_or, codes}
use Rattle.std.proofs.Common.{Option, Some, None, Bor, refl, ap, sym, ◌∙◌, arith}
use Rattle.std.specs.Option.{SomeIff, MatchOption}
use Rattle.std.specs.Str.{IsAscii}
use Rattle.std.specs.List.{AllByRecursion, join_with_byte}
use Rattle.std.specs.Fmt.{decimal}
use Rattle.std.proofs.lemmas.Fmt.{decimal_injective}
use Rattle.std.proofs.lemmas.List.{take_all}
use Rattle.ll_wire.specs.declared.header.Version.{Version}
use Rattle.ll_wire.specs.declared.header.Version.TheVariants.{One, Two, Three}
use Rattle.ll_wire.specs.declared.header.Header.{Header}
use Rattle.ll_wire.specs.Entries.{IsVersion, version_text, level_tokens, IsHeader, header_tokens, SpellsHeader}
use Rattle.ll_wire.specs.EntryParts.{SpellsNodes, SpellsLevel, SpellsVersion, SpellsHeaderTokens}
use Rattle.ll_wire.specs.Parts.{SpellsNumber}
use Rattle.ll_wire.specs.Reads.{Finds}
use Rattle.ll_wire.proofs.Fronts.{parts, joined_parts}
use Rattle.ll_wire.proofs.Lines.{same_front, cut}
use Rattle.ll_wire.proofs.ReadReplies.{whole_finds}
use Rattle.ll_wire.proofs.Tokens.{IsToken, visible_is, number_token, body_is_ascii}

-- ---- what is read

pub level_finds : (token : List ℕ) (n : ℕ) (r : Option ℕ) → SpellsNumber token n → SomeIff r ((1 ≤ n) × (n ≤ 3)) n
    → Finds (SpellsLevel token) r
level_finds token n None h k = λ abi is.
    let same = decimal_injective n abi h.0 (omega (arith, is.1)) (sym h.1 ∙ is.2) in
    k (omega (arith, same, is.0), omega (arith, same, is.1))
level_finds token n (Some abi) h k = (omega (arith, k.0.0, k.1), omega (arith, k.0.1, k.1), h.1 ∙ ap decimal (sym k.1))

pub told : (level : List (Bor (List ℕ))) (d : Bor (List ℕ)) (abi : ℕ) → length level ≡ 2
    → (get_or level 0 d).now ≡ codes "abi" → SpellsLevel (get_or level 1 d).now abi
    → map (λ t. t.now) level ≡ codes "abi" ∷ decimal abi ∷ []
told (a ∷ b ∷ []) d abi h w l = λ i. w i ∷ l.2 i ∷ []
told level d abi h w l = absurd (omega arith)

pub header_is : (tokens : List (Bor (List ℕ))) (d : Bor (List ℕ)) (version : Version) (nodes : ℕ) → 4 ≤ length tokens
    → (get_or tokens 0 d).now ≡ codes "landtree-history"
    → (get_or tokens 2 d).now ≡ codes "nodes"
    → SpellsVersion (get_or tokens 1 d).now (map (λ t. t.now) (take (length tokens - 4) (drop 4 tokens))) version
    → SpellsNodes (get_or tokens 3 d).now nodes
    → SpellsHeaderTokens (map (λ t. t.now) tokens) (record { version = version; nodes = nodes })
header_is (a ∷ b ∷ c ∷ e ∷ rest) d version nodes h t w v n =
    let all = ap (map (λ t. t.now)) (sym (take_all (length (a ∷ b ∷ c ∷ e ∷ rest) - 4) rest (omega arith))) ∙ v.2 in
    ((n.0, n.1, v.0), λ i. t i ∷ v.1 i ∷ w i ∷ n.2 i ∷ all i)
header_is tokens d version nodes h t w v n = absurd (omega arith)

-- ---- tokens

version_token : (version : Version) → IsToken (version_text version)
version_token One = visible_is (codes "1") refl
version_token (Two abi) = visible_is (codes "2") refl
version_token (Three abi) = visible_is (codes "3") refl

level_is_tokens : (version : Version) → IsVersion version → AllByRecursion IsToken (level_tokens version)
level_is_tokens One h = tt
level_is_tokens (Two abi) h = (visible_is (codes "abi") refl, (number_token abi (omega (arith, h.1)), tt))
level_is_tokens (Three abi) h = (visible_is (codes "abi") refl, (number_token abi (omega (arith, h.1)), tt))

header_is_tokens : (h : Header) → IsHeader h → AllByRecursion IsToken (header_tokens h)
header_is_tokens h k = (
  visible_is (codes "landtree-history") refl,
  (
    version_token h.version,
    (
      visible_is (codes "nodes") refl,
      (number_token h.nodes (omega (arith, k.1)), level_is_tokens h.version k.2),
    ),
  ),
)

few_levels : (version : Version) → length (level_tokens version) ≤ 2
few_levels One = omega arith
few_levels (Two abi) = omega arith
few_levels (Three abi) = omega arith

-- ---- lines

pub no_header : (line : List ℕ) → ((body : List ℕ) → IsAscii body → line ≢ body ++ 10 ∷ []) → (h : Header)
    → SpellsHeader line h → ⊥
no_header line none h k = none (join_with_byte 32 (header_tokens h))
    (body_is_ascii (header_tokens h) (header_is_tokens h k.0)) k.1

-- the tokens of a line that spells a header are the header's
pub header_parts : (line body : List ℕ) (h : Header) → line ≡ body ++ 10 ∷ [] → SpellsHeader line h
    → parts body ≡ header_tokens h
header_parts line body h e k =
    ap parts (same_front body (join_with_byte 32 (header_tokens h)) 10 10 (sym e ∙ k.1))
    ∙ cut (header_tokens h) (omega arith) (header_is_tokens h k.0)

pub too_many : (line body : List ℕ) → line ≡ body ++ 10 ∷ [] → 6 < length (parts body) → (h : Header)
    → SpellsHeader line h → ⊥
too_many line body e more h k = omega (arith, more, ap length (header_parts line body h e k), few_levels h.version)

same_none : {V : Type 0} (r : Option V) → MatchOption r (r ≡ None) (λ v. r ≡ Some v)
same_none None = refl
same_none (Some v) = refl

pub line_finds : (line body : List ℕ) (tokens : List (List ℕ)) (r : Option Header) → line ≡ body ++ 10 ∷ []
    → tokens ≡ parts body → Finds (SpellsHeaderTokens tokens) r → Finds (SpellsHeader line) r
line_finds line body tokens r e t h = whole_finds (SpellsHeaderTokens tokens) (SpellsHeader line) (λ h. h)
    (λ header k. (header, (k.0, t ∙ header_parts line body header e k)))
    (λ header k. (k.0, e ∙ ap (λ (x : List ℕ). x ++ 10 ∷ []) (joined_parts body (header_tokens header) (sym t ∙ k.1))))
    r r (same_none r) h

-- ---- one header

abbrev digit : List ℕ → ℕ
digit [] = 0
digit (b ∷ bs) = b

same_version : (some other : Version) → IsVersion some → IsVersion other → version_text some ≡ version_text other
    → level_tokens some ≡ level_tokens other → some ≡ other
same_version One One h k e l = refl
same_version (Two abi) (Two level) h k e l =
    ap Two (decimal_injective abi level (omega (arith, h.1)) (omega (arith, k.1)) cc)
same_version (Three abi) (Three level) h k e l =
    ap Three (decimal_injective abi level (omega (arith, h.1)) (omega (arith, k.1)) cc)
same_version some other h k e l = absurd (omega (arith, ap digit e))

pub spells_one_header : (line : List ℕ) (header other : Header) → SpellsHeader line header → SpellsHeader line other
    → header ≡ other
spells_one_header line header other h k =
    let body = join_with_byte 32 (header_tokens header) in
    let same : header_tokens header ≡ header_tokens other =
    sym (header_parts line body header h.1 h) ∙ header_parts line body other h.1 k in
    let texts : version_text header.version ≡ version_text other.version = cc in
    let levels : level_tokens header.version ≡ level_tokens other.version = cc in
    let numbers : decimal header.nodes ≡ decimal other.nodes = cc in
    let versions = same_version header.version other.version h.0.2 k.0.2 texts levels in
    let nodes = decimal_injective header.nodes other.nodes (omega (arith, h.0.1)) (omega (arith, k.0.1)) numbers in
    λ i. record { version = versions i; nodes = nodes i }
