use Rattle.std.proofs.Common.{◌≡◌, codes, Ok, Err, Some, inl, refl, rules}
use Rattle.std.specs.Result.{MatchResult}
use Rattle.ll_wire.specs.declared.first_words.FirstWords.TheVariants.{Bytes, Listed}
use Rattle.ll_wire.proofs.ReadReplies.{stripped}
use Rattle.ll_wire.proofs.FirstReads.{listed_reads, data_reads, too_many, none_short, short_spells}
use Rattle.ll_wire.proofs.first_words.words_of.Goals as goal

pub returns-in-Some : goal.returns-in-Some
returns-in-Some c =
    let made : MatchResult c.names_of.result (λ names. c.map.result ≡ Ok (Listed names)) (λ e. c.map.result ≡ Err e) =
    search rules in
    listed_reads c.args.body.now c.in-Some.names.now _ _
    (stripped (codes "names") c.args.body.now c.in-Some.names.now c.in-Some.ensures.cases) made c.names_of.ensures

pub returns-in-Some-strip_prefix : goal.returns-in-Some-strip_prefix
returns-in-Some-strip_prefix c =
    let made : MatchResult c.data_of.result (λ bytes. c.map-in-Some-strip_prefix.result ≡ Ok (Bytes (Some bytes)))
    (λ e. c.map-in-Some-strip_prefix.result ≡ Err e) = search rules in
    data_reads c.args.body.now c.in-Some-strip_prefix.bytes.now _ _
    (stripped (codes "data ") c.args.body.now c.in-Some-strip_prefix.bytes.now c.in-Some-strip_prefix.ensures.cases)
    made c.data_of.ensures

pub returns-in_default-tokens_of : goal.returns-in_default-tokens_of
returns-in_default-tokens_of c =
    inl (
      refl,
      too_many c.args.body.now c.in_default.ensures.cases c.in_default-strip_prefix.ensures.cases
          c.in_default-tokens_of.ensures.none,
    )

pub returns-in-Some-short_words : goal.returns-in-Some-short_words
returns-in-Some-short_words c =
    short_spells c.args.body.now _ c.in-Some-short_words.words c.in-Some-tokens_of.ensures.found.1
    c.in-Some-short_words.ensures

pub returns-in-None : goal.returns-in-None
returns-in-None c = inl (
  refl,
  none_short c.args.body.now _ c.in_default.ensures.cases c.in_default-strip_prefix.ensures.cases
      c.in-Some-tokens_of.ensures.found.1 c.in-None.ensures,
)
