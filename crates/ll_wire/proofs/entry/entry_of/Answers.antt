use Rattle.std.proofs.Common.{◌≡◌, Ok, Err, inl, refl, rules}
use Rattle.std.specs.Result.{MatchResult}
use Rattle.ll_wire.proofs.EntryTokens.{short_body, no_client, entry_reads}
use Rattle.ll_wire.proofs.entry.entry_of.Goals as goal

pub returns-in_default : goal.returns-in_default
returns-in_default c = inl (refl, short_body c.args.body.now c.in_default.ensures.none)

pub returns-in_default-number_of : goal.returns-in_default-number_of
returns-in_default-number_of c =
    inl (
      refl,
      no_client c.args.body.now c.in-Some.client.now c.in-Some.text.now c.in-Some.ensures.found
          c.in_default-number_of.ensures,
    )

pub returns : goal.returns
returns c =
    let made : MatchResult c.answered_of.result
    (λ v. c.map.result ≡ Ok (record { client = c.in-Some-number_of.client; call = v.0; reply = v.1 }))
    (λ e. c.map.result ≡ Err e) = search rules in
    entry_reads c.args.body.now c.in-Some.client.now c.in-Some.text.now c.in-Some-number_of.client c.answered_of.result
    c.map.result c.in-Some.ensures.found c.in-Some-number_of.ensures made c.answered_of.ensures
