use Rattle.std.proofs.Common.{◌≡◌, ◌≤◌, ℕ, true, Ok, Err, map, drop, inl, refl, arith, rules}
use Rattle.std.specs.Result.{MatchResult}
use Rattle.std.proofs.lemmas.Grind.{common_steps}
use Rattle.ll_seq.specs.declared.call.Call.{Call}
use Rattle.ll_wire.specs.Parts.{SpellsTokens}
use Rattle.ll_wire.specs.Reads.{holds_text}
use Rattle.ll_wire.proofs.NamedClients.{named_reads, unnamed_reads, client_is, first_is, within}
use Rattle.ll_wire.proofs.read.command_of.Goals as goal

pub returns-in-None : goal.returns-in-None
returns-in-None c =
    let made : MatchResult c.call_of.result (λ call. c.map.result ≡ Ok (1, call)) (λ e. c.map.result ≡ Err e) =
    search rules in
    within (λ (v : ℕ × Call). SpellsTokens (map (λ t. t.now) c.args.tokens.now) v.0 v.1) (λ v. v.0 ≤ c.args.clients)
    (λ v. holds_text v.1 ≡ true) c.map.result
    (unnamed_reads _ (map (λ t. t.now) (drop 1 c.args.tokens.now)) _ _ _ (grind (arith, common_steps)) c.in-None.ensures
    made c.call_of.ensures)
    (λ v is. let one = first_is _ (map (λ t. t.now) (drop 1 c.args.tokens.now)) _ (grind (arith, common_steps))
    c.in-None.ensures v.0 v.1 is in let some = c.requires in omega arith)

pub returns-in-Some : goal.returns-in-Some
returns-in-Some c =
    let made : MatchResult c.call_of-in-Some.result (λ call. c.map-in-Some.result ≡ Ok (c.in-Some.client, call))
    (λ e. c.map-in-Some.result ≡ Err e) = search rules in
    within (λ (v : ℕ × Call). SpellsTokens (map (λ t. t.now) c.args.tokens.now) v.0 v.1) (λ v. v.0 ≤ c.args.clients)
    (λ v. holds_text v.1 ≡ true) c.map-in-Some.result
    (named_reads _ _ _ c.in-Some.client _ _ (grind (arith, common_steps)) c.in-Some.ensures made
    c.call_of-in-Some.ensures)
    (λ v is. let named = client_is _ (map (λ t. t.now) (drop 1 c.args.tokens.now)) _ c.in-Some.client
    (grind (arith, common_steps)) c.in-Some.ensures v.0 v.1 is in let few = c.if-client-clients.true in omega arith)

pub returns-in-Some-2 : goal.returns-in-Some-2
returns-in-Some-2 c = inl (
  refl,
  λ v is.
      let named = client_is _ (map (λ t. t.now) (drop 1 c.args.tokens.now)) _ c.in-Some.client
      (grind (arith, common_steps)) c.in-Some.ensures v.0 v.1 is.0 in
      let many = c.if-client-clients.false in let few = is.1 in omega arith,
)
