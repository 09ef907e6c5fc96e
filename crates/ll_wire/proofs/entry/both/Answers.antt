use Rattle.std.proofs.Common.{◌≡◌, ◌≢◌, Some, Ok, Err, ap, ◌∙◌, rules}
use Rattle.std.specs.Result.{MatchResult, result_err}
use Rattle.std.proofs.lemmas.Bool.{false≢true}
use Rattle.ll_rights.specs.declared.errno.Errno.TheVariants.{BadLine}
use Rattle.ll_wire.proofs.EntryTokens.{both_read, call_fails}
use Rattle.ll_wire.proofs.entry.both.Goals as goal

pub returns-in-Ok : goal.returns-in-Ok
returns-in-Ok c =
    let made : MatchResult c.args.reply (λ reply. c.map.result ≡ Ok (c.in-Ok.call, reply)) (λ e. c.map.result ≡ Err e) =
    search rules in
    λ tokens body h k. both_read tokens body c.in-Ok.call c.args.reply c.map.result made (rw c.in-Ok.is at h) k

pub returns-else-eq : goal.returns-else-eq
returns-else-eq c =
    let told = c.err.ensures.value in
    let other : c.args.reply ≢ Err BadLine =
    λ e. (let same : c.err.result ≡ Some BadLine = told
    ∙ ap result_err e in false≢true (rw same at c.if-eq.ensures)) in
    λ tokens body h k. call_fails tokens body c.in-Err.errno c.args.reply other (rw c.in-Err.is at h) k
