use Rattle.std.proofs.Common.{◌≡◌, ◌≢◌, ℕ, ◌∷◌, ap, inl, inr, refl, subst, sym}
use Rattle.ll_seq.specs.declared.call.Call.TheVariants.{Connect}
use Rattle.ll_rights.specs.declared.errno.Errno.TheVariants.{NoMemory}
use Rattle.ll_seq.specs.declared.reply.Reply.{Reply}
use Rattle.ll_seq.specs.declared.reply.Reply.TheVariants.{Refused}
use Rattle.ll_session.specs.declared.refusal.Refusal.{Refusal}
use Rattle.ll_commands.specs.OpenedTree.{IsRefusedThere, Stops, refused_by}
use Rattle.ll_commands.proofs.Rows.{fails_so}
use Rattle.ll_commands.proofs.opened_tree.bring.Goals as goal

pub returns-in-Err-clause-failure : goal.returns-in-Err-clause-failure
returns-in-Err-clause-failure c =
    fails_so (λ refusal. (c.in-Err.reply ≢ Refused NoMemory) × (refusal ≡ refused_by c.args.opener 0 c.in-Err.reply))
    (λ refusal. (refusal.opener ≡ c.args.opener) × (client : ℕ)
    × Stops client c.args.tree.now (Connect ∷ c.args.calls.now) refusal.calls refusal.reply) c.failure_of.result
    (λ refusal h. let is = h.1 in (
      ap (λ (r : Refusal). r.opener) is,
      c.free_number-client.result,
      inl (
        ap (λ (r : Refusal). r.calls) is,
        subst (λ (told : Reply). IsRefusedThere c.free_number-client.result c.args.tree.now Connect told)
            (sym (ap (λ (r : Refusal). r.reply) is)) (c.in-Err.ensures.refused h.0),
      ),
    )) c.failure_of.ensures

pub returns-in-Err-make_all-clause-failure : goal.returns-in-Err-make_all-clause-failure
returns-in-Err-make_all-clause-failure c =
    fails_so _ (λ refusal. (refusal.opener ≡ c.args.opener) × (client : ℕ)
    × Stops client c.args.tree.now (Connect ∷ c.args.calls.now) refusal.calls refusal.reply) c.in-Err-make_all.failure
    (λ refusal h. (
      h.0,
      c.free_number-client.result,
      inr (c.connect.new.tree, c.in-Ok.ensures.ok, h.1, h.2, h.3),
    ))
    c.in-Err-make_all.ensures.failure
