-- What is answered by no refusal, nothing refuses.
use Rattle.std.specs.Prelude.{◌≡◌, ℕ, true, false, List, [], ◌∷◌, ◌++◌, map, refl}
use Rattle.std.specs.List.{AllByRecursion}
use Rattle.std.proofs.Common.{sym, ◌∙◌}
use Rattle.ll_decide.specs.declared.denial.Denial.{Denial}
use Rattle.ll_rights.specs.declared.errno.Errno.{Errno}
use Rattle.ll_seq.specs.declared.call.Call.{Call}
use Rattle.ll_seq.specs.declared.reply.Reply.{Reply}
use Rattle.ll_seq.specs.declared.reply.Reply.TheVariants as replies
use Rattle.ll_seq.specs.State.{State}
use Rattle.ll_seq.specs.Step.{step, first_or, refusals, client_of}
use Rattle.ll_laws.proofs.Gain.{done_of}
use Rattle.ll_journal.specs.Direct.{is_refusal}

abbrev pub AreRefusals : List Reply → Type 0
AreRefusals rs = AllByRecursion (λ r. is_refusal r ≡ true) rs

together : (rs qs : List Reply) → AreRefusals rs → AreRefusals qs → AreRefusals (rs ++ qs)
together [] qs h k = k
together (r ∷ rs) qs h k = (h.0, together rs qs h.1 k)

refused : (errs : List Errno) → AreRefusals (map replies.Refused errs)
refused [] = tt
refused (e ∷ errs) = (refl, refused errs)

denied : (ds : List Denial) → AreRefusals (map replies.Denied ds)
denied [] = tt
denied (d ∷ ds) = (refl, denied ds)

pub stages : (t n r w e : List Errno) (d : List Denial) (k l : List Errno)
    → AreRefusals (map replies.Refused t ++ map replies.Refused n ++ map replies.Refused r ++ map replies.Refused w
    ++ map replies.Refused e ++ map replies.Denied d ++ map replies.Refused k ++ map replies.Refused l)
stages t n r w e d k l =
    together _ _ (together _ _ (together _ _ (together _ _ (together _ _ (together _ _ (together _ _ (refused t)
    (refused n)) (refused r)) (refused w)) (refused e)) (denied d)) (refused k)) (refused l)

-- no refusal comes first, so there is none
granted : (s : State) (rs : List Reply) (o : Reply × State) → AreRefusals rs → is_refusal (first_or s rs o).0 ≡ false
    → rs ≡ []
granted s [] o are e = refl
granted s (r ∷ rs) o are e = absurd (cc (sym are.0 ∙ e))

pub none_refuses : (s : State) (number : ℕ) (call : Call) (fresh : ℕ)
    → is_refusal (step s number call fresh).0 ≡ false → refusals s (client_of s number) call ≡ []
none_refuses s number call fresh e =
    granted s (refusals s (client_of s number) call) (done_of s number (client_of s number) call fresh)
    (stages _ _ _ _ _ _ _ _) e
