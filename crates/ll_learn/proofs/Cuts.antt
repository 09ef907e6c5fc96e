-- Where histories are cut.
use Rattle.std.specs.Prelude.{⊤, ◌≡◌, ◌≢◌, ◌<◌, ◌≤◌, ◌+◌, ◌-◌, ◌==◌, ◌&&◌, ℕ, Bool, true, false, List, [], ◌∷◌, ◌++◌}
use Rattle.std.specs.Prelude.{Some, is_some, length, drop, take, map, refl}
use Rattle.std.specs.Cmp.{nat_cmp_total}
use Rattle.std.specs.FinMap.{nat_cmp-IsAntisymmetric}
use Rattle.std.proofs.Common.{ap, arith, length-append, subst, sym, ◌∙◌}
use Rattle.std.proofs.lemmas.Bool.{eqb-true}
use Rattle.std.proofs.lemmas.List.{take-append-drop, take-append-le, take_more}
use Rattle.std.proofs.lemmas.Option.{get_or_from_slice_get, slice_get_within}
use Rattle.ll_rights.specs.Map.{get, has}
use Rattle.ll_rights.specs.declared.errno.Errno.{Errno}
use Rattle.ll_rights.proofs.Maps.{get-insert_same}
use Rattle.ll_decide.specs.declared.denial.Denial.{Denial}
use Rattle.ll_seq.specs.declared.call.Call.{Call}
use Rattle.ll_seq.specs.declared.call.Call.TheVariants.{Connect}
use Rattle.ll_seq.specs.declared.reply.Entry.{Entry}
use Rattle.ll_seq.specs.declared.reply.Reply.{Reply}
use Rattle.ll_seq.specs.declared.reply.Reply.TheVariants.{Denied, Done, Refused}
use Rattle.ll_seq.specs.Asked.{call_denials}
use Rattle.ll_seq.specs.Call.{first_path, second_path}
use Rattle.ll_seq.specs.Effects.{effect}
use Rattle.ll_seq.specs.History.{IsLegal, MayStand, after, fresh_of, is_connect, state_after}
use Rattle.ll_seq.specs.Stages.{number_refusals, relation_refusals, stages, text_refusals, walk_refusals}
use Rattle.ll_seq.specs.State.{State, new_client}
use Rattle.ll_seq.specs.Step.{client_of, first_or, refusals, step}
use Rattle.ll_seq.proofs.Histories.{after_push, legal_late}
use Rattle.ll_audit.specs.Audit.{IsFirstIllegal}
use Rattle.ll_audit.proofs.FollowedParts as audit
use Rattle.ll_learn.specs.Learned.{BeginsSo}

both : (a b : Bool) → (a && b) ≡ true → (a ≡ true) × (b ≡ true)
both true b e = (refl, e)
both false b e = absurd (cc e)

-- ---- Who connects is new

abbrev NoneDone : List Reply → Type 0
NoneDone [] = ⊤
NoneDone (x ∷ xs) = (x ≢ Done) × NoneDone xs

neither : (xs ys : List Reply) → NoneDone xs → NoneDone ys → NoneDone (xs ++ ys)
neither [] ys a b = b
neither (x ∷ xs) ys a b = (a.0, neither xs ys a.1 b)

refused : (errs : List Errno) → NoneDone (map Refused errs)
refused [] = tt
refused (e ∷ errs) = (λ is. cc is, refused errs)

denied : (ds : List Denial) → NoneDone (map Denied ds)
denied [] = tt
denied (d ∷ ds) = (λ is. cc is, denied ds)

does : (s : State) (xs : List Reply) (o : Reply × State) → NoneDone xs → (first_or s xs o).0 ≡ Done
    → (first_or s xs o).1 ≡ o.1
does s [] o none e = refl
does s (x ∷ xs) o none e = absurd (none.0 e)

none_of : (t n r w e : List Errno) (d : List Denial) (k l : List Errno)
    → NoneDone (map Refused t ++ map Refused n ++ map Refused r ++ map Refused w ++ map Refused e ++ map Denied d
    ++ map Refused k ++ map Refused l)
none_of t n r w e d k l =
    neither _ (map Refused l) (neither _ (map Refused k) (neither _ (map Denied d) (neither _ (map Refused e)
    (neither _ (map Refused w) (neither _ (map Refused r) (neither (map Refused t) (map Refused n) (refused t)
    (refused n)) (refused r)) (refused w)) (refused e)) (denied d)) (refused k)) (refused l)

connected_by : (s : State) (q fresh : ℕ) (call : Call) → is_connect call ≡ true → (step s q call fresh).0 ≡ Done
    → get (step s q call fresh).1.clients q ≡ Some new_client
connected_by s q fresh Connect is done =
    let c = client_of s q in
    ap (λ (t : State). get t.clients q)
    (does s (refusals s c Connect) (effect s q c (first_path Connect) (second_path Connect) fresh Connect)
    (none_of (text_refusals Connect) (number_refusals c Connect)
    (relation_refusals Connect (first_path Connect) (second_path Connect)) (walk_refusals s Connect)
    (stages s new_client (first_path Connect) (second_path Connect) Connect).existence (call_denials s c Connect)
    (stages s c (first_path Connect) (second_path Connect) Connect).kinds
    (stages s c (first_path Connect) (second_path Connect) Connect).limits) done)
    ∙ get-insert_same nat_cmp_total nat_cmp-IsAntisymmetric s.clients q new_client
connected_by s q fresh _ is done = absurd (cc is)

connected : (s : State) (e : Entry) → MayStand s e → is_connect e.call ≡ true
    → get (after s e).clients e.client ≡ Some new_client
connected s e stands is =
    connected_by s e.client (fresh_of e.reply) e.call is (stands.answered ∙ stands.connected is)

module _ (early es : List Entry) (client : ℕ) (begins : BeginsSo early client es) where
  -- the last of the entries up to the cut connects the client
  ends_so : early ≡ take (length early - 1) es ++ begins.cut.last ∷ []
  ends_so =
      let n = length early in
      let first = begins.cut.some in
      let last = begins.cut.last in
      let within : n - 1 < length es = slice_get_within es (n - 1) last begins.cut.is in
      let again : n ≡ n - 1 + 1 = omega (arith, first) in
      sym begins.alike ∙ ap (λ k. take k es) again ∙ take_more es (n - 1) last within
      ∙ ap (λ x. take (n - 1) es ++ x ∷ []) (get_or_from_slice_get es (n - 1) last last begins.cut.is)

  -- so it is new there
  pub new_at_cut : (s : State) → IsLegal s early → get (state_after s early).clients client ≡ Some new_client
  new_at_cut s legal =
      let front = take (length early - 1) es in
      let e = begins.cut.last in
      let is = both (e.client == client) (is_connect e.call) begins.cut.connects in
      let stands : MayStand (state_after s front) e =
      (legal_late s front (e ∷ []) (subst (IsLegal s) ends_so legal)).0 in
      ap (λ (l : List Entry). get (state_after s l).clients client) ends_so
      ∙ ap (λ (t : State). get t.clients client) (after_push s front e)
      ∙ ap (get (after (state_after s front) e).clients) (sym (eqb-true e.client client is.0))
      ∙ connected (state_after s front) e stands is.1

  pub there_at_cut : (s : State) → IsLegal s early → has (state_after s early).clients client ≡ true
  there_at_cut s legal = ap is_some (new_at_cut s legal)

  -- the entries behind the cut
  pub cut_whole : es ≡ early ++ drop (length early) es
  cut_whole =
      sym (take-append-drop (length early) es) ∙ ap (λ (l : List Entry). l ++ drop (length early) es) begins.alike

  -- the first illegal entry of those up to the cut is the history's
  pub illegal_early : (s : State) (k : ℕ) → IsFirstIllegal s early k → IsFirstIllegal s es k
  illegal_early s k bad =
      let last = bad.last in
      let late = drop (length early) es in
      let long : length es ≡ length early + length late = ap length cut_whole ∙ length-append early late in
      let same : (n : ℕ) → n ≤ length early → take n early ≡ take n es
      = λ n within. sym (ap (take n) cut_whole ∙ take-append-le n early late within) in
      record {
        first = bad.first;
        last = omega (arith, last, long);
        legal = subst (IsLegal s) (same (k - 1) (omega (arith, last))) bad.legal;
        illegal = λ legal. bad.illegal (subst (IsLegal s) (sym (same k last)) legal);
      }

  -- and that of those behind it, where all before are legal
  pub illegal_late : (s : State) (k : ℕ) → IsLegal s early
      → IsFirstIllegal (state_after s early) (drop (length early) es) k → IsFirstIllegal s es (length early + k)
  illegal_late s k legal bad =
      let late = drop (length early) es in
      let long : length es ≡ length early + length late = ap length cut_whole ∙ length-append early late in
      audit.stops s es late (state_after s early)
      (record { done = early; whole = cut_whole; legal = legal; state = refl }) late [] (sym (none late)) k
      (length early + k) bad (omega (arith, long))
    where
      none : (l : List Entry) → l ++ [] ≡ l
      none [] = refl
      none (x ∷ l) = ap (λ (t : List Entry). x ∷ t) (none l)
