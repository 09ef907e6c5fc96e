-- A call in three parts: what refuses it before policy is asked, what policy denies, and what refuses it afterwards.
use Rattle.std.specs.Prelude.{◌≡◌, ℕ, List, [], ◌∷◌, ◌++◌, map, Some, None, slice_get, refl}
use Rattle.std.proofs.Common.{ap, sym, ◌∙◌}
use Rattle.ll_rights.specs.declared.errno.Errno.{Errno}
use Rattle.ll_decide.specs.declared.denial.Denial.{Denial}
use Rattle.ll_seq.specs.Asked.{call_denials}
use Rattle.ll_seq.specs.CallParts.{done, existence_refusals, kind_refusals, limit_refusals}
use Rattle.ll_seq.specs.Call.{first_path, second_path}
use Rattle.ll_seq.specs.declared.call.Call.{Call}
use Rattle.ll_seq.specs.declared.client.ClientRecord.{ClientRecord}
use Rattle.ll_seq.specs.declared.reply.Reply.{Reply}
use Rattle.ll_seq.specs.declared.reply.Reply.TheVariants.{Refused, Denied}
use Rattle.ll_seq.specs.Stages.{text_refusals, number_refusals, relation_refusals, walk_refusals}
use Rattle.ll_seq.specs.State.{State}
use Rattle.ll_seq.specs.Step.{step, first_or, refusals, client_of}

pub none_first : {A : Type 0} (xs : List A) → slice_get xs 0 ≡ None → xs ≡ []
none_first [] e = refl
none_first (x ∷ xs) e = absurd cc

abbrev parts : List Errno → List Denial → List Errno → List Reply
parts b d a = map Refused b ++ (map Denied d ++ map Refused a)

last : (k l : List Errno) → map Refused k ++ map Refused l ≡ map Refused (k ++ l)
last [] l = refl
last (x ∷ k) l = ap (λ z. Refused x ∷ z) (last k l)

by_parts : (t n r w e : List Errno) (d : List Denial) (k l : List Errno) →
    map Refused t ++ map Refused n ++ map Refused r ++ map Refused w ++ map Refused e ++ map Denied d ++ map Refused k
    ++ map Refused l
    ≡ parts (t ++ (n ++ (r ++ (w ++ e)))) d (k ++ l)
by_parts [] [] [] [] [] [] k l = last k l
by_parts [] [] [] [] [] (x ∷ d) k l = ap (λ z. Denied x ∷ z) (by_parts [] [] [] [] [] d k l)
by_parts [] [] [] [] (x ∷ e) d k l = ap (λ z. Refused x ∷ z) (by_parts [] [] [] [] e d k l)
by_parts [] [] [] (x ∷ w) e d k l = ap (λ z. Refused x ∷ z) (by_parts [] [] [] w e d k l)
by_parts [] [] (x ∷ r) w e d k l = ap (λ z. Refused x ∷ z) (by_parts [] [] r w e d k l)
by_parts [] (x ∷ n) r w e d k l = ap (λ z. Refused x ∷ z) (by_parts [] n r w e d k l)
by_parts (x ∷ t) n r w e d k l = ap (λ z. Refused x ∷ z) (by_parts t n r w e d k l)

abbrev pub before : State → ClientRecord → Call → List Errno
before s c call =
    text_refusals call
    ++ (number_refusals c call
    ++ (relation_refusals call (first_path call) (second_path call)
    ++ (walk_refusals s call
    ++ existence_refusals s call (first_path call) (second_path call))))

abbrev pub afterwards : State → ClientRecord → Call → List Errno
afterwards s c call =
    kind_refusals s c call (first_path call) (second_path call)
    ++ limit_refusals s c call (first_path call) (second_path call)

module _ (s : State) (n : ℕ) (call : Call) where
  abbrev pub early : List Errno
  early = before s (client_of s n) call

  abbrev pub policy : List Denial
  policy = call_denials s (client_of s n) call

  abbrev pub late : List Errno
  late = afterwards s (client_of s n) call

  -- what the call does
  abbrev pub does_so : ℕ → Reply × State
  does_so fresh = done s n (client_of s n) call (first_path call) (second_path call) fresh

  in_parts : refusals s (client_of s n) call ≡ parts early policy late
  in_parts =
      by_parts (text_refusals call) (number_refusals (client_of s n) call)
      (relation_refusals call (first_path call) (second_path call)) (walk_refusals s call)
      (existence_refusals s call (first_path call) (second_path call)) policy
      (kind_refusals s (client_of s n) call (first_path call) (second_path call))
      (limit_refusals s (client_of s n) call (first_path call) (second_path call))

  step_in_parts : (fresh : ℕ) (b : List Errno) (d : List Denial) (a : List Errno) → early ≡ b → policy ≡ d → late ≡ a
      → step s n call fresh ≡ first_or s (parts b d a) (does_so fresh)
  step_in_parts fresh b d a eb ed ea =
      ap (λ rs. first_or s rs (does_so fresh)) (in_parts ∙ (λ i. parts (eb i) (ed i) (ea i)))

  first_errno : (b : List Errno) (rest : List Reply) (o : Reply × State) (e : Errno) → slice_get b 0 ≡ Some e
      → first_or s (map Refused b ++ rest) o ≡ (Refused e, s)
  first_errno [] rest o e h = absurd cc
  first_errno (x ∷ b) rest o e h = let same : x ≡ e = cc in ap (λ (z : Errno). (Refused z, s)) same

  first_denial : (d : List Denial) (rest : List Reply) (o : Reply × State) (x : Denial) → slice_get d 0 ≡ Some x
      → first_or s (map Denied d ++ rest) o ≡ (Denied x, s)
  first_denial [] rest o x h = absurd cc
  first_denial (y ∷ d) rest o x h = let same : y ≡ x = cc in ap (λ (z : Denial). (Denied z, s)) same

  alone : (a : List Errno) (o : Reply × State) (e : Errno) → slice_get a 0 ≡ Some e
      → first_or s (map Refused a) o ≡ (Refused e, s)
  alone [] o e h = absurd cc
  alone (x ∷ a) o e h = let same : x ≡ e = cc in ap (λ (z : Errno). (Refused z, s)) same

  pub refused_early : (e : Errno) → slice_get early 0 ≡ Some e
      → (fresh : ℕ) → ◌≡◌ {A = Reply × State} (Refused e, s) (step s n call fresh)
  refused_early e h fresh =
      sym (step_in_parts fresh early policy late refl refl refl
      ∙ first_errno early (map Denied policy ++ map Refused late) _ e h)

  module _ (free : early ≡ []) where
    pub denied : (x : Denial) → slice_get policy 0 ≡ Some x
        → (fresh : ℕ) → ◌≡◌ {A = Reply × State} (Denied x, s) (step s n call fresh)
    denied x h fresh =
        sym (step_in_parts fresh [] policy late free refl refl ∙ first_denial policy (map Refused late) _ x h)

    module _ (allowed : slice_get policy 0 ≡ None) where
      pub refused_late : (e : Errno) → slice_get late 0 ≡ Some e
          → (fresh : ℕ) → ◌≡◌ {A = Reply × State} (Refused e, s) (step s n call fresh)
      refused_late e h fresh =
          sym (step_in_parts fresh [] [] late free (none_first policy allowed) refl ∙ alone late _ e h)

      pub none_refused : late ≡ [] → refusals s (client_of s n) call ≡ []
      none_refused fits = in_parts ∙ (λ i. parts (free i) (none_first policy allowed i) (fits i))

  pub comes_to : (fresh : ℕ) → refusals s (client_of s n) call ≡ [] → step s n call fresh ≡ does_so fresh
  comes_to fresh free = ap (λ rs. first_or s rs (does_so fresh)) free
