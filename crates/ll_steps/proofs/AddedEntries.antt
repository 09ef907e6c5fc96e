-- What each outcome tells of the history, and what holds of every world.
use Rattle.std.specs.Prelude.{◌≡◌, ◌≢◌, ℕ, ◌+◌, ◌<◌, ◌≤◌, false, List, [], ◌∷◌, ◌++◌, length, take, Option, Some}
use Rattle.std.specs.Prelude.{slice_get, Result, Ok, Err, IfOk, OnErr, refl}
use Rattle.std.proofs.Common.{sym, ap, subst, ◌∙◌, inl, inr, append_assoc, get_or}
use Rattle.std.proofs.lemmas.List.{append-nil, length-append, take_more, take_all}
use Rattle.ll_laws.proofs.Gain.{no_gain}
use Rattle.ll_laws.proofs.WithheldBytes.{bytes_are_withheld}
use Rattle.ll_rights.specs.declared.errno.Errno.TheVariants.{HistoryFull}
use Rattle.ll_seq.specs.declared.call.Call.{Call}
use Rattle.ll_seq.specs.declared.call.Call.TheVariants.{Connect}
use Rattle.ll_seq.specs.declared.reply.Entry.{Entry}
use Rattle.ll_seq.specs.declared.reply.Reply.{Reply}
use Rattle.ll_seq.specs.declared.reply.Reply.TheVariants.{Done, Refused}
use Rattle.ll_seq.specs.State.{start}
use Rattle.ll_seq.specs.History.{IsLegal}
use Rattle.ll_seq.proofs.Histories.{legal_early}
use Rattle.ll_laws.specs.declared.step.Step.{Step}
use Rattle.ll_laws.specs.declared.step.Step.TheVariants.{Join, Begin, Descend, Fork, Commit, Restart, FdCommit}
use Rattle.ll_laws.specs.declared.step.Step.TheVariants.{ClientStep}
use Rattle.ll_laws.specs.Sound.{IsSound}
use Rattle.ll_laws.specs.World as world
use Rattle.ll_laws.specs.World.{World, advance, is_full, shown, next_number}
use Rattle.ll_steps.specs.declared.report.Report.{Report}
use Rattle.ll_steps.specs.declared.report.Report.TheVariants as report
use Rattle.ll_steps.specs.Makes.{Makes, Adds, IsUntold, starved}
use Rattle.ll_steps.specs.Headline.{Grows, IsLawful, IsHeadline, Runs}
use Rattle.ll_laws.proofs.StepGrowth.{Grown, Went, by_client, called_is, client_in, entry_of, never_full, went}

last_of_more : (es : List Entry) (e : Entry) → slice_get (es ++ e ∷ []) (length es) ≡ Some e
last_of_more [] e = refl
last_of_more (x ∷ es) e = last_of_more es e

none_past : (es : List Entry) (e : Entry) → slice_get es (length es) ≡ Some e → ⊥
none_past [] e is = cc is
none_past (x ∷ es) e is = none_past es e is

still : (w : World) → Grows w w []
still w = record { came = sym (append-nil w.history); rules = refl; room = refl; limit = refl }

same_world : (w w' : World) → w' ≡ w → Grows w w' []
same_world w w' e = subst (λ (v : World). Grows w v []) (sym e) (still w)

grown : (w v : World) (c : ℕ) (doing : Option Call) (added : List Entry) → Grown w v c doing added → Grows w v added
grown w v c doing added g = record { came = g.came; rules = g.rules; room = g.room; limit = g.limit }

-- ---- one step

-- a step that isn't enabled changes nothing
pub unchanged : (w w' : World) (step' : Step) → advance w step' ≡ (world.NotNow, w') → w' ≡ w
unchanged w w' step' e = subst (Went w step') e (went w step')

-- where the history has room, the reply is that of the entry which comes
pub replied_makes : (w w' : World) (step' : Step) (reply : Reply) → is_full w ≡ false → step' ≢ Join
    → advance w step' ≡ (world.Replied reply, w') → Makes w step' (report.Replied (length w.history)) w'
replied_makes w w' step' reply room other e = by (subst (Went w step') e (went w step'))
  where
    by : Went w step' (world.Replied reply, w') → Makes w step' (report.Replied (length w.history)) w'
    by (inl g) = absurd (cc (sym g.0 ∙ room))
    by (inr (inl g)) = absurd (other g.0)
    by (inr (inr g)) = (
      refl,
      entry_of (client_in w step') g.1 reply,
      ap (λ es. slice_get es (length w.history)) g.4.came
          ∙ last_of_more w.history (entry_of (client_in w step') g.1 reply),
      e,
    )

-- a full history
pub full_told : (w w' : World) (step' : Step) → advance w step' ≡ (world.Replied (Refused HistoryFull), w')
    → IsUntold w step'
full_told w w' step' e = by (subst (Went w step') e (went w step'))
  where
    by : Went w step' (world.Replied (Refused HistoryFull), w') → IsUntold w step'
    by (inl g) = inl g.0
    by (inr (inl g)) = inr g.0
    by (inr (inr g)) = absurd (never_full (shown w) (client_in w step') g.1 (next_number w) g.3)

-- the world that is left where memory runs out
starved_grows : (w : World) (step' : Step) → Grows w (starved w step') []
starved_grows w Join = still w
starved_grows w (Begin number call) = still w
starved_grows w (Descend number) = still w
starved_grows w (Fork number) = still w
starved_grows w (Commit number) = record { came = sym (append-nil w.history); rules = refl; room = refl; limit = refl }
starved_grows w (Restart number) = still w
starved_grows w (FdCommit number call) = still w
starved_grows w (ClientStep number call) = still w

-- what a step adds
pub adds : (w w' : World) (step' : Step) (o : Report) → Makes w step' o w' → (its : List Entry) × Adds w step' o its
    × Grows w w' its
adds w w' step' report.NotNow m = ([], refl, same_world w w' (unchanged w w' step' m))
adds w w' step' report.Begun m = ([], refl, grown w w' _ _ [] (subst (Went w step') m (went w step')))
adds w w' step' (report.Stands inode) m = ([], refl, grown w w' _ _ [] (subst (Went w step') m (went w step')))
adds w w' step' report.Forked m = ([], refl, grown w w' _ _ [] (subst (Went w step') m (went w step')))
adds w w' step' report.Restarted m = ([], refl, grown w w' _ _ [] (subst (Went w step') m (went w step')))
adds w w' step' (report.Joined number) m =
    let g = subst (Went w step') m (went w step') in (entry_of number Connect Done ∷ [], refl, grown w w' _ _ _ g.3)
adds w w' step' (report.Replied k) m = by (subst (Went w step') m.3 (went w step'))
  where
    old : (es : List Entry) → es ≡ w.history → slice_get es k ≡ Some m.1 → ⊥
    old es e is = none_past w.history m.1
        (subst (λ n. slice_get w.history n ≡ Some m.1) m.0 (subst (λ fs. slice_get fs k ≡ Some m.1) e is))

    by : Went w step' (world.Replied m.1.reply, w') → (its : List Entry) × Adds w step' (report.Replied k) its
        × Grows w w' its
    by (inl g) = absurd (old w'.history (g.1.came ∙ append-nil w.history) m.2)
    by (inr (inl g)) = absurd (old w'.history (ap (λ (v : World). v.history) g.1) m.2)
    by (inr (inr g)) = let entry = entry_of (client_in w step') g.1 m.1.reply in (
      entry ∷ [],
      (entry, called_is w step' ∙ ap (by_client (client_in w step')) g.2, refl),
      grown w w' _ _ _ g.4,
    )
adds w w' step' (report.Refused errno) (inl m) = ([], refl, by (subst (Went w step') m.1 (went w step')) m.0)
  where
    by : Went w step' (world.Replied (Refused errno), w') → IsUntold w step' → Grows w w' []
    by (inl g) u = grown w w' _ _ [] g.1
    by (inr (inl g)) u = same_world w w' g.1
    by (inr (inr g)) (inl full) = absurd (cc (sym full ∙ g.0))
    by (inr (inr g)) (inr joins) = absurd (g.5 joins)
adds w w' step' (report.Refused errno) (inr m) =
    ([], refl, subst (λ (v : World). Grows w v []) (sym m.2) (starved_grows w step'))

-- ---- all steps

pub lawful : (w : World) → IsSound w → length w.history ≤ w.limit → IsLawful w
lawful w h within = record {
  legal = h.legal;
  within = within;
  valid = h.valid;
  apart = h.apart;
  few = h.few;
  gate = h.gate;
  between = λ early late rest e.
      let legal = legal_early (start w.rules w.room) (early ++ late) rest
      (subst (IsLegal (start w.rules w.room)) e h.legal) in
      (no_gain w.rules w.room early late legal, bytes_are_withheld w.rules w.room early late legal);
}

pub grows_on : (u v w : World) (first rest : List Entry) → Grows u v first → Grows v w rest → Grows u w (first ++ rest)
grows_on u v w first rest g h = record {
  came = h.came ∙ ap (λ es. es ++ rest) g.came ∙ append_assoc u.history first rest;
  rules = h.rules ∙ g.rules;
  room = h.room ∙ g.room;
  limit = h.limit ∙ g.limit;
}

pub no_steps : (w : World) → Runs w [] [] [] w
no_steps w = (refl, refl)

-- one step more
pub runs_on : (u v w : World) (steps : List Step) (outcomes : List Report) (added its : List Entry) (step' : Step)
    (o : Report)
    → Runs u steps outcomes added v → Makes v step' o w → Adds v step' o its → Grows v w its
    → Runs u (steps ++ step' ∷ []) (outcomes ++ o ∷ []) (added ++ its) w
runs_on u v w [] [] added its step' o r m a g =
    let one : Runs v (step' ∷ []) (o ∷ []) its w = (w, its, [], sym (append-nil its), m, a, g, (refl, refl)) in
    subst (λ (x : World). Runs x (step' ∷ []) (o ∷ []) (added ++ its) w) r.1
    (subst (λ es. Runs v (step' ∷ []) (o ∷ []) (es ++ its) w) (sym r.0) one)
runs_on u v w [] (x ∷ outcomes) added its step' o r m a g = absurd r
runs_on u v w (x ∷ steps) [] added its step' o r m a g = absurd r
runs_on u v w (x ∷ steps) (y ∷ outcomes) added its step' o r m a g = (
  r.0,
  r.1,
  r.2 ++ its,
  ap (λ es. es ++ its) r.3
      ∙ append_assoc r.1 r.2 its,
  r.4,
  r.5,
  r.6,
  runs_on r.0 v w steps outcomes r.2 its step' o r.7 m a g,
)

-- ---- the step that is asked for

pub told_step : (w v v' : World) (s s' : Step) (o o' : Report) → s ≡ s' → o ≡ o' → v ≡ v' → Makes w s' o' v'
    → Makes w s o v
told_step w v v' s s' o o' e f g m =
    subst (λ (t : Step × (Report × World)). Makes w t.0 t.1.0 t.1.1) (λ i. (sym e i, (sym f i, sym g i))) m

-- of a call that came back
pub back_makes : (w v : World) (s : Step) (made : Result Report Call) (o : Report) → IfOk made (λ p. o ≡ p)
    → OnErr made (o ≡ report.NotNow) → IfOk made (λ p. Makes w s p v) → OnErr made (Makes w s report.NotNow w)
    → OnErr made (v ≡ w)
    → Makes w s o v
back_makes w v s (Ok p) o is back m not_now same = subst (λ (q : Report). Makes w s q v) (sym is) m
back_makes w v s (Err c) o is back m not_now same =
    subst (λ (q : Report). Makes w s q v) (sym back)
    (subst (λ (u : World). Makes w s report.NotNow u) (sym same) not_now)

-- ---- a run

abbrev pub HasRun : World → List Step → List Report → World → Type 0
HasRun w steps outcomes v = (added : List Entry) × Runs w steps outcomes added v × Grows w v added

pub ran_none : (w : World) (outcomes : List Report) → outcomes ≡ [] → HasRun w [] outcomes w
ran_none w outcomes e = subst (λ (os : List Report). HasRun w [] os w) (sym e) ([], no_steps w, still w)

ran_more : (u v w : World) (steps : List Step) (outcomes : List Report) (step' : Step) (o : Report)
    → HasRun u steps outcomes v → Makes v step' o w → HasRun u (steps ++ step' ∷ []) (outcomes ++ o ∷ []) w
ran_more u v w steps outcomes step' o h m =
    let a = adds v w step' o m in
    (h.0 ++ a.0, runs_on u v w steps outcomes h.0 a.0 step' o h.1 m a.1 a.2, grows_on u v w h.0 a.0 h.2 a.2)

-- with the next of the items
pub ran_on : (u v w : World) (items yielded : List Step) (outcomes more : List Report) (step' : Step) (o : Report)
    → HasRun u (take (length yielded) items) outcomes v
    → (length yielded < length items) × (step' ≡ get_or items (length yielded) step') → more ≡ outcomes ++ o ∷ []
    → Makes v step' o w → HasRun u (take (length (yielded ++ step' ∷ [])) items) more w
ran_on u v w items yielded outcomes more step' o h turn e m =
    let one : length (yielded ++ step' ∷ []) ≡ length yielded + 1 = length-append yielded (step' ∷ []) in
    let next : take (length (yielded ++ step' ∷ [])) items ≡ take (length yielded) items ++ step' ∷ [] =
    ap (λ n. take n items) one ∙ take_more items (length yielded) step' turn.0
    ∙ ap (λ s. take (length yielded) items ++ s ∷ []) (sym turn.1) in
    subst (λ (os : List Report). HasRun u (take (length (yielded ++ step' ∷ [])) items) os w) (sym e)
    (subst (λ (ss : List Step). HasRun u ss (outcomes ++ o ∷ []) w) (sym next)
    (ran_more u v w (take (length yielded) items) outcomes step' o h m))

pub ran_all : (u v : World) (items : List Step) (n : ℕ) (outcomes : List Report) → length items ≤ n
    → HasRun u (take n items) outcomes v → IsLawful v → IsHeadline u items outcomes v
ran_all u v items n outcomes all h law =
    let r = subst (λ (ss : List Step). HasRun u ss outcomes v) (take_all n items all) h in
    record { added = r.0; runs = r.1; grows = r.2; lawful = law }
