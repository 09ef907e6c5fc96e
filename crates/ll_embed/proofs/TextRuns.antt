-- Runs of texts.
use Rattle.std.specs.Prelude.{⊤}
use Rattle.std.proofs.Common.{◌≡◌, ℕ, Bool, true, false, List, [], Option, None, Some, is_some, refl, sym}
use Rattle.std.proofs.Common.{inl, inr, subst}
use Rattle.ll_seq.specs.History.{IsLegal}
use Rattle.ll_seq.specs.State.{start}
use Rattle.ll_seq.specs.declared.reply.Entry.{Entry}
use Rattle.ll_seq.specs.declared.reply.Reply.{Reply}
use Rattle.ll_wire.specs.Devices.{Devices}
use Rattle.ll_wire.specs.Pieces.{pieces}
use Rattle.ll_wire.specs.Reached.{AnswersAll, AnswersFirst}
use Rattle.ll_wire.specs.Transcript.{Transcript}
use Rattle.ll_session.specs.PartySession.{Session}
use Rattle.ll_session.specs.Run.{RunsAs}
use Rattle.ll_session.specs.Session.{Answers, Tells}
use Rattle.ll_session.specs.Strict.{Scores, ScoresTo, TellsStrictly}
use Rattle.ll_session.specs.declared.score.Score.{Score}
use Rattle.ll_session.specs.declared.setup.Setup.{Setup}
use Rattle.ll_session.specs.declared.stop.Stop.{Stop}
use Rattle.ll_session.specs.declared.stop.Stop.TheVariants.{AtLine, AtOpening}
use Rattle.ll_session.proofs.Legal.{legally}
use Rattle.ll_session.proofs.Scores.{along}
use Rattle.ll_embed.specs.Alone.{IsTextRun, own}
use Rattle.ll_embed.specs.declared.text_run.OwnSession.{OwnSession}

-- ---- what a session tells of itself, told of its tree

abbrev On : OwnSession → (piece line : List ℕ) → OwnSession → Type 0
On a piece line b = Scores Answers (own a.tree, a.score) piece line (own b.tree, b.score)

of_tree : (a b : OwnSession) (done : List (List ℕ)) (text : List ℕ) → Transcript On a done text b
    → Transcript (Scores Answers) (own a.tree, a.score) done text (own b.tree, b.score)
of_tree a b done text h = (along {S = OwnSession} {T = Session × Score} (λ a. (own a.tree, a.score)) (λ a. ⊤) On
    (Scores Answers) (λ a b piece line k told. (tt, told)) a b done text tt h).1

pub scores_to : (a b : OwnSession) (old new : Devices)
    → (is_some b.score.end ≡ false → AnswersAll On a b old new)
    → (is_some b.score.end ≡ true → AnswersFirst On a b old new)
    → ScoresTo Answers (own a.tree, a.score) (own b.tree, b.score) old new
scores_to a b old new all some = (
  λ none input is. let h = all none input is in (h.0, (h.1.0, of_tree a b (pieces input) h.1.0 h.1.1, h.1.2)),
  λ ended input is. let h = some ended input is in (h.0, h.1, h.2, h.3, of_tree a b h.0 h.2 h.4, h.5),
)

-- ---- legal histories

-- a strict session's lines are those of a session
strict_lines : (a b : Session × Option Reply) (done : List (List ℕ)) (text : List ℕ)
    → Transcript TellsStrictly a done text b → Transcript Tells a.0 done text b.0
strict_lines a b done text h = (along {S = Session × Option Reply} {T = Session} (λ a. a.0) (λ a. ⊤) TellsStrictly
    Tells (λ a b piece line k told. (tt, (told.1.0, told.1.1, told.1.2))) a b done text tt h).1

pub runs_legally : (strict : Bool) (setup : Setup) (input : List ℕ) (left : Option (List ℕ)) (text : List ℕ)
    (stop : Option Stop) (entries : List Entry) → RunsAs strict setup input left text stop entries
    → IsLegal (start setup.rules setup.nodes) entries
runs_legally false setup input left text stop entries h = subst (IsLegal (start setup.rules setup.nodes)) (sym h.2.2)
    (legally setup (pieces input) (pieces h.0) text h.2.0 h.2.1).0
runs_legally true setup input left text None entries h = subst (IsLegal (start setup.rules setup.nodes)) (sym h.2)
    (legally setup (pieces input) [] text h.0
    (inl (h.1.0, h.1.1, refl, strict_lines (h.1.0, None) (h.0, None) (pieces input) text h.1.2))).0
runs_legally true setup input left text (Some (AtLine line reply)) entries h =
    subst (IsLegal (start setup.rules setup.nodes)) (sym h.2)
    (legally setup h.1.1 [] text h.0
    (inl (h.1.0, h.1.3, refl, strict_lines (h.1.0, None) (h.0, Some reply) h.1.1 text h.1.6))).0
runs_legally true setup input left text (Some (AtOpening refusal)) entries h =
    subst (IsLegal (start setup.rules setup.nodes)) (sym h.2)
    (legally setup [] [] text h.0 (inr (refusal, h.1.0, refl, h.1.1))).0

-- ---- what is written is a text

pub of_text : (strict : Bool) (setup : Setup) (script : List ℕ) (left : Option (List ℕ)) (text told : List ℕ)
    (stop : Option Stop) (entries : List Entry) → told ≡ text → RunsAs strict setup script left text stop entries
    → IsTextRun strict setup script told stop entries
of_text strict setup script left text told stop entries same h =
    (left, subst (λ (x : List ℕ). RunsAs strict setup script left x stop entries) (sym same) h)
