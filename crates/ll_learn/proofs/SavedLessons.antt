-- What a saved history teaches.
use Rattle.std.proofs.Common.{◌≡◌, ◌∙◌, ℕ, List, [], ◌∷◌, Result, Ok, Err, ap, arith}
use Rattle.std.specs.Prelude.{IfOk}
use Rattle.ll_rights.specs.declared.access.Access.{Access}
use Rattle.ll_rules.specs.Rules.{create_refusals}
use Rattle.ll_seq.specs.declared.reply.Entry.{Entry}
use Rattle.ll_seq.specs.declared.rules.Rules.{Rules}
use Rattle.ll_wire.specs.Entries.{version_rules}
use Rattle.ll_wire.specs.declared.header.Header.{Header}
use Rattle.ll_audit.specs.Saved.{opened}
use Rattle.ll_learn.specs.declared.learned.Aim.{Aim}
use Rattle.ll_learn.specs.declared.profile.LearnedProfile.{LearnedProfile}
use Rattle.ll_learn.specs.declared.saved_lesson.Learned.{Learned}
use Rattle.ll_learn.specs.declared.saved_lesson.Learned.TheVariants as learned
use Rattle.ll_learn.specs.declared.saved_lesson.SavedLesson.{SavedLesson}
use Rattle.ll_learn.specs.Learned.{IsCut, IsLearned}
use Rattle.ll_learn.specs.SavedLesson.{IsLearnedBy, IsTold, Teaches}
use Rattle.ll_learn.proofs.SameLevel.{level_accepted, same_rules}

module _ (lesson : SavedLesson) (h : Header) (es : List Entry) (aim : Aim) where
  -- what is told of a profile that is learned from the history is learned of its text
  pub taught : {E : Type 0} (cut : ℕ) (profile : LearnedProfile) → IsCut es aim.client cut
      → IsLearned (opened h) (es ∷ []) aim profile → (r : Result Learned E) → IfOk r (IsTold lesson es cut profile)
      → IfOk r (λ told. (text : List ℕ) → Teaches lesson text h es aim → IsLearnedBy lesson text told)
  taught cut profile is learned' (Ok (learned.Profile written)) told = λ text teaches. record {
    header = h;
    entries = es;
    aim = aim;
    cut = cut;
    profile = profile;
    teaches = teaches;
    is_cut = is;
    learned = learned';
    few = told.0;
    enforced = λ most. let few = told.0 in learned'.learned.enforced (
      ap (λ (r : Rules). create_refusals r.abi profile.handled.0) (same_rules (opened h) learned'.early)
          ∙ ap (create_refusals (version_rules h.version).abi)
          (ap (λ (a : Access). a.0) learned'.learned.handled ∙ teaches.aimed.handled)
          ∙ level_accepted (version_rules h.version).abi,
      omega (arith, few, most),
    );
    is = told.1;
  }
  taught cut profile is learned' (Ok (learned.BadLine line)) told = absurd told
  taught cut profile is learned' (Ok (learned.Nothing fault)) told = absurd told
  taught cut profile is learned' (Ok (learned.Many rules)) told =
      λ text teaches. (h, es, aim, profile, teaches, learned', told.0, told.1)
  taught cut profile is learned' (Err e) told = tt
