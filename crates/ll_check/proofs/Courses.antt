-- Lessons, the trees that they are made in, and the calls of profiles.
use Rattle.std.proofs.Common.{◌≡◌, ◌∙◌, ◌<◌, ℕ, ◌+◌, Bool, true, false, cond, not, List, [], ◌∷◌, ◌++◌, length, map}
use Rattle.std.proofs.Common.{append-nil, take, get_or, inl, inr, is_some, option_map, refl, sym, ap, subst}
use Rattle.std.specs.Prelude.{◌⊎◌}
use Rattle.std.specs.List.{AllZip, filter}
use Rattle.std.specs.Borrow.{Bor}
use Rattle.std.specs.declared.alloc.Global.{Global}
use Rattle.std.specs.declared.vec.Vec.{Vec}
use Rattle.std.proofs.lemmas.List.{length-map, map-append, take_more}
use Rattle.std.proofs.lemmas.List.Elements.{All-append, All-cons, All-map, All-nil, All-same, filter_more}
use Rattle.std.proofs.lemmas.Option.{slice_get-map, slice_get_read}
use Rattle.ll_seq.specs.declared.call.Call.{Call}
use Rattle.ll_seq.specs.declared.call.Call.TheVariants.{Confine, Ruleset}
use Rattle.ll_seq.specs.declared.reply.Entry.{Entry}
use Rattle.ll_seq.specs.declared.reply.Reply.{Reply}
use Rattle.ll_seq.specs.History.{is_connect}
use Rattle.ll_learn.specs.declared.profile.LearnedProfile.{LearnedProfile}
use Rattle.ll_learn.specs.Profile.{call_of, calls_of}
use Rattle.ll_session.specs.CallsRun.{Makes}
use Rattle.ll_rights.specs.declared.limits.TheConstants.{HISTORY_ENTRIES}
use Rattle.ll_session.specs.Run.{MayEnd}
use Rattle.ll_session.specs.Session.{AreOthers}
use Rattle.ll_session.specs.declared.calls_run.CallReplies.{CallReplies}
use Rattle.ll_session.specs.declared.calls_run.CallReplies.TheVariants.{Answered, Refused}
use Rattle.ll_session.specs.declared.fault.RunFault.{RunFault}
use Rattle.ll_session.specs.declared.fault.RunFault.TheVariants as run
use Rattle.ll_session.specs.declared.refusal.Refusal.{Refusal}
use Rattle.ll_session.specs.declared.setup.Setup.{Setup}
use Rattle.ll_program.specs.Options.{LearnOrder, lesson_tree}
use Rattle.ll_program.specs.Policy.{Lacks}
use Rattle.ll_program.specs.declared.failure.Failure.{Failure}
use Rattle.ll_program.specs.declared.failure.Failure.TheVariants.{File, NoMemory, Opening}
use Rattle.ll_check.specs.declared.lessons.FileLessons.{FileLessons}
use Rattle.ll_check.specs.declared.check_text.Test.{Test}
use Rattle.ll_check.specs.Checks.{Tests}
use Rattle.ll_check.specs.Files.{room_for}
use Rattle.ll_check.specs.Lessons.{AreMade, AreMet, AreRun, AreTaught, AreUnmet, FailsToMake, HasUnmet, HasUnmetFile}
use Rattle.ll_check.specs.Lessons.{IsBlank, IsLearnedFrom, IsTree, IsUnmet, picked, ran_out}
use Rattle.ll_check.specs.Replied.{HasReplies}
use Rattle.ll_check.specs.Wanted.{wants_denial}
use Rattle.ll_check.proofs.Files.{same_room}
use Rattle.ll_check.proofs.Judges.{has_replies}
use Rattle.ll_check.proofs.Told.{each_more}

-- ---- lists

pub zip_more : {A B : Type 0} (R : A → B → Type 0) (xs : List A) (ys : List B) (i : ℕ) (x : A) (y : B)
    → i < length xs → i < length ys → x ≡ get_or xs i x → y ≡ get_or ys i y → AllZip R (take i xs) (take i ys)
    → R x y → AllZip R (take (i + 1) xs) (take (i + 1) ys)
zip_more {A} {B} R xs ys i x y here there is so all holds =
    subst (λ (a : List A). AllZip R a (take (i + 1) ys))
    (sym (take_more xs i x here ∙ ap (λ (z : A). take i xs ++ z ∷ []) (sym is)))
    (subst (λ (b : List B). AllZip R (take i xs ++ x ∷ []) b)
    (sym (take_more ys i y there ∙ ap (λ (z : B). take i ys ++ z ∷ []) (sym so)))
    (each_more R (take i xs) (take i ys) x y all holds))

-- ---- lessons

is_lesson : Test → Bool
is_lesson test = not (wants_denial test.wanted)

behind : (picked : List (Bor Test)) (test : Bor Test)
    → map (λ (t : Bor Test). t.now) (picked ++ test ∷ []) ≡ map (λ (t : Bor Test). t.now) picked ++ test.now ∷ []
behind picked test = map-append (λ (t : Bor Test). t.now) picked (test ∷ [])

-- one test more, which is a lesson
pub picked_more : (tests : List Test) (i : ℕ) (test : Bor Test) (picked more : List (Bor Test)) → i < length tests
    → test.now ≡ get_or tests i test.now
    → map (λ (t : Bor Test). t.now) picked ≡ filter (λ t. not (wants_denial t.wanted)) (take i tests)
    → wants_denial test.now.wanted ≡ false → more ≡ picked ++ test ∷ []
    → map (λ (t : Bor Test). t.now) more ≡ filter (λ t. not (wants_denial t.wanted)) (take (i + 1) tests)
picked_more tests i test picked more below is so wanted e =
    let lesson : not (wants_denial (get_or tests i test.now).wanted) ≡ true =
    ap (λ (t : Test). not (wants_denial t.wanted)) (sym is) ∙ ap not wanted in
    ap (map (λ (t : Bor Test). t.now)) e ∙ behind picked test
    ∙ ap (λ (x : List Test). x ++ test.now ∷ []) so
    ∙ ap (λ (t : Test). filter (λ t. not (wants_denial t.wanted)) (take i tests) ++ t ∷ []) is
    ∙ sym (filter_more (λ t. not (wants_denial t.wanted)) tests i test.now below
    ∙ ap (λ (b : Bool). filter (λ t. not (wants_denial t.wanted)) (take i tests)
    ++ cond b (get_or tests i test.now ∷ []) []) lesson)

-- one test more, which isn't
pub passed_over : (tests : List Test) (i : ℕ) (test : Test) (picked : List (Bor Test)) → i < length tests
    → test ≡ get_or tests i test
    → map (λ (t : Bor Test). t.now) picked ≡ filter (λ t. not (wants_denial t.wanted)) (take i tests)
    → wants_denial test.wanted ≡ true
    → map (λ (t : Bor Test). t.now) picked ≡ filter (λ t. not (wants_denial t.wanted)) (take (i + 1) tests)
passed_over tests i test picked below is so wanted =
    let other : not (wants_denial (get_or tests i test).wanted) ≡ false =
    ap (λ (t : Test). not (wants_denial t.wanted)) (sym is) ∙ ap not wanted in
    so ∙ sym (append-nil (filter (λ t. not (wants_denial t.wanted)) (take i tests)))
    ∙ sym (filter_more (λ t. not (wants_denial t.wanted)) tests i test below
    ∙ ap (λ (b : Bool). filter (λ t. not (wants_denial t.wanted)) (take i tests)
    ++ cond b (get_or tests i test ∷ []) []) other)

-- the first that isn't met
pub first_unmet : (lessons : List (Bor Test)) (replies : List Reply) (i : ℕ) (lesson : Bor Test) (reply : Reply)
    → i < length lessons → i < length replies → lesson ≡ get_or lessons i lesson → reply ≡ get_or replies i reply
    → AllZip IsLearnedFrom (take i (map (λ (t : Bor Test). t.now) lessons)) (take i replies)
    → (IsLearnedFrom lesson.now reply → ⊥) → HasUnmet (map (λ (t : Bor Test). t.now) lessons) replies
first_unmet lessons replies i lesson reply here there is so before unmet = record {
  index = i;
  before = before;
  lesson = lesson.now;
  is = slice_get-map (λ (t : Bor Test). t.now) lessons i
      ∙ ap (option_map (λ (t : Bor Test). t.now)) (slice_get_read lessons (length lessons) i lesson refl here is);
  reply = reply;
  gets = slice_get_read replies (length replies) i reply refl there so;
  unmet = unmet;
}

module _ (lessons : List Test) (made : CallReplies) (replies : Vec Reply Global) (slice : List Reply)
    (is : made ≡ Answered replies) (same : slice ≡ replies.items) where
  pub met_so : AllZip IsLearnedFrom lessons slice → AreMet lessons made
  met_so met = subst (λ (m : CallReplies). AreMet lessons m) (sym is)
      (subst (λ (x : List Reply). AllZip IsLearnedFrom lessons x) same met)

  pub unmet_so : HasUnmet lessons slice → AreUnmet lessons made
  unmet_so unmet = subst (λ (m : CallReplies). AreUnmet lessons m) (sym is)
      (subst (λ (x : List Reply). HasUnmet lessons x) same unmet)

pub refused_so : (lessons : List Test) (made : CallReplies) (refusal : Refusal) → made ≡ Refused refusal
    → AreUnmet lessons made
refused_so lessons made refusal is = subst (λ (m : CallReplies). AreUnmet lessons m) (sym is) tt

-- each lesson has its reply
pub lessons_replied : (setup : Setup) (tests : List (Bor Test)) (made : CallReplies) (entries : List Entry)
    → Makes setup (map (λ (t : Test). t.call) (map (λ (t : Bor Test). t.now) tests)) made entries
    → HasReplies (length tests) made
lessons_replied setup tests made entries makes =
    subst (λ (n : ℕ). HasReplies n made) (length-map tests (λ (t : Bor Test). t.now))
    (has_replies setup (map (λ (t : Bor Test). t.now) tests) made entries makes)

-- ---- trees

module _ (order : LearnOrder) (policy : List ℕ) where
  -- a blank setup, with a profile and then with room
  pub tree_made : (calls : List Call) (tests : ℕ) (blank given setup : Setup) → IsBlank order policy blank
      → given.rules ≡ blank.rules → given.nodes ≡ blank.nodes → given.loader ≡ blank.loader
      → given.profile.items ≡ calls → setup.rules ≡ given.rules → setup.nodes ≡ given.nodes
      → setup.history ≡ room_for given tests → setup.loader ≡ given.loader → setup.profile ≡ given.profile
      → IsTree order policy calls tests setup
  tree_made calls tests blank given setup is rules nodes loader profile rules' nodes' history' loader' profile' =
      record {
        blank = blank;
        is = is;
        rules = rules' ∙ rules;
        nodes = nodes' ∙ nodes;
        loader = loader' ∙ loader;
        history = history' ∙ same_room given setup tests loader' profile';
        profile = ap (λ (x : Vec Call Global). x.items) profile' ∙ profile;
      }

  -- a text that is there gives no setup
  pub not_given : (failure told : Failure) → is_some order.policy ≡ true
      → Lacks (lesson_tree order HISTORY_ENTRIES) policy failure → (told ≡ File → ⊥)
      → (told ≡ failure) ⊎ (told ≡ NoMemory) → FailsToMake order policy told
  not_given failure told named lacks there (inl same) =
      inl (named, subst (Lacks (lesson_tree order HISTORY_ENTRIES) policy) (sym same) lacks, there)
  not_given failure told named lacks there (inr wanting) = inr (inr wanting)

  -- a tree isn't opened
  pub not_made : (calls : List Call) (tests : ℕ) (setup : Setup) (fault : RunFault) (failure : Failure)
      → IsTree order policy calls tests setup → MayEnd setup fault
      → ((refusal : Refusal) × (failure ≡ Opening refusal) × (fault ≡ run.Opening refusal)) ⊎ (failure ≡ NoMemory)
      → FailsToMake order policy failure
  not_made calls tests setup fault failure tree ends (inl opening) =
      inr (inl (opening.0, opening.1, calls, tests, setup, tree, subst (MayEnd setup) opening.2 ends))
  not_made calls tests setup fault failure tree ends (inr wanting) = inr (inr wanting)

  -- lessons that are met are taught
  pub taught : (lessons : Tests) (tests : List (Bor Test)) (calls : List Call) (made : CallReplies) (setup : Setup)
      (entries : List Entry) → map (λ (t : Bor Test). t.now) tests ≡ lessons.tests → calls ≡ []
      → IsTree order policy calls (length tests) setup
      → Makes setup (map (λ (t : Test). t.call) (map (λ (t : Bor Test). t.now) tests)) made entries
      → AreMet (map (λ (t : Bor Test). t.now) tests) made → AreTaught order policy lessons entries
  taught lessons tests calls (Answered replies) setup entries e none tree makes met =
      subst (λ (x : List Test). AreMade order policy [] IsLearnedFrom x entries) e (record {
        setup = setup;
        replies = replies;
        tree = subst (λ (n : ℕ). IsTree order policy [] n setup)
            (sym (length-map tests (λ (t : Bor Test). t.now)))
            (subst (λ (x : List Call). IsTree order policy x (length tests) setup) none tree);
        makes = makes;
        each = met;
      })
  taught lessons tests calls (Refused refusal) setup entries e none tree makes met = absurd met

  -- those that aren't are not
  pub not_met : (lessons : Tests) (tests : List (Bor Test)) (calls : List Call) (made : CallReplies) (setup : Setup)
      (entries : List Entry) → map (λ (t : Bor Test). t.now) tests ≡ lessons.tests → calls ≡ []
      → IsTree order policy calls (length tests) setup
      → Makes setup (map (λ (t : Test). t.call) (map (λ (t : Bor Test). t.now) tests)) made entries
      → ran_out made ≡ false → AreUnmet (map (λ (t : Bor Test). t.now) tests) made → IsUnmet order policy lessons
  not_met lessons tests calls made setup entries e none tree makes enough unmet = record {
    made = made;
    run = subst (λ (x : List Test). AreRun order policy [] x made) e (record {
      setup = setup;
      entries = entries;
      tree = subst (λ (n : ℕ). IsTree order policy [] n setup) (sym (length-map tests (λ (t : Bor Test). t.now)))
          (subst (λ (x : List Call). IsTree order policy x (length tests) setup) none tree);
      makes = makes;
      enough = enough;
    });
    unmet = subst (λ (x : List Test). AreUnmet x made) e unmet;
  }

  pub one_not_met : (files : List FileLessons) (i : ℕ) (file : FileLessons) → i < length files
      → file ≡ get_or files i file → IsUnmet order policy (picked file)
      → HasUnmetFile order policy (map picked files)
  one_not_met files i file below is unmet = (
    i,
    picked file,
    slice_get-map picked files i ∙ ap (option_map picked) (slice_get_read files (length files) i file refl below is),
    unmet,
  )

-- ---- profiles

-- none of a profile's calls is a connect
pub others : (profile : LearnedProfile) → AreOthers (calls_of profile)
others profile =
    let P : Call → Type 0 = λ call. is_connect call ≡ false in
    let rules : List Call = map call_of profile.rules.items in
    let last : List Call = Confine 0 ∷ [] in
    All-cons P (Ruleset profile.handled) (rules ++ last) refl
    (All-append P rules last (All-map P call_of profile.rules.items (λ k d l. refl))
    (All-cons P (Confine 0) [] refl (All-nil P)))

pub are_others : (profile : LearnedProfile) (calls : List Call) → calls ≡ calls_of profile → AreOthers calls
are_others profile calls e = All-same (λ call. is_connect call ≡ false) calls (calls_of profile) e (others profile)
