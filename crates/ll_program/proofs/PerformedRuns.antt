-- Runs that were performed.
use Rattle.std.proofs.Common.{◌≡◌, ◌∙◌, ap, inl, inr, Bool, true, false, List, ℕ, Option, Some, None, Result, Ok, Err}
use Rattle.std.proofs.Common.{refl, subst, sym}
use Rattle.std.specs.Prelude.{◌⊎◌, IfErr, IfOk, IfSome, option_map}
use Rattle.ll_wire.specs.Devices.{Devices}
use Rattle.ll_wire.specs.Transcript.{Writes}
use Rattle.ll_seq.specs.declared.reply.Entry.{Entry}
use Rattle.ll_session.specs.Run.{EndsBy, IsOpened, MayEnd, RunsAs, refusal_in}
use Rattle.ll_session.specs.declared.fault.RunFault.{RunFault}
use Rattle.ll_session.specs.declared.refusal.Refusal.{Refusal}
use Rattle.ll_session.specs.declared.stop.Stop.{Stop}
use Rattle.ll_session.specs.declared.stop.Stop.TheVariants.{AtLine, AtOpening}
use Rattle.ll_program.specs.Failure.{failure_of}
use Rattle.ll_session.specs.declared.setup.Setup.{Setup}
use Rattle.ll_program.specs.declared.failure.Failure.{Failure}
use Rattle.ll_program.specs.Policy.{HasBegun, HasBegunAs, HasOpened, HasRun, HasRunAs, IsSetup, IsUnread, MayFail}
use Rattle.ll_program.specs.Comments.{spoken_numbers, spoken_text, stop_there}
use Rattle.ll_program.specs.Options.{RunOrder, TreeOrder, tree_of}
use Rattle.ll_program.specs.declared.failure.Failure.TheVariants.{File, NoMemory}

-- what a run that was performed reads and writes, told of the same devices
pub moved : {T E : Type 0} (r : Result T E) (setup : Setup) (strict : Bool) (stop : T → Option Stop)
    (entries : T → List Entry) (remaining left left' old new new' : Option (List ℕ)) → left ≡ left' → new ≡ new'
    → IfOk r (λ it. IfSome remaining (λ input. Writes old new (λ text.
    RunsAs strict setup input left text (stop it) (entries it))))
    → IfOk r (λ it. IfSome remaining (λ input. Writes old new' (λ text.
    RunsAs strict setup input left' text (stop it) (entries it))))
moved r setup strict stop entries remaining left left' old new new' read wrote h =
    subst (λ (n : Option (List ℕ)). IfOk r (λ it. IfSome remaining (λ input. Writes old n (λ text.
    RunsAs strict setup input left' text (stop it) (entries it))))) wrote
    (subst (λ (l : Option (List ℕ)). IfOk r (λ it. IfSome remaining (λ input. Writes old new (λ text.
    RunsAs strict setup input l text (stop it) (entries it))))) read h)

-- and which faults may end it, whatever the devices count
pub by_devices : {T : Type 0} (r : Result T Failure) (setup : Setup) (strict : Bool) (old new : Devices)
    (remaining out out' out'' : Option (List ℕ)) → out' ≡ out''
    → IfErr r (λ failure. (fault : RunFault) × MayEnd setup fault × (failure ≡ failure_of fault)
    × EndsBy setup fault old new × HasBegun strict setup remaining out out' fault)
    → IfErr r (λ failure. (fault : RunFault) × MayEnd setup fault × (failure ≡ failure_of fault)
    × HasBegun strict setup remaining out out'' fault)
by_devices (Ok it) setup strict old new remaining out out' out'' wrote h = tt
by_devices (Err failure) setup strict old new remaining out out' out'' wrote h =
    (h.0, h.1, h.2, subst (λ (o : Option (List ℕ)). HasBegun strict setup remaining out o h.0) wrote h.4)

-- why a run that was asked for isn't made to its end
pub failing : (order : RunOrder) (text : List ℕ) (setup : Setup) (script script' out out' : Option (List ℕ))
    (failure : Failure) → IsSetup (tree_of order) text setup
    → (IsUnread order.comments failure × (out' ≡ out)) ⊎ ((fault : RunFault) × MayEnd setup fault
    × (failure ≡ failure_of fault) × HasBegunAs order.comments order.strict setup script out out' fault)
    → MayFail order text script script' out out' failure
failing order text setup script script' out out' failure set (inl unread) = inr (inl unread)
failing order text setup script script' out out' failure set (inr h) =
    inr (inr (inl (setup, set, h.0, h.1, h.2, h.3)))

-- a run of a whole script
pub as_whole : (comments strict : Bool) (setup : Setup) (script script' out out' : Option (List ℕ))
    (stop : Option Stop) (entries : List Entry) → comments ≡ false
    → HasRun strict setup script script' out out' stop entries
    → HasRunAs comments strict setup script script' out out' stop entries
as_whole false strict setup script script' out out' stop entries e h = h
as_whole true strict setup script script' out out' stop entries e h = absurd cc

pub begun_whole : (comments strict : Bool) (setup : Setup) (script out out' : Option (List ℕ)) (fault : RunFault)
    → comments ≡ false → HasBegun strict setup script out out' fault
    → HasBegunAs comments strict setup script out out' fault
begun_whole false strict setup script out out' fault e h = h
begun_whole true strict setup script out out' fault e h = absurd cc

-- a run of the lines of a script with comments
pub as_spoken : (comments strict : Bool) (setup : Setup) (script script' left out out' : Option (List ℕ))
    (there stop : Option Stop) (entries : List Entry) (text told numbers : List ℕ) → comments ≡ true
    → IfSome script (λ known. text ≡ known) → told ≡ spoken_text text → numbers ≡ spoken_numbers text
    → stop ≡ option_map (stop_there numbers) there → HasRun strict setup (Some told) left out out' there entries
    → HasRunAs comments strict setup script script' out out' stop entries
as_spoken false strict setup script script' left out out' there stop entries text told numbers e known t n s h =
    absurd cc
as_spoken true strict setup None script' left out out' there stop entries text told numbers e known t n s h =
    tt
as_spoken true strict setup (Some bytes) script' left out out' there stop entries text told numbers e known t n s h = (
  there,
  left,
  s ∙ ap (λ (x : List ℕ). option_map (stop_there x) there) (n ∙ ap spoken_numbers known),
  subst (λ (x : List ℕ). HasRun strict setup (Some x) left out out' there entries) (t ∙ ap spoken_text known) h,
)

pub begun_spoken : (comments strict : Bool) (setup : Setup) (script out out' : Option (List ℕ)) (fault : RunFault)
    (text told : List ℕ) → comments ≡ true → IfSome script (λ known. text ≡ known) → told ≡ spoken_text text
    → HasBegun strict setup (Some told) out out' fault → HasBegunAs comments strict setup script out out' fault
begun_spoken false strict setup script out out' fault text told e known t h = absurd cc
begun_spoken true strict setup None out out' fault text told e known t h = tt
begun_spoken true strict setup (Some bytes) out out' fault text told e known t h =
    subst (λ (x : List ℕ). HasBegun strict setup (Some x) out out' fault) (t ∙ ap spoken_text known) h

-- ---- openings

-- how the opening of a run that was performed was refused, told of the same devices
pub opened_there : {T E : Type 0} (r : Result T E) (setup : Setup) (refusal : T → Option Refusal)
    (entries : T → List Entry) (old new new' : Option (List ℕ)) → new ≡ new'
    → IfOk r (λ it. IsOpened setup old new (refusal it) (entries it))
    → IfOk r (λ it. IsOpened setup old new' (refusal it) (entries it))
opened_there r setup refusal entries old new new' wrote =
    subst (λ (n : Option (List ℕ)). IfOk r (λ it. IsOpened setup old n (refusal it) (entries it))) wrote

-- no comment changes it
refused_still : (numbers : List ℕ) (there : Option Stop) (told : Option Refusal)
    → refusal_in (option_map (stop_there numbers) there) told ≡ refusal_in there told
refused_still numbers None told = refl
refused_still numbers (Some (AtLine line reply)) told = refl
refused_still numbers (Some (AtOpening refusal)) told = refl

pub opened_spoken : (setup : Setup) (old new : Option (List ℕ)) (there stop : Option Stop) (told again : Option Refusal)
    (entries left : List Entry) (numbers : List ℕ) → stop ≡ option_map (stop_there numbers) there → again ≡ told
    → left ≡ entries → IsOpened setup old new (refusal_in there told) entries
    → IsOpened setup old new (refusal_in stop again) left
opened_spoken setup old new there stop told again entries left numbers so same all =
    λ h. subst (λ (es : List Entry). IsOpened setup old new (refusal_in stop again) es) (sym all)
    (subst (λ (o : Option Refusal). IsOpened setup old new o entries)
    (sym (ap (λ (o : Option Stop). refusal_in o again) so
    ∙ ap (refusal_in (option_map (stop_there numbers) there)) same ∙ refused_still numbers there told)) h)

-- and it is that of the run that is asked for
pub has_opened : (order : RunOrder) (tree : TreeOrder) (text : List ℕ) (setup : Setup) (out out' : Option (List ℕ))
    (found refusal : Option Refusal) (entries : List Entry) → tree ≡ tree_of order → IsSetup tree text setup
    → found ≡ refusal → IsOpened setup out out' refusal entries → HasOpened order text out out' found
has_opened order tree text setup out out' found refusal entries same set is h = (
  setup,
  entries,
  subst (λ (o : TreeOrder). IsSetup o text setup) same set,
  subst (λ (o : Option Refusal). IsOpened setup out out' o entries) (sym is) h,
)

-- a script with comments can't be read
pub unread_spoken : (comments : Bool) (failure : Failure) → comments ≡ true → (failure ≡ File) ⊎ (failure ≡ NoMemory)
    → IsUnread comments failure
unread_spoken false failure e why = absurd cc
unread_spoken true failure e why = why
