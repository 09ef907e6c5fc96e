-- What the call of a walk that has ended may rely on, and what comes of it.
use Rattle.std.specs.Prelude.{◌≡◌, ◌≢◌, ◌⊎◌, ℕ, Bool, true, false, ◌==◌, ◌||◌, List, [], ◌∷◌, map, length, Option, Some}
use Rattle.std.specs.Prelude.{None, is_none, option_map, unwrap_or, refl}
use Rattle.std.specs.List.{AllByRecursion, list_any}
use Rattle.std.specs.Option.{option_map_or}
use Rattle.std.proofs.Common.{sym, subst, ap, ◌∙◌, inl, inr}
use Rattle.std.proofs.lemmas.Bool.{eqb-true}
use Rattle.std.proofs.lemmas.Slice.Zip.{AllZip-long}
use Rattle.ll_rights.specs.declared.errno.Errno.TheVariants.{ENOENT}
use Rattle.ll_rights.specs.declared.kind.Kind.TheVariants.{Dir}
use Rattle.ll_path.specs.Path.{Path, parent}
use Rattle.ll_rules.specs.Layer.{Layer}
use Rattle.ll_decide.specs.Masks.{AreMasks, IsMask}
use Rattle.ll_seq.specs.declared.call.Call.{Call}
use Rattle.ll_seq.specs.declared.call.Call.TheVariants as call
use Rattle.ll_seq.specs.declared.client.ClientRecord.{ClientRecord}
use Rattle.ll_seq.specs.declared.reply.Reply.{Reply}
use Rattle.ll_seq.specs.declared.reply.Reply.TheVariants as reply
use Rattle.ll_seq.specs.Asked.{call_denials}
use Rattle.ll_seq.specs.Call.{first_path, second_path}
use Rattle.ll_seq.specs.CallParts.{done, existence_refusals, kind_refusals, limit_refusals}
use Rattle.ll_seq.specs.Stages.{missing}
use Rattle.ll_seq.specs.State.{State, kind_of, new_client}
use Rattle.ll_seq.specs.Memory.{holds_memory}
use Rattle.ll_seq.specs.Step.{client_of, first_or, refusals, step}
use Rattle.ll_seq.specs.Tree.{named, ancestors}
use Rattle.ll_laws.proofs.Unrefused.{nil_left, nil_right, nil_map, not_refused}
use Rattle.ll_seq.specs.declared.changes.Answer.{Answer}
use Rattle.ll_seq.specs.declared.changes.Answer.TheVariants.{Done, Opened, Status, Names}
use Rattle.ll_seq.specs.declared.changes.At.{At}
use Rattle.ll_seq.specs.declared.changes.Change.{Change}
use Rattle.ll_seq.specs.declared.changes.Change.TheVariants.{Nothing, Make, Take, Name, Move, Replace, Exchange}
use Rattle.ll_seq.specs.declared.changes.Change.TheVariants.{Resize, Open, Allow}
use Rattle.ll_seq.specs.declared.changes.Effect.{Effect}
use Rattle.ll_seq.specs.declared.changes.Opening.{Opening}
use Rattle.ll_seq.specs.declared.found.Found.{Found}
use Rattle.ll_seq.specs.declared.found.There.{There}
use Rattle.ll_seq.specs.Decided.{IsDone, IsRefused}
use Rattle.ll_seq.specs.Effect.{CanOpen, Fits, Holds, after, told}
use Rattle.ll_seq.specs.Found.{there_in}
use Rattle.ll_seq.specs.Lean.{spares_memory}
use Rattle.ll_seq.specs.Near.{AreNear, IsNear, changed_inodes, inode_at, nodes_of, opened_inode, told_inodes}
use Rattle.ll_node.specs.Enactment.{Scene, InHand, Covers, Enacts, MayEnact}
use Rattle.ll_node.proofs.GivenSlots.{given_tree, held_there, kind_there, made_idle, some_there}
use Rattle.ll_node.proofs.StayingSlots.{directory_some, named_some}
use Rattle.ll_laws.specs.Walk.{is_in}
use Rattle.ll_journal.specs.declared.seat.Ended.{Ended}
use Rattle.ll_journal.specs.Performed.{IsAtEnd, IsPerformed, lies_in}
use Rattle.ll_journal.proofs.HeldReplies.{held_free, held_takes}

masks_long : (masks inodes : List ℕ) (domain : List Layer) → AreMasks masks domain inodes → length masks ≡ length domain
masks_long masks inodes domain are = sym (AllZip-long (λ mask layer. IsMask mask layer inodes) masks domain are)

-- one of these, of which none is 0, isn't
among_some : (xs : List ℕ) (i : ℕ) → AllByRecursion (λ j. j ≢ 0) xs → list_any (λ j. j == i) xs ≡ true → i ≢ 0
among_some [] i somes any = absurd (cc any)
among_some (x ∷ xs) i somes any =
    elim (x == i) as (λ b. (x == i) ≡ b → (b || list_any (λ j. j == i) xs) ≡ true → i ≢ 0) [
      | true ↦ λ e f none. somes.0 (eqb-true x i e ∙ none)
      | false ↦ λ e f. among_some xs i somes.1 f
    ] refl any

-- ---- the calls that are told of a node

abbrev tells : Reply → Bool
tells (reply.Found status) = true
tells (reply.Listed names) = true
tells _ = false

told_tells : (s : State) (answer : Answer) → (told_inodes answer ≡ []) ⊎ (tells (told s answer) ≡ true)
told_tells s Done = inl refl
told_tells s (Opened number) = inl refl
told_tells s (Status inode kind) = inr refl
told_tells s (Names inode) = inr refl

-- they have one path, and what it names is there
abbrev AsksOfNode : State → Call → Found → Path → Path → Type 0
AsksOfNode s call found at new =
    (existence_refusals s call at new ≡ missing s at) × (nodes_of call found ≡ inode_at found.first ∷ [])

told_call : (s : State) (n : ℕ) (c : ClientRecord) (found : Found) (at new : Path) (fresh : ℕ) (call : Call)
    → tells (done s n c call at new fresh).0 ≡ true → AsksOfNode s call found at new
told_call s n c found at new fresh (call.Make kind target) tells = absurd (cc tells)
told_call s n c found at new fresh (call.Open mode target) tells = absurd (cc tells)
told_call s n c found at new fresh (call.Read fd offset count) tells = absurd (cc tells)
told_call s n c found at new fresh (call.Write fd offset bytes) tells = absurd (cc tells)
told_call s n c found at new fresh (call.Ftruncate fd size) tells = absurd (cc tells)
told_call s n c found at new fresh (call.Close fd) tells = absurd (cc tells)
told_call s n c found at new fresh (call.Truncate target size) tells = absurd (cc tells)
told_call s n c found at new fresh (call.ReadDir target) tells = (refl, refl)
told_call s n c found at new fresh (call.Stat target) tells = (refl, refl)
told_call s n c found at new fresh (call.Exec target) tells = absurd (cc tells)
told_call s n c found at new fresh (call.Unlink target) tells = absurd (cc tells)
told_call s n c found at new fresh (call.Rmdir target) tells = absurd (cc tells)
told_call s n c found at new fresh (call.Rename from into) tells = absurd (cc tells)
told_call s n c found at new fresh (call.RenameNoreplace from into) tells = absurd (cc tells)
told_call s n c found at new fresh (call.Exchange from into) tells = absurd (cc tells)
told_call s n c found at new fresh (call.Link from into) tells = absurd (cc tells)
told_call s n c found at new fresh (call.Ruleset rights) tells = absurd (cc tells)
told_call s n c found at new fresh (call.Allow number target rights) tells = absurd (cc tells)
told_call s n c found at new fresh (call.Confine number) tells = absurd (cc tells)
told_call s n c found at new fresh call.Spawn tells = absurd (cc tells)
told_call s n c found at new fresh call.Connect tells = absurd (cc tells)

-- where nothing refuses a call, nothing refuses it for what isn't there
none_missing : (s : State) (c : ClientRecord) (asked : Call) → refusals s c asked ≡ []
    → existence_refusals s asked (first_path asked) (second_path asked) ≡ []
none_missing s c asked free =
    let at = first_path asked in
    let new = second_path asked in
    nil_map reply.Refused (existence_refusals s asked at new)
    (nil_right _ (map reply.Refused (existence_refusals s asked at new))
    (nil_left _ (map reply.Denied (call_denials s c asked))
    (nil_left _ (map reply.Refused (kind_refusals s c asked at new))
    (nil_left _ (map reply.Refused (limit_refusals s c asked at new)) free))))

named_there : (o : Option ℕ) → is_none o ≡ false → (x : ℕ) × (o ≡ Some x)
named_there None e = absurd (cc e)
named_there (Some x) e = (x, refl)

module _ {scene : Scene} {hand : InHand} {walk : Ended} {found : Found} (end : IsAtEnd scene hand walk found) where
  open scene use {state as s, number, spares}
  open hand use {client as c, table}
  open walk use {call as asked, first, second}

  pub client_is : client_of s number ≡ c
  client_is = ap (λ (o : Option ClientRecord). unwrap_or o new_client) end.given.client

  pub first_long : length first ≡ length c.domain
  first_long = masks_long first (ancestors s (parent (first_path asked))) c.domain end.old.masks

  pub second_long : length second ≡ length c.domain
  second_long = masks_long second (ancestors s (parent (second_path asked))) c.domain end.new.masks

  -- ---- what is refused

  pub refused : (answer : Reply) → IsRefused s number asked answer
      → IsPerformed scene hand asked answer hand
  refused answer same = record {
    after = s;
    steps = λ fresh. sym (same fresh);
    made = made_idle end.given;
  }

  -- a reply that holds bytes or names is no refusal
  holding : (answer : Reply) → IsRefused s number asked answer → holds_memory answer ≡ true
      → holds_memory (step s number asked 0).0 ≡ true
  holding answer same holds = ap (λ (o : Reply × State). holds_memory o.0) (sym (same 0)) ∙ holds

  pub free_if_held : (answer : Reply) → IsRefused s number asked answer → holds_memory answer ≡ true
      → refusals s (client_of s number) asked ≡ []
  free_if_held answer same holds = held_free s number asked 0 (holding answer same holds)

  pub takes_if_held : (answer : Reply) → IsRefused s number asked answer → holds_memory answer ≡ true
      → spares_memory asked ≡ false
  takes_if_held answer same holds = held_takes s number asked 0 (holding answer same holds)

  -- ---- which nodes are there

  held_some : (at : At) (x : ℕ) → Holds s at x → x ≢ 0
  held_some at x holds = some_there s spares table end.given.counted x (held_there s (given_tree end.given) at x holds)

  opened_some : (o : Opening) (there : Option ℕ) → CanOpen s o there → opened_inode o.at there ≢ 0
  opened_some o None can = directory_some end.given o.at can.lacks.directory
  opened_some o (Some inode) can = named_some end.given inode can

  changed_some : (change : Change) → Fits s c change → AllByRecursion (λ i. i ≢ 0) (changed_inodes change)
  changed_some Nothing fits = tt
  changed_some (Make at kind) fits = (directory_some end.given at fits.lacks.directory, tt)
  changed_some (Take at inode) fits =
      (directory_some end.given at fits.holds.directory, (held_some at inode fits.holds, tt))
  changed_some (Name at inode) fits = (directory_some end.given at fits.lacks.directory, tt)
  changed_some (Move old new inode) fits =
      (directory_some end.given old fits.old.directory, (directory_some end.given new fits.new.directory, tt))
  changed_some (Replace old new inode replaced) fits = (
    directory_some end.given old fits.old.directory,
    (directory_some end.given new fits.new.directory, (held_some new replaced fits.new, tt)),
  )
  changed_some (Exchange old new one other) fits =
      (directory_some end.given old fits.old.directory, (directory_some end.given new fits.new.directory, tt))
  changed_some (Resize inode size) fits = (named_some end.given inode fits.named, tt)
  changed_some (Open opening) fits = (opened_some opening opening.there fits.file, tt)
  changed_some (Allow rule) fits = tt

  directory_of_some : (i : ℕ) → kind_of s i ≡ Some Dir → i ≢ 0
  directory_of_some i is = some_there s spares table end.given.counted i (kind_there s i Dir is)

  -- what the first path names
  first_some : (x : ℕ) → named s (first_path asked) ≡ Some x → inode_at found.first ≢ 0
  first_some x names none =
      named_some end.given x (first_path asked, names)
      (sym (ap (λ (o : Option There). option_map_or (λ (there : There). there.inode) o 0)
      ((end.facts.first.stands end.old.way).there ∙ ap (option_map (there_in s)) names)) ∙ none)

  -- ---- which nodes are lent

  near_lies : (i : ℕ) → list_any (λ j. j == i) (found.first.directory ∷ found.second.directory ∷ nodes_of asked found)
      ≡ true → i ≢ 0 → lies_in hand i
  near_lies i any some = by (found.first.directory == i) (found.second.directory == i) refl refl any
    where
      by : (a b : Bool) → (found.first.directory == i) ≡ a → (found.second.directory == i) ≡ b
          → (a || (b || is_in (nodes_of asked found) i)) ≡ true → lies_in hand i
      by true b e f g = subst (lies_in hand) (eqb-true found.first.directory i e) end.old_lent
      by false true e f g = subst (lies_in hand) (eqb-true found.second.directory i f) end.new_lent
      by false false e f g = end.nodes i g some

  all_lie : (inodes : List ℕ) → AreNear asked found inodes → AllByRecursion (λ i. i ≢ 0) inodes
      → AllByRecursion (lies_in hand) inodes
  all_lie [] near somes = tt
  all_lie (i ∷ is) near somes = (near_lies i near.0 somes.0, all_lie is near.1 somes.1)

  -- ---- what is done

  module _ (effect : Effect) (is : IsDone s number asked effect) (near : IsNear asked found effect) where
    fits : Fits s c effect.change
    fits = subst (λ (d : ClientRecord). Fits s d effect.change) client_is is.fits

    covers : Covers hand effect.change
    covers = record {
      touched = all_lie (changed_inodes effect.change) near.changed (changed_some effect.change fits);
      new = λ makes. end.kept (near.made makes);
    }

    pub may_enact : MayEnact effect.change hand
    may_enact = record { scene = scene; given = end.given; fits = fits; covers = covers }

    answered : (done s number (client_of s number) asked (first_path asked) (second_path asked) 0).0
        ≡ told s effect.answer
    answered =
        ap (λ (o : Reply × State). o.0)
        (sym (ap (λ replies. first_or s replies
        (done s number (client_of s number) asked (first_path asked) (second_path asked) 0)) is.free) ∙ is.done 0)

    pub takes_if_told : (answer : Reply) → answer ≡ told s effect.answer → holds_memory answer ≡ true
        → spares_memory asked ≡ false
    takes_if_told answer tells_so holds =
        held_takes s number asked 0 (ap (λ (o : Reply × State). holds_memory o.0) (is.done 0)
        ∙ ap holds_memory (sym tells_so) ∙ holds)

    -- the nodes that are told of are there
    pub told_some : AllByRecursion (λ i. i ≢ 0) (told_inodes effect.answer)
    told_some = elim (told_tells s effect.answer) [
      | inl none ↦ subst (AllByRecursion (λ i. i ≢ 0)) (sym none) tt
      | inr tells_of ↦
          let asks = told_call s number (client_of s number) found (first_path asked) (second_path asked) 0 asked
          (ap tells answered ∙ tells_of) in
          let there = named_there (named s (first_path asked))
          (not_refused _ ENOENT (sym asks.0 ∙ none_missing s (client_of s number) asked is.free)) in
          over (subst (AllByRecursion (λ i. i ≢ 0)) (sym asks.1) (first_some there.0 there.1, tt))
          (told_inodes effect.answer) near.told
    ]
      where
        over : AllByRecursion (λ i. i ≢ 0) (nodes_of asked found) → (inodes : List ℕ) → AreNear asked found inodes
            → AllByRecursion (λ i. i ≢ 0) inodes
        over somes [] nears = tt
        over somes (i ∷ inodes) nears = (
          among_some (found.first.directory ∷ found.second.directory ∷ nodes_of asked found) i (
            directory_of_some found.first.directory end.old.directory,
            (directory_of_some found.second.directory end.new.directory, somes),
          ) nears.0,
          over somes inodes nears.1,
        )

    -- and lent
    pub told_lie : AllByRecursion (lies_in hand) (told_inodes effect.answer)
    told_lie = all_lie (told_inodes effect.answer) near.told told_some

    pub performed : {new : InHand} (answer : Reply) → answer ≡ told s effect.answer → Enacts effect.change hand new
        → IsPerformed scene hand asked answer new
    performed answer tells_so enacted = record {
      after = after s number c effect.change;
      steps = λ fresh. is.done fresh ∙ (λ i. (sym tells_so i, after s number (client_is i) effect.change));
      made = enacted scene end.given fits covers;
    }
