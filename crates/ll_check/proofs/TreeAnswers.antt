-- Each tree's answer to a command is one that it may have.
use Rattle.std.specs.Prelude.{⊤, ◌≡◌, ◌⊎◌, ℕ, Bool, true, false, not, ◌&&◌, ◌||◌, ◌==◌, List, [], ◌∷◌, ◌++◌, Option}
use Rattle.std.specs.Prelude.{None, Some}
use Rattle.std.specs.Prelude.{map, refl, option_map, option_and_then, option_to_list, is_some, is_none}
use Rattle.std.specs.List.{AllByRecursion, enumerate_from, flat_map}
use Rattle.std.proofs.Common.{inl, inr, eq-eqb, eqb-true, subst, sym}
use Rattle.ll_rights.specs.declared.errno.Errno.{Errno}
use Rattle.ll_rights.specs.declared.errno.Errno.TheVariants.{ENOENT, EEXIST}
use Rattle.ll_rights.specs.declared.kind.Kind.{Kind}
use Rattle.ll_rights.specs.declared.kind.Kind.TheVariants as kind
use Rattle.ll_rights.specs.Kind.{make_right, remove_right}
use Rattle.ll_rights.specs.Right as right_of
use Rattle.ll_rights.specs.Right.{refer, all_rights}
use Rattle.ll_rights.specs.Access.{holds}
use Rattle.ll_rights.specs.Map.{get}
use Rattle.ll_path.specs.Path.{Path, parent}
use Rattle.ll_rights.specs.Errno.{errno_number, refuse}
use Rattle.ll_decide.specs.declared.denial.Cause.{Cause}
use Rattle.ll_decide.specs.declared.denial.Cause.TheVariants.{EACCES, EXDEV}
use Rattle.ll_decide.specs.declared.denial.Denial.{Denial}
use Rattle.ll_decide.specs.declared.denial.Place.{Place}
use Rattle.ll_decide.specs.declared.denial.Place.TheVariants.{At, Old, New}
use Rattle.ll_decide.specs.Verdict.{Ask, Move, all_denials, denials, gains, is_at, lacks, places, rights_without_refer}
use Rattle.ll_decide.specs.Verdict.{when}
use Rattle.ll_seq.specs.declared.client.ClientRecord.{ClientRecord}
use Rattle.ll_seq.specs.declared.client.Descriptor.{Descriptor}
use Rattle.ll_seq.specs.declared.call.Call.{Call}
use Rattle.ll_seq.specs.declared.call.Call.TheVariants.{Make, Open, Read, Write, Ftruncate, Close, Truncate, ReadDir}
use Rattle.ll_seq.specs.declared.call.Call.TheVariants.{Stat, Exec, Unlink, Rmdir, Rename, RenameNoreplace, Exchange}
use Rattle.ll_seq.specs.declared.call.Call.TheVariants.{Link, Ruleset, Allow, Confine, Spawn, Connect}
use Rattle.ll_seq.specs.declared.call.Mode.{Mode}
use Rattle.ll_seq.specs.declared.reply.Reply.{Reply}
use Rattle.ll_seq.specs.declared.reply.Reply.TheVariants.{Refused}
use Rattle.ll_seq.specs.declared.reply.Reply.TheVariants as reply
use Rattle.ll_seq.proofs.Settled.{Settles, step-settles}
use Rattle.ll_wire.specs.FirstWords.{Begins, BeginsDenial, BeginsRefusal}
use Rattle.ll_wire.specs.declared.first_words.FirstWords.{FirstWords}
use Rattle.ll_wire.specs.declared.first_words.FirstWords.TheVariants as first
use Rattle.ll_wire.specs.declared.first_words.DenialWords.{DenialWords}
use Rattle.ll_wire.specs.declared.first_words.DenialWords.TheVariants as words
use Rattle.ll_wire.specs.declared.first_words.RefusalWords.{RefusalWords}
use Rattle.ll_wire.specs.declared.first_words.RefusalWords.TheVariants as refusal
use Rattle.ll_check.specs.declared.wanted.Wanted.{Wanted}
use Rattle.ll_check.specs.declared.wanted.Wanted.TheVariants.{Success, Allowed, Denied, DeniedRight, DeniedAt, Whole}
use Rattle.ll_check.specs.declared.wanted.Wanted.TheVariants.{First}
use Rattle.ll_check.specs.Wanted.{Satisfies}
use Rattle.ll_seq.specs.Asked.{call_denials, demanded, grants, opening_asked, parents_differ}
use Rattle.ll_seq.specs.Call.{creates, first_path, is_exclusive, reads, second_path, writes}
use Rattle.ll_seq.specs.Effects.{effect}
use Rattle.ll_seq.specs.Stages.{number_refusals, relation_refusals, stages, text_refusals, walk_refusals}
use Rattle.ll_seq.specs.State.{State, new_client}
use Rattle.ll_seq.specs.Step.{client_of, first_or, step}
use Rattle.ll_seq.specs.Tree.{kind_at, named}
use Rattle.ll_check.specs.Possible.{AnswersFit, CanCome, MayAnswer, MayBeDenied, MayBeRefused, MayBegin, MayGet}
use Rattle.ll_check.specs.Possible.{MayRefuse, NeverComes, form_of, success_of}
use Rattle.ll_check.specs.Possible.{has_two_paths, is_asked, is_asked_old, is_deniable, may_deny, may_deny_right}
use Rattle.ll_check.specs.Possible.{may_open}

-- ---- what holds of all

module _ {A : Type 0} (P : A → Type 0) where
  both : (xs ys : List A) → AllByRecursion P xs → AllByRecursion P ys → AllByRecursion P (xs ++ ys)
  both [] ys first second = second
  both (x ∷ xs) ys first second = (first.0, both xs ys first.1 second)

  of_each : {B : Type 0} (f : B → A) (xs : List B) → ((x : B) → P (f x)) → AllByRecursion P (map f xs)
  of_each f [] are = tt
  of_each f (x ∷ xs) are = (are x, of_each f xs are)

  of_all : {B : Type 0} (f : B → A) (xs : List B) → AllByRecursion (λ x. P (f x)) xs → AllByRecursion P (map f xs)
  of_all f [] are = tt
  of_all f (x ∷ xs) are = (are.0, of_all f xs are.1)

  of_flat : {B : Type 0} (f : B → List A) (xs : List B) → ((x : B) → AllByRecursion P (f x))
      → AllByRecursion P (flat_map f xs)
  of_flat f [] are = tt
  of_flat f (x ∷ xs) are = both (f x) (flat_map f xs) (are x) (of_flat f xs are)

  of_one : (b : Bool) (x : A) → (b ≡ true → P x) → AllByRecursion P (when b (x ∷ []))
  of_one true x is = (is refl, tt)
  of_one false x is = tt

-- ---- denials

-- each denial has a right and a place like this
abbrev AreLike : (ℕ → Place → Bool) → List Denial → Type 0
AreLike like = AllByRecursion (λ d. like d.right d.place ≡ true)

abbrev AsksAreLike : (ℕ → Place → Bool) → List (Ask Path) → Type 0
AsksAreLike like = AllByRecursion (λ (a : Ask Path). like a.right a.place ≡ true)

abbrev MovesAreLike : (ℕ → Place → Bool) → List (Move Path) → Type 0
MovesAreLike like = AllByRecursion (λ (m : Move Path). (right : ℕ) → like right m.place ≡ true)

both_true : (a b : Bool) → (a && b) ≡ true → (a ≡ true) × (b ≡ true)
both_true true b e = (refl, e)
both_true false b e = absurd cc

same_place : (a b : Place) → is_at a b ≡ true → a ≡ b
same_place At At e = refl
same_place Old Old e = refl
same_place New New e = refl
same_place At Old e = absurd cc
same_place At New e = absurd cc
same_place Old At e = absurd cc
same_place Old New e = absurd cc
same_place New At e = absurd cc
same_place New Old e = absurd cc

module _ (like : ℕ → Place → Bool) where
  found : {A : Type 0} (cause : Cause) (layers : List A) (rights : List ℕ) (test : A → ℕ → Place → Bool)
      → ((layer : A) (right : ℕ) (place : Place) → test layer right place ≡ true → like right place ≡ true)
      → AreLike like (denials cause layers rights places test)
  found {A} cause layers rights test is =
      of_flat (λ (d : Denial). like d.right d.place ≡ true) _ (enumerate_from 1 layers) (λ (l : ℕ × A).
      of_flat (λ (d : Denial). like d.right d.place ≡ true) _ rights (λ right.
      of_flat (λ (d : Denial). like d.right d.place ≡ true) _ places (λ place.
      of_one (λ (d : Denial). like d.right d.place ≡ true) (test l.1 right place)
      (record { cause = cause; layer = l.0; right = right; place = place }) (is l.1 right place))))

  module _ {A : Type 0} (grant : A → Path → ℕ → Bool) (layer : A) (right : ℕ) (place : Place) where
    asked_like : (asks : List (Ask Path)) → AsksAreLike like asks → lacks grant asks layer right place ≡ true
        → like right place ≡ true
    asked_like [] are e = absurd cc
    asked_like (a ∷ asks) are e =
        by ((a.right == right) && is_at a.place place && not (grant layer a.path right)) refl e (asked_like asks are.1)
      where
        by : (b : Bool) → ((a.right == right) && is_at a.place place && not (grant layer a.path right)) ≡ b
            → (b || lacks grant asks layer right place) ≡ true
            → (lacks grant asks layer right place ≡ true → like right place ≡ true) → like right place ≡ true
        by false is e more = more e
        by true is e more =
            let two = both_true ((a.right == right) && is_at a.place place) (not (grant layer a.path right)) is in
            let one = both_true (a.right == right) (is_at a.place place) two.0 in
            subst (λ (r : ℕ). like r place ≡ true) (eqb-true a.right right one.0)
            (subst (λ (p : Place). like a.right p ≡ true) (same_place a.place place one.1) are.0)

    moved_like : (moves : List (Move Path)) → MovesAreLike like moves → gains grant moves layer right place ≡ true
        → like right place ≡ true
    moved_like [] are e = absurd cc
    moved_like (m ∷ moves) are e =
        by (is_at m.place place && holds m.relevant right && grant layer m.into right && not (grant layer m.from right))
        refl e (moved_like moves are.1)
      where
        by : (b : Bool) → (is_at m.place place && holds m.relevant right && grant layer m.into right
            && not (grant layer m.from right)) ≡ b → (b || gains grant moves layer right place) ≡ true
            → (gains grant moves layer right place ≡ true → like right place ≡ true) → like right place ≡ true
        by false is e more = more e
        by true is e more =
            let three = both_true (is_at m.place place && holds m.relevant right && grant layer m.into right)
            (not (grant layer m.from right)) is in
            let two = both_true (is_at m.place place && holds m.relevant right) (grant layer m.into right) three.0 in
            let one = both_true (is_at m.place place) (holds m.relevant right) two.0 in
            subst (λ (p : Place). like right p ≡ true) (same_place m.place place one.0) (are.0 right)

  all_like : {A : Type 0} (grant : A → Path → ℕ → Bool) (layers : List A) (asks : List (Ask Path))
      (moves : List (Move Path)) → AsksAreLike like asks → MovesAreLike like moves
      → AreLike like (all_denials grant layers asks moves)
  all_like grant layers asks moves a m =
      both (λ (d : Denial). like d.right d.place ≡ true) _ (denials EXDEV layers all_rights places (gains grant moves))
      (both (λ (d : Denial). like d.right d.place ≡ true) (denials EACCES layers rights_without_refer places
      (lacks grant asks)) (denials EXDEV layers (refer ∷ []) places (lacks grant asks))
      (found EACCES layers rights_without_refer (lacks grant asks) (λ l r p. asked_like grant l r p asks a))
      (found EXDEV layers (refer ∷ []) (lacks grant asks) (λ l r p. asked_like grant l r p asks a)))
      (found EXDEV layers all_rights (gains grant moves) (λ l r p. moved_like grant l r p moves m))

-- ---- what each command asks

no_more : {A : Type 0} (xs ys : List A) → xs ++ ys ≡ [] → ys ≡ []
no_more [] ys e = e
no_more (x ∷ xs) ys e = absurd cc

no_less : {A : Type 0} (xs ys : List A) → xs ++ ys ≡ [] → xs ≡ []
no_less [] ys e = refl
no_less (x ∷ xs) ys e = absurd cc

-- what is missing is opened only if it may be created
is_created : (create exists : Bool) (more : List Errno) → when (not create) (refuse (not exists) ENOENT) ++ more ≡ []
    → not exists ≡ true → create ≡ true
is_created true exists more e none = refl
is_created false true more e none = absurd cc
is_created false false more e none = absurd cc

-- they are of a path itself or its directory
abbrev AreAt : (ℕ → Bool) → List (Ask Path) → Type 0
AreAt asked = AllByRecursion (λ (a : Ask Path). (a.place ≡ At) × (asked a.right ≡ true))

at_once : (call : Call) (asks : List (Ask Path)) → AreAt (is_asked call) asks → AsksAreLike (may_deny call) asks
at_once call [] are = tt
at_once call (a ∷ asks) are = (
  subst (λ (p : Place). may_deny call a.right p ≡ true) (sym are.0.0) are.0.1,
  at_once call asks are.1,
)

flags : (make read write cut exists : Bool) (path above : Path) → (not exists ≡ true → make ≡ true)
    → AreAt (λ right.
    ((right == right_of.make_reg) && make) || ((right == right_of.read_file) && read)
    || ((right == right_of.write_file) && write) || ((right == right_of.truncate) && cut))
    (when (not exists) (record { path = above; right = right_of.make_reg; place = At } ∷ [])
    ++ when read (record { path = path; right = right_of.read_file; place = At } ∷ [])
    ++ when write (record { path = path; right = right_of.write_file; place = At } ∷ [])
    ++ when (cut && exists) (record { path = path; right = right_of.truncate; place = At } ∷ []))
flags true true true true true path above new = ((refl, refl), ((refl, refl), ((refl, refl), tt)))
flags true true true true false path above new = ((refl, refl), ((refl, refl), ((refl, refl), tt)))
flags true true true false true path above new = ((refl, refl), ((refl, refl), tt))
flags true true true false false path above new = ((refl, refl), ((refl, refl), ((refl, refl), tt)))
flags true true false true true path above new = ((refl, refl), ((refl, refl), tt))
flags true true false true false path above new = ((refl, refl), ((refl, refl), tt))
flags true true false false true path above new = ((refl, refl), tt)
flags true true false false false path above new = ((refl, refl), ((refl, refl), tt))
flags true false true true true path above new = ((refl, refl), ((refl, refl), tt))
flags true false true true false path above new = ((refl, refl), ((refl, refl), tt))
flags true false true false true path above new = ((refl, refl), tt)
flags true false true false false path above new = ((refl, refl), ((refl, refl), tt))
flags true false false true true path above new = ((refl, refl), tt)
flags true false false true false path above new = ((refl, refl), tt)
flags true false false false true path above new = tt
flags true false false false false path above new = ((refl, refl), tt)
flags false true true true true path above new = ((refl, refl), ((refl, refl), ((refl, refl), tt)))
flags false true true false true path above new = ((refl, refl), ((refl, refl), tt))
flags false true false true true path above new = ((refl, refl), ((refl, refl), tt))
flags false true false false true path above new = ((refl, refl), tt)
flags false false true true true path above new = ((refl, refl), ((refl, refl), tt))
flags false false true false true path above new = ((refl, refl), tt)
flags false false false true true path above new = ((refl, refl), tt)
flags false false false false true path above new = tt
flags false read write cut false path above new = absurd (cc (new refl))

opened : (mode : Mode) (there : Option ℕ) (path : Path)
    → when (not (creates mode.creation)) (refuse (is_none there) ENOENT)
    ++ when (is_exclusive mode.creation) (refuse (is_some there) EEXIST) ≡ []
    → AreAt (may_open mode) (opening_asked mode path (is_some there))
opened mode (Some inode) path e =
    flags (creates mode.creation) (reads mode.access) (writes mode.access) mode.truncate true path (parent path)
    (λ none. absurd (cc none))
opened mode None path e =
    flags (creates mode.creation) (reads mode.access) (writes mode.access) mode.truncate false path (parent path)
    (is_created (creates mode.creation) false (when (is_exclusive mode.creation) (refuse false EEXIST)) e)

is_removed : (kind : Kind) → ((remove_right kind == right_of.remove_file) || (remove_right kind == right_of.remove_dir)
    || (remove_right kind == right_of.refer)) ≡ true
is_removed kind.Reg = refl
is_removed kind.Dir = refl
is_removed kind.Sym = refl
is_removed kind.Fifo = refl
is_removed kind.Sock = refl
is_removed kind.Char = refl
is_removed kind.Block = refl

if_so : {A : Type 0} (P : A → Type 0) (b : Bool) (xs : List A) → AllByRecursion P xs → AllByRecursion P (when b xs)
if_so P true xs are = are
if_so P false xs are = tt

module _ (s : State) (at new : Path) where
  abbrev Asks : Call → List (Ask Path) → Type 0
  Asks call = AsksAreLike (may_deny call)

  one : (call : Call) (a : Ask Path) → may_deny call a.right a.place ≡ true → Asks call (a ∷ [])
  one call a is = (is, tt)

  asks_like : (call : Call) → (stages s new_client at new call).existence ≡ []
      → AsksAreLike (may_deny call) (demanded s at new call).0
  asks_like (Make kind target) e = (eq-eqb (make_right kind) (make_right kind) refl, tt)
  asks_like (Open mode target) e = at_once (Open mode target) _ (opened mode (named s at) at e)
  asks_like (Read fd offset count) e = tt
  asks_like (Write fd offset bytes) e = tt
  asks_like (Ftruncate fd size) e = tt
  asks_like (Close fd) e = tt
  asks_like (Truncate target size) e = (refl, tt)
  asks_like (ReadDir target) e = (refl, tt)
  asks_like (Stat target) e = tt
  asks_like (Exec target) e = (refl, (refl, tt))
  asks_like (Unlink target) e = (refl, tt)
  asks_like (Rmdir target) e = (refl, tt)
  asks_like (Rename from into) e = (
    is_removed (kind_at s at),
    (
      refl,
      both (λ (a : Ask Path). may_deny (Rename from into) a.right a.place ≡ true) (when (is_some (named s new)) _)
          (when (parents_differ s at new) _)
          (if_so (λ (a : Ask Path). may_deny (Rename from into) a.right a.place ≡ true) (is_some (named s new)) _
          (refl, tt))
          (if_so (λ (a : Ask Path). may_deny (Rename from into) a.right a.place ≡ true) (parents_differ s at new) _
          (refl, (refl, tt))),
    ),
  )
  asks_like (RenameNoreplace from into) e = (
    is_removed (kind_at s at),
    (
      refl,
      if_so (λ (a : Ask Path). may_deny (RenameNoreplace from into) a.right a.place ≡ true) (parents_differ s at new) _
          (refl, (refl, tt)),
    ),
  )
  asks_like (Exchange from into) e = (
    refl,
    (
      refl,
      (
        refl,
        (
          refl,
          if_so (λ (a : Ask Path). may_deny (Exchange from into) a.right a.place ≡ true) (parents_differ s at new) _
              (refl, (refl, tt)),
        ),
      ),
    ),
  )
  asks_like (Link from into) e = (
    refl,
    if_so (λ (a : Ask Path). may_deny (Link from into) a.right a.place ≡ true) (parents_differ s at new) _
        (refl, (refl, tt)),
  )
  asks_like (Ruleset rights) e = tt
  asks_like (Allow number target rights) e = tt
  asks_like (Confine number) e = tt
  asks_like Spawn e = tt
  asks_like Connect e = tt

  abbrev Moves : Call → List (Move Path) → Type 0
  Moves call = MovesAreLike (may_deny call)

  moves_like : (call : Call) → MovesAreLike (may_deny call) (demanded s at new call).1
  moves_like (Make kind target) = tt
  moves_like (Open mode target) = tt
  moves_like (Read fd offset count) = tt
  moves_like (Write fd offset bytes) = tt
  moves_like (Ftruncate fd size) = tt
  moves_like (Close fd) = tt
  moves_like (Truncate target size) = tt
  moves_like (ReadDir target) = tt
  moves_like (Stat target) = tt
  moves_like (Exec target) = tt
  moves_like (Unlink target) = tt
  moves_like (Rmdir target) = tt
  moves_like (Rename from into) = of_one (λ (m : Move Path). (right : ℕ)
      → may_deny (Rename from into) right m.place ≡ true) (parents_differ s at new) _ (λ e right. refl)
  moves_like (RenameNoreplace from into) = of_one (λ (m : Move Path). (right : ℕ)
      → may_deny (RenameNoreplace from into) right m.place ≡ true) (parents_differ s at new) _ (λ e right. refl)
  moves_like (Exchange from into) = both (λ (m : Move Path). (right : ℕ)
      → may_deny (Exchange from into) right m.place ≡ true) (when (parents_differ s at new) _)
      (when (parents_differ s new at) _)
      (of_one (λ (m : Move Path). (right : ℕ) → may_deny (Exchange from into) right m.place ≡ true)
      (parents_differ s at new) _ (λ e right. refl))
      (of_one (λ (m : Move Path). (right : ℕ) → may_deny (Exchange from into) right m.place ≡ true)
      (parents_differ s new at) _ (λ e right. refl))
  moves_like (Link from into) = of_one (λ (m : Move Path). (right : ℕ)
      → may_deny (Link from into) right m.place ≡ true) (parents_differ s at new) _ (λ e right. refl)
  moves_like (Ruleset rights) = tt
  moves_like (Allow number target rights) = tt
  moves_like (Confine number) = tt
  moves_like Spawn = tt
  moves_like Connect = tt

-- an ftruncate's denial, if it has one
kept_like : (fd size : ℕ) (layer : Option ℕ) → AreLike (may_deny (Ftruncate fd size)) (option_to_list (option_map
    (λ (layer : ℕ). record { cause = EACCES; layer = layer; right = right_of.truncate; place = At }) layer))
kept_like fd size None = tt
kept_like fd size (Some layer) = (refl, tt)

module _ (s : State) (c : ClientRecord) where
  layers_like : (call : Call)
      → (stages s new_client (first_path call) (second_path call) call).existence ≡ []
      → AreLike (may_deny call) (all_denials (grants s) c.domain
      (demanded s (first_path call) (second_path call) call).0
      (demanded s (first_path call) (second_path call) call).1)
  layers_like call e =
      all_like (may_deny call) (grants s) c.domain (demanded s (first_path call) (second_path call) call).0
      (demanded s (first_path call) (second_path call) call).1
      (asks_like s (first_path call) (second_path call) call e) (moves_like s (first_path call) (second_path call) call)

  denials_like : (call : Call)
      → (stages s new_client (first_path call) (second_path call) call).existence ≡ []
      → AreLike (may_deny call) (call_denials s c call)
  denials_like (Ftruncate fd size) e =
      kept_like fd size (option_and_then (λ (d : Descriptor). d.kept) (get c.descriptors fd))
  denials_like (Make kind target) e = layers_like (Make kind target) e
  denials_like (Open mode target) e = layers_like (Open mode target) e
  denials_like (Read fd offset count) e = layers_like (Read fd offset count) e
  denials_like (Write fd offset bytes) e = layers_like (Write fd offset bytes) e
  denials_like (Close fd) e = layers_like (Close fd) e
  denials_like (Truncate target size) e = layers_like (Truncate target size) e
  denials_like (ReadDir target) e = layers_like (ReadDir target) e
  denials_like (Stat target) e = layers_like (Stat target) e
  denials_like (Exec target) e = layers_like (Exec target) e
  denials_like (Unlink target) e = layers_like (Unlink target) e
  denials_like (Rmdir target) e = layers_like (Rmdir target) e
  denials_like (Rename from into) e = layers_like (Rename from into) e
  denials_like (RenameNoreplace from into) e = layers_like (RenameNoreplace from into) e
  denials_like (Exchange from into) e = layers_like (Exchange from into) e
  denials_like (Link from into) e = layers_like (Link from into) e
  denials_like (Ruleset rights) e = layers_like (Ruleset rights) e
  denials_like (Allow number target rights) e = layers_like (Allow number target rights) e
  denials_like (Confine number) e = layers_like (Confine number) e
  denials_like Spawn e = layers_like Spawn e
  denials_like Connect e = layers_like Connect e

-- ---- the answer

-- the first of these replies, or else the outcome
head : (P : Reply → Type 0) (s : State) (xs : List Reply) (o : Reply × State) → AllByRecursion P xs → P o.0
    → P (first_or s xs o).0
head P s [] o are is = is
head P s (x ∷ xs) o are is = are.0

-- the policy is asked only if nothing precedes it
behind : (P : Reply → Type 0) (s : State) (early policy kinds limits : List Reply) (o : Reply × State)
    → AllByRecursion P early → (early ≡ [] → AllByRecursion P policy) → AllByRecursion P kinds
    → AllByRecursion P limits → P o.0 → P (first_or s (early ++ policy ++ kinds ++ limits) o).0
behind P s [] policy kinds limits o e p k l is =
    head P s (policy ++ kinds ++ limits) o (both P (policy ++ kinds) limits (both P policy kinds (p refl) k) l) is
behind P s (x ∷ early) policy kinds limits o e p k l is = e.0

unmapped : {A B : Type 0} (f : A → B) (xs : List A) → map f xs ≡ [] → xs ≡ []
unmapped f [] e = refl
unmapped f (x ∷ xs) e = absurd cc

-- the same with any refusal
abbrev Fits : Call → Reply → Type 0
Fits call (Refused errno) = ⊤
Fits call (reply.Denied denial) = may_deny call denial.right denial.place ≡ true
Fits call got = success_of call ≡ form_of got

done : (s : State) (number fresh : ℕ) (c : ClientRecord) (at new : Path) (call : Call)
    → Fits call (effect s number c at new fresh call).0
done s number fresh c at new (Make kind target) = refl
done s number fresh c at new (Open mode target) = refl
done s number fresh c at new (Read fd offset count) = refl
done s number fresh c at new (Write fd offset bytes) = refl
done s number fresh c at new (Ftruncate fd size) = refl
done s number fresh c at new (Close fd) = refl
done s number fresh c at new (Truncate target size) = refl
done s number fresh c at new (ReadDir target) = refl
done s number fresh c at new (Stat target) = refl
done s number fresh c at new (Exec target) = refl
done s number fresh c at new (Unlink target) = refl
done s number fresh c at new (Rmdir target) = refl
done s number fresh c at new (Rename from into) = refl
done s number fresh c at new (RenameNoreplace from into) = refl
done s number fresh c at new (Exchange from into) = refl
done s number fresh c at new (Link from into) = refl
done s number fresh c at new (Ruleset rights) = refl
done s number fresh c at new (Allow number' target rights) = refl
done s number fresh c at new (Confine number') = refl
done s number fresh c at new Spawn = refl
done s number fresh c at new Connect = refl

fits : (s : State) (number fresh : ℕ) (call : Call) → Fits call (step s number call fresh).0
fits s number fresh call =
    let c = client_of s number in
    let at = first_path call in
    let new = second_path call in
    let P = Fits call in
    let existence = (stages s new_client at new call).existence in
    let early = map Refused (text_refusals call) ++ map Refused (number_refusals c call)
    ++ map Refused (relation_refusals call at new) ++ map Refused (walk_refusals s call) in
    let refused = λ (xs : List Errno). of_each P Refused xs (λ x. tt) in
    behind P s (early ++ map Refused existence) (map reply.Denied (call_denials s c call))
    (map Refused (stages s c at new call).kinds) (map Refused (stages s c at new call).limits)
    (effect s number c at new fresh call)
    (both P early (map Refused existence) (both P _ (map Refused (walk_refusals s call)) (both P _
    (map Refused (relation_refusals call at new)) (both P (map Refused (text_refusals call))
    (map Refused (number_refusals c call)) (refused (text_refusals call)) (refused (number_refusals c call)))
    (refused (relation_refusals call at new))) (refused (walk_refusals s call))) (refused existence))
    (λ none. of_all P reply.Denied (call_denials s c call)
    (denials_like s c call (unmapped Refused existence (no_more early (map Refused existence) none))))
    (refused (stages s c at new call).kinds) (refused (stages s c at new call).limits)
    (done s number fresh c at new call)

-- the tree's refusals are its own
settled : (call : Call) (got : Reply) → Fits call got → Settles got → MayAnswer call got
settled call (Refused errno) fit own = own
settled call reply.Done fit own = fit
settled call (reply.Opened number) fit own = fit
settled call (reply.Bytes bytes) fit own = fit
settled call (reply.Wrote count) fit own = fit
settled call (reply.Listed names) fit own = fit
settled call (reply.Found status) fit own = fit
settled call (reply.Created number) fit own = fit
settled call (reply.Spawned number) fit own = fit
settled call (reply.Denied denial) fit own = fit

pub answers_fit : AnswersFit
answers_fit s number fresh call =
    settled call (step s number call fresh).0 (fits s number fresh call) (step-settles s number call fresh)

-- a line may get what the tree answers
gets : (call : Call) (got : Reply) → MayAnswer call got → MayGet call got
gets call (Refused errno) may = inl may
gets call reply.Done may = may
gets call (reply.Opened number) may = may
gets call (reply.Bytes bytes) may = may
gets call (reply.Wrote count) may = may
gets call (reply.Listed names) may = may
gets call (reply.Found status) may = may
gets call (reply.Created number) may = may
gets call (reply.Spawned number) may = may
gets call (reply.Denied denial) may = may

-- ---- what is expected

-- a command that is denied a right somewhere is one in which layers have a say
deniable : (call : Call) (right : ℕ) (place : Place) → may_deny call right place ≡ true → is_deniable call ≡ true
deniable (Read fd offset count) right At e = absurd cc
deniable (Read fd offset count) right Old e = absurd cc
deniable (Read fd offset count) right New e = absurd cc
deniable (Write fd offset bytes) right At e = absurd cc
deniable (Write fd offset bytes) right Old e = absurd cc
deniable (Write fd offset bytes) right New e = absurd cc
deniable (Close fd) right At e = absurd cc
deniable (Close fd) right Old e = absurd cc
deniable (Close fd) right New e = absurd cc
deniable (Stat target) right At e = absurd cc
deniable (Stat target) right Old e = absurd cc
deniable (Stat target) right New e = absurd cc
deniable (Ruleset rights) right At e = absurd cc
deniable (Ruleset rights) right Old e = absurd cc
deniable (Ruleset rights) right New e = absurd cc
deniable (Allow number target rights) right At e = absurd cc
deniable (Allow number target rights) right Old e = absurd cc
deniable (Allow number target rights) right New e = absurd cc
deniable (Confine number) right At e = absurd cc
deniable (Confine number) right Old e = absurd cc
deniable (Confine number) right New e = absurd cc
deniable Spawn right At e = absurd cc
deniable Spawn right Old e = absurd cc
deniable Spawn right New e = absurd cc
deniable Connect right At e = absurd cc
deniable Connect right Old e = absurd cc
deniable Connect right New e = absurd cc
deniable _ right place e = refl

any_of : (a b c : Bool) → (a ≡ true) ⊎ ((b ≡ true) ⊎ (c ≡ true)) → (a || b || c) ≡ true
any_of true b c e = refl
any_of false true c e = refl
any_of false false true e = refl
any_of false false false (inl e) = absurd cc
any_of false false false (inr (inl e)) = absurd cc
any_of false false false (inr (inr e)) = absurd cc

somewhere : (call : Call) (right : ℕ) (place : Place) → may_deny call right place ≡ true
    → may_deny_right call right ≡ true
somewhere call right At e = any_of (is_asked call right) (is_asked_old call right) (has_two_paths call) (inl e)
somewhere call right Old e = any_of (is_asked call right) (is_asked_old call right) (has_two_paths call) (inr (inl e))
somewhere call right New e = any_of (is_asked call right) (is_asked_old call right) (has_two_paths call) (inr (inr e))

denied_so : (call : Call) (words : DenialWords) (d : Denial) → may_deny call d.right d.place ≡ true
    → BeginsDenial words d → MayBeDenied call words
denied_so call words.Nothing d may is = deniable call d.right d.place may
denied_so call (words.Cause cause) d may is = deniable call d.right d.place may
denied_so call (words.Layer cause) d may is = deniable call d.right d.place may
denied_so call (words.Number cause layer) d may is = deniable call d.right d.place may
denied_so call (words.Right cause layer right) d may is =
    subst (λ (r : ℕ). may_deny_right call r ≡ true) is.2 (somewhere call d.right d.place may)
denied_so call (words.Whole given) d may is =
    subst (λ (x : Denial). may_deny call x.right x.place ≡ true) is may

refused_so : (begin : RefusalWords) (errno : Errno) → MayRefuse (errno_number errno) → BeginsRefusal begin errno
    → MayBeRefused begin
refused_so refusal.Nothing errno may is = tt
refused_so (refusal.Number number) errno may is = subst MayRefuse is may
refused_so (refusal.Whole given) errno may is = subst (λ (e : Errno). MayRefuse (errno_number e)) is may

begun : (call : Call) (begin : FirstWords) (got : Reply) → MayGet call got → Begins begin got → MayBegin call begin
begun call first.Done reply.Done may is = may
begun call (first.Opened number) (reply.Opened got) may is = may
begun call (first.Bytes bytes) (reply.Bytes got) may is = may
begun call (first.Wrote count) (reply.Wrote got) may is = may
begun call (first.Listed names) (reply.Listed got) may is = may
begun call (first.Found begin) (reply.Found got) may is = may
begun call (first.Created number) (reply.Created got) may is = may
begun call (first.Spawned number) (reply.Spawned got) may is = may
begun call (first.Refused begin) (Refused got) may is = refused_so begin got may is
begun call (first.Denied begin) (reply.Denied got) may is = denied_so call begin got may is
begun call begin got may is = absurd is

comes : (call : Call) (wanted : Wanted) (got : Reply) → MayGet call got → Satisfies wanted got
    → CanCome call wanted
comes call Success got may is = tt
comes call Allowed got may is = tt
comes call Denied got may is =
    deniable call is.0.right is.0.place (subst (MayGet call) is.1 may)
comes call (DeniedRight right) got may is =
    subst (λ (r : ℕ). may_deny_right call r ≡ true) is.2
    (somewhere call is.0.right is.0.place (subst (MayGet call) is.1 may))
comes call (DeniedAt right place) got may is =
    subst (λ (p : Place). may_deny call right p ≡ true) is.3
    (subst (λ (r : ℕ). may_deny call r is.0.place ≡ true) is.2 (subst (MayGet call) is.1 may))
comes call (Whole given) got may is = subst (MayGet call) is may
comes call (First begin) got may is = begun call begin got may is

pub none_comes : (call : Call) (wanted : Wanted) → (CanCome call wanted → ⊥) → NeverComes call wanted
none_comes call wanted never = (
  λ s client fresh is. let got = (step s client call fresh).0 in
      never (comes call wanted got (gets call got (answers_fit s client fresh call)) is),
  λ errno may is. never (comes call wanted (Refused errno) may is),
)
