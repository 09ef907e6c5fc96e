-- What the calls of a part ask is required of each layer that allows them.
use Rattle.std.specs.Prelude.{◌≡◌, ◌<◌, ⊤, ℕ, Bool, true, false, not, ◌&&◌, ◌||◌, ◌==◌, cond, List, [], ◌∷◌, ◌++◌}
use Rattle.std.specs.Prelude.{Contains, MatchOption, None, Option, Some, refl}
use Rattle.std.specs.List.{list_any}
use Rattle.std.proofs.Common.{sym, subst, ap, ◌∙◌, inl, inr, append_assoc, arith}
use Rattle.std.proofs.lemmas.Bool.{agree_below_at, eq-eqb, eqb-true}
use Rattle.ll_rights.specs.Right as right
use Rattle.ll_rights.specs.Right.{all_rights, refer}
use Rattle.ll_path.specs.Path.{Path}
use Rattle.ll_rules.specs.Layer.{Layer, grants_on}
use Rattle.ll_decide.specs.declared.denial.Cause.TheVariants.{EACCES, EXDEV}
use Rattle.ll_decide.specs.declared.denial.Place.{Place}
use Rattle.ll_decide.specs.declared.denial.Place.TheVariants.{At, Old, New}
use Rattle.ll_decide.specs.Verdict.{Ask, Move, all_denials, denials, is_at, lacks, places, rights_without_refer}
use Rattle.ll_seq.specs.Asked.{grants}
use Rattle.ll_seq.specs.Call.{first_path}
use Rattle.ll_seq.specs.CallParts.{asked, moved}
use Rattle.ll_seq.specs.History.{after, state_after}
use Rattle.ll_seq.specs.State.{State}
use Rattle.ll_seq.specs.Tree.{ancestors}
use Rattle.ll_seq.specs.declared.call.Call.{Call}
use Rattle.ll_seq.specs.declared.call.Call.TheVariants.{Make, Open, Read, Write, Ftruncate, Close, Truncate, ReadDir}
use Rattle.ll_seq.specs.declared.call.Call.TheVariants.{Stat, Exec, Unlink, Rmdir, Rename, RenameNoreplace, Exchange}
use Rattle.ll_seq.specs.declared.call.Call.TheVariants.{Link, Ruleset, Allow, Confine, Spawn, Connect}
use Rattle.ll_seq.specs.declared.reply.Entry.{Entry}
use Rattle.ll_seq.proofs.Histories.{after_push}
use Rattle.ll_seq.proofs.Parted.{or_split}
use Rattle.ll_laws.proofs.Unrefused.{IsIn, IsIn-contains, nil_left, nil_right, none_denied, none_passes}
use Rattle.ll_why.specs.Opener.{opens}
use Rattle.ll_why.specs.Reasons.{kept_number}
use Rattle.ll_learn.specs.Bound.{AsksAreRequired, TruncateIsRequired, WereThere, joined_all, opened_all}
use Rattle.ll_learn.specs.PassedCalls.{Allows, AllowsAll, Openings, is_client, joins, none_known, opened_at}

-- ---- where nothing is denied, what is asked is granted

is_in_of : (xs : List ℕ) (right : ℕ) → list_any (λ r. r == right) xs ≡ true → IsIn xs right
is_in_of [] right e = absurd (cc e)
is_in_of (x ∷ xs) right e = elim (or_split (x == right) (list_any (λ r. r == right) xs) e)
    [ inl a ↦ inl (eqb-true x right a) | inr a ↦ inr (is_in_of xs right a) ]

one_of_all : (right : ℕ) → right < 15 → (list_any (λ r. r == right) rights_without_refer || (refer == right)) ≡ true
one_of_all right below =
    agree_below_at (λ q. list_any (λ r. r == q) rights_without_refer || (refer == q)) (λ _. true) 15 right refl below

place_in : (place : Place) → IsIn places place
place_in At = inl refl
place_in Old = inr (inl refl)
place_in New = inr (inr (inl refl))

at_itself : (place : Place) → is_at place place ≡ true
at_itself At = refl
at_itself Old = refl
at_itself New = refl

third : (a b c : Bool) → (a && b && not c) ≡ false → a ≡ true → b ≡ true → c ≡ true
third true true true e f g = refl
third true true false e f g = absurd (cc e)
third true false c e f g = absurd (cc g)
third false b c e f g = absurd (cc f)

same_numbers : (n : ℕ) → (n == n) ≡ true
same_numbers n = eq-eqb n n refl

module _ (s : State) (layer : Layer) (asks : List (Ask Path)) (moves : List (Move Path))
    (none : all_denials (grants s) (layer ∷ []) asks moves ≡ []) where
  lacks_none : (right : ℕ) → right < 15 → (place : Place) → lacks (grants s) asks layer right place ≡ false
  lacks_none right below place = elim (or_split (list_any (λ r. r == right) rights_without_refer) (refer == right)
      (one_of_all right below)) [
        | inl a ↦ none_denied EACCES (layer ∷ []) rights_without_refer places (lacks (grants s) asks)
            (nil_left _ _ (nil_left _ _ none)) layer (0, omega arith, refl) right
            (is_in_of rights_without_refer right a) place (place_in place)
        | inr b ↦ none_denied EXDEV (layer ∷ []) (refer ∷ []) places (lacks (grants s) asks)
            (nil_right (denials EACCES (layer ∷ []) rights_without_refer places (lacks (grants s) asks)) _
            (nil_left _ _ none)) layer (0, omega arith, refl) right (inl (eqb-true refer right b)) place
            (place_in place)
      ]

  ask_granted : (a : Ask Path) → Contains asks a → a.right < 15 → grants s layer a.path a.right ≡ true
  ask_granted a c below =
      third (a.right == a.right) (is_at a.place a.place) (grants s layer a.path a.right)
      (none_passes (λ (z : Ask Path). (z.right == a.right) && is_at z.place a.place
      && not (grants s layer z.path a.right)) asks a (lacks_none a.right below a.place) (IsIn-contains asks a c))
      (same_numbers a.right) (at_itself a.place)

-- a call that no descriptor decides
plainly : (call : Call) → kept_number call ≡ None → (layer : Layer) (s : State) (known : Openings) (e : Entry)
    → e.call ≡ call → Allows layer s known e
    → all_denials (grants s) (layer ∷ []) (asked s e.call) (moved s e.call) ≡ []
plainly call none layer s known e is allows =
    subst (λ o. MatchOption o (all_denials (grants s) (layer ∷ []) (asked s e.call) (moved s e.call) ≡ [])
    (λ fd. MatchOption (known e.client fd) ⊤ (λ inodes. grants_on layer inodes right.truncate ≡ true)))
    (ap kept_number is ∙ none) allows

nothing_asked : (s : State) (call : Call) (fd : ℕ) → kept_number call ≡ Some fd → asked s call ≡ []
nothing_asked s (Make kind t) fd e = absurd (cc e)
nothing_asked s (Open mode t) fd e = absurd (cc e)
nothing_asked s (Read d offset size) fd e = absurd (cc e)
nothing_asked s (Write d offset bytes) fd e = absurd (cc e)
nothing_asked s (Ftruncate d size) fd e = refl
nothing_asked s (Close d) fd e = absurd (cc e)
nothing_asked s (Truncate t size) fd e = absurd (cc e)
nothing_asked s (ReadDir t) fd e = absurd (cc e)
nothing_asked s (Stat t) fd e = absurd (cc e)
nothing_asked s (Exec t) fd e = absurd (cc e)
nothing_asked s (Unlink t) fd e = absurd (cc e)
nothing_asked s (Rmdir t) fd e = absurd (cc e)
nothing_asked s (Rename o n) fd e = absurd (cc e)
nothing_asked s (RenameNoreplace o n) fd e = absurd (cc e)
nothing_asked s (Exchange o n) fd e = absurd (cc e)
nothing_asked s (Link o n) fd e = absurd (cc e)
nothing_asked s (Ruleset rights) fd e = absurd (cc e)
nothing_asked s (Allow rs t rights) fd e = absurd (cc e)
nothing_asked s (Confine rs) fd e = absurd (cc e)
nothing_asked s Spawn fd e = absurd (cc e)
nothing_asked s Connect fd e = absurd (cc e)

no_ask : (a : Ask Path) → Contains [] a → ⊥
no_ask a c = IsIn-contains [] a c

ask_allowed : (layer : Layer) (s : State) (known : Openings) (e : Entry) → Allows layer s known e → (a : Ask Path)
    → Contains (asked s e.call) a → a.right < 15 → grants s layer a.path a.right ≡ true
ask_allowed layer s known e allows a c below = by (kept_number e.call) refl
  where
    by : (o : Option ℕ) → kept_number e.call ≡ o → grants s layer a.path a.right ≡ true
    by None is = ask_granted s layer (asked s e.call) (moved s e.call) (plainly e.call is layer s known e refl allows) a
        c below
    by (Some fd) is =
        absurd (no_ask a (subst (λ (z : List (Ask Path)). Contains z a) (nothing_asked s e.call fd is) c))

-- ---- later entries

allowed_late : (layer : Layer) (s : State) (on : ℕ → Bool) (known : Openings) (early late : List Entry)
    → AllowsAll layer s on known (early ++ late)
    → AllowsAll layer (state_after s early) (joined_all on early) (opened_all s known early) late
allowed_late layer s on known [] late allows = allows
allowed_late layer s on known (e ∷ early) late allows =
    allowed_late layer (after s e) (joins on e) (opened_at s known e) early late allows.1

pub asks_are_required : AsksAreRequired
asks_are_required parts s client early e comes a c below = record {
  part = record { cut = s; client = client; entries = early ++ e ∷ comes.late };
  among = comes.among;
  there = record { early = early; late = e ∷ comes.late; path = a.path; parts = refl; are = refl };
  granted = λ layer allows. ask_allowed layer (state_after s early) (opened_all s none_known early) e
      ((allowed_late layer s (is_client client) none_known early (e ∷ comes.late) (allows _ comes.among)).0 comes.theirs
      comes.free) a c below;
}

-- ---- what is opened

some_known : (s : State) (es : List Entry) (b : Bool) (new : List ℕ) (old : Option (List ℕ)) → WereThere s es new
    → ((inodes : List ℕ) → old ≡ Some inodes → WereThere s es inodes) → (inodes : List ℕ)
    → cond b (Some new) old ≡ Some inodes → WereThere s es inodes
some_known s es true new old fresh before inodes e = let same : new ≡ inodes = cc in subst (WereThere s es) same fresh
some_known s es false new old fresh before inodes e = before inodes e

known_there : (s : State) (front early late : List Entry) (known : Openings)
    → ((client fd : ℕ) (inodes : List ℕ) → known client fd ≡ Some inodes
    → WereThere s (front ++ (early ++ late)) inodes)
    → (client fd : ℕ) (inodes : List ℕ) → opened_all (state_after s front) known early client fd ≡ Some inodes
    → WereThere s (front ++ (early ++ late)) inodes
known_there s front [] late known were client fd inodes e = were client fd inodes e
known_there s front (x ∷ early) late known were client fd inodes e =
    let whole : (front ++ x ∷ []) ++ (early ++ late) ≡ front ++ (x ∷ (early ++ late)) =
    append_assoc front (x ∷ []) (early ++ late) in
    let here : state_after s (front ++ x ∷ []) ≡ after (state_after s front) x = after_push s front x in
    subst (λ (z : List Entry). WereThere s z inodes) whole
    (known_there s (front ++ x ∷ []) early late (opened_at (state_after s front) known x)
    (λ c k is f. subst (λ (z : List Entry). WereThere s z is) (sym whole)
    (some_known s (front ++ (x ∷ (early ++ late))) (opens c k x) (ancestors (state_after s front) (first_path x.call)) _
    (record { early = front; late = x ∷ (early ++ late); path = first_path x.call; parts = refl; are = refl })
    (λ js g. were _ k js g) is f)) client fd inodes
    (ap (λ (z : State). opened_all z (opened_at (state_after s front) known x) early client fd) here ∙ e))

truncate_allowed : (layer : Layer) (s : State) (known : Openings) (e : Entry) → Allows layer s known e → (fd : ℕ)
    → kept_number e.call ≡ Some fd → (inodes : List ℕ) → known e.client fd ≡ Some inodes
    → grants_on layer inodes right.truncate ≡ true
truncate_allowed layer s known e allows fd is inodes opened =
    subst (λ o. MatchOption o ⊤ (λ inodes. grants_on layer inodes right.truncate ≡ true)) opened
    (subst (λ o. MatchOption o (all_denials (grants s) (layer ∷ []) (asked s e.call) (moved s e.call) ≡ [])
    (λ fd. MatchOption (known e.client fd) ⊤ (λ inodes. grants_on layer inodes right.truncate ≡ true))) is allows)

pub truncate_is_required : TruncateIsRequired
truncate_is_required parts s client early e comes fd is inodes opened = record {
  part = record { cut = s; client = client; entries = early ++ e ∷ comes.late };
  among = comes.among;
  there = known_there s [] early (e ∷ comes.late) none_known (λ c k js f. absurd (cc f)) e.client fd inodes opened;
  granted = λ layer allows. truncate_allowed layer (state_after s early) (opened_all s none_known early) e
      ((allowed_late layer s (is_client client) none_known early (e ∷ comes.late) (allows _ comes.among)).0 comes.theirs
      comes.free) fd is inodes opened;
}
