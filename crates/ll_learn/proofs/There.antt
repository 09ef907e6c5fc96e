-- Where the paths of needs come from, with more needs and more entries.
use Rattle.std.specs.Prelude.{◌≡◌, ◌⊎◌, ℕ, true, false, Bool, List, [], ◌∷◌, ◌++◌, All, Contains, Some, if◌then◌else◌}
use Rattle.std.specs.Prelude.{refl}
use Rattle.std.proofs.Common.{append_assoc, get_or, inl, inr, subst, sym, ◌∙◌}
use Rattle.std.proofs.lemmas.List.Elements.{All-contains, Contains-get_or, Contains-push_cases}
use Rattle.ll_path.specs.Path.{Path}
use Rattle.ll_seq.specs.declared.reply.Entry.{Entry}
use Rattle.ll_seq.specs.Call.{first_path}
use Rattle.ll_seq.specs.History.{state_after}
use Rattle.ll_seq.specs.State.{State}
use Rattle.ll_seq.specs.Tree.{ancestors}
use Rattle.ll_why.specs.Opener.{is_spawned, opens}
use Rattle.ll_learn.specs.declared.needs.Asked.{Asked}
use Rattle.ll_learn.specs.declared.needs.Moved.{Moved}
use Rattle.ll_learn.specs.declared.needs.Needs.{Needs}
use Rattle.ll_learn.specs.PassedCalls.{Openings, opened_at}
use Rattle.ll_learn.specs.Bound.{WereThere}
use Rattle.ll_learn.specs.There.{AsksMore, IsAskedIn, IsAskedOn, MovesMore}
use Rattle.ll_learn.specs.Watched.{is_watched, paths_opened}
use Rattle.ll_learn.specs.declared.watch.Watched.{Watched}

all_of : {A : Type 0} (P : A → Type 0) (xs : List A) → ((x : A) → Contains xs x → P x) → All P xs
all_of P xs f = λ k d within. f (get_or xs k d) (Contains-get_or xs k d within)

-- path_of: by which path an ask or a move is one of these
module _ {A : Type 0} (path_of : A → List ℕ) where
  -- it is an old one, or its path is one of these
  abbrev FromOld : (List ℕ → Type 0) → List A → A → Type 0
  FromOld P old a = Contains old a ⊎ P (path_of a)

  abbrev More : (List ℕ → Type 0) → (old new : List A) → Type 0
  More P old new = All (FromOld P old) new

  module _ (P : List ℕ → Type 0) where
    more_same : (old new : List A) → new ≡ old → More P old new
    more_same old new same =
        all_of (FromOld P old) new (λ a there. inl (subst (λ (l : List A). Contains l a) same there))

    more_joined : (old mid new : List A) → More P old mid → More P mid new → More P old new
    more_joined old mid new first then_ =
        all_of (FromOld P old) new (λ a there. elim (All-contains (FromOld P mid) new a then_ there) [
          | inl before ↦ All-contains (FromOld P old) mid a first before
          | inr is ↦ inr is
        ])

    more_pushed : (old new : List A) (a : A) → new ≡ old ++ a ∷ [] → P (path_of a) → More P old new
    more_pushed old new a more is =
        all_of (FromOld P old) new
        (λ x there. elim (Contains-push_cases old a x (subst (λ (l : List A). Contains l x) more there)) [
          | inl before ↦ inl before
          | inr same ↦ inr (subst (λ (y : A). P (path_of y)) same is)
        ])

  more_weaker : (P Q : List ℕ → Type 0) (old new : List A) → ((inodes : List ℕ) → P inodes → Q inodes)
      → More P old new → More Q old new
  more_weaker P Q old new f more =
      all_of (FromOld Q old) new (λ a there. elim (All-contains (FromOld P old) new a more there) [
        | inl before ↦ inl before
        | inr is ↦ inr (f (path_of a) is)
      ])

abbrev asked_on : Asked → List ℕ
asked_on a = a.inodes.items

abbrev moved_from : Moved → List ℕ
moved_from m = m.from.items

module _ (P : List ℕ → Type 0) where
  pub asks_same : (old new : Needs) → new.asks ≡ old.asks → AsksMore P old new
  asks_same old new same = more_same asked_on P old.asks.items new.asks.items (λ i. (same i).items)

  pub moves_same : (old new : Needs) → new.moves ≡ old.moves → MovesMore P old new
  moves_same old new same = more_same moved_from P old.moves.items new.moves.items (λ i. (same i).items)

  pub asks_joined : (old mid new : Needs) → AsksMore P old mid → AsksMore P mid new → AsksMore P old new
  asks_joined old mid new = more_joined asked_on P old.asks.items mid.asks.items new.asks.items

  pub moves_joined : (old mid new : Needs) → MovesMore P old mid → MovesMore P mid new → MovesMore P old new
  moves_joined old mid new = more_joined moved_from P old.moves.items mid.moves.items new.moves.items

  pub asks_pushed : (old new : Needs) (a : Asked) → new.asks.items ≡ old.asks.items ++ a ∷ [] → P a.inodes.items
      → AsksMore P old new
  asks_pushed old new = more_pushed asked_on P old.asks.items new.asks.items

  pub moves_pushed : (old new : Needs) (m : Moved) → new.moves.items ≡ old.moves.items ++ m ∷ [] → P m.from.items
      → MovesMore P old new
  moves_pushed old new = more_pushed moved_from P old.moves.items new.moves.items

pub asks_weaker : (P Q : List ℕ → Type 0) (old new : Needs) → ((inodes : List ℕ) → P inodes → Q inodes)
    → AsksMore P old new → AsksMore Q old new
asks_weaker P Q old new = more_weaker asked_on P Q old.asks.items new.asks.items

pub moves_weaker : (P Q : List ℕ → Type 0) (old new : Needs) → ((inodes : List ℕ) → P inodes → Q inodes)
    → MovesMore P old new → MovesMore Q old new
moves_weaker P Q old new = more_weaker moved_from P Q old.moves.items new.moves.items

-- ---- one entry more

pub there_still : (s : State) (es : List Entry) (e : Entry) (inodes : List ℕ) → WereThere s es inodes
    → WereThere s (es ++ e ∷ []) inodes
there_still s es e inodes was = record {
  early = was.early;
  late = was.late ++ e ∷ [];
  path = was.path;
  parts = (λ i. was.parts i ++ e ∷ []) ∙ append_assoc was.early was.late (e ∷ []);
  are = was.are;
}

pub there_now : (s : State) (es : List Entry) (e : Entry) (inodes : List ℕ) (path : Path)
    → inodes ≡ ancestors (state_after s es) path
    → WereThere s (es ++ e ∷ []) inodes
there_now s es e inodes path are =
    record { early = es; late = e ∷ []; path = path; parts = refl; are = are }

-- what was opened was opened by a path that was there
abbrev pub WereKnown : State → List Entry → Openings → Type 0
WereKnown s es known = (client fd : ℕ) (inodes : List ℕ) → known client fd ≡ Some inodes → WereThere s es inodes

pub known_still : (s : State) (es : List Entry) (e : Entry) (known : Openings) → WereKnown s es known
    → WereKnown s (es ++ e ∷ []) (opened_at (state_after s es) known e)
known_still s es e known were client fd inodes is = of (opens client fd e) is
  where
    of : (b : Bool) → (if b then Some (ancestors (state_after s es) (first_path e.call))
        else known (if is_spawned client e.reply then e.client else client) fd) ≡ Some inodes
        → WereThere s (es ++ e ∷ []) inodes
    of true some =
        let same : ancestors (state_after s es) (first_path e.call) ≡ inodes = cc in
        there_now s es e inodes (first_path e.call) (sym same)
    of false some =
        there_still s es e inodes (were (if is_spawned client e.reply then e.client else client) fd inodes some)

-- ---- what a call is asked on

pub asked_there : (s : State) (es : List Entry) (e : Entry) (known : Openings) (client : ℕ) → WereKnown s es known
    → (inodes : List ℕ) → IsAskedIn (state_after s es) known client inodes → WereThere s (es ++ e ∷ []) inodes
asked_there s es e known client were inodes asked = elim asked [
  | inl path ↦ there_now s es e inodes path.0 path.1
  | inr fd ↦ there_still s es e inodes (were client fd.0 inodes fd.1)
]

pub asked_known : (s : State) (clients : List Watched) (known : Openings) (client : ℕ)
    → (is_watched clients client ≡ true → (fd : ℕ) → known client fd ≡ paths_opened clients client fd)
    → (inodes : List ℕ) → IsAskedOn s clients client inodes → IsAskedIn s known client inodes
asked_known s clients known client same inodes asked = elim asked [
  | inl path ↦ inl path
  | inr theirs ↦ inr (theirs.1.0, same theirs.0 theirs.1.0 ∙ theirs.1.1)
]
