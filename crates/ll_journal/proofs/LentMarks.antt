-- What is lent, by inodes: what lies under one that is lent, and whether a walk's directories are.
use Rattle.std.specs.Prelude.{◌≡◌, ◌≢◌, ℕ, zero, suc, Bool, true, false, ◌||◌, ◌&&◌, ◌==◌, List, [], ◌∷◌, map, Option}
use Rattle.std.specs.Prelude.{Some, slice_get, refl}
use Rattle.std.specs.Option.{option_map_or}
use Rattle.std.specs.List.{list_all, list_any}
use Rattle.std.proofs.Common.{sym, subst, ap, ◌∙◌, inl, inr}
use Rattle.std.proofs.lemmas.Bool.{eqb-true, eq-eqb}
use Rattle.ll_rights.specs.declared.kind.Kind.TheVariants.{Dir}
use Rattle.ll_rules.specs.Layer.{Layer}
use Rattle.ll_seq.specs.State.{State, kind_of}
use Rattle.ll_seq.proofs.Parted.{or_split, or_left, or_right}
use Rattle.ll_laws.proofs.Chains.{same_Some}
use Rattle.ll_laws.specs.Walk.{Walk, Leg, Position, Above, Down, Split, legs, marks}
use Rattle.ll_laws.specs.Walks.{IsRight, AreRight}
use Rattle.ll_laws.specs.World.{World, shown, domain_of}
use Rattle.ll_laws.proofs.Tests.{both, or_false}
use Rattle.ll_node.specs.declared.held.Held.{Held}
use Rattle.ll_node.specs.Lent.{Misses}
use Rattle.ll_journal.specs.declared.journal.Journal.TheInside.{Inside}
use Rattle.ll_journal.specs.Book.{Seat, Book, inode_in, slot_of, held_of}
use Rattle.ll_journal.specs.Kept.{IsKept, world_of, book_of}
use Rattle.ll_journal.specs.Checks.{Lies, lends, is_all_lent}
use Rattle.ll_journal.specs.WalkEnds.{AreEnough, IsAstrayAtEnd, is_lent}
use Rattle.ll_journal.proofs.LentSlots.{slot_holds, slot_inode}
use Rattle.ll_journal.proofs.RootDescents.{walk_here}
use Rattle.ll_journal.proofs.Descents.{living_one}

-- ---- over the slots

module _ (b : Book) where
  lends_of : (slots : List ℕ) (inode : ℕ) → lends (map (slot_of b) slots) inode ≡ is_lent b slots inode
  lends_of [] inode = refl
  lends_of (k ∷ slots) inode = let here = slot_inode b k in let rest = lends_of slots inode in
      λ i. (here i == inode) || rest i

  misses_of : (slots : List ℕ) (inode : ℕ) → Misses inode (map (slot_of b) slots) → is_lent b slots inode ≡ false
  misses_of [] inode away = refl
  misses_of (k ∷ slots) inode away =
      or_false (is_lent b (k ∷ slots) inode) (λ e. elim (or_split (inode_in b k == inode) (is_lent b slots inode) e) [
        | inl here ↦ away.0 (slot_inode b k ∙ eqb-true (inode_in b k) inode here)
        | inr there ↦ cc (sym there ∙ misses_of slots inode away.1)
      ])

  slot_got : (slots : List ℕ) (place : ℕ) (held : Held) → slice_get (map (slot_of b) slots) place ≡ Some held → (k : ℕ)
      × (slot_of b k ≡ held)
  slot_got [] place held e = absurd (cc e)
  slot_got (k ∷ slots) zero held e = (k, same_Some (slot_of b k) held e)
  slot_got (k ∷ slots) (suc place) held e = slot_got slots place held e

-- ---- over the legs

abbrev stands : List Leg → ℕ → Bool
stands ls inode = list_any (λ (leg : Leg). leg.here == inode) ls

abbrev all_in : List Held → List Leg → Bool
all_in lent ls = list_all (λ (leg : Leg). lends lent leg.here) ls

all_lent : (lent : List Held) (ls : List Leg) (inode : ℕ) → all_in lent ls ≡ true → stands ls inode ≡ true
    → lends lent inode ≡ true
all_lent lent [] inode all e = absurd (cc e)
all_lent lent (leg ∷ ls) inode all e =
    let parts = both (lends lent leg.here) (all_in lent ls) all in
    elim (or_split (leg.here == inode) (stands ls inode) e) [
      | inl here ↦ ap (lends lent) (sym (eqb-true leg.here inode here)) ∙ parts.0
      | inr there ↦ all_lent lent ls inode parts.1 there
    ]

not_all_lent : (lent : List Held) (ls : List Leg) → all_in lent ls ≡ false
    → ((inode : ℕ) → stands ls inode ≡ true → lends lent inode ≡ true) → ⊥
not_all_lent lent [] none all = cc none
not_all_lent lent (leg ∷ ls) none all =
    let here = all leg.here (or_left (leg.here == leg.here) (stands ls leg.here) (eq-eqb leg.here leg.here refl)) in
    not_all_lent lent ls (ap (λ t. t && all_in lent ls) (sym here) ∙ none)
    (λ inode e. all inode (or_right (leg.here == inode) (stands ls inode) e))

stood_in : (s : State) (domain : List Layer) (at : Position) (inode : ℕ) → AreRight s domain at
    → stands (legs at) inode ≡ true → kind_of s inode ≡ Some Dir
stood_in s domain at inode right e = by at right e
  where
    of_leg : (leg : Leg) → IsRight s domain leg → (leg.here == inode) ≡ true → kind_of s inode ≡ Some Dir
    of_leg leg r here = ap (kind_of s) (sym (eqb-true leg.here inode here)) ∙ r.directory

    by : (at : Position) → AreRight s domain at → stands (legs at) inode ≡ true → kind_of s inode ≡ Some Dir
    by Above r e = absurd (cc e)
    by (Down trunk) r e = elim (or_split (trunk.here == inode) false e) [
      | inl here ↦ of_leg trunk r here
      | inr none ↦ absurd (cc none)
    ]
    by (Split trunk old new) r e = elim (or_split (trunk.here == inode) (stands (old ∷ new ∷ []) inode) e) [
      | inl here ↦ of_leg trunk r.0 here
      | inr rest ↦ elim (or_split (old.here == inode) (stands (new ∷ []) inode) rest) [
        | inl here ↦ of_leg old r.1 here
        | inr last ↦ elim (or_split (new.here == inode) false last) [
          | inl here ↦ of_leg new r.2 here
          | inr none ↦ absurd (cc none)
        ]
      ]
    ]

-- ---- of a client's walk

module _ (j : Inside) (h : IsKept j) (number place : ℕ) (seat : Seat) (at : slice_get j.seats.items place ≡ Some seat)
    (numbered : number ≡ suc place)
    (slots : List ℕ) (lent : List Held) (told : lent ≡ map (slot_of (book_of j)) slots) where
  abbrev w : World
  w = world_of j

  abbrev b : Book
  b = book_of j

  -- what is lent and has the inode is that inode's account
  pub lies_held : (held : Held) (inode : ℕ) → Lies lent inode held → inode ≢ 0 → held ≡ held_of w inode
  lies_held held inode lies some =
      let slot = slot_got b slots lies.place held (ap (λ ls. slice_get ls lies.place) (sym told) ∙ lies.there) in
      sym slot.1 ∙ slot_holds b slot.0 inode (sym (slot_inode b slot.0) ∙ ap (λ (v : Held). v.inode) slot.1 ∙ lies.is)
      some

  pub lends_is : (inode : ℕ) → lends lent inode ≡ is_lent b slots inode
  lends_is inode = ap (λ ls. lends ls inode) told ∙ lends_of b slots inode

  pub misses_not : (inode : ℕ) → Misses inode lent → is_lent b slots inode ≡ false
  misses_not inode away = misses_of b slots inode (subst (Misses inode) told away)

  module _ (walk : Walk) (is : seat.walk ≡ Some walk) where
    legs_lent : (t : Bool) → is_all_lent lent seat ≡ t → all_in lent (legs walk.at) ≡ t
    legs_lent t all = sym (ap (λ (o : Option Walk). option_map_or (λ (v : Walk). all_in lent (legs v.at)) o true) is)
        ∙ all

    pub all_marked : is_all_lent lent seat ≡ true → (inode : ℕ) → marks walk inode ≡ true → is_lent b slots inode ≡ true
    all_marked all inode marked = sym (lends_is inode) ∙ all_lent lent (legs walk.at) inode (legs_lent true all) marked

    -- that each lies in the slots can't be where some isn't lent
    pub some_unlent : is_all_lent lent seat ≡ false
        → ((inode : ℕ) → marks walk inode ≡ true → is_lent b slots inode ≡ true) → ⊥
    some_unlent none all = not_all_lent lent (legs walk.at) (legs_lent false none) (λ inode e. lends_is inode
        ∙ all inode e)

    module _ (fresh : walk.stale ≡ false) where
      pub not_all_marked : is_all_lent lent seat ≡ false → IsAstrayAtEnd b number slots
      not_all_marked none = (
        walk,
        walk_here j h number place seat at numbered
            ∙ is,
        fresh,
        λ (enough : AreEnough b number walk slots). some_unlent none enough.marked,
      )

      -- each directory where it stands is a node
      pub leg_some : (inode : ℕ) → marks walk inode ≡ true → inode ≢ 0
      leg_some inode marked =
          living_one j h inode Dir
          (stood_in (shown w) (domain_of w number) walk.at inode
          ((h.sound.valid number walk (walk_here j h number place seat at numbered ∙ is)).1 fresh) marked)
