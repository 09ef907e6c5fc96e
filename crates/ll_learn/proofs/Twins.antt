-- Two runs of one history: as it was, and with a layer more on some clients. What is equal, and what differs.
use Rattle.std.specs.Prelude.{◌≡◌, ◌≢◌, ⊤, ℕ, Bool, true, false, cond, not, ◌&&◌, ◌||◌, ◌==◌, List, [], ◌∷◌, ◌++◌}
use Rattle.std.specs.Prelude.{Option, Some, None, is_none, is_some, option_map, slice_get, refl, unwrap_or}
use Rattle.std.specs.List.{list_any}
use Rattle.std.specs.Ordering.{nat_cmp, eq_by_cmp, is_eq}
use Rattle.std.specs.Cmp.{nat_cmp_total, tied_itself}
use Rattle.std.specs.FinMap.{nat_cmp-IsAntisymmetric}
use Rattle.std.proofs.Common.{sym, subst, ap, ◌∙◌}
use Rattle.ll_rights.specs.Map.{Map, get, has, insert, len}
use Rattle.ll_rights.specs.Right as right
use Rattle.ll_rights.specs.Right.{refer, all_rights}
use Rattle.ll_rights.proofs.Maps.{get-insert, equal_at}
use Rattle.ll_rights.proofs.Sizes.{same_len}
use Rattle.ll_path.specs.Path.{Path}
use Rattle.ll_rules.specs.Layer.{Layer, grants_on}
use Rattle.ll_decide.specs.declared.denial.Denial.{Denial}
use Rattle.ll_decide.specs.declared.denial.Place.TheVariants.{At}
use Rattle.ll_decide.specs.Verdict.{all_denials, is_at, places, rights_without_refer}
use Rattle.ll_seq.specs.declared.client.ClientRecord.{ClientRecord}
use Rattle.ll_seq.specs.declared.client.Descriptor.{Descriptor}
use Rattle.ll_seq.specs.Asked.{ask, grants, kept_at}
use Rattle.ll_seq.specs.Call.{has_any}
use Rattle.ll_seq.specs.State.{State, is_open, new_client}
use Rattle.ll_seq.specs.Tree.{ancestors}
use Rattle.ll_learn.proofs.AlikeRecords.{AreAlike, Same, any_same, alike_itself, has_open, open_same, plain}
use Rattle.ll_learn.proofs.OneLayer.{any_denies, any_more}

-- with other clients
abbrev pub with_all : State → Map nat_cmp ClientRecord → State
with_all s clients = record s { clients = clients }

-- ---- what an opening keeps

-- where the descriptor was opened isn't known, or the layer grants truncate there
abbrev pub allows : Layer → Option (List ℕ) → Bool
allows layer None = true
allows layer (Some inodes) = grants_on layer inodes right.truncate

kept_none : (f : Denial → ℕ) (xs : List Denial) → is_none (option_map f (slice_get xs 0)) ≡ not (has_any xs)
kept_none f [] = refl
kept_none f (x ∷ xs) = refl

abbrev in_all : Bool → List ℕ → Bool
in_all b rights = list_any (λ r. list_any (λ place. ((right.truncate == r) && is_at At place && not b) || false) places)
    rights

-- a layer alone denies an opening to be truncated exactly if it doesn't grant that
alone_denies : (s : State) (layer : Layer) (path : Path)
    → has_any (all_denials (grants s) (layer ∷ []) (ask path right.truncate At) [])
    ≡ not (grants s layer path right.truncate)
alone_denies s layer path =
    any_denies (grants s) (ask path right.truncate At) [] (layer ∷ [])
    ∙ by (grants s layer path right.truncate)
  where
    by : (b : Bool) → (((in_all b rights_without_refer || in_all b (refer ∷ [])) || false) || false) ≡ not b
    by true = refl
    by false = refl

pub kept_more : (s : State) (front : List Layer) (layer : Layer) (back : List Layer) (path : Path)
    → is_none (kept_at s (front ++ layer ∷ back) path)
    ≡ (is_none (kept_at s (front ++ back) path) && allows layer (Some (ancestors s path)))
kept_more s front layer back path =
    kept_none _ (all_denials (grants s) (front ++ layer ∷ back) (ask path right.truncate At) [])
    ∙ ap not (any_more (grants s) (ask path right.truncate At) [] front layer back)
    ∙ turn (has_any (all_denials (grants s) (front ++ back) (ask path right.truncate At) []))
    (grants s layer path right.truncate) _ (alone_denies s layer path)
    ∙ ap (λ b. b && grants s layer path right.truncate)
    (sym (kept_none _ (all_denials (grants s) (front ++ back) (ask path right.truncate At) [])))
  where
    turn : (a g b : Bool) → b ≡ not g → not (a || b) ≡ (not a && g)
    turn true g b e = refl
    turn false true b e = ap not e
    turn false false b e = ap not e

-- ---- twin descriptors, clients and maps of clients

-- the layer would have denied the opening to be truncated, or it keeps what it kept
pub record IsFile (layer : Layer) (inodes : Option (List ℕ)) (a b : Descriptor) : Type 0 where
  pub same : plain b ≡ plain a
  pub kept : is_none b.kept ≡ (is_none a.kept && allows layer inodes)

abbrev pub Both : {A : Type 0} → (A → A → Type 0) → Option A → Option A → Type 0
Both R None None = ⊤
Both R (Some a) (Some b) = R a b
Both R _ _ = ⊥

abbrev pub Files : Type 0
Files = ℕ → Option (List ℕ)

-- the layer is on the client: somewhere in its domain, and nothing else differs
pub record IsLayered (layer : Layer) (known : Files) (c d : ClientRecord) : Type 0 where
  pub front : List Layer
  pub back : List Layer
  pub was : c.domain ≡ front ++ back
  pub is : d.domain ≡ front ++ layer ∷ back
  pub rulesets : d.rulesets ≡ c.rulesets
  pub files : (fd : ℕ) → Both (IsFile layer (known fd)) (get c.descriptors fd) (get d.descriptors fd)

abbrev pub Twin : Layer → Bool → Files → ClientRecord → ClientRecord → Type 0
Twin layer true known c d = IsLayered layer known c d
Twin layer false known c d = d ≡ c

pub record Twins (layer : Layer) (on : ℕ → Bool) (known : ℕ → Files) (m n : Map nat_cmp ClientRecord) : Type 0 where
  pub at : (q : ℕ) → Both (Twin layer (on q) (known q)) (get m q) (get n q)
  pub there : (q : ℕ) → on q ≡ true → has m q ≡ true

-- ---- what is the same

file_same : (layer : Layer) (inodes : Option (List ℕ)) (o p : Option Descriptor) → Both (IsFile layer inodes) o p
    → Same o p
file_same layer inodes None None b = refl
file_same layer inodes (Some x) (Some y) b = ap Some b.same
file_same layer inodes None (Some y) b = absurd b
file_same layer inodes (Some x) None b = absurd b

pub layered_alike : (layer : Layer) (known : Files) (c d : ClientRecord) → IsLayered layer known c d → AreAlike c d
layered_alike layer known c d w =
    record { rulesets = w.rulesets; files = λ fd. file_same layer (known fd) _ _ (w.files fd) }

pub twin_alike : (layer : Layer) (on : Bool) (known : Files) (c d : ClientRecord) → Twin layer on known c d
    → AreAlike c d
twin_alike layer true known c d w = layered_alike layer known c d w
twin_alike layer false known c d w = subst (AreAlike c) (sym w) (alike_itself c)

both_told : {Z : Type 0} (f : ClientRecord → Z) (R : ClientRecord → ClientRecord → Type 0)
    → ((c d : ClientRecord) → R c d → f d ≡ f c) → (o p : Option ClientRecord) → Both R o p
    → option_map f p ≡ option_map f o
both_told f R same None None b = refl
both_told f R same (Some c) (Some d) b = ap Some (same c d b)
both_told f R same None (Some d) b = absurd b
both_told f R same (Some c) None b = absurd b

pub both_some : {A : Type 0} (R : A → A → Type 0) (o p : Option A) → Both R o p → is_some p ≡ is_some o
both_some R None None b = refl
both_some R (Some c) (Some d) b = refl
both_some R None (Some d) b = absurd b
both_some R (Some c) None b = absurd b

module _ (layer : Layer) (on : ℕ → Bool) (known : ℕ → Files) (m n : Map nat_cmp ClientRecord)
    (w : Twins layer on known m n) where
  told_same : {Z : Type 0} (f : ClientRecord → Z) → ((c d : ClientRecord) → AreAlike c d → f d ≡ f c) → (q : ℕ)
      → option_map f (get n q) ≡ option_map f (get m q)
  told_same f same q = both_told f (Twin layer (on q) (known q))
      (λ c d t. same c d (twin_alike layer (on q) (known q) c d t)) _ _ (w.at q)

  pub same_count : len n ≡ len m
  same_count = same_len n m (λ (c : ClientRecord). true) (λ (c : ClientRecord). true)
      (told_same (λ (c : ClientRecord). true) (λ c d a. refl))

  pub same_there : (q : ℕ) → has n q ≡ has m q
  same_there q = both_some _ _ _ (w.at q)

  pub same_open : (s : State) → s.clients ≡ m → (inode : ℕ) → is_open (with_all s n) inode ≡ is_open s inode
  same_open s is inode =
      any_same (has_open inode) n m (told_same (has_open inode) (λ c d a. open_same c d a inode))
      ∙ ap (λ z. is_open (with_all s z) inode) (sym is)

-- a client that isn't there has a new client's record
pub twin_records : (layer : Layer) (b : Bool) (known : Files) (o p : Option ClientRecord)
    → Both (Twin layer b known) o p → (is_some o ≡ false → b ≡ false)
    → Twin layer b known (unwrap_or o new_client) (unwrap_or p new_client)
twin_records layer b known None None w off = subst (λ z. Twin layer z known new_client new_client) (sym (off refl)) refl
twin_records layer b known (Some c) (Some d) w off = w
twin_records layer b known None (Some d) w off = absurd w
twin_records layer b known (Some c) None w off = absurd w

-- ---- what keeps them twins

twins_insert_at : (layer : Layer) (on : Bool) (known : Files) (b : Bool) (o p : Option ClientRecord)
    (c d : ClientRecord) → (b ≡ true → Twin layer on known c d) → (b ≡ false → Both (Twin layer on known) o p)
    → Both (Twin layer on known) (cond b (Some c) o) (cond b (Some d) p)
twins_insert_at layer on known true o p c d new old = new refl
twins_insert_at layer on known false o p c d new old = old refl

pub equal_keys : (q k : ℕ) → eq_by_cmp nat_cmp q k ≡ true → q ≡ k
equal_keys q k e = nat_cmp-IsAntisymmetric q k (equal_at _ e)

itself : (k : ℕ) → eq_by_cmp nat_cmp k k ≡ true
itself k = ap is_eq (tied_itself nat_cmp_total k)

pub unequal : (q k : ℕ) → eq_by_cmp nat_cmp q k ≡ false → q ≢ k
unequal q k e same = absurd (cc (sym (itself k) ∙ ap (λ z. eq_by_cmp nat_cmp z k) (sym same) ∙ e))

pub twins_insert : (layer : Layer) (on on' : ℕ → Bool) (known known' : ℕ → Files) (m n : Map nat_cmp ClientRecord)
    → Twins layer on known m n → (k : ℕ) (c d : ClientRecord)
    → ((q : ℕ) → q ≢ k → (on' q ≡ on q) × (known' q ≡ known q)) → Twin layer (on' k) (known' k) c d
    → Twins layer on' known' (insert m k c) (insert n k d)
twins_insert layer on on' known known' m n w k c d others twin = record { at = at; there = there }
  where
    new : (q : ℕ) → eq_by_cmp nat_cmp q k ≡ true → Twin layer (on' q) (known' q) c d
    new q e = subst (λ z. Twin layer (on' z) (known' z) c d) (sym (equal_keys q k e)) twin

    old : (q : ℕ) → eq_by_cmp nat_cmp q k ≡ false → Both (Twin layer (on' q) (known' q)) (get m q) (get n q)
    old q e =
        let same = others q (unequal q k e) in
        let eb : on q ≡ on' q = sym same.0 in
        let ek : known q ≡ known' q = sym same.1 in
        subst (λ (z : Bool). Both (Twin layer z (known' q)) (get m q) (get n q)) eb
        (subst (λ (z : Files). Both (Twin layer (on q) z) (get m q) (get n q)) ek (w.at q))

    at : (q : ℕ) → Both (Twin layer (on' q) (known' q)) (get (insert m k c) q) (get (insert n k d) q)
    at q =
        subst (λ z. Both (Twin layer (on' q) (known' q)) z (get (insert n k d) q))
        (sym (get-insert nat_cmp_total nat_cmp-IsAntisymmetric m k c q))
        (subst (λ z. Both (Twin layer (on' q) (known' q)) (cond (eq_by_cmp nat_cmp q k) (Some c) (get m q)) z)
        (sym (get-insert nat_cmp_total nat_cmp-IsAntisymmetric n k d q))
        (twins_insert_at layer (on' q) (known' q) (eq_by_cmp nat_cmp q k) (get m q) (get n q) c d (new q) (old q)))

    there_at : (q : ℕ) (b : Bool) → eq_by_cmp nat_cmp q k ≡ b → on' q ≡ true
        → is_some (cond b (Some c) (get m q)) ≡ true
    there_at q true is e = refl
    there_at q false is e = w.there q (sym (others q (unequal q k is)).0 ∙ e)

    there : (q : ℕ) → on' q ≡ true → has (insert m k c) q ≡ true
    there q e = ap is_some (get-insert nat_cmp_total nat_cmp-IsAntisymmetric m k c q)
        ∙ there_at q (eq_by_cmp nat_cmp q k) refl e

-- the same again, by other names
pub twins_again : (layer : Layer) (on on' : ℕ → Bool) (known known' : ℕ → Files) (m n : Map nat_cmp ClientRecord)
    → ((q : ℕ) → (on' q ≡ on q) × (known' q ≡ known q)) → Twins layer on known m n → Twins layer on' known' m n
twins_again layer on on' known known' m n same w =
    let eb : on ≡ on' = λ i q. sym (same q).0 i in
    let ek : known ≡ known' = λ i q. sym (same q).1 i in
    subst (λ (z : ℕ → Bool). Twins layer z known' m n) eb
    (subst (λ (z : ℕ → Files). Twins layer on z m n) ek w)
