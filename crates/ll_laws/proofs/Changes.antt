-- How each call that isn't refused changes the tree.
use Rattle.std.specs.Prelude.{◌≡◌, ◌≢◌, ◌⊎◌, ℕ, ◌<◌, Bool, true, false, cond, not, ◌||◌, ◌&&◌, ◌==◌, List, [], ◌∷◌}
use Rattle.std.specs.Prelude.{◌++◌, length, Option, Some, None, option_map, option_and_then, filter, refl, Contains}
use Rattle.std.specs.Option.{option_map_or}
use Rattle.std.specs.Ordering.{eq_by_cmp}
use Rattle.std.specs.Cmp.{nat_cmp_total}
use Rattle.std.specs.FinMap.{nat_cmp-IsAntisymmetric}
use Rattle.std.specs.FinMap.Entries.{find}
use Rattle.std.proofs.Common.{sym, subst, ap, ◌∙◌, inl, inr, arith}
use Rattle.std.proofs.lemmas.Bool.{eq-eqb, eqb-true}
use Rattle.ll_rights.specs.declared.kind.Kind.{Kind}
use Rattle.ll_rights.specs.Map.{get, insert, remove, entries}
use Rattle.ll_rights.proofs.Maps.{get-insert_same, get-insert_other, get-remove_other, insert_cases, got_inserted}
use Rattle.ll_rights.proofs.Maps.{got_left}
use Rattle.ll_path.specs.Name.{same_name}
use Rattle.ll_path.specs.Path.{Path, parent, last_name, is_root, is_beneath}
use Rattle.ll_rules.specs.Layer.{Layer}
use Rattle.ll_seq.specs.declared.client.ClientRecord.{ClientRecord}
use Rattle.ll_seq.specs.declared.dentries.Dentry.{Dentry}
use Rattle.ll_seq.specs.declared.node.Node.{Node}
use Rattle.ll_seq.specs.State.{Name, dentry, dentry_cmp, State, child, root, kind_of, empty_node, name_count, is_open}
use Rattle.ll_seq.specs.Tree.{end_from, named, inode_of}
use Rattle.ll_seq.specs.Asked.{grants}
use Rattle.ll_seq.specs.Effects.{dentry_of, lives, let_go, with_name, with_moved, with_node, without_name, with_bytes}
use Rattle.ll_seq.specs.Effects.{with_client}
use Rattle.ll_seq.specs.CallParts.{exchanged, is_relevant}
use Rattle.ll_seq.proofs.DentryOrder.{dentry_total, dentry_exact}
use Rattle.ll_seq.proofs.CutChains.{end_append}
use Rattle.ll_laws.proofs.Chains.{same_Some, NotFile}
use Rattle.ll_laws.proofs.Trees.{IsTree, Shrinks, Adds, Enters, Moves, Change, shrinks, adds, moves, only_path, At}
use Rattle.ll_laws.proofs.Unrefused.{neither, inode_is, parent_last, last_child, beneath_append}

-- ---- the same tree

pub same_tree : (s t : State) → t.entries ≡ s.entries → ((i : ℕ) → kind_of t i ≡ kind_of s i) → t.next ≡ s.next
    → Shrinks s t
same_tree s t e k n = record {
  entries = λ d m x c. ap (λ es. get es (dentry d m)) (sym e) ∙ c;
  kinds = λ i j f. sym (k i) ∙ f;
  kept = λ d m x c. k x;
  top = k root;
  next = n;
}

-- what isn't of the tree may change after
pub more_change : (s t u : State) (domain : List Layer) → u.entries ≡ t.entries → u.nodes ≡ t.nodes → u.next ≡ t.next
    → Change s t domain → Change s u domain
more_change s t u domain a b c h =
    subst (λ z. Change s z domain)
    (λ i. record {
      entries = sym a i;
      nodes = sym b i;
      next = sym c i;
      room = u.room;
      rules = u.rules;
      clients = u.clients;
    })
    (alike h)
  where
    v : State
    v = record {
      entries = t.entries;
      nodes = t.nodes;
      next = t.next;
      room = u.room;
      rules = u.rules;
      clients = u.clients;
    }

    alike : Change s t domain → Change s v domain
    alike (shrinks g) = shrinks (record {
      entries = g.entries;
      kinds = g.kinds;
      kept = g.kept;
      top = g.top;
      next = g.next;
    })
    alike (adds d n g) = adds d n
        (record {
          more = record { entries = g.more.entries; away = g.more.away };
          kinds = g.kinds;
          kept = g.kept;
          fresh = g.fresh;
          next = g.next;
          dir = g.dir;
          below = g.below;
        })
    alike (moves Fresh g) =
        moves Fresh (record {
          more = record { entries = g.more.entries; away = g.more.away };
          alone = g.alone;
          kinds = g.kinds;
          kept = g.kept;
          top = g.top;
          next = g.next;
          enters = g.enters;
        })

-- ---- a node that goes

no_name_in : (es : List (Dentry × ℕ)) (q : Dentry) (i : ℕ) → length (filter (λ (e : Dentry × ℕ). e.1 == i) es) ≡ 0
    → find dentry_cmp q es ≢ Some i
no_name_in [] q i none f = cc
no_name_in (e ∷ es) q i none f =
    elim (e.1 == i) as (λ b. (e.1 == i) ≡ b
    → length (cond b (e ∷ filter (λ (x : Dentry × ℕ). x.1 == i) es) (filter (λ (x : Dentry × ℕ). x.1 == i) es)) ≡ 0
    → ⊥) [
      | true ↦ λ h g. omega arith
      | false ↦ λ h g. elim (eq_by_cmp dentry_cmp q e.0) as (λ b. cond b (Some e.1) (find dentry_cmp q es) ≡ Some i
          → ⊥) [
            | true ↦ λ k. cc (sym h ∙ eq-eqb e.1 i (same_Some e.1 i k))
            | false ↦ λ k. no_name_in es q i g k
          ] f
    ] refl none

no_name : (s : State) (d : ℕ) (n : Name) (i : ℕ) → (name_count s i == 0) ≡ true → child s d n ≢ Some i
unfolding get entries
no_name s d n i e = no_name_in s.entries.list (dentry d n) i (eqb-true _ _ e)

pub shrinks_itself : (s : State) → Shrinks s s
shrinks_itself s = same_tree s s refl (λ i. refl) refl

gone : (s : State) (i : ℕ) → (i == root) ≡ false → (name_count s i == 0) ≡ true
    → Shrinks s (record s { nodes = remove s.nodes i })
gone s i top none = record {
  entries = λ d m x c. c;
  kinds = λ j k f. by j k (get (remove s.nodes i) j) refl f;
  kept = λ d m x c. ap (option_map (λ (n : Node). n.kind))
      (get-remove_other nat_cmp_total nat_cmp-IsAntisymmetric s.nodes i x
      (λ is. no_name s d m i none (c ∙ ap Some is)));
  top = ap (option_map (λ (n : Node). n.kind))
      (get-remove_other nat_cmp_total nat_cmp-IsAntisymmetric s.nodes i root
      (λ is. cc (sym top ∙ eq-eqb i root (sym is))));
  next = refl;
}
  where
    by : (j : ℕ) (k : Kind) (o : Option Node) → get (remove s.nodes i) j ≡ o
        → option_map (λ (n : Node). n.kind) o ≡ Some k → kind_of s j ≡ Some k
    by j k None is f = absurd (cc f)
    by j k (Some n) is f = ap (option_map (λ (n : Node). n.kind))
        (got_left nat_cmp_total nat_cmp-IsAntisymmetric s.nodes i j n is).0 ∙ f

-- what doesn't live is no root and has no name
dead : (s : State) (i : ℕ) → lives s i ≡ false → ((i == root) ≡ false) × ((name_count s i == 0) ≡ true)
dead s i e =
    let unnamed = neither ((i == root) || not (name_count s i == 0)) (is_open s i) e in
    let below = neither (i == root) (not (name_count s i == 0)) unnamed.0 in
    (below.0, by (name_count s i == 0) below.1)
  where
    by : (b : Bool) → not b ≡ false → b ≡ true
    by true f = refl
    by false f = absurd (cc f)

pub let_go_shrinks : (s : State) (i : ℕ) → Shrinks s (let_go s i)
let_go_shrinks s i =
    elim (lives s i) as (λ b. lives s i ≡ b → Shrinks s (cond b s (record s { nodes = remove s.nodes i }))) [
      | true ↦ λ e. shrinks_itself s
      | false ↦ λ e. let w = dead s i e in gone s i w.0 w.1
    ] refl

shrinks_after : (s t u : State) → Shrinks s t → Shrinks t u → Shrinks s u
shrinks_after s t u g h = record {
  entries = λ d m x c. g.entries d m x (h.entries d m x c);
  kinds = λ i k f. g.kinds i k (h.kinds i k f);
  kept = λ d m x c. h.kept d m x c ∙ g.kept d m x (h.entries d m x c);
  top = h.top ∙ g.top;
  next = h.next ∙ g.next;
}

moves_after : (s t u : State) (domain : List Layer) (Fresh : ℕ → Name → ℕ → Type 0) → Moves s t domain Fresh
    → Shrinks t u → Moves s u domain Fresh
moves_after s t u domain Fresh g h = record {
  more = record { entries = λ e m x c. g.more.entries e m x (h.entries e m x c); away = g.more.away };
  alone = λ d n o w f e m c. g.alone d n o w f e m (h.entries e m o c);
  kinds = λ i k f. g.kinds i k (h.kinds i k f);
  kept = λ e m x c. h.kept e m x c ∙ g.kept e m x (h.entries e m x c);
  top = h.top ∙ g.top;
  next = h.next ∙ g.next;
  enters = g.enters;
}

-- ---- a name that goes

pub without_name_shrinks : (s : State) (at : Dentry) (i : ℕ) → Shrinks s (without_name s at i)
without_name_shrinks s at i =
    shrinks_after s left (let_go left i) (record {
      entries = λ d m x c. (got_left dentry_total dentry_exact s.entries at (dentry d m) x c).0;
      kinds = λ j k f. f;
      kept = λ d m x c. refl;
      top = refl;
      next = refl;
    }) (let_go_shrinks left i)
  where
    left : State
    left = record s { entries = remove s.entries at }

pub close_shrinks : (s : State) (number : ℕ) (c : ClientRecord) (i : ℕ) → Shrinks s (let_go (with_client s number c) i)
close_shrinks s number c i = shrinks_after s (with_client s number c) _
    (same_tree s (with_client s number c) refl (λ j. refl) refl) (let_go_shrinks (with_client s number c) i)

-- ---- bytes

pub with_bytes_shrinks : (s : State) (i : ℕ) (bytes : List ℕ) → Shrinks s (with_bytes s i bytes)
with_bytes_shrinks s i bytes =
    elim (get s.nodes i) as (λ o. get s.nodes i ≡ o
    → Shrinks s (option_map_or (λ (n : Node). record s { nodes = insert s.nodes i (record n { bytes = bytes }) }) o
    s)) [
      | None ↦ λ e. shrinks_itself s
      | Some n ↦ λ e. same_tree s (record s { nodes = insert s.nodes i (record n { bytes = bytes }) }) refl (kept n e)
          refl
    ] refl
  where
    kept : (n : Node) → get s.nodes i ≡ Some n → (j : ℕ)
        → option_map (λ (m : Node). m.kind) (get (insert s.nodes i (record n { bytes = bytes })) j) ≡ kind_of s j
    kept n e j = elim (insert_cases nat_cmp_total nat_cmp-IsAntisymmetric s.nodes i (record n { bytes = bytes }) j) [
      | inl a ↦ ap (option_map (λ (m : Node). m.kind)) a.1
          ∙ sym (ap (option_map (λ (m : Node). m.kind)) (ap (get s.nodes) a.0 ∙ e))
      | inr a ↦ ap (option_map (λ (m : Node). m.kind)) a.1
    ]

-- ---- a node or a name that comes

-- what is asked of the place of a new name
pub record IsPlace (s : State) (p : Path) (d : ℕ) : Type 0 where
  pub not_root : is_root p ≡ false
  pub dir : NotFile s d
  pub named : named s (parent p) ≡ Some d

dentry_is : (s : State) (p : Path) (d : ℕ) → IsPlace s p d → dentry_of s p ≡ dentry d (last_name p)
dentry_is s p d h = ap (λ i. dentry i (last_name p)) (inode_is s (parent p) d h.named)

pub end_below : (s : State) → IsTree s → (q : Path) (i x : ℕ) → i < s.next → end_from s q i ≡ Some x → x < s.next
end_below s t [] i x h e = let w = same_Some i x e in omega arith
end_below s t (m ∷ q) i x h e =
    elim (child s i m) as (λ c. child s i m ≡ c → option_and_then (end_from s q) c ≡ Some x → x < s.next) [
      | None ↦ λ is g. absurd (cc g)
      | Some j ↦ λ is g. let w = t.old i m j is in end_below s t q j x w.1 g
    ] refl e

pub new_adds : (s : State) (kind : Kind) (p : Path) (d : ℕ) → IsTree s → IsPlace s p d
    → Adds s (with_node s kind (dentry_of s p)) d (last_name p)
new_adds s kind p d t h =
    let below : d < s.next = end_below s t (parent p) root d t.above h.named in
    record {
      more = record {
        entries = λ e m x c. elim (got_inserted dentry_total dentry_exact s.entries (dentry_of s p) s.next (dentry e m)
            x c) [
              | inl a ↦ let is : dentry e m ≡ dentry d (last_name p) = a.0 ∙ dentry_is s p d h in
                  inr (ap (λ (q : Dentry). q.directory) is, ap (λ (q : Dentry). q.name) is, a.1)
              | inr a ↦ inl a
            ];
        away = λ f m y w g n z v q e. nowhere q below (ap (end_from s q) (sym w.2) ∙ e ∙ ap Some v.0);
      };
      kinds = λ i k f. elim (insert_cases nat_cmp_total nat_cmp-IsAntisymmetric s.nodes s.next (empty_node kind) i) [
        | inl a ↦ inl a.0
        | inr a ↦ inr (sym (ap (option_map (λ (n : Node). n.kind)) a.1) ∙ f)
      ];
      kept = λ i k f. let w = t.nodes i k f in
          ap (option_map (λ (n : Node). n.kind))
          (get-insert_other nat_cmp_total nat_cmp-IsAntisymmetric s.nodes s.next (empty_node kind) i
          (λ is. omega arith)) ∙ f;
      fresh = (
        kind,
        ap (option_map (λ (n : Node). n.kind))
            (get-insert_same nat_cmp_total nat_cmp-IsAntisymmetric s.nodes s.next (empty_node kind)),
      );
      next = refl;
      dir = h.dir;
      below = below;
    }
  where
    nowhere : (q : Path) → d < s.next → end_from s q s.next ≡ Some d → ⊥
    nowhere [] b e = let w = same_Some _ _ e in omega arith
    nowhere (m ∷ q) b e =
        elim (child s s.next m) as (λ c. child s s.next m ≡ c → option_and_then (end_from s q) c ≡ Some d → ⊥) [
          | None ↦ λ is g. cc g
          | Some j ↦ λ is g. let w = t.old s.next m j is in omega arith
        ] refl e

-- what is known of a node that gets another name
pub record IsMove (s : State) (domain : List Layer) (from to : Path) (c d o : ℕ) : Type 0 where
  pub here : IsPlace s from c
  pub there : IsPlace s to d
  pub at : named s from ≡ Some o
  pub apart : is_beneath from to ≡ false
  pub held : (layer : Layer) → Contains domain layer → (right : ℕ) → is_relevant (kind_of s o) right ≡ true
      → grants s layer (parent to) right ≡ true → grants s layer from right ≡ true

module _ (s : State) (domain : List Layer) (from to : Path) (c d o : ℕ) (t : IsTree s)
    (h : IsMove s domain from to c d o) where
  old_entry : child s c (last_name from) ≡ Some o
  old_entry = last_child s from c o h.here.not_root h.here.named h.at

  -- the new place isn't beneath the node
  not_beneath : (q : Path) → end_from s q o ≢ Some d
  not_beneath q e =
      let is : from ++ q ≡ parent to =
      only_path s t (from ++ q) (parent to) d h.there.dir (end_append s from q root o h.at ∙ e) h.there.named in
      let whole : to ≡ (from ++ q) ++ last_name to ∷ [] =
      parent_last to h.there.not_root ∙ ap (λ (r : Path). r ++ last_name to ∷ []) (sym is) in
      absurd (cc (sym h.apart ∙ ap (is_beneath from) whole ∙ beneath_append from q (last_name to)))

  abbrev new_entry : ℕ → Name → ℕ → Type 0
  new_entry = At d (last_name to) o

  enters : (e : ℕ) (m : Name) (x : ℕ) → new_entry e m x → Enters s domain e x
  enters e m x w = subst (λ z. Enters s domain z x) (sym w.0) (subst (Enters s domain d) (sym w.2) (record {
    dir = h.there.dir;
    below = end_below s t (parent to) root d t.above h.there.named;
    not_root = λ is. t.rootless c (last_name from) (old_entry ∙ ap Some is);
    node = t.known c (last_name from) o old_entry;
    held = λ layer l p e.
        let same : p ≡ parent to = only_path s t p (parent to) d h.there.dir e h.there.named in
        (from, h.at, λ right r g. h.held layer l right r (ap (λ z. grants s layer z right) (sym same) ∙ g));
  }))

  -- a state in which the entries are those of s, some of them, and the new one
  moved : (u : State) → u.nodes ≡ s.nodes → u.next ≡ s.next
      → ((e : ℕ) (m : Name) (x : ℕ) → child u e m ≡ Some x → (child s e m ≡ Some x) ⊎ new_entry e m x)
      → ((e : ℕ) (m : Name) → child u e m ≡ Some o → NotFile s o → (e ≡ d) × (m ≡ last_name to))
      → Moves s u domain new_entry
  moved u nodes next entries lost = record {
    more = record {
      entries = entries;
      away = λ f m y w g n z v q e. not_beneath q (ap (end_from s q) (sym w.2) ∙ e ∙ ap Some v.0);
    };
    alone = λ f m y w file g n e.
        let r = lost g n (e ∙ ap Some w.2) (subst (NotFile s) w.2 file) in
        (r.0 ∙ sym w.0, r.1 ∙ sym w.1);
    kinds = λ i k f. ap (λ m. option_map (λ (n : Node). n.kind) (get m i)) (sym nodes) ∙ f;
    kept = λ e m x g. ap (λ y. option_map (λ (n : Node). n.kind) (get y x)) nodes;
    top = ap (λ y. option_map (λ (n : Node). n.kind) (get y root)) nodes;
    next = next;
    enters = enters;
  }

  new_dentry : (e : ℕ) (m : Name) → dentry e m ≡ dentry_of s to → (e ≡ d) × (m ≡ last_name to)
  new_dentry e m is =
      let same : dentry e m ≡ dentry d (last_name to) = is ∙ dentry_is s to d h.there in
      (ap (λ (q : Dentry). q.directory) same, ap (λ (q : Dentry). q.name) same)

  pub link_moves : (NotFile s o → ⊥) → Moves s (with_name s (dentry_of s to) (inode_of s from)) domain new_entry
  link_moves file = moved (with_name s (dentry_of s to) (inode_of s from)) refl refl
      (λ e m x g. elim (got_inserted dentry_total dentry_exact s.entries (dentry_of s to) (inode_of s from) (dentry e m)
      x g) [
        | inl a ↦ let w = new_dentry e m a.0 in inr (w.0, w.1, a.1 ∙ inode_is s from o h.at)
        | inr a ↦ inl a
      ])
      (λ e m g f. absurd (file f))

  abbrev renamed_before : State
  renamed_before = with_moved s (dentry_of s from) (dentry_of s to) (inode_of s from)

  pub renamed_moves : Moves s renamed_before domain new_entry
  renamed_moves = moved renamed_before refl refl
      (λ e m x g. elim (got_inserted dentry_total dentry_exact (remove s.entries (dentry_of s from)) (dentry_of s to)
      (inode_of s from) (dentry e m) x g) [
        | inl a ↦ let w = new_dentry e m a.0 in inr (w.0, w.1, a.1 ∙ inode_is s from o h.at)
        | inr a ↦ inl (got_left dentry_total dentry_exact s.entries (dentry_of s from) (dentry e m) x a).0
      ])
      (λ e m g f. elim (got_inserted dentry_total dentry_exact (remove s.entries (dentry_of s from)) (dentry_of s to)
      (inode_of s from) (dentry e m) o g) [
        | inl a ↦ new_dentry e m a.0
        | inr a ↦
            let w = got_left dentry_total dentry_exact s.entries (dentry_of s from) (dentry e m) o a in
            let same = t.one e m c (last_name from) o f w.0 old_entry in
            absurd (w.1 ((λ i. dentry (same.0 i) (same.1 i)) ∙ sym (dentry_is s from c h.here)))
      ])

  -- another node had the name, and loses it
  pub replaced_moves : (r : ℕ) → Moves s (let_go renamed_before r) domain new_entry
  replaced_moves r = moves_after s renamed_before (let_go renamed_before r) domain new_entry renamed_moves
      (let_go_shrinks renamed_before r)

-- ---- two names that exchange what they stand for

not_beneath_itself : (p : Path) → is_beneath p p ≡ false
not_beneath_itself [] = refl
not_beneath_itself (n ∷ p) = by (same_name n n) (is_beneath p p) (not_beneath_itself p)
  where
    by : (a b : Bool) → b ≡ false → (a && b) ≡ false
    by true b e = e
    by false b e = refl

-- a node isn't above the directory of its name
above_itself : (s : State) → IsTree s → (p : Path) (d o : ℕ) → IsPlace s p d → named s p ≡ Some o → (q : Path)
    → end_from s q o ≢ Some d
above_itself s t p d o here at q e =
    let is : p ++ q ≡ parent p = only_path s t (p ++ q) (parent p) d here.dir (end_append s p q root o at ∙ e)
    here.named in
    let whole : p ≡ (p ++ q) ++ last_name p ∷ [] =
    parent_last p here.not_root ∙ ap (λ (r : Path). r ++ last_name p ∷ []) (sym is) in
    cc (sym (not_beneath_itself p) ∙ ap (is_beneath p) whole ∙ beneath_append p q (last_name p))

-- o stands at a in c, and n at b in d
module _ (s : State) (domain : List Layer) (a b : Path) (c d o n : ℕ) (t : IsTree s) (h : IsMove s domain a b c d o)
    (k : IsMove s domain b a d c n) where
  abbrev swapped : State
  swapped = exchanged s a b

  first_entry : child s c (last_name a) ≡ Some o
  first_entry = last_child s a c o h.here.not_root h.here.named h.at

  second_entry : child s d (last_name b) ≡ Some n
  second_entry = last_child s b d n k.here.not_root k.here.named k.at

  abbrev OldEntry : ℕ → Name → ℕ → Type 0
  OldEntry e m x = (dentry e m ≢ dentry_of s a) × (dentry e m ≢ dentry_of s b) × (child s e m ≡ Some x)

  abbrev two_entries : ℕ → Name → ℕ → Type 0
  two_entries e m x = At d (last_name b) o e m x ⊎ At c (last_name a) n e m x

  in_swapped : (e : ℕ) (m : Name) (x : ℕ) → child swapped e m ≡ Some x → two_entries e m x ⊎ OldEntry e m x
  in_swapped e m x g =
      elim (insert_cases dentry_total dentry_exact (insert s.entries (dentry_of s b) (inode_of s a)) (dentry_of s a)
      (inode_of s b) (dentry e m)) [
        | inl w ↦ let p = new_dentry s domain b a d c n t k e m w.0 in
            inl (inr (p.0, p.1, same_Some x n (sym g ∙ w.1 ∙ ap Some (inode_is s b n k.at))))
        | inr w ↦ elim (insert_cases dentry_total dentry_exact s.entries (dentry_of s b) (inode_of s a) (dentry e m)) [
          | inl v ↦ let p = new_dentry s domain a b c d o t h e m v.0 in
              inl (inl (p.0, p.1, same_Some x o (sym g ∙ w.1 ∙ v.1 ∙ ap Some (inode_is s a o h.at))))
          | inr v ↦ inr (w.0, v.0, sym v.1 ∙ sym w.1 ∙ g)
        ]
      ]

  -- one node under both names keeps both
  pub exchange_shrinks : o ≡ n → Shrinks s swapped
  exchange_shrinks same = record {
    entries = λ e m x g. elim (in_swapped e m x g) [
      | inl (inl w) ↦ entry d (last_name b) o e m x w (second_entry ∙ ap Some (sym same))
      | inl (inr w) ↦ entry c (last_name a) n e m x w (first_entry ∙ ap Some same)
      | inr w ↦ w.2
    ];
    kinds = λ i j e. e;
    kept = λ e m x g. refl;
    top = refl;
    next = refl;
  }
    where
      entry : (f : ℕ) (l : Name) (y e : ℕ) (m : Name) (x : ℕ) → At f l y e m x → child s f l ≡ Some y
          → child s e m ≡ Some x
      entry f l y e m x w is = (λ i. child s (w.0 i) (w.1 i)) ∙ is ∙ ap Some (sym w.2)

  pub exchange_moves : o ≢ n → Moves s swapped domain two_entries
  exchange_moves differ = record {
    more = record {
      entries = λ e m x g. elim (in_swapped e m x g) [ inl w ↦ inr w | inr w ↦ inl w.2 ];
      away = far;
    };
    alone = λ f m x w file e l g. alone_at f m x w file e l (in_swapped e l x g);
    kinds = λ i j e. e;
    kept = λ e m x g. refl;
    top = refl;
    next = refl;
    enters = λ f m x w. elim w [
      | inl v ↦ enters s domain a b c d o t h f m x v
      | inr v ↦ enters s domain b a d c n t k f
          m x v
    ];
  }
    where
      far : (f : ℕ) (m : Name) (x : ℕ) → two_entries f m x → (g : ℕ) (l : Name) (y : ℕ) → two_entries g l y → (q : Path)
          → end_from s q x ≢ Some g
      far f m x (inl w) g l y (inl v) q e =
          not_beneath s domain a b c d o t h q (ap (end_from s q) (sym w.2) ∙ e ∙ ap Some v.0)
      far f m x (inl w) g l y (inr v) q e =
          above_itself s t a c o h.here h.at q (ap (end_from s q) (sym w.2) ∙ e ∙ ap Some v.0)
      far f m x (inr w) g l y (inl v) q e =
          above_itself s t b d n k.here k.at q (ap (end_from s q) (sym w.2) ∙ e ∙ ap Some v.0)
      far f m x (inr w) g l y (inr v) q e =
          not_beneath s domain b a d c n t k q (ap (end_from s q) (sym w.2) ∙ e ∙ ap Some v.0)

      -- a directory's one entry in s is where it no longer stands
      only_old : (p : Path) (f : ℕ) (y : ℕ) → IsPlace s p f → child s f (last_name p) ≡ Some y → (x : ℕ) → x ≡ y
          → NotFile s x → (e : ℕ) (l : Name) → child s e l ≡ Some x → dentry e l ≡ dentry_of s p
      only_old p f y at is x same file e l g =
          let one = t.one e l f (last_name p) x file g (is ∙ ap Some (sym same)) in
          (λ i. dentry (one.0 i) (one.1 i)) ∙ sym (dentry_is s p f at)

      alone_at : (f : ℕ) (m : Name) (x : ℕ) → two_entries f m x → NotFile s x → (e : ℕ) (l : Name) → two_entries e l x
          ⊎ OldEntry e l x → (e ≡ f) × (l ≡ m)
      alone_at f m x (inl w) file e l (inl (inl u)) = (u.0 ∙ sym w.0, u.1 ∙ sym w.1)
      alone_at f m x (inl w) file e l (inl (inr u)) = absurd (differ (sym w.2 ∙ u.2))
      alone_at f m x (inl w) file e l (inr u) = absurd (u.0 (only_old a c o h.here first_entry x w.2 file e l u.2))
      alone_at f m x (inr w) file e l (inl (inl u)) = absurd (differ (sym u.2 ∙ w.2))
      alone_at f m x (inr w) file e l (inl (inr u)) = (u.0 ∙ sym w.0, u.1 ∙ sym w.1)
      alone_at f m x (inr w) file e l (inr u) = absurd (u.1 (only_old b d n k.here second_entry x w.2 file e l u.2))
