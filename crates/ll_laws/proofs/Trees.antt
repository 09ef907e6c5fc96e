-- What holds of every state of a legal history, the three ways in which a call changes the tree, and what a layer
-- reaches after each.
use Rattle.std.specs.Prelude.{◌≡◌, ◌≢◌, ◌⊎◌, ℕ, zero, suc, length, ◌+◌, ◌<◌, Bool, true, false, not, ◌||◌, List, []}
use Rattle.std.specs.Prelude.{◌∷◌, ◌++◌, Option, Some, None, option_and_then, refl, Contains}
use Rattle.std.specs.Option.{option_map_or}
use Rattle.std.specs.List.{list_any}
use Rattle.std.proofs.Common.{sym, ap, ◌∙◌, inl, inr, arith}
use Rattle.ll_rights.specs.declared.kind.Kind.{Kind}
use Rattle.ll_rights.specs.declared.kind.Kind.TheVariants.{Dir}
use Rattle.ll_path.specs.Path.{Path}
use Rattle.ll_rules.specs.Layer.{Layer, restricts, has_rule, grants_on}
use Rattle.ll_seq.specs.State.{Name, State, child, root, kind_of}
use Rattle.ll_seq.specs.Tree.{end_from, chain_from, ancestors}
use Rattle.ll_seq.specs.Asked.{grants}
use Rattle.ll_seq.specs.Reach.{InReach}
use Rattle.ll_seq.specs.CallParts.{is_relevant}
use Rattle.ll_seq.proofs.CutChains.{end_append}
use Rattle.ll_seq.proofs.Parted.{or_right, Last, last}
use Rattle.ll_laws.proofs.Chains.{same_Some, NotFile, chain_front, chain_back, MoreEntries, before}
use Rattle.ll_laws.proofs.Relevant.{relevant_dir}

pub record IsTree (s : State) : Type 0 where
  pub dirs : (d : ℕ) (n : Name) (x : ℕ) → child s d n ≡ Some x → NotFile s d
  pub one : (d : ℕ) (n : Name) (e : ℕ) (m : Name) (x : ℕ) → NotFile s x → child s d n ≡ Some x → child s e m ≡ Some x
      → (d ≡ e) × (n ≡ m)
  pub rootless : (d : ℕ) (n : Name) → child s d n ≢ Some root
  pub known : (d : ℕ) (n : Name) (x : ℕ) → child s d n ≡ Some x → (k : Kind) × (kind_of s x ≡ Some k)
  pub old : (d : ℕ) (n : Name) (x : ℕ) → child s d n ≡ Some x → (d < s.next) × (x < s.next)
  pub nodes : (i : ℕ) (k : Kind) → kind_of s i ≡ Some k → i < s.next
  pub above : root < s.next
  pub root_node : kind_of s root ≡ Some Dir

pub root_dir : (s : State) → IsTree s → NotFile s root
root_dir s i k e = same_Some k Dir (sym e ∙ i.root_node)

-- ---- the three changes

-- entries and nodes may go, and no more
pub record Shrinks (s t : State) : Type 0 where
  pub entries : (e : ℕ) (m : Name) (x : ℕ) → child t e m ≡ Some x → child s e m ≡ Some x
  pub kinds : (i : ℕ) (k : Kind) → kind_of t i ≡ Some k → kind_of s i ≡ Some k
  pub kept : (e : ℕ) (m : Name) (x : ℕ) → child t e m ≡ Some x → kind_of t x ≡ kind_of s x
  pub top : kind_of t root ≡ kind_of s root
  pub next : t.next ≡ s.next

-- the one new entry
abbrev pub At : ℕ → Name → ℕ → ℕ → Name → ℕ → Type 0
At d n o e m x = (e ≡ d) × (m ≡ n) × (x ≡ o)

-- a new node gets a name
pub record Adds (s t : State) (d : ℕ) (n : Name) : Type 0 where
  pub more : MoreEntries s t (At d n s.next)
  pub kinds : (i : ℕ) (k : Kind) → kind_of t i ≡ Some k → (i ≡ s.next) ⊎ (kind_of s i ≡ Some k)
  pub kept : (i : ℕ) (k : Kind) → kind_of s i ≡ Some k → kind_of t i ≡ Some k
  pub fresh : (k : Kind) × (kind_of t s.next ≡ Some k)
  pub next : t.next ≡ s.next + 1
  pub dir : NotFile s d
  pub below : d < s.next

-- a node that there is gets an entry in a directory, by which nothing is gained of a layer of the domain
pub record Enters (s : State) (domain : List Layer) (d o : ℕ) : Type 0 where
  pub dir : NotFile s d
  pub below : d < s.next
  pub not_root : o ≢ root
  pub node : (k : Kind) × (kind_of s o ≡ Some k)
  pub held : (layer : Layer) → Contains domain layer → (p : Path) → end_from s p root ≡ Some d
      → (from : Path) × (end_from s from root ≡ Some o)
      × ((right : ℕ) → is_relevant (kind_of s o) right ≡ true → grants s layer p right ≡ true
      → grants s layer from right ≡ true)

-- Nodes that there are get new entries. A directory keeps no other
pub record Moves (s t : State) (domain : List Layer) (Fresh : ℕ → Name → ℕ → Type 0) : Type 0 where
  pub more : MoreEntries s t Fresh
  pub alone : (d : ℕ) (n : Name) (o : ℕ) → Fresh d n o → NotFile s o → (e : ℕ) (m : Name) → child t e m ≡ Some o
      → (e ≡ d) × (m ≡ n)
  pub kinds : (i : ℕ) (k : Kind) → kind_of t i ≡ Some k → kind_of s i ≡ Some k
  pub kept : (e : ℕ) (m : Name) (x : ℕ) → child t e m ≡ Some x → kind_of t x ≡ kind_of s x
  pub top : kind_of t root ≡ kind_of s root
  pub next : t.next ≡ s.next
  pub enters : (d : ℕ) (n : Name) (o : ℕ) → Fresh d n o → Enters s domain d o

pub data Change (s t : State) (domain : List Layer) : Type 1 where
  shrinks : Shrinks s t → Change s t domain
  adds : (d : ℕ) (n : Name) → Adds s t d n → Change s t domain
  moves : (Fresh : ℕ → Name → ℕ → Type 0) → Moves s t domain Fresh → Change s t domain

-- ---- each keeps the tree

shrinks_tree : (s t : State) → IsTree s → Shrinks s t → IsTree t
shrinks_tree s t i h = record {
  dirs = λ d n x c k e. i.dirs d n x (h.entries d n x c) k (h.kinds d k e);
  one = λ d n e m x f c g. i.one d n e m x (λ k a. f k (h.kept d n x c ∙ a)) (h.entries d n x c) (h.entries e m x g);
  rootless = λ d n c. i.rootless d n (h.entries d n root c);
  known = λ d n x c. let w = i.known d n x (h.entries d n x c) in (w.0, h.kept d n x c ∙ w.1);
  old = λ d n x c. let w = i.old d n x (h.entries d n x c) in (omega arith, omega arith);
  nodes = λ j k e. let w = i.nodes j k (h.kinds j k e) in omega arith;
  above = let w = i.above in omega arith;
  root_node = h.top ∙ i.root_node;
}

adds_tree : (s t : State) (d : ℕ) (n : Name) → IsTree s → Adds s t d n → IsTree t
adds_tree s t d n i h = record {
  dirs = λ e m x c k f. elim (h.more.entries e m x c) [
    | inl a ↦ elim (h.kinds e k f)
        [ inl b ↦ let w = i.old e m x a in absurd (omega arith) | inr b ↦ i.dirs e m x a k b ]
    | inr a ↦ elim (h.kinds e k f) [
      | inl b ↦ let w = h.below in let v = a.0
          in absurd (omega arith)
      | inr b ↦ h.dir k (ap (kind_of s) (sym a.0) ∙ b)
    ]
  ];
  one = λ e m e' m' x f c g. elim (h.more.entries e m x c) [
    | inl a ↦ elim (h.more.entries e' m' x g) [
      | inl b ↦ i.one e m e' m' x (λ k z. f k (h.kept x k z)) a b
      | inr b ↦ let w = i.old e m x a in let v = b.2 in absurd (omega arith)
    ]
    | inr a ↦ elim (h.more.entries e' m' x g) [
      | inl b ↦ let w = i.old e' m' x b in let v = a.2 in absurd (omega arith)
      | inr b ↦ (a.0 ∙ sym b.0, a.1 ∙ sym b.1)
    ]
  ];
  rootless = λ e m c. elim (h.more.entries e m root c)
      [ inl a ↦ i.rootless e m a | inr a ↦ let w = i.above in let v = a.2 in omega arith ];
  known = λ e m x c. elim (h.more.entries e m x c) [
    | inl a ↦ let w = i.known e m x a in (w.0, h.kept x w.0 w.1)
    | inr a ↦ (h.fresh.0, ap (kind_of t) a.2 ∙ h.fresh.1)
  ];
  old = λ e m x c. elim (h.more.entries e m x c) [
    | inl a ↦ let w = i.old e m x a in let v = h.next in (omega arith, omega arith)
    | inr a ↦ let w = h.below in let v = h.next in let u = a.0 in let z = a.2 in (omega arith, omega arith)
  ];
  nodes = λ j k e. let v = h.next in
      elim (h.kinds j k e) [ inl a ↦ omega arith | inr a ↦ let w = i.nodes j k a in omega arith ];
  above = let w = i.above in let v = h.next in omega arith;
  root_node = h.kept root Dir i.root_node;
}

moves_tree : (s t : State) (domain : List Layer) (Fresh : ℕ → Name → ℕ → Type 0) → IsTree s → Moves s t domain Fresh
    → IsTree t
moves_tree s t domain Fresh i h = record {
  dirs = λ e m x c k f. elim (h.more.entries e m x c) [
    | inl a ↦ i.dirs e m x a k (h.kinds e k f)
    | inr a ↦ (h.enters e m x a).dir k (h.kinds e k f)
  ];
  one = λ e m e' m' x f c g.
      let file : NotFile s x = λ k z. f k (h.kept e m x c ∙ z) in
      elim (h.more.entries e m x c) [
        | inl a ↦ elim (h.more.entries e' m' x g)
            [ inl b ↦ i.one e m e' m' x file a b | inr b ↦ h.alone e' m' x b file e m c ]
        | inr a ↦ let w = h.alone e m x a file e' m' g in (sym w.0, sym w.1)
      ];
  rootless = λ e m c. elim (h.more.entries e m root c)
      [ inl a ↦ i.rootless e m a | inr a ↦ (h.enters e m root a).not_root refl ];
  known = λ e m x c. elim (h.more.entries e m x c) [
    | inl a ↦ let w = i.known e m x a in (w.0, h.kept e m x c ∙ w.1)
    | inr a ↦ let w = (h.enters e m x a).node in (w.0, h.kept e m x c ∙ w.1)
  ];
  old = λ e m x c. let v = h.next in elim (h.more.entries e m x c) [
    | inl a ↦ let w = i.old e m x a in (omega arith, omega arith)
    | inr a ↦ let w = (h.enters e m x a).below in let y = (h.enters e m x a).node in let z = i.nodes x y.0 y.1 in
        (omega arith, omega arith)
  ];
  nodes = λ j k e. let v = h.next in let w = i.nodes j k (h.kinds j k e) in omega arith;
  above = let w = i.above in let v = h.next in omega arith;
  root_node = h.top ∙ i.root_node;
}

pub tree_kept : (s t : State) (domain : List Layer) → IsTree s → Change s t domain → IsTree t
tree_kept s t domain i (shrinks h) = shrinks_tree s t i h
tree_kept s t domain i (adds d n h) = adds_tree s t d n i h
tree_kept s t domain i (moves Fresh h) = moves_tree s t domain Fresh i h

-- ---- a directory has one path

module _ (s : State) (i : IsTree s) where
  -- what is so of the paths to both directories is so of the paths
  one_further : (p q : Path) (x : ℕ) → NotFile s x → end_from s p root ≡ Some x → end_from s q root ≡ Some x
      → ((l m : Path) (y : ℕ) → length p ≡ length l + 1 → NotFile s y → end_from s l root ≡ Some y
      → end_from s m root ≡ Some y → l ≡ m) → p ≡ q
  one_further p q x f e g front = by (last s p root x e) (last s q root x g)
    where
      by : ((p ≡ []) × (root ≡ x)) ⊎ Last s p root x → ((q ≡ []) × (root ≡ x)) ⊎ Last s q root x → p ≡ q
      by (inl a) (inl b) = a.0 ∙ sym b.0
      by (inl a) (inr m) = absurd (i.rootless m.directory m.name (m.names ∙ ap Some (sym a.1)))
      by (inr l) (inl b) = absurd (i.rootless l.directory l.name (l.names ∙ ap Some (sym b.1)))
      by (inr l) (inr m) =
          let same = i.one l.directory l.name m.directory m.name x f l.names m.names in
          let fronts = front l.front m.front l.directory l.more (i.dirs l.directory l.name x l.names) l.leads (m.leads
          ∙ ap Some (sym same.0)) in
          l.whole ∙ (λ j. fronts j ++ same.1 j ∷ []) ∙ sym m.whole

  only_path_of : (k : ℕ) (p q : Path) (x : ℕ) → length p ≡ k → NotFile s x → end_from s p root ≡ Some x
      → end_from s q root ≡ Some x → p ≡ q
  only_path_of zero p q x size f e g = one_further p q x f e g (λ l m y more. absurd (omega arith))
  only_path_of (suc k) p q x size f e g = one_further p q x f e g (λ l m y more. only_path_of k l m y (omega arith))

  pub only_path : (p q : Path) (x : ℕ) → NotFile s x → end_from s p root ≡ Some x → end_from s q root ≡ Some x → p ≡ q
  only_path p q x f e g = only_path_of (length p) p q x refl f e g

-- ---- what is reached after each change was reached before it

relevant_back : (o q : Option Kind) (right : ℕ) → ((k : Kind) → o ≡ Some k → q ≡ Some k) → is_relevant o right ≡ true
    → is_relevant q right ≡ true
relevant_back None q right f e = absurd (cc e)
relevant_back (Some k) q right f e = ap (λ z. is_relevant z right) (f k refl) ∙ e

shrunk_path : (s t : State) → Shrinks s t → (q : Path) (i x : ℕ) → end_from t q i ≡ Some x → (end_from s q i ≡ Some x)
    × (chain_from t q i ≡ chain_from s q i)
shrunk_path s t h [] i x e = (e, refl)
shrunk_path s t h (m ∷ q) i x e =
    elim (child t i m) as (λ c. child t i m ≡ c → option_and_then (end_from t q) c ≡ Some x
    → (option_and_then (end_from s q) (child s i m) ≡ Some x)
    × (i ∷ option_map_or (chain_from t q) c [] ≡ i ∷ option_map_or (chain_from s q) (child s i m) [])) [
      | None ↦ λ is g. absurd (cc g)
      | Some j ↦ λ is g.
          let old : child s i m ≡ Some j = h.entries i m j is in
          let rest = shrunk_path s t h q j x g in (
            ap (option_and_then (end_from s q)) old ∙ rest.0,
            ap (λ zs. i ∷ zs) rest.1
                ∙ ap (λ c. i ∷ option_map_or (chain_from s q) c []) (sym old),
          )
    ] refl e

-- where the right was granted on a chain, by leave of an inode on it or without
pub granted_on : (layer : Layer) (xs ys : List ℕ) (right : ℕ)
    → (restricts layer right ≡ true → list_any (has_rule layer right) xs ≡ true
    → list_any (has_rule layer right) ys ≡ true) → grants_on layer xs right ≡ true → grants_on layer ys right ≡ true
granted_on layer xs ys right f e =
    by (restricts layer right) (list_any (has_rule layer right) xs) (list_any (has_rule layer right) ys) f e
  where
    by : (a b c : Bool) → (a ≡ true → b ≡ true → c ≡ true) → (not a || b) ≡ true → (not a || c) ≡ true
    by true b c g h = g refl h
    by false b c g h = refl

rule_of : (layer : Layer) (xs : List ℕ) (right : ℕ) → restricts layer right ≡ true → grants_on layer xs right ≡ true
    → list_any (has_rule layer right) xs ≡ true
rule_of layer xs right a e = sym (ap (λ b. not b || list_any (has_rule layer right) xs) a) ∙ e

shrinks_reach : (s t : State) (layer : Layer) (x right : ℕ) → Shrinks s t → InReach t layer x right
    → InReach s layer x right
shrinks_reach s t layer x right h r =
    let w = shrunk_path s t h r.path root x r.names in
    record {
      path = r.path;
      names = w.0;
      relevant = relevant_back _ _ right (λ k e. h.kinds x k e) r.relevant;
      granted = ap (λ zs. grants_on layer zs right) (sym w.1) ∙ r.granted;
    }

adds_reach : (s t : State) (d : ℕ) (n : Name) (layer : Layer) (x right : ℕ) → IsTree s → Adds s t d n → x < s.next
    → InReach t layer x right → InReach s layer x right
adds_reach s t d n layer x right i h small r =
    elim (before s t (At d n s.next) h.more r.path x r.names) [
      | inl a ↦ record {
        path = r.path;
        names = a.0;
        relevant = relevant_back _ _ right (λ k e. elim (h.kinds x k e) [ inl b ↦ absurd (omega arith) | inr b ↦ b ])
            r.relevant;
        granted = ap (λ zs. grants_on layer zs right) (sym a.1) ∙ r.granted;
      }
      | inr a ↦ absurd (nowhere a.tail (ap (end_from s a.tail) (sym a.new.2) ∙ a.end))
    ]
  where
    -- nothing lies beneath a number that is not yet used
    nowhere : (tail : Path) → end_from s tail s.next ≡ Some x → ⊥
    nowhere [] e = let w = same_Some _ _ e in omega arith
    nowhere (m ∷ tail) e =
        elim (child s s.next m) as (λ c. child s s.next m ≡ c → option_and_then (end_from s tail) c ≡ Some x → ⊥) [
          | None ↦ λ is g. cc g
          | Some j ↦ λ is g. let w = i.old s.next m j is in omega arith
        ] refl e

moves_reach : (s t : State) (domain : List Layer) (Fresh : ℕ → Name → ℕ → Type 0) (layer : Layer) (x right : ℕ)
    → IsTree s → Moves s t domain Fresh → Contains domain layer → InReach t layer x right → InReach s layer x right
moves_reach s t domain Fresh layer x right i h in_domain r =
    elim (before s t Fresh h.more r.path x r.names) [
      | inl a ↦ record {
        path = r.path;
        names = a.0;
        relevant = was;
        granted = ap (λ zs. grants_on layer zs right) (sym a.1) ∙ r.granted;
      }
      | inr a ↦
          let held = (h.enters a.directory a.name a.node a.new).held layer in_domain a.front a.named in
          record {
            path = held.0 ++ a.tail;
            names = end_append s held.0 a.tail root a.node held.1 ∙ a.end;
            relevant = was;
            granted = granted_on layer (ancestors t r.path) (ancestors s (held.0 ++ a.tail)) right
                (λ restricted rule. elim (a.passed (has_rule layer right) rule) [
                  | inl b ↦
                      let there : grants s layer a.front right ≡ true = or_right (not (restricts layer right)) _ b in
                      let here = held.2 right
                      (for_node a.node (h.enters a.directory a.name a.node a.new).node a.tail a.end)
                      there in
                      chain_front s (has_rule layer right) held.0 a.tail root a.node held.1
                      (rule_of layer (ancestors s held.0) right restricted here)
                  | inr b ↦ chain_back s (has_rule layer right) held.0 a.tail root a.node held.1 b
                ]) r.granted;
          }
    ]
  where
    was : is_relevant (kind_of s x) right ≡ true
    was = relevant_back _ _ right (λ k e. h.kinds x k e) r.relevant

    -- the right means something for the node that is moved
    for_node : (o : ℕ) → (k : Kind) × (kind_of s o ≡ Some k) → (tail : Path) → end_from s tail o ≡ Some x
        → is_relevant (kind_of s o) right ≡ true
    for_node o node [] e = ap (λ z. is_relevant (kind_of s z) right) (same_Some o x e) ∙ was
    for_node o node (m ∷ tail) e =
        elim (child s o m) as (λ c. child s o m ≡ c → option_and_then (end_from s tail) c ≡ Some x
        → is_relevant (kind_of s o) right ≡ true) [
          | None ↦ λ is g. absurd (cc g)
          | Some j ↦ λ is g.
              let is_dir : node.0 ≡ Dir = i.dirs o m j is node.0 node.1 in
              ap (λ z. is_relevant z right) (node.1 ∙ ap Some is_dir) ∙ by (kind_of s x) was
        ] refl e
      where
        by : (k : Option Kind) → is_relevant k right ≡ true → is_relevant (Some Dir) right ≡ true
        by None g = absurd (cc g)
        by (Some k) g = relevant_dir k right g

pub reach_kept : (s t : State) (domain : List Layer) (layer : Layer) (x right : ℕ) → IsTree s → (c : Change s t domain)
    → Contains domain layer → x < s.next → InReach t layer x right → InReach s layer x right
reach_kept s t domain layer x right i (shrinks h) under small r = shrinks_reach s t layer x right h r
reach_kept s t domain layer x right i (adds d n h) under small r = adds_reach s t d n layer x right i h small r
reach_kept s t domain layer x right i (moves Fresh h) under small r =
    moves_reach s t domain Fresh layer x right i h under r
