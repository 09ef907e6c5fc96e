-- How a call changes the clients and the bytes.
use Rattle.std.specs.Prelude.{◌≡◌, ◌≢◌, ◌⊎◌, ℕ, ◌<◌, Bool, true, false, cond, not, ◌==◌, List, [], ◌++◌, Option, Some}
use Rattle.std.specs.Prelude.{None, unwrap_or, is_some, is_none, refl, Contains}
use Rattle.std.specs.Option.{option_map_or}
use Rattle.std.specs.Cmp.{nat_cmp_total}
use Rattle.std.specs.FinMap.{nat_cmp-IsAntisymmetric}
use Rattle.std.proofs.Common.{sym, subst, ap, ◌∙◌, inl, inr, arith}
use Rattle.ll_rights.specs.declared.errno.Errno.{Errno}
use Rattle.ll_rights.specs.declared.errno.Errno.TheVariants.{EBADF}
use Rattle.ll_rights.specs.Errno.{refuse}
use Rattle.ll_rights.specs.Map.{get, has, insert, remove}
use Rattle.ll_rights.specs.Right.{read_file, write_file}
use Rattle.ll_rights.proofs.Maps.{insert_cases, got_inserted, got_left}
use Rattle.ll_rules.specs.Layer.{Layer}
use Rattle.ll_seq.specs.declared.client.ClientRecord.{ClientRecord}
use Rattle.ll_seq.specs.declared.client.Descriptor.{Descriptor}
use Rattle.ll_seq.specs.declared.dentries.Dentry.{Dentry}
use Rattle.ll_seq.specs.declared.node.Node.{Node}
use Rattle.ll_seq.specs.State.{State, new_client}
use Rattle.ll_seq.specs.Stages.{without}
use Rattle.ll_seq.specs.Effects.{lives, let_go, with_moved, renamed, with_bytes, inode_at}
use Rattle.ll_seq.specs.Step.{client_of}
use Rattle.ll_seq.specs.Reach.{InReach}
use Rattle.ll_laws.proofs.Unrefused.{not_refused}

-- a descriptor that was opened with what the layer grants
abbrev pub IsOpened : State → ℕ → Layer → Descriptor → Type 0
IsOpened s x layer d = (d.inode ≡ x → d.reads ≡ true → InReach s layer x read_file)
    × (d.inode ≡ x → d.writes ≡ true → InReach s layer x write_file)

-- no client goes, none loses a layer, and one under the layer gets no descriptor but an opened one
pub record ClientsAfter (s t : State) (x : ℕ) (layer : Layer) : Type 0 where
  pub there : (c : ℕ) → has s.clients c ≡ true → has t.clients c ≡ true
  pub under : (c : ℕ) → has s.clients c ≡ true → Contains (client_of s c).domain layer
      → Contains (client_of t c).domain layer
  pub files : (c : ℕ) → has s.clients c ≡ true → Contains (client_of s c).domain layer → (fd : ℕ) (d : Descriptor)
      → get (client_of t c).descriptors fd ≡ Some d → (get (client_of s c).descriptors fd ≡ Some d)
      ⊎ IsOpened s x layer d

module _ (s t : State) (x : ℕ) (layer : Layer) where
  pub same_clients : t.clients ≡ s.clients → ClientsAfter s t x layer
  same_clients e =
      let same : (c : ℕ) → client_of t c ≡ client_of s c = λ c. ap (λ m. unwrap_or (get m c) new_client) e in
      record {
        there = λ c h. ap (λ m. has m c) e ∙ h;
        under = λ c h u. subst (λ (k : ClientRecord). Contains k.domain layer) (sym (same c)) u;
        files = λ c h u fd d g. inl (ap (λ (k : ClientRecord). get k.descriptors fd) (sym (same c)) ∙ g);
      }

  pub caller_after : (number : ℕ) (k : ClientRecord) → t.clients ≡ insert s.clients number k
      → (Contains (client_of s number).domain layer → Contains k.domain layer)
      → (Contains (client_of s number).domain layer → (fd : ℕ) (d : Descriptor) → get k.descriptors fd ≡ Some d
      → (get (client_of s number).descriptors fd ≡ Some d) ⊎ IsOpened s x layer d)
      → ClientsAfter s t x layer
  caller_after number k e grows files = record {
    there = λ c h. elim (at c) [
      | inl a ↦ ap is_some (ap (λ m. get m c) e ∙ a.1)
      | inr a ↦ ap is_some
          (ap (λ m. get m c) e ∙ a.1) ∙ h
    ];
    under = λ c h u. elim (at c) [
      | inl a ↦ subst (λ (j : ClientRecord). Contains j.domain layer) (sym (is c k a.1))
          (grows (subst (λ n. Contains (client_of s n).domain layer) a.0 u))
      | inr a ↦ subst (λ (j : ClientRecord). Contains j.domain layer) (sym (kept c a.1)) u
    ];
    files = λ c h u fd d g. elim (at c) [
      | inl a ↦ elim (files (subst (λ n. Contains (client_of s n).domain layer) a.0 u) fd d
          (ap (λ (j : ClientRecord). get j.descriptors fd) (sym (is c k a.1)) ∙ g)) [
            | inl f ↦ inl (ap (λ n. get (client_of s n).descriptors fd) a.0 ∙ f)
            | inr f ↦ inr f
          ]
      | inr a ↦ inl (ap (λ (j : ClientRecord). get j.descriptors fd) (sym (kept c a.1)) ∙ g)
    ];
  }
    where
      at : (c : ℕ) → ((c ≡ number) × (get (insert s.clients number k) c ≡ Some k))
          ⊎ ((c ≢ number) × (get (insert s.clients number k) c ≡ get s.clients c))
      at c = insert_cases nat_cmp_total nat_cmp-IsAntisymmetric s.clients number k c

      is : (c : ℕ) (j : ClientRecord) → get (insert s.clients number k) c ≡ Some j → client_of t c ≡ j
      is c j g = ap (λ o. unwrap_or o new_client) (ap (λ m. get m c) e ∙ g)

      kept : (c : ℕ) → get (insert s.clients number k) c ≡ get s.clients c → client_of t c ≡ client_of s c
      kept c g = ap (λ o. unwrap_or o new_client) (ap (λ m. get m c) e ∙ g)

  -- a new client comes
  pub new_after : (number : ℕ) (k : ClientRecord) → t.clients ≡ insert s.clients number k → has s.clients number ≡ false
      → ClientsAfter s t x layer
  new_after number k e none =
      record {
        there = λ c h. ap is_some (get_kept c h) ∙ h;
        under = λ c h u. subst (λ (j : ClientRecord). Contains j.domain layer) (sym (kept c h)) u;
        files = λ c h u fd d g. inl (ap (λ (j : ClientRecord). get j.descriptors fd) (sym (kept c h)) ∙ g);
      }
    where
      get_kept : (c : ℕ) → has s.clients c ≡ true → get t.clients c ≡ get s.clients c
      get_kept c h = elim (insert_cases nat_cmp_total nat_cmp-IsAntisymmetric s.clients number k c) [
        | inl a ↦ absurd (cc (sym h ∙ ap (has s.clients) a.0 ∙ none))
        | inr a ↦ ap (λ m. get m c) e ∙ a.1
      ]

      kept : (c : ℕ) → has s.clients c ≡ true → client_of t c ≡ client_of s c
      kept c h = ap (λ o. unwrap_or o new_client) (get_kept c h)

-- ---- what leaves the clients as they are

pub let_go_clients : (s : State) (i : ℕ) → (let_go s i).clients ≡ s.clients
let_go_clients s i = elim (lives s i) as (λ b. (cond b s (record s { nodes = remove s.nodes i })).clients ≡ s.clients)
    [ true ↦ refl | false ↦ refl ]

pub with_bytes_clients : (s : State) (i : ℕ) (bytes : List ℕ) → (with_bytes s i bytes).clients ≡ s.clients
with_bytes_clients s i bytes =
    elim (get s.nodes i) as (λ o.
    (option_map_or (λ (n : Node). record s { nodes = insert s.nodes i (record n { bytes = bytes }) }) o s).clients
    ≡ s.clients) [ None ↦ refl | Some n ↦ refl ]

pub renamed_clients : (s : State) (old new : Dentry) (i : ℕ) (replaced : Option ℕ)
    → (renamed s old new i replaced).clients ≡ s.clients
renamed_clients s old new i None = refl
renamed_clients s old new i (Some r) =
    elim (i == r) as (λ b. (cond b s (let_go (with_moved s old new i) r)).clients ≡ s.clients)
    [ true ↦ refl | false ↦ let_go_clients (with_moved s old new i) r ]

-- ---- what leaves a node as it is, if it is still there

abbrev pub IsNode : State → State → ℕ → Type 0
IsNode s t x = (m : Node) → get t.nodes x ≡ Some m → get s.nodes x ≡ Some m

pub let_go_node : (s : State) (i x : ℕ) → IsNode s (let_go s i) x
let_go_node s i x =
    elim (lives s i) as (λ b. IsNode s (cond b s (record s { nodes = remove s.nodes i })) x) [
      | true ↦ λ m g. g
      | false ↦ λ m g. (got_left nat_cmp_total nat_cmp-IsAntisymmetric s.nodes i x m g).0
    ]

pub with_bytes_node : (s : State) (i : ℕ) (bytes : List ℕ) (x : ℕ) (m : Node)
    → get (with_bytes s i bytes).nodes x ≡ Some m → (x ≡ i) ⊎ (get s.nodes x ≡ Some m)
with_bytes_node s i bytes x m =
    elim (get s.nodes i) as (λ o. get
    (option_map_or (λ (n : Node). record s { nodes = insert s.nodes i (record n { bytes = bytes }) }) o s).nodes x
    ≡ Some m → (x ≡ i) ⊎ (get s.nodes x ≡ Some m)) [
      | None ↦ λ g. inr g
      | Some n ↦ λ g. elim (got_inserted nat_cmp_total nat_cmp-IsAntisymmetric s.nodes i (record n { bytes = bytes }) x
          m g) [ inl a ↦ inl a.0 | inr a ↦ inr a ]
    ]

pub renamed_node : (s : State) (old new : Dentry) (i : ℕ) (replaced : Option ℕ) (x : ℕ)
    → IsNode s (renamed s old new i replaced) x
renamed_node s old new i None x = λ m g. g
renamed_node s old new i (Some r) x =
    elim (i == r) as (λ b. IsNode s (cond b s (let_go (with_moved s old new i) r)) x)
    [ true ↦ λ m g. g | false ↦ λ m g. let_go_node (with_moved s old new i) r x m g ]

pub new_node : (s : State) (x : ℕ) (n m : Node) → x < s.next → get (insert s.nodes s.next n) x ≡ Some m
    → get s.nodes x ≡ Some m
new_node s x n m small g = elim (got_inserted nat_cmp_total nat_cmp-IsAntisymmetric s.nodes s.next n x m g)
    [ inl a ↦ let w = a.0 in absurd (omega arith) | inr a ↦ a ]

-- ---- the descriptor of a call that isn't refused

pub described : (c : ClientRecord) (fd : ℕ) (allows : Descriptor → Bool) (errno : Errno)
    → without c fd allows errno ≡ [] → (d : Descriptor) × (get c.descriptors fd ≡ Some d) × (allows d ≡ true)
described c fd allows errno e =
    elim (get c.descriptors fd) as
    (λ o. refuse (is_none o) EBADF ++ refuse (not (option_map_or allows o true)) errno ≡ [] → (d : Descriptor)
    × (o ≡ Some d) × (allows d ≡ true)) [
      | None ↦ λ f. absurd (cc f)
      | Some d ↦ λ f. (d, refl, held (allows d) (not_refused (not (allows d)) errno f))
    ] e
  where
    held : (b : Bool) → not b ≡ false → b ≡ true
    held true h = refl
    held false h = absurd (cc h)

pub inode_at_is : (c : ClientRecord) (fd : ℕ) (d : Descriptor) → get c.descriptors fd ≡ Some d → inode_at c fd ≡ d.inode
inode_at_is c fd d e = ap (λ o. option_map_or (λ (k : Descriptor). k.inode) o 0) e
