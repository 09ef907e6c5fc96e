-- What a call that isn't refused does is the same in both runs, and they stay twins.
use Rattle.std.specs.Prelude.{◌≡◌, ◌≢◌, ℕ, Bool, true, false, cond, not, ◌&&◌, ◌||◌, ◌==◌, List, [], ◌∷◌, ◌++◌, length}
use Rattle.std.specs.Prelude.{Option, Some, None, is_none, is_some, slice_get, slice_set, refl, unwrap_or, IsTrue}
use Rattle.std.specs.Prelude.{drop, take, if◌then◌else◌}
use Rattle.std.specs.Option.{option_map_or}
use Rattle.std.specs.Ordering.{nat_cmp, eq_by_cmp}
use Rattle.std.specs.Cmp.{nat_cmp_total}
use Rattle.std.specs.FinMap.{nat_cmp-IsAntisymmetric}
use Rattle.std.proofs.Common.{sym, subst, ap, ◌∙◌, append_assoc}
use Rattle.std.proofs.lemmas.Bool.{eqb-true, eq-eqb}
use Rattle.ll_rights.specs.declared.kind.Kind.TheVariants.{Reg}
use Rattle.ll_rights.specs.Map.{Map, get, has, insert, remove, empty}
use Rattle.ll_rights.proofs.Maps.{get-insert, get-remove, get-empty}
use Rattle.ll_path.specs.Path.{Path}
use Rattle.ll_path.specs.declared.target.Target.{Target}
use Rattle.ll_rules.specs.Layer.{Layer}
use Rattle.ll_rules.specs.Rules.{new_ruleset, with_rule}
use Rattle.ll_seq.specs.declared.call.Call.{Call}
use Rattle.ll_seq.specs.declared.call.Call.TheVariants.{Make, Open, Read, Write, Ftruncate, Close, Truncate, ReadDir}
use Rattle.ll_seq.specs.declared.call.Call.TheVariants.{Stat, Exec, Unlink, Rmdir, Rename, RenameNoreplace, Exchange}
use Rattle.ll_seq.specs.declared.call.Call.TheVariants.{Link, Ruleset, Allow, Confine, Spawn, Connect}
use Rattle.ll_seq.specs.declared.call.Mode.{Mode}
use Rattle.ll_seq.specs.declared.client.ClientRecord.{ClientRecord}
use Rattle.ll_seq.specs.declared.client.Descriptor.{Descriptor}
use Rattle.ll_seq.specs.declared.dentries.Dentry.{Dentry}
use Rattle.ll_seq.specs.declared.node.Node.{Node}
use Rattle.ll_seq.specs.declared.reply.Entry.{Entry}
use Rattle.ll_seq.specs.declared.reply.Reply.{Reply}
use Rattle.ll_seq.specs.declared.reply.Reply.TheVariants.{Bytes, Created, Opened, Spawned}
use Rattle.ll_seq.specs.Asked.{kept_at}
use Rattle.ll_seq.specs.Call.{first_path, path_of, second_path}
use Rattle.ll_seq.specs.CallParts.{done, opened}
use Rattle.ll_seq.specs.Effects.{child_of, dentry_of, emptied, inode_at, let_go, lives, overwritten, renamed, resized}
use Rattle.ll_seq.specs.Effects.{with_bytes, with_client, with_moved, with_node, with_opened, with_size}
use Rattle.ll_seq.specs.Effects.{written}
use Rattle.ll_seq.specs.History.{is_connect}
use Rattle.ll_seq.specs.Stages.{lowest_free, ruleset_at}
use Rattle.ll_seq.specs.State.{State, bytes_of, is_open, new_client, root, name_count}
use Rattle.ll_seq.specs.Tree.{ancestors, inode_of, named}
use Rattle.ll_laws.proofs.ClientChanges.{let_go_clients, renamed_clients, with_bytes_clients}
use Rattle.ll_why.specs.Opener.{is_opened, is_spawned, target_opened}
use Rattle.ll_learn.specs.PassedCalls.{Openings, joins, opened_at}
use Rattle.ll_learn.proofs.AlikeRecords.{inode_same, lowest_same, ruleset_same}
use Rattle.ll_learn.proofs.Twins.{Both, Files, IsFile, IsLayered, Twin, Twins, allows, kept_more, same_open, twin_alike}
use Rattle.ll_learn.proofs.Twins.{equal_keys, twins_again, twins_insert, unequal, with_all}

-- ---- the tree's parts, with other clients

bytes_all : (s : State) (m : Map nat_cmp ClientRecord) (i : ℕ) (bytes : List ℕ)
    → with_bytes (with_all s m) i bytes ≡ with_all (with_bytes s i bytes) m
bytes_all s m i bytes =
    elim (get s.nodes i) as (λ o. option_map_or (λ (k : Node).
    record (with_all s m) { nodes = insert s.nodes i (record k { bytes = bytes }) }) o (with_all s m)
    ≡ with_all (option_map_or (λ (k : Node). record s { nodes = insert s.nodes i (record k { bytes = bytes }) }) o s) m)
    [ None ↦ refl | Some k ↦ refl ]

emptied_all : (s : State) (m : Map nat_cmp ClientRecord) (mode : Mode) (i : ℕ)
    → emptied (with_all s m) mode i ≡ with_all (emptied s mode i) m
emptied_all s m mode i =
    elim mode.truncate as (λ b. cond b (with_bytes (with_all s m) i []) (with_all s m)
    ≡ with_all (cond b (with_bytes s i []) s) m) [ true ↦ bytes_all s m i [] | false ↦ refl ]

emptied_clients : (s : State) (mode : Mode) (i : ℕ) → (emptied s mode i).clients ≡ s.clients
emptied_clients s mode i =
    elim mode.truncate as (λ b. (cond b (with_bytes s i []) s).clients ≡ s.clients)
    [ true ↦ with_bytes_clients s i [] | false ↦ refl ]

written_all : (s : State) (m : Map nat_cmp ClientRecord) (i offset : ℕ) (bytes : List ℕ)
    → written (with_all s m) i offset bytes ≡ with_all (written s i offset bytes) m
written_all s m i offset bytes =
    elim (length bytes == 0) as (λ b. cond b (with_all s m)
    (with_bytes (with_all s m) i (overwritten (bytes_of s i) offset bytes))
    ≡ with_all (cond b s (with_bytes s i (overwritten (bytes_of s i) offset bytes))) m)
    [ true ↦ refl | false ↦ bytes_all s m i (overwritten (bytes_of s i) offset bytes) ]

written_clients : (s : State) (i offset : ℕ) (bytes : List ℕ) → (written s i offset bytes).clients ≡ s.clients
written_clients s i offset bytes =
    elim (length bytes == 0) as (λ b. (cond b s
    (with_bytes s i (overwritten (bytes_of s i) offset bytes))).clients ≡ s.clients)
    [ true ↦ refl | false ↦ with_bytes_clients s i (overwritten (bytes_of s i) offset bytes) ]

let_go_all : (s : State) (m : Map nat_cmp ClientRecord) (i : ℕ) → is_open (with_all s m) i ≡ is_open s i
    → let_go (with_all s m) i ≡ with_all (let_go s i) m
let_go_all s m i same =
    ap (λ b. cond ((i == root) || not (name_count s i == 0) || b) (with_all s m)
    (record (with_all s m) { nodes = remove s.nodes i })) same
    ∙ elim (lives s i) as (λ b. cond b (with_all s m) (record (with_all s m) { nodes = remove s.nodes i })
    ≡ with_all (cond b s (record s { nodes = remove s.nodes i })) m) [ true ↦ refl | false ↦ refl ]

renamed_all : (s : State) (m : Map nat_cmp ClientRecord) (old new : Dentry) (inode : ℕ) (replaced : Option ℕ)
    → ((i : ℕ) → is_open (with_all s m) i ≡ is_open s i)
    → renamed (with_all s m) old new inode replaced ≡ with_all (renamed s old new inode replaced) m
renamed_all s m old new inode None same = refl
renamed_all s m old new inode (Some r) same =
    elim (inode == r) as (λ b. cond b (with_all s m) (let_go (with_moved (with_all s m) old new inode) r)
    ≡ with_all (cond b s (let_go (with_moved s old new inode) r)) m)
    [ true ↦ refl | false ↦ let_go_all (with_moved s old new inode) m r (same r) ]

-- ---- twin records

abbrev lowest : ClientRecord → ℕ
lowest c = unwrap_or (lowest_free c.descriptors) 0

twin_by : (layer : Layer) (b : Bool) (known known' : Files) (c d c' d' : ClientRecord) → Twin layer b known c d
    → (d ≡ c → d' ≡ c') → (IsLayered layer known c d → IsLayered layer known' c' d') → Twin layer b known' c' d'
twin_by layer true known known' c d c' d' w f g = g w
twin_by layer false known known' c d c' d' w f g = f w

module _ (layer : Layer) (b : Bool) (known : Files) (c d : ClientRecord) (w : Twin layer b known c d) where
  closed : (fd : ℕ) → Twin layer b known (record c { descriptors = remove c.descriptors fd })
      (record d { descriptors = remove d.descriptors fd })
  closed fd = twin_by layer b known known c d _ _ w
      (λ e. ap (λ (z : ClientRecord). record z { descriptors = remove z.descriptors fd }) e)
      (λ l. record {
        front = l.front;
        back = l.back;
        was = l.was;
        is = l.is;
        rulesets = l.rulesets;
        files = λ k.
            subst (λ z. Both (IsFile layer (known k)) z (get (remove d.descriptors fd) k))
            (sym (get-remove nat_cmp_total nat_cmp-IsAntisymmetric c.descriptors fd k))
            (subst (λ z. Both (IsFile layer (known k)) (cond (eq_by_cmp nat_cmp k fd) None (get c.descriptors k)) z)
            (sym (get-remove nat_cmp_total nat_cmp-IsAntisymmetric d.descriptors fd k))
            (elim (eq_by_cmp nat_cmp k fd) as (λ z. Both (IsFile layer (known k)) (cond z None (get c.descriptors k))
            (cond z None (get d.descriptors k))) [ true ↦ tt | false ↦ l.files k ]));
      })

  with_rulesets : (f : List Layer → List Layer) → Twin layer b known (record c { rulesets = f c.rulesets })
      (record d { rulesets = f d.rulesets })
  with_rulesets f = twin_by layer b known known c d _ _ w
      (λ e. ap (λ (z : ClientRecord). record z { rulesets = f z.rulesets }) e)
      (λ l. record {
        front = l.front;
        back = l.back;
        was = l.was;
        is = l.is;
        rulesets = ap f l.rulesets;
        files = l.files;
      })

  confined : (rs : ℕ) → Twin layer b known (record c { domain = c.domain ++ ruleset_at c rs ∷ [] })
      (record d { domain = d.domain ++ ruleset_at d rs ∷ [] })
  confined rs = twin_by layer b known known c d _ _ w
      (λ e. ap (λ (z : ClientRecord). record z { domain = z.domain ++ ruleset_at z rs ∷ [] }) e)
      (λ l. record {
        front = l.front;
        back = l.back ++ ruleset_at c rs ∷ [];
        was = ap (λ z. z ++ ruleset_at c rs ∷ []) l.was ∙ append_assoc l.front l.back (ruleset_at c rs ∷ []);
        is = (λ i. l.is i ++ ruleset_same c d (twin_alike layer b known c d w) rs i ∷ [])
            ∙ append_assoc l.front (layer ∷ l.back) (ruleset_at c rs ∷ []);
        rulesets = l.rulesets;
        files = l.files;
      })

  spawned : (s : State) → Twin layer b known (child_of s.rules c) (child_of s.rules d)
  spawned s = twin_by layer b known known c d _ _ w (λ e. ap (child_of s.rules) e)
      (λ l. record {
        front = l.front;
        back = l.back;
        was = l.was;
        is = l.is;
        rulesets = refl;
        files = λ k. elim s.rules.copies as (λ z. Both (IsFile layer (known k))
            (get (cond z c.descriptors empty) k) (get (cond z d.descriptors empty) k)) [
              | true ↦ l.files k
              | false ↦ subst (λ z. Both (IsFile layer (known k)) z z)
                  (sym (get-empty Descriptor nat_cmp k)) tt
            ];
      })

  -- the new descriptor's opening is known
  opened_so : (s : State) (m : Map nat_cmp ClientRecord) (mode : Mode) (path : Path) (inode : ℕ) (known' : Files)
      → known' (unwrap_or (lowest_free c.descriptors) 0) ≡ Some (ancestors s path)
      → ((k : ℕ) → k ≢ unwrap_or (lowest_free c.descriptors) 0 → known' k ≡ known k)
      → Twin layer b known' (with_opened s c mode path inode) (with_opened (with_all s m) d mode path inode)
  opened_so s m mode path inode known' new old = twin_by layer b known known' c d _ _ w
      (λ e. ap (λ z. with_opened s z mode path inode) e)
      (λ l. record {
        front = l.front;
        back = l.back;
        was = l.was;
        is = l.is;
        rulesets = l.rulesets;
        files = λ k.
            subst (λ z. Both (IsFile layer (known' k)) z
            (get (with_opened (with_all s m) d mode path inode).descriptors k))
            (sym (get-insert nat_cmp_total nat_cmp-IsAntisymmetric c.descriptors (lowest c)
            (opened s c mode path inode) k))
            (subst (λ z. Both (IsFile layer (known' k))
            (cond (eq_by_cmp nat_cmp k (lowest c)) (Some (opened s c mode path inode)) (get c.descriptors k)) z)
            (sym (ap (λ z. get (insert d.descriptors (unwrap_or z 0) (opened s d mode path inode)) k)
            (lowest_same c d (twin_alike layer b known c d w))
            ∙ get-insert nat_cmp_total nat_cmp-IsAntisymmetric d.descriptors (lowest c)
            (opened s d mode path inode) k))
            (at l k (eq_by_cmp nat_cmp k (lowest c)) refl));
      })
    where
      file : IsLayered layer known c d → IsFile layer (Some (ancestors s path)) (opened s c mode path inode)
          (opened s d mode path inode)
      file l = record {
        same = refl;
        kept = ap (λ z. is_none (kept_at s z path)) l.is ∙ kept_more s l.front layer l.back path
            ∙ ap (λ z. is_none (kept_at s z path) && allows layer (Some (ancestors s path))) (sym l.was);
      }

      at : (l : IsLayered layer known c d) (k : ℕ) (z : Bool) → eq_by_cmp nat_cmp k (lowest c) ≡ z
          → Both (IsFile layer (known' k)) (cond z (Some (opened s c mode path inode)) (get c.descriptors k))
          (cond z (Some (opened s d mode path inode)) (get d.descriptors k))
      at l k true e = subst (λ z. IsFile layer z (opened s c mode path inode) (opened s d mode path inode))
          (sym (ap known' (equal_keys k (lowest c) e) ∙ new)) (file l)
      at l k false e = subst (λ z. Both (IsFile layer z) (get c.descriptors k) (get d.descriptors k))
          (sym (old k (unequal k (lowest c) e))) (l.files k)

-- ---- what is told of a call

-- the answer opens nothing and spawns nobody
abbrev IsQuiet : Reply → Type 0
IsQuiet r = ((fd : ℕ) → is_opened fd r ≡ false) × ((client : ℕ) → is_spawned client r ≡ false)

-- both runs answer alike, and go on as twins
pub record Follow (layer : Layer) (on : ℕ → Bool) (known : ℕ → Files) (o p : Reply × State) : Type 0 where
  pub clients : Map nat_cmp ClientRecord
  pub reply : p.0 ≡ o.0
  pub state : p.1 ≡ with_all o.1 clients
  pub twins : Twins layer on known o.1.clients clients

abbrev pub entry : ℕ → Call → Reply → Entry
entry q call r = record { client = q; call = call; reply = r }

middle : (a b c : Bool) → b ≡ false → (a && b && c) ≡ false
middle true b c e = ap (λ z. z && c) e
middle false b c e = refl

unspawned : (a b c : Bool) → c ≡ false → (a || (b && c)) ≡ a
unspawned true b c e = refl
unspawned false true c e = e
unspawned false false c e = refl

-- if the call does nothing to it
quiet_client : (s : State) (on : ℕ → Bool) (known : Openings) (q : ℕ) (call : Call) (r : Reply) (k : ℕ)
    → ((fd : ℕ) → ((q == k) && is_opened fd r) ≡ false) → is_spawned k r ≡ false
    → (joins on (entry q call r) k ≡ on k) × (opened_at s known (entry q call r) k ≡ known k)
quiet_client s on known q call r k shut alone = (
  unspawned (on k) (on q) (is_spawned k r) alone,
  λ i fd. (ap (λ b. if b && is_some (target_opened call) then Some (ancestors s (first_path call))
      else known (if is_spawned k r then q else k) fd) (shut fd)
      ∙ ap (λ b. known (if b then q else k) fd) alone) i,
)

module _ (layer : Layer) (s : State) (m : Map nat_cmp ClientRecord) (on : ℕ → Bool) (known : Openings)
    (w : Twins layer on known s.clients m) (q : ℕ) (c d : ClientRecord) (twin : Twin layer (on q) (known q) c d) where
  abbrev Goes : Call → Reply × State → Reply × State → Type 0
  Goes call o p = Follow layer (joins on (entry q call o.0)) (opened_at s known (entry q call o.0)) o p

  quiet_again : (call : Call) (r : Reply) → IsQuiet r → (k : ℕ)
      → (joins on (entry q call r) k ≡ on k) × (opened_at s known (entry q call r) k ≡ known k)
  quiet_again call r quiet k = quiet_client s on known q call r k (λ fd. both (q == k) _ (quiet.0 fd)) (quiet.1 k)
    where
      both : (a b : Bool) → b ≡ false → (a && b) ≡ false
      both true b e = e
      both false b e = refl

  -- the clients stay
  pub stays : (call : Call) (o p : Reply × State) → IsQuiet o.0 → o.1.clients ≡ s.clients → p.0 ≡ o.0
      → p.1 ≡ with_all o.1 m → Goes call o p
  stays call o p quiet same reply state = record {
    clients = m;
    reply = reply;
    state = state;
    twins = twins_again layer on _ known _ o.1.clients m (quiet_again call o.0 quiet)
        (subst (λ z. Twins layer on known z m) (sym same) w);
  }

  -- the caller changes
  changes : (call : Call) (o p : Reply × State) (c' d' : ClientRecord) → IsQuiet o.0
      → o.1.clients ≡ insert s.clients q c' → p.0 ≡ o.0 → p.1 ≡ with_all o.1 (insert m q d')
      → Twin layer (on q) (known q) c' d' → Goes call o p
  changes call o p c' d' quiet same reply state new = record {
    clients = insert m q d';
    reply = reply;
    state = state;
    twins = twins_again layer on _ known _ o.1.clients (insert m q d') (quiet_again call o.0 quiet)
        (subst (λ z. Twins layer on known z (insert m q d')) (sym same)
        (twins_insert layer on on known known s.clients m w q c' d' (λ k n. (refl, refl)) new));
  }

  -- the caller opens a file
  opening : (mode : Mode) (target : Target) (o p : Reply × State) (inode : ℕ) → o.0 ≡ Opened (lowest c)
      → o.1.clients ≡ insert s.clients q (with_opened s c mode (path_of target) inode) → p.0 ≡ o.0
      → p.1 ≡ with_all o.1 (insert m q (with_opened (with_all s m) d mode (path_of target) inode))
      → Goes (Open mode target) o p
  opening mode target o p inode is same reply state = record {
    clients = insert m q (with_opened (with_all s m) d mode (path_of target) inode);
    reply = reply;
    state = state;
    twins = subst (λ (r : Reply). Twins layer (joins on (entry q (Open mode target) r))
        (opened_at s known (entry q (Open mode target) r)) o.1.clients
        (insert m q (with_opened (with_all s m) d mode (path_of target) inode))) (sym is)
        (subst (λ z. Twins layer on' known' z (insert m q (with_opened (with_all s m) d mode (path_of target) inode)))
        (sym same)
        (twins_insert layer on on' known known' s.clients m w q _ _
        (λ k n. quiet_client s on known q (Open mode target) (Opened (lowest c)) k
        (λ fd. ap (λ b. b && (lowest c == fd)) (away k n)) refl)
        (subst (λ b. Twin layer b (known' q) (with_opened s c mode (path_of target) inode)
        (with_opened (with_all s m) d mode (path_of target) inode)) (sym (unspawned (on q) (on q) false refl))
        (opened_so layer (on q) (known q) c d twin s m mode (path_of target) inode (known' q)
        (ap (λ b. if b && true then Some (ancestors s (path_of target)) else known q (lowest c))
        ((λ i. eq-eqb q q refl i && eq-eqb (lowest c) (lowest c) refl i)))
        (λ k n. ap (λ b. if b && true then Some (ancestors s (path_of target)) else known q k)
        (λ i. eq-eqb q q refl i && not_same (lowest c) k (λ e. n (sym e)) i))))));
  }
    where
      on' : ℕ → Bool
      on' = joins on (entry q (Open mode target) (Opened (lowest c)))

      known' : Openings
      known' = opened_at s known (entry q (Open mode target) (Opened (lowest c)))

      not_same : (a b : ℕ) → a ≢ b → (a == b) ≡ false
      not_same a b n = by (a == b) refl
        where
          by : (z : Bool) → (a == b) ≡ z → (a == b) ≡ false
          by true e = absurd (n (eqb-true a b e))
          by false e = e

      away : (k : ℕ) → k ≢ q → (q == k) ≡ false
      away k n = not_same q k (λ e. n (sym e))

  -- ---- each call

  open_goes : (mode : Mode) (t : Target) (fresh : ℕ)
      → Goes (Open mode t) (done s q c (Open mode t) (path_of t) (path_of t) fresh)
      (done (with_all s m) q d (Open mode t) (path_of t) (path_of t) fresh)
  open_goes mode t fresh = by (is_none (named s (path_of t)))
    where
      same : lowest d ≡ lowest c
      same = ap (λ z. unwrap_or z 0) (lowest_same c d (twin_alike layer (on q) (known q) c d twin))

      by : (b : Bool) → Goes (Open mode t) (
        Opened (lowest c),
        cond b
            (with_client (with_node s Reg (dentry_of s (path_of t))) q (with_opened s c mode (path_of t) s.next))
            (with_client (emptied s mode (inode_of s (path_of t))) q
            (with_opened s c mode (path_of t) (inode_of s (path_of t)))),
      ) (
        Opened (lowest d),
        cond b
            (with_client (with_node (with_all s m) Reg (dentry_of s (path_of t))) q
            (with_opened (with_all s m) d mode (path_of t) s.next))
            (with_client (emptied (with_all s m) mode (inode_of s (path_of t))) q
            (with_opened (with_all s m) d mode (path_of t) (inode_of s (path_of t)))),
      )
      by true = opening mode t _ _ s.next refl refl (ap Opened same) refl
      by false = opening mode t _ _ (inode_of s (path_of t)) refl
          (ap (λ z. insert z q (with_opened s c mode (path_of t) (inode_of s (path_of t))))
          (emptied_clients s mode (inode_of s (path_of t))))
          (ap Opened same)
          (ap (λ z. with_client z q (with_opened (with_all s m) d mode (path_of t) (inode_of s (path_of t))))
          (emptied_all s m mode (inode_of s (path_of t))))

  file_same : (fd : ℕ) → inode_at d fd ≡ inode_at c fd
  file_same fd = inode_same c d (twin_alike layer (on q) (known q) c d twin) fd

  close_goes : (fd fresh : ℕ)
      → Goes (Close fd) (done s q c (Close fd) [] [] fresh) (done (with_all s m) q d (Close fd) [] [] fresh)
  close_goes fd fresh = changes (Close fd) _ _ c' d' ((λ k. refl), (λ k. refl))
      (let_go_clients (with_client s q c') _) refl
      (ap (let_go (with_client (with_all s m) q d')) (file_same fd)
      ∙ let_go_all (with_client s q c') (insert m q d') (inode_at c fd)
      (same_open layer on known (insert s.clients q c') (insert m q d') after (with_client s q c') refl
      (inode_at c fd)))
      new
    where
      c' : ClientRecord
      c' = record c { descriptors = remove c.descriptors fd }

      d' : ClientRecord
      d' = record d { descriptors = remove d.descriptors fd }

      new : Twin layer (on q) (known q) c' d'
      new = closed layer (on q) (known q) c d twin fd

      after : Twins layer on known (insert s.clients q c') (insert m q d')
      after = twins_insert layer on on known known s.clients m w q c' d' (λ k n. (refl, refl)) new

  spawn_goes : (fresh : ℕ) → has s.clients fresh ≡ false
      → Goes Spawn (done s q c Spawn [] [] fresh) (done (with_all s m) q d Spawn [] [] fresh)
  spawn_goes fresh free = record {
    clients = insert m fresh (child_of s.rules d);
    reply = refl;
    state = refl;
    twins = twins_insert layer on _ known _ s.clients m w fresh _ _
        (λ k n. quiet_client s on known q Spawn (Spawned fresh) k
        (λ fd. neither (q == k)) (not_same fresh k (λ e. n (sym e))))
        (subst (λ (z : Bool). Twin layer z (opened_at s known (entry q Spawn (Spawned fresh)) fresh)
        (child_of s.rules c) (child_of s.rules d)) (sym now_on)
        (subst (λ (z : Files). Twin layer (on q) z (child_of s.rules c) (child_of s.rules d)) (sym now_known)
        (spawned layer (on q) (known q) c d twin s)));
  }
    where
      neither : (a : Bool) → (a && false) ≡ false
      neither true = refl
      neither false = refl

      not_same : (a b : ℕ) → a ≢ b → (a == b) ≡ false
      not_same a b n = by (a == b) refl
        where
          by : (z : Bool) → (a == b) ≡ z → (a == b) ≡ false
          by true e = absurd (n (eqb-true a b e))
          by false e = e

      before : (z : Bool) → on fresh ≡ z → on fresh ≡ false
      before true e = absurd (cc (sym free ∙ w.there fresh e))
      before false e = e

      both : (a b : Bool) → b ≡ true → (false || (a && b)) ≡ a
      both true b e = e
      both false b e = refl

      now_on : joins on (entry q Spawn (Spawned fresh)) fresh ≡ on q
      now_on = ap (λ z. z || (on q && (fresh == fresh))) (before (on fresh) refl)
          ∙ both (on q) (fresh == fresh) (eq-eqb fresh fresh refl)

      now_known : opened_at s known (entry q Spawn (Spawned fresh)) fresh ≡ known q
      now_known = λ i fd. (ap (λ b. if b && false then Some (ancestors s []) else
          known (if fresh == fresh then q else fresh) fd) (neither (q == fresh))
          ∙ ap (λ b. known (if b then q else fresh) fd) (eq-eqb fresh fresh refl)) i

  connect_goes : (fresh : ℕ) → on q ≡ false
      → Goes Connect (done s q c Connect [] [] fresh) (done (with_all s m) q d Connect [] [] fresh)
  connect_goes fresh off = changes Connect _ _ new_client new_client ((λ k. refl), (λ k. refl)) refl refl refl
      (subst (λ (z : Bool). Twin layer z (known q) new_client new_client) (sym off) refl)

  -- the number of a spawned client is free, and no client that connects is one that the layer is on
  pub done_goes : (call : Call) (fresh : ℕ)
      → ((number : ℕ) → (done s q c call (first_path call) (second_path call) fresh).0 ≡ Spawned number
      → has s.clients number ≡ false)
      → (IsTrue (is_connect call) → on q ≡ false)
      → Goes call (done s q c call (first_path call) (second_path call) fresh)
      (done (with_all s m) q d call (first_path call) (second_path call) fresh)
  done_goes (Make kind t) fresh free off = stays (Make kind t) _ _ ((λ k. refl), (λ k. refl)) refl refl refl
  done_goes (Open mode t) fresh free off = open_goes mode t fresh
  done_goes (Read fd offset size) fresh free off = stays (Read fd offset size) _ _ ((λ k. refl), (λ k. refl)) refl
      (ap (λ i. Bytes (take size (drop offset (bytes_of s i)))) (file_same fd)) refl
  done_goes (Write fd offset bytes) fresh free off = stays (Write fd offset bytes) _ _ ((λ k. refl), (λ k. refl))
      (written_clients s (inode_at c fd) offset bytes) refl
      (ap (λ i. written (with_all s m) i offset bytes) (file_same fd)
      ∙ written_all s m (inode_at c fd) offset bytes)
  done_goes (Ftruncate fd size) fresh free off = stays (Ftruncate fd size) _ _ ((λ k. refl), (λ k. refl))
      (with_bytes_clients s (inode_at c fd) _) refl
      (ap (λ i. with_size (with_all s m) i size) (file_same fd)
      ∙ bytes_all s m (inode_at c fd) (resized (bytes_of s (inode_at c fd)) size))
  done_goes (Close fd) fresh free off = close_goes fd fresh
  done_goes (Truncate t size) fresh free off = stays (Truncate t size) _ _ ((λ k. refl), (λ k. refl))
      (with_bytes_clients s (inode_of s (path_of t)) _) refl
      (bytes_all s m (inode_of s (path_of t)) (resized (bytes_of s (inode_of s (path_of t))) size))
  done_goes (ReadDir t) fresh free off = stays (ReadDir t) _ _ ((λ k. refl), (λ k. refl)) refl refl refl
  done_goes (Stat t) fresh free off = stays (Stat t) _ _ ((λ k. refl), (λ k. refl)) refl refl refl
  done_goes (Exec t) fresh free off = stays (Exec t) _ _ ((λ k. refl), (λ k. refl)) refl refl refl
  done_goes (Unlink t) fresh free off = stays (Unlink t) _ _ ((λ k. refl), (λ k. refl))
      (let_go_clients (record s { entries = remove s.entries (dentry_of s (path_of t)) }) (inode_of s (path_of t))) refl
      (let_go_all (record s { entries = remove s.entries (dentry_of s (path_of t)) }) m (inode_of s (path_of t))
      (same_open layer on known s.clients m w s refl (inode_of s (path_of t))))
  done_goes (Rmdir t) fresh free off = stays (Rmdir t) _ _ ((λ k. refl), (λ k. refl))
      (let_go_clients (record s { entries = remove s.entries (dentry_of s (path_of t)) }) (inode_of s (path_of t))) refl
      (let_go_all (record s { entries = remove s.entries (dentry_of s (path_of t)) }) m (inode_of s (path_of t))
      (same_open layer on known s.clients m w s refl (inode_of s (path_of t))))
  done_goes (Rename o n) fresh free off = stays (Rename o n) _ _ ((λ k. refl), (λ k. refl))
      (renamed_clients s (dentry_of s (path_of o)) (dentry_of s (path_of n)) (inode_of s (path_of o))
      (named s (path_of n))) refl
      (renamed_all s m (dentry_of s (path_of o)) (dentry_of s (path_of n)) (inode_of s (path_of o))
      (named s (path_of n)) (same_open layer on known s.clients m w s refl))
  done_goes (RenameNoreplace o n) fresh free off =
      stays (RenameNoreplace o n) _ _ ((λ k. refl), (λ k. refl)) refl refl refl
  done_goes (Exchange o n) fresh free off = stays (Exchange o n) _ _ ((λ k. refl), (λ k. refl)) refl refl refl
  done_goes (Link o n) fresh free off = stays (Link o n) _ _ ((λ k. refl), (λ k. refl)) refl refl refl
  done_goes (Ruleset rights) fresh free off = changes (Ruleset rights) _ _ _ _ ((λ k. refl), (λ k. refl)) refl
      (ap (λ rs. Created (length rs)) (twin_alike layer (on q) (known q) c d twin).rulesets) refl
      (with_rulesets layer (on q) (known q) c d twin (λ rs. rs ++ new_ruleset rights.0 ∷ []))
  done_goes (Allow rs t rights) fresh free off = changes (Allow rs t rights) _ _ _ _
      ((λ k. refl), (λ k. refl)) refl refl refl
      (with_rulesets layer (on q) (known q) c d twin (λ all. slice_set all rs
      (with_rule (unwrap_or (slice_get all rs) (new_ruleset 0)) (inode_of s (path_of t)) rights.0)))
  done_goes (Confine rs) fresh free off = changes (Confine rs) _ _ _ _ ((λ k. refl), (λ k. refl)) refl refl refl
      (confined layer (on q) (known q) c d twin rs)
  done_goes Spawn fresh free off = spawn_goes fresh (free fresh refl)
  done_goes Connect fresh free off = connect_goes fresh (off refl)
