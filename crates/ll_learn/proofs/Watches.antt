-- Whom a layer is on, and what they have opened, behind one entry more.
use Rattle.std.specs.Prelude.{◌≡◌, ℕ, ◌==◌, ◌&&◌, ◌||◌, Bool, true, false, List, [], ◌∷◌, Option, Some, None, refl}
use Rattle.std.specs.Prelude.{if◌then◌else◌}
use Rattle.std.proofs.Common.{ap, eq-eqb, eqb-true, subst, sym, ◌∙◌}
use Rattle.ll_rights.specs.Map.{has}
use Rattle.ll_path.specs.Path.{Path}
use Rattle.ll_seq.specs.declared.reply.Entry.{Entry}
use Rattle.ll_seq.specs.declared.reply.Reply.{Reply}
use Rattle.ll_seq.specs.declared.reply.Reply.TheVariants.{Opened, Spawned}
use Rattle.ll_seq.specs.Call.{first_path}
use Rattle.ll_seq.specs.History.{MayStand, after, fresh_of}
use Rattle.ll_seq.specs.State.{State}
use Rattle.ll_seq.specs.Tree.{ancestors}
use Rattle.ll_seq.proofs.Consequences.{step-clients_stay, step-spawned}
use Rattle.ll_why.specs.Opener.{is_opened, is_spawned, opens}
use Rattle.ll_learn.specs.declared.watch.Opened as opening
use Rattle.ll_learn.specs.declared.watch.Watched.{Watched}
use Rattle.ll_learn.specs.Needs.{StartsAtRoot}
use Rattle.ll_learn.specs.PassedCalls.{Openings, is_client, joins, none_known, opened_at}
use Rattle.ll_learn.specs.Watched.{Joins, is_watched, paths_opened, with_opening}
use Rattle.ll_learn.specs.WatchedClients.{IsWatch, Opens}

pub from_root : (s : State) (path : Path) → StartsAtRoot (ancestors s path)
from_root s [] = ([], refl)
from_root s (name ∷ path) = (_, refl)

is_true : (a b : Bool) → a ≡ true → (a || b) ≡ true
is_true true b e = refl
is_true false b e = absurd cc

or_off : (a b : Bool) → b ≡ false → (a || b) ≡ a
or_off true b e = refl
or_off false b e = e

off_and : (a b : Bool) → b ≡ false → (a && b) ≡ false
off_and true b e = e
off_and false b e = refl

not_both : (b : Bool) → b ≡ true → b ≡ false → ⊥
not_both b e f = absurd (cc (sym e ∙ f))

-- ---- at the cut

pub watch_starts : (s : State) (client : ℕ) (clients : List Watched) → has s.clients client ≡ true
    → ((other : ℕ) → is_watched clients other ≡ (client == other))
    → ((other fd : ℕ) → paths_opened clients other fd ≡ None) → IsWatch s (is_client client) none_known clients
watch_starts s client clients there on none = record {
  on = on;
  there = λ other is. subst (λ k. has s.clients k ≡ true) (eqb-true client other is) there;
  knows = λ other fd is. sym (none other fd);
  rooted = λ other fd inodes is. absurd cc;
}

-- ---- an entry more

opened_unspawned : (r : Reply) (fd client : ℕ) → is_opened fd r ≡ true → is_spawned client r ≡ false
opened_unspawned (Opened n) fd client e = refl
opened_unspawned r fd client e = absurd cc

module _ (s : State) (is_on : ℕ → Bool) (known : Openings) (e : Entry) (clients : List Watched) (may : MayStand s e)
    (watch : IsWatch s is_on known clients) where
  still_there : (client : ℕ) → is_on client ≡ true → has (after s e).clients client ≡ true
  still_there client on = step-clients_stay s e.client e.call (fresh_of e.reply) client (watch.there client on)

  spawned_there : (child : ℕ) → e.reply ≡ Spawned child → has (after s e).clients child ≡ true
  spawned_there child is = (step-spawned s e.client e.call (fresh_of e.reply) child (may.answered ∙ is)).1

  rooted_too : (client fd : ℕ) (inodes : List ℕ) → opened_at s known e client fd ≡ Some inodes → StartsAtRoot inodes
  rooted_too client fd inodes is = of (opens client fd e) is
    where
      of : (b : Bool) → (if b then Some (ancestors s (first_path e.call))
          else known (if is_spawned client e.reply then e.client else client) fd) ≡ Some inodes → StartsAtRoot inodes
      of true some = let same : ancestors s (first_path e.call) ≡ inodes = cc in
          subst StartsAtRoot same (from_root s (first_path e.call))
      of false some = watch.rooted (if is_spawned client e.reply then e.client else client) fd inodes some

  -- nobody is spawned
  module _ (none : (client : ℕ) → is_spawned client e.reply ≡ false) where
    same_on : (client : ℕ) → joins is_on e client ≡ is_on client
    same_on client = or_off (is_on client) _ (off_and (is_on e.client) (is_spawned client e.reply) (none client))

    -- and something is opened
    pub opens_more : (o : opening.Opened) (new : List Watched) → Opens s e (Some o)
        → ((client : ℕ) → is_watched new client ≡ is_watched clients client)
        → ((client fd : ℕ) → paths_opened new client fd
        ≡ with_opening clients e.client o.descriptor o.inodes.items client fd)
        → IsWatch (after s e) (joins is_on e) (opened_at s known e) new
    opens_more o new opened on paths = record {
      on = λ client. on client ∙ watch.on client ∙ sym (same_on client);
      there = λ client is. still_there client (sym (same_on client) ∙ is);
      knows = λ client fd is. known_more client fd (sym (same_on client) ∙ is) ∙ sym (paths client fd);
      rooted = rooted_too;
    }
      where
        opened_now : Option (List ℕ)
        opened_now = Some (ancestors s (first_path e.call))

        known_more : (client fd : ℕ) → is_on client ≡ true → opened_at s known e client fd
            ≡ with_opening clients e.client o.descriptor o.inodes.items client fd
        known_more client fd is =
            (λ i. if opened.0 client fd i then opened_now else known (if none client i then e.client else client) fd)
            ∙ ap (λ (p : Option (List ℕ)). if (e.client == client) && (o.descriptor == fd) then opened_now else p)
            (watch.knows client fd is)
            ∙ ap (λ (l : List ℕ). if (e.client == client) && (o.descriptor == fd) then Some l
            else paths_opened clients client fd) (sym opened.1)
            ∙ of (e.client == client) refl
          where
            of : (b : Bool) → (e.client == client) ≡ b
                → (if b && (o.descriptor == fd) then Some o.inodes.items else paths_opened clients client fd)
                ≡ (if (is_watched clients e.client && b) && (o.descriptor == fd) then Some o.inodes.items
                else paths_opened clients client fd)
            of true same =
                let theirs : is_watched clients e.client ≡ true =
                watch.on e.client ∙ ap is_on (eqb-true e.client client same) ∙ is in
                sym (λ i. if (theirs i && true) && (o.descriptor == fd) then Some o.inodes.items
                else paths_opened clients client fd)
            of false other =
                sym (λ i. if off_and (is_watched clients e.client) false refl i && (o.descriptor == fd)
                then Some o.inodes.items else paths_opened clients client fd)

    -- and nothing is opened
    pub stays_so : ((client fd : ℕ) → opens client fd e ≡ false)
        → IsWatch (after s e) (joins is_on e) (opened_at s known e) clients
    stays_so closed = record {
      on = λ client. watch.on client ∙ sym (same_on client);
      there = λ client is. still_there client (sym (same_on client) ∙ is);
      knows = λ client fd is.
          (λ i. if closed client fd i then Some (ancestors s (first_path e.call))
          else known (if none client i then e.client else client) fd)
          ∙ watch.knows client fd (sym (same_on client) ∙ is);
      rooted = rooted_too;
    }

  pub unspawned : (o : opening.Opened) → Opens s e (Some o) → (client : ℕ) → is_spawned client e.reply ≡ false
  unspawned o opened client =
      opened_unspawned e.reply o.descriptor client (middle (e.client == e.client) (is_opened o.descriptor e.reply) _
      (opened.0 e.client o.descriptor ∙ (λ i. eq-eqb e.client e.client refl i && eq-eqb o.descriptor o.descriptor
      refl i)))
    where
      middle : (a b c : Bool) → ((a && b) && c) ≡ true → b ≡ true
      middle true true c e = refl
      middle true false c e = absurd cc
      middle false b c e = absurd cc

  -- somebody is spawned, and nothing is opened
  module _ (child : ℕ) (spawns : e.reply ≡ Spawned child) (closed : (client fd : ℕ) → opens client fd e ≡ false) where
    is_child : (client : ℕ) → is_spawned client e.reply ≡ (child == client)
    is_child client = ap (is_spawned client) spawns

    known_then : (client fd : ℕ) → opened_at s known e client fd ≡ known
        (if child == client then e.client else client) fd
    known_then client fd = λ i. if closed client fd i then Some (ancestors s (first_path e.call))
        else known (if is_child client i then e.client else client) fd

    pub absent : is_watched clients child ≡ false
    absent = of (is_on child) refl
      where
        of : (b : Bool) → is_on child ≡ b → is_watched clients child ≡ false
        of true on = absurd (not_both (has s.clients child) (watch.there child on) (may.spawned child spawns))
        of false off = watch.on child ∙ off

    pub joins_too : (new : List Watched) → is_on e.client ≡ true → Joins clients new e.client child
        → IsWatch (after s e) (joins is_on e) (opened_at s known e) new
    joins_too new ours more = record {
      on = λ client. more.on client ∙ (λ i. watch.on client i || (child == client)) ∙ sym (joins_is client);
      there = λ client is. either (is_on client) (child == client) (sym (joins_is client) ∙ is)
          (has (after s e).clients client ≡ true) (still_there client)
          (λ same. subst (λ k. has (after s e).clients k ≡ true) (eqb-true child client same)
          (spawned_there child spawns));
      knows = λ client fd is. known_then client fd
          ∙ watch.knows (if child == client then e.client else client) fd (holder client (sym (joins_is client) ∙ is))
          ∙ sym (more.paths client fd);
      rooted = rooted_too;
    }
      where
        joins_is : (client : ℕ) → joins is_on e client ≡ (is_on client || (child == client))
        joins_is client = λ i. is_on client || (ours i && is_child client i)

        either : (x y : Bool) → (x || y) ≡ true → (C : Type 0) → (x ≡ true → C) → (y ≡ true → C) → C
        either true y e C f g = f refl
        either false true e C f g = g refl
        either false false e C f g = absurd cc

        holder : (client : ℕ) → (is_on client || (child == client)) ≡ true
            → is_on (if child == client then e.client else client) ≡ true
        holder client on = by (child == client) on
          where
            by : (b : Bool) → (is_on client || b) ≡ true → is_on (if b then e.client else client) ≡ true
            by true or = ours
            by false or = sym (or_off (is_on client) false refl) ∙ or

    -- a child of one whom the layer isn't on
    pub stays_out : is_on e.client ≡ false → IsWatch (after s e) (joins is_on e) (opened_at s known e) clients
    stays_out theirs = record {
      on = λ client. watch.on client ∙ sym (joins_is client);
      there = λ client is. still_there client (sym (joins_is client) ∙ is);
      knows = λ client fd is. known_then client fd ∙ ap (λ k. known k fd) (other client (sym (joins_is client) ∙ is))
          ∙ watch.knows client fd (sym (joins_is client) ∙ is);
      rooted = rooted_too;
    }
      where
        joins_is : (client : ℕ) → joins is_on e client ≡ is_on client
        joins_is client = or_off (is_on client) _ (λ i. theirs i && is_spawned client e.reply)

        other : (client : ℕ) → is_on client ≡ true → (if child == client then e.client else client) ≡ client
        other client on = by (child == client) refl
          where
            by : (b : Bool) → (child == client) ≡ b → (if b then e.client else client) ≡ client
            by true same = absurd (not_both (has s.clients child)
                (ap (has s.clients) (eqb-true child client same) ∙ watch.there client on) (may.spawned child spawns))
            by false differ = refl
