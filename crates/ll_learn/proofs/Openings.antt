-- What clients have opened, with one opening or one client more.
use Rattle.std.specs.Prelude.{◌≡◌, ℕ, ◌==◌, ◌&&◌, ◌||◌, Bool, true, false, List, [], ◌∷◌, ◌++◌, Option, Some, None}
use Rattle.std.specs.Prelude.{cond, find, is_some, option_and_then, option_map, if◌then◌else◌, refl}
use Rattle.std.proofs.Common.{ap, eqb-true, get_or, set, sym, ◌∙◌}
use Rattle.ll_learn.specs.declared.watch.Opened.{Opened}
use Rattle.ll_learn.specs.declared.watch.Watched.{Watched}
use Rattle.ll_learn.specs.Watched.{IsAt, is_client_of, is_descriptor, is_watched, path_opened, paths_opened}
use Rattle.ll_learn.specs.Watched.{watched_as, with_opening}
use Rattle.ll_learn.proofs.Positions.{changed_there, found_there, passes_there}

abbrev else_or : {A : Type 0} → Option A → Option A → Option A
else_or (Some x) o = Some x
else_or None o = o

-- ---- one opening more

path_last : (xs : List Opened) (o : Opened) (fd : ℕ)
    → path_opened (xs ++ o ∷ []) fd ≡ else_or (path_opened xs fd) (cond (o.descriptor == fd) (Some o.inodes.items) None)
path_last [] o fd = of (o.descriptor == fd)
  where
    of : (b : Bool) → option_map (λ (x : Opened). x.inodes.items) (cond b (Some o) None)
        ≡ cond b (Some o.inodes.items) None
    of true = refl
    of false = refl
path_last (x ∷ xs) o fd = of (x.descriptor == fd) (path_last xs o fd)
  where
    end : Option (List ℕ)
    end = cond (o.descriptor == fd) (Some o.inodes.items) None

    of : (b : Bool) → path_opened (xs ++ o ∷ []) fd ≡ else_or (path_opened xs fd) end
        → option_map (λ (y : Opened). y.inodes.items) (cond b (Some x) (find (is_descriptor fd) (xs ++ o ∷ [])))
        ≡ else_or (option_map (λ (y : Opened). y.inodes.items) (cond b (Some x) (find (is_descriptor fd) xs))) end
    of true rest = refl
    of false rest = rest

-- a copy of the next one comes behind copies of those before it
pub copied_too : (copies xs : List Opened) (copy o : Opened) → copy.descriptor ≡ o.descriptor
    → copy.inodes.items ≡ o.inodes.items → ((fd : ℕ) → path_opened copies fd ≡ path_opened xs fd) → (fd : ℕ)
    → path_opened (copies ++ copy ∷ []) fd ≡ path_opened (xs ++ o ∷ []) fd
copied_too copies xs copy o number inodes same fd =
    path_last copies copy fd
    ∙ (λ i. else_or (same fd i) (cond (number i == fd) (Some (inodes i)) None))
    ∙ sym (path_last xs o fd)

-- a new descriptor
pub opened_behind_others : (xs : List Opened) (o : Opened) → find (is_descriptor o.descriptor) xs ≡ None → (fd : ℕ)
    → path_opened (xs ++ o ∷ []) fd ≡ (if o.descriptor == fd then Some o.inodes.items else path_opened xs fd)
opened_behind_others xs o none fd = path_last xs o fd ∙ of (o.descriptor == fd) refl
  where
    nothing : (p : Option (List ℕ)) → else_or p None ≡ p
    nothing None = refl
    nothing (Some x) = refl

    of : (b : Bool) → (o.descriptor == fd) ≡ b
        → else_or (path_opened xs fd) (cond b (Some o.inodes.items) None)
        ≡ cond b (Some o.inodes.items) (path_opened xs fd)
    of true e =
        let same : o.descriptor ≡ fd = eqb-true o.descriptor fd e in
        ap (λ (p : Option (List ℕ)). else_or p (Some o.inodes.items))
        (ap (path_opened xs) (sym same) ∙ ap (option_map (λ (x : Opened). x.inodes.items)) none)
    of false e = nothing (path_opened xs fd)

-- a descriptor that was open before
pub opened_anew : (xs : List Opened) (o : Opened) (place : ℕ) → IsAt (is_descriptor o.descriptor) xs place → (fd : ℕ)
    → path_opened (set xs place o) fd ≡ (if o.descriptor == fd then Some o.inodes.items else path_opened xs fd)
opened_anew xs o place at fd =
    ap (option_map (λ (x : Opened). x.inodes.items)) (changed_there (λ (x : Opened). x.descriptor) o.descriptor o
    refl fd xs place at)
    ∙ of (o.descriptor == fd)
  where
    of : (b : Bool) → option_map (λ (x : Opened). x.inodes.items) (cond b (Some o) (find (is_descriptor fd) xs))
        ≡ cond b (Some o.inodes.items) (path_opened xs fd)
    of true = refl
    of false = refl

-- ---- a client opens something

module _ (clients : List Watched) (client place : ℕ) (old new : Watched) (at : IsAt (is_client_of client) clients place)
    (was : old ≡ get_or clients place old) (kept : new.client ≡ old.client) where
  still : new.client ≡ client
  still = kept ∙ ap (λ (w : Watched). w.client) was
      ∙ eqb-true (get_or clients place old).client client (passes_there (is_client_of client) clients place old at)

  found : watched_as clients client ≡ Some old
  found = found_there (is_client_of client) clients place old at ∙ ap (λ (w : Watched). Some w) (sym was)

  changed : (other : ℕ) → watched_as (set clients place new) other ≡ cond (client == other) (Some new)
      (watched_as clients other)
  changed other = changed_there (λ (w : Watched). w.client) client new still other clients place at

  found_by : (other : ℕ) → (client == other) ≡ true → watched_as clients other ≡ Some old
  found_by other e = let same : client ≡ other = eqb-true client other e in ap (watched_as clients) (sym same) ∙ found

  pub all_stay : (other : ℕ) → is_watched (set clients place new) other ≡ is_watched clients other
  all_stay other = ap is_some (changed other) ∙ of (client == other) refl
    where
      of : (b : Bool) → (client == other) ≡ b
          → is_some (cond b (Some new) (watched_as clients other)) ≡ is_some (watched_as clients other)
      of true e = ap is_some (sym (found_by other e))
      of false e = refl

  pub opens_one : (fd : ℕ) (inodes : List ℕ) → ((number : ℕ) → path_opened new.opened.items number
      ≡ (if fd == number then Some inodes else path_opened old.opened.items number)) → (other number : ℕ)
      → paths_opened (set clients place new) other number ≡ with_opening clients client fd inodes other number
  opens_one fd inodes opens other number =
      ap (option_and_then (λ (w : Watched). path_opened w.opened.items number)) (changed other)
      ∙ of (client == other) refl
      ∙ sym (λ i. if (is_some (found i) && (client == other)) && (fd == number) then Some inodes
      else paths_opened clients other number)
    where
      of : (b : Bool) → (client == other) ≡ b
          → option_and_then (λ (w : Watched). path_opened w.opened.items number) (cond b (Some new)
          (watched_as clients other))
          ≡ (if b && (fd == number) then Some inodes else paths_opened clients other number)
      of true e = opens number ∙ ap (λ (o : Option Watched). if fd == number then Some inodes
          else option_and_then (λ (w : Watched). path_opened w.opened.items number) o) (sym (found_by other e))
      of false e = refl

-- ---- a client more

watched_last : (xs : List Watched) (w : Watched) (other : ℕ)
    → watched_as (xs ++ w ∷ []) other ≡ else_or (watched_as xs other) (cond (w.client == other) (Some w) None)
watched_last [] w other = refl
watched_last (x ∷ xs) w other = of (x.client == other) (watched_last xs w other)
  where
    end : Option Watched
    end = cond (w.client == other) (Some w) None

    of : (b : Bool) → watched_as (xs ++ w ∷ []) other ≡ else_or (watched_as xs other) end
        → cond b (Some x) (watched_as (xs ++ w ∷ []) other) ≡ else_or (cond b (Some x) (watched_as xs other)) end
    of true rest = refl
    of false rest = rest

pub one_joins : (xs : List Watched) (w : Watched) (other : ℕ)
    → is_watched (xs ++ w ∷ []) other ≡ (is_watched xs other || (w.client == other))
one_joins xs w other = ap is_some (watched_last xs w other) ∙ of (watched_as xs other) (w.client == other)
  where
    of : (o : Option Watched) (b : Bool) → is_some (else_or o (cond b (Some w) None)) ≡ (is_some o || b)
    of (Some x) b = refl
    of None true = refl
    of None false = refl

none_watched : (o : Option Watched) → is_some o ≡ false → o ≡ None
none_watched None e = refl
none_watched (Some x) e = absurd cc

pub has_the_same : (xs : List Watched) (w : Watched) (parent : ℕ) → is_watched xs w.client ≡ false
    → ((fd : ℕ) → path_opened w.opened.items fd ≡ paths_opened xs parent fd) → (other fd : ℕ)
    → paths_opened (xs ++ w ∷ []) other fd ≡ paths_opened xs (if w.client == other then parent else other) fd
has_the_same xs w parent none same other fd =
    ap (option_and_then (λ (x : Watched). path_opened x.opened.items fd)) (watched_last xs w other)
    ∙ of (w.client == other) refl
  where
    nothing : (o : Option Watched) → else_or o None ≡ o
    nothing None = refl
    nothing (Some x) = refl

    of : (b : Bool) → (w.client == other) ≡ b
        → option_and_then (λ (x : Watched). path_opened x.opened.items fd) (else_or (watched_as xs other)
        (cond b (Some w) None))
        ≡ paths_opened xs (if b then parent else other) fd
    of true e =
        let child : w.client ≡ other = eqb-true w.client other e in
        let absent : watched_as xs other ≡ None = none_watched (watched_as xs other) (ap (is_watched xs)
        (sym child) ∙ none) in
        ap (λ (o : Option Watched). option_and_then (λ (x : Watched). path_opened x.opened.items fd) (else_or o
        (Some w))) absent
        ∙ same fd
    of false e = ap (option_and_then (λ (x : Watched). path_opened x.opened.items fd)) (nothing (watched_as xs other))
