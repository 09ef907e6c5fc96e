-- A client along its walk.
use Rattle.std.proofs.Common.{◌≡◌, ℕ, Option, Some, None, ap, sym, ◌∙◌, subst, refl}
use Rattle.std.specs.Prelude.{true, [], ◌∷◌, ◌++◌}
use Rattle.ll_seq.specs.Passed.{has_path}
use Rattle.ll_seq.specs.Memory.{takes_memory}
use Rattle.ll_seq.specs.declared.call.Call.{Call}
use Rattle.ll_journal.specs.Book.{Book}
use Rattle.ll_journal.specs.Direct.{Starts}
use Rattle.ll_journal.specs.declared.direct.Made.{Made}
use Rattle.ll_journal.specs.declared.start.Start.{Start}
use Rattle.ll_journal.specs.declared.start.Start.TheVariants as start
use Rattle.ll_journal.specs.declared.direct.Made.TheVariants as made
use Rattle.ll_client.specs.declared.left.Left.{Left}
use Rattle.ll_client.specs.declared.left.Left.TheVariants as left
use Rattle.ll_client.specs.Entries.{Knows, starved_at}
use Rattle.ll_client.specs.Gains.{Gains, Goes, Told}
use Rattle.ll_walk.specs.Sections.{made_of, Came}

some_is : {A : Type 0} (x y : A) → Some x ≡ Some y → x ≡ y
some_is x y e = cc

-- what a walk that was to be left has come to
pub came : (limit : ℕ) (k : Knows) (it : Left) (k' : Knows) → Goes limit k it k' → Came limit k (made_of it) k'
came limit k left.NotNow k' g = g
came limit k left.Astray k' g = g
came limit k (left.Answered reply) k' g =
    λ call is path. subst (λ (x : Call). Told x reply k k') (some_is g.0 call (sym g.1 ∙ is)) g.2
came limit k left.Again k' g = g
came limit k left.HistoryFull k' g = λ call is path. g
came limit k left.NoMemory k' g =
    λ call is path.
    let same : call ≡ g.0 = some_is call g.0 (sym is ∙ g.1) in (
      ap takes_memory same ∙ g.2,
      g.3,
      subst (λ (x : Call). k' ≡ record k {
        starved = k.starved ++ starved_at k'.seen x ∷ [];
        seen = k'.seen;
        doing = None;
      }) (sym same) g.4,
    )

-- from where it was when it set out
pub came_as : (limit : ℕ) (k l : Knows) (it : Left) (o : Option Made) (k' : Knows) → l ≡ k → o ≡ made_of it
    → Goes limit l it k' → Came limit k o k'
came_as limit k l it o k' is told g =
    subst (λ (x : Knows). Came limit x o k') is
    (subst (λ (x : Option Made). Came limit l x k') (sym told) (came limit l it k' g))

-- a walk that was begun for a call, and that was answered
pub gained : (limit : ℕ) (call : Call) (k l : Knows) (it : Made) (k' : Knows) → k.doing ≡ None
    → (has_path call ≡ true) × (l ≡ record k { doing = Some call }) → Came limit l (Some it) k'
    → Gains limit call k it k'
gained limit call k l it k' idle is c =
    from it (subst (λ (x : Knows). Came limit x (Some it) k') is.1 c call refl is.0)
  where
    from : (it : Made) → Gains limit call (record k { doing = None }) it k' → Gains limit call k it k'
    from (made.Replied reply) h = h
    from made.HistoryFull h = (h.0, h.1 ∙ (λ i. record k { seen = limit; doing = sym idle i }))
    from made.NoMemory h = (
      h.0,
      h.1,
      h.2 ∙ (λ i. record k {
        starved = k.starved ++ starved_at k'.seen call ∷ [];
        seen = k'.seen;
        doing = sym idle i;
      }),
    )

pub stays : (limit : ℕ) (l : Knows) (it : Left) (k' : Knows) → Goes limit l it k' → made_of it ≡ None → k' ≡ l
stays limit l it k' g none = subst (λ (x : Option Made). Came limit l x k') none (came limit l it k' g)

pub again : (limit : ℕ) (l : Knows) (it : Left) (k' : Knows) → Goes limit l it k' → it ≡ left.Again → k' ≡ l
again limit l it k' g is = subst (λ (x : Left). Goes limit l x k') is g

-- a call that is given back is the one that was made
pub given_back : (b w : Book) (n : ℕ) (call : Call) (it : Start) (back : Call) → Starts b n call it w
    → it ≡ start.Back back → back ≡ call
given_back b w n call it back s is = (subst (λ (x : Start). Starts b n call x w) is s).0
