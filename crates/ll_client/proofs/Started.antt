-- What becomes of the tree and of a client where its call is started.
use Rattle.std.specs.Prelude.{◌≡◌, ℕ, ◌≤◌, List, length, Option, Some, Ok, refl}
use Rattle.std.proofs.Common.{arith}
use Rattle.ll_seq.specs.declared.call.Call.{Call}
use Rattle.ll_laws.specs.declared.step.Step.TheVariants.{Begin, ClientStep}
use Rattle.ll_laws.specs.World as world
use Rattle.ll_laws.specs.World.{World}
use Rattle.ll_laws.specs.Sound.{IsSound}
use Rattle.ll_journal.specs.Book.{Book}
use Rattle.ll_journal.specs.Direct.{Starts}
use Rattle.ll_journal.specs.declared.start.Start.{Start}
use Rattle.ll_journal.specs.declared.start.Start.TheVariants as start
use Rattle.ll_client.specs.declared.account.Numbered.{Numbered}
use Rattle.ll_client.specs.declared.account.Starved.{Starved}
use Rattle.ll_client.specs.CallStart.{SetsOut}
use Rattle.ll_client.specs.Entries.{doing_of, knows, part_of}
use Rattle.ll_client.specs.Hands.{seen_started, starved_if, starves_started}
use Rattle.ll_client.proofs.Accounts.{IsClient}
use Rattle.ll_client.proofs.Desks.{Steps, begin_mine, stepped, stood}
use Rattle.ll_client.proofs.Directs.{IsDirect, begun_path, made_gains, made_steps, same_but}

alone : (w : World) (c : ℕ) (call : Call) → IsDirect w c call (ClientStep c call)
alone w c call = record { mine = refl; asks = refl; idle = refl; other = λ e. cc e }

pub started_steps : (b b' : Book) (c : ℕ) (call : Call) (r : Start) → IsSound b.world
    → length b.world.history ≤ b.world.limit → Starts b c call r b' → Steps b b' c
started_steps b b' c call (start.Made a) h fits d =
    made_steps b b' c call (ClientStep c call) a (alone b.world c call) h fits d
started_steps b b' c call start.Begun h fits d =
    stepped b b' (Begin c call) world.Begun (λ n f. absurd (cc f)) h fits d.1
started_steps b b' c call (start.Back back) h fits d = stood b b' c h fits d.1

pub started_goes : (b b' : Book) (c seen limit : ℕ) (part : List Numbered) (starved : List Starved)
    (doing : Option Call) (call : Call) (r : Start) → length b.world.history ≤ b.world.limit → b.world.limit ≡ limit
    → IsClient b c part seen doing
    → Starts b c call r b'
    → SetsOut limit call (knows c part starved seen doing) r
    (knows c (part_of b'.world c) (starved_if (starves_started r) starved (length b.world.history) (Some call))
    (seen_started r seen (length b'.world.history)) (doing_of b'.world c))
started_goes b b' c seen limit part starved doing call (start.Made a) fits is k d =
    made_gains Call b b' c seen limit part starved doing call (ClientStep c call) (alone b.world c call) fits is k a
    d
started_goes b b' c seen limit part starved doing call start.Begun fits is k d =
    (begun_path b.world b'.world c call d.1, begin_mine b b' c seen part starved doing call (Ok tt) k.part_is d.1)
started_goes b b' c seen limit part starved doing call (start.Back back) fits is k d =
    same_but b b' c seen part starved seen doing k d.1

-- what it knows of is there
pub started_low : (r : Start) (seen before after : ℕ) → seen ≤ before → before ≤ after
    → seen_started r seen after ≤ after
started_low (start.Made a) seen before after low long = omega arith
started_low start.Begun seen before after low long = omega (arith, low, long)
started_low (start.Back back) seen before after low long = omega (arith, low, long)
