use Rattle.std.proofs.Common.{◌≡◌, ℕ, [], length, List, Result, None, Some, sym, ap, ◌∙◌, subst}
use Rattle.std.specs.Prelude.{IfErr}
use Rattle.ll_rights.specs.declared.errno.Errno.{Errno}
use Rattle.ll_seq.specs.declared.call.Call.TheVariants as calls
use Rattle.ll_seq.specs.declared.reply.Entry.{Entry}
use Rattle.ll_seq.specs.declared.reply.Reply.TheVariants as replies
use Rattle.ll_laws.specs.declared.step.Step.TheVariants.{ClientStep}
use Rattle.ll_journal.specs.Book.{Book}
use Rattle.ll_journal.specs.Direct.{Answers}
use Rattle.ll_client.specs.CallStart.{HasNoPlace, childless, spawn_made}
use Rattle.ll_client.specs.Entries.{Knows, doing_in, doing_of, knows, part_in, part_of, starved_in}
use Rattle.ll_client.specs.Gains.{Gains, Told}
use Rattle.ll_client.specs.Hands.{seen_made, starved_if, starves_made}
use Rattle.ll_client.proofs.Accounts.{IsClient, accounts_kept}
use Rattle.ll_client.proofs.Desks.{desk_kept}
use Rattle.ll_client.proofs.Newcomers.{Spawning, child_bears, if_both, if_err, if_ok, not_own, seen_child}
use Rattle.ll_client.proofs.Newcomers.{spawn_answers, spawn_errors, spawn_gains, spawn_steps, still_idle, told_come}
use Rattle.ll_client.proofs.desk.Desk.spawn.Goals as goal

pub child-child-requires-clause-all : goal.child-child-requires-clause-all
child-child-requires-clause-all g c =
    let s : Spawning g.N.Shape.slots g.N.Shape.limit g.N.Shape.rules c.self.inside.journal c.step_alone-made.new.journal
    c.me.inside.number
    c.self.inside.keeper c.step_alone-made.new.keeper c.step_alone-made.result c.spawned.result =
    record {
      desk = c.self.invariant;
      out = c.step_alone-made.ensures.all;
      there = c.take_client.ensures.there;
      idle = sym c.take_client.ensures.doing ∙ ap (λ (k : Knows). k.doing) c.me.view_is ∙ c.args.me.now.idle;
      does = c.step_alone-made.ensures.does;
      not_now = c.step_alone-made.ensures.not_now;
      same = c.step_alone-made.ensures.same;
      is = c.spawned.ensures;
    } in
    accounts_kept c.self.inside.journal c.step_alone-made.new.journal c.me.inside.number [] c.step_alone-made.new.keeper
    c.step_alone-made.ensures.spares
    (spawn_steps g.N.Shape.slots g.N.Shape.limit g.N.Shape.rules c.self.inside.journal c.step_alone-made.new.journal
    c.me.inside.number
    c.self.inside.keeper c.step_alone-made.new.keeper c.step_alone-made.result c.spawned.result s).moved
    (c.step_alone-made.ensures.only.out [] (c.take_client.ensures.gone.out [] tt))
    (c.step_alone-made.ensures.only.clients c.me.inside.number ∙ c.take_client.ensures.gone.gone)
    c.step_alone-made.ensures.all

pub child-child-requires-clause-came : goal.child-child-requires-clause-came
child-child-requires-clause-came g c =
    let s : Spawning g.N.Shape.slots g.N.Shape.limit g.N.Shape.rules c.self.inside.journal c.step_alone-made.new.journal
    c.me.inside.number
    c.self.inside.keeper c.step_alone-made.new.keeper c.step_alone-made.result c.spawned.result =
    record {
      desk = c.self.invariant;
      out = c.step_alone-made.ensures.all;
      there = c.take_client.ensures.there;
      idle = sym c.take_client.ensures.doing ∙ ap (λ (k : Knows). k.doing) c.me.view_is ∙ c.args.me.now.idle;
      does = c.step_alone-made.ensures.does;
      not_now = c.step_alone-made.ensures.not_now;
      same = c.step_alone-made.ensures.same;
      is = c.spawned.ensures;
    } in
    told_come g.N.Shape.slots g.N.Shape.limit g.N.Shape.rules c.self.inside.journal c.step_alone-made.new.journal
    c.me.inside.number
    c.self.inside.keeper c.step_alone-made.new.keeper c.step_alone-made.result c.spawned.result s

pub give_client-requires-clause-free : goal.give_client-requires-clause-free
give_client-requires-clause-free g c =
    let s : Spawning g.N.Shape.slots g.N.Shape.limit g.N.Shape.rules c.self.inside.journal c.step_alone-made.new.journal
    c.me.inside.number
    c.self.inside.keeper c.step_alone-made.new.keeper c.step_alone-made.result c.spawned.result =
    record {
      desk = c.self.invariant;
      out = c.step_alone-made.ensures.all;
      there = c.take_client.ensures.there;
      idle = sym c.take_client.ensures.doing ∙ ap (λ (k : Knows). k.doing) c.me.view_is ∙ c.args.me.now.idle;
      does = c.step_alone-made.ensures.does;
      not_now = c.step_alone-made.ensures.not_now;
      same = c.step_alone-made.ensures.same;
      is = c.spawned.ensures;
    } in
    c.child-child.ensures.others c.me.inside.number
    (not_own g.N.Shape.slots g.N.Shape.limit g.N.Shape.rules c.self.inside.journal c.step_alone-made.new.journal
    c.me.inside.number
    c.self.inside.keeper c.step_alone-made.new.keeper c.step_alone-made.result c.spawned.result s)
    ∙ c.step_alone-made.ensures.only.clients c.me.inside.number ∙ c.take_client.ensures.gone.gone

pub give_client-requires-clause-there : goal.give_client-requires-clause-there
give_client-requires-clause-there g c =
    let s : Spawning g.N.Shape.slots g.N.Shape.limit g.N.Shape.rules c.self.inside.journal c.step_alone-made.new.journal
    c.me.inside.number
    c.self.inside.keeper c.step_alone-made.new.keeper c.step_alone-made.result c.spawned.result =
    record {
      desk = c.self.invariant;
      out = c.step_alone-made.ensures.all;
      there = c.take_client.ensures.there;
      idle = sym c.take_client.ensures.doing ∙ ap (λ (k : Knows). k.doing) c.me.view_is ∙ c.args.me.now.idle;
      does = c.step_alone-made.ensures.does;
      not_now = c.step_alone-made.ensures.not_now;
      same = c.step_alone-made.ensures.same;
      is = c.spawned.ensures;
    } in
    (spawn_steps g.N.Shape.slots g.N.Shape.limit g.N.Shape.rules c.self.inside.journal c.step_alone-made.new.journal
    c.me.inside.number
    c.self.inside.keeper c.step_alone-made.new.keeper c.step_alone-made.result c.spawned.result s).moved.clients
    c.me.inside.number c.take_client.ensures.there

pub invariant_of-me-2 : goal.invariant_of-me-2
invariant_of-me-2 g c =
    let s : Spawning g.N.Shape.slots g.N.Shape.limit g.N.Shape.rules c.self.inside.journal c.step_alone-made.new.journal
    c.me.inside.number
    c.self.inside.keeper c.step_alone-made.new.keeper c.step_alone-made.result c.spawned.result =
    record {
      desk = c.self.invariant;
      out = c.step_alone-made.ensures.all;
      there = c.take_client.ensures.there;
      idle = sym c.take_client.ensures.doing ∙ ap (λ (k : Knows). k.doing) c.me.view_is ∙ c.args.me.now.idle;
      does = c.step_alone-made.ensures.does;
      not_now = c.step_alone-made.ensures.not_now;
      same = c.step_alone-made.ensures.same;
      is = c.spawned.ensures;
    } in
    record {
      idle = ap doing_in c.give_client.ensures.pass
          ∙ still_idle g.N.Shape.slots g.N.Shape.limit g.N.Shape.rules c.self.inside.journal
          c.step_alone-made.new.journal
          c.me.inside.number
          c.self.inside.keeper c.step_alone-made.new.keeper c.step_alone-made.result c.spawned.result s;
    }

pub invariant_of-self : goal.invariant_of-self
invariant_of-self g c =
    let s : Spawning g.N.Shape.slots g.N.Shape.limit g.N.Shape.rules c.self.inside.journal c.step_alone-made.new.journal
    c.me.inside.number
    c.self.inside.keeper c.step_alone-made.new.keeper c.step_alone-made.result c.spawned.result =
    record {
      desk = c.self.invariant;
      out = c.step_alone-made.ensures.all;
      there = c.take_client.ensures.there;
      idle = sym c.take_client.ensures.doing ∙ ap (λ (k : Knows). k.doing) c.me.view_is ∙ c.args.me.now.idle;
      does = c.step_alone-made.ensures.does;
      not_now = c.step_alone-made.ensures.not_now;
      same = c.step_alone-made.ensures.same;
      is = c.spawned.ensures;
    } in
    desk_kept g.N.Shape.slots g.N.Shape.limit g.N.Shape.rules c.self.inside.journal c.step_alone-made.new.journal
    c.me.inside.number []
    c.self.inside.keeper c.give_client.new.keeper c.self.invariant
    (spawn_steps g.N.Shape.slots g.N.Shape.limit g.N.Shape.rules c.self.inside.journal c.step_alone-made.new.journal
    c.me.inside.number
    c.self.inside.keeper c.step_alone-made.new.keeper c.step_alone-made.result c.spawned.result s)
    c.step_alone-made.ensures.spares c.give_client.ensures.all

pub returns-clause-refused : goal.returns-clause-refused
returns-clause-refused g c =
    let s : Spawning g.N.Shape.slots g.N.Shape.limit g.N.Shape.rules c.self.inside.journal c.step_alone-made.new.journal
    c.me.inside.number
    c.self.inside.keeper c.step_alone-made.new.keeper c.step_alone-made.result c.spawned.result =
    record {
      desk = c.self.invariant;
      out = c.step_alone-made.ensures.all;
      there = c.take_client.ensures.there;
      idle = sym c.take_client.ensures.doing ∙ ap (λ (k : Knows). k.doing) c.me.view_is ∙ c.args.me.now.idle;
      does = c.step_alone-made.ensures.does;
      not_now = c.step_alone-made.ensures.not_now;
      same = c.step_alone-made.ensures.same;
      is = c.spawned.ensures;
    } in
    let answers = spawn_answers g.N.Shape.slots g.N.Shape.limit g.N.Shape.rules c.self.inside.journal
    c.step_alone-made.new.journal
    c.me.inside.number
    c.self.inside.keeper c.step_alone-made.new.keeper c.step_alone-made.result c.spawned.result s in
    if_err c.child-child.result _ _ (λ errno is.
    subst (λ (p : Book × ℕ). Answers p.0 (ClientStep p.1 calls.Spawn) (childless errno) c.step_alone-made.new.journal)
    (λ i. (c.self.view_is i, (c.me.view_is i).number))
    (subst (λ (x : Result ℕ Errno). Answers c.self.inside.journal (ClientStep c.me.inside.number calls.Spawn)
    (spawn_made x) c.step_alone-made.new.journal) is answers)) c.child-child.ensures.err

pub returns-clause-mine : goal.returns-clause-mine
returns-clause-mine g c =
    let s : Spawning g.N.Shape.slots g.N.Shape.limit g.N.Shape.rules c.self.inside.journal c.step_alone-made.new.journal
    c.me.inside.number
    c.self.inside.keeper c.step_alone-made.new.keeper c.step_alone-made.result c.spawned.result =
    record {
      desk = c.self.invariant;
      out = c.step_alone-made.ensures.all;
      there = c.take_client.ensures.there;
      idle = sym c.take_client.ensures.doing ∙ ap (λ (k : Knows). k.doing) c.me.view_is ∙ c.args.me.now.idle;
      does = c.step_alone-made.ensures.does;
      not_now = c.step_alone-made.ensures.not_now;
      same = c.step_alone-made.ensures.same;
      is = c.spawned.ensures;
    } in
    let known = c.take_client.ensures in
    let k : IsClient c.self.inside.journal c.me.inside.number (part_in c.me.inside.pass) c.me.inside.seen
    (doing_in c.me.inside.pass) =
    record { there = known.there; few = known.few; part_is = known.part; low = known.seen; doing_is = known.doing }
    in
    let seen : seen_made c.step_alone-made.result c.me.inside.seen (length c.step_alone-made.new.journal.world.history)
    ≡ c.seen_made-me-inside.result =
    ap (λ (es : List Entry). seen_made c.step_alone-made.result c.me.inside.seen (length es)) (sym c.entries.ensures)
    ∙ sym c.seen_made-me-inside.ensures in
    let gains = spawn_gains g.N.Shape.slots g.N.Shape.limit g.N.Shape.rules c.self.inside.journal
    c.step_alone-made.new.journal
    c.me.inside.number
    c.self.inside.keeper c.step_alone-made.new.keeper c.step_alone-made.result c.spawned.result s
    c.me.inside.seen (part_in c.me.inside.pass) (starved_in c.me.inside.wants) (doing_in c.me.inside.pass) k in
    let now : Knows =
    knows c.me.inside.number (part_in c.me.inside.pass) (starved_in c.me.inside.wants) c.me.inside.seen
    (doing_in c.me.inside.pass) in
    let later : Knows =
    knows c.me.inside.number (part_of c.step_alone-made.new.journal.world c.me.inside.number)
    (starved_if (starves_made c.step_alone-made.result) (starved_in c.me.inside.wants)
    (length c.self.inside.journal.world.history)
    (Some calls.Spawn))
    (seen_made c.step_alone-made.result c.me.inside.seen (length c.step_alone-made.new.journal.world.history))
    (doing_of c.step_alone-made.new.journal.world c.me.inside.number) in
    if_ok c.child-child.result _ _ (λ child is.
    subst (λ (x : Knows × Knows). Told calls.Spawn (replies.Spawned child.rider.number) x.0 x.1)
    (λ i. (
      c.me.view_is i,
      knows c.me.inside.number (part_in (sym c.give_client.ensures.pass i)) (sym c.step_alone-made.ensures.starved i)
          (seen i) (doing_in (sym c.give_client.ensures.pass i)),
    ))
    (subst (λ (x : Result ℕ Errno). Gains g.N.Shape.limit calls.Spawn now (spawn_made x) later) is gains))
    c.child-child.ensures.ok

pub returns-clause-alone : goal.returns-clause-alone
returns-clause-alone g c =
    let s : Spawning g.N.Shape.slots g.N.Shape.limit g.N.Shape.rules c.self.inside.journal c.step_alone-made.new.journal
    c.me.inside.number
    c.self.inside.keeper c.step_alone-made.new.keeper c.step_alone-made.result c.spawned.result =
    record {
      desk = c.self.invariant;
      out = c.step_alone-made.ensures.all;
      there = c.take_client.ensures.there;
      idle = sym c.take_client.ensures.doing ∙ ap (λ (k : Knows). k.doing) c.me.view_is ∙ c.args.me.now.idle;
      does = c.step_alone-made.ensures.does;
      not_now = c.step_alone-made.ensures.not_now;
      same = c.step_alone-made.ensures.same;
      is = c.spawned.ensures;
    } in
    let known = c.take_client.ensures in
    let k : IsClient c.self.inside.journal c.me.inside.number (part_in c.me.inside.pass) c.me.inside.seen
    (doing_in c.me.inside.pass) =
    record { there = known.there; few = known.few; part_is = known.part; low = known.seen; doing_is = known.doing }
    in
    let seen : seen_made c.step_alone-made.result c.me.inside.seen (length c.step_alone-made.new.journal.world.history)
    ≡ c.seen_made-me-inside.result =
    ap (λ (es : List Entry). seen_made c.step_alone-made.result c.me.inside.seen (length es)) (sym c.entries.ensures)
    ∙ sym c.seen_made-me-inside.ensures in
    let gains = spawn_gains g.N.Shape.slots g.N.Shape.limit g.N.Shape.rules c.self.inside.journal
    c.step_alone-made.new.journal
    c.me.inside.number
    c.self.inside.keeper c.step_alone-made.new.keeper c.step_alone-made.result c.spawned.result s
    c.me.inside.seen (part_in c.me.inside.pass) (starved_in c.me.inside.wants) (doing_in c.me.inside.pass) k in
    let now : Knows =
    knows c.me.inside.number (part_in c.me.inside.pass) (starved_in c.me.inside.wants) c.me.inside.seen
    (doing_in c.me.inside.pass) in
    let later : Knows =
    knows c.me.inside.number (part_of c.step_alone-made.new.journal.world c.me.inside.number)
    (starved_if (starves_made c.step_alone-made.result) (starved_in c.me.inside.wants)
    (length c.self.inside.journal.world.history)
    (Some calls.Spawn))
    (seen_made c.step_alone-made.result c.me.inside.seen (length c.step_alone-made.new.journal.world.history))
    (doing_of c.step_alone-made.new.journal.world c.me.inside.number) in
    if_err c.child-child.result _ _ (λ errno is.
    subst (λ (x : Knows × Knows). Gains g.N.Shape.limit calls.Spawn x.0 (childless errno) x.1)
    (λ i. (
      c.me.view_is i,
      knows c.me.inside.number (part_in (sym c.give_client.ensures.pass i)) (sym c.step_alone-made.ensures.starved i)
          (seen i) (doing_in (sym c.give_client.ensures.pass i)),
    ))
    (subst (λ (x : Result ℕ Errno). Gains g.N.Shape.limit calls.Spawn now (spawn_made x) later) is gains))
    c.child-child.ensures.err

pub returns-clause-child : goal.returns-clause-child
returns-clause-child g c =
    let s : Spawning g.N.Shape.slots g.N.Shape.limit g.N.Shape.rules c.self.inside.journal c.step_alone-made.new.journal
    c.me.inside.number
    c.self.inside.keeper c.step_alone-made.new.keeper c.step_alone-made.result c.spawned.result =
    record {
      desk = c.self.invariant;
      out = c.step_alone-made.ensures.all;
      there = c.take_client.ensures.there;
      idle = sym c.take_client.ensures.doing ∙ ap (λ (k : Knows). k.doing) c.me.view_is ∙ c.args.me.now.idle;
      does = c.step_alone-made.ensures.does;
      not_now = c.step_alone-made.ensures.not_now;
      same = c.step_alone-made.ensures.same;
      is = c.spawned.ensures;
    } in
    if_both c.child-child.result _ _ _ (λ child is known.
    known
    ∙ (λ i. knows child.rider.number
    ((child_bears g.N.Shape.slots g.N.Shape.limit g.N.Shape.rules c.self.inside.journal c.step_alone-made.new.journal
    c.me.inside.number
    c.self.inside.keeper c.step_alone-made.new.keeper c.step_alone-made.result c.spawned.result s
    child.rider.number is).part i) []
    (sym (c.seen_made-me-inside.ensures ∙ seen_child c.step_alone-made.result c.me.inside.seen
    (length c.entries.result.now) child.rider.number (sym c.spawned.ensures ∙ is)) i) None))
    c.child-child.ensures.ok c.child-child.ensures.client

pub returns-clause-errors : goal.returns-clause-errors
returns-clause-errors g c =
    let s : Spawning g.N.Shape.slots g.N.Shape.limit g.N.Shape.rules c.self.inside.journal c.step_alone-made.new.journal
    c.me.inside.number
    c.self.inside.keeper c.step_alone-made.new.keeper c.step_alone-made.result c.spawned.result =
    record {
      desk = c.self.invariant;
      out = c.step_alone-made.ensures.all;
      there = c.take_client.ensures.there;
      idle = sym c.take_client.ensures.doing ∙ ap (λ (k : Knows). k.doing) c.me.view_is ∙ c.args.me.now.idle;
      does = c.step_alone-made.ensures.does;
      not_now = c.step_alone-made.ensures.not_now;
      same = c.step_alone-made.ensures.same;
      is = c.spawned.ensures;
    } in
    if_err c.child-child.result _ _ (λ errno is.
    subst (λ (x : Result ℕ Errno). IfErr x HasNoPlace) is
    (spawn_errors g.N.Shape.slots g.N.Shape.limit g.N.Shape.rules c.self.inside.journal
    c.step_alone-made.new.journal c.me.inside.number c.self.inside.keeper c.step_alone-made.new.keeper
    c.step_alone-made.result c.spawned.result s)) c.child-child.ensures.err
