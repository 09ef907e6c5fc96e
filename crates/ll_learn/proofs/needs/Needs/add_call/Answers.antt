use Rattle.std.specs.Prelude.{◌≡◌, List, ℕ, Option, Some, unwrap_or, refl}
use Rattle.ll_why.specs.Reasons.{chain_of}
use Rattle.ll_learn.specs.There.{IsAskedOn, IsOfPath}
use Rattle.ll_learn.proofs.There.{asks_same, asks_weaker, moves_same, moves_weaker}
use Rattle.std.proofs.Common.{ap, inl, inr, subst, sym, ◌∙◌}
use Rattle.std.proofs.lemmas.Result.{on_ok_weaker}
use Rattle.ll_decide.specs.declared.demands.On.{On}
use Rattle.ll_seq.specs.Call.{first_path, second_path}
use Rattle.ll_seq.specs.Demanded.{path_on}
use Rattle.ll_seq.specs.Passed.{before_policy}
use Rattle.ll_seq.specs.State.{new_client}
use Rattle.ll_seq.specs.declared.client.ClientRecord.{ClientRecord}
use Rattle.ll_learn.specs.Needs.{StartsAtRoot}
use Rattle.ll_learn.proofs.AskedGrants.{added, judged_allows, kept_allows}
use Rattle.ll_learn.proofs.Watches.{from_root}
use Rattle.ll_learn.proofs.needs.Needs.add_call.Goals as goal

pub returns-in-Some-opened-clause-meets : goal.returns-in-Some-opened-clause-meets
returns-in-Some-opened-clause-meets c =
    let s = c.args.tree.now in
    let e = c.args.entry.now in
    on_ok_weaker c.add_ask.result (λ adds layer known agree.
    let on = sym c.is_on.ensures ∙ c.if-not-is_on.false in
    let who = ap (λ (o : Option ClientRecord). unwrap_or o new_client) (sym c.in-Some.ensures) in
    added _ _ _ _ _ _ (adds _)
    (kept_allows layer s known e c.in-Some-kept_number.descriptor c.in-Some-opened.inodes.now
    (sym c.kept_number.ensures ∙ c.in-Some-kept_number.is)
    (agree on c.in-Some-kept_number.descriptor ∙ sym c.in-Some-opened.ensures))
    on (ap (λ (r : ClientRecord). before_policy s r e.call) who ∙ c.in-Some-found_for.ensures.free))
    c.add_ask.ensures.meets

pub returns-in-Some-opened-clause-rooted : goal.returns-in-Some-opened-clause-rooted
returns-in-Some-opened-clause-rooted c =
    on_ok_weaker c.add_ask.result (λ keeps rooted theirs. keeps rooted
    (theirs (sym c.is_on.ensures ∙ c.if-not-is_on.false) c.in-Some-kept_number.descriptor c.in-Some-opened.inodes.now
    (sym c.in-Some-opened.ensures))) c.add_ask.ensures.rooted

pub returns-clause-meets : goal.returns-clause-meets
returns-clause-meets c =
    let s = c.args.tree.now in
    let e = c.args.entry.now in
    on_ok_weaker c.add_asks.result (λ adds layer known agree.
    let on = sym c.is_on.ensures ∙ c.if-not-is_on.false in
    let who = ap (λ (o : Option ClientRecord). unwrap_or o new_client) (sym c.in-Some.ensures) in
    added _ _ _ _ _ _ (adds _)
    (judged_allows layer s known e c.in_ok-asks.asks (sym c.kept_number.ensures ∙ c.in_default-kept_number.is)
    (c.in_ok-asks.ensures c.in-Some.caller.now c.in-Some-found_for.ensures.passed))
    on (ap (λ (r : ClientRecord). before_policy s r e.call) who ∙ c.in-Some-found_for.ensures.free))
    c.add_asks.ensures.meets

pub returns-clause-rooted : goal.returns-clause-rooted
returns-clause-rooted c =
    let s = c.args.tree.now in
    let call = c.args.entry.now.call in
    let asked = c.in_ok-asks.ensures c.in-Some.caller.now c.in-Some-found_for.ensures.passed in
    on_ok_weaker c.add_asks.result (λ keeps rooted theirs. keeps rooted (λ (on : On). subst StartsAtRoot
    (sym (asked.chains on)) (from_root s (path_on (first_path call) (second_path call) on))))
    c.add_asks.ensures.rooted

pub returns-then-not-is_on-clause-asks : goal.returns-then-not-is_on-clause-asks
returns-then-not-is_on-clause-asks c =
    asks_same (IsAskedOn c.args.tree.now c.args.watch.now.clients.items c.args.entry.now.client) c.args.self.now
    c.args.self.now refl

pub returns-in_default-found_for-clause-asks : goal.returns-in_default-found_for-clause-asks
returns-in_default-found_for-clause-asks c =
    asks_same (IsAskedOn c.args.tree.now c.args.watch.now.clients.items c.args.entry.now.client) c.args.self.now
    c.args.self.now refl

pub returns-in-None-clause-asks : goal.returns-in-None-clause-asks
returns-in-None-clause-asks c =
    asks_same (IsAskedOn c.args.tree.now c.args.watch.now.clients.items c.args.entry.now.client) c.args.self.now
    c.args.self.now refl

pub returns-in-Some-opened-clause-asks : goal.returns-in-Some-opened-clause-asks
returns-in-Some-opened-clause-asks c =
    on_ok_weaker c.add_ask.result (λ more. asks_weaker (λ path. path ≡ c.in-Some-opened.inodes.now)
    (IsAskedOn c.args.tree.now c.args.watch.now.clients.items c.args.entry.now.client) c.args.self.now
    c.add_ask.new.self (λ path is. inr (
      sym c.is_on.ensures ∙ c.if-not-is_on.false,
      (c.in-Some-kept_number.descriptor, sym c.in-Some-opened.ensures ∙ ap (λ (l : List ℕ). Some l) (sym is)),
    )) more)
    c.add_ask.ensures.asks

pub returns-clause-asks : goal.returns-clause-asks
returns-clause-asks c =
    let call = c.args.entry.now.call in
    let asked = c.in_ok-asks.ensures c.in-Some.caller.now c.in-Some-found_for.ensures.passed in
    on_ok_weaker c.add_asks.result (λ more. asks_weaker (λ path. (on : On) × (path ≡ chain_of c.in_ok-asks.asks on))
    (IsAskedOn c.args.tree.now c.args.watch.now.clients.items c.args.entry.now.client) c.args.self.now
    c.add_asks.new.self (λ path is. inl (path_on (first_path call) (second_path call) is.0, is.1 ∙ asked.chains is.0))
    more) c.add_asks.ensures.asks

pub returns-then-not-is_on-clause-moves : goal.returns-then-not-is_on-clause-moves
returns-then-not-is_on-clause-moves c =
    moves_same (IsOfPath c.args.tree.now) c.args.self.now c.args.self.now refl

pub returns-in_default-found_for-clause-moves : goal.returns-in_default-found_for-clause-moves
returns-in_default-found_for-clause-moves c =
    moves_same (IsOfPath c.args.tree.now) c.args.self.now c.args.self.now refl

pub returns-in-None-clause-moves : goal.returns-in-None-clause-moves
returns-in-None-clause-moves c =
    moves_same (IsOfPath c.args.tree.now) c.args.self.now c.args.self.now refl

pub returns-in-Some-opened-clause-moves : goal.returns-in-Some-opened-clause-moves
returns-in-Some-opened-clause-moves c =
    on_ok_weaker c.add_ask.result (λ more. moves_same (IsOfPath c.args.tree.now) c.args.self.now c.add_ask.new.self
    c.add_ask.ensures.moves) c.add_ask.ensures.asks

pub returns-clause-moves : goal.returns-clause-moves
returns-clause-moves c =
    let call = c.args.entry.now.call in
    let asked = c.in_ok-asks.ensures c.in-Some.caller.now c.in-Some-found_for.ensures.passed in
    on_ok_weaker c.add_asks.result (λ more. moves_weaker (λ path. (on : On) × (path ≡ chain_of c.in_ok-asks.asks on))
    (IsOfPath c.args.tree.now) c.args.self.now c.add_asks.new.self
    (λ path is. (path_on (first_path call) (second_path call) is.0, is.1 ∙ asked.chains is.0)) more)
    c.add_asks.ensures.moves
