use Rattle.std.specs.Prelude.{◌≡◌, refl}
use Rattle.std.proofs.lemmas.Result.{on_ok_weaker}
use Rattle.ll_learn.specs.declared.needs.Asked.{Asked}
use Rattle.ll_learn.proofs.MoreNeeds.{more_asked, rooted_ask}
use Rattle.ll_learn.proofs.There.{asks_pushed, asks_same}
use Rattle.ll_learn.proofs.needs.Needs.add_ask.Goals as goal

pub returns-then-has_asked-clause-meets : goal.returns-then-has_asked-clause-meets
returns-then-has_asked-clause-meets c = λ grants. (
  λ meets. (meets, c.has_asked.ensures c.if-has_asked.true grants meets),
  λ both. both.0,
)

pub returns-clause-meets : goal.returns-clause-meets
returns-clause-meets c =
    let a : Asked = record { rights = c.args.rights; inodes = c.in_ok-inodes.inodes; origin = c.args.origin } in
    on_ok_weaker c.push_ask.result (λ more grants. more_asked grants c.args.self.now _ a c.args.inodes.now more refl
    c.in_ok-inodes.ensures) c.push_ask.ensures

pub returns-clause-rooted : goal.returns-clause-rooted
returns-clause-rooted c =
    let a : Asked = record { rights = c.args.rights; inodes = c.in_ok-inodes.inodes; origin = c.args.origin } in
    on_ok_weaker c.push_ask.result (λ more rooted starts. rooted_ask c.args.self.now _ a c.args.inodes.now more refl
    c.in_ok-inodes.ensures rooted starts) c.push_ask.ensures

pub returns-then-has_asked-clause-asks : goal.returns-then-has_asked-clause-asks
returns-then-has_asked-clause-asks c =
    asks_same (λ path. path ≡ c.args.inodes.now) c.args.self.now c.args.self.now refl

pub returns-clause-asks : goal.returns-clause-asks
returns-clause-asks c =
    let a : Asked = record { rights = c.args.rights; inodes = c.in_ok-inodes.inodes; origin = c.args.origin } in
    on_ok_weaker c.push_ask.result (λ more. asks_pushed (λ path. path ≡ c.args.inodes.now) c.args.self.now
    (record c.args.self.now { asks = c.push_ask.new.asks }) a more c.in_ok-inodes.ensures) c.push_ask.ensures
