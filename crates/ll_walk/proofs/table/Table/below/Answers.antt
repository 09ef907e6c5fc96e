use Rattle.std.proofs.Common.{◌≡◌, ◌≢◌, ◌∙◌, ℕ, None, Some, rules, sym}
use Rattle.std.specs.Sync.Mutex.{mutex_guard_value}
use Rattle.ll_journal.specs.declared.progress.Progress.TheVariants as progress
use Rattle.ll_walk.specs.Sections.{place_or}
use Rattle.ll_walk.proofs.Looks.{leg_at_branch, leg_at_fork, ready_as, ready_here, ready_there}
use Rattle.ll_walk.proofs.table.Table.below.Goals.{in-Elsewhere, in_default, in-None, in-Some}
use Rattle.ll_walk.proofs.table.Table.below.Goals as goal

pub returns-in-Some-released-clause-ready : goal.returns-in-Some-released-clause-ready
returns-in-Some-released-clause-ready g c =
    elim c.match-next.branch [
      | in-Elsewhere w ↦
          let seen : c.put.new.self.seen ≡ None = c.put.ensures.seen ∙ (λ i. (w.split-is i).seen) in
          let common : mutex_guard_value c.put.new.self.common ≡ w.next_here-next.new.here =
          (λ i. mutex_guard_value (c.put.ensures.common i)) ∙ (λ i. mutex_guard_value (w.split-is i).common) in
          ready_as _ _ _ _ _ _ _ (sym (λ i. (w.me-is i).doing)) (sym (leg_at_fork _ _ _ _ seen ∙ common))
          (sym w.next-is) w.next_here-next.ensures.ready
      | in_default w ↦
          let seen : c.put.new.self.seen ≡ Some c.args.branch = c.put.ensures.seen ∙ (λ i. (w.split-is i).seen) in
          elim c.match-from.branch [
            | in-None v ↦
                let stands : v.descend.result.0.progress ≡ progress.Stands c.in-Some-released.due.inode =
                search rules in
                ready_as _ _ _ _ _ _ _ (search rules)
                (sym (leg_at_branch _ _ _ _ _ seen ∙ c.put.ensures.place ∙ (λ i. mutex_guard_value (v.to-is i))))
                (search rules)
                (ready_there _ _ _ _ _ _ _ stands v.descend.ensures.ready)
            | in-Some v ↦
                let stands : v.descend-in-Some.result.0.progress ≡ progress.Stands c.in-Some-released.due.inode =
                search rules in
                ready_as _ _ _ _ _ _ _ (search rules)
                (sym (leg_at_branch _ _ _ _ _ seen ∙ c.put.ensures.place ∙ (λ i. mutex_guard_value (v.to-is i))))
                (search rules)
                (ready_there _ _ _ _ _ _ _ stands v.descend-in-Some.ensures.ready)
          ]
    ]

pub returns-in-None-released-clause-ready : goal.returns-in-None-released-clause-ready
returns-in-None-released-clause-ready g c =
    elim c.match-next.branch [
      | in-Elsewhere w ↦
          let seen : c.put-in-None-released.new.self.seen ≡ None =
          c.put-in-None-released.ensures.seen ∙ (λ i. (w.split-is i).seen) in
          let common : mutex_guard_value c.put-in-None-released.new.self.common ≡ w.next_here-next.new.here =
          (λ i. mutex_guard_value (c.put-in-None-released.ensures.common i))
          ∙ (λ i. mutex_guard_value (w.split-is i).common) in
          ready_as _ _ _ _ _ _ _ (sym (λ i. (w.me-is i).doing)) (sym (leg_at_fork _ _ _ _ seen ∙ common))
          (sym w.next-is) w.next_here-next.ensures.ready
      | in_default w ↦
          let seen : c.put-in-None-released.new.self.seen ≡ Some c.args.branch =
          c.put-in-None-released.ensures.seen ∙ (λ i. (w.split-is i).seen) in
          elim c.match-from.branch [
            | in-None v ↦
                let not : (inode : ℕ) → v.descend.result.0.progress ≢ progress.Stands inode = λ inode is.
                c.in-None-released.ensures.none inode
                ((λ i. (w.landing-is i).progress) ∙ (λ i. (v.landing-is i).0.progress) ∙ is) in
                let place : place_or c.match-from.from c.put-in-None-released.new.self.common ≡ v.descend.new.from =
                (λ i. place_or ((v.from-is ∙ v.in-None.is) i) c.put-in-None-released.new.self.common)
                ∙ (λ i. mutex_guard_value (c.put-in-None-released.ensures.common i))
                ∙ (λ i. mutex_guard_value (w.split-is i).common) ∙ (λ i. mutex_guard_value (v.split-is i).common) in
                ready_as _ _ _ _ _ _ _ (search rules)
                (sym (leg_at_branch _ _ _ _ _ seen ∙ c.put-in-None-released.ensures.place ∙ place)) (search rules)
                (ready_here _ _ _ _ _ _ not v.descend.ensures.ready)
            | in-Some v ↦
                let not : (inode : ℕ) → v.descend-in-Some.result.0.progress ≢ progress.Stands inode = λ inode is.
                c.in-None-released.ensures.none inode
                ((λ i. (w.landing-is i).progress) ∙ (λ i. (v.landing-is i).0.progress) ∙ is) in
                ready_as _ _ _ _ _ _ _ (search rules)
                (sym (leg_at_branch _ _ _ _ _ seen ∙ c.put-in-None-released.ensures.place
                ∙ (λ i. place_or (v.from-is i) c.put-in-None-released.new.self.common))) (search rules)
                (ready_here _ _ _ _ _ _ not v.descend-in-Some.ensures.ready)
          ]
    ]
