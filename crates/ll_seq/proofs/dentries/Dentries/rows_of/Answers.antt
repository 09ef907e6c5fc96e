use Rattle.std.proofs.Common.{◌≡◌, ◌==◌, ◌≤◌, ℕ, Bool, true, false, List, length, filter, take, drop, ◌-◌, ltb, leb}
use Rattle.std.proofs.Common.{subst, ap, sym, ◌∙◌, rules, arith}
use Rattle.std.specs.List.Sorted.{IsPartitionPoint, IsNonDecreasingBy}
use Rattle.std.proofs.lemmas.List.Sorted.{IsPartitionPoint-from_clause, IsPartitionedBy-ltb, IsPartitionedBy-leb}
use Rattle.ll_seq.specs.declared.dentries.Dentry.{Dentry}
use Rattle.ll_seq.proofs.OrderedTables.{of_rows}
use Rattle.ll_seq.proofs.Together.{directories_rise, in_order, between}
use Rattle.ll_seq.proofs.dentries.Dentries.rows_of.Goals as goal

abbrev of_row : Dentry × ℕ → ℕ
of_row e = e.0.directory

abbrev Parts : (Dentry × ℕ → Bool) → ℕ → List (Dentry × ℕ) → Type 0
Parts p i rows = IsPartitionPoint (λ e. p e ≡ true) (λ e. p e ≡ false) rows i

module _ (c : goal.After-deref-3) where
  rise : IsNonDecreasingBy of_row c.self.inside.rows.items
  rise = directories_rise c.self.inside.rows.items c.self.invariant

  start_parts : Parts (λ e. ltb e.0.directory c.args.directory) c.partition_point-start.result c.self.inside.rows.items
  start_parts =
      subst (Parts (λ e. ltb e.0.directory c.args.directory) c.partition_point-start.result) c.deref.ensures.value
      (IsPartitionPoint-from_clause (λ (e : Dentry × ℕ). ltb e.0.directory c.args.directory) c.deref.result.now
      c.partition_point-start.result c.partition_point-start.ensures.partitioned
      (IsPartitionedBy-ltb of_row c.deref.result.now c.args.directory
      (subst (IsNonDecreasingBy of_row) (sym c.deref.ensures.value) rise))
      (λ a r f called. (search rules, search rules)))

  end_parts : Parts (λ e. leb e.0.directory c.args.directory) c.partition_point-end.result c.self.inside.rows.items
  end_parts =
      subst (Parts (λ e. leb e.0.directory c.args.directory) c.partition_point-end.result) c.deref-2.ensures.value
      (IsPartitionPoint-from_clause (λ (e : Dentry × ℕ). leb e.0.directory c.args.directory) c.deref-2.result.now
      c.partition_point-end.result c.partition_point-end.ensures.partitioned
      (IsPartitionedBy-leb of_row c.deref-2.result.now c.args.directory
      (subst (IsNonDecreasingBy of_row) (sym c.deref-2.ensures.value) rise))
      (λ a r f called. (search rules, search rules)))

  within : c.partition_point-start.result ≤ length c.self.inside.rows.items
  within = let low = c.partition_point-start.ensures.bound in let len = ap length c.deref.ensures.value in omega arith

  ordered : c.partition_point-start.result ≤ c.partition_point-end.result
  ordered = in_order c.args.directory c.self.inside.rows.items c.partition_point-start.result
      c.partition_point-end.result within start_parts end_parts

pub slice_bounds-result-count : goal.slice_bounds-result-count
slice_bounds-result-count c = ordered c

pub slice_bounds-result-start : goal.slice_bounds-result-start
slice_bounds-result-start c = let le = ordered c in search rules

pub returns : goal.returns
returns c =
    let part = λ (rows : List (Dentry × ℕ)). take (c.partition_point-end.result - c.partition_point-start.result)
    (drop c.partition_point-start.result rows) in
    ap part c.deref-3.ensures.value
    ∙ between c.args.directory c.self.inside.rows.items c.partition_point-start.result c.partition_point-end.result
    (within c.before) (start_parts c.before) (end_parts c.before)
    ∙ sym (of_rows (filter (λ (e : Dentry × ℕ). e.0.directory == c.args.directory)) c.self.inside.rows.items
    c.deref-3.result.now c.args.self.now c.self.view_is c.self.invariant c.deref-3.ensures.value
    ∙ ap (filter (λ (e : Dentry × ℕ). e.0.directory == c.args.directory)) c.deref-3.ensures.value)
