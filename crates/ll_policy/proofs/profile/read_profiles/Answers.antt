use Rattle.std.proofs.Common.{◌≡◌, Err, [], ◌∷◌, map, string_bytes, append-nil, sym, ap, ◌∙◌, subst, arith, rules}
use Rattle.std.proofs.lemmas.Grind.{common_steps}
use Rattle.toml.specs.View.{table_view, members_view}
use Rattle.toml.proofs.Views.{Entry}
use Rattle.ll_policy.specs.Calls.{IsProfile}
use Rattle.ll_policy.specs.Faults.{profile_faults}
use Rattle.ll_policy.specs.KeptCalls.{named_calls}
use Rattle.ll_policy.specs.Plan.{Each}
use Rattle.ll_policy.specs.Table.{named_tables}
use Rattle.ll_policy.proofs.Firsts.{Told}
use Rattle.ll_policy.proofs.TablesRead.{next_named, fails_at, all_pass}
use Rattle.ll_policy.proofs.profile.read_profiles.Goals as goal

pub returns-in_err-read : goal.returns-in_err-read
returns-in_err-read c =
    let l = c.loop-name in
    let e : Entry = (c.in-Some.name.now, c.in-Some.value.now) in
    let t = table_view c.in-Some-as_table.table.now in
    let fault = c.in_err-read.field-0.0 in
    let same : c.from_residual.result ≡ Err fault = search rules in
    let front : l.name-iterator ≡ e ∷ c.next.new.self = grind (arith, common_steps) in
    let next = ap (λ es. named_tables (members_view es)) front
    ∙ next_named e c.next.new.self t (sym c.in-Some-as_table.ensures) in
    let told = subst (λ name. Told (profile_faults (name, t)) fault) c.as_str.ensures.value c.in_err-read.ensures in
    rw same (fails_at profile_faults (named_tables (table_view c.args.table.now))
    (named_tables (members_view l.name-iterator)) l.invariant.faults (string_bytes e.0, t) fault next told)

pub returns : goal.returns
returns c =
    let l = c.loop-name in
    let whole = named_tables (table_view c.args.table.now) in
    let none : l.name-iterator ≡ [] = grind (arith, common_steps) in
    let profiles = l.invariant.calls [] (subst (λ es. Each IsProfile (named_tables (members_view es)) []) (sym none) tt)
    in (
      all_pass profile_faults whole (named_tables (members_view l.name-iterator)) l.invariant.faults
          (ap (λ es. named_tables (members_view es)) none),
      subst (Each IsProfile whole) (append-nil (map named_calls l.profiles.items)) profiles,
    )
