use Rattle.std.proofs.Common.{◌≡◌, ℕ, List, subst, true}
use Rattle.std.specs.Prelude.{if◌then◌else◌, string_bytes}
use Rattle.std.specs.BTreeSet.{contains_text}
use Rattle.std.specs.Str.{bytes_eq}
use Rattle.std.proofs.lemmas.Map.Text.{btree_set_updates_text}
use Rattle.ll_check.proofs.check_text.add_name.Goals as goal

pub returns-in-Ok-insert-clause-ok : goal.returns-in-Ok-insert-clause-ok
returns-in-Ok-insert-clause-ok c = λ other.
    let before = c.args.names.now in
    let after = c.insert.new.self in
    subst (λ (bytes : List ℕ). contains_text after other
    ≡ (if bytes_eq bytes other then true else contains_text before other)) c.in-Ok.ensures.ok
    (btree_set_updates_text (string_bytes c.in-Ok.name) before after true c.in-Ok-insert.ensures.updates other)
