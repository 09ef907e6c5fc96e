use Rattle.std.proofs.Common.{◌≡◌, ℕ, List, subst, true}
use Rattle.std.specs.Prelude.{String, if◌then◌else◌}
use Rattle.std.specs.BTreeSet.{BTreeSet, contains_text}
use Rattle.std.specs.Str.{bytes_eq}
use Rattle.std.specs.declared.alloc.Global.{Global}
use Rattle.ll_check.specs.Checks.{reading_of}
use Rattle.ll_check.proofs.SectionNames.{section_named}
use Rattle.ll_check.proofs.check_text.ReadLines.begin_section.Goals as goal

pub returns-clause-named : goal.returns-clause-named
returns-clause-named c =
    section_named c.args.self.now.names c.add_name.new.names (reading_of c.args.self.now)
    (reading_of c.add_section.new.self) c.requires c.args.name.now
    (subst (λ (n : BTreeSet (String Global)). (other : List ℕ) → contains_text c.add_name.new.names other
    ≡ (if bytes_eq c.args.name.now other then true else contains_text n other))
    c.in_ok-add_section.ensures.names c.in_ok-add_name.ensures.ok)
    c.in_ok-add_section.ensures.ok
