use Rattle.std.proofs.Common.{◌≡◌, None, codes, inl, inr, sym, ap, ◌∙◌, rules}
use Rattle.toml.specs.Data.{get_member, as_str}
use Rattle.toml.specs.View.{table_view}
use Rattle.ll_rights.specs.Kind.{kind_text}
use Rattle.ll_policy.specs.declared.fault.PolicyFault.TheVariants.{BadData}
use Rattle.ll_policy.specs.Faults.{optional}
use Rattle.ll_policy.specs.Value.{is_data}
use Rattle.ll_policy.proofs.HexDigits.{bytes_of_nothing, decodes}
use Rattle.ll_policy.proofs.values.data.Goals as goal

pub returns-in_default : goal.returns-in_default
returns-in_default c =
    let none : get_member (codes "data") (table_view c.args.table.now) ≡ None = search rules in (
      ap (optional as_str (is_data (kind_text c.args.kind)) BadData) none,
      c.new.ensures.items
          ∙ sym (bytes_of_nothing (codes "data") (table_view c.args.table.now) none),
    )

pub unreachable-requires : goal.unreachable-requires
unreachable-requires c =
    let text = c.in-Some-as_str.digits.now in
    elim c.in-Err.ensures.err [
      | inl memory ↦ c.in_default-error.not-OutOfMemory memory
      | inr refused ↦ cc (sym refused ∙ (decodes text (sym c.if-not-are_bytes.ensures)).1)
    ]
