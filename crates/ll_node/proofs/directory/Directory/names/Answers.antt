use Rattle.std.specs.Prelude.{◌≡◌, ℕ, List, ◌∷◌, ◌++◌, map, String, string_bytes}
use Rattle.std.proofs.Common.{Global, sym, ap, subst, ◌∙◌}
use Rattle.std.specs.BTreeMap.{keys}
use Rattle.ll_rights.specs.Map.{entries}
use Rattle.ll_seq.specs.Listed.{AreListed}
use Rattle.ll_node.specs.Slot.{NameMap}
use Rattle.ll_node.proofs.NameTable.{names-names_kept}
use Rattle.ll_node.proofs.RisingNames.{keys_listed, listed_first}
use Rattle.ll_node.proofs.directory.Directory.names.Goals as goal

abbrev texts_told : List (String Global) → List (List ℕ)
texts_told texts = map (λ (text : String Global). string_bytes text) texts

abbrev names_told : NameMap → List (List ℕ)
names_told names = map (λ (e : List ℕ × ℕ). e.0) (entries names)

pub loop-text-init : goal.loop-text-init
loop-text-init c =
    ap (λ (told : List (List ℕ)). told ++ texts_told c.into_iter-text-iterator.result) c.new-listing.ensures
    ∙ ap texts_told (c.into_iter-text-iterator.ensures.into_iter_gives ∙ c.keys-text-items.ensures.rest)
    ∙ sym (names-names_kept c.self.inside.rows c.self.invariant)
    ∙ ap names_told c.self.view_is

-- the names so far and this one begin the table's, which are listed
pub push-requires : goal.push-requires
push-requires c =
    let begins : c.loop-text.listing ++ c.in_ok-from_text.field-0 ∷ texts_told c.next.new.self
    ≡ texts_told (keys c.self.inside.rows) =
    ap (λ (name : List ℕ). c.loop-text.listing ++ name ∷ texts_told c.next.new.self) (c.in_ok-from_text.ensures
    ∙ c.as_str.ensures.value)
    ∙ sym (ap (λ (texts : List (String Global)). c.loop-text.listing ++ texts_told texts) c.in-Some.ensures.steps)
    ∙ c.loop-text.invariant
    ∙ sym (ap names_told c.self.view_is)
    ∙ names-names_kept c.self.inside.rows c.self.invariant in
    listed_first c.loop-text.listing c.in_ok-from_text.field-0 (texts_told c.next.new.self)
    (subst AreListed (sym begins) (keys_listed c.self.inside.rows c.keys-text-items.ensures.ordered c.self.invariant))
