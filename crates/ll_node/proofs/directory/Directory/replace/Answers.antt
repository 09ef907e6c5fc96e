use Rattle.std.specs.Prelude.{◌≡◌, ℕ, List, None, Some}
use Rattle.std.specs.Option.{option_map_or}
use Rattle.std.proofs.Common.{sym, ap, ◌∙◌, rules}
use Rattle.ll_rights.specs.Map.{get, insert}
use Rattle.ll_node.specs.Slot.{NameMap, replaced}
use Rattle.ll_node.specs.Rows.{names_kept}
use Rattle.ll_node.proofs.NameTable.{get-names_kept, names_kept-insert, AreRows-same_keys}
use Rattle.ll_node.proofs.directory.Directory.replace.Goals as goal

replaced_there : (names : NameMap) (name : List ℕ) (inode old : ℕ) → Some old ≡ get names name
    → insert names name inode ≡ replaced names name inode
replaced_there names name inode old there = ap (λ o. option_map_or (λ (_ : ℕ). insert names name inode) o names) there

replaced_missing : (names : NameMap) (name : List ℕ) (inode : ℕ) → None ≡ get names name
    → names ≡ replaced names name inode
replaced_missing names name inode missing = ap (λ o. option_map_or (λ (_ : ℕ). insert names name inode) o names) missing

pub returns-in_err-place-clause-found : goal.returns-in_err-place-clause-found
returns-in_err-place-clause-found c =
    c.from_residual.ensures ∙ c.in_err-place.ensures.value
    ∙ sym (get-names_kept c.self.inside.rows c.args.name.now c.self.invariant)
    ∙ ap (λ (names : NameMap). get names c.args.name.now) c.self.view_is

pub returns-in_err-place-clause-now : goal.returns-in_err-place-clause-now
returns-in_err-place-clause-now c =
    ap names_kept c.get_mut.follows.holds-at-none ∙ c.self.view_is
    ∙ replaced_missing c.args.self.now c.args.name.now c.args.inode
    (c.in_err-place.ensures.value ∙ sym (get-names_kept c.self.inside.rows c.args.name.now c.self.invariant)
    ∙ ap (λ (names : NameMap). get names c.args.name.now) c.self.view_is)

pub invariant_of-self-2 : goal.invariant_of-self-2
invariant_of-self-2 c =
    let wrote = c.get_mut.follows.holds c.args.inode in
    AreRows-same_keys c.self.inside.rows (c.get_mut.follows.lender c.args.inode) wrote.1 wrote.4 c.self.invariant

pub returns-clause-found : goal.returns-clause-found
returns-clause-found c =
    c.in_ok-place.ensures.value
    ∙ sym (get-names_kept c.self.inside.rows c.args.name.now c.self.invariant)
    ∙ ap (λ (names : NameMap). get names c.args.name.now) c.self.view_is

pub returns-clause-now : goal.returns-clause-now
returns-clause-now c =
    let wrote = c.get_mut.follows.holds c.args.inode in
    names_kept-insert c.self.inside.rows (c.get_mut.follows.lender c.args.inode) c.args.name.now c.self.invariant
    (invariant_of-self-2 c) c.args.inode (wrote.3 (search rules))
    ∙ ap (λ (names : NameMap). insert names c.args.name.now c.args.inode) c.self.view_is
    ∙ replaced_there c.args.self.now c.args.name.now c.args.inode c.in_ok-place.place.now (returns-clause-found c)
