use Rattle.std.proofs.Common.{◌≡◌, ◌==◌, ◌++◌, ◌∷◌, [], List, ℕ, false, None, length, sym, ◌∙◌}
use Rattle.std.specs.Str.Pattern.{RFindsChar, SplitsAroundMatch}
use Rattle.ll_path.specs.Path.{Path, path_of_text}
use Rattle.ll_path.proofs.Splits.{cut_at_slashes, rsplit_parts, rsplit_none}
use Rattle.ll_path.proofs.PathLemmas.{path_of_text-cut, front_is_parent, end_is_last_name, end_is_name}
use Rattle.ll_path.proofs.path.Path.split_last.Goals as goal

-- a path that is cut at its last slash, and one that has a single name
at_slash : (path : Path) (joined front last : List ℕ) → path ≡ path_of_text (47 ∷ joined) → (length joined == 0) ≡ false
    → SplitsAroundMatch (RFindsChar 47) joined front last → path ≡ cut_at_slashes front ++ last ∷ []
at_slash path joined front last e some h = e ∙ path_of_text-cut joined some ∙ rsplit_parts joined front last h

single : (path : Path) (joined : List ℕ) → path ≡ path_of_text (47 ∷ joined) → (length joined == 0) ≡ false
    → RFindsChar 47 joined None → path ≡ joined ∷ []
single path joined e some h = e ∙ path_of_text-cut joined some ∙ rsplit_none joined h

pub returns-in-Some-clause-whole : goal.returns-in-Some-clause-whole
returns-in-Some-clause-whole c =
    rw c.between_slashes.ensures (at_slash _ _ _ _ c.joined-joined.ensures.names (sym c.is_empty.ensures
    ∙ c.if-is_empty.false) c.in-Some.ensures.cases)

pub returns-in-Some-clause-parent : goal.returns-in-Some-clause-parent
returns-in-Some-clause-parent c =
    c.between_slashes.ensures ∙ front_is_parent _ _ _
    (at_slash _ _ _ _ c.joined-joined.ensures.names (sym c.is_empty.ensures ∙ c.if-is_empty.false)
    c.in-Some.ensures.cases)

pub returns-in-Some-clause-last : goal.returns-in-Some-clause-last
returns-in-Some-clause-last c =
    end_is_last_name _ _ _ (at_slash _ _ _ _ c.joined-joined.ensures.names (sym c.is_empty.ensures
    ∙ c.if-is_empty.false) c.in-Some.ensures.cases)

pub returns-in-Some-clause-name : goal.returns-in-Some-clause-name
returns-in-Some-clause-name c =
    end_is_name _ _ _ (at_slash _ _ _ _ c.joined-joined.ensures.names (sym c.is_empty.ensures ∙ c.if-is_empty.false)
    c.in-Some.ensures.cases) c.joined-joined.ensures.each

pub returns-in-None-clause-whole : goal.returns-in-None-clause-whole
returns-in-None-clause-whole c =
    rw c.none.ensures (single _ _ c.joined-joined.ensures.names (sym c.is_empty.ensures ∙ c.if-is_empty.false)
    c.in-None.ensures.cases)

pub returns-in-None-clause-parent : goal.returns-in-None-clause-parent
returns-in-None-clause-parent c =
    c.none.ensures ∙ front_is_parent _ [] _
    (single _ _ c.joined-joined.ensures.names (sym c.is_empty.ensures ∙ c.if-is_empty.false)
    c.in-None.ensures.cases)

pub returns-in-None-clause-last : goal.returns-in-None-clause-last
returns-in-None-clause-last c =
    end_is_last_name _ [] _ (single _ _ c.joined-joined.ensures.names (sym c.is_empty.ensures ∙ c.if-is_empty.false)
    c.in-None.ensures.cases)

pub returns-in-None-clause-name : goal.returns-in-None-clause-name
returns-in-None-clause-name c =
    end_is_name _ [] _ (single _ _ c.joined-joined.ensures.names (sym c.is_empty.ensures ∙ c.if-is_empty.false)
    c.in-None.ensures.cases) c.joined-joined.ensures.each
