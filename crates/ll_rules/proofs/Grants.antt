-- What a layer grants on a chain of inodes.
use Rattle.std.specs.Prelude.{◌≡◌, ℕ, Bool, true, false, not, ◌||◌, List, [], ◌∷◌, ◌++◌, refl}
use Rattle.std.specs.List.{list_any}
use Rattle.std.proofs.Common.{ap, ◌∙◌}
use Rattle.std.proofs.lemmas.List.Folds.{list_any-append}
use Rattle.ll_rules.specs.Layer.{Layer, has_rule, restricts, grants_on}

or-false : (b : Bool) → (b || false) ≡ b
or-false true = refl
or-false false = refl

or-assoc : (a b c : Bool) → (a || (b || c)) ≡ ((a || b) || c)
or-assoc true b c = refl
or-assoc false b c = refl

pub grants_on-none : (layer : Layer) (right : ℕ) → grants_on layer [] right ≡ not (restricts layer right)
grants_on-none layer right = or-false (not (restricts layer right))

-- with one inode more at the end of the chain
pub grants_on-push : (layer : Layer) (inodes : List ℕ) (inode right : ℕ)
    → grants_on layer (inodes ++ inode ∷ []) right ≡ (grants_on layer inodes right || has_rule layer right inode)
grants_on-push layer inodes inode right =
    ap (λ b. not (restricts layer right) || b) (list_any-append (has_rule layer right) inodes (inode ∷ [])
    ∙ ap (λ b. list_any (has_rule layer right) inodes || b) (or-false (has_rule layer right inode)))
    ∙ or-assoc (not (restricts layer right)) (list_any (has_rule layer right) inodes) (has_rule layer right inode)
