use Rattle.std.specs.Prelude.{◌≡◌, ℕ, ◌<◌, ◌≤◌, ◌+◌, ◌&&◌, not, List, [], ◌∷◌, ◌++◌, length, take, Some, slice_get}
use Rattle.std.proofs.Common.{ap, arith, sym, subst, ◌∙◌, length-append}
use Rattle.ll_rights.specs.Access.{holds}
use Rattle.ll_rules.specs.Layer.{has_rule, restricts, grants_on}
use Rattle.ll_rules.proofs.Grants.{grants_on-push}
use Rattle.ll_why.specs.declared.grants.Ruled.{Ruled}
use Rattle.ll_why.specs.Grants.{is_first}
use Rattle.ll_why.proofs.Sets.{at_push, by_rule, front_get, front_take, last_get, last_take, still_missing}
use Rattle.ll_why.proofs.grants.Grants.down.Goals as goal

pub returns : goal.returns
returns c inodes rights old =
    let layer = c.args.layer.now in
    let inode = c.args.inode in
    let before = c.args.self.ruled.items in
    let here = c.rule_grants-here.result in
    let new : Ruled = record { inode = inode; rights = here } in
    let now : List ℕ = inodes ++ inode ∷ [] in
    let holds_here : (right : ℕ) → right < 15 → holds here.0 right
    ≡ ((holds rights right && not (grants_on layer inodes right)) && has_rule layer right inode) =
    λ right known. c.rule_grants-here.ensures.rights right known
    ∙ ap (λ b. b && has_rule layer right inode) (old.missing right known) in
    let Says : ℕ → Ruled → Type 0 = λ place r.
    (slice_get now place ≡ Some r.inode) × (r.rights.0 ≤ rights)
    × ((right : ℕ) → right < 15 → holds r.rights.0 right
    ≡ ((holds rights right && restricts layer right) && is_first layer (take place now) r.inode right)) in
    let earlier : (place : ℕ) (r : Ruled) → slice_get before place ≡ Some r → Says place r = λ place r at.
    let was = old.ruled place r at in (
      front_get inodes (inode ∷ []) place r.inode was.0,
      was.1,
      λ right known. was.2 right known
          ∙ ap (λ ns. (holds rights right && restricts layer right) && is_first layer ns r.inode right)
          (sym (front_take inodes (inode ∷ []) place r.inode was.0)),
    ) in
    let last : Says (length inodes) new = (
      last_get inodes inode,
      omega (arith, c.rule_grants-here.ensures.fewer, old.fewer.1),
      λ right known. holds_here right known
          ∙ by_rule layer inodes rights inode right
          ∙ ap (λ ns. (holds rights right && restricts layer right) && is_first layer ns inode right)
          (sym (last_take inodes inode)),
    ) in
    record {
      fewer = (old.fewer.0, omega (arith, c.without-missing.ensures.fewer, old.fewer.1));
      free = old.free;
      missing = λ right known.
          c.without-missing.ensures.rights right known
          ∙ ap (λ b. b && not (holds here.0 right)) (old.missing right known)
          ∙ ap (λ b. (holds rights right && not (grants_on layer inodes right)) && not b) (holds_here right known)
          ∙ still_missing (holds rights right) (grants_on layer inodes right) (has_rule layer right inode)
          ∙ ap (λ b. holds rights right && not b) (sym (grants_on-push layer inodes inode right));
      places = ap length c.in_ok-push_rule.ensures ∙ length-append before (new ∷ []) ∙ ap (λ n. n + 1) old.places
          ∙ sym (length-append inodes (inode ∷ []));
      ruled = λ place r at. at_push before new Says earlier (subst (λ n. Says n new) (sym old.places) last) place r
          (ap (λ l. slice_get l place) (sym c.in_ok-push_rule.ensures) ∙ at);
    }
