-- A tree that was closed with the clients of all streams.
use Rattle.std.specs.Prelude.{◌≡◌, ◌≤◌, ℕ, List, ◌++◌, map}
use Rattle.std.specs.List.{All}
use Rattle.std.proofs.Common.{ap, arith, subst, sym, ◌∙◌}
use Rattle.std.proofs.lemmas.List.{map-append}
use Rattle.ll_client.specs.Closed.{IsClosed}
use Rattle.ll_client.specs.Entries.{Knows}
use Rattle.ll_seq.specs.declared.reply.Entry.{Entry}
use Rattle.ll_seq.specs.declared.rules.Rules.{Rules}
use Rattle.ll_session.specs.declared.setup.Setup.{Setup}
use Rattle.ll_commands.specs.Loader.{HasLoaded, entry_count}
use Rattle.ll_commands.specs.Service.{IsServed}
use Rattle.ll_commands.proofs.First.{seen_within}
use Rattle.ll_commands.proofs.Loadings.{served}

module _ {A : Type 0} (rider : A → Knows) where
  -- others came after these
  pub with_others : (rules : Rules) (room limit : ℕ) (entries : List Entry) (first others all : List A)
      → all ≡ first ++ others → IsClosed rules room limit entries (map rider all)
      → (ks : List Knows) × IsClosed rules room limit entries (map rider first ++ ks)
  with_others rules room limit entries first others all is c = (
    map rider others,
    subst (IsClosed rules room limit entries) (ap (map rider) is ∙ map-append rider first others) c,
  )

  -- the first are the loader's, who knows of no more entries than its own
  pub hosted : (setup : Setup) (rules : Rules) (limit count : ℕ) (party : List Knows) (first seen : List A)
      (entries : List Entry) → rules ≡ setup.rules → limit ≡ setup.history → HasLoaded limit setup.loader party
      → map rider first ≡ party → seen ≡ first → All (λ (x : A). (rider x).seen ≤ count) seen
      → count ≤ entry_count setup.loader
      → (ks : List Knows) × IsClosed rules setup.nodes limit entries (map rider first ++ ks) → IsServed setup entries
  hosted setup rules limit count party first seen entries same most loaded are is low within it =
      let known = seen_within rider first count (subst (All (λ (x : A). (rider x).seen ≤ count)) is low) in
      served setup rules limit (map rider first) entries same most
      (subst (HasLoaded limit setup.loader) (sym are) loaded) (omega (arith, known, within)) it
