-- Files of checks that the words name.
use Rattle.std.proofs.Common.{◌≡◌, ◌∙◌, ◌<◌, ◌+◌, ◌⊎◌, ℕ, List, [], ◌∷◌, ◌++◌, length, map, take, get_or, Option}
use Rattle.std.proofs.Common.{Bool, true, false, Some, None, Result, Ok, Err, refl, sym, ap, subst, inl, inr}
use Rattle.std.specs.Prelude.{IfErr, IfOk, IfSome, OnOk}
use Rattle.std.specs.List.{All, AllZip}
use Rattle.std.specs.Borrow.{Bor}
use Rattle.std.proofs.lemmas.List.{map-append, take_more}
use Rattle.std.proofs.lemmas.List.Elements.{All-nil, All-push}
use Rattle.ll_wire.specs.Transcript.{Writes}
use Rattle.ll_program.specs.Options.{CheckOrder, ExportOrder}
use Rattle.ll_program.specs.declared.checked.Checked.{Checked}
use Rattle.ll_program.specs.declared.checked.Checked.TheVariants as checked
use Rattle.ll_program.specs.declared.conclusion.Conclusion.{Conclusion}
use Rattle.ll_program.specs.declared.failure.Failure.{Failure}
use Rattle.ll_program.specs.declared.failure.Failure.TheVariants as failure
use Rattle.ll_program.specs.Sources.{named, text_in}
use Rattle.ll_check.specs.declared.checks.NamedText.{NamedText}
use Rattle.ll_check.specs.Ends.{BeginsCheck, FailsCheck, IsCheckBy, IsCheckOf, IsCheckedUnder, IsPolicySource}
use Rattle.ll_check.specs.Ends.{IsPolicyText, IsSource, MayFailBy}
use Rattle.ll_check.specs.Files.{HasBegun, IsCheck, MayFail, Source, source_of}
use Rattle.ll_check.specs.Races.{IsRaceCheck}
use Rattle.ll_check.proofs.Told.{each_more}
use Rattle.ll_commands.specs.Export.{IsExport, ended_by}
use Rattle.landtree.specs.Checked.{EndsChecked, check_of}

module _ (texts : Option (List ℕ) → Option (List ℕ)) where
  -- one file more
  pub source_more : (names : List (Bor (List ℕ))) (i : ℕ) (files : List NamedText) (other : Bor (List ℕ))
      (file : NamedText) → i < length names
      → AllZip (IsSource texts) (map (λ n. n.now) (take i names)) (map source_of files)
      → IsSource texts (get_or names i other).now (source_of file)
      → AllZip (IsSource texts) (map (λ n. n.now) (take (i + 1) names)) (map source_of (files ++ file ∷ []))
  source_more names i files other file below so more =
      let name : Bor (List ℕ) = get_or names i other in
      let fronts : List (List ℕ) = map (λ (n : Bor (List ℕ)). n.now) (take i names) in
      let front : map (λ (n : Bor (List ℕ)). n.now) (take (i + 1) names) ≡ fronts ++ name.now ∷ [] =
      ap (map (λ (n : Bor (List ℕ)). n.now)) (take_more names i other below)
      ∙ map-append (λ (n : Bor (List ℕ)). n.now) (take i names) (name ∷ []) in
      let back : map source_of (files ++ file ∷ []) ≡ map source_of files ++ source_of file ∷ [] =
      map-append source_of files (file ∷ []) in
      subst (λ (xs : List (List ℕ)). AllZip (IsSource texts) xs (map source_of (files ++ file ∷ []))) (sym front)
      (subst (AllZip (IsSource texts) (fronts ++ name.now ∷ [])) (sym back)
      (each_more (IsSource texts) fronts (map source_of files) name.now (source_of file) so more))

  -- what is checked of these files, whose sections name these policies, is a check of the names
  module _ (order : CheckOrder) (names : List (List ℕ)) (policy told : List ℕ) (files all : List NamedText)
      (ordered : names ≡ order.files) (are : AllZip (IsSource texts) names (map source_of files)) (same : all ≡ files)
      (so : told ≡ policy) where
    sources_are : AllZip (IsSource texts) order.files (map source_of files)
    sources_are = subst (λ xs. AllZip (IsSource texts) xs (map source_of files)) ordered are

    checked_of : (policies : List Source) (end : Checked) (written : List ℕ) → All (IsPolicySource texts) policies
        → IsCheckBy order.schedule order told policies (map source_of all) end written
        → IsCheckOf texts order policy end written
    checked_of policies end written given done = (
      policies,
      map source_of files,
      given,
      sources_are,
      subst (λ (x : List NamedText). IsCheckBy order.schedule order policy policies (map source_of x) end written) same
          (subst (λ (p : List ℕ). IsCheckBy order.schedule order p policies (map source_of all) end written) so done),
    )

    abbrev IsChecked : (old new : Option (List ℕ)) → Result Checked Failure → Type 0
    IsChecked old new r = IfOk r (λ end. (policies : List Source) × All (IsPolicySource texts) policies
        × Writes old new (IsCheckBy order.schedule order told policies (map source_of all) end))

    -- by no policies of sections
    pub checked_under : (r : Result Checked Failure)
        → IfOk r (λ end. (written : List ℕ) × IsCheck order told [] (map source_of all) end written)
        → IfOk r (IsCheckedUnder texts order policy)
    checked_under (Err failure) done = tt
    checked_under (Ok end) done = (
      map source_of files,
      done.0,
      sources_are,
      subst (λ (x : List NamedText). IsCheck order policy [] (map source_of x) end done.0) same
          (subst (λ (p : List ℕ). IsCheck order p [] (map source_of all) end done.0) so done.1),
    )

    pub checked_written : (old new : Option (List ℕ)) (r : Result Checked Failure)
        → IsPolicyText texts order.policy policy → IsChecked old new r
        → IfOk r (λ end. (policy : List ℕ) × IsPolicyText texts order.policy policy
        × Writes old new (IsCheckOf texts order policy end))
    checked_written old new (Err failure) known done = tt
    checked_written old new (Ok end) known done = (
      policy,
      known,
      (done.2.0, checked_of done.0 end done.2.0 done.1 done.2.1, done.2.2),
    )

    fails_by : (policies : List Source) (why : Failure) → IsPolicyText texts order.policy policy
        → All (IsPolicySource texts) policies → MayFailBy order.schedule order policy policies (map source_of files) why
        → FailsCheck texts order why
    fails_by policies failure.File known given may = tt
    fails_by policies why known given may = (policy, policies, map source_of files, known, given, sources_are, may)

    pub failed_by : (r : Result Checked Failure) → IsPolicyText texts order.policy policy
        → IfErr r (λ why. (why ≡ failure.File) ⊎ ((policies : List Source) × All (IsPolicySource texts) policies
        × MayFailBy order.schedule order told policies (map source_of all) why)) → IfErr r (FailsCheck texts order)
    failed_by (Ok end) known may = tt
    failed_by (Err why) known (inl e) = subst (FailsCheck texts order) (sym e) tt
    failed_by (Err why) known (inr may) = fails_by may.0 why known may.1
        (subst (λ (x : List NamedText). MayFailBy order.schedule order policy may.0 (map source_of x) why) same
        (subst (λ (p : List ℕ). MayFailBy order.schedule order p may.0 (map source_of all) why) so may.2))

    pub begun_written : (old new : Option (List ℕ)) (r : Result Checked Failure)
        → IsPolicyText texts order.policy policy
        → IfErr r (λ why. (policies : List Source) × All (IsPolicySource texts) policies
        × HasBegun (IsCheckBy order.schedule order told policies (map source_of all)) old new why)
        → IfErr r (BeginsCheck texts order old new)
    begun_written old new (Ok end) known begun = tt
    begun_written old new (Err why) known begun = (policy, known, go begun.2)
      where
        go : HasBegun (IsCheckBy order.schedule order told begun.0 (map source_of all)) old new why
            → HasBegun (IsCheckOf texts order policy) old new why
        go (inl none) = inl none
        go (inr some) =
            inr (some.0, some.1, some.2, checked_of begun.0 some.1 some.2 begun.1 some.3, some.4)

  a_text : (o : Option (List ℕ)) → (text : List ℕ) × IfSome o (λ told. text ≡ told)
  a_text None = ([], tt)
  a_text (Some told) = (told, refl)

  -- files with these names
  some_sources : (names : List (List ℕ)) → (sources : List Source) × AllZip (IsSource texts) names sources
  some_sources [] = ([], tt)
  some_sources (name ∷ names) =
      let text = a_text (texts (named name)) in
      let rest = some_sources names in
      (record { name = name; text = text.0 } ∷ rest.0, ((refl, text.1), rest.1))

  no_memory : (schedule : Bool) (order : CheckOrder) (policy : List ℕ) (policies sources : List Source)
      → MayFailBy schedule order policy policies sources failure.NoMemory
  no_memory false order policy policies sources = inr refl
  no_memory true order policy policies sources = inr refl

  -- a file can't be read
  pub unread : (order : CheckOrder) (why : Failure) → (why ≡ failure.File) ⊎ (why ≡ failure.NoMemory)
      → FailsCheck texts order why
  unread order why (inl e) = subst (FailsCheck texts order) (sym e) tt
  unread order why (inr e) =
      let known = a_text (text_in texts order.policy) in
      let some = some_sources order.files in
      subst (FailsCheck texts order) (sym e) (
        known.0,
        [],
        some.0,
        known.1,
        All-nil (IsPolicySource texts),
        some.1,
        no_memory order.schedule order known.0 [] some.0,
      )

  -- nothing is written, or what was begun of the report
  pub none_written : (order : CheckOrder) (out : Option (List ℕ)) (why : Failure)
      → BeginsCheck texts order out out why
  none_written order out why = let known = a_text (text_in texts order.policy) in (known.0, known.1, inl refl)

  -- the policies can't be read
  pub no_policies : (order : CheckOrder) (policy : List ℕ) (sources : List Source) (why : Failure)
      → (why ≡ failure.File) ⊎ (why ≡ failure.NoMemory)
      → (why ≡ failure.File) ⊎ ((policies : List Source) × All (IsPolicySource texts) policies
      × MayFail order policy policies sources why)
  no_policies order policy sources why (inl e) = inl e
  no_policies order policy sources why (inr e) = inr ([], All-nil (IsPolicySource texts), inr e)

  pub none_begun : (order : CheckOrder) (policy : List ℕ) (sources : List Source) (out : Option (List ℕ))
      (why : Failure) → (policies : List Source) × All (IsPolicySource texts) policies
      × HasBegun (IsCheck order policy policies sources) out out why
  none_begun order policy sources out why = ([], All-nil (IsPolicySource texts), inl refl)

  -- one policy more
  pub policy_more : (policies all : List NamedText) (policy : NamedText)
      → All (IsPolicySource texts) (map source_of policies) → IsPolicySource texts (source_of policy)
      → all ≡ policies ++ policy ∷ [] → All (IsPolicySource texts) (map source_of all)
  policy_more policies all policy are is more =
      subst (All (IsPolicySource texts))
      (sym (ap (map source_of) more ∙ map-append source_of policies (policy ∷ [])))
      (All-push (IsPolicySource texts) (map source_of policies) (source_of policy) are is)

  -- a check by the policies that were read
  module _ (order : CheckOrder) (policy : List ℕ) (sources : List Source) (policies all : List NamedText)
      (are : All (IsPolicySource texts) (map source_of policies)) (same : all ≡ policies) where
    pub by_policies : (old new : Option (List ℕ)) (r : Result Checked Failure)
        → IfOk r (λ end. Writes old new (IsCheck order policy (map source_of all) sources end))
        → IfOk r (λ end. (policies : List Source) × All (IsPolicySource texts) policies
        × Writes old new (IsCheck order policy policies sources end))
    by_policies old new (Err why) done = tt
    by_policies old new (Ok end) done = (
      map source_of policies,
      are,
      subst (λ (x : List NamedText). Writes old new (IsCheck order policy (map source_of x) sources end)) same done,
    )

    pub fails_with : (r : Result Checked Failure) → IfErr r (MayFail order policy (map source_of all) sources)
        → IfErr r (λ why. (why ≡ failure.File) ⊎ ((policies : List Source) × All (IsPolicySource texts) policies
        × MayFail order policy policies sources why))
    fails_with (Ok end) may = tt
    fails_with (Err why) may = inr (
      map source_of policies,
      are,
      subst (λ (x : List NamedText). MayFail order policy (map source_of x) sources why) same may,
    )

    pub begun_with : (old new : Option (List ℕ)) (r : Result Checked Failure)
        → IfErr r (HasBegun (IsCheck order policy (map source_of all) sources) old new)
        → IfErr r (λ why. (policies : List Source) × All (IsPolicySource texts) policies
        × HasBegun (IsCheck order policy policies sources) old new why)
    begun_with old new (Ok end) begun = tt
    begun_with old new (Err why) begun = (
      map source_of policies,
      are,
      subst (λ (x : List NamedText). HasBegun (IsCheck order policy (map source_of x) sources) old new why) same begun,
    )

  -- what is begun of files that are no schedules
  pub files_begun : (order : CheckOrder) (policy : List ℕ) (sources : List Source) (old new : Option (List ℕ))
      (r : Result Checked Failure) (schedule : Bool) → schedule ≡ false
      → IfErr r (λ why. (policies : List Source) × All (IsPolicySource texts) policies
      × HasBegun (IsCheck order policy policies sources) old new why)
      → IfErr r (λ why. (policies : List Source) × All (IsPolicySource texts) policies
      × HasBegun (IsCheckBy schedule order policy policies sources) old new why)
  files_begun order policy sources old new r false is begun = begun
  files_begun order policy sources old new r true is begun = absurd (cc is)

  -- what is begun of schedules, which name no policies
  pub races_begun : (order : CheckOrder) (policy : List ℕ) (sources : List Source) (old new : Option (List ℕ))
      (r : Result Checked Failure) (schedule : Bool) → schedule ≡ true
      → IfErr r (HasBegun (IsRaceCheck order sources) old new)
      → IfErr r (λ why. (policies : List Source) × All (IsPolicySource texts) policies
      × HasBegun (IsCheckBy schedule order policy policies sources) old new why)
  races_begun order policy sources old new (Ok end) true is begun = tt
  races_begun order policy sources old new (Err why) true is begun = ([], All-nil (IsPolicySource texts), begun)
  races_begun order policy sources old new r false is begun = absurd (cc is)

  -- what is exported was checked
  pub exported : (order : ExportOrder) (policy told : List ℕ) (end : Checked) (out out' : Option (List ℕ))
      (r : Result Conclusion Failure) → told ≡ policy → IsPolicyText texts (Some order.policy) policy
      → IsCheckedUnder texts (check_of order) policy end → IfOk r (λ it. it ≡ ended_by end)
      → OnOk r (end ≡ checked.Passed → (text : List ℕ) × (text ≡ told) × Writes out out' (IsExport order text))
      → EndsChecked texts order out out' r
  exported order policy told end out out' (Err why) so known is e done = tt
  exported order policy told checked.Passed out out' (Ok it) so known is e done =
      let text = done refl in
      subst (λ (x : Conclusion). EndsChecked texts order out out' (Ok x)) (sym e)
      (policy, known, is, subst (λ t. Writes out out' (IsExport order t)) (text.1 ∙ so) text.2)
  exported order policy told checked.Failed out out' (Ok it) so known is e done =
      subst (λ (x : Conclusion). EndsChecked texts order out out' (Ok x)) (sym e)
      (policy, known, is, (λ same. absurd cc))
  exported order policy told checked.BadLine out out' (Ok it) so known is e done =
      subst (λ (x : Conclusion). EndsChecked texts order out out' (Ok x)) (sym e)
      (policy, known, is, (λ same. absurd cc))
