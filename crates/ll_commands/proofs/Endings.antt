-- How serving ends: well, or by a failure.
use Rattle.std.specs.Prelude.{◌≡◌, ℕ, List, Option, None, Some, IfSome, OnOk, Result, Ok, Err, is_some, option_map}
use Rattle.std.specs.Prelude.{IfErr, OnErr, false, refl, true}
use Rattle.std.specs.Borrow.{Bor}
use Rattle.std.specs.Io.KnownBytes.{Appends}
use Rattle.std.proofs.Common.{inl, inr, subst, sym, ◌∙◌}
use Rattle.ll_program.specs.Options.{ServeOrder, served_in, served_tree}
use Rattle.ll_program.specs.declared.serve.ServeOptions.{ServeOptions}
use Rattle.ll_program.specs.Failure.{IsOfSaving}
use Rattle.ll_program.specs.Policy.{IsSaved, IsSetup, Lacks, header_of}
use Rattle.ll_program.specs.declared.failure.Failure.{Failure}
use Rattle.ll_audit.specs.Saved.{saved_text}
use Rattle.ll_seq.specs.declared.reply.Entry.{Entry}
use Rattle.ll_session.specs.declared.setup.Setup.{Setup}
use Rattle.ll_wire.specs.declared.header.Header.{Header}
use Rattle.ll_commands.specs.Service.{IsDone, IsServed, MayFail, MayStop, listening}

-- ---- the names of files

abbrev bytes_of : Option (Bor (List ℕ)) → Option (List ℕ)
bytes_of name = option_map (λ (t : Bor (List ℕ)). t.now) name

named : (name : Option (Bor (List ℕ))) → is_some (bytes_of name) ≡ is_some name
named None = refl
named (Some t) = refl

-- no file is named
not_saved : (setup : Setup) (entries : List Entry) (save : Option (Bor (List ℕ))) (blank file : Option (List ℕ))
    → is_some save ≡ false → IsSaved (bytes_of save) setup entries blank file file
not_saved setup entries None blank file none = refl
not_saved setup entries (Some name) blank file none = absurd (cc none)

-- one is
is_saved : (setup : Setup) (entries : List Entry) (save : Option (Bor (List ℕ))) (blank file file' : Option (List ℕ))
    (h : Header) → is_some save ≡ true → h ≡ header_of setup → Appends blank file' (saved_text h entries)
    → IsSaved (bytes_of save) setup entries blank file file'
is_saved setup entries None blank file file' h some is saved = absurd (cc some)
is_saved setup entries (Some name) blank file file' h some is saved =
    subst (λ (x : Header). Appends blank file' (saved_text x entries)) is saved

-- ---- by the options, and the text that the policy's file tells

module _ (options : ServeOptions) (policy : Option (List ℕ)) where
  abbrev Told : (List ℕ → Type 0) → Type 0
  Told Holds = (text : List ℕ) × IfSome policy (λ told. text ≡ told) × Holds text

  abbrev order : ServeOrder
  order = served_in options

  pub unset : (out file : Option (List ℕ)) (failure : Failure) → is_some options.tree.policy ≡ true
      → Told (λ text. Lacks (served_tree order) text failure)
      → Told (λ text. MayFail order text out out file file failure)
  unset out file failure some lacks =
      (lacks.0, lacks.1, inl (named options.tree.policy ∙ some, lacks.2, refl, refl))

  module _ (setup : Setup) (set : Told (λ text. IsSetup (served_tree order) text setup)) where
    pub unserved : (out out' file file' : Option (List ℕ)) (failure : Failure)
        → MayStop setup options.port out out' failure → file' ≡ file
        → Told (λ text. MayFail order text out out' file file' failure)
    unserved out out' file file' failure stops same = (set.0, set.1, inr (inl (setup, set.2, stops, same)))

    module _ (out out' file file' : Option (List ℕ)) (told : Appends out out' (listening options.port)) where
      pub unsaved : {T : Type 0} (r : Result T Failure) → is_some options.save ≡ true → IfErr r IsOfSaving
          → OnErr r (file' ≡ file)
          → IfErr r (λ failure. Told (λ text. MayFail order text out out' file file' failure))
      unsaved (Ok value) some saving same = tt
      unsaved (Err failure) some saving same =
          (set.0, set.1, inr (inr (named options.save ∙ some, saving, setup, set.2, told, same)))

      module _ (blank : Option (List ℕ)) (entries : List Entry) (served : IsServed setup entries) where
        pub done : is_some options.save ≡ false → file' ≡ file
            → Told (λ text. IsDone order text out out' blank file file')
        done none same = (
          set.0,
          set.1,
          (
            setup,
            entries,
            set.2,
            served,
            told,
            subst (λ (f : Option (List ℕ)). IsSaved (bytes_of options.save) setup entries blank file f) (sym same)
                (not_saved setup entries options.save blank file none),
          ),
        )

        pub saved : {T E : Type 0} (r : Result T E) (h : Header) → is_some options.save ≡ true → h ≡ header_of setup
            → OnOk r (Appends blank file' (saved_text h entries))
            → OnOk r (Told (λ text. IsDone order text out out' blank file file'))
        saved (Ok value) h some header it = (
          set.0,
          set.1,
          (
            setup,
            entries,
            set.2,
            served,
            told,
            is_saved setup entries options.save blank file file' h some header it,
          ),
        )
        saved (Err fault) h some header it = tt
