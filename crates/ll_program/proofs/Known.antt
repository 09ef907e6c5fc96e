-- What a reader has told, and what follows from it.
use Rattle.std.proofs.Common.{◌≡◌, ◌∙◌, ℕ, List, [], Option, None, Some, refl, sym, subst, option_map, is_some, false}
use Rattle.std.proofs.Common.{inl, inr, ◌⊎◌, Result, Ok, Err, true}
use Rattle.std.specs.Prelude.{IfOk, IfSome, slice_get}
use Rattle.std.specs.Io.KnownBytes.{Appends}
use Rattle.std.specs.Str.{IsUtf8}
use Rattle.std.specs.Borrow.{Bor}
use Rattle.ll_program.specs.declared.failure.Failure.{Failure}
use Rattle.ll_program.specs.declared.failure.Failure.TheVariants.{File, NoMemory}
use Rattle.ll_program.specs.declared.options.RunOptions.{RunOptions}
use Rattle.ll_program.specs.declared.tree.TreeOptions.{TreeOptions}
use Rattle.ll_session.specs.declared.setup.Setup.{Setup}
use Rattle.toml.specs.Parse.{parse_document}
use Rattle.ll_policy.specs.Faults.{document_faults}
use Rattle.ll_policy.specs.declared.fault.PolicyFault.{PolicyFault}
use Rattle.ll_policy.specs.declared.fault.PolicyFault.TheVariants as faults
use Rattle.ll_program.specs.Failure.{failure_in}
use Rattle.ll_program.specs.Options.{RunOrder, TreeOrder, order_in, tree_in, tree_of}
use Rattle.ll_policy.specs.Plan.{Plan, IsPlanOf}
use Rattle.ll_program.specs.Policy.{ByLevel, ByPlan, IsPolicy, IsSaved, IsSetBy, IsSetup, Lacks, header_of}
use Rattle.ll_seq.specs.declared.reply.Entry.{Entry}
use Rattle.ll_audit.specs.Saved.{saved_text}
use Rattle.ll_wire.specs.declared.header.Header.{Header}

-- some text that it tells, if it tells any
pub a_text : (o : Option (List ℕ)) → (text : List ℕ) × IfSome o (λ told. text ≡ told)
a_text None = ([], tt)
a_text (Some told) = (told, refl)

pub same_text : (o : Option (List ℕ)) (x y : List ℕ) → x ≡ y → IfSome o (λ told. y ≡ told) → IfSome o (λ told. x ≡ told)
same_text None x y e h = tt
same_text (Some told) x y e h = e ∙ h

-- the file can't be read
pub unread : (order : TreeOrder) (text : List ℕ) (failure : Failure) → (failure ≡ File) ⊎ (failure ≡ NoMemory)
    → Lacks order text failure
unread order text failure (inl e) = subst (Lacks order text) (sym e) tt
unread order text failure (inr e) = subst (Lacks order text) (sym e) tt

-- no policy is asked for
pub set_by_level : (options : TreeOptions) (text : List ℕ) (setup : Setup) → is_some options.policy ≡ false
    → ByLevel (tree_in options) setup
    → IsSetBy (tree_in options).policy (tree_in options) text setup
set_by_level options text setup none by = go options.policy none
  where
    go : (file : Option (Bor (List ℕ))) → is_some file ≡ false
        → IsSetBy (option_map (λ (t : Bor (List ℕ)). t.now) file) (tree_in options) text setup
    go None e = by
    go (Some file) e = absurd cc

-- a policy is asked for
pub set_by_plan : (options : TreeOptions) (text : List ℕ) (told : Option (List ℕ)) (plan : Plan)
    (r : Result Setup Failure) → IfSome told (λ known. text ≡ known) → is_some options.policy ≡ true
    → IsPolicy text → IsPlanOf (parse_document text) plan → IfOk r (λ setup. setup.nodes ≡ options.nodes)
    → IfOk r (λ setup. setup.history ≡ options.history) → IfOk r (ByPlan (tree_in options) plan)
    → IfOk r (λ setup. (x : List ℕ) × IfSome told (λ known. x ≡ known) × IsSetup (tree_in options) x setup)
set_by_plan options text told plan (Err failure) known some right is nodes history by = tt
set_by_plan options text told plan (Ok setup) known some right is nodes history by =
    (text, known, (nodes, history, go options.policy some))
  where
    go : (file : Option (Bor (List ℕ))) → is_some file ≡ true
        → IsSetBy (option_map (λ (t : Bor (List ℕ)). t.now) file) (tree_in options) text setup
    go None e = absurd cc
    go (Some file) e = (right, (plan, is, by))

-- why there is no setup of a run's tree
pub lacking : (order : RunOrder) (tree : TreeOptions) (text : List ℕ) (failure : Failure)
    → tree_in tree ≡ tree_of order → is_some tree.policy ≡ true → Lacks (tree_in tree) text failure
    → (is_some order.policy ≡ true) × Lacks (tree_of order) text failure
lacking order tree text failure is some lacks = (
  subst (λ (o : TreeOrder). is_some o.policy ≡ true) is (go tree.policy some),
  subst (λ (o : TreeOrder). Lacks o text failure) is lacks,
)
  where
    go : (file : Option (Bor (List ℕ))) → is_some file ≡ true
        → is_some (option_map (λ (t : Bor (List ℕ)). t.now) file) ≡ true
    go None e = absurd cc
    go (Some file) e = refl

-- no file is named to save in
pub not_saved : (options : RunOptions) (setup : Setup) (entries : List Entry) (blank old new : Option (List ℕ))
    → is_some options.save ≡ false → new ≡ old → IsSaved (order_in options).save setup entries blank old new
not_saved options setup entries blank old new none same = go options.save none
  where
    go : (file : Option (Bor (List ℕ))) → is_some file ≡ false
        → IsSaved (option_map (λ (t : Bor (List ℕ)). t.now) file) setup entries blank old new
    go None e = same
    go (Some file) e = absurd cc

-- one is
pub is_saved : (options : RunOptions) (setup : Setup) (entries : List Entry) (blank old new : Option (List ℕ))
    (h : Header) → is_some options.save ≡ true → h ≡ header_of setup → Appends blank new (saved_text h entries)
    → IsSaved (order_in options).save setup entries blank old new
is_saved options setup entries blank old new h some is saved = go options.save some
  where
    go : (file : Option (Bor (List ℕ))) → is_some file ≡ true
        → IsSaved (option_map (λ (t : Bor (List ℕ)). t.now) file) setup entries blank old new
    go None e = absurd cc
    go (Some file) e = subst (λ (x : Header). Appends blank new (saved_text x entries)) is saved

-- the text gives no policy
pub not_given : (order : TreeOrder) (text : List ℕ) (fault : PolicyFault) → IsUtf8 text
    → (fault ≡ faults.NoMemory) ⊎ (slice_get (document_faults (parse_document text)) 0 ≡ Some fault)
    → Lacks order text (failure_in fault)
not_given order text faults.NoMemory utf8 h = tt
not_given order text fault utf8 (inl e) = subst (λ (f : PolicyFault). Lacks order text (failure_in f)) (sym e) tt
not_given order text fault utf8 (inr e) = inr (utf8, e)
