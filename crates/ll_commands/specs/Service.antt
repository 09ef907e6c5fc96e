-- Serving on a tree: what is written, what is saved, and how it may fail. own
use Rattle.std.specs.Prelude.{◌≡◌, ◌⊎◌, ℕ, List, [], ◌∷◌, ◌++◌, Option, true, false, codes, decimal, is_some}
use Rattle.std.specs.Prelude.{IfSome, Result, Ok, Err}
use Rattle.std.specs.Io.KnownBytes.{Appends}
use Rattle.std.specs.declared.alloc.Global.{Global}
use Rattle.std.specs.declared.vec.Vec.{Vec}
use Rattle.ll_client.specs.Closed.{IsClosed}
use Rattle.ll_client.specs.Entries.{Knows}
use Rattle.ll_program.specs.Options.{ServeOrder, served_tree}
use Rattle.ll_program.specs.Failure.{IsOfBeginning, IsOfSaving}
use Rattle.ll_program.specs.Policy.{IsSaved, IsSetup, Lacks}
use Rattle.ll_program.specs.Sources.{text_in}
use Rattle.ll_program.specs.declared.conclusion.Conclusion.{Conclusion}
use Rattle.ll_program.specs.declared.conclusion.Conclusion.TheVariants.{Checked, Differs, Done, Judged, Stopped}
use Rattle.ll_program.specs.declared.failure.Failure.{Failure}
use Rattle.ll_program.specs.declared.failure.Failure.TheVariants.{CommandLine, Policy, Opening, File, Output, Socket}
use Rattle.ll_program.specs.declared.failure.Failure.TheVariants.{NoMemory}
use Rattle.ll_seq.specs.declared.call.Call.{Call}
use Rattle.ll_seq.specs.declared.reply.Entry.{Entry}
use Rattle.ll_commands.specs.Loader.{HasLoaded, WasStopped}
use Rattle.ll_session.specs.FirstClients.{Loads, Opens, fresh, made, stopped}
use Rattle.ll_session.specs.declared.setup.Setup.{Setup}
use Rattle.ll_session.specs.PartySession.{Session}
use Rattle.ll_wire.specs.Grammar.{line_of}
use Rattle.ll_wire.specs.WriterGains.{AppendsFront}

-- the line with the port
abbrev pub listening : ℕ → List ℕ
listening port = line_of (codes "listening" ∷ decimal port ∷ [])

-- the entries begin with those of the loader's calls on a new tree, if there is a loader: none is refused
abbrev pub BeginsLoaded : Setup → List Entry → Type 0
BeginsLoaded setup entries =
    (opened : Session) × (rest : List Entry) × Loads (fresh setup) setup.loader (made opened)
    × (entries ≡ opened.entries ++ rest)

-- Streams were served on the tree, which was closed with these entries: first the loader's, if there is one. All its
-- clients are the loader and others
abbrev pub IsServed : Setup → List Entry → Type 0
IsServed setup entries =
    BeginsLoaded setup entries × (loaded others : List Knows) × HasLoaded setup.history setup.loader loaded
    × IsClosed setup.rules setup.nodes setup.history entries (loaded ++ others)

-- Streams were served on the tree asked for, if the policy's file has this text. The port was written, and nothing
-- else. The history is saved, if a file is named
abbrev pub IsDone : ServeOrder → List ℕ → (out out' blank file file' : Option (List ℕ)) → Type 0
IsDone order text out out' blank file file' =
    (setup : Setup) × (entries : List Entry) × IsSetup (served_tree order) text setup × IsServed setup entries
    × Appends out out' (listening order.port) × IsSaved order.save setup entries blank file file'

-- the loader's calls, if there is a loader, may all be made on the new tree
abbrev pub MayLoad : Setup → Type 0
MayLoad setup = (loaded : Session) × Loads (fresh setup) setup.loader (made loaded)

-- Why no streams are served on the tree with this setup. Before a port is bound and written, the loader's calls are
-- made. Memory may run out before that and after it
abbrev pub MayStop : Setup → (port : ℕ) → (out out' : Option (List ℕ)) → Failure → Type 0
MayStop setup port out out' CommandLine = ⊥
MayStop setup port out out' (Policy fault) = ⊥
MayStop setup port out out' (Opening refusal) = Opens setup (stopped refusal) × (out' ≡ out)
MayStop setup port out out' Socket = MayLoad setup × (out' ≡ out)
MayStop setup port out out' Output = MayLoad setup × AppendsFront out out' (listening port)
MayStop setup port out out' File = ⊥
MayStop setup port out out' NoMemory = (out' ≡ out) ⊎ Appends out out' (listening port)

-- Why streams aren't served to the end and the history saved: a policy is named, and gives no setup; or no streams are
-- served on the tree; or the history can't be saved. The file then keeps its old contents
abbrev pub MayFail : ServeOrder → List ℕ → (out out' file file' : Option (List ℕ)) → Failure → Type 0
MayFail order text out out' file file' failure =
    ((is_some order.policy ≡ true) × Lacks (served_tree order) text failure × (out' ≡ out) × (file' ≡ file))
    ⊎ ((setup : Setup) × IsSetup (served_tree order) text setup × MayStop setup order.port out out' failure
    × (file' ≡ file))
    ⊎ ((is_some order.save ≡ true) × IsOfSaving failure × (setup : Setup) × IsSetup (served_tree order) text setup
    × Appends out out' (listening order.port) × (file' ≡ file))

-- How serving ends, if the files have these texts. Streams were served as above. Or it fails as above, or before it
-- begins, and then nothing is written
abbrev pub EndsServe : (texts : Option (List ℕ) → Option (List ℕ)) → ServeOrder → (out out' : Option (List ℕ))
    → Result Conclusion Failure → Type 0
EndsServe texts order out out' (Ok Done) =
    (text : List ℕ) × (blank file file' : Option (List ℕ)) × IfSome (text_in texts order.policy) (λ told. text ≡ told)
    × IsDone order text out out' blank file file'
EndsServe texts order out out' (Ok (Stopped it)) = ⊥
EndsServe texts order out out' (Ok (Judged verdict)) = ⊥
EndsServe texts order out out' (Ok (Checked end)) = ⊥
EndsServe texts order out out' (Ok Differs) = ⊥
EndsServe texts order out out' (Err failure) =
    (IsOfBeginning order.save failure × (out' ≡ out))
    ⊎ ((text : List ℕ) × (file file' : Option (List ℕ)) × IfSome (text_in texts order.policy) (λ told. text ≡ told)
    × MayFail order text out out' file file' failure)

-- ---- Support of the functions below `serve`

-- with this loader and these clients of the tree, no stream is served because of this failure
module _ (limit port : ℕ) (loader : Option (Vec Call Global)) (ks : List Knows) where
  abbrev pub EndsEarly : (out out' : Option (List ℕ)) → Failure → Type 0
  EndsEarly out out' CommandLine = ⊥
  EndsEarly out out' (Policy fault) = ⊥
  EndsEarly out out' (Opening refusal) = WasStopped limit loader refusal ks × (out' ≡ out)
  EndsEarly out out' Socket = HasLoaded limit loader ks × (out' ≡ out)
  EndsEarly out out' Output = HasLoaded limit loader ks × AppendsFront out out' (listening port)
  EndsEarly out out' File = ⊥
  EndsEarly out out' NoMemory = out' ≡ out
