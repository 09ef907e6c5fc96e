use Rattle.std.specs.Prelude.{[], ◌∷◌, ◌++◌, None}
use Rattle.std.proofs.Common.{ap, sym, refl, ◌∙◌}
use Rattle.ll_rights.specs.Kind.{make_right}
use Rattle.ll_rights.specs.Right as right
use Rattle.ll_path.specs.Path.{parent}
use Rattle.ll_decide.specs.declared.demands.On.TheVariants.{Itself, Parent, Entered}
use Rattle.ll_decide.specs.declared.demands.Way.TheVariants.{There, Back}
use Rattle.ll_decide.specs.declared.denial.Place.TheVariants.{At}
use Rattle.ll_decide.specs.Demands.{ask_on}
use Rattle.ll_seq.specs.Asked.{ask, opening_asked}
use Rattle.ll_seq.specs.Call.{first_path, second_path}
use Rattle.ll_seq.specs.declared.call.Call.TheVariants.{Make, Open, Read, Write, Ftruncate, Close, Truncate, ReadDir}
use Rattle.ll_seq.specs.declared.call.Call.TheVariants.{Stat, Exec, Unlink, Rmdir, Rename, RenameNoreplace, Exchange}
use Rattle.ll_seq.specs.declared.call.Call.TheVariants.{Link, Ruleset, Allow, Confine, Spawn, Connect}
use Rattle.ll_seq.proofs.AskedLists.{demands, opening_same, rename_same, noreplace_same, exchange_same, link_same}
use Rattle.ll_seq.proofs.AskedLists.{goes_same, both_go}
use Rattle.ll_seq.proofs.Walked.{passed_at}
use Rattle.ll_seq.proofs.call_demands.demands_of.Goals as goal
use Rattle.ll_seq.specs.Demanded.{opening_on, refer_on, goes_on, moving_on, replacing_on, exchange_on}

pub returns-in-Make : goal.returns-in-Make
returns-in-Make c s who passed =
    let call = Make c.in-Make.kind c.in-Make.field-1 in
    demands s c.args.call.now call c.ask.result (ask_on Parent c.make_right.result ∷ []) [] c.in-Make.is
    (c.ask.ensures.asks [] c.none-none.ensures.asks) (c.ask.ensures.moves [] c.none-none.ensures.moves)
    (ap (λ r. ask (parent (first_path call)) r At) (sym c.make_right.ensures)) refl

pub returns-in-Open : goal.returns-in-Open
returns-in-Open c s who passed =
    let call = Open c.in-Open.mode c.in-Open.field-1 in
    let here = passed_at s who c.args.call.now call c.args.found.now c.in-Open.is passed in
    let there = c.exists.ensures s (first_path call) here.first in
    demands s c.args.call.now call c.opening.result (opening_on c.in-Open.mode c.exists.result) [] c.in-Open.is
    c.opening.ensures.asks c.opening.ensures.moves
    (ap (opening_asked c.in-Open.mode (first_path call)) (sym there)
    ∙ opening_same c.in-Open.mode (first_path call) (second_path call) c.exists.result) refl

pub returns-in-Truncate : goal.returns-in-Truncate
returns-in-Truncate c s who passed =
    demands s c.args.call.now (Truncate c.in-Truncate.field-0 c.in-Truncate.field-1) c.ask-in-Truncate.result
    (ask_on Itself right.truncate ∷ []) [] c.in-Truncate.is
    (c.ask-in-Truncate.ensures.asks [] c.none-none.ensures.asks)
    (c.ask-in-Truncate.ensures.moves [] c.none-none.ensures.moves) refl refl

pub returns-in-ReadDir : goal.returns-in-ReadDir
returns-in-ReadDir c s who passed =
    demands s c.args.call.now (ReadDir c.in-ReadDir.field-0) c.ask-in-ReadDir.result (ask_on Itself right.read_dir ∷ [])
    [] c.in-ReadDir.is
    (c.ask-in-ReadDir.ensures.asks [] c.none-none.ensures.asks)
    (c.ask-in-ReadDir.ensures.moves [] c.none-none.ensures.moves) refl refl

pub returns-in-Exec : goal.returns-in-Exec
returns-in-Exec c s who passed =
    demands s c.args.call.now (Exec c.in-Exec.field-0) c.ask-in-Exec-2.result
    (ask_on Itself right.execute ∷ ask_on Itself right.read_file ∷ []) [] c.in-Exec.is
    (c.ask-in-Exec-2.ensures.asks (ask_on Itself right.execute ∷ [])
    (c.ask-in-Exec.ensures.asks [] c.none-none.ensures.asks))
    (c.ask-in-Exec-2.ensures.moves [] (c.ask-in-Exec.ensures.moves [] c.none-none.ensures.moves)) refl refl

pub returns-in-Unlink : goal.returns-in-Unlink
returns-in-Unlink c s who passed =
    demands s c.args.call.now (Unlink c.in-Unlink.field-0) c.ask-in-Unlink.result (ask_on Parent right.remove_file ∷ [])
    [] c.in-Unlink.is
    (c.ask-in-Unlink.ensures.asks [] c.none-none.ensures.asks)
    (c.ask-in-Unlink.ensures.moves [] c.none-none.ensures.moves) refl refl

pub returns-in-Rmdir : goal.returns-in-Rmdir
returns-in-Rmdir c s who passed =
    demands s c.args.call.now (Rmdir c.in-Rmdir.field-0) c.ask-in-Rmdir.result (ask_on Parent right.remove_dir ∷ []) []
    c.in-Rmdir.is
    (c.ask-in-Rmdir.ensures.asks [] c.none-none.ensures.asks)
    (c.ask-in-Rmdir.ensures.moves [] c.none-none.ensures.moves) refl refl

pub returns-in-Rename : goal.returns-in-Rename
returns-in-Rename c s who passed =
    let call = Rename c.in-Rename.field-0 c.in-Rename.field-1 in
    let here = passed_at s who c.args.call.now call c.args.found.now c.in-Rename.is passed in
    let kind = c.kind.ensures s (first_path call) here.first here.exist in
    let apart = c.is_apart.ensures s (first_path call) (second_path call) here.first here.second in
    demands s c.args.call.now call c.renaming.result
    (moving_on c.kind.result ++ replacing_on c.kind_there.result ++ refer_on c.is_apart.result)
    (goes_on c.is_apart.result There c.kind.result) c.in-Rename.is c.renaming.ensures.asks c.renaming.ensures.moves
    (rename_same s (first_path call) (second_path call) c.kind.result c.kind_there.result c.is_apart.result kind
    (c.kind_there.ensures s (second_path call) here.second) apart)
    (goes_same s (first_path call) (second_path call) c.kind.result c.is_apart.result kind apart)

pub returns-in-RenameNoreplace : goal.returns-in-RenameNoreplace
returns-in-RenameNoreplace c s who passed =
    let call = RenameNoreplace c.in-RenameNoreplace.field-0 c.in-RenameNoreplace.field-1 in
    let here = passed_at s who c.args.call.now call c.args.found.now c.in-RenameNoreplace.is passed in
    let k = c.kind-in-RenameNoreplace.result in
    let differ = c.is_apart-in-RenameNoreplace.result in
    let kind = c.kind-in-RenameNoreplace.ensures s (first_path call) here.first here.exist in
    let apart = c.is_apart-in-RenameNoreplace.ensures s (first_path call) (second_path call) here.first here.second in
    demands s c.args.call.now call c.renaming-in-RenameNoreplace.result
    (moving_on k ++ replacing_on None ++ refer_on differ)
    (goes_on differ There k) c.in-RenameNoreplace.is c.renaming-in-RenameNoreplace.ensures.asks
    c.renaming-in-RenameNoreplace.ensures.moves
    (noreplace_same s (first_path call) (second_path call) k differ kind apart)
    (goes_same s (first_path call) (second_path call) k differ kind apart)

pub returns-in-Exchange : goal.returns-in-Exchange
returns-in-Exchange c s who passed =
    let call = Exchange c.in-Exchange.field-0 c.in-Exchange.field-1 in
    let here = passed_at s who c.args.call.now call c.args.found.now c.in-Exchange.is passed in
    let k = c.kind-in-Exchange.result in
    let j = c.kind-in-Exchange-2.result in
    let differ = c.is_apart-in-Exchange.result in
    let back = c.is_apart-in-Exchange-2.result in
    let kind = c.kind-in-Exchange.ensures s (first_path call) here.first here.exist.0 in
    let other = c.kind-in-Exchange-2.ensures s (second_path call) here.second here.exist.1 in
    let apart = c.is_apart-in-Exchange.ensures s (first_path call) (second_path call) here.first here.second in
    let apart_back = c.is_apart-in-Exchange-2.ensures s (second_path call) (first_path call) here.second here.first in
    demands s c.args.call.now call c.exchanging.result (exchange_on k j ++ refer_on differ)
    (goes_on differ There k ++ goes_on back Back j) c.in-Exchange.is c.exchanging.ensures.asks
    c.exchanging.ensures.moves
    (exchange_same s (first_path call) (second_path call) k j differ kind other apart)
    (both_go s (first_path call) (second_path call) k j differ back kind other apart apart_back)

pub returns-in-Link : goal.returns-in-Link
returns-in-Link c s who passed =
    let call = Link c.in-Link.field-0 c.in-Link.field-1 in
    let here = passed_at s who c.args.call.now call c.args.found.now c.in-Link.is passed in
    let k = c.kind-in-Link.result in
    let differ = c.is_apart-in-Link.result in
    let kind = c.kind-in-Link.ensures s (first_path call) here.first here.exist in
    let apart = c.is_apart-in-Link.ensures s (first_path call) (second_path call) here.first here.second in
    demands s c.args.call.now call c.linking.result ((ask_on Entered (make_right k) ∷ []) ++ refer_on differ)
    (goes_on differ There k) c.in-Link.is c.linking.ensures.asks c.linking.ensures.moves
    (link_same s (first_path call) (second_path call) k differ kind apart)
    (goes_same s (first_path call) (second_path call) k differ kind apart)

-- ---- The others ask nothing

pub returns-in-Stat : goal.returns-in-Stat
returns-in-Stat c s who passed =
    demands s c.args.call.now (Stat c.in-Stat.field-0) c.none-none.result [] [] c.in-Stat.is c.none-none.ensures.asks
    c.none-none.ensures.moves refl refl

pub returns-in-Allow : goal.returns-in-Allow
returns-in-Allow c s who passed =
    demands s c.args.call.now (Allow c.in-Allow.field-0 c.in-Allow.field-1 c.in-Allow.field-2) c.none-none.result [] []
    c.in-Allow.is c.none-none.ensures.asks c.none-none.ensures.moves refl refl

pub returns-in-Read : goal.returns-in-Read
returns-in-Read c s who passed =
    demands s c.args.call.now (Read c.in-Read.field-0 c.in-Read.field-1 c.in-Read.field-2) c.none-none.result [] []
    c.in-Read.is c.none-none.ensures.asks c.none-none.ensures.moves refl refl

pub returns-in-Write : goal.returns-in-Write
returns-in-Write c s who passed =
    demands s c.args.call.now (Write c.in-Write.field-0 c.in-Write.field-1 c.in-Write.field-2) c.none-none.result [] []
    c.in-Write.is c.none-none.ensures.asks c.none-none.ensures.moves refl refl

pub returns-in-Ftruncate : goal.returns-in-Ftruncate
returns-in-Ftruncate c s who passed =
    demands s c.args.call.now (Ftruncate c.in-Ftruncate.field-0 c.in-Ftruncate.field-1) c.none-none.result [] []
    c.in-Ftruncate.is c.none-none.ensures.asks c.none-none.ensures.moves refl refl

pub returns-in-Close : goal.returns-in-Close
returns-in-Close c s who passed =
    demands s c.args.call.now (Close c.in-Close.field-0) c.none-none.result [] [] c.in-Close.is c.none-none.ensures.asks
    c.none-none.ensures.moves refl refl

pub returns-in-Ruleset : goal.returns-in-Ruleset
returns-in-Ruleset c s who passed =
    demands s c.args.call.now (Ruleset c.in-Ruleset.field-0) c.none-none.result [] [] c.in-Ruleset.is
    c.none-none.ensures.asks c.none-none.ensures.moves refl refl

pub returns-in-Confine : goal.returns-in-Confine
returns-in-Confine c s who passed =
    demands s c.args.call.now (Confine c.in-Confine.field-0) c.none-none.result [] [] c.in-Confine.is
    c.none-none.ensures.asks c.none-none.ensures.moves refl refl

pub returns-in-Spawn : goal.returns-in-Spawn
returns-in-Spawn c s who passed =
    demands s c.args.call.now Spawn c.none-none.result [] [] c.in-Spawn.is c.none-none.ensures.asks
    c.none-none.ensures.moves refl refl

pub returns-in-Connect : goal.returns-in-Connect
returns-in-Connect c s who passed =
    demands s c.args.call.now Connect c.none-none.result [] [] c.in-Connect.is c.none-none.ensures.asks
    c.none-none.ensures.moves refl refl
