-- Why entries of a history are answered so, as JSON: an object on a line. RFC 8259
use Rattle.std.specs.Prelude.{ℕ, List, [], ◌∷◌, Option, codes, decimal, if◌then◌else◌}
use Rattle.std.specs.List.{concat}
use Rattle.ll_seq.specs.History.{is_connect}
use Rattle.ll_seq.specs.declared.call.Call.{Call}
use Rattle.ll_seq.specs.declared.reply.Entry.{Entry}
use Rattle.ll_wire.specs.Grammar.{call_tokens, reply_tokens}
use Rattle.ll_why.specs.WhyJson.{call_fields, told_fields, words_json}
use Rattle.ll_why.specs.declared.entry.Standing.{Standing}
use Rattle.ll_why.specs.declared.entry.Standing.TheVariants.{Stands, NoCaller, Answers}
use Rattle.ll_why.specs.declared.explanation.Explanation.{Explanation}

-- an entry's number, and its client
abbrev pub head_fields : ℕ → Entry → List ℕ
head_fields number e =
    concat (codes "\"entry\": " ∷ decimal number ∷ codes ", \"client\": " ∷ decimal e.client ∷ [])

abbrev pub standing_word : Entry → Standing → List ℕ
standing_word e Stands = codes "legal"
standing_word e NoCaller = if is_connect e.call then codes "client there already" else codes "client not there"
standing_word e (Answers reply) = codes "other reply"

-- what the tree answers instead
abbrev pub instead_json : Standing → List ℕ
instead_json Stands = codes "null"
instead_json NoCaller = codes "null"
instead_json (Answers reply) = words_json (reply_tokens reply)

abbrev pub standing_fields : Entry → Standing → List ℕ
standing_fields e standing = concat (
    codes "\"standing\": \"" ∷ standing_word e standing ∷ codes "\", \"instead\": " ∷ instead_json standing ∷ [])

-- the entry that opened the descriptor, and what policy says of a truncate there
abbrev pub opening_json : ℕ → Entry → Call → Option Explanation → List ℕ
opening_json number e truncate told = concat (
    codes "{" ∷ head_fields number e ∷ codes ", \"command\": " ∷ words_json (call_tokens e.call)
    ∷ codes ", \"truncate\": {" ∷ told_fields truncate told ∷ codes "}}" ∷ [])

-- the entry, whether it is legal, what policy says of its call, and this opening
abbrev pub entry_json : ℕ → Entry → Standing → Option Explanation → List ℕ → List ℕ
entry_json number e standing told opening = concat (
    codes "{" ∷ head_fields number e ∷ codes ", " ∷ call_fields e.call e.reply ∷ codes ", "
    ∷ standing_fields e standing ∷ codes ", " ∷ told_fields e.call told
    ∷ codes ", \"opening\": " ∷ opening ∷ codes "}\n" ∷ [])
