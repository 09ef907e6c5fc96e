-- Why calls are denied, or aren't, as JSON: an object on a line. RFC 8259
use Rattle.std.specs.Prelude.{ℕ, ◌==◌, List, [], ◌∷◌, ◌++◌, Option, Some, None, codes, decimal, map, if◌then◌else◌}
use Rattle.std.specs.List.{concat, flat_map, join_with_byte}
use Rattle.std.specs.declared.alloc.Global.{Global}
use Rattle.std.specs.declared.vec.Vec.{Vec}
use Rattle.ll_rights.specs.Errno.{errno_text}
use Rattle.ll_rights.specs.Right.{right_text}
use Rattle.ll_decide.specs.Demands.{place_on, set_on}
use Rattle.ll_decide.specs.Denial.{cause_errno, place_text}
use Rattle.ll_decide.specs.declared.demands.On.{On}
use Rattle.ll_decide.specs.declared.demands.On.TheVariants.{Itself, Other, Left, Entered}
use Rattle.ll_decide.specs.declared.denial.Denial.{Denial}
use Rattle.ll_seq.specs.declared.call.Call.{Call}
use Rattle.ll_seq.specs.declared.reply.Reply.{Reply}
use Rattle.ll_wire.specs.Grammar.{call_tokens, reply_tokens}
use Rattle.ll_why.specs.Changes.{rule_on}
use Rattle.ll_why.specs.Quoted.{json_names, json_string, listed}
use Rattle.ll_why.specs.Reasons.{grants_in}
use Rattle.ll_why.specs.RightsJson.{grants_fields, rule_json}
use Rattle.ll_why.specs.Told.{each_on, node_text, path_on}
use Rattle.ll_why.specs.declared.asks.Asks.{Asks}
use Rattle.ll_why.specs.declared.change.LayerChange.{LayerChange}
use Rattle.ll_why.specs.declared.reason.LayerReason.{LayerReason}
use Rattle.ll_why.specs.declared.reason.Reason.{Reason}
use Rattle.ll_why.specs.declared.why.Why.{Why}
use Rattle.ll_why.specs.declared.why.Why.TheVariants.{Refused, Kept, Judged}
use Rattle.ll_why.specs.declared.explanation.Explanation.{Explanation}

-- the words of a line
abbrev pub words_json : List (List ℕ) → List ℕ
words_json tokens = json_string (join_with_byte 32 tokens)

abbrev pub call_fields : Call → Reply → List ℕ
call_fields call reply = concat (
    codes "\"command\": " ∷ words_json (call_tokens call)
    ∷ codes ", \"reply\": " ∷ words_json (reply_tokens reply) ∷ [])

abbrev pub denial_json : Option Denial → List ℕ
denial_json None = codes "null"
denial_json (Some d) = concat (
    codes "{\"errno\": \"" ∷ errno_text (cause_errno d.cause) ∷ codes "\", \"layer\": " ∷ decimal d.layer
    ∷ codes ", \"right\": \"" ∷ right_text d.right ∷ codes "\", \"place\": \"" ∷ place_text d.place ∷ codes "\"}" ∷ [])

-- the node that rights are asked on, and the place that a denial names for it
abbrev pub seat_fields : Call → Asks → On → List ℕ
seat_fields call asks on = concat (
    codes "\"path\": " ∷ json_string (node_text call asks on)
    ∷ codes ", \"place\": \"" ∷ place_text (place_on on) ∷ codes "\"" ∷ [])

-- rights there
abbrev pub seat_json : Call → Asks → On → ℕ → List ℕ
seat_json call asks on rights = concat (
    codes "{" ∷ seat_fields call asks on ∷ codes ", \"rights\": [" ∷ json_names rights ∷ codes "]}" ∷ [])

-- if there are any
abbrev pub seated_json : Call → Asks → On → ℕ → List (List ℕ)
seated_json call asks on rights = if rights == 0 then [] else seat_json call asks on rights ∷ []

-- the rights asked there, if any
abbrev pub asked_json : Call → Asks → On → List (List ℕ)
asked_json call asks on = seated_json call asks on (set_on asks.demands on)

-- what a layer does there
abbrev pub grant_json : Call → Asks → LayerReason → On → List ℕ
grant_json call asks told on = concat (
    codes "{" ∷ seat_fields call asks on
    ∷ codes ", " ∷ grants_fields (path_on call on) (grants_in told on) ∷ codes "}" ∷ [])

-- if rights are asked there
abbrev pub granted_json : Call → Asks → LayerReason → On → List (List ℕ)
granted_json call asks told on = if set_on asks.demands on == 0 then [] else grant_json call asks told on ∷ []

-- the rights that a node moved into a directory would gain there
abbrev pub gained_json : Call → Asks → LayerReason → List (List ℕ)
gained_json call asks told =
    seated_json call asks Entered told.there.0 ++ seated_json call asks Left told.back.0

-- a layer: what it does wherever rights are asked, and which rights would be gained
abbrev pub layer_json : Call → Asks → LayerReason → List ℕ
layer_json call asks told = concat (
    codes "{\"on\": [" ∷ listed (flat_map (granted_json call asks told) each_on)
    ∷ codes "], \"gained\": [" ∷ listed (gained_json call asks told) ∷ codes "]}" ∷ [])

-- where rights may be added
abbrev pub each_added : List On
each_added = Itself ∷ Other ∷ Left ∷ Entered ∷ []

-- the rights that must be added to a rule, if any
abbrev pub added_json : Call → Asks → On → ℕ → List (List ℕ)
added_json call asks on rights = if rights == 0 then [] else rule_json (node_text call asks on) rights ∷ []

-- what must be added to a layer
abbrev pub change_json : Call → Asks → LayerChange → List ℕ
change_json call asks change = concat (
    codes "{\"handled\": [" ∷ json_names change.handled.0 ∷ codes "], \"rules\": ["
    ∷ listed (flat_map (λ on. added_json call asks on (rule_on change on).rights.0) each_added) ∷ codes "]}" ∷ [])

-- what must be added to each layer, the oldest first; null if no addition allows the call
abbrev pub changes_json : Call → Asks → Option (Vec LayerChange Global) → List ℕ
changes_json call asks None = codes "null"
changes_json call asks (Some changes) =
    concat (codes "[" ∷ listed (map (change_json call asks) changes.items) ∷ codes "]" ∷ [])

-- What decided; the denial; the rights asked, and what each layer does, the oldest first, if layers decided; and what
-- would allow the call
abbrev pub decided_fields : (by denial asked layers changes : List ℕ) → List ℕ
decided_fields by denial asked layers changes = concat (
    codes "\"decided\": " ∷ by ∷ codes ", \"denial\": " ∷ denial ∷ codes ", \"asked\": [" ∷ asked
    ∷ codes "], \"layers\": [" ∷ layers ∷ codes "], \"changes\": " ∷ changes ∷ [])

abbrev pub reason_fields : Call → Reason → Option (Vec LayerChange Global) → List ℕ
reason_fields call reason changes = decided_fields (codes "\"by layers\"") (denial_json reason.denial)
    (listed (flat_map (asked_json call reason.asks) each_on))
    (listed (map (layer_json call reason.asks) reason.layers.items))
    (changes_json call reason.asks changes)

-- ftruncate asks no layer: what its descriptor's opening found decides it
abbrev pub why_fields : Call → Why → Option (Vec LayerChange Global) → List ℕ
why_fields call (Refused errno) changes =
    decided_fields (codes "\"before layers\"") (codes "null") [] [] (codes "null")
why_fields call (Kept denial) changes =
    decided_fields (codes "\"by the descriptor\"") (denial_json denial) [] [] (codes "null")
why_fields call (Judged reason) changes = reason_fields call reason changes

-- None: the client isn't there
abbrev pub told_fields : Call → Option Explanation → List ℕ
told_fields call None = decided_fields (codes "null") (codes "null") [] [] (codes "null")
told_fields call (Some told) = why_fields call told.why told.changes

-- the command, the tree's reply, and what policy says of it
abbrev pub call_json : Call → Reply → Explanation → List ℕ
call_json call reply told = concat (
    codes "{" ∷ call_fields call reply ∷ codes ", " ∷ why_fields call told.why told.changes ∷ codes "}\n" ∷ [])
