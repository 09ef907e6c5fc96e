-- The lines that explain to people why a call is denied, or isn't. own
use Rattle.std.specs.Prelude.{ℕ, ◌-◌, ◌==◌, List, [], ◌∷◌, ◌++◌, Option, Some, None, codes, decimal, length, take}
use Rattle.std.specs.Prelude.{if◌then◌else◌}
use Rattle.std.specs.List.{concat, enumerate_from, flat_map}
use Rattle.std.specs.declared.alloc.Global.{Global}
use Rattle.std.specs.declared.vec.Vec.{Vec}
use Rattle.ll_rights.specs.Access.{access_text}
use Rattle.ll_path.specs.Path.{Path, path_text}
use Rattle.ll_decide.specs.Demands.{place_on, set_on}
use Rattle.ll_decide.specs.Denial.{place_text}
use Rattle.ll_decide.specs.declared.demands.On.{On}
use Rattle.ll_decide.specs.declared.demands.On.TheVariants.{Itself, Other, Parent, Left, Entered}
use Rattle.ll_decide.specs.declared.denial.Denial.{Denial}
use Rattle.ll_seq.specs.Call.{first_path, second_path}
use Rattle.ll_seq.specs.declared.call.Call.{Call}
use Rattle.ll_why.specs.Changes.{rule_on}
use Rattle.ll_why.specs.Reasons.{chain_of, grants_in}
use Rattle.ll_why.specs.declared.asks.Asks.{Asks}
use Rattle.ll_why.specs.declared.change.LayerChange.{LayerChange}
use Rattle.ll_why.specs.declared.grants.Grants.{Grants}
use Rattle.ll_why.specs.declared.grants.Ruled.{Ruled}
use Rattle.ll_why.specs.declared.reason.LayerReason.{LayerReason}
use Rattle.ll_why.specs.declared.reason.Reason.{Reason}
use Rattle.ll_why.specs.declared.why.Why.{Why}
use Rattle.ll_why.specs.declared.why.Why.TheVariants.{Refused, Kept, Judged}
use Rattle.ll_why.specs.declared.explanation.Explanation.{Explanation}

-- these words, then the rights; nothing if there are none
abbrev pub rights_line : List ℕ → ℕ → List ℕ
rights_line words rights =
    if rights == 0 then []
    else concat (codes "  " ∷ words ∷ codes ": " ∷ access_text rights ∷ codes "\n" ∷ [])

-- the path of this `On`: its node's, or its directory's
abbrev pub path_on : Call → On → Path
path_on call Itself = first_path call
path_on call Parent = first_path call
path_on call Left = first_path call
path_on call Other = second_path call
path_on call Entered = second_path call

-- the part of the path whose inodes exist
abbrev pub node_text : Call → Asks → On → List ℕ
node_text call asks on = path_text (take (length (chain_of asks on) - 1) (path_on call on))

-- and the place that a denial names for it
abbrev pub seat_text : Call → Asks → On → List ℕ
seat_text call asks on =
    concat (node_text call asks on ∷ codes " (" ∷ place_text (place_on on) ∷ codes ")" ∷ [])

abbrev pub each_on : List On
each_on = Itself ∷ Parent ∷ Left ∷ Entered ∷ Other ∷ []

abbrev pub asked_line : Call → Asks → On → List ℕ
asked_line call asks on =
    rights_line (concat (codes "asked on " ∷ seat_text call asks on ∷ [])) (set_on asks.demands on)

-- what the rule on the node with this many of the path's names allows
abbrev pub rule_line : List ℕ → Path → ℕ × Ruled → List ℕ
rule_line start path rule =
    rights_line (concat (start ∷ codes ", by the rule on " ∷ path_text (take rule.0 path) ∷ [])) rule.1.rights.0

-- what a layer doesn't restrict; what its rules allow, from the root on; and what it doesn't grant
abbrev pub grant_lines : List ℕ → Path → Grants → List ℕ
grant_lines start path g = concat (
    rights_line (concat (start ∷ codes ", not restricted" ∷ [])) g.free.0
    ∷ flat_map (rule_line start path) (enumerate_from 0 g.ruled.items)
    ∷ rights_line (concat (start ∷ codes ", by no rule" ∷ [])) g.missing.0 ∷ [])

-- those lines for one `On`
abbrev pub on_lines : Call → Asks → List ℕ → LayerReason → On → List ℕ
on_lines call asks layer told on =
    grant_lines (concat (layer ∷ codes " on " ∷ seat_text call asks on ∷ [])) (path_on call on) (grants_in told on)

-- the rights that a node moved into a directory would gain there
abbrev pub gain_line : Call → Asks → List ℕ → On → ℕ → List ℕ
gain_line call asks layer on rights =
    rights_line (concat (layer ∷ codes " would let be gained on " ∷ seat_text call asks on ∷ [])) rights

-- a layer, by its number
abbrev pub layer_lines : Call → Asks → ℕ × LayerReason → List ℕ
layer_lines call asks told =
    let layer = concat (codes "layer " ∷ decimal told.0 ∷ []) in
    concat (flat_map (on_lines call asks layer told.1) each_on
    ∷ gain_line call asks layer Entered told.1.there.0 ∷ gain_line call asks layer Left told.1.back.0 ∷ [])

-- what must be added to a rule of a layer
abbrev pub added_line : Call → Asks → List ℕ → On → ℕ → List ℕ
added_line call asks layer on rights =
    rights_line (concat (layer ∷ codes " and a rule on " ∷ node_text call asks on ∷ [])) rights

-- what must be added to a layer, by its number
abbrev pub change_lines : Call → Asks → ℕ × LayerChange → List ℕ
change_lines call asks change =
    let layer = concat (codes "no layer would deny it with layer " ∷ decimal change.0 ∷ []) in
    rights_line (concat (layer ∷ codes " handling" ∷ [])) change.1.handled.0
    ++ flat_map (λ on. added_line call asks layer on (rule_on change.1 on).rights.0)
    (Itself ∷ Other ∷ Left ∷ Entered ∷ [])

-- what must be added to each layer, the oldest first; or that no addition allows the call
abbrev pub all_change_lines : Call → Asks → Option (Vec LayerChange Global) → List ℕ
all_change_lines call asks None = codes "  no rule of this level lets it pass\n"
all_change_lines call asks (Some changes) = flat_map (change_lines call asks) (enumerate_from 1 changes.items)

-- a denial is in the call's reply already
abbrev pub undenied_line : Option Denial → List ℕ
undenied_line None = codes "  no layer denies it\n"
undenied_line (Some denial) = []

-- the rights needed, what each layer says of them, the oldest first, and what would allow the call
abbrev pub reason_lines : Call → Reason → Option (Vec LayerChange Global) → List ℕ
reason_lines call reason changes = concat (
    undenied_line reason.denial ∷ flat_map (asked_line call reason.asks) each_on
    ∷ flat_map (layer_lines call reason.asks) (enumerate_from 1 reason.layers.items)
    ∷ all_change_lines call reason.asks changes ∷ [])

-- ftruncate asks no layer: what its descriptor's opening found decides it
abbrev pub why_text : Call → Why → Option (Vec LayerChange Global) → List ℕ
why_text call (Refused errno) changes = codes "  refused before any layer is asked\n"
why_text call (Kept denial) changes = codes "  decided by what the descriptor keeps since its opening\n"
why_text call (Judged reason) changes = reason_lines call reason changes

abbrev pub told_text : Call → Explanation → List ℕ
told_text call told = why_text call told.why told.changes
