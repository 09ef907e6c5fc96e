-- The calls that a policy means. own
use Rattle.std.specs.Prelude.{◌≡◌, ℕ, ◌+◌, ◌*◌, ◌/◌, false, List, [], ◌∷◌, ◌++◌, map, length, take, drop, codes}
use Rattle.std.specs.List.{range_with_len, enumerate_from}
use Rattle.std.specs.Result.{result_unwrap_or}
use Rattle.hex.specs.Hex.{decode_of}
use Rattle.toml.specs.Data.{Members}
use Rattle.ll_rights.specs.declared.kind.Kind.{Kind}
use Rattle.ll_rights.specs.Kind.{kind_text}
use Rattle.ll_rights.specs.declared.access.Access.{Access}
use Rattle.ll_rights.specs.Access.{access_text}
use Rattle.ll_path.specs.Path.{path_of_text}
use Rattle.ll_path.specs.declared.target.Target.{Target}
use Rattle.ll_path.specs.declared.target.Target.TheVariants.{Good}
use Rattle.ll_seq.specs.declared.call.AccessMode.TheVariants as ways
use Rattle.ll_seq.specs.declared.call.Creation.TheVariants.{Never}
use Rattle.ll_seq.specs.declared.call.Mode.{Mode}
use Rattle.ll_seq.specs.declared.call.Call.{Call}
use Rattle.ll_seq.specs.declared.call.Call.TheVariants.{Make, Open, Write, Close, Ruleset, Allow, Confine}
use Rattle.ll_policy.specs.Table.{text_at, tables_at}

-- the path that a text spells
abbrev pub path_to : List ℕ → Target
path_to text = Good (path_of_text text)

-- each item gives a list, and these lists, joined in order, are the whole
abbrev pub Joined : {A B : Type 0} → (A → List B → Type 0) → List A → List B → Type 0
Joined Gives [] whole = whole ≡ []
Joined {A} {B} Gives (a ∷ others) whole =
    (first rest : List B) × Gives a first × Joined Gives others rest × (whole ≡ first ++ rest)

-- ---- a node

abbrev pub for_writing : Mode
for_writing = record { access = ways.Write; truncate = false; creation = Never }

-- the bytes are written to descriptor 0 in pieces of 4,096, the last of which may be shorter
abbrev pub write_of : List ℕ → ℕ → Call
write_of bytes piece = Write 0 (piece * 4096) (take 4096 (drop (piece * 4096) bytes))

abbrev pub writes : List ℕ → List Call
writes bytes = map (write_of bytes) (range_with_len 0 ((length bytes + 4095) / 4096))

abbrev pub fill : List ℕ → List ℕ → List Call
fill path [] = []
fill path (b ∷ bytes) = Open for_writing (path_to path) ∷ writes (b ∷ bytes) ++ Close 0 ∷ []

-- the node is created, and its bytes, if any, are written
abbrev pub node_calls : Kind → List ℕ → List ℕ → List Call
node_calls kind path bytes = Make kind (path_to path) ∷ fill path bytes

-- the bytes that the digits spell
abbrev pub bytes_at : List ℕ → Members → List ℕ
bytes_at key t = result_unwrap_or (decode_of (text_at key t)) []

-- the calls of a node's table
abbrev pub IsNode : Members → List Call → Type 0
IsNode t calls = (kind : Kind) × (kind_text kind ≡ text_at (codes "kind") t)
    × (calls ≡ node_calls kind (text_at (codes "path") t) (bytes_at (codes "data") t))

-- ---- a profile

-- the call of a rule's table, for the ruleset with this number
abbrev pub IsRule : ℕ → Members → List Call → Type 0
IsRule number t calls = (rights : Access) × (access_text rights.0 ≡ text_at (codes "rights") t)
    × (calls ≡ Allow number (path_to (text_at (codes "path") t)) rights ∷ [])

-- the calls of a layer's table, for the ruleset with this number: it is created, gets its rules in order, and is
-- enforced
abbrev pub IsLayer : ℕ × Members → List Call → Type 0
IsLayer (number, t) calls = (handled : Access) × (access_text handled.0 ≡ text_at (codes "handled") t)
    × (rules : List Call) × Joined (IsRule number) (tables_at (codes "rule") t) rules
    × (calls ≡ Ruleset handled ∷ rules ++ Confine number ∷ [])

-- A profile's name and calls, from its name and table. Its client has no ruleset before, so the first has number 0
pub record IsProfile (named : List ℕ × Members) (profile : List ℕ × List Call) : Type 0 where
  pub name : profile.0 ≡ named.0
  pub calls : Joined IsLayer (enumerate_from 0 (tables_at (codes "layer") named.1)) profile.1
