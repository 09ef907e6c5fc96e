-- What is counted of connections, and its text. own
use Rattle.std.specs.Prelude.{ℕ, ◌+◌, ◌-◌, ◌^◌, ◌++◌, List, codes, decimal, min}
use Rattle.ll_session.specs.Counts.{nothing}
use Rattle.ll_commands.specs.declared.counts.Counts.{Counts}

abbrev pub none : Counts
none = record { clients = 0; tally = nothing }

-- the sum, at most 2^64 - 1
abbrev pub add : ℕ → ℕ → ℕ
add a b = min (a + b) (2 ^ 64 - 1)

-- the sum of both
abbrev pub plus : Counts → Counts → Counts
plus a b = record {
  clients = add a.clients b.clients;
  tally = record {
    lines = add a.tally.lines b.tally.lines;
    denials = add a.tally.denials b.tally.denials;
  };
}

abbrev pub counts_text : Counts → List ℕ
counts_text c =
    decimal c.clients ++ codes " clients, " ++ decimal c.tally.lines ++ codes " lines, " ++ decimal c.tally.denials
    ++ codes " denied"
