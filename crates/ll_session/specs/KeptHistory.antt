-- How a history is recorded while it grows. own
use Rattle.std.specs.Prelude.{◌≡◌, ◌≤◌, ◌+◌, ℕ, true, false, List, ◌++◌, length, take, Option, ⊤, string_bytes}
use Rattle.std.specs.Prelude.{if◌then◌else◌}
use Rattle.std.specs.List.{flat_map}
use Rattle.std.specs.Io.KnownBytes.{Appends}
use Rattle.ll_seq.specs.declared.reply.Entry.{Entry}
use Rattle.ll_client.specs.Entries.{Knows}
use Rattle.ll_session.specs.Talk.{seen_by}
use Rattle.ll_wire.specs.Entries.{entry_line}
use Rattle.ll_session.specs.declared.chronicle.Pages.{Pages}
use Rattle.ll_session.specs.declared.keeper.Kept.{Kept}
use Rattle.ll_session.specs.declared.keeper.Kept.TheVariants.{Nowhere, UpTo}
use Rattle.ll_session.specs.declared.page.Page.{Page}

-- all entries that any of these clients knows of are recorded, unless recording has stopped
abbrev pub AreKept : Kept → List Knows → Type 0
AreKept (UpTo count) ks = seen_by ks ≤ count
AreKept Nowhere ks = ⊤

-- the entries between these two counts, line by line
abbrev pub AreLines : List Entry → (first next : ℕ) → List ℕ → Type 0
AreLines history first next text =
    (told : List Entry) × (take next history ≡ take first history ++ told) × (first + length told ≡ next)
    × (text ≡ flat_map entry_line told)

-- the page, after the history was read, has the lines of its next entries, unless memory ran out for them
abbrev pub Fills : Page → List Entry → Page → Type 0
Fills old history new =
    (new.first ≡ old.first) × (new.total ≡ length history)
    × (new.is_starved ≡ false → AreLines history new.first new.next (string_bytes new.text))

-- how much of the history is recorded
abbrev pub kept_of : {W : Type 0} → Pages W → Kept
kept_of pages = if pages.is_broken then Nowhere else UpTo pages.page.first

-- The next entries of the history are written, each on its line, and counted; or the pages are broken, and none is
-- counted
abbrev pub Turns : {W : Type 0} → (contents : W → Option (List ℕ)) → Pages W → List Entry → Pages W → Type 0
Turns contents old history new =
    (new.page.total ≡ length history)
    × (new.is_broken ≡ false → (text : List ℕ) × AreLines history old.page.first new.page.first text
    × Appends (contents old.writer) (contents new.writer) text)
    × (new.is_broken ≡ true → new.page.first ≡ old.page.first)
