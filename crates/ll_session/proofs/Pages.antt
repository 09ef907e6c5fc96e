-- Entries, written line by line.
use Rattle.std.proofs.Common.{◌≡◌, ◌∙◌, ℕ, suc, ◌+◌, ◌≤◌, Bool, true, false, List, [], ◌∷◌, ◌++◌, length, take, Some}
use Rattle.std.proofs.Common.{Option, ap, append_assoc, arith, refl, string_bytes, subst, sym}
use Rattle.std.specs.Prelude.{slice_get, if◌then◌else◌}
use Rattle.std.specs.Io.KnownBytes.{Appends}
use Rattle.std.specs.List.{flat_map}
use Rattle.std.proofs.lemmas.List.{append-nil, length-append}
use Rattle.std.proofs.lemmas.Grind.{flat_map-append}
use Rattle.ll_client.specs.Entries.{Knows}
use Rattle.ll_seq.specs.declared.reply.Entry.{Entry}
use Rattle.ll_session.specs.Talk.{seen_by}
use Rattle.ll_session.proofs.Points.{one_taken}
use Rattle.ll_wire.specs.Entries.{entry_line}
use Rattle.ll_session.specs.KeptHistory.{AreKept, AreLines, Fills, Turns, kept_of}
use Rattle.ll_session.specs.declared.chronicle.Pages.{Pages}
use Rattle.ll_session.specs.declared.page.Page.{Page}
use Rattle.ll_session.specs.declared.keeper.Kept.TheVariants.{Nowhere, UpTo}

-- no line yet
pub no_lines : (history : List Entry) (first : ℕ) → AreLines history first first []
no_lines history first = ([], sym (append-nil (take first history)), omega arith, refl)

-- one line more
pub line_more : (history : List Entry) (first next : ℕ) (text longer : List ℕ) (e : Entry)
    → AreLines history first next text → slice_get history next ≡ Some e → longer ≡ text ++ entry_line e
    → AreLines history first (next + 1) longer
line_more history first next text longer e lines at is =
    let told = lines.0 in
    let step : next + 1 ≡ suc next = omega arith in
    let count : length (told ++ e ∷ []) ≡ length told + 1 = length-append told (e ∷ []) in
    let before = lines.2 in (
      told ++ e ∷ [],
      ap (λ n. take n history) step ∙ one_taken history next e at ∙ ap (λ xs. xs ++ e ∷ []) lines.1
          ∙ append_assoc (take first history) told (e ∷ []),
      omega (arith, count, before),
      is ∙ ap (λ x. x ++ entry_line e) lines.3
          ∙ ap (λ x. flat_map entry_line told ++ x) (sym (append-nil (entry_line e)))
          ∙ sym (flat_map-append entry_line told (e ∷ [])),
    )

kept_at : (is_broken : Bool) (first : ℕ) (ks : List Knows) → seen_by ks ≤ first
    → AreKept (if is_broken then Nowhere else UpTo first) ks
kept_at true first ks low = tt
kept_at false first ks low = low

-- so far that these clients know of no more
pub are_kept : {W : Type 0} → (pages : Pages W) (ks : List Knows) → seen_by ks ≤ pages.page.first
    → AreKept (kept_of pages) ks
are_kept pages ks low = kept_at pages.is_broken pages.page.first ks low

-- a broken device keeps nothing any more
pub kept_broken : {W : Type 0} → (pages : Pages W) (ks : List Knows) → pages.is_broken ≡ true
    → AreKept (kept_of pages) ks
kept_broken pages ks broken =
    subst (λ (b : Bool). AreKept (if b then Nowhere else UpTo pages.page.first) ks) (sym broken) tt

pub none_seen : (ks : List Knows) → length ks ≡ 0 → (n : ℕ) → seen_by ks ≤ n
none_seen [] none n = omega arith
none_seen (k ∷ ks) none n = absurd (omega (arith, none))

-- a page was read, and written or not
pub turned : {W : Type 0} → (contents : W → Option (List ℕ)) (old : Pages W) (page : Page) (history : List Entry)
    (new : Pages W) → Fills old.page history page → page.is_starved ≡ false
    → (new.is_broken ≡ false → Appends (contents old.writer) (contents new.writer) (string_bytes page.text))
    → (new.is_broken ≡ false → new.page.first ≡ page.next)
    → (new.is_broken ≡ true → new.page.first ≡ page.first) → new.page.total ≡ page.total
    → Turns contents old history new
turned contents old page history new fills fine wrote first stays total = (
  total ∙ fills.1,
  (λ whole. (
    string_bytes page.text,
    subst (λ (n : ℕ). AreLines history n new.page.first (string_bytes page.text)) fills.0
        (subst (λ (n : ℕ). AreLines history page.first n (string_bytes page.text)) (sym (first whole))
        (fills.2 fine)),
    wrote whole,
  )),
  (λ broken. stays broken ∙ fills.0),
)
