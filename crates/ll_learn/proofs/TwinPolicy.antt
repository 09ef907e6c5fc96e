-- What the layer alone denies is what it denies in the run that it is in.
use Rattle.std.specs.Prelude.{◌≡◌, ⊤, ℕ, Bool, true, false, ◌&&◌, List, [], ◌∷◌, Option, Some, None, is_none}
use Rattle.std.specs.Prelude.{MatchOption, option_and_then, option_map, option_to_list, refl}
use Rattle.std.specs.Ordering.{nat_cmp}
use Rattle.std.proofs.Common.{sym, subst, ap, ◌∙◌}
use Rattle.ll_rights.specs.Map.{Map, get}
use Rattle.ll_rights.specs.Right as right
use Rattle.ll_rights.specs.declared.errno.Errno.TheVariants.{EINVAL}
use Rattle.ll_rules.specs.Layer.{Layer, grants_on}
use Rattle.ll_decide.specs.declared.denial.Cause.TheVariants.{EACCES}
use Rattle.ll_decide.specs.declared.denial.Denial.{Denial}
use Rattle.ll_decide.specs.declared.denial.Place.TheVariants.{At}
use Rattle.ll_decide.specs.Verdict.{all_denials}
use Rattle.ll_seq.specs.Asked.{call_denials, grants}
use Rattle.ll_seq.specs.CallParts.{asked, moved}
use Rattle.ll_seq.specs.Passed.{before_policy}
use Rattle.ll_seq.specs.Stages.{number_refusals, text_refusals}
use Rattle.ll_seq.specs.State.{State}
use Rattle.ll_seq.specs.declared.call.Call.{Call}
use Rattle.ll_seq.specs.declared.call.Call.TheVariants.{Make, Open, Read, Write, Ftruncate, Close, Truncate, ReadDir}
use Rattle.ll_seq.specs.declared.call.Call.TheVariants.{Stat, Exec, Unlink, Rmdir, Rename, RenameNoreplace, Exchange}
use Rattle.ll_seq.specs.declared.call.Call.TheVariants.{Link, Ruleset, Allow, Confine, Spawn, Connect}
use Rattle.ll_seq.specs.declared.client.ClientRecord.{ClientRecord}
use Rattle.ll_seq.specs.declared.client.Descriptor.{Descriptor}
use Rattle.ll_seq.specs.declared.reply.Reply.{Reply}
use Rattle.ll_laws.proofs.ClientChanges.{described}
use Rattle.ll_laws.proofs.Unrefused.{nil_left, nil_right}
use Rattle.ll_learn.specs.PassedCalls.{Allows, Openings}
use Rattle.ll_learn.proofs.OneLayer.{more_allow, one_allows}
use Rattle.ll_learn.proofs.TwinEffects.{entry}
use Rattle.ll_learn.proofs.Twins.{Both, IsFile, IsLayered, allows, with_all}

-- what a descriptor keeps
abbrev denial_by : ℕ → Denial
denial_by number = record { cause = EACCES; layer = number; right = right.truncate; place = At }

abbrev kept_denials : Option Descriptor → List Denial
kept_denials o = option_to_list (option_map denial_by (option_and_then (λ (d : Descriptor). d.kept) o))

no_denial : (k : Option ℕ) → option_to_list (option_map denial_by k) ≡ [] → is_none k ≡ true
no_denial None e = refl
no_denial (Some n) e = absurd (cc e)

denial_no : (k : Option ℕ) → is_none k ≡ true → option_to_list (option_map denial_by k) ≡ []
denial_no None e = refl
denial_no (Some n) e = absurd (cc e)

none_kept : (d : Descriptor) → kept_denials (Some d) ≡ [] → is_none d.kept ≡ true
none_kept d e = no_denial d.kept e

keeps_none : (d : Descriptor) → is_none d.kept ≡ true → kept_denials (Some d) ≡ []
keeps_none d e = denial_no d.kept e

granted_there : (layer : Layer) (o : Option (List ℕ)) → allows layer o ≡ true
    → MatchOption o ⊤ (λ inodes. grants_on layer inodes right.truncate ≡ true)
granted_there layer None e = tt
granted_there layer (Some inodes) e = e

there_granted : (layer : Layer) (o : Option (List ℕ))
    → MatchOption o ⊤ (λ inodes. grants_on layer inodes right.truncate ≡ true) → allows layer o ≡ true
there_granted layer None e = refl
there_granted layer (Some inodes) e = e

both_true : (a b : Bool) → (a && b) ≡ true → b ≡ true
both_true true b e = e
both_true false b e = absurd cc

module _ (layer : Layer) (s : State) (m : Map nat_cmp ClientRecord) (known : Openings) (q : ℕ) (c d : ClientRecord)
    (w : IsLayered layer (known q) c d) where
  -- the descriptor that a call truncates is there
  truncated : (fd size : ℕ) → before_policy s c (Ftruncate fd size) ≡ []
      → (a : Descriptor) × (get c.descriptors fd ≡ Some a)
  truncated fd size free =
      let w = described c fd (λ (k : Descriptor). k.writes) EINVAL
      (nil_left (number_refusals c (Ftruncate fd size)) _
      (nil_right (text_refusals (Ftruncate fd size)) _ free)) in
      (w.0, w.1)

  file_of : (fd : ℕ) (a : Descriptor) → get c.descriptors fd ≡ Some a
      → (b : Descriptor) × (get d.descriptors fd ≡ Some b) × IsFile layer (known q fd) a b
  file_of fd a e = by (get d.descriptors fd) refl
      (subst (λ z. Both (IsFile layer (known q fd)) z (get d.descriptors fd)) e (w.files fd))
    where
      by : (o : Option Descriptor) → get d.descriptors fd ≡ o → Both (IsFile layer (known q fd)) (Some a) o
          → (b : Descriptor) × (get d.descriptors fd ≡ Some b) × IsFile layer (known q fd) a b
      by None is f = absurd f
      by (Some b) is f = (b, is, f)

  -- where nothing was denied
  allowed_file : (fd size : ℕ) (r : Reply) → before_policy s c (Ftruncate fd size) ≡ []
      → kept_denials (get c.descriptors fd) ≡ [] → kept_denials (get d.descriptors fd) ≡ []
      → Allows layer s known (entry q (Ftruncate fd size) r)
  allowed_file fd size r free old new =
      let a = truncated fd size free in
      let b = file_of fd a.0 a.1 in
      granted_there layer (known q fd) (both_true (is_none a.0.kept) _
      (sym b.2.kept ∙ none_kept b.0 (ap kept_denials (sym b.1) ∙ new)))

  file_allowed : (fd size : ℕ) (r : Reply) → before_policy s c (Ftruncate fd size) ≡ []
      → kept_denials (get c.descriptors fd) ≡ [] → Allows layer s known (entry q (Ftruncate fd size) r)
      → kept_denials (get d.descriptors fd) ≡ []
  file_allowed fd size r free old now =
      let a = truncated fd size free in
      let b = file_of fd a.0 a.1 in
      ap kept_denials b.1 ∙ keeps_none b.0 (b.2.kept
      ∙ (λ i. none_kept a.0 (ap kept_denials (sym a.1) ∙ old) i && there_granted layer (known q fd) now i))

  abbrev asks : Call → List Layer → List Denial
  asks call domain = all_denials (grants s) domain (asked s call) (moved s call)

  one_of : (call : Call) → asks call c.domain ≡ [] → asks call d.domain ≡ [] → asks call (layer ∷ []) ≡ []
  one_of call old new = one_allows (grants s) (asked s call) (moved s call) w.front layer w.back
      (ap (asks call) (sym w.is) ∙ new)

  all_of : (call : Call) → asks call c.domain ≡ [] → asks call (layer ∷ []) ≡ [] → asks call d.domain ≡ []
  all_of call old one = ap (asks call) w.is
      ∙ more_allow (grants s) (asked s call) (moved s call) w.front layer w.back (ap (asks call) (sym w.was) ∙ old) one

  pub allowed : (call : Call) (r : Reply) → before_policy s c call ≡ [] → call_denials s c call ≡ []
      → call_denials (with_all s m) d call ≡ [] → Allows layer s known (entry q call r)
  allowed (Make kind t) r free old new = one_of (Make kind t) old new
  allowed (Open mode t) r free old new = one_of (Open mode t) old new
  allowed (Read fd offset size) r free old new = one_of (Read fd offset size) old new
  allowed (Write fd offset bytes) r free old new = one_of (Write fd offset bytes) old new
  allowed (Ftruncate fd size) r free old new = allowed_file fd size r free old new
  allowed (Close fd) r free old new = one_of (Close fd) old new
  allowed (Truncate t size) r free old new = one_of (Truncate t size) old new
  allowed (ReadDir t) r free old new = one_of (ReadDir t) old new
  allowed (Stat t) r free old new = one_of (Stat t) old new
  allowed (Exec t) r free old new = one_of (Exec t) old new
  allowed (Unlink t) r free old new = one_of (Unlink t) old new
  allowed (Rmdir t) r free old new = one_of (Rmdir t) old new
  allowed (Rename o n) r free old new = one_of (Rename o n) old new
  allowed (RenameNoreplace o n) r free old new = one_of (RenameNoreplace o n) old new
  allowed (Exchange o n) r free old new = one_of (Exchange o n) old new
  allowed (Link o n) r free old new = one_of (Link o n) old new
  allowed (Ruleset rights) r free old new = one_of (Ruleset rights) old new
  allowed (Allow rs t rights) r free old new = one_of (Allow rs t rights) old new
  allowed (Confine rs) r free old new = one_of (Confine rs) old new
  allowed Spawn r free old new = one_of Spawn old new
  allowed Connect r free old new = one_of Connect old new

  pub allowing : (call : Call) (r : Reply) → before_policy s c call ≡ [] → call_denials s c call ≡ []
      → Allows layer s known (entry q call r) → call_denials (with_all s m) d call ≡ []
  allowing (Make kind t) r free old now = all_of (Make kind t) old now
  allowing (Open mode t) r free old now = all_of (Open mode t) old now
  allowing (Read fd offset size) r free old now = all_of (Read fd offset size) old now
  allowing (Write fd offset bytes) r free old now = all_of (Write fd offset bytes) old now
  allowing (Ftruncate fd size) r free old now = file_allowed fd size r free old now
  allowing (Close fd) r free old now = all_of (Close fd) old now
  allowing (Truncate t size) r free old now = all_of (Truncate t size) old now
  allowing (ReadDir t) r free old now = all_of (ReadDir t) old now
  allowing (Stat t) r free old now = all_of (Stat t) old now
  allowing (Exec t) r free old now = all_of (Exec t) old now
  allowing (Unlink t) r free old now = all_of (Unlink t) old now
  allowing (Rmdir t) r free old now = all_of (Rmdir t) old now
  allowing (Rename o n) r free old now = all_of (Rename o n) old now
  allowing (RenameNoreplace o n) r free old now = all_of (RenameNoreplace o n) old now
  allowing (Exchange o n) r free old now = all_of (Exchange o n) old now
  allowing (Link o n) r free old now = all_of (Link o n) old now
  allowing (Ruleset rights) r free old now = all_of (Ruleset rights) old now
  allowing (Allow rs t rights) r free old now = all_of (Allow rs t rights) old now
  allowing (Confine rs) r free old now = all_of (Confine rs) old now
  allowing Spawn r free old now = all_of Spawn old now
  allowing Connect r free old now = all_of Connect old now

-- whom the layer isn't on is denied what it was denied
pub denied_same : (s : State) (m : Map nat_cmp ClientRecord) (c : ClientRecord) (call : Call)
    → call_denials (with_all s m) c call ≡ call_denials s c call
denied_same s m c (Make kind t) = refl
denied_same s m c (Open mode t) = refl
denied_same s m c (Read fd offset size) = refl
denied_same s m c (Write fd offset bytes) = refl
denied_same s m c (Ftruncate fd size) = refl
denied_same s m c (Close fd) = refl
denied_same s m c (Truncate t size) = refl
denied_same s m c (ReadDir t) = refl
denied_same s m c (Stat t) = refl
denied_same s m c (Exec t) = refl
denied_same s m c (Unlink t) = refl
denied_same s m c (Rmdir t) = refl
denied_same s m c (Rename o n) = refl
denied_same s m c (RenameNoreplace o n) = refl
denied_same s m c (Exchange o n) = refl
denied_same s m c (Link o n) = refl
denied_same s m c (Ruleset rights) = refl
denied_same s m c (Allow rs t rights) = refl
denied_same s m c (Confine rs) = refl
denied_same s m c Spawn = refl
denied_same s m c Connect = refl
