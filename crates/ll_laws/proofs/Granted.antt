-- What is granted where no denial stands.
use Rattle.std.specs.Prelude.{◌≡◌, ℕ, Bool, true, false, not, ◌&&◌, ◌==◌, List, [], ◌∷◌, ◌++◌, Some, is_some, refl}
use Rattle.std.specs.Prelude.{Contains}
use Rattle.std.proofs.Common.{sym, ap, ◌∙◌, inl, inr}
use Rattle.std.proofs.lemmas.Bool.{eq-eqb}
use Rattle.ll_rights.specs.declared.kind.Kind.{Kind}
use Rattle.ll_rights.specs.declared.kind.Kind.TheVariants.{Dir}
use Rattle.ll_rights.specs.Right.{all_rights, make_reg, read_file, write_file, truncate, refer}
use Rattle.ll_path.specs.Path.{Path, parent}
use Rattle.ll_path.specs.declared.target.Target.{Target}
use Rattle.ll_rules.specs.Layer.{Layer}
use Rattle.ll_decide.specs.declared.denial.Cause.TheVariants.{EACCES, EXDEV}
use Rattle.ll_decide.specs.declared.denial.Place.TheVariants.{At}
use Rattle.ll_decide.specs.Verdict.{Ask, Move, all_denials, gains, is_at, lacks, denials, places, rights_without_refer}
use Rattle.ll_decide.specs.Verdict.{when}
use Rattle.ll_seq.specs.declared.client.ClientRecord.{ClientRecord}
use Rattle.ll_seq.specs.declared.call.Mode.{Mode}
use Rattle.ll_seq.specs.declared.call.Call.TheVariants.{Open, Truncate}
use Rattle.ll_seq.specs.Call.{reads, writes, path_of}
use Rattle.ll_seq.specs.State.{State, root, kind_of}
use Rattle.ll_seq.specs.Tree.{named}
use Rattle.ll_seq.specs.Asked.{grants, call_denials}
use Rattle.ll_seq.specs.CallParts.{asked, moved, is_relevant}
use Rattle.ll_seq.specs.Reach.{InReach}
use Rattle.ll_seq.proofs.Parted.{last}
use Rattle.ll_laws.proofs.Relevant.{for_bytes}
use Rattle.ll_laws.proofs.Trees.{IsTree}
use Rattle.ll_laws.proofs.Unrefused.{IsIn, in_left, in_right, in_when, nil_left, none_passes, none_denied}

-- a right that is asked on the call's path
abbrev one : Path → ℕ → Ask Path
one path right = record { path = path; right = right; place = At }

must_grant : (b c : Bool) → b ≡ true → (b && true && not c) ≡ false → c ≡ true
must_grant true true e f = refl
must_grant true false e f = absurd (cc f)
must_grant false c e f = absurd (cc e)

pub read_is : IsIn rights_without_refer read_file
read_is = inr (inr (inl refl))

pub write_is : IsIn rights_without_refer write_file
write_is = inr (inl refl)

pub truncate_is : IsIn rights_without_refer truncate
truncate_is = inr (inr (inr (inr (inr (inr (inr (inr (inr (inr (inr (inr (inr (inl refl)))))))))))))

-- what is asked, and not denied, is granted
granted_asked : (s : State) (layers : List Layer) (asks : List (Ask Path)) (moves : List (Move Path))
    → all_denials (grants s) layers asks moves ≡ [] → (p : Path) (right : ℕ) → IsIn rights_without_refer right
    → IsIn asks (one p right) → (layer : Layer) → Contains layers layer → grants s layer p right ≡ true
granted_asked s layers asks moves none p right r i layer l =
    let refers = denials EXDEV layers (refer ∷ []) places (lacks (grants s) asks) in
    let gained = denials EXDEV layers all_rights places (gains (grants s) moves) in
    let missing : denials EACCES layers rights_without_refer places (lacks (grants s) asks) ≡ [] =
    nil_left _ refers (nil_left _ gained none) in
    let lacking : lacks (grants s) asks layer right At ≡ false =
    none_denied EACCES layers rights_without_refer places (lacks (grants s) asks) missing layer l right r At
    (inl refl) in
    must_grant (right == right) (grants s layer p right) (eq-eqb right right refl)
    (none_passes (λ (a : Ask Path). (a.right == right) && is_at a.place At && not (grants s layer a.path right)) asks
    (one p right) lacking i)

-- ---- what an opening and a truncate must be granted

pub open_granted : (s : State) (c : ClientRecord) (mode : Mode) (t : Target) (right : ℕ)
    → call_denials s c (Open mode t) ≡ [] → IsIn rights_without_refer right
    → IsIn (asked s (Open mode t)) (one (path_of t) right) → (layer : Layer) → Contains c.domain layer
    → grants s layer (path_of t) right ≡ true
open_granted s c mode t right none r i =
    granted_asked s c.domain (asked s (Open mode t)) (moved s (Open mode t)) none (path_of t) right r i

pub truncate_granted : (s : State) (c : ClientRecord) (t : Target) (size : ℕ) → call_denials s c (Truncate t size) ≡ []
    → (layer : Layer) → Contains c.domain layer → grants s layer (path_of t) truncate ≡ true
truncate_granted s c t size none =
    granted_asked s c.domain (asked s (Truncate t size)) (moved s (Truncate t size)) none (path_of t) truncate
    truncate_is (inl refl)

module _ (s : State) (mode : Mode) (t : Target) where
  abbrev p : Path
  p = path_of t

  abbrev exists : Bool
  exists = is_some (named s p)

  abbrev making : List (Ask Path)
  making = when (not exists) (one (parent p) make_reg ∷ [])

  abbrev reading : List (Ask Path)
  reading = when (reads mode.access) (one p read_file ∷ [])

  abbrev writing : List (Ask Path)
  writing = when (writes mode.access) (one p write_file ∷ [])

  abbrev cutting : List (Ask Path)
  cutting = when (mode.truncate && exists) (one p truncate ∷ [])

  pub reading_asked : reads mode.access ≡ true → IsIn (asked s (Open mode t)) (one p read_file)
  reading_asked e =
      in_left (making ++ reading ++ writing) cutting (one p read_file)
      (in_left (making ++ reading) writing (one p read_file)
      (in_right making reading (one p read_file) (in_when (reads mode.access) (one p read_file) e)))

  pub writing_asked : writes mode.access ≡ true → IsIn (asked s (Open mode t)) (one p write_file)
  writing_asked e = in_left (making ++ reading ++ writing) cutting (one p write_file)
      (in_right (making ++ reading) writing (one p write_file) (in_when (writes mode.access) (one p write_file) e))

  pub truncating_asked : mode.truncate ≡ true → exists ≡ true → IsIn (asked s (Open mode t)) (one p truncate)
  truncating_asked e x = in_right (making ++ reading ++ writing) cutting (one p truncate)
      (in_when (mode.truncate && exists) (one p truncate) (both _ _ e x))
    where
      both : (a b : Bool) → a ≡ true → b ≡ true → (a && b) ≡ true
      both true b f g = g
      both false b f g = absurd (cc f)

-- ---- a path that names a node

pub kind_known : (s : State) → IsTree s → (q : Path) (x : ℕ) → named s q ≡ Some x → (k : Kind) × (kind_of s x ≡ Some k)
kind_known s t q x e = elim (last s q root x e) [
  | inl a ↦ (Dir, ap (kind_of s) (sym a.1) ∙ t.root_node)
  | inr l ↦ t.known l.directory l.name x l.names
]

pub reached : (s : State) → IsTree s → (layer : Layer) (q : Path) (x right : ℕ) → named s q ≡ Some x
    → ((k : Kind) → is_relevant (Some k) right ≡ true) → grants s layer q right ≡ true → InReach s layer x right
reached s t layer q x right e relevant g =
    let k = kind_known s t q x e in
    record { path = q; names = e; relevant = ap (λ z. is_relevant z right) k.1 ∙ relevant k.0; granted = g }

pub may_read : (s : State) → IsTree s → (layer : Layer) (q : Path) (x : ℕ) → named s q ≡ Some x
    → grants s layer q read_file ≡ true → InReach s layer x read_file
may_read s t layer q x e g = reached s t layer q x read_file e (λ k. (for_bytes k).0) g

pub may_write : (s : State) → IsTree s → (layer : Layer) (q : Path) (x : ℕ) → named s q ≡ Some x
    → grants s layer q write_file ≡ true → InReach s layer x write_file
may_write s t layer q x e g = reached s t layer q x write_file e (λ k. (for_bytes k).1) g

pub may_truncate : (s : State) → IsTree s → (layer : Layer) (q : Path) (x : ℕ) → named s q ≡ Some x
    → grants s layer q truncate ≡ true → InReach s layer x truncate
may_truncate s t layer q x e g = reached s t layer q x truncate e (λ k. (for_bytes k).2) g
