-- Clients whose layers grant the same get the same replies.
use Rattle.std.specs.Prelude.{◌≡◌, ℕ, zero, suc, true, List, [], ◌∷◌, ◌++◌, length, map, refl}
use Rattle.std.specs.Prelude.{is_none, nat_le, slice_get}
use Rattle.std.specs.Ordering.{nat_cmp}
use Rattle.std.proofs.Common.{ap, sym, ◌∙◌, arith}
use Rattle.std.proofs.lemmas.List.Elements.{length_all_zip}
use Rattle.ll_rights.specs.declared.errno.Errno.TheVariants.{E2BIG, EBADF, EMFILE}
use Rattle.ll_rights.specs.declared.limits.TheConstants.{CLIENT_RULESETS, TREE_CLIENTS, DOMAIN_LAYERS}
use Rattle.ll_rights.specs.Errno.{refuse}
use Rattle.ll_rights.specs.Map.{Map, len}
use Rattle.ll_rules.specs.Layer.{Layer}
use Rattle.ll_rules.specs.Rules.{rule_limit, rule_refusals}
use Rattle.ll_seq.specs.declared.call.Call.{Call}
use Rattle.ll_seq.specs.declared.call.Call.TheVariants.{Make, Open, Read, Write, Ftruncate, Close, Truncate, ReadDir}
use Rattle.ll_seq.specs.declared.call.Call.TheVariants.{Stat, Exec, Unlink, Rmdir, Rename, RenameNoreplace, Exchange}
use Rattle.ll_seq.specs.declared.call.Call.TheVariants.{Link, Ruleset, Allow, Confine, Spawn, Connect}
use Rattle.ll_seq.specs.declared.client.ClientRecord.{ClientRecord}
use Rattle.ll_seq.specs.declared.reply.Reply.{Reply}
use Rattle.ll_seq.specs.declared.reply.Reply.TheVariants.{Created, Refused, Denied}
use Rattle.ll_seq.specs.Asked.{call_denials}
use Rattle.ll_seq.specs.Call.{first_path, path_of, second_path}
use Rattle.ll_seq.specs.CallParts.{asked, done, existence_refusals, kind_refusals, limit_refusals, moved}
use Rattle.ll_seq.specs.Stages.{number_refusals, relation_refusals, ruleset_at, text_refusals, walk_refusals}
use Rattle.ll_seq.specs.State.{State}
use Rattle.ll_seq.specs.Step.{first_or, refusals}
use Rattle.ll_seq.specs.Tree.{inode_of, kind_at}
use Rattle.ll_why.specs.SameVerdicts.{adds_rule}
use Rattle.ll_why.proofs.GrantedAlike.{AreAlike, denials_same}

-- with other clients
abbrev pub with_clients : State → Map nat_cmp ClientRecord → State
with_clients s clients = record s { clients = clients }

-- with other layers and rulesets
abbrev pub with_layers : ClientRecord → List Layer → List Layer → ClientRecord
with_layers c domain rulesets = record c { domain = domain; rulesets = rulesets }

none_same : {A : Type 0} (xs ys : List A) → length ys ≡ length xs → (n : ℕ)
    → is_none (slice_get ys n) ≡ is_none (slice_get xs n)
none_same [] [] e n = refl
none_same [] (y ∷ ys) e n = absurd (omega arith)
none_same (x ∷ xs) [] e n = absurd (omega arith)
none_same (x ∷ xs) (y ∷ ys) e zero = refl
none_same (x ∷ xs) (y ∷ ys) e (suc n) = none_same xs ys (omega arith) n

first_same : (s t : State) (replies : List Reply) (a b : Reply × State) → b.0 ≡ a.0
    → (first_or t replies b).0 ≡ (first_or s replies a).0
first_same s t [] a b e = e
first_same s t (reply ∷ replies) a b e = refl

module _ (s : State) (m : Map nat_cmp ClientRecord) (count : len m ≡ len s.clients) (c : ClientRecord)
    (domain rulesets : List Layer) (many : length rulesets ≡ length c.rulesets)
    (alike : AreAlike s c.domain domain) where
  abbrev d : ClientRecord
  d = with_layers c domain rulesets

  abbrev t : State
  t = with_clients s m

  -- the call is answered by no ruleset, or the rulesets are the same
  abbrev Fits : Call → Type 0
  Fits call = adds_rule call ≡ true → rulesets ≡ c.rulesets

  numbers_same : (call : Call) → number_refusals d call ≡ number_refusals c call
  numbers_same (Make kind t) = refl
  numbers_same (Open mode t) = refl
  numbers_same (Read fd offset size) = refl
  numbers_same (Write fd offset bytes) = refl
  numbers_same (Ftruncate fd size) = refl
  numbers_same (Close fd) = refl
  numbers_same (Truncate t size) = refl
  numbers_same (ReadDir t) = refl
  numbers_same (Stat t) = refl
  numbers_same (Exec t) = refl
  numbers_same (Unlink t) = refl
  numbers_same (Rmdir t) = refl
  numbers_same (Rename o n) = refl
  numbers_same (RenameNoreplace o n) = refl
  numbers_same (Exchange o n) = refl
  numbers_same (Link o n) = refl
  numbers_same (Ruleset rights) = refl
  numbers_same (Allow rs t rights) = ap (λ b. refuse b EBADF) (none_same c.rulesets rulesets many rs)
  numbers_same (Confine rs) = ap (λ b. refuse b EBADF) (none_same c.rulesets rulesets many rs)
  numbers_same Spawn = refl
  numbers_same Connect = refl

  existence_same : (call : Call) → existence_refusals t call (first_path call) (second_path call)
      ≡ existence_refusals s call (first_path call) (second_path call)
  existence_same (Make kind t) = refl
  existence_same (Open mode t) = refl
  existence_same (Read fd offset size) = refl
  existence_same (Write fd offset bytes) = refl
  existence_same (Ftruncate fd size) = refl
  existence_same (Close fd) = refl
  existence_same (Truncate t size) = refl
  existence_same (ReadDir t) = refl
  existence_same (Stat t) = refl
  existence_same (Exec t) = refl
  existence_same (Unlink t) = refl
  existence_same (Rmdir t) = refl
  existence_same (Rename o n) = refl
  existence_same (RenameNoreplace o n) = refl
  existence_same (Exchange o n) = refl
  existence_same (Link o n) = refl
  existence_same (Ruleset rights) = refl
  existence_same (Allow rs t rights) = refl
  existence_same (Confine rs) = refl
  existence_same Spawn = refl
  existence_same Connect = refl

  by_layers : (call : Call) → call_denials s d call ≡ call_denials s c call
  by_layers (Make kind t) = denials_same s (asked s (Make kind t)) (moved s (Make kind t)) c.domain domain alike
  by_layers (Open mode t) = denials_same s (asked s (Open mode t)) (moved s (Open mode t)) c.domain domain alike
  by_layers (Read fd offset size) = denials_same s [] [] c.domain domain alike
  by_layers (Write fd offset bytes) = denials_same s [] [] c.domain domain alike
  by_layers (Ftruncate fd size) = refl
  by_layers (Close fd) = denials_same s [] [] c.domain domain alike
  by_layers (Truncate t size) =
      denials_same s (asked s (Truncate t size)) (moved s (Truncate t size)) c.domain domain alike
  by_layers (ReadDir t) = denials_same s (asked s (ReadDir t)) (moved s (ReadDir t)) c.domain domain alike
  by_layers (Stat t) = denials_same s [] [] c.domain domain alike
  by_layers (Exec t) = denials_same s (asked s (Exec t)) (moved s (Exec t)) c.domain domain alike
  by_layers (Unlink t) = denials_same s (asked s (Unlink t)) (moved s (Unlink t)) c.domain domain alike
  by_layers (Rmdir t) = denials_same s (asked s (Rmdir t)) (moved s (Rmdir t)) c.domain domain alike
  by_layers (Rename o n) = denials_same s (asked s (Rename o n)) (moved s (Rename o n)) c.domain domain alike
  by_layers (RenameNoreplace o n) =
      denials_same s (asked s (RenameNoreplace o n)) (moved s (RenameNoreplace o n)) c.domain domain alike
  by_layers (Exchange o n) = denials_same s (asked s (Exchange o n)) (moved s (Exchange o n)) c.domain domain alike
  by_layers (Link o n) = denials_same s (asked s (Link o n)) (moved s (Link o n)) c.domain domain alike
  by_layers (Ruleset rights) = denials_same s [] [] c.domain domain alike
  by_layers (Allow rs t rights) = denials_same s [] [] c.domain domain alike
  by_layers (Confine rs) = denials_same s [] [] c.domain domain alike
  by_layers Spawn = denials_same s [] [] c.domain domain alike
  by_layers Connect = denials_same s [] [] c.domain domain alike

  by_clients : (call : Call) → call_denials t d call ≡ call_denials s d call
  by_clients (Make kind t) = refl
  by_clients (Open mode t) = refl
  by_clients (Read fd offset size) = refl
  by_clients (Write fd offset bytes) = refl
  by_clients (Ftruncate fd size) = refl
  by_clients (Close fd) = refl
  by_clients (Truncate t size) = refl
  by_clients (ReadDir t) = refl
  by_clients (Stat t) = refl
  by_clients (Exec t) = refl
  by_clients (Unlink t) = refl
  by_clients (Rmdir t) = refl
  by_clients (Rename o n) = refl
  by_clients (RenameNoreplace o n) = refl
  by_clients (Exchange o n) = refl
  by_clients (Link o n) = refl
  by_clients (Ruleset rights) = refl
  by_clients (Allow rs t rights) = refl
  by_clients (Confine rs) = refl
  by_clients Spawn = refl
  by_clients Connect = refl

  kinds_same : (call : Call) → Fits call → kind_refusals t d call (first_path call) (second_path call)
      ≡ kind_refusals s c call (first_path call) (second_path call)
  kinds_same (Make kind t) h = refl
  kinds_same (Open mode t) h = refl
  kinds_same (Read fd offset size) h = refl
  kinds_same (Write fd offset bytes) h = refl
  kinds_same (Ftruncate fd size) h = refl
  kinds_same (Close fd) h = refl
  kinds_same (Truncate t size) h = refl
  kinds_same (ReadDir t) h = refl
  kinds_same (Stat t) h = refl
  kinds_same (Exec t) h = refl
  kinds_same (Unlink t) h = refl
  kinds_same (Rmdir t) h = refl
  kinds_same (Rename o n) h = refl
  kinds_same (RenameNoreplace o n) h = refl
  kinds_same (Exchange o n) h = refl
  kinds_same (Link o n) h = refl
  kinds_same (Ruleset rights) h = refl
  kinds_same (Allow rs t rights) h =
      ap (λ (all : List Layer).
      rule_refusals (ruleset_at (with_layers c domain all) rs) (kind_at s (path_of t)) rights.0) (h refl)
  kinds_same (Confine rs) h = refl
  kinds_same Spawn h = refl
  kinds_same Connect h = refl

  limits_same : (call : Call) → Fits call → limit_refusals t d call (first_path call) (second_path call)
      ≡ limit_refusals s c call (first_path call) (second_path call)
  limits_same (Make kind t) h = refl
  limits_same (Open mode t) h = refl
  limits_same (Read fd offset size) h = refl
  limits_same (Write fd offset bytes) h = refl
  limits_same (Ftruncate fd size) h = refl
  limits_same (Close fd) h = refl
  limits_same (Truncate t size) h = refl
  limits_same (ReadDir t) h = refl
  limits_same (Stat t) h = refl
  limits_same (Exec t) h = refl
  limits_same (Unlink t) h = refl
  limits_same (Rmdir t) h = refl
  limits_same (Rename o n) h = refl
  limits_same (RenameNoreplace o n) h = refl
  limits_same (Exchange o n) h = refl
  limits_same (Link o n) h = refl
  limits_same (Ruleset rights) h = ap (λ k. refuse (nat_le CLIENT_RULESETS k) EMFILE) many
  limits_same (Allow rs t rights) h =
      ap (λ (all : List Layer). rule_limit (ruleset_at (with_layers c domain all) rs) (inode_of s (path_of t))) (h refl)
  limits_same (Confine rs) h =
      ap (λ k. refuse (nat_le DOMAIN_LAYERS k) E2BIG) (sym (length_all_zip _ c.domain domain alike))
  limits_same Spawn h = ap (λ k. refuse (nat_le TREE_CLIENTS k) EMFILE) count
  limits_same Connect h = ap (λ k. refuse (nat_le TREE_CLIENTS k) EMFILE) count

  refusals_same : (call : Call) → Fits call → refusals t d call ≡ refusals s c call
  refusals_same call h = λ i.
      map Refused (text_refusals call)
      ++ map Refused (numbers_same call i)
      ++ map Refused (relation_refusals call (first_path call) (second_path call))
      ++ map Refused (walk_refusals s call)
      ++ map Refused (existence_same call i)
      ++ map Denied ((by_clients call ∙ by_layers call) i)
      ++ map Refused (kinds_same call h i)
      ++ map Refused (limits_same call h i)

  answer_same : (old new : ℕ) (call : Call) (fresh : ℕ)
      → (done t new d call (first_path call) (second_path call) fresh).0
      ≡ (done s old c call (first_path call) (second_path call) fresh).0
  answer_same old new (Make kind t) fresh = refl
  answer_same old new (Open mode t) fresh = refl
  answer_same old new (Read fd offset size) fresh = refl
  answer_same old new (Write fd offset bytes) fresh = refl
  answer_same old new (Ftruncate fd size) fresh = refl
  answer_same old new (Close fd) fresh = refl
  answer_same old new (Truncate t size) fresh = refl
  answer_same old new (ReadDir t) fresh = refl
  answer_same old new (Stat t) fresh = refl
  answer_same old new (Exec t) fresh = refl
  answer_same old new (Unlink t) fresh = refl
  answer_same old new (Rmdir t) fresh = refl
  answer_same old new (Rename o n) fresh = refl
  answer_same old new (RenameNoreplace o n) fresh = refl
  answer_same old new (Exchange o n) fresh = refl
  answer_same old new (Link o n) fresh = refl
  answer_same old new (Ruleset rights) fresh = ap Created many
  answer_same old new (Allow rs t rights) fresh = refl
  answer_same old new (Confine rs) fresh = refl
  answer_same old new Spawn fresh = refl
  answer_same old new Connect fresh = refl

  pub replies_same : (old new : ℕ) (call : Call) (fresh : ℕ) → Fits call
      → (first_or t (refusals t d call) (done t new d call (first_path call) (second_path call) fresh)).0
      ≡ (first_or s (refusals s c call) (done s old c call (first_path call) (second_path call) fresh)).0
  replies_same old new call fresh h =
      ap (λ (rs : List Reply). (first_or t rs (done t new d call (first_path call) (second_path call) fresh)).0)
      (refusals_same call h)
      ∙ first_same s t (refusals s c call) _ _ (answer_same old new call fresh)
