use Rattle.std.proofs.Common.{◌≡◌, codes, List, ℕ, Ok, Err, refl, sym, subst, rules}
use Rattle.std.specs.Result.{MatchResult}
use Rattle.ll_seq.specs.declared.call.Call.TheVariants.{ReadDir, Stat, Exec, Unlink, Rmdir, Rename, RenameNoreplace}
use Rattle.ll_seq.specs.declared.call.Call.TheVariants.{Exchange, Link}
use Rattle.ll_wire.specs.Parts.{ReadsCall}
use Rattle.ll_wire.proofs.FirstTokens.{parted, mapped, list_is, stat_is, exec_is, unlink_is, rmdir_is, call_reads}
use Rattle.ll_wire.proofs.FirstTokens.{rename_is, rename_noreplace_is, exchange_is, link_is, pair_reads}
use Rattle.ll_wire.proofs.read.call_of.Goals as goal

pub returns-in-make : goal.returns-in-make
returns-in-make c = subst (λ (tokens : List (List ℕ)). ReadsCall tokens c.make.result)
    (sym (parted (codes "make") _ _ c.in-len1-up.len_at_least c.in-make.is)) c.make.ensures

pub returns-in-open : goal.returns-in-open
returns-in-open c = subst (λ (tokens : List (List ℕ)). ReadsCall tokens c.open.result)
    (sym (parted (codes "open") _ _ c.in-len1-up.len_at_least c.in-open.is)) c.open.ensures

pub returns-in-read : goal.returns-in-read
returns-in-read c = subst (λ (tokens : List (List ℕ)). ReadsCall tokens c.read.result)
    (sym (parted (codes "read") _ _ c.in-len1-up.len_at_least c.in-read.is)) c.read.ensures

pub returns-in-write : goal.returns-in-write
returns-in-write c = subst (λ (tokens : List (List ℕ)). ReadsCall tokens c.write.result)
    (sym (parted (codes "write") _ _ c.in-len1-up.len_at_least c.in-write.is)) c.write.ensures

pub returns-in-ftruncate : goal.returns-in-ftruncate
returns-in-ftruncate c = subst (λ (tokens : List (List ℕ)). ReadsCall tokens c.ftruncate.result)
    (sym (parted (codes "ftruncate") _ _ c.in-len1-up.len_at_least c.in-ftruncate.is)) c.ftruncate.ensures

pub returns-in-close : goal.returns-in-close
returns-in-close c = subst (λ (tokens : List (List ℕ)). ReadsCall tokens c.close.result)
    (sym (parted (codes "close") _ _ c.in-len1-up.len_at_least c.in-close.is)) c.close.ensures

pub returns-in-truncate : goal.returns-in-truncate
returns-in-truncate c = subst (λ (tokens : List (List ℕ)). ReadsCall tokens c.truncate.result)
    (sym (parted (codes "truncate") _ _ c.in-len1-up.len_at_least c.in-truncate.is)) c.truncate.ensures

pub returns-in-list : goal.returns-in-list
returns-in-list c = call_reads (codes "list") ReadDir list_is (λ target is. (is, refl)) (λ target. refl) _ _ _ _
    (parted _ _ _ c.in-len1-up.len_at_least c.in-list.is) (mapped ReadDir _ _ c.map.ensures.cases) c.only_target.ensures

pub returns-in-stat : goal.returns-in-stat
returns-in-stat c = call_reads (codes "stat") Stat stat_is (λ target is. (is, refl)) (λ target. refl) _ _ _ _
    (parted _ _ _ c.in-len1-up.len_at_least c.in-stat.is) (mapped Stat _ _ c.map-in-stat.ensures.cases)
    c.only_target-in-stat.ensures

pub returns-in-exec : goal.returns-in-exec
returns-in-exec c = call_reads (codes "exec") Exec exec_is (λ target is. (is, refl)) (λ target. refl) _ _ _ _
    (parted _ _ _ c.in-len1-up.len_at_least c.in-exec.is) (mapped Exec _ _ c.map-in-exec.ensures.cases)
    c.only_target-in-exec.ensures

pub returns-in-unlink : goal.returns-in-unlink
returns-in-unlink c = call_reads (codes "unlink") Unlink unlink_is (λ target is. (is, refl)) (λ target. refl) _ _ _ _
    (parted _ _ _ c.in-len1-up.len_at_least c.in-unlink.is) (mapped Unlink _ _ c.map-in-unlink.ensures.cases)
    c.only_target-in-unlink.ensures

pub returns-in-rmdir : goal.returns-in-rmdir
returns-in-rmdir c = call_reads (codes "rmdir") Rmdir rmdir_is (λ target is. (is, refl)) (λ target. refl) _ _ _ _
    (parted _ _ _ c.in-len1-up.len_at_least c.in-rmdir.is) (mapped Rmdir _ _ c.map-in-rmdir.ensures.cases)
    c.only_target-in-rmdir.ensures

pub returns-in-rename : goal.returns-in-rename
returns-in-rename c =
    let made : MatchResult c.two_targets.result (λ targets. c.map-in-rename.result ≡ Ok (Rename targets.0 targets.1))
    (λ e. c.map-in-rename.result ≡ Err e) = search rules in
    pair_reads (codes "rename") (λ targets. Rename targets.0 targets.1) rename_is
    (λ targets old new. ((old, new), refl)) (λ targets. refl) _ _ _ _
    (parted _ _ _ c.in-len1-up.len_at_least c.in-rename.is) made c.two_targets.ensures

pub returns-in-rename_noreplace : goal.returns-in-rename_noreplace
returns-in-rename_noreplace c =
    let made : MatchResult c.two_targets-in-rename_noreplace.result
    (λ targets. c.map-in-rename_noreplace.result ≡ Ok (RenameNoreplace targets.0 targets.1))
    (λ e. c.map-in-rename_noreplace.result ≡ Err e) = search rules in
    pair_reads (codes "rename_noreplace") (λ targets. RenameNoreplace targets.0 targets.1) rename_noreplace_is
    (λ targets old new. ((old, new), refl)) (λ targets. refl) _ _ _ _
    (parted _ _ _ c.in-len1-up.len_at_least c.in-rename_noreplace.is) made c.two_targets-in-rename_noreplace.ensures

pub returns-in-exchange : goal.returns-in-exchange
returns-in-exchange c =
    let made : MatchResult c.two_targets-in-exchange.result
    (λ targets. c.map-in-exchange.result ≡ Ok (Exchange targets.0 targets.1))
    (λ e. c.map-in-exchange.result ≡ Err e) = search rules in
    pair_reads (codes "exchange") (λ targets. Exchange targets.0 targets.1) exchange_is
    (λ targets old new. ((old, new), refl)) (λ targets. refl) _ _ _ _
    (parted _ _ _ c.in-len1-up.len_at_least c.in-exchange.is) made c.two_targets-in-exchange.ensures

pub returns-in-link : goal.returns-in-link
returns-in-link c =
    let made : MatchResult c.two_targets-in-link.result
    (λ targets. c.map-in-link.result ≡ Ok (Link targets.0 targets.1)) (λ e. c.map-in-link.result ≡ Err e) =
    search rules in
    pair_reads (codes "link") (λ targets. Link targets.0 targets.1) link_is (λ targets old new. ((old, new), refl))
    (λ targets. refl) _ _ _ _ (parted _ _ _ c.in-len1-up.len_at_least c.in-link.is) made
    c.two_targets-in-link.ensures

pub returns-in-ruleset : goal.returns-in-ruleset
returns-in-ruleset c = subst (λ (tokens : List (List ℕ)). ReadsCall tokens c.ruleset.result)
    (sym (parted (codes "ruleset") _ _ c.in-len1-up.len_at_least c.in-ruleset.is)) c.ruleset.ensures

pub returns-in-allow : goal.returns-in-allow
returns-in-allow c = subst (λ (tokens : List (List ℕ)). ReadsCall tokens c.allow.result)
    (sym (parted (codes "allow") _ _ c.in-len1-up.len_at_least c.in-allow.is)) c.allow.ensures

pub returns-in-confine : goal.returns-in-confine
returns-in-confine c = subst (λ (tokens : List (List ℕ)). ReadsCall tokens c.confine.result)
    (sym (parted (codes "confine") _ _ c.in-len1-up.len_at_least c.in-confine.is)) c.confine.ensures

pub returns-in-spawn : goal.returns-in-spawn
returns-in-spawn c = subst (λ (tokens : List (List ℕ)). ReadsCall tokens c.spawn.result)
    (sym (parted (codes "spawn") _ _ c.in-len1-up.len_at_least c.in-spawn.is)) c.spawn.ensures
