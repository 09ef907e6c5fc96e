use Rattle.std.proofs.Common.{codes, List, ℕ, refl, sym, subst}
use Rattle.ll_seq.specs.declared.reply.Reply.TheVariants.{Opened, Wrote, Found, Created, Spawned, Refused, Denied}
use Rattle.ll_wire.specs.Reads.{Finds}
use Rattle.ll_wire.proofs.FirstTokens.{parted}
use Rattle.ll_wire.proofs.OneReply.{opened_is, wrote_is, created_is, spawned_is, found_is, refused_is, denied_is}
use Rattle.ll_wire.proofs.ReadReplies.{SpellsShort, mapped_some, number_finds, value_finds}
use Rattle.ll_wire.proofs.replies.short_reply.Goals as goal

pub returns-in-ok : goal.returns-in-ok
returns-in-ok c = subst (λ (tokens : List (List ℕ)). Finds (SpellsShort tokens) c.done.result)
    (sym (parted (codes "ok") _ _ c.in-len1-up.len_at_least c.in-ok.is)) c.done.ensures

pub returns-in-fd : goal.returns-in-fd
returns-in-fd c = number_finds (codes "fd") Opened opened_is (λ number is. ((is, refl), refl)) _ _ _ _
    (parted _ _ _ c.in-len1-up.len_at_least c.in-fd.is) (mapped_some Opened _ _ c.map.ensures.cases)
    c.only_number.ensures

pub returns-in-wrote : goal.returns-in-wrote
returns-in-wrote c = number_finds (codes "wrote") Wrote wrote_is (λ number is. ((is, refl), refl)) _ _ _ _
    (parted _ _ _ c.in-len1-up.len_at_least c.in-wrote.is) (mapped_some Wrote _ _ c.map-in-wrote.ensures.cases)
    c.only_number-in-wrote.ensures

pub returns-in-ruleset : goal.returns-in-ruleset
returns-in-ruleset c = number_finds (codes "ruleset") Created created_is (λ number is. ((is, refl), refl)) _ _ _ _
    (parted _ _ _ c.in-len1-up.len_at_least c.in-ruleset.is) (mapped_some Created _ _ c.map-in-ruleset.ensures.cases)
    c.only_number-in-ruleset.ensures

pub returns-in-client : goal.returns-in-client
returns-in-client c = number_finds (codes "client") Spawned spawned_is (λ number is. ((is, refl), refl)) _ _ _ _
    (parted _ _ _ c.in-len1-up.len_at_least c.in-client.is) (mapped_some Spawned _ _ c.map-in-client.ensures.cases)
    c.only_number-in-client.ensures

pub returns-in-stat : goal.returns-in-stat
returns-in-stat c = value_finds (codes "stat") Found (λ args reply h. let o = found_is args reply h in (o.0, o.3))
    (λ v. refl) _ _ _ _ (parted _ _ _ c.in-len1-up.len_at_least c.in-stat.is)
    (mapped_some Found _ _ c.map-in-stat.ensures.cases) c.status_of.ensures

pub returns-in-refused : goal.returns-in-refused
returns-in-refused c = value_finds (codes "refused") Refused
    (λ args reply h. let o = refused_is args reply h in (o.0, o.3)) (λ v. refl) _ _ _ _
    (parted _ _ _ c.in-len1-up.len_at_least c.in-refused.is) (mapped_some Refused _ _ c.map-in-refused.ensures.cases)
    c.refusal_of.ensures

pub returns-in-denied : goal.returns-in-denied
returns-in-denied c = value_finds (codes "denied") Denied (λ args reply h. let o = denied_is args reply h in (o.0, o.3))
    (λ v. refl) _ _ _ _ (parted _ _ _ c.in-len1-up.len_at_least c.in-denied.is)
    (mapped_some Denied _ _ c.map-in-denied.ensures.cases) c.denial_of.ensures
