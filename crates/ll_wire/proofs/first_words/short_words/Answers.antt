use Rattle.std.proofs.Common.{ap, codes, refl, ◌∷◌, List, ℕ}
use Rattle.ll_wire.specs.FirstWords.{SpellsDenialWords, SpellsNumberWords, SpellsRefusalWords, SpellsStatusWords}
use Rattle.ll_wire.specs.declared.first_words.FirstWords.TheVariants.{Done, Opened, Bytes, Wrote, Found, Created}
use Rattle.ll_wire.specs.declared.first_words.FirstWords.TheVariants.{Spawned, Refused, Denied}
use Rattle.std.specs.Prelude.{None}
use Rattle.ll_wire.proofs.FirstTokens.{parted}
use Rattle.ll_wire.proofs.ReadReplies.{mapped_some}
use Rattle.ll_wire.proofs.FirstReads.{created_words, data_alone, denied_words, done_alone, found_words, name_finds}
use Rattle.ll_wire.proofs.FirstReads.{opened_words, refused_words, spawned_words, words_find, wrote_words}
use Rattle.ll_wire.proofs.first_words.short_words.Goals as goal

pub returns-in-ok : goal.returns-in-ok
returns-in-ok c = name_finds (codes "ok") Done ((tt, refl), refl) done_alone _ _ _
    (parted _ _ _ c.in-len1-up.len_at_least c.in-ok.is) c.only_name.ensures.found c.only_name.ensures.none

pub returns-in-data : goal.returns-in-data
returns-in-data c = name_finds (codes "data") (Bytes None) ((tt, refl), refl) data_alone _ _ _
    (parted _ _ _ c.in-len1-up.len_at_least c.in-data.is) c.only_name-in-data.ensures.found
    c.only_name-in-data.ensures.none

pub returns-in-fd : goal.returns-in-fd
returns-in-fd c = words_find (codes "fd") Opened SpellsNumberWords opened_words
    (λ args v k. ((k.0, ap (λ (x : List (List ℕ)). codes "fd" ∷ x) k.1), refl)) _ _ _ _
    (parted _ _ _ c.in-len1-up.len_at_least c.in-fd.is) (mapped_some Opened _ _ c.map.ensures.cases)
    c.number_words.ensures

pub returns-in-wrote : goal.returns-in-wrote
returns-in-wrote c = words_find (codes "wrote") Wrote SpellsNumberWords wrote_words
    (λ args v k. ((k.0, ap (λ (x : List (List ℕ)). codes "wrote" ∷ x) k.1), refl)) _ _ _ _
    (parted _ _ _ c.in-len1-up.len_at_least c.in-wrote.is) (mapped_some Wrote _ _ c.map-in-wrote.ensures.cases)
    c.number_words-in-wrote.ensures

pub returns-in-ruleset : goal.returns-in-ruleset
returns-in-ruleset c = words_find (codes "ruleset") Created SpellsNumberWords created_words
    (λ args v k. ((k.0, ap (λ (x : List (List ℕ)). codes "ruleset" ∷ x) k.1), refl)) _ _ _ _
    (parted _ _ _ c.in-len1-up.len_at_least c.in-ruleset.is) (mapped_some Created _ _ c.map-in-ruleset.ensures.cases)
    c.number_words-in-ruleset.ensures

pub returns-in-client : goal.returns-in-client
returns-in-client c = words_find (codes "client") Spawned SpellsNumberWords spawned_words
    (λ args v k. ((k.0, ap (λ (x : List (List ℕ)). codes "client" ∷ x) k.1), refl)) _ _ _ _
    (parted _ _ _ c.in-len1-up.len_at_least c.in-client.is) (mapped_some Spawned _ _ c.map-in-client.ensures.cases)
    c.number_words-in-client.ensures

pub returns-in-stat : goal.returns-in-stat
returns-in-stat c = words_find (codes "stat") Found SpellsStatusWords found_words
    (λ args v k. ((k.0, ap (λ (x : List (List ℕ)). codes "stat" ∷ x) k.1), refl)) _ _ _ _
    (parted _ _ _ c.in-len1-up.len_at_least c.in-stat.is) (mapped_some Found _ _ c.map-in-stat.ensures.cases)
    c.status_words.ensures

pub returns-in-refused : goal.returns-in-refused
returns-in-refused c = words_find (codes "refused") Refused SpellsRefusalWords refused_words
    (λ args v k. ((k.0, ap (λ (x : List (List ℕ)). codes "refused" ∷ x) k.1), refl)) _ _ _ _
    (parted _ _ _ c.in-len1-up.len_at_least c.in-refused.is) (mapped_some Refused _ _ c.map-in-refused.ensures.cases)
    c.refusal_words.ensures

pub returns-in-denied : goal.returns-in-denied
returns-in-denied c = words_find (codes "denied") Denied SpellsDenialWords denied_words
    (λ args v k. ((k.0, ap (λ (x : List (List ℕ)). codes "denied" ∷ x) k.1), refl)) _ _ _ _
    (parted _ _ _ c.in-len1-up.len_at_least c.in-denied.is) (mapped_some Denied _ _ c.map-in-denied.ensures.cases)
    c.denial_words.ensures
