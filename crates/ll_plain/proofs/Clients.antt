-- Clients that are there, and what a change of one client's record leaves.
use Rattle.std.specs.Prelude.{◌≡◌, ℕ, true, Option, Some, None, is_some, unwrap_or, refl}
use Rattle.std.proofs.Common.{ap, ◌∙◌}
use Rattle.std.specs.Ordering.{nat_cmp}
use Rattle.ll_rights.specs.Map.{Map, get, has, insert}
use Rattle.ll_seq.specs.declared.client.ClientRecord.{ClientRecord}
use Rattle.ll_seq.specs.State.{State, new_client}
use Rattle.ll_seq.specs.Effects.{with_client}
use Rattle.ll_seq.specs.Step.{client_of}

pub some_or : {A : Type 0} (o : Option A) (d : A) → is_some o ≡ true → o ≡ Some (unwrap_or o d)
some_or None d e = absurd cc
some_or (Some x) d e = refl

pub got_client : (a s : State) (n : ℕ) → a ≡ s → has s.clients n ≡ true → get a.clients n ≡ Some (client_of s n)
got_client a s n is there = ap (λ z. get z.clients n) is ∙ some_or (get s.clients n) new_client there

pub kept : (a s : State) (clients : Map nat_cmp ClientRecord) → a ≡ s → clients ≡ a.clients
    → record a { clients = clients } ≡ s
kept a s clients is same = ap (λ m. record a { clients = m }) same ∙ is

pub client_changed : (a s : State) (clients : Map nat_cmp ClientRecord) (n : ℕ) (c : ClientRecord) → a ≡ s
    → clients ≡ insert a.clients n c → record a { clients = clients } ≡ with_client s n c
client_changed a s clients n c is same = ap (λ m. record a { clients = m }) same ∙ ap (λ z. with_client z n c) is
