-- A reply that succeeds in one way is none of the others.
use Rattle.std.specs.Prelude.{◌≡◌, ℕ, List, true, refl}
use Rattle.ll_seq.specs.declared.reply.Reply.{Reply}
use Rattle.ll_seq.specs.declared.reply.Reply.TheVariants.{Done, Opened, Bytes, Wrote, Listed, Found, Created, Spawned}
use Rattle.ll_seq.specs.declared.reply.Reply.TheVariants.{Refused, Denied}
use Rattle.ll_seq.specs.declared.reply.Status.{Status}
use Rattle.ll_client.specs.Replies.{is_bytes, is_created, is_done, is_found, is_listed, is_opened, is_wrote}

pub only_done : (r : Reply) → is_done r ≡ true → (r ≡ Done → ⊥) → ⊥
only_done Done e other = other refl
only_done (Opened n) e other = cc e
only_done (Bytes b) e other = cc e
only_done (Wrote n) e other = cc e
only_done (Listed names) e other = cc e
only_done (Found status) e other = cc e
only_done (Created n) e other = cc e
only_done (Spawned n) e other = cc e
only_done (Refused errno) e other = cc e
only_done (Denied denial) e other = cc e

pub only_opened : (r : Reply) → is_opened r ≡ true → ((x : ℕ) → r ≡ Opened x → ⊥) → ⊥
only_opened Done e other = cc e
only_opened (Opened n) e other = other n refl
only_opened (Bytes b) e other = cc e
only_opened (Wrote n) e other = cc e
only_opened (Listed names) e other = cc e
only_opened (Found status) e other = cc e
only_opened (Created n) e other = cc e
only_opened (Spawned n) e other = cc e
only_opened (Refused errno) e other = cc e
only_opened (Denied denial) e other = cc e

pub only_bytes : (r : Reply) → is_bytes r ≡ true → ((x : List ℕ) → r ≡ Bytes x → ⊥) → ⊥
only_bytes Done e other = cc e
only_bytes (Opened n) e other = cc e
only_bytes (Bytes b) e other = other b refl
only_bytes (Wrote n) e other = cc e
only_bytes (Listed names) e other = cc e
only_bytes (Found status) e other = cc e
only_bytes (Created n) e other = cc e
only_bytes (Spawned n) e other = cc e
only_bytes (Refused errno) e other = cc e
only_bytes (Denied denial) e other = cc e

pub only_wrote : (r : Reply) → is_wrote r ≡ true → ((x : ℕ) → r ≡ Wrote x → ⊥) → ⊥
only_wrote Done e other = cc e
only_wrote (Opened n) e other = cc e
only_wrote (Bytes b) e other = cc e
only_wrote (Wrote n) e other = other n refl
only_wrote (Listed names) e other = cc e
only_wrote (Found status) e other = cc e
only_wrote (Created n) e other = cc e
only_wrote (Spawned n) e other = cc e
only_wrote (Refused errno) e other = cc e
only_wrote (Denied denial) e other = cc e

pub only_listed : (r : Reply) → is_listed r ≡ true → ((x : List (List ℕ)) → r ≡ Listed x → ⊥) → ⊥
only_listed Done e other = cc e
only_listed (Opened n) e other = cc e
only_listed (Bytes b) e other = cc e
only_listed (Wrote n) e other = cc e
only_listed (Listed names) e other = other names refl
only_listed (Found status) e other = cc e
only_listed (Created n) e other = cc e
only_listed (Spawned n) e other = cc e
only_listed (Refused errno) e other = cc e
only_listed (Denied denial) e other = cc e

pub only_found : (r : Reply) → is_found r ≡ true → ((x : Status) → r ≡ Found x → ⊥) → ⊥
only_found Done e other = cc e
only_found (Opened n) e other = cc e
only_found (Bytes b) e other = cc e
only_found (Wrote n) e other = cc e
only_found (Listed names) e other = cc e
only_found (Found status) e other = other status refl
only_found (Created n) e other = cc e
only_found (Spawned n) e other = cc e
only_found (Refused errno) e other = cc e
only_found (Denied denial) e other = cc e

pub only_created : (r : Reply) → is_created r ≡ true → ((x : ℕ) → r ≡ Created x → ⊥) → ⊥
only_created Done e other = cc e
only_created (Opened n) e other = cc e
only_created (Bytes b) e other = cc e
only_created (Wrote n) e other = cc e
only_created (Listed names) e other = cc e
only_created (Found status) e other = cc e
only_created (Created n) e other = other n refl
only_created (Spawned n) e other = cc e
only_created (Refused errno) e other = cc e
only_created (Denied denial) e other = cc e
