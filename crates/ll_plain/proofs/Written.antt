-- The files of descriptors, and what is written to them.
use Rattle.std.specs.Prelude.{◌≡◌, ℕ, zero, suc, ◌<◌, ◌==◌, ◌&&◌, nat_lt, Bool, true, false, if◌then◌else◌, Option}
use Rattle.std.specs.Prelude.{Some, None, List, [], length, refl}
use Rattle.std.proofs.Common.{ap, sym, ◌∙◌, arith}
use Rattle.std.proofs.lemmas.Bool.{eqb-true, eqb-false, lt-ltb}
use Rattle.std.specs.Option.{option_map_or}
use Rattle.ll_rights.specs.declared.errno.Errno.TheVariants.{EFBIG}
use Rattle.ll_rights.specs.Errno.{refuse}
use Rattle.std.specs.Ordering.{nat_cmp}
use Rattle.ll_rights.specs.Map.{Map, get, insert}
use Rattle.ll_seq.specs.declared.client.ClientRecord.{ClientRecord}
use Rattle.ll_seq.specs.declared.client.Descriptor.{Descriptor}
use Rattle.ll_seq.specs.declared.node.Node.{Node}
use Rattle.ll_seq.specs.declared.reply.Reply.{Reply}
use Rattle.ll_seq.specs.declared.reply.Reply.TheVariants.{Wrote}
use Rattle.ll_seq.specs.State.{State, bytes_of}
use Rattle.ll_seq.specs.Effects.{inode_at, overwritten, with_bytes, written}

-- ---- the file of a descriptor

pub file_is : (c : ClientRecord) (number : ℕ) (d : Descriptor) → get c.descriptors number ≡ Some d
    → d.inode ≡ inode_at c number
file_is c number d there = sym (ap (λ o. option_map_or (λ (e : Descriptor). e.inode) o 0) there)

-- ---- how much is written

no_bytes : (n : ℕ) → (n == 0) ≡ true → n ≡ 0
no_bytes n e = eqb-true n 0 e

pub nothing_too_long : (n : ℕ) (test : Bool) → (n == 0) ≡ true → refuse (nat_lt 0 n && test) EFBIG ≡ []
nothing_too_long n test e = ap (λ k. refuse (nat_lt 0 k && test) EFBIG) (no_bytes n e)

some_bytes : (n : ℕ) → (n == 0) ≡ false → nat_lt 0 n ≡ true
some_bytes n e = let other = eqb-false n 0 e in lt-ltb 0 n (above n other)
  where
    above : (n : ℕ) → (n ≡ 0 → ⊥) → 0 < n
    above zero none = absurd (none refl)
    above (suc n) none = omega arith

pub too_long_if : (n : ℕ) (test answer : Bool) → (n == 0) ≡ false → test ≡ answer
    → refuse (nat_lt 0 n && test) EFBIG ≡ refuse answer EFBIG
too_long_if n test answer some is = λ i. refuse (some_bytes n some i && is i) EFBIG

pub writes_nothing : (s : State) (inode offset : ℕ) (bytes : List ℕ) → (length bytes == 0) ≡ true
    → ◌≡◌ {A = Reply × State} (Wrote 0, s) (Wrote (length bytes), written s inode offset bytes)
writes_nothing s inode offset bytes e =
    λ i. (
      Wrote (sym (no_bytes (length bytes) e) i),
      if sym e i then s else with_bytes s inode (overwritten (bytes_of s inode) offset bytes),
    )

pub writes_some : (s after : State) (inode file offset : ℕ) (bytes put : List ℕ) (n : ℕ) → (length bytes == 0) ≡ false
    → n ≡ length bytes → put ≡ bytes → file ≡ inode
    → after ≡ with_bytes s file (overwritten (bytes_of s file) offset put)
    → ◌≡◌ {A = Reply × State} (Wrote n, after) (Wrote (length bytes), written s inode offset bytes)
writes_some s after inode file offset bytes put n e len same here is =
    λ i. (
      Wrote (len i),
      (is ∙ (λ j. with_bytes s (here j) (overwritten (bytes_of s (here j)) offset (same j)))
          ∙ ap (λ b. if b then s else with_bytes s inode (overwritten (bytes_of s inode) offset bytes)) (sym e)) i,
    )

-- ---- other bytes in the table

pub bytes_changed : (a s : State) (nodes : Map nat_cmp Node) (inode : ℕ) (f : List ℕ → List ℕ) → a ≡ s
    → nodes ≡ option_map_or (λ (n : Node). insert a.nodes inode (record n { bytes = f n.bytes })) (get a.nodes inode)
    a.nodes
    → record a { nodes = nodes } ≡ with_bytes s inode (f (bytes_of s inode))
bytes_changed a s nodes inode f is same =
    ap (λ m. record a { nodes = m }) same
    ∙ ap (λ (z : State). record z {
      nodes = option_map_or (λ (n : Node). insert z.nodes inode (record n { bytes = f n.bytes })) (get z.nodes inode)
          z.nodes;
    }) is ∙ of (get s.nodes inode)
  where
    of : (o : Option Node) → record s
        { nodes = option_map_or (λ (n : Node). insert s.nodes inode (record n { bytes = f n.bytes })) o s.nodes }
        ≡ option_map_or (λ (n : Node). record s
        { nodes = insert s.nodes inode (record n { bytes = f (option_map_or (λ (m : Node). m.bytes) o []) }) }) o s
    of None = refl
    of (Some n) = refl
