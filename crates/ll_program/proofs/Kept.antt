-- What a source keeps of what was read.
use Rattle.std.proofs.Common.{◌≡◌, ◌++◌, ℕ, List, [], Option, Some, None, subst, sym}
use Rattle.std.specs.Prelude.{IfSome, refl}
use Rattle.std.specs.Io.KnownBytes.{Consumes, Keeps}
use Rattle.std.specs.declared.vec.Vec.{Vec}
use Rattle.std.specs.declared.alloc.Global.{Global}
use Rattle.std.proofs.KnownBytes.{Consumes-kept, Consumes-nil, Consumes-trans}

-- before the first read
pub kept_nothing : (kept : Option (Vec ℕ Global)) (text : Option (List ℕ)) → IfSome kept (λ k. k.items ≡ [])
    → IfSome kept (λ k. Consumes text text k.items)
kept_nothing None text none = tt
kept_nothing (Some k) text none = subst (Consumes text text) (sym none) (Consumes-nil text)

-- after a read of these bytes
pub kept_more : (old new : Option (Vec ℕ Global)) (text left left' : Option (List ℕ)) (bytes : List ℕ)
    → IfSome old (λ k. Consumes text left k.items) → Consumes left left' bytes
    → IfSome new (λ all. IfSome old (λ before. all.items ≡ before.items ++ bytes)) → (old ≡ None → new ≡ None)
    → IfSome new (λ k. Consumes text left' k.items)
kept_more old None text left left' bytes kept read more none = tt
kept_more None (Some k) text left left' bytes kept read more none = let e = none refl in absurd cc
kept_more (Some before) (Some k) text left left' bytes kept read more none =
    subst (Consumes text left') (sym more) (Consumes-trans text left left' before.items bytes kept read)

-- after a failed read
pub kept_same : (kept : Option (Vec ℕ Global)) (text left left' : Option (List ℕ))
    → IfSome kept (λ k. Consumes text left k.items) → Keeps left left'
    → IfSome kept (λ k. Consumes text left' k.items)
kept_same None text left left' h same = tt
kept_same (Some k) text left left' h same = Consumes-kept text left left' k.items h same
