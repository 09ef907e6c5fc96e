use Rattle.std.specs.Prelude.{◌≡◌, ℕ, List, true, false, IfNone, IfSome}
use Rattle.std.proofs.Common.{subst}
use Rattle.ll_laws.specs.World.{World}
use Rattle.ll_journal.specs.Book.{Book, Seat, has_mark, mark_of}
use Rattle.ll_journal.specs.Kept.{walks_from}
use Rattle.ll_journal.proofs.Markers.{mark_told}
use Rattle.ll_journal.proofs.journal.Journal.marker.Goals as goal

pub returns : goal.returns
returns c = subst (λ (b : Book). c.marker.result ≡ mark_of b.world c.args.inode) c.self.view_is
    (mark_told c.self.inside c.self.invariant c.args.inode c.marker.result
    (subst (λ (xs : List Seat). IfSome c.marker.result (λ client. (w : World) → w.walks ≡ walks_from 1 xs
    → has_mark w c.args.inode client ≡ true)) c.deref.ensures.value c.marker.ensures.some)
    (subst (λ (xs : List Seat). IfNone c.marker.result ((w : World) → w.walks ≡ walks_from 1 xs → (client : ℕ)
    → has_mark w c.args.inode client ≡ false)) c.deref.ensures.value c.marker.ensures.none))
