-- What is near the paths of a call.
use Rattle.std.specs.Prelude.{◌≡◌, ℕ, [], ◌∷◌, Option, option_map, option_to_list}
use Rattle.std.proofs.Common.{rules}
use Rattle.ll_seq.specs.declared.call.Call.{Call}
use Rattle.ll_seq.specs.declared.found.Found.{Found}
use Rattle.ll_seq.specs.Near.{AreNear, inode_at, nodes_of}

-- the directories that a rename leaves and enters, and the node that it replaces
pub renamed_near : (call : Call) (found : Found) (from into : ℕ) (replaced : Option ℕ)
    → nodes_of call found ≡ inode_at found.second ∷ []
    → from ≡ found.first.directory → into ≡ found.second.directory
    → replaced ≡ option_map (λ there. there.inode) found.second.there
    → AreNear call found (from ∷ into ∷ option_to_list replaced)
renamed_near call found from into replaced nodes left entered there = search rules
