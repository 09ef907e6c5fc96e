use Rattle.std.specs.Prelude.{[], refl}
use Rattle.ll_plain.proofs.Plain.walk_root.Goals as goal

pub returns : goal.returns
returns c = record {
  spot = c.spot.ensures [] refl refl refl;
  parent = c.root.ensures.masks;
  itself = c.root-2.ensures.masks;
  parent_len = c.root.ensures.len;
  itself_len = c.root-2.ensures.len;
}
