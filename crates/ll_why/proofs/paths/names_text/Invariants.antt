use Rattle.std.proofs.Common.{◌≡◌, take, drop, string_bytes}
use Rattle.ll_path.specs.Path.{path_text}
use Rattle.ll_why.proofs.paths.names_text.Given as goal

abbrev pub invariant-loop-place : goal.invariant-loop-place
invariant-loop-place l = record {
  text : string_bytes l.text ≡ path_text (take l.place l.path);
  names : l.names ≡ drop l.place l.path;
}
