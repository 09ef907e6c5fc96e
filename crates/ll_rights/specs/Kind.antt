-- Kinds of nodes, and the rights that go with each. linux/landlock.h, "Filesystem flags"
use Rattle.std.specs.Prelude.{ℕ, Bool, true, false, List, codes}
use Rattle.ll_rights.specs.declared.kind.Kind.{Kind}
use Rattle.ll_rights.specs.declared.kind.Kind.TheVariants.{Reg, Dir, Sym, Fifo, Sock, Char, Block}
use Rattle.ll_rights.specs.Right as right
use Rattle.ll_rights.specs.Access.{all_set, file_set}

abbrev pub kind_text : Kind → List ℕ
kind_text Reg = codes "reg"
kind_text Dir = codes "dir"
kind_text Sym = codes "sym"
kind_text Fifo = codes "fifo"
kind_text Sock = codes "sock"
kind_text Char = codes "char"
kind_text Block = codes "block"

abbrev pub make_right : Kind → ℕ
make_right Reg = right.make_reg
make_right Dir = right.make_dir
make_right Sym = right.make_sym
make_right Fifo = right.make_fifo
make_right Sock = right.make_sock
make_right Char = right.make_char
make_right Block = right.make_block

abbrev pub remove_right : Kind → ℕ
remove_right Dir = right.remove_dir
remove_right _ = right.remove_file

-- the rights that apply to a node of this kind
abbrev pub relevant : Kind → ℕ
relevant Dir = all_set
relevant _ = file_set

abbrev pub is_dir : Kind → Bool
is_dir Dir = true
is_dir _ = false
