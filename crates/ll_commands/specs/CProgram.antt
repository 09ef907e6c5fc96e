-- Layers as a C program that enforces them: a table between fixed parts. ISO/IEC 9899, "String literals"
use Rattle.std.specs.Prelude.{ℕ, ◌+◌, ◌/◌, ◌%◌, ◌==◌, Bool, not, ◌&&◌, List, [], ◌∷◌, ◌++◌, codes, nat_le}
use Rattle.std.specs.Prelude.{Option, Some, None, unwrap_or}
use Rattle.std.specs.Prelude.{if◌then◌else◌}
use Rattle.std.specs.List.{concat, flat_map}
use Rattle.ll_rights.specs.Access.{access_text}
use Rattle.ll_rights.specs.declared.kind.Kind.{Kind}
use Rattle.ll_rights.specs.declared.kind.Kind.TheVariants.{Reg, Dir, Sym, Fifo, Sock, Char, Block}
use Rattle.ll_seq.specs.declared.call.Call.{Call}
use Rattle.ll_program.specs.declared.denied.Denied.{Denied}
use Rattle.ll_program.specs.Options.{ExportOrder, nothing_denied}
use Rattle.ll_policy.specs.declared.profile.Rule.{Rule}
use Rattle.ll_policy.specs.declared.profile.Layer.{Layer}
use Rattle.ll_commands.specs.declared.confinement.Confinement.{Confinement}
use Rattle.ll_commands.specs.Confinement.{kind_at}
use Rattle.ll_commands.specs.Fixed.{c_head, c_helpers, c_tail, restrict_self}

-- a printable character of ASCII except the quotation mark, the question mark and the backslash (34, 63, 92)
abbrev pub is_plain : ℕ → Bool
is_plain b = (nat_le 32 b && nat_le b 126) && (not (b == 34) && (not (b == 63) && not (b == 92)))

-- any other byte becomes a backslash and its three octal digits
abbrev pub c_byte : ℕ → List ℕ
c_byte b = if is_plain b then b ∷ [] else 92 ∷ (48 + b / 64) ∷ (48 + b / 8 % 8) ∷ (48 + b % 8) ∷ []

abbrev pub c_string : List ℕ → List ℕ
c_string text = 34 ∷ flat_map c_byte text ++ 34 ∷ []

-- the constant of inode(7). No file has the type 0
abbrev pub c_type : Option Kind → List ℕ
c_type (Some Reg) = codes "S_IFREG"
c_type (Some Dir) = codes "S_IFDIR"
c_type (Some Sym) = codes "S_IFLNK"
c_type (Some Fifo) = codes "S_IFIFO"
c_type (Some Sock) = codes "S_IFSOCK"
c_type (Some Char) = codes "S_IFCHR"
c_type (Some Block) = codes "S_IFBLK"
c_type None = codes "0"

-- a row of the table: what it is, the file's type, a path, and rights
abbrev pub c_row : List ℕ → List ℕ → ℕ → List ℕ
c_row start path rights = concat (
    codes "    {" ∷ start ∷ codes ", " ∷ c_string path ∷ codes ", \"" ∷ access_text rights ∷ codes "\"},\n" ∷ [])

abbrev pub c_rule : List Call → Rule → List ℕ
c_rule opening rule =
    c_row (concat (codes "RULE, " ∷ c_type (kind_at opening rule.path) ∷ [])) rule.path rule.rights.0

-- the rights that the layer handles, and then its rules
abbrev pub c_layer : List Call → Layer → List ℕ
c_layer opening layer = c_row (codes "LAYER, 0") [] layer.handled.0 ++ flat_map (c_rule opening) layer.rules.items

abbrev pub c_path : List ℕ → List ℕ
c_path path = concat (codes "    " ∷ c_string path ∷ codes ",\n" ∷ [])

abbrev pub c_flag : Bool → List ℕ
c_flag is_set = if is_set then codes "1" else codes "0"

abbrev pub c_option : List ℕ → Bool → List ℕ
c_option name is_set = concat (codes "    " ∷ name ∷ codes " = " ∷ c_flag is_set ∷ codes ",\n" ∷ [])

abbrev pub c_denied : Denied → List ℕ
c_denied denied = concat (
    c_option (codes "DENY_TCP") denied.tcp
    ∷ c_option (codes "DENY_IOCTL_DEV") denied.ioctl_dev
    ∷ c_option (codes "DENY_SIGNAL") denied.signal
    ∷ c_option (codes "DENY_ABSTRACT_UNIX_SOCKET") denied.abstract_unix_socket
    ∷ [])

abbrev pub c_options : ExportOrder → List ℕ
c_options order = concat (
    c_option (codes "FOLLOW") order.follow
    ∷ c_option (codes "BEST_EFFORT") order.best_effort
    ∷ c_denied (unwrap_or order.deny nothing_denied)
    ∷ [])

-- without a directory, the policy's root is the root of the file system
abbrev pub root_of : ExportOrder → List ℕ
root_of order = unwrap_or order.root (codes "/")

-- the source text of these values
unfoldable pub c_values : (root also options : List ℕ) → List ℕ
c_values root also options = concat (
    codes "/* The directory that stands for the policy's root. */\nstatic const char root[] = " ∷ root
    ∷ codes ";\n\n/* Not the profile's: on these paths each layer grants reading and executing too. */\n"
    ∷ codes "static const char *const also[] = {\n" ∷ also
    ∷ codes "    NULL,\n};\n\n/* The options. */\nenum {\n" ∷ options
    ∷ codes "};\n\n" ∷ [])

abbrev pub c_place : ExportOrder → List ℕ
c_place order = c_values (c_string (root_of order)) (flat_map c_path order.also) (c_options order)

-- the source text of the table with these rows
unfoldable pub c_rows : List ℕ → List ℕ
c_rows rows = concat (
    codes "/* The profile's layers, oldest first. */\nstatic const struct row rows[] = {\n" ∷ rows
    ∷ codes "    {END, 0, \"\", \"\"},\n};\n\n" ∷ [])

-- the layers, oldest first, between the parts that are the same for all layers
unfoldable pub c_text : ExportOrder → Confinement → List ℕ
c_text order c = concat (
    c_head ∷ c_place order ∷ c_rows (flat_map (c_layer c.opening.now) c.layers.now)
    ∷ c_helpers ∷ restrict_self ∷ c_tail ∷ [])
