-- Names of files that lie in a folder itself.
use Rattle.std.specs.Prelude.{ℕ, Bool, ◌&&◌, ◌==◌, not, List, length, nat_eq, nat_le, nat_lt, codes}
use Rattle.std.specs.Cmp.Lexicographic.{pointwise}
use Rattle.std.specs.List.{list_all}
use Rattle.shelf.specs.declared.names.TheConstants.{MAX_NAME_LEN}

-- printable ASCII, and no slash
abbrev pub is_file_byte : ℕ → Bool
is_file_byte b = nat_le 32 b && nat_le b 126 && not (b == 47)

-- whether these bytes are a file's name: one at least and not too many, and neither this folder's nor that above it
abbrev pub is_file_name : List ℕ → Bool
is_file_name name =
    nat_lt 0 (length name) && nat_le (length name) MAX_NAME_LEN && list_all is_file_byte name
    && not (pointwise nat_eq name (codes ".")) && not (pointwise nat_eq name (codes ".."))
