-- Which format a model file has, and how long it may be.
use Rattle.std.specs.Prelude.{ℕ, ◌-◌, ◌^◌, Bool, ◌&&◌, nat_le, if◌then◌else◌, List, length, drop, codes, Option, None, Some}
use Rattle.std.specs.Str.{str_eq_ignore_ascii_case}
use Rattle.sp_meaning.specs.declared.formats.FileFormat.{FileFormat}
use Rattle.sp_meaning.specs.declared.formats.FileFormat.TheVariants.{Lp, Mps}

-- the name ends so, in any case
abbrev pub ends_with : List ℕ → List ℕ → Bool
ends_with ending name =
    nat_le (length ending) (length name) && str_eq_ignore_ascii_case (drop (length name - length ending) name) ending

-- the ending of a file's name tells its format
unfoldable pub format_of : List ℕ → Option FileFormat
format_of name =
    if ends_with (codes ".lp") name then Some Lp else (if ends_with (codes ".mps") name then Some Mps else None)

-- the most bytes of a model file
abbrev pub file_limit : ℕ
file_limit = 2 ^ 26
