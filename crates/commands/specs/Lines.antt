-- The lines that tell of a source that was compiled.
use Rattle.std.specs.Prelude.{ℕ, List, ◌++◌, codes, length}
use Rattle.std.specs.Fmt.{decimal}
use Rattle.std.specs.List.{flat_map}
use Rattle.pawn_front.specs.declared.compiled.Compiled.{Compiled}
use Rattle.pawn_front.specs.declared.compiled.Warning.{Warning}

-- a warning has its file and its line
abbrev pub warning_line : Warning → List ℕ
warning_line it = it.file ++ (codes ":" ++ (decimal it.line ++ codes ": warning 213\n"))

-- a line for each warning
abbrev pub warning_lines : List Warning → List ℕ
warning_lines warnings = flat_map warning_line warnings

-- the line of a file of so many bytes that was put
abbrev pub ok_line : ℕ → List ℕ
ok_line bytes = codes "ok " ++ (decimal bytes ++ codes " bytes\n")

-- what `compile` writes of what was compiled
abbrev pub compile_text : Compiled → List ℕ
compile_text it = warning_lines it.warnings ++ ok_line (length it.bytes)
