-- An include is replaced by a file's lines and its end, or by nothing (Language Guide,
-- "Directives", on `#include`).
use Rattle.std.specs.Prelude.{ℕ, nat_lt, Option, Some, None, List, ◌∷◌, length, Bool, if◌then◌else◌}
use Rattle.std.specs.List.{list_any}
use Rattle.std.specs.Str.{bytes_eq}
use Rattle.std.specs.FinMap.{get}
use Rattle.pawn_cells.specs.declared.place.Place.{Place}
use Rattle.pawn_outside.specs.Held.{Held}
use Rattle.pawn_pre.specs.declared.include.Named.{Named}
use Rattle.pawn_pre.specs.File.{file_of}
use Rattle.pawn_pre.specs.Include.{include_name}
use Rattle.pawn_pre.specs.Marks.{Mark, Began, begun, conditionals}
use Rattle.pawn_pre.specs.OpenLines.{Open, lines_of_file}
use Rattle.pawn_pre.specs.Outcome.{Long, is_long_file}
use Rattle.pawn_pre.specs.Turn.{Turn, Goes, Halts, fault}

-- a file of the name was begun
abbrev pub is_begun : List Mark → List ℕ → Bool
is_begun marks name = list_any (λ known. bytes_eq name known) (begun marks)

-- the files that are open
abbrev pub depth : List Mark → ℕ
depth marks = length (conditionals marks)

-- nothing, or fault 3
abbrev pub missing : List Mark → Place → Bool → List Open → Turn
missing marks at optional rest = if optional then Goes marks rest else fault marks at 3

-- what the files hold at the name
abbrev pub found : List Mark → Place → Bool → List ℕ → Option (List ℕ) → List Open → Turn
found marks at optional name None rest = missing marks at optional rest
found marks at optional name (Some bytes) rest =
    if is_long_file bytes then Halts (Long name)
    else Goes (Began name ∷ marks) (lines_of_file (length (begun marks)) (file_of bytes) rest)

-- a name that can't be asked for is missing
abbrev pub include_asked : Held → List Mark → Place → Bool → Named → List Open → Turn
include_asked map marks at optional n rest =
    if n.valid then found marks at optional n.name (get map n.name) rest
    else missing marks at optional rest

-- passed over, then its depth, then missing
abbrev pub include_named : Held → List Mark → Place → Bool → Named → List Open → Turn
include_named map marks at optional n rest =
    if is_begun marks n.name then Goes marks rest
    else (if nat_lt 16 (depth marks) then fault marks at 8
    else include_asked map marks at optional n rest)

-- an include by the bytes behind its word
abbrev pub include : Held → List Mark → Place → Bool → List ℕ → List Open → Turn
include map marks at optional bytes rest =
    include_named map marks at optional (include_name bytes) rest
