-- A line that is no directive is rewritten with the definitions in force, and kept (Language Guide,
-- "Preprocessor").
use Rattle.std.specs.Prelude.{ℕ, ◌+◌, nat_lt, List, ◌∷◌, length, if◌then◌else◌}
use Rattle.pawn_cells.specs.declared.place.Place.{Place}
use Rattle.pawn_pre.specs.declared.line.Line.{Line}
use Rattle.pawn_pre.specs.declared.line.TheConstants.{MOST_BYTES}
use Rattle.pawn_pre.specs.Bounds.{bytes_of}
use Rattle.pawn_pre.specs.Marks.{Mark, Keeps, kept, rules, settings}
use Rattle.pawn_pre.specs.OpenLines.{Open}
use Rattle.pawn_pre.specs.Substitution.{expanded}
use Rattle.pawn_pre.specs.Turn.{Turn, Goes, fault, or_fault_at}

-- a line with the settings in force
abbrev pub line_at : List Mark → Place → List ℕ → Line
line_at marks at bytes = record {
  place = at;
  ctrl = (settings marks).control;
  strict = (settings marks).strict;
  packed = (settings marks).packed;
  bytes = bytes;
}

-- the bytes of all lines that are kept
abbrev pub size : List Mark → ℕ
size marks = bytes_of (kept marks)

-- fault 10 where that is more than all lines may have
abbrev pub with_line : List Mark → Place → List ℕ → List Open → Turn
with_line marks at bytes rest =
    if nat_lt MOST_BYTES (size marks + length bytes) then fault marks at 10
    else Goes (Keeps (line_at marks at bytes) ∷ marks) rest

-- a line is rewritten and kept
abbrev pub keep : List Mark → Place → List ℕ → List Open → Turn
keep marks at bytes rest =
    or_fault_at marks at (expanded (rules marks) (settings marks).control bytes)
    (λ rewritten. with_line marks at rewritten rest)
