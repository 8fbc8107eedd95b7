-- The settled part of a page: marks, the latest first, and what is in force behind them (Language
-- Guide, "Preprocessor").
use Rattle.std.specs.Prelude.{ℕ, ℤ, pos, Option, None, List, [], ◌∷◌, ◌++◌, Bool, false}
use Rattle.std.specs.FinMap.{insert, remove, empty}
use Rattle.pawn_pre.specs.declared.line.Line.{Line}
use Rattle.pawn_pre.specs.declared.line.Lines.{Lines}
use Rattle.pawn_pre.specs.declared.state.Settings.{Settings}
use Rattle.pawn_pre.specs.declared.define.Definition.{Definition}
use Rattle.pawn_pre.specs.Table.{Rules}
use Rattle.pawn_pre.specs.Lists.{first_of, rest_of}

-- a file of a name begins, or ends; a line is kept; a conditional is opened, which tells whether
-- its `#else` is past, or closed; the file's rest is dropped; a definition is made or dropped; and
-- the four settings
pub data Mark : Type 0 where
  Began : List ℕ → Mark
  Ended : Mark
  Keeps : Line → Mark
  Opens : Bool → Mark
  Closes : Mark
  Stops : Mark
  Defines : Definition → Mark
  Undefines : List ℕ → Mark
  Demands : Bool → Mark
  Packs : Bool → Mark
  Controls : ℕ → Mark
  Reserves : ℤ → Mark

-- the names of the files that were begun, in order
unfoldable pub begun : List Mark → List (List ℕ)
begun [] = []
begun (Began name ∷ marks) = begun marks ++ name ∷ []
begun (mark ∷ marks) = begun marks

-- the lines that are kept, in order
unfoldable pub kept : List Mark → List Line
kept [] = []
kept (Keeps line ∷ marks) = kept marks ++ line ∷ []
kept (mark ∷ marks) = kept marks

-- of each key the last definition, if it isn't dropped
unfoldable pub rules : List Mark → Rules
rules [] = empty
rules (Defines d ∷ marks) = insert (rules marks) d.key d.rule
rules (Undefines key ∷ marks) = remove (rules marks) key
rules (mark ∷ marks) = rules marks

-- of each setting the last; at first the control character is `\`, and the room is 4,096 cells
unfoldable pub settings : List Mark → Settings
settings [] = record { control = 92; strict = false; packed = false; dynamic = pos 4096 }
settings (Demands b ∷ marks) = record (settings marks) { strict = b }
settings (Packs b ∷ marks) = record (settings marks) { packed = b }
settings (Controls c ∷ marks) = record (settings marks) { control = c }
settings (Reserves n ∷ marks) = record (settings marks) { dynamic = n }
settings (mark ∷ marks) = settings marks

-- another first list
abbrev pub with_first : (List Bool → List Bool) → List (List Bool) → List (List Bool)
with_first change [] = []
with_first change (first ∷ rest) = change first ∷ rest

-- the open conditionals of each open file, the innermost first
unfoldable pub conditionals : List Mark → List (List Bool)
conditionals [] = []
conditionals (Began name ∷ marks) = [] ∷ conditionals marks
conditionals (Ended ∷ marks) = rest_of (conditionals marks)
conditionals (Opens past ∷ marks) = with_first (λ outer. past ∷ outer) (conditionals marks)
conditionals (Closes ∷ marks) = with_first (λ outer. rest_of outer) (conditionals marks)
conditionals (Stops ∷ marks) = with_first (λ outer. []) (conditionals marks)
conditionals (mark ∷ marks) = conditionals marks

-- of the innermost file the innermost one, which tells whether its `#else` is past
abbrev pub innermost_of : List (List Bool) → Option Bool
innermost_of [] = None
innermost_of (file ∷ files) = first_of file

-- the innermost open conditional, likewise
abbrev pub innermost : List Mark → Option Bool
innermost marks = innermost_of (conditionals marks)

-- what the marks come to
abbrev pub lines_of : List Mark → Lines
lines_of marks = record {
  lines = kept marks;
  files = begun marks;
  dynamic = (settings marks).dynamic;
}
