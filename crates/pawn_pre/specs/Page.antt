-- A page is its settled marks and its open lines; one turn settles the first open line (Language
-- Guide, "Preprocessor").
use Rattle.std.specs.Prelude.{◌≡◌, ℕ, ℤ, zero, suc, not, is_some, Option, Some, None, Result, List}
use Rattle.std.specs.Prelude.{[], ◌∷◌, Bool, true, false, if◌then◌else◌}
use Rattle.std.specs.Bool.{MatchBool}
use Rattle.std.specs.FinMap.{get}
use Rattle.pawn_cells.specs.Cells.{is_zero}
use Rattle.pawn_cells.specs.declared.place.Place.{Place}
use Rattle.pawn_pre.specs.Condition.{IsValue}
use Rattle.pawn_outside.specs.Held.{Held}
use Rattle.pawn_pre.specs.declared.directive.Word.{Word}
use Rattle.pawn_pre.specs.declared.directive.Word.TheVariants as word
use Rattle.pawn_pre.specs.declared.directive.Setting.{Setting}
use Rattle.pawn_pre.specs.declared.directive.Setting.TheVariants as setting
use Rattle.pawn_pre.specs.Blanks.{past_blanks}
use Rattle.pawn_pre.specs.Conditionals.{if_by, elseif_line, else_line, endif_line}
use Rattle.pawn_pre.specs.Define.{definition, undefined}
use Rattle.pawn_pre.specs.Directive.{pragma, quoted_byte}
use Rattle.pawn_pre.specs.File.{file_of}
use Rattle.pawn_pre.specs.Inclusion.{include}
use Rattle.pawn_pre.specs.Kept.{keep}
use Rattle.pawn_pre.specs.Marks.{Mark, Began, Ended, Stops, Defines, Undefines, Demands, Packs}
use Rattle.pawn_pre.specs.Marks.{Controls, Reserves, rules, settings, innermost, lines_of}
use Rattle.pawn_pre.specs.OpenLines.{Open, Line, End, Plain, Directs, lines_of_file, to_end}
use Rattle.pawn_pre.specs.Outcome.{Outcome, Whole, Long, NotHeld, is_long_file}
use Rattle.pawn_pre.specs.Turn.{Turn, Goes, Halts, fault, or_fault_at}
use Rattle.pawn_pre.specs.Evaluation.{Value, or_fault, condition, number}

-- a condition under what is in force
abbrev pub condition_at : Value → List Mark → List ℕ → Result ℤ ℕ
condition_at value marks bytes = condition value (rules marks) (settings marks).control bytes

-- the number of a `#pragma` under what is in force
abbrev pub number_at : Value → List Mark → List ℕ → Result ℤ ℕ
number_at value marks bytes = number value (rules marks) (settings marks).control bytes

-- a key that stands behind `#undef` is dropped
abbrev pub undefine : List Mark → Option (List ℕ) → List Open → Turn
undefine marks None rest = Goes marks rest
undefine marks (Some key) rest = Goes (Undefines key ∷ marks) rest

-- a `#pragma` sets what its word names
abbrev pub set : Value → List Mark → Place → Setting → List ℕ → List Open → Turn
set value marks at setting.Semicolon bytes rest =
    or_fault_at marks at (number_at value marks bytes)
    (λ v. Goes (Demands (not (is_zero v)) ∷ marks) rest)
set value marks at setting.Pack bytes rest =
    or_fault_at marks at (number_at value marks bytes)
    (λ v. Goes (Packs (not (is_zero v)) ∷ marks) rest)
set value marks at setting.Control bytes rest =
    or_fault_at marks at (or_fault 11 (quoted_byte (past_blanks bytes)))
    (λ c. Goes (Controls c ∷ marks) rest)
set value marks at setting.Dynamic bytes rest =
    or_fault_at marks at (number_at value marks bytes) (λ v. Goes (Reserves v ∷ marks) rest)
set value marks at setting.Other bytes rest = Goes marks rest

-- what a directive does
abbrev pub direct : Value → Held → List Mark → Place → Word → List ℕ → List Open → Turn
direct value map marks at word.Define bytes rest =
    or_fault_at marks at (or_fault 6 (definition (settings marks).control bytes))
    (λ d. Goes (Defines d ∷ marks) rest)
direct value map marks at word.Undef bytes rest = undefine marks (undefined bytes) rest
direct value map marks at word.If bytes rest =
    or_fault_at marks at (condition_at value marks bytes)
    (λ v. if_by (not (is_zero v)) marks rest)
direct value map marks at word.ElseIf bytes rest = elseif_line marks at rest
direct value map marks at word.Else bytes rest = else_line marks at rest
direct value map marks at word.Endif bytes rest = endif_line marks at rest
direct value map marks at word.Include bytes rest = include map marks at false bytes rest
direct value map marks at word.TryInclude bytes rest = include map marks at true bytes rest
direct value map marks at word.Error bytes rest = fault marks at 4
direct value map marks at word.Assert bytes rest =
    or_fault_at marks at (condition_at value marks bytes)
    (λ v. if is_zero v then fault marks at 5 else Goes marks rest)
direct value map marks at word.Endinput bytes rest = Goes (Stops ∷ marks) (to_end rest)
direct value map marks at word.Pragma bytes rest =
    set value marks at (pragma bytes).setting (pragma bytes).rest rest
direct value map marks at word.Unknown bytes rest = fault marks at 1

-- a file's end: an open comment goes before an open conditional
abbrev pub end_file : List Mark → Place → Bool → List Open → Turn
end_file marks last unclosed rest =
    if unclosed then fault marks last 12
    else (if is_some (innermost marks) then fault marks last 2 else Goes (Ended ∷ marks) rest)

-- the first open line is settled
unfoldable pub turn : Value → Held → List Mark → List Open → Turn
turn value map marks [] = Halts (Whole (lines_of marks))
turn value map marks (Line at (Plain bytes) ∷ rest) = keep marks at bytes rest
turn value map marks (Line at (Directs word bytes) ∷ rest) =
    direct value map marks at word bytes rest
turn value map marks (End last unclosed ∷ rest) = end_file marks last unclosed rest

-- ---- all turns

-- what follows a turn, if anything does
abbrev pub run_by : Turn → (List Mark → List Open → Option Outcome) → Option Outcome
run_by (Goes marks rest) go_on = go_on marks rest
run_by (Halts outcome) go_on = Some outcome

-- what so many turns come to, if they are enough
unfoldable pub run : Value → Held → ℕ → List Mark → List Open → Option Outcome
run value map zero marks rest = None
run value map (suc n) marks rest =
    run_by (turn value map marks rest) (λ next lines. run value map n next lines)

-- some number of turns comes to an outcome
pub record Ends (value : Value) (map : Held)
    (marks : List Mark) (rest : List Open) (o : Outcome) : Type 0 where
  pub turns : ℕ
  pub ends : run value map turns marks rest ≡ Some o

-- the first page is the source's begin mark, its lines and its end
abbrev pub ComesFrom : Value → Held → List ℕ → Option (List ℕ) → Outcome → Type 0
ComesFrom value map name None o = o ≡ NotHeld
ComesFrom value map name (Some bytes) o =
    MatchBool (is_long_file bytes) (o ≡ Long name)
    (Ends value map (Began name ∷ []) (lines_of_file 0 (file_of bytes) []) o)

-- what a source comes to, each condition having the value of its tree
pub record Comes (map : Held) (name : List ℕ) (o : Outcome) : Type 0 where
  pub value : Value
  pub is_value : IsValue value
  pub comes : ComesFrom value map name (get map name) o

-- nothing else
abbrev pub HasOneOutcome : Held → List ℕ → Type 0
HasOneOutcome map name = (a b : Outcome) → Comes map name a → Comes map name b → a ≡ b
