-- The lines of a source over a stack of open files, for the proof alone: one step settles the first
-- line that is left of the innermost file; an include opens another, and a file without lines is
-- closed.
use Rattle.std.specs.Prelude.{◌≡◌, ℕ, zero, suc, nat_lt, is_some, Option, Some, None, Result, Ok}
use Rattle.std.specs.Prelude.{Err, List, [], ◌∷◌, ◌++◌, length, Bool, true, false, if◌then◌else◌}
use Rattle.std.specs.List.{list_any}
use Rattle.std.specs.Str.{bytes_eq}
use Rattle.std.specs.FinMap.{get}
use Rattle.pawn_outside.specs.Held.{Held}
use Rattle.pawn_pre.specs.declared.line.Lines.{Lines}
use Rattle.pawn_pre.specs.Outcome.{Outcome, Whole, Fault, Long, name_of, is_long_file}
use Rattle.pawn_pre.specs.declared.row.Row.{Row}
use Rattle.pawn_pre.specs.declared.work.Work.{Work}
use Rattle.pawn_pre.specs.declared.include.Named.{Named}
use Rattle.pawn_pre.specs.declared.directive.Word.{Word}
use Rattle.pawn_pre.specs.declared.directive.Word.TheVariants as word
use Rattle.pawn_pre.specs.File.{file_of}
use Rattle.pawn_pre.specs.Directive.{Directive, directive}
use Rattle.pawn_pre.specs.Include.{include_name}
use Rattle.pawn_pre.specs.Evaluation.{Value}
use Rattle.pawn_pre.specs.Level.{Level, opened}
use Rattle.pawn_pre.specs.Lists.{first_of, rest_of}
use Rattle.pawn_pre.specs.Work.{act, keep_line, is_in_chosen, nothing_in}

-- the names of the files that were begun, in order; the files that wait for the innermost; and
-- what is settled, with the innermost
pub record Stack : Type 0 where
  pub names : List (List ℕ)
  pub below : List Level
  pub work : Work

-- the next stack, or the outcome
pub data Turned : Type 0 where
  On : Stack → Turned
  Stopped : Outcome → Turned

-- a fault at a line of the innermost file
abbrev pub stack_fault : Stack → ℕ → ℕ → Outcome
stack_fault p kind line =
    Fault kind (record { file = p.work.top.file; line = line }) (name_of p.names p.work.top.file)

-- what the stack comes to where no file is open
abbrev pub stack_lines : Stack → Lines
stack_lines p = record {
  lines = p.work.lines;
  files = p.names;
  dynamic = p.work.settings.dynamic;
}

-- other work
abbrev pub with_work : Stack → Work → Stack
with_work p w = record p { work = w }

-- ---- a file's end

-- the next file goes on, if there is one
abbrev pub next_file : Stack → List Level → Turned
next_file p [] = Stopped (Whole (stack_lines p))
next_file p (file ∷ below) =
    On (record { names = p.names; below = below; work = record p.work { top = file } })

-- an open comment goes before an open conditional
unfoldable pub at_end : Stack → Turned
at_end p =
    if p.work.top.unclosed then Stopped (stack_fault p 12 p.work.top.last)
    else (if is_some (first_of p.work.top.conditionals)
    then Stopped (stack_fault p 2 p.work.top.last) else next_file p p.below)

-- ---- includes

-- a file more
abbrev pub entered : Stack → List ℕ → List ℕ → Stack
entered p name bytes = record {
  names = p.names ++ name ∷ [];
  below = p.work.top ∷ p.below;
  work = record p.work { top = opened (length p.names) (file_of bytes) };
}

-- nothing, or fault 3
abbrev pub walk_missing : Stack → ℕ → Bool → Turned
walk_missing p line optional = if optional then On p else Stopped (stack_fault p 3 line)

-- what the files hold at the name
abbrev pub walk_found : Stack → ℕ → Bool → List ℕ → Option (List ℕ) → Turned
walk_found p line optional name None = walk_missing p line optional
walk_found p line optional name (Some bytes) =
    if is_long_file bytes then Stopped (Long name) else On (entered p name bytes)

-- a name that can't be asked for is missing
abbrev pub walk_include_asked : Held → Stack → ℕ → Bool → Named → Turned
walk_include_asked map p line optional n =
    if n.valid then walk_found p line optional n.name (get map n.name)
    else walk_missing p line optional

-- a file of that name was begun
abbrev pub has_begun : Stack → List ℕ → Bool
has_begun p name = list_any (λ known. bytes_eq name known) p.names

-- an include at depth 17
abbrev pub is_deep : Stack → Bool
is_deep p = nat_lt 15 (length p.below)

-- passed over, then its depth, then missing
abbrev pub walk_include_named : Held → Stack → ℕ → Bool → Named → Turned
walk_include_named map p line optional n =
    if has_begun p n.name then On p
    else (if is_deep p then Stopped (stack_fault p 8 line)
    else walk_include_asked map p line optional n)

-- an include by the bytes behind its word
unfoldable pub walk_include : Held → Stack → ℕ → Bool → List ℕ → Turned
walk_include map p line optional rest =
    if is_in_chosen p.work then walk_include_named map p line optional (include_name rest) else On p

-- ---- lines

-- what a line does
abbrev pub worked : Stack → ℕ → Result Work ℕ → Turned
worked p line (Ok w) = On (with_work p w)
worked p line (Err kind) = Stopped (stack_fault p kind line)

-- what a directive does
abbrev pub walk_directive : Value → Held → Stack → ℕ → Word → List ℕ → Turned
walk_directive value map p line word.Define rest = worked p line (act value p.work word.Define rest)
walk_directive value map p line word.Undef rest = worked p line (act value p.work word.Undef rest)
walk_directive value map p line word.If rest = worked p line (act value p.work word.If rest)
walk_directive value map p line word.ElseIf rest = worked p line (act value p.work word.ElseIf rest)
walk_directive value map p line word.Else rest = worked p line (act value p.work word.Else rest)
walk_directive value map p line word.Endif rest = worked p line (act value p.work word.Endif rest)
walk_directive value map p line word.Include rest = walk_include map p line false rest
walk_directive value map p line word.TryInclude rest = walk_include map p line true rest
walk_directive value map p line word.Error rest = worked p line (act value p.work word.Error rest)
walk_directive value map p line word.Assert rest = worked p line (act value p.work word.Assert rest)
walk_directive value map p line word.Endinput rest =
    worked p line (act value p.work word.Endinput rest)
walk_directive value map p line word.Pragma rest = worked p line (act value p.work word.Pragma rest)
walk_directive value map p line word.Unknown rest =
    worked p line (act value p.work word.Unknown rest)

-- a plain line, or a directive
abbrev pub line_by : Value → Held → Stack → Row → Option Directive → Turned
line_by value map p row None = worked p row.number (keep_line p.work row.number row.bytes)
line_by value map p row (Some d) = walk_directive value map p row.number d.word d.rest

-- a line less
abbrev pub without_row : Stack → Stack
without_row p =
    with_work p (record p.work { top = record p.work.top { rows = rest_of p.work.top.rows } })

-- the next line, or the file's end
abbrev pub row_by : Value → Held → Stack → Option Row → Turned
row_by value map p None = at_end p
row_by value map p (Some row) = line_by value map (without_row p) row (directive row.bytes)

-- one step
unfoldable pub step : Value → Held → Stack → Turned
step value map p = row_by value map p (first_of p.work.top.rows)

-- ---- all steps

-- what follows a step, if anything does
abbrev pub run_walk_by : Turned → (Stack → Option Outcome) → Option Outcome
run_walk_by (On p) go_on = go_on p
run_walk_by (Stopped o) go_on = Some o

-- what so many steps come to, if they are enough
unfoldable pub run_walk : Value → Held → ℕ → Stack → Option Outcome
run_walk value map zero p = None
run_walk value map (suc n) p = run_walk_by (step value map p) (λ q. run_walk value map n q)

-- some number of steps comes to an outcome
pub record WalkEnds (value : Value) (map : Held) (p : Stack) (o : Outcome) : Type 0 where
  pub steps : ℕ
  pub ends : run_walk value map steps p ≡ Some o

-- the source, before its first line
abbrev pub first_stack : List ℕ → List ℕ → Stack
first_stack name bytes = record {
  names = name ∷ [];
  below = [];
  work = nothing_in (opened 0 (file_of bytes));
}
