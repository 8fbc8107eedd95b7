-- What one line does, includes aside (Language Guide, "Directives").
use Rattle.std.specs.Prelude.{ℕ, ◌+◌, ℤ, pos, nat_lt, not, Option, Some, None, Result, Ok, Err}
use Rattle.std.specs.Prelude.{List, [], ◌∷◌, ◌++◌, length, Bool, true, false, if◌then◌else◌}
use Rattle.std.specs.FinMap.{insert, remove, empty}
use Rattle.pawn_cells.specs.Cells.{is_zero}
use Rattle.pawn_pre.specs.declared.line.Line.{Line}
use Rattle.pawn_pre.specs.declared.line.TheConstants.{MOST_BYTES}
use Rattle.pawn_pre.specs.declared.state.Part.{Part}
use Rattle.pawn_pre.specs.declared.state.Part.TheVariants.{Chosen, Waiting, Done}
use Rattle.pawn_pre.specs.declared.state.Conditional.{Conditional}
use Rattle.pawn_pre.specs.declared.state.Settings.{Settings}
use Rattle.pawn_pre.specs.declared.work.Work.{Work}
use Rattle.pawn_pre.specs.declared.directive.Word.{Word}
use Rattle.pawn_pre.specs.declared.directive.Word.TheVariants as word
use Rattle.pawn_pre.specs.declared.directive.Setting.{Setting}
use Rattle.pawn_pre.specs.declared.directive.Setting.TheVariants as setting
use Rattle.pawn_pre.specs.declared.define.Definition.{Definition}
use Rattle.pawn_pre.specs.Blanks.{past_blanks}
use Rattle.pawn_pre.specs.Substitution.{expanded}
use Rattle.pawn_pre.specs.Directive.{pragma, quoted_byte}
use Rattle.pawn_pre.specs.Define.{definition, undefined}
use Rattle.pawn_pre.specs.Level.{Level, is_chosen}
use Rattle.pawn_pre.specs.Lists.{first_of, rest_of}
use Rattle.pawn_pre.specs.Evaluation.{Value, proceed, or_fault, condition, number}

-- nothing is kept, defined or set; the control character is `\`, and the room is 4,096 cells
abbrev pub nothing_in : Level → Work
nothing_in top = record {
  lines = [];
  size = 0;
  rules = empty;
  settings = record { control = 92; strict = false; packed = false; dynamic = pos 4096 };
  top = top;
}

-- such a conditional
abbrev pub conditional : Part → Bool → Conditional
conditional part past = record { part = part; past = past }

-- the next line stands in a chosen part
abbrev pub is_in_chosen : Work → Bool
is_in_chosen w = is_chosen (first_of w.top.conditionals)

-- other open conditionals
abbrev pub with_conditionals : Work → List Conditional → Work
with_conditionals w conditionals = record w { top = record w.top { conditionals = conditionals } }

-- another innermost conditional
abbrev pub with_innermost : Work → Conditional → Work
with_innermost w c = with_conditionals w (c ∷ rest_of w.top.conditionals)

-- ---- lines that are kept

-- a line with the settings in force
abbrev pub line_of : Work → ℕ → List ℕ → Line
line_of w number bytes = record {
  place = record { file = w.top.file; line = number };
  ctrl = w.settings.control;
  strict = w.settings.strict;
  packed = w.settings.packed;
  bytes = bytes;
}

-- fault 10 where all lines together have too many bytes
abbrev pub with_kept_line : Work → ℕ → List ℕ → Result Work ℕ
with_kept_line w number bytes =
    if nat_lt MOST_BYTES (w.size + length bytes) then Err 10
    else Ok (record w {
      lines = w.lines ++ line_of w number bytes ∷ [];
      size = w.size + length bytes;
    })

-- a line that is no directive
unfoldable pub keep_line : Work → ℕ → List ℕ → Result Work ℕ
keep_line w number bytes =
    if is_in_chosen w
    then proceed (expanded w.rules w.settings.control bytes) (λ line. with_kept_line w number line)
    else Ok w

-- ---- conditionals

-- a part whose condition has this value
abbrev pub part_of_value : ℤ → Part
part_of_value v = if is_zero v then Waiting else Chosen

-- a condition under what is in force
abbrev pub condition_of : Value → Work → List ℕ → Result ℤ ℕ
condition_of value w rest = condition value w.rules w.settings.control rest

-- one conditional more
abbrev pub push : Work → Part → Work
push w part = with_conditionals w (conditional part false ∷ w.top.conditionals)

-- an `#if`
unfoldable pub begin_if : Value → Work → List ℕ → Result Work ℕ
begin_if value w rest =
    if is_in_chosen w then proceed (condition_of value w rest) (λ v. Ok (push w (part_of_value v)))
    else Ok (push w Done)

-- an `#elseif` by what became of the part before
abbrev pub elseif_part : Value → Work → List ℕ → Part → Result Work ℕ
elseif_part value w rest Chosen = Ok (with_innermost w (conditional Done false))
elseif_part value w rest Waiting =
    proceed (condition_of value w rest)
    (λ v. Ok (with_innermost w (conditional (part_of_value v) false)))
elseif_part value w rest Done = Ok (with_innermost w (conditional Done false))

-- an `#elseif` by the innermost conditional
abbrev pub elseif_by : Value → Work → List ℕ → Option Conditional → Result Work ℕ
elseif_by value w rest None = Err 2
elseif_by value w rest (Some c) = if c.past then Err 2 else elseif_part value w rest c.part

-- an `#elseif`
unfoldable pub turn_elseif : Value → Work → List ℕ → Result Work ℕ
turn_elseif value w rest = elseif_by value w rest (first_of w.top.conditionals)

-- the part behind an `#else`
abbrev pub else_part : Part → Part
else_part Chosen = Done
else_part Waiting = Chosen
else_part Done = Done

-- an `#else` by the innermost conditional
abbrev pub else_by : Work → Option Conditional → Result Work ℕ
else_by w None = Err 2
else_by w (Some c) =
    if c.past then Err 2 else Ok (with_innermost w (conditional (else_part c.part) true))

-- an `#else`
unfoldable pub turn_else : Work → Result Work ℕ
turn_else w = else_by w (first_of w.top.conditionals)

-- an `#endif` by the innermost conditional
abbrev pub end_by : Work → Option Conditional → Result Work ℕ
end_by w None = Err 2
end_by w (Some c) = Ok (with_conditionals w (rest_of w.top.conditionals))

-- an `#endif`
unfoldable pub end_if : Work → Result Work ℕ
end_if w = end_by w (first_of w.top.conditionals)

-- ---- the other directives, in chosen parts

-- an `#assert`
unfoldable pub assert_true : Value → Work → List ℕ → Result Work ℕ
assert_true value w rest =
    proceed (condition_of value w rest) (λ v. if is_zero v then Err 5 else Ok w)

-- one definition more
abbrev pub with_definition : Work → Definition → Work
with_definition w d = record w { rules = insert w.rules d.key d.rule }

-- a `#define`
unfoldable pub define : Work → List ℕ → Result Work ℕ
define w rest =
    proceed (or_fault 6 (definition w.settings.control rest)) (λ d. Ok (with_definition w d))

-- a definition less
abbrev pub without : Work → Option (List ℕ) → Work
without w None = w
without w (Some key) = record w { rules = remove w.rules key }

-- an `#undef`
unfoldable pub remove_definition : Work → List ℕ → Result Work ℕ
remove_definition w rest = Ok (without w (undefined rest))

-- other settings
abbrev pub with_settings : Work → Settings → Work
with_settings w settings = record w { settings = settings }

-- the number of a `#pragma` under what is in force
abbrev pub number_of : Value → Work → List ℕ → Result ℤ ℕ
number_of value w rest = number value w.rules w.settings.control rest

-- other than 0
abbrev pub is_set : ℤ → Bool
is_set v = not (is_zero v)

-- a `#pragma` by its word
abbrev pub pragma_by : Value → Work → List ℕ → Setting → Result Work ℕ
pragma_by value w rest setting.Semicolon = proceed (number_of value w rest)
    (λ v. Ok (with_settings w (record w.settings { strict = is_set v })))
pragma_by value w rest setting.Pack = proceed (number_of value w rest)
    (λ v. Ok (with_settings w (record w.settings { packed = is_set v })))
pragma_by value w rest setting.Control = proceed (or_fault 11 (quoted_byte (past_blanks rest)))
    (λ c. Ok (with_settings w (record w.settings { control = c })))
pragma_by value w rest setting.Dynamic = proceed (number_of value w rest)
    (λ v. Ok (with_settings w (record w.settings { dynamic = v })))
pragma_by value w rest setting.Other = Ok w

-- a `#pragma`
unfoldable pub set_pragma : Value → Work → List ℕ → Result Work ℕ
set_pragma value w rest = pragma_by value w (pragma rest).rest (pragma rest).setting

-- the file ends here, with its conditionals
abbrev pub end_input : Work → Work
end_input w = record w { top = record w.top { rows = []; conditionals = [] } }

-- includes are told apart before
abbrev pub in_chosen : Value → Work → Word → List ℕ → Result Work ℕ
in_chosen value w word.Define rest = define w rest
in_chosen value w word.Undef rest = remove_definition w rest
in_chosen value w word.If rest = Ok w
in_chosen value w word.ElseIf rest = Ok w
in_chosen value w word.Else rest = Ok w
in_chosen value w word.Endif rest = Ok w
in_chosen value w word.Include rest = Ok w
in_chosen value w word.TryInclude rest = Ok w
in_chosen value w word.Error rest = Err 4
in_chosen value w word.Assert rest = assert_true value w rest
in_chosen value w word.Endinput rest = Ok (end_input w)
in_chosen value w word.Pragma rest = set_pragma value w rest
in_chosen value w word.Unknown rest = Err 1

-- nothing, in parts that aren't chosen
abbrev pub if_chosen : Value → Work → Word → List ℕ → Result Work ℕ
if_chosen value w directive rest =
    if is_in_chosen w then in_chosen value w directive rest else Ok w

-- a directive
unfoldable pub act : Value → Work → Word → List ℕ → Result Work ℕ
act value w word.If rest = begin_if value w rest
act value w word.ElseIf rest = turn_elseif value w rest
act value w word.Else rest = turn_else w
act value w word.Endif rest = end_if w
act value w word.Define rest = if_chosen value w word.Define rest
act value w word.Undef rest = if_chosen value w word.Undef rest
act value w word.Include rest = if_chosen value w word.Include rest
act value w word.TryInclude rest = if_chosen value w word.TryInclude rest
act value w word.Error rest = if_chosen value w word.Error rest
act value w word.Assert rest = if_chosen value w word.Assert rest
act value w word.Endinput rest = if_chosen value w word.Endinput rest
act value w word.Pragma rest = if_chosen value w word.Pragma rest
act value w word.Unknown rest = if_chosen value w word.Unknown rest
