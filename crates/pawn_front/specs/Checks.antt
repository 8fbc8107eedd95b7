-- What the layers behind the preprocessor answer. Want of memory is free.
use Rattle.std.specs.Prelude.{◌≡◌, ℕ, ℤ, List, Result, Ok, Err}
use Rattle.pawn_cells.specs.declared.place.Place.{Place}
use Rattle.pawn_pre.specs.declared.fault.PreFault.{PreFault}
use Rattle.pawn_pre.specs.declared.fault.PreFault.TheVariants as pre
use Rattle.pawn_pre.specs.declared.line.Line.{Line}
use Rattle.pawn_pre.specs.declared.line.Lines.{Lines}
use Rattle.pawn_pre.specs.Outcome.{name_of}
use Rattle.pawn_lex.specs.declared.token.Token.{Token}
use Rattle.pawn_lex.specs.declared.token.Tokens.{Tokens}
use Rattle.pawn_lex.specs.Lines.{AreTokens, IsFirstFault}
use Rattle.pawn_tree.specs.declared.declaration.Tree.{Tree}
use Rattle.pawn_tree.specs.Declarations.{Tree as PlainTree}
use Rattle.pawn_tree.specs.View.{tree_view}
use Rattle.tree_rules.specs.Spells.{IsParse}
use Rattle.pawn_meaning.specs.View.{program_view}
use Rattle.types_rules.specs.IsTyped.{IsFault, IsTyped}
use Rattle.pawn_verdict.specs.declared.fault.CheckFault.{CheckFault}
use Rattle.pawn_verdict.specs.declared.fault.CheckFault.TheVariants as check
use Rattle.pawn_check.specs.FunctionNames.{AreNames, function_names}
use Rattle.pawn_front.specs.declared.checking.Named.{Named}
use Rattle.pawn_front.specs.declared.fault.CompileFault.{CompileFault}
use Rattle.pawn_front.specs.declared.fault.CompileFault.TheVariants as compile
use Rattle.pawn_front.specs.Faults.{Breaks, BreaksTokens, BreaksTree}
use Rattle.pawn_front.specs.Means.{IsProgramOf, IsProgramOfTokens}

-- the tokens of lines
abbrev pub Cuts : List Line → Result Tokens CheckFault → Type 0
Cuts lines (Ok it) = AreTokens lines it.list
Cuts lines (Err (check.Source kind place)) = IsFirstFault lines kind place
Cuts lines (Err check.Memory) = Unit {0}

-- the tree of tokens
abbrev pub Grows : List Token → Result Tree CheckFault → Type 0
Grows ts (Ok tree) = IsParse ts (tree_view tree)
Grows ts (Err (check.Source kind place)) = BreaksTree ts kind place
Grows ts (Err check.Memory) = Unit {0}

-- the program of a tree, with the names of its functions
pub record IsNamedOfTree (tree : PlainTree) (dynamic : ℤ) (it : Named) : Type 0 where
  pub is : IsTyped tree dynamic (program_view it.checked.program) it.checked.warnings
  pub names_are : it.names ≡ function_names tree
  pub named : AreNames (program_view it.checked.program) it.names

-- a tree is such a program, or breaks a rule of types
abbrev pub ChecksTree : PlainTree → ℤ → Result Named CheckFault → Type 0
ChecksTree tree dynamic (Ok it) = IsNamedOfTree tree dynamic it
ChecksTree tree dynamic (Err (check.Source kind place)) =
    IsFault tree dynamic (record { kind = kind; place = place })
ChecksTree tree dynamic (Err check.Memory) = Unit {0}

-- the program of tokens, with the names of its functions
pub record IsNamedOfTokens (ts : List Token) (dynamic : ℤ) (it : Named) : Type 0 where
  pub is : IsProgramOfTokens ts dynamic (program_view it.checked.program) it.checked.warnings
  pub names_are : it.names ≡ function_names is.tree
  pub named : AreNames (program_view it.checked.program) it.names

-- tokens are such a program, or they break a rule of syntax, or their tree one of types
abbrev pub ChecksTokens : List Token → ℤ → Result Named CheckFault → Type 0
ChecksTokens ts dynamic (Ok it) = IsNamedOfTokens ts dynamic it
ChecksTokens ts dynamic (Err (check.Source kind place)) = BreaksTokens ts dynamic kind place
ChecksTokens ts dynamic (Err check.Memory) = Unit {0}

-- the program of lines, with the names of its functions
pub record IsNamedOf (lines : Lines) (it : Named) : Type 0 where
  pub is : IsProgramOf lines (program_view it.checked.program) it.checked.warnings
  pub names_are : it.names ≡ function_names is.typed.tree
  pub named : AreNames (program_view it.checked.program) it.names

-- lines are such a program, or they break a rule at that place
abbrev pub Checks : Lines → Result Named CheckFault → Type 0
Checks lines (Ok it) = IsNamedOf lines it
Checks lines (Err (check.Source kind place)) = Breaks lines kind place
Checks lines (Err check.Memory) = Unit {0}

-- ---- refusals

-- the fault that a preprocessor's is
abbrev pub fault_of : PreFault → CompileFault
fault_of (pre.Source kind place name) = compile.Refused kind name place.line
fault_of pre.NoSource = compile.NoSource
fault_of (pre.TooLarge name) = compile.TooLarge name
fault_of pre.Files = compile.Files
fault_of pre.Memory = compile.Memory

-- the refusal of a rule that is broken at a place of files with these names
abbrev pub Refuses : List (List ℕ) → ℕ → Place → CompileFault → Type 0
Refuses files kind place (compile.Refused number file line) =
    (number ≡ kind) × (file ≡ name_of files place.file) × (line ≡ place.line)
Refuses files kind place compile.NoSource = ⊥
Refuses files kind place (compile.TooLarge file) = ⊥
Refuses files kind place compile.Files = ⊥
Refuses files kind place compile.Memory = Unit {0}

-- a rule that lines break
pub record IsRefusal (lines : Lines) (kind : ℕ) (file : List ℕ) (line : ℕ) : Type 0 where
  pub place : Place
  pub breaks : Breaks lines kind place
  pub file_is : file ≡ name_of lines.files place.file
  pub line_is : line ≡ place.line

-- why lines aren't compiled
abbrev pub RefusesLines : Lines → CompileFault → Type 0
RefusesLines lines (compile.Refused kind file line) = IsRefusal lines kind file line
RefusesLines lines compile.NoSource = ⊥
RefusesLines lines (compile.TooLarge file) = ⊥
RefusesLines lines compile.Files = ⊥
RefusesLines lines compile.Memory = Unit {0}
