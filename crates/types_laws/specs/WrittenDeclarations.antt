-- Declarations as a source has them.
use Rattle.std.specs.Prelude.{ℕ, List}
use Rattle.pawn_tree.specs.Declarations.{Decl, Variables, Constant, Enum, Native, Forward, Function}
use Rattle.pawn_tree.specs.Declarations.{Tree, Item, Param, Plain, Rest, Head}
use Rattle.types_laws.specs.Objects.{Each}
use Rattle.types_laws.specs.Written.{IsAnyName, IsWrittenDim, IsWrittenVar}
use Rattle.types_laws.specs.WrittenStatements.{IsConstant, MayBeConstant, IsWrittenStmt}

-- a constant of an enumeration
abbrev pub IsWrittenItem : Item → Type 0
IsWrittenItem it = MayBeConstant it.value

-- a parameter, in whose sizes and default no call stands
abbrev pub IsWrittenParam : Param → Type 0
IsWrittenParam (Plain constant reference tags name dims value) =
    Each IsWrittenDim dims × MayBeConstant value
IsWrittenParam (Rest at tags) = Unit {0}

-- one of a function, which has no `...`
abbrev pub IsOwnParam : Param → Type 0
IsOwnParam (Plain constant reference tags name dims value) =
    Each IsWrittenDim dims × MayBeConstant value
IsOwnParam (Rest at tags) = ⊥

-- the head of a native
abbrev pub IsWrittenHead : Head → Type 0
IsWrittenHead head = Each IsWrittenParam head.params

-- the head of a function
abbrev pub IsOwnHead : Head → Type 0
IsOwnHead head = Each IsOwnParam head.params

-- the names that bodies may call
module _ (Calls : List ℕ → Type 0) where
  -- a declaration
  abbrev pub IsWrittenDecl : Decl → Type 0
  IsWrittenDecl (Variables at it) = Each (IsWrittenVar IsAnyName) it.vars
  IsWrittenDecl (Constant at it) = IsConstant it.value
  IsWrittenDecl (Enum at name items) = Each IsWrittenItem items
  IsWrittenDecl (Native at head) = IsWrittenHead head
  IsWrittenDecl (Forward at is_public head) = IsOwnHead head
  IsWrittenDecl (Function at it) = IsOwnHead it.head × IsWrittenStmt Calls it.body

  -- all declarations
  abbrev pub IsWrittenTree : Tree → Type 0
  IsWrittenTree tree = Each IsWrittenDecl tree
