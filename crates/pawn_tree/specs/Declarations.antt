-- The declarations of a source as plain data (Language Guide, "Declarations", "Functions").
use Rattle.std.specs.Prelude.{Bool, List, Option}
use Rattle.pawn_tree.specs.declared.name.At.{At}
use Rattle.pawn_tree.specs.declared.name.Name.{Name}
use Rattle.pawn_tree.specs.declared.name.StateName.{StateName}
use Rattle.pawn_tree.specs.declared.declaration.HeadName.{HeadName}
use Rattle.pawn_tree.specs.Expressions.{Expr}
use Rattle.pawn_tree.specs.Variables as v
use Rattle.pawn_tree.specs.Variables.{Dim}
use Rattle.pawn_tree.specs.Statements.{ConstantOf, Stmt}

-- a constant of an enumeration
pub record Item : Type 0 where
  pub name : Name
  pub value : Option Expr

-- a parameter, with `const`, `&`, tags, name, dimensions and default, or `...` with its tags
pub data Param : Type 0 where
  Plain : Bool → Bool → List Name → Name → List Dim → Option Expr → Param
  Rest : At → List Name → Param

-- what a function is called with
pub record Head : Type 0 where
  pub tag : Option Name
  pub name : HeadName
  pub params : List Param

-- a function with its body
pub record FunctionOf : Type 0 where
  pub is_static : Bool
  pub is_stock : Bool
  pub is_public : Bool
  pub head : Head
  pub states : Option (List StateName)
  pub body : Stmt

-- a declaration at the level of the file
pub data Decl : Type 0 where
  Variables : At → v.Variables → Decl
  Constant : At → ConstantOf → Decl
  Enum : At → Option Name → List Item → Decl
  Native : At → Head → Decl
  Forward : At → Bool → Head → Decl
  Function : At → FunctionOf → Decl

-- a tree: its declarations, in order
abbrev pub Tree : Type 0
Tree = List Decl
