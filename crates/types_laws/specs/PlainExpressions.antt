-- The value of an expression that stands is a cell, its tag a number, and its literals are the
-- texts in it, each of them a good object.
use Rattle.std.specs.Prelude.{◌≡◌, ℕ}
use Rattle.pawn_tree.specs.Expressions.{Expr}
use Rattle.names_rules.specs.Verdict.{Stands}
use Rattle.types_rules.specs.Typed.{Typed}
use Rattle.types_rules.specs.Around.{Around}
use Rattle.types_rules.specs.Scope.{Scope}
use Rattle.types_rules.specs.Expressions.{expr}
use Rattle.types_laws.specs.Objects.{Each, IsGoodObject}
use Rattle.types_laws.specs.Written.{IsWritten, IsAnyName}
use Rattle.types_laws.specs.Texts.{texts}
use Rattle.types_laws.specs.Plain.{IsTag, IsValue, IsPlainPath, HasTags}

-- a typed expression beside its tree
pub record IsPlain (e : Expr) (x : Typed) : Type 0 where
  pub literals : x.literals ≡ texts e
  pub objects : Each IsGoodObject x.literals
  pub value : IsValue x.value
  pub tag : IsTag x.tag

-- so it is with each expression that stands
abbrev pub ExpressionsArePlain : Type 0
ExpressionsArePlain =
    (cx : Around) (path : Scope) (before : ℕ) (e : Expr) (x : Typed)
    → HasTags cx → IsPlainPath path → IsWritten IsAnyName e → expr cx path before e ≡ Stands x
    → IsPlain e x
