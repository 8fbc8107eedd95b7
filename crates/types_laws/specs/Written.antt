-- Expressions as a source has them: numbers are cells, bytes are bytes, a chain has a link, and the
-- names that are called are among some.
use Rattle.std.specs.Prelude.{◌≡◌, ◌<◌, ℕ, List, Option, None, Some}
use Rattle.pawn_cells.specs.Cells.{IsCell}
use Rattle.pawn_tree.specs.Expressions.{Expr, Number, Text, Name, Paren, Sizeof, Tagof, Prefix}
use Rattle.pawn_tree.specs.Expressions.{Tagged, Postfix, Index, Character, Binary, Chain, Choice}
use Rattle.pawn_tree.specs.Expressions.{Assign, Call, Arg, Value, Default, Named, Args, no_args}
use Rattle.pawn_tree.specs.Expressions.{then_arg, Link, Compare, Links, no_links, then_link}
use Rattle.types_laws.specs.Placed.{IsShort}
use Rattle.pawn_tree.specs.Variables as v
use Rattle.pawn_tree.specs.Variables.{Dim, Init, Braces, Inits, no_inits, then_init, Var}
use Rattle.types_laws.specs.Objects.{Each}

-- bytes
abbrev pub AreBytes : List ℕ → Type 0
AreBytes bytes = Each (λ byte. byte < 256) bytes

-- the names that may be called
module _ (Calls : List ℕ → Type 0) where
  abbrev mutual
    -- an expression
    pub IsWritten : Expr → Type 0
    IsWritten (Number at v) = IsCell v
    IsWritten (Text at bytes packed) = AreBytes bytes
    IsWritten (Name at name) = Unit {0}
    IsWritten (Paren at e) = IsWritten e
    IsWritten (Sizeof at operand) = IsShort operand
    IsWritten (Tagof at operand) = Unit {0}
    IsWritten (Prefix at sign e) = IsWritten e
    IsWritten (Tagged at tag e) = IsWritten e
    IsWritten (Postfix at sign e) = IsWritten e
    IsWritten (Index at a i) = IsWritten a × IsWritten i
    IsWritten (Character at a i) = IsWritten a × IsWritten i
    IsWritten (Binary at sign l r) = IsWritten l × IsWritten r
    IsWritten (Chain at e links) = ¬ (links ≡ no_links) × IsWritten e × AreWrittenLinks links
    IsWritten (Choice at c a b) = IsWritten c × IsWritten a × IsWritten b
    IsWritten (Assign at sign l r) = IsWritten l × IsWritten r
    IsWritten (Call at name args bare) = Calls name × AreWrittenArgs args

    -- the links of a chain
    pub AreWrittenLinks : Links → Type 0
    AreWrittenLinks no_links = Unit {0}
    AreWrittenLinks (then_link link more) = IsWrittenLink link × AreWrittenLinks more

    -- a link
    pub IsWrittenLink : Link → Type 0
    IsWrittenLink (Compare sign e) = IsWritten e

    -- arguments
    pub AreWrittenArgs : Args → Type 0
    AreWrittenArgs no_args = Unit {0}
    AreWrittenArgs (then_arg arg more) = IsWrittenArg arg × AreWrittenArgs more

    -- an argument
    pub IsWrittenArg : Arg → Type 0
    IsWrittenArg (Value e) = IsWritten e
    IsWrittenArg (Default at) = Unit {0}
    IsWrittenArg (Named name e) = IsWritten e

-- any name may be called
abbrev pub IsAnyName : List ℕ → Type 0
IsAnyName name = Unit {0}

-- ---- variables

-- a dimension, in which no call stands
abbrev pub IsWrittenDim : Dim → Type 0
IsWrittenDim v.Open = Unit {0}
IsWrittenDim (v.Cells e) = IsWritten IsAnyName e
IsWrittenDim (v.Chars e) = IsWritten IsAnyName e

abbrev mutual
  -- a value in braces, in which none stands either
  pub IsConstantInit : Init → Type 0
  IsConstantInit (v.Value e) = IsWritten IsAnyName e
  IsConstantInit (Braces at xs goes_on) = ¬ (xs ≡ no_inits) × AreConstantInits xs

  -- values in braces
  pub AreConstantInits : Inits → Type 0
  AreConstantInits no_inits = Unit {0}
  AreConstantInits (then_init x xs) = IsConstantInit x × AreConstantInits xs

module _ (Calls : List ℕ → Type 0) where
  -- a first value
  abbrev pub IsWrittenInit : Option Init → Type 0
  IsWrittenInit None = Unit {0}
  IsWrittenInit (Some (v.Value e)) = IsWritten Calls e
  IsWrittenInit (Some (Braces at xs goes_on)) = ¬ (xs ≡ no_inits) × AreConstantInits xs

  -- a variable
  pub record IsWrittenVar (x : Var) : Type 0 where
    pub dims : Each IsWrittenDim x.dims
    pub init : IsWrittenInit x.init
