-- An expression and a program fit: numbers are cells, a chain has a link, each text is the object
-- that is counted so, and each native that is called has a number.
use Rattle.std.specs.Prelude.{◌≡◌, ◌+◌, ◌<◌, ℕ, pos, List, Some, length, slice_get}
use Rattle.pawn_cells.specs.Cells.{IsCell}
use Rattle.pawn_tree.specs.declared.expression.SizeofOperand.{SizeofOperand}
use Rattle.pawn_tree.specs.declared.expression.SizeofOperand.TheVariants as sizeof
use Rattle.pawn_tree.specs.Expressions.{Expr, Number, Text, Name, Paren, Sizeof, Tagof, Prefix}
use Rattle.pawn_tree.specs.Expressions.{Tagged, Postfix, Index, Character, Binary, Chain, Choice}
use Rattle.pawn_tree.specs.Expressions.{Assign, Call, Arg, Value, Default, Named, Args, no_args}
use Rattle.pawn_tree.specs.Expressions.{then_arg, Link, Compare, Links, no_links, then_link}
use Rattle.pawn_meaning.specs.Program.{Program}
use Rattle.types_rules.specs.Around.{Around, Callable}
use Rattle.types_rules.specs.Scope.{Native, Scope, found}
use Rattle.types_rules.specs.Texts.{text_object, text_cells}
use Rattle.types_rules.specs.Literals.{literals, literals_of_arg, literals_of_link}

-- the length of a text is a cell
abbrev pub IsShort : SizeofOperand → Type 0
IsShort (sizeof.Name name dimension) = Unit {0}
IsShort (sizeof.Text text dimension) = IsCell (pos (length (text_cells text.packed text.bytes)))

module _ (program : Program) (cx : Around) (path : Scope) where
  -- a name that means a native means one of the program's
  pub record IsNumbered (name : List ℕ) : Type 0 where
    pub number_in : (n tag : ℕ) (it : Callable) → found path name ≡ Some (Native n tag)
        → slice_get cx.natives n ≡ Some it → it.number < length program.natives

  -- behind so many objects
  abbrev mutual
    -- an expression behind so many objects
    pub IsPlaced : ℕ → Expr → Type 0
    IsPlaced before (Number at v) = IsCell v
    IsPlaced before (Text at bytes packed) =
        slice_get program.objects before ≡ Some (text_object packed bytes)
    IsPlaced before (Name at name) = Unit {0}
    IsPlaced before (Paren at e) = IsPlaced before e
    IsPlaced before (Sizeof at operand) = IsShort operand
    IsPlaced before (Tagof at operand) = Unit {0}
    IsPlaced before (Prefix at sign e) = IsPlaced before e
    IsPlaced before (Tagged at tag e) = IsPlaced before e
    IsPlaced before (Postfix at sign e) = IsPlaced before e
    IsPlaced before (Index at a i) = IsPlaced before a × IsPlaced (before + literals a) i
    IsPlaced before (Character at a i) = IsPlaced before a × IsPlaced (before + literals a) i
    IsPlaced before (Binary at sign l r) = IsPlaced before l × IsPlaced (before + literals l) r
    IsPlaced before (Chain at e links) =
        ¬ (links ≡ no_links) × IsPlaced before e × ArePlacedLinks (before + literals e) links
    IsPlaced before (Choice at c a b) =
        IsPlaced before c × IsPlaced (before + literals c) a
        × IsPlaced (before + (literals c + literals a)) b
    IsPlaced before (Assign at sign l r) = IsPlaced before l × IsPlaced (before + literals l) r
    IsPlaced before (Call at name args bare) = IsNumbered name × ArePlacedArgs before args

    -- the comparisons of a chain
    pub ArePlacedLinks : ℕ → Links → Type 0
    ArePlacedLinks before no_links = Unit {0}
    ArePlacedLinks before (then_link link more) =
        IsPlacedLink before link × ArePlacedLinks (before + literals_of_link link) more

    -- one comparison of a chain
    pub IsPlacedLink : ℕ → Link → Type 0
    IsPlacedLink before (Compare sign e) = IsPlaced before e

    -- each argument behind the literals of those before it
    pub ArePlacedArgs : ℕ → Args → Type 0
    ArePlacedArgs before no_args = Unit {0}
    ArePlacedArgs before (then_arg arg more) =
        IsPlacedArg before arg × ArePlacedArgs (before + literals_of_arg arg) more

    -- `_` asks for nothing
    pub IsPlacedArg : ℕ → Arg → Type 0
    IsPlacedArg before (Value e) = IsPlaced before e
    IsPlacedArg before (Default at) = Unit {0}
    IsPlacedArg before (Named name e) = IsPlaced before e
