-- What a parameter is given by an argument (Language Guide, "Functions", "Tag names").
use Rattle.std.specs.Prelude.{ℕ, List, [], ◌∷◌, ◌++◌, Bool, true, false, ◌&&◌, ◌||◌, if◌then◌else◌}
use Rattle.std.specs.Prelude.{Option, None, Some, nat_eq}
use Rattle.std.specs.Str.{bytes_eq}
use Rattle.pawn_tree.specs.declared.name.At.{At}
use Rattle.pawn_meaning.specs.Program.{Scalar, Global, Own, Through, Element, Char, Array, From}
use Rattle.pawn_meaning.specs.Program.{Expr, Read, Arg, Value, Ref, Whole, Temp}
use Rattle.pawn_meaning.specs.Program as code
use Rattle.pawn_meaning.specs.Scope.{Extent}
use Rattle.types_rules.specs.declared.fault.TheConstants.{ARGUMENT_KIND, SIZES_DIFFER}
use Rattle.names_rules.specs.Verdict.{Verdict, Stands, after}
use Rattle.types_rules.specs.Rule.{broken, also}
use Rattle.types_rules.specs.Typed.{Typed, Form, line}
use Rattle.types_rules.specs.Typed as typed
use Rattle.types_rules.specs.Around.{Around, Param}
use Rattle.types_rules.specs.NamesAndNumbers.{size_or_zero}
use Rattle.types_rules.specs.Tests.{Sent, sent, tested}

-- the argument in the program, what `sizeof` and `tagof` of the parameter are with it, and what it
-- warns of
pub record Given : Type 0 where
  pub code : Arg
  pub size : ℕ
  pub tag : ℕ
  pub warned : List At

-- an argument that is tested and not converted
abbrev pub tested_given : Around → List ℕ → Typed → Arg → ℕ → Given
tested_given cx tags x arg size =
    record { code = arg; size = size; tag = x.tag; warned = tested cx tags x.tag x.at ++ x.warned }

-- a constant thing goes only to what is constant too
abbrev pub keeps_constant : At → Bool → Bool → Verdict Bool
keeps_constant at true false = broken ARGUMENT_KIND at
keeps_constant at constant wanted = Stands wanted

-- ---- a plain parameter

-- one cell for a parameter that takes a value
abbrev pub value_in : At → Form → Verdict Expr
value_in at (typed.Value e) = Stands e
value_in at (typed.Place p constant) = Stands (Read p)
value_in at (typed.Whole a extent constant) = broken ARGUMENT_KIND at
value_in at (typed.Literal object cells) = broken ARGUMENT_KIND at

-- a value passed by value, converted to the parameter's tag if a user operator does so
abbrev pub converted_given : Typed → Sent → Given
converted_given x it =
    record { code = Value it.code; size = 1; tag = x.tag; warned = it.warned ++ x.warned }

-- an argument passed by value
unfoldable pub plain_given : Around → At → Param → Typed → Verdict Given
plain_given cx at param x =
    after (value_in at x.form) (λ e. Stands (converted_given x (sent cx param.tags x.tag x.at e)))

-- ---- a reference

-- a packed character, which no reference leads to
abbrev pub is_char : Scalar → Bool
is_char (Global o) = false
is_char (Own s) = false
is_char (Through s) = false
is_char (Element a e) = false
is_char (Char a e) = true

-- a variable or an element
abbrev pub cell_of_memory : At → Scalar → Verdict Scalar
cell_of_memory at p = if is_char p then broken ARGUMENT_KIND at else Stands p

-- a cell in memory for a parameter with `&`, one that isn't constant unless it takes such
abbrev pub place_in : At → Bool → Form → Verdict Scalar
place_in at wanted (typed.Value e) = broken ARGUMENT_KIND at
place_in at wanted (typed.Place p constant) =
    also (keeps_constant at constant wanted) (cell_of_memory at p)
place_in at wanted (typed.Whole a extent constant) = broken ARGUMENT_KIND at
place_in at wanted (typed.Literal object cells) = broken ARGUMENT_KIND at

-- an argument passed by reference
unfoldable pub reference_given : Around → At → Param → Typed → Verdict Given
reference_given cx at param x =
    after (place_in at param.constant x.form) (λ p. Stands (tested_given cx param.tags x (Ref p) 1))

-- ---- an array

-- a size that the parameter gives is the argument's
abbrev pub first_fits : Option ℕ → Option ℕ → Bool
first_fits None first = true
first_fits (Some size) None = false
first_fits (Some size) (Some first) = nat_eq size first

-- as many dimensions, and each size that the parameter gives
abbrev pub fits : Extent → Extent → Bool
fits wanted extent = bytes_eq wanted.inner extent.inner && first_fits wanted.first extent.first

-- an array that fits a parameter
abbrev pub fitting : At → Extent → Extent → Array → Verdict Array
fitting at wanted extent a = if fits wanted extent then Stands a else broken SIZES_DIFFER at

-- one dimension of any size, which takes the rest of an array from an element on
abbrev pub is_open_line : Option ℕ → List ℕ → Bool
is_open_line None [] = true
is_open_line None (size ∷ inner) = false
is_open_line (Some first) inner = false

-- an element stands for the array from there on, where the parameter is open in one dimension
abbrev pub rest_from : At → Extent → Scalar → Verdict Array
rest_from at wanted (Global o) = broken ARGUMENT_KIND at
rest_from at wanted (Own s) = broken ARGUMENT_KIND at
rest_from at wanted (Through s) = broken ARGUMENT_KIND at
rest_from at wanted (Char a e) = broken ARGUMENT_KIND at
rest_from at wanted (Element a e) =
    if is_open_line wanted.first wanted.inner then Stands (From a e) else broken SIZES_DIFFER at

-- an array with its first size, 0 where that isn't known
pub record PassedArray : Type 0 where
  pub array : Array
  pub size : ℕ

-- an array that fits, with the size that `sizeof` gives for it
abbrev pub passed : Verdict Array → ℕ → Verdict PassedArray
passed a size = after a (λ it. Stands (record { array = it; size = size }))

-- an array for a parameter that takes one, whole or from an element on
abbrev pub array_argument : At → Bool → Extent → Form → Verdict PassedArray
array_argument at keeps wanted (typed.Value e) = broken ARGUMENT_KIND at
array_argument at keeps wanted (typed.Place p constant) =
    also (keeps_constant at constant keeps) (passed (rest_from at wanted p) 0)
array_argument at keeps wanted (typed.Whole a extent constant) =
    also (keeps_constant at constant keeps)
    (passed (fitting at wanted extent a) (size_or_zero extent.first))
array_argument at keeps wanted (typed.Literal object cells) =
    passed (fitting at wanted (line cells) (code.Object object)) cells

-- an argument for a parameter that is an array
unfoldable pub array_given : Around → At → Param → Extent → Typed → Verdict Given
array_given cx at param wanted x =
    after (array_argument at param.constant wanted x.form)
    (λ it. Stands (tested_given cx param.tags x (Whole it.array) it.size))

-- ---- all kinds

-- by what the parameter takes: an array, a reference or a value
abbrev pub given_by : Around → At → Param → Option Extent → Typed → Verdict Given
given_by cx at param (Some wanted) x = array_given cx at param wanted x
given_by cx at param None x =
    if param.reference then reference_given cx at param x else plain_given cx at param x

-- an argument for a parameter
abbrev pub given_rule : Around → At → Param → Typed → Verdict Given
given_rule cx at param x = given_by cx at param param.extent x

-- ---- an argument of `...`

-- variables and elements that aren't constant go by reference, and so do arrays; all else goes in
-- a cell of its own
abbrev pub rest_place : Bool → Scalar → Arg
rest_place constant p = if constant || is_char p then Temp (Read p) else Ref p

-- a further argument, which is passed by reference: a value by a cell of its own
abbrev pub rest_arg : Form → Arg
rest_arg (typed.Value e) = Temp e
rest_arg (typed.Place p constant) = rest_place constant p
rest_arg (typed.Whole a extent constant) = Whole a
rest_arg (typed.Literal object cells) = Whole (code.Object object)

-- an argument behind the last parameter, for `...` with these tags
unfoldable pub rest_rule : Around → List ℕ → Typed → Given
rest_rule cx tags x = tested_given cx tags x (rest_arg x.form) 1
