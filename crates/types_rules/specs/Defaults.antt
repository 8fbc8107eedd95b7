-- Parameters without an argument take their default (Language Guide, "Functions", on default
-- values): a value, or the size or tag of another parameter's argument.
use Rattle.std.specs.Prelude.{ℕ, ℤ, pos, List, [], ◌∷◌, if◌then◌else◌, Option, None, Some}
use Rattle.std.specs.Prelude.{slice_get, unwrap_or, option_map}
use Rattle.pawn_cells.specs.Cells.{cell_of}
use Rattle.pawn_tree.specs.declared.name.At.{At}
use Rattle.pawn_tags.specs.Tags.{untagged}
use Rattle.pawn_meaning.specs.Program.{Expr, Const, OperateOne, Arg, Value, Temp, Args, then_arg}
use Rattle.types_rules.specs.declared.fault.TheConstants.{ARGUMENT_MISSING}
use Rattle.names_rules.specs.Verdict.{Verdict, Stands, both}
use Rattle.types_rules.specs.Rule.{broken}
use Rattle.types_rules.specs.Around.{Around, Param, Head, NoDefault, Always, SizeOf, TagOf}
use Rattle.types_rules.specs.Around.{first_tag}
use Rattle.types_rules.specs.Around as around
use Rattle.types_rules.specs.Tests.{converter_to}
use Rattle.types_rules.specs.Filling.{Filled, Argument, Default}

-- ---- the size and tag of what a parameter got: without an argument 1, and the parameter's own tag

-- the size of a parameter's argument: 1 where none is given
abbrev pub size_given : Option (Option Filled) → ℕ
size_given (Some (Some (Argument given))) = given.size
size_given (Some (Some Default)) = 1
size_given (Some None) = 1
size_given None = 1

-- the tag of a parameter's argument: the parameter's own where none is given
abbrev pub tag_given : ℕ → Option (Option Filled) → ℕ
tag_given own (Some (Some (Argument given))) = given.tag
tag_given own (Some (Some Default)) = own
tag_given own (Some None) = own
tag_given own None = own

-- the tag of the parameter with a number
abbrev pub own_tag : List Param → ℕ → ℕ
own_tag params i =
    unwrap_or (option_map (λ (param : Param). first_tag param.tags) (slice_get params i)) untagged

-- ---- the argument that a default is

-- a default, by the user operator that converts it if any
abbrev pub converted : ℤ → Option ℕ → Expr
converted v None = Const v
converted v (Some f) = OperateOne f (Const v)

-- a value of a tag: for a reference it stands in a cell of its own, else it goes to the parameter
-- as any value does
abbrev pub default_arg : Around → Param → ℤ → ℕ → Arg
default_arg cx param v tag =
    if param.reference then Temp (Const v) else Value (converted v (converter_to cx param.tags tag))

module _ (cx : Around) (at : At) (params : List Param) (slots : List (Option Filled)) where
  -- what a parameter without an argument takes
  abbrev pub default_of : Param → around.Default → Verdict Arg
  default_of param NoDefault = broken ARGUMENT_MISSING at
  default_of param (Always v tag) = Stands (default_arg cx param v tag)
  default_of param (SizeOf p) =
      Stands (default_arg cx param (pos (size_given (slice_get slots p))) untagged)
  default_of param (TagOf p) =
      Stands (default_arg cx param (cell_of (tag_given (own_tag params p) (slice_get slots p)))
      untagged)

  -- what a parameter got in the end
  abbrev pub arg_of : Param → Option Filled → Verdict Arg
  arg_of param None = default_of param param.default
  arg_of param (Some Default) = default_of param param.default
  arg_of param (Some (Argument given)) = Stands given.code

  -- the arguments in the order of the parameters, and behind them others
  unfoldable pub args_of : List Param → List (Option Filled) → Args → Verdict Args
  args_of [] filled others = Stands others
  args_of (param ∷ more) [] others = broken ARGUMENT_MISSING at
  args_of (param ∷ more) (it ∷ filled) others =
      both (arg_of param it) (args_of more filled others) (λ arg args. Stands (then_arg arg args))
