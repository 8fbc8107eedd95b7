-- Parameters (Language Guide, "Functions", "Function arguments"). Each is known to those behind it.
use Rattle.std.specs.Prelude.{ℕ, ◌+◌, List, [], ◌∷◌, ◌++◌, map, Bool, true, false, is_some, Option}
use Rattle.std.specs.Prelude.{None, Some}
use Rattle.pawn_tree.specs.declared.name.At.{At}
use Rattle.pawn_tree.specs.declared.name.Name as n
use Rattle.pawn_tree.specs.Expressions.{Expr}
use Rattle.pawn_tree.specs.Variables.{Dim}
use Rattle.pawn_tree.specs.Declarations as tree
use Rattle.pawn_tags.specs.Tags.{untagged}
use Rattle.pawn_meaning.specs.Program.{Own, Through, ParamArray, Slot, ScalarSlot, ReferenceSlot}
use Rattle.pawn_meaning.specs.Program.{ArraySlot, OpenSlot}
use Rattle.pawn_meaning.specs.Scope.{Extent}
use Rattle.names_rules.specs.Verdict.{Verdict, Stands, Breaks, after, both}
use Rattle.types_rules.specs.declared.fault.TheConstants.{CONSTANT_NEEDED, ARGUMENT_KIND}
use Rattle.types_rules.specs.Rule.{broken, also}
use Rattle.types_rules.specs.Around.{Around, Param, Head, Default, NoDefault, first_tag, tag_number}
use Rattle.types_rules.specs.Scope.{Scope, Meaning, Variable, Unknown, Entry, with_entries}
use Rattle.types_rules.specs.Scope as means
use Rattle.types_rules.specs.Sizes.{Dimensions, dimensions, within}
use Rattle.types_rules.specs.VariableParts.{Judged, judged, with_part}
use Rattle.types_rules.specs.VariableParts.{all_parts, maybe_judged, expr_part}
use Rattle.types_rules.specs.VariableParts.{dim_part}
use Rattle.types_rules.specs.Locals.{fresh_name}
use Rattle.types_rules.specs.ParamDefaults.{default_rule}

-- what a list of parameters is: the parameters, their slots, the tags of `...`, and what they warn
-- of
pub record Headed : Type 0 where
  -- parameters, of which the first has a number
  pub params : List Param
  pub slots : List Slot
  pub rest : Option (List ℕ)
  pub warned : List At

-- no parameter
abbrev pub no_params : Headed
no_params = record { params = []; slots = []; rest = None; warned = [] }

-- the numbers of tags; without one it is `_`
abbrev pub tag_numbers : Around → List n.Name → List ℕ
tag_numbers cx [] = untagged ∷ []
tag_numbers cx (tag ∷ tags) = map (λ (it : n.Name). tag_number cx it.bytes) (tag ∷ tags)

-- the tags of `...`, of which there is one at most
abbrev pub either : Option (List ℕ) → Option (List ℕ) → Option (List ℕ)
either None rest = rest
either (Some tags) rest = Some tags

-- the slot of a parameter of one cell, by whether it is a reference
abbrev pub cell_slot : Bool → Slot
cell_slot true = ReferenceSlot
cell_slot false = ScalarSlot

-- ---- arrays

-- how far an array reaches, and what its sizes warn of
pub record Reach : Type 0 where
  pub extent : Extent
  pub warned : List At

-- one whose first size is given isn't too large
abbrev pub reach_by : At → Dimensions → Option ℕ → Verdict Reach
reach_by at it None =
    Stands (record { extent = record { first = None; inner = it.inner }; warned = it.warned })
reach_by at it (Some first) =
    after (within at (first ∷ it.inner)) (λ sizes.
    Stands (record {
      extent = record { first = Some first; inner = it.inner };
      warned = it.warned;
    }))

-- how far an array of these dimensions reaches
abbrev pub reach : Around → Scope → At → Dim → List Dim → Verdict Reach
reach cx scope at dim dims = after (dimensions cx scope at dim dims) (λ it. reach_by at it it.first)

-- the slot of an array, whose first size may be open
abbrev pub array_slot : Extent → Option ℕ → Slot
array_slot extent None = OpenSlot extent.inner
array_slot extent (Some first) = ArraySlot (first ∷ extent.inner)

-- ---- what a parameter means to those behind it, and to the body

-- what an array as a parameter with a number means
abbrev pub array_param_means : ℕ → ℕ → Bool → Verdict Reach → Meaning
array_param_means i tag constant (Stands it) =
    means.Array (ParamArray i (is_some it.extent.first)) it.extent tag constant
array_param_means i tag constant (Breaks found) = Unknown

-- what a parameter of one cell with a number means
abbrev pub cell_param_means : ℕ → ℕ → Bool → Bool → Meaning
cell_param_means i tag constant true = Variable (Through i) tag constant
cell_param_means i tag constant false = Variable (Own i) tag constant

module _ (cx : Around) (at : At) where
  -- what a parameter with a number means, by its dimensions
  abbrev pub param_by : Scope → ℕ → Bool → Bool → ℕ → List Dim → Meaning
  param_by scope i constant reference tag [] = cell_param_means i tag constant reference
  param_by scope i constant reference tag (dim ∷ dims) =
      array_param_means i tag constant (reach cx scope at dim dims)

  -- the parameter with a number
  abbrev pub param_entries : Scope → ℕ → tree.Param → List Entry
  param_entries scope i (tree.Plain constant reference tags name dims value) =
      record {
        name = name.bytes;
        means = param_by scope i constant reference
            (first_tag (tag_numbers cx tags)) dims;
      } ∷ []
  param_entries scope i (tree.Rest rest_at tags) = []

  -- the path behind parameters, of which the first has a number
  unfoldable pub behind_params : Scope → ℕ → List tree.Param → Scope
  behind_params scope i [] = scope
  behind_params scope i (param ∷ more) =
      behind_params (with_entries scope (param_entries scope i param)) (i + 1) more

  -- ---- what a parameter is

  -- a list of one parameter
  abbrev pub one_param : n.Name → Bool → Bool → List ℕ → Option Extent → Default → Slot → List At
      → Headed
  one_param name constant reference tags extent default slot warned = record {
    params = record {
      name = name.bytes;
      constant = constant;
      reference = reference;
      tags = tags;
      extent = extent;
      default = default;
    } ∷ [];
    slots = slot ∷ [];
    rest = None;
    warned = warned;
  }

  -- an array is no reference, and has no default
  abbrev pub no_default : Option Expr → Verdict Default
  no_default None = Stands NoDefault
  no_default (Some e) = broken CONSTANT_NEEDED at

  -- that it is none
  abbrev pub no_reference : Bool → Verdict Bool
  no_reference true = broken ARGUMENT_KIND at
  no_reference false = Stands false

  -- a parameter by its dimensions: one cell, or an array
  abbrev pub param_of : Scope → n.Name → Bool → Bool → List ℕ → List Dim → Option Expr
      → Verdict Headed
  param_of scope name constant reference tags [] value =
      after (default_rule cx scope at reference tags value) (λ it.
      Stands (one_param name constant reference tags None it.default (cell_slot reference)
      it.warned))
  param_of scope name constant reference tags (dim ∷ dims) value =
      also (no_reference reference) (also (no_default value)
      (after (reach cx scope at dim dims) (λ it.
      Stands (one_param name constant false tags (Some it.extent) NoDefault
      (array_slot it.extent it.extent.first) it.warned))))

  -- a parameter, or the tags of `...`
  abbrev pub param_rule : Scope → tree.Param → Verdict Headed
  param_rule scope (tree.Plain constant reference tags name dims value) =
      also (fresh_name scope at name.bytes)
      (param_of scope name constant reference (tag_numbers cx tags) dims value)
  param_rule scope (tree.Rest rest_at tags) =
      Stands (record { params = []; slots = []; rest = Some (tag_numbers cx tags); warned = [] })

  -- ---- all parameters

  -- parameters behind others
  abbrev pub headed_behind : Headed → Headed → Headed
  headed_behind x y = record {
    params = x.params ++ y.params;
    slots = x.slots ++ y.slots;
    rest = either x.rest y.rest;
    warned = x.warned ++ y.warned;
  }

  -- all parameters, from a number on
  unfoldable pub params : Scope → ℕ → List tree.Param → Verdict Headed
  params scope i [] = Stands no_params
  params scope i (param ∷ more) =
      both (param_rule scope param)
      (params (with_entries scope (param_entries scope i param)) (i + 1) more)
      (λ x y. Stands (headed_behind x y))

  -- the expressions in parameters
  abbrev pub param_part : Scope → tree.Param → Verdict Judged
  param_part scope (tree.Plain constant reference tags name dims value) =
      with_part (all_parts (dim_part cx scope) dims) (maybe_judged (expr_part cx scope) value)
  param_part scope (tree.Rest rest_at tags) = Stands judged

  -- the expressions in all parameters
  unfoldable pub params_parts : Scope → ℕ → List tree.Param → Verdict Judged
  params_parts scope i [] = Stands judged
  params_parts scope i (param ∷ more) =
      with_part (param_part scope param)
      (params_parts (with_entries scope (param_entries scope i param)) (i + 1) more)

  -- the expressions in a head
  abbrev pub head_parts : Scope → tree.Head → Verdict Judged
  head_parts scope head = params_parts ([] ∷ scope) 0 head.params

  -- parameters stand in a block of their own
  abbrev pub head_rule : Scope → tree.Head → Verdict Headed
  head_rule scope head = params ([] ∷ scope) 0 head.params

  -- the path in the body
  abbrev pub in_body : Scope → tree.Head → Scope
  in_body scope head = behind_params ([] ∷ scope) 0 head.params

-- a head as calls see it, where it stands
abbrev pub head_of : Verdict Headed → Option Head
head_of (Stands it) = Some (record { params = it.params; rest = it.rest })
head_of (Breaks found) = None
