-- Values in braces, where code holds them.
use Rattle.std.proofs.Common.{◌≡◌, ℕ, Bool, List, map, Some, refl, ap, arith}
use Rattle.pawn_tree.specs.declared.name.At.{At}
use Rattle.pawn_tree.specs.declared.variable.Init as held
use Rattle.pawn_tree.specs.Variables.{Init, inits}
use Rattle.pawn_tree.specs.View.{init_view}
use Rattle.pawn_tree.proofs.ViewLaws.{braces_view}
use Rattle.types_rules.specs.declared.fault.TheConstants.{NOT_AN_ARRAY, SIZES_DIFFER}
use Rattle.types_rules.specs.Rule.{broken}
use Rattle.types_rules.specs.Around.{Around}
use Rattle.types_rules.specs.Scope.{Scope}
use Rattle.types_rules.specs.Cells.{static_value, local_value}
use Rattle.types_rules.specs.FirstValues.{cell_of_list, first_cells}
use Rattle.types_rules.specs.VariableParts.{init_part, init_parts}
use Rattle.check_nodes.specs.declared.fault.PartFault.{PartFault}
use Rattle.check_nodes.specs.declared.fault.PartFault.TheVariants.{Source}
use Rattle.check_nodes.specs.PartAnswers.{FailsPart}
use Rattle.check_expressions.specs.Listed.{listed_by}

module _ (cx : Around) (scope : Scope) (at : At) (tag : ℕ) (begin : At) (list : List held.Init)
    (goes_on : Bool) where
  pub static_list : static_value cx scope at tag (Some (init_view (held.Braces begin list goes_on)))
      ≡ broken NOT_AN_ARRAY at
  static_list =
      ap (λ (it : Init). static_value cx scope at tag (Some it)) (braces_view begin list goes_on)

  pub local_list : (before : ℕ)
      → local_value cx scope before at tag (Some (init_view (held.Braces begin list goes_on)))
      ≡ broken NOT_AN_ARRAY at
  local_list before =
      ap (λ (it : Init). local_value cx scope before at tag (Some it))
      (braces_view begin list goes_on)

  pub cell_list : cell_of_list cx scope at tag (init_view (held.Braces begin list goes_on))
      ≡ broken SIZES_DIFFER at
  cell_list = ap (λ (it : Init). cell_of_list cx scope at tag it) (braces_view begin list goes_on)

  pub first_list : (sizes : List ℕ)
      → first_cells cx scope at tag sizes (init_view (held.Braces begin list goes_on))
      ≡ listed_by cx scope at tag sizes (inits (map init_view list)) goes_on
  first_list sizes =
      ap (λ (it : Init). first_cells cx scope at tag sizes it) (braces_view begin list goes_on)

-- the one fault of a broken rule
pub fails_here : {A : Type 0} (kind : ℕ) (at : At) (fault : PartFault)
    → fault ≡ Source kind at.place → FailsPart {A = A} (broken kind at) fault
fails_here kind at fault e = rw e (record { cause = (0, omega arith, refl) })

pub braces_parts : (cx : Around) (scope : Scope) (at : At) (list : List held.Init) (goes_on : Bool)
    → init_part cx scope (init_view (held.Braces at list goes_on))
    ≡ init_parts cx scope (inits (map init_view list))
braces_parts cx scope at list goes_on =
    ap (λ (it : Init). init_part cx scope it) (braces_view at list goes_on)
