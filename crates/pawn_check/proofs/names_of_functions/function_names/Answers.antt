use Rattle.std.proofs.Common.{◌≡◌, ℕ, List, IfOk, subst}
use Rattle.pawn_tree.specs.View.{tree_view}
use Rattle.types_rules.specs.Sources.{Source}
use Rattle.check_declarations.specs.NumberedNames as names
use Rattle.pawn_check.proofs.FunctionNameLaws.{are_names_where}
use Rattle.pawn_check.proofs.names_of_functions.function_names.Goals as goal

pub returns-clause-names : goal.returns-clause-names
returns-clause-names c =
    subst (λ (source : Source). IfOk c.names_by_number.result
    (λ (list : List (List ℕ)). list ≡ names.function_names source))
    c.in_ok-source.ensures.source c.names_by_number.ensures

pub returns-clause-program : goal.returns-clause-program
returns-clause-program c =
    are_names_where (tree_view c.args.tree.now) c.names_by_number.result
    (subst (λ (source : Source). IfOk c.names_by_number.result
    (λ (list : List (List ℕ)). list ≡ names.function_names source))
    c.in_ok-source.ensures.source c.names_by_number.ensures)
