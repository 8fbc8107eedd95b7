-- The place before variables, when they are forgotten again.
use Rattle.std.proofs.Common.{◌≡◌, Bool, List, map, length, sym, ap, ◌∙◌, subst}
use Rattle.std.proofs.lemmas.List.{length-map}
use Rattle.pawn_tree.specs.declared.name.At.{At}
use Rattle.pawn_tree.specs.declared.variable.Storage.{Storage}
use Rattle.pawn_tree.specs.declared.variable.Var as tree
use Rattle.pawn_tree.specs.View.{var_view}
use Rattle.types_rules.specs.Scope.{Scope}
use Rattle.types_rules.specs.Around.{Around}
use Rattle.types_rules.specs.Points as plain
use Rattle.types_rules.specs.Points.{behind_vars}
use Rattle.check_nodes.specs.Scopes.{Blocks, scope_view, without}
use Rattle.check_locals.specs.declared.point.Point.{Point}
use Rattle.check_locals.specs.PointView.{point_view}
use Rattle.check_locals.proofs.PathLaws.{Extends, forgotten}
use Rattle.check_locals.proofs.VarLaws.{vars_extend}

pub vars_back : (cx : Around) (at : At) (kind : Storage) (constant : Bool) (old mid : Point)
    (scopes : Blocks) (xs : List tree.Var)
    → point_view mid ≡ behind_vars cx (point_view old) at kind constant (map var_view xs)
    → scopes ≡ without (length xs) mid.scopes
    → scope_view scopes ≡ scope_view old.scopes
vars_back cx at kind constant old mid scopes xs h s =
    let counted : length (map var_view xs) ≡ length xs = length-map xs var_view in
    let path : Extends (length xs) (scope_view old.scopes) (scope_view mid.scopes) =
    subst (λ n. Extends n (scope_view old.scopes) (scope_view mid.scopes)) counted
    (subst (λ (it : Scope). Extends (length (map var_view xs)) (scope_view old.scopes) it)
    (sym (ap (λ (p : plain.Point). p.scope) h))
    (vars_extend cx at kind constant (point_view old) (map var_view xs))) in
    ap scope_view s ∙ forgotten (length xs) old.scopes mid.scopes path
