-- Declarations are judged alike without the headings and the names that are called. For callers.
use Rattle.std.proofs.Common.{◌≡◌, Bool, List, [], ◌∷◌, refl, ap, ap₂}
use Rattle.pawn_tree.specs.declared.name.At.{At}
use Rattle.pawn_tree.specs.declared.variable.Storage.TheVariants as storage
use Rattle.pawn_tree.specs.Variables.{Var}
use Rattle.pawn_tree.specs.Declarations.{Decl, Variables, Constant, Enum, Native, Forward, Function}
use Rattle.names_rules.specs.Verdict.{Verdict, Stands, both}
use Rattle.types_rules.specs.Rule.{unless_faults}
use Rattle.types_rules.specs.Around.{Around}
use Rattle.types_rules.specs.Points.{Point, behind_var}
use Rattle.types_rules.specs.Locals.{local_by, vars_parts}
use Rattle.types_rules.specs.Sources.{Source}
use Rattle.types_rules.specs.Declarations.{Done, done_behind, objects_done, globals, decl_rule}
use Rattle.types_rules.specs.Declarations.{declarations}
use Rattle.types_rules.specs.Paths.{behind_decl}

-- without the headings and the names that are called
abbrev pub lean : Source → Source
lean source = record {
  tags = source.tags;
  fallback = source.fallback;
  groups = source.groups;
  headings = [];
  automata = source.automata;
  called = [];
}

module _ (source : Source) (cx : Around) where
  globals_alike : (p : Point) (at : At) (constant : Bool) (xs : List Var)
      → globals source cx p at constant xs ≡ globals (lean source) cx p at constant xs
  unfolding globals
  globals_alike p at constant [] = refl
  globals_alike p at constant (x ∷ xs) =
      ap (λ (w : Verdict Done). both (local_by cx p at storage.Static constant x x.dims) w
      (λ y more. Stands (done_behind (objects_done y) more)))
      (globals_alike (behind_var cx p at storage.Static constant x) at constant xs)

  decl_alike : (p : Point) (decl : Decl)
      → decl_rule source cx p decl ≡ decl_rule (lean source) cx p decl
  decl_alike p (Variables at it) =
      ap (λ (w : Verdict Done). unless_faults
      (vars_parts cx p at storage.Static it.constant it.vars) w)
      (globals_alike p at it.constant it.vars)
  decl_alike p (Constant at it) = refl
  decl_alike p (Enum at name items) = refl
  decl_alike p (Native at head) = refl
  decl_alike p (Forward at is_public head) = refl
  decl_alike p (Function at it) = refl

  pub declarations_alike : (p : Point) (decls : List Decl)
      → declarations source cx p decls ≡ declarations (lean source) cx p decls
  unfolding declarations
  declarations_alike p [] = refl
  declarations_alike p (decl ∷ more) =
      ap₂ (λ (v : Verdict Done) (w : Verdict Done). both v w (λ x y. Stands (done_behind x y)))
      (decl_alike p decl) (declarations_alike (behind_decl cx p decl) more)
