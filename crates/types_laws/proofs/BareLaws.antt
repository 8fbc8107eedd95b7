-- Declarations that aren't functions give no bodies, and a key that stands is a function's.
use Rattle.std.proofs.Common.{◌≡◌, [], ◌∷◌, List, Bool, Option, refl}
use Rattle.pawn_tree.specs.declared.name.At.{At}
use Rattle.pawn_tree.specs.declared.variable.Storage.TheVariants as storage
use Rattle.pawn_tree.specs.declared.name.Name as n
use Rattle.pawn_tree.specs.Variables.{Var}
use Rattle.pawn_tree.specs.Statements.{ConstantOf}
use Rattle.pawn_tree.specs.Declarations as tree
use Rattle.pawn_tree.specs.Declarations.{Enum}
use Rattle.types_rules.specs.Constants as constants
use Rattle.types_rules.specs.Around.{Around}
use Rattle.types_rules.proofs.VerdictLaws.{Holds, stands_itself, breaks_holds, holds_after}
use Rattle.types_rules.proofs.VerdictLaws.{holds_both, holds_all, holds_unless}
use Rattle.types_rules.specs.Points.{Point, tag_of, behind_var}
use Rattle.types_rules.specs.Params.{head_parts, head_rule}
use Rattle.types_rules.specs.Keys.{Key, Named, Operates, Enters, Misshapen}
use Rattle.types_rules.specs.Enums.{enum_rule}
use Rattle.types_rules.specs.Sources.{Source}
use Rattle.types_rules.specs.Declarations.{Done, nothing_done, shaped_key, bare_head, globals}
use Rattle.types_rules.specs.Declarations.{global_constant, decl_rule}
use Rattle.types_laws.proofs.GroupLaws.{IsShaped}

-- no body
pub record IsBare (d : Done) : Type 0 where
  pub bodies : d.bodies ≡ []

-- a key that stands is a function's
pub shaped_is : (at : At) (key : Key) → Holds (λ k. IsShaped key) (shaped_key at key)
shaped_is at (Named name) = stands_itself _ _ tt
shaped_is at (Operates it) = stands_itself _ _ tt
shaped_is at (Enters name) = stands_itself _ _ tt
shaped_is at Misshapen = breaks_holds _ _

module _ (source : Source) (cx : Around) where
  pub globals_bare : (point : Point) (at : At) (constant : Bool) (vars : List Var)
      → Holds IsBare (globals source cx point at constant vars)
  unfolding globals
  globals_bare point at constant [] = stands_itself _ nothing_done (record { bodies = refl })
  globals_bare point at constant (x ∷ xs) =
      holds_both (holds_all _)
      (globals_bare (behind_var cx point at storage.Static constant x) at constant xs)
      (λ y more t q. stands_itself _ _ (record { bodies = q.bodies }))

  pub bare_bare : (point : Point) (at : At) (head : tree.Head)
      → Holds IsBare (bare_head source cx point at head)
  bare_bare point at head =
      holds_unless (head_parts cx at point.scope head)
      (holds_after (holds_all (head_rule cx at point.scope head))
      (λ x t. stands_itself _ _ (record { bodies = refl })))

  pub constant_bare : (point : Point) (at : At) (of : ConstantOf)
      → Holds IsBare (global_constant source cx point at of)
  constant_bare point at of =
      holds_after (holds_all (constants.constant cx point.scope at of.value))
      (λ c t. stands_itself _ _ (record { bodies = refl }))

  pub enum_bare : (point : Point) (at : At) (name : Option n.Name) (items : List tree.Item)
      → Holds IsBare (decl_rule source cx point (Enum at name items))
  enum_bare point at name items =
      holds_after (holds_all (enum_rule cx point.scope at (tag_of cx name) items))
      (λ c t. stands_itself _ _ (record { bodies = refl }))
