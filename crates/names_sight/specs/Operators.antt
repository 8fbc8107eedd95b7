-- One more operator, by the tags of its parameters.
use Rattle.std.specs.Prelude.{ℕ, List, [], ◌∷◌, Option, Some, None}
use Rattle.pawn_tags.specs.Tags.{untagged}
use Rattle.pawn_tags.specs.Overloads.{Overloads}
use Rattle.pawn_tags.specs.declared.op.Op.{Op}
use Rattle.pawn_tags.specs.declared.op.Op.TheVariants as op
use Rattle.names_rules.specs.Overloads.{between}

-- the right one of its tags where it has one operand, by its result's tag
abbrev pub right_of : Op → ℕ → ℕ
right_of op.Assign result = result
right_of _ result = untagged

-- with the right one of its tags where it has one operand
abbrev pub operator_by : Op → ℕ → Overloads → Option (List ℕ) → Overloads
operator_by sign right defined None = defined
operator_by sign right defined (Some []) = defined
operator_by sign right defined (Some (operand ∷ [])) = between defined sign operand right
operator_by sign right defined (Some (left ∷ other ∷ [])) = between defined sign left other
operator_by sign right defined (Some (left ∷ other ∷ third ∷ more)) = defined
