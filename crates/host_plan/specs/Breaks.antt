-- The plan that a text spells, or the first line at which it spells none.
use Rattle.std.specs.Prelude.{◌≡◌, ◌≢◌, ◌==◌, ◌+◌, ◌++◌, ◌∷◌, ℕ, List, [], Result, Ok, Err, length}
use Rattle.std.specs.Prelude.{if◌then◌else◌}
use Rattle.std.specs.List.{onto_first}
use Rattle.host_plan.specs.declared.plan.Plan.{Plan}
use Rattle.host_plan.specs.declared.plan.PlanFault.{PlanFault}
use Rattle.host_plan.specs.declared.plan.PlanFault.TheVariants.{Line, Memory}
use Rattle.host_plan.specs.Plans.{IsPlan, Spells, plan_lines}

-- the lines of a text, without their bytes 10, which the last one may lack
abbrev pub lines_of : List ℕ → List (List ℕ)
lines_of [] = []
lines_of (byte ∷ rest) = if byte == 10 then [] ∷ lines_of rest else onto_first byte (lines_of rest)

-- some plan has these lines first
pub record BeginsPlan (lines : List (List ℕ)) : Type 0 where
  pub plan : Plan
  pub plan_is : IsPlan plan
  pub rest : List (List ℕ)
  pub lines_are : plan_lines plan ≡ lines ++ rest

-- the text is no plan, and this is the number of its first line, from 1, that no plan with the
-- lines before it can have; or of the line behind the last one, where a line or byte 10 is missing
pub record BreaksAt (text : List ℕ) (number : ℕ) : Type 0 where
  pub none : (plan : Plan) → ¬ Spells text plan
  pub before : List (List ℕ)
  pub behind : List (List ℕ)
  pub all : lines_of text ≡ before ++ behind
  pub begins : BeginsPlan before
  pub stops : (line : List ℕ) (others : List (List ℕ)) → behind ≡ line ∷ others
      → ¬ BeginsPlan (before ++ line ∷ [])
  pub number_is : number ≡ length before + 1

-- an answer agrees with the text; want of memory is free
abbrev pub ReadsPlan : List ℕ → Result Plan PlanFault → Type 0
ReadsPlan text (Ok plan) = Spells text plan
ReadsPlan text (Err (Line number)) = BreaksAt text number
ReadsPlan text (Err Memory) = Unit {0}

-- but for want of memory a text has one answer at most
abbrev pub ATextHasOneAnswer : Type 0
ATextHasOneAnswer =
    (text : List ℕ) (a b : Result Plan PlanFault) → ReadsPlan text a → ReadsPlan text b
    → a ≢ Err Memory → b ≢ Err Memory → a ≡ b
