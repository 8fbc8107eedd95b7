-- A condition read from left to right with a stack of what waits for an operand. No promise rests
-- on this; it is proved to give the value of the tree that the text spells.
use Rattle.std.specs.Prelude.{ℕ, ℤ, nat_le, Bool, true, false, Option, Some, None, List, [], ◌∷◌}
use Rattle.std.specs.Prelude.{if◌then◌else◌}
use Rattle.pawn_cells.specs.declared.operator.Operator.{Operator}
use Rattle.pawn_cells.specs.declared.operator.Operator.TheVariants as between
use Rattle.pawn_cells.specs.declared.operator.Prefix.TheVariants as before
use Rattle.pawn_pre.specs.declared.part.Infix.{Infix}
use Rattle.pawn_pre.specs.declared.part.Infix.TheVariants.{Cells, Compare, Logic}
use Rattle.pawn_pre.specs.declared.part.Part.{Part}
use Rattle.pawn_pre.specs.declared.part.Part.TheVariants as part
use Rattle.pawn_pre.specs.declared.reading.Reading.{Reading}
use Rattle.pawn_pre.specs.declared.evaluate.Wait.{Wait}
use Rattle.pawn_pre.specs.declared.evaluate.Wait.TheVariants.{Mark, Pre, Left, Chooses}
use Rattle.pawn_pre.specs.declared.evaluate.Wait.TheVariants.{Second}
use Rattle.pawn_pre.specs.Nested.{level, plain, grouped, before_value, choice, applied}
use Rattle.pawn_pre.specs.ConditionParts.{parts_from}

-- what waits for operands, the innermost first, and the operand that is there
pub record Held : Type 0 where
  pub waits : List Wait
  pub operand : Reading

-- the two as one
abbrev pub held : List Wait → Reading → Held
held waits operand = record { waits = waits; operand = operand }

-- what an operand becomes where the first that waits takes it: where it binds so tightly
abbrev pub takes : ℕ → Wait → Reading → Option Reading
takes k Mark r = None
takes k (Pre sign) r = Some (before_value sign r)
takes k (Left sign a) r = if nat_le (level sign) k then Some (applied sign a r) else None
takes k (Chooses c) r = None
takes k (Second c a) r = if nat_le 13 k then Some (choice c a r) else None

-- what goes on with an operand that was taken, else what stays
abbrev pub settle_by : Option Reading → Held → (Reading → Held) → Held
settle_by None rest go_on = rest
settle_by (Some r) rest go_on = go_on r

-- operators that bind as tightly as a level take the operand, one behind another
unfoldable pub settle : ℕ → List Wait → Reading → Held
settle k [] r = held [] r
settle k (w ∷ ws) r = settle_by (takes k w r) (held (w ∷ ws) r) (λ r'. settle k ws r')

-- nothing waits any more
abbrev pub whole_by : List Wait → Reading → Option Reading
whole_by [] r = Some r
whole_by (w ∷ ws) r = None

-- a closing bracket needs one that is open
abbrev pub bracket_closed_by : List Wait → (List Wait → Option Reading) → Option Reading
bracket_closed_by [] go_on = None
bracket_closed_by (Mark ∷ ws) go_on = go_on ws
bracket_closed_by (Pre sign ∷ ws) go_on = None
bracket_closed_by (Left sign a ∷ ws) go_on = None
bracket_closed_by (Chooses c ∷ ws) go_on = None
bracket_closed_by (Second c a ∷ ws) go_on = None

-- a `:` needs its `?`
abbrev pub chosen_by : List Wait → (Reading → List Wait → Option Reading) → Option Reading
chosen_by [] go_on = None
chosen_by (Mark ∷ ws) go_on = None
chosen_by (Pre sign ∷ ws) go_on = None
chosen_by (Left sign a ∷ ws) go_on = None
chosen_by (Chooses c ∷ ws) go_on = go_on c ws
chosen_by (Second c a ∷ ws) go_on = None

-- whether an operator is `-`
abbrev pub is_subtract : Operator → Bool
is_subtract between.Subtract = true
is_subtract _ = false

-- whether a sign between operands is `-`, which may stand before one too
abbrev pub is_minus : Infix → Bool
is_minus (Cells op) = is_subtract op
is_minus (Compare c) = false
is_minus (Logic op) = false

-- `operand` stands before one, `operator` behind one
unfoldable mutual
  -- where an operand is to come: a value, or what stands before one
  pub operand : List Part → List Wait → Option Reading
  operand [] ws = None
  operand (part.Value v ∷ ts) ws = operator ts ws (plain (Some v))
  operand (part.Two sign ∷ ts) ws =
      if is_minus sign then operand ts (Pre before.Negate ∷ ws) else None
  operand (part.Not ∷ ts) ws = operand ts (Pre before.Not ∷ ws)
  operand (part.Invert ∷ ts) ws = operand ts (Pre before.Invert ∷ ws)
  operand (part.Question ∷ ts) ws = None
  operand (part.Colon ∷ ts) ws = None
  operand (part.Open ∷ ts) ws = operand ts (Mark ∷ ws)
  operand (part.Close ∷ ts) ws = None

  -- where an operand was read: an operator, a closing parenthesis, or the end
  pub operator : List Part → List Wait → Reading → Option Reading
  operator [] ws r = whole_by (settle 13 ws r).waits (settle 13 ws r).operand
  operator (part.Value v ∷ ts) ws r = None
  operator (part.Two sign ∷ ts) ws r =
      operand ts (Left sign (settle (level sign) ws r).operand ∷ (settle (level sign) ws r).waits)
  operator (part.Not ∷ ts) ws r = None
  operator (part.Invert ∷ ts) ws r = None
  operator (part.Question ∷ ts) ws r =
      operand ts (Chooses (settle 12 ws r).operand ∷ (settle 12 ws r).waits)
  operator (part.Colon ∷ ts) ws r =
      chosen_by (settle 13 ws r).waits
      (λ c below. operand ts (Second c (settle 13 ws r).operand ∷ below))
  operator (part.Open ∷ ts) ws r = None
  operator (part.Close ∷ ts) ws r =
      bracket_closed_by (settle 13 ws r).waits
      (λ below. operator ts below (grouped (settle 13 ws r).operand))

-- what comes next, by whether an operand stands there
abbrev pub from : Option Reading → List Part → List Wait → Option Reading
from None ts ws = operand ts ws
from (Some r) ts ws = operator ts ws r

-- the value of parts
abbrev pub value_by : Option Reading → Option ℤ
value_by None = None
value_by (Some r) = r.value

-- the value that parts come to, if they are a condition and nothing divides by zero
unfoldable pub value_of_parts : List Part → Option ℤ
value_of_parts parts = value_by (operand parts [])

-- the value of parts, if there are any
abbrev pub value_if : Option (List Part) → Option ℤ
value_if None = None
value_if (Some parts) = value_of_parts parts

-- the value of a text under a control character
unfoldable pub value_of : ℕ → List ℕ → Option ℤ
value_of control text = value_if (parts_from control 0 text)
