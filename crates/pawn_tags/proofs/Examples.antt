-- The tables by computation: the rows of matching, and the choice of an operator.
use Rattle.std.specs.Prelude.{◌≡◌, ℕ, List, [], ◌∷◌, Bool, true, false, Option, None, Some, map}
use Rattle.std.specs.Prelude.{codes, refl}
use Rattle.pawn_tags.specs.Matching.{takes, matches}
use Rattle.pawn_tags.specs.Overloads.{Overloads, choice, with_overload}
use Rattle.pawn_tags.specs.Tags.{first_names, number_of, is_strong}
use Rattle.pawn_tags.specs.declared.op.Op.TheVariants.{Add, Sub, Mul, Eq, Neq, Less, Assign}
use Rattle.pawn_tags.specs.declared.operators.Choice.{Choice}

-- two tags that are no strong ones, two strong ones, and another weak one
abbrev names : List (List ℕ)
names = codes "_" ∷ codes "bool" ∷ codes "Fixed" ∷ codes "Float" ∷ codes "fixed" ∷ []

-- what a formal tag takes of them
abbrev row : ℕ → List Bool
row formal = map (takes names formal) (0 ∷ 1 ∷ 2 ∷ 3 ∷ 4 ∷ [])

row_of_untagged : row 0 ≡ true ∷ true ∷ false ∷ false ∷ true ∷ []
row_of_untagged = refl

row_of_weak : row 1 ≡ false ∷ true ∷ false ∷ false ∷ false ∷ []
row_of_weak = refl

row_of_strong : row 2 ≡ false ∷ false ∷ true ∷ false ∷ false ∷ []
row_of_strong = refl

-- a set takes what one of its tags takes, and an empty one nothing
sets : map (λ formal. matches names formal 0) ((2 ∷ 0 ∷ []) ∷ (2 ∷ 1 ∷ []) ∷ [] ∷ [])
    ≡ true ∷ false ∷ false ∷ []
sets = refl

numbers : map (number_of names) (codes "_" ∷ codes "bool" ∷ codes "Fixed" ∷ codes "b" ∷ [])
    ≡ Some 0 ∷ Some 1 ∷ Some 2 ∷ None ∷ []
numbers = refl

begin : first_names ≡ codes "_" ∷ codes "bool" ∷ []
begin = refl

-- `@Fixed`, `_Fixed` and a number that wasn't given out are no strong tags
strong : map (is_strong (codes "@Fixed" ∷ codes "_Fixed" ∷ codes "A" ∷ codes "Zz" ∷ []))
    (0 ∷ 1 ∷ 2 ∷ 3 ∷ 4 ∷ []) ≡ false ∷ false ∷ true ∷ true ∷ false ∷ []
strong = refl

-- an operator between the tags 2 and 0, and the same between 0 and 2
abbrev one : Overloads
one = with_overload [] Add 2 0 6

abbrev both : Overloads
both = with_overload one Add 0 2 7

abbrev chosen : ℕ → Bool → Option Choice
chosen function swapped = Some (record { function = function; swapped = swapped })

choices : choice one Add 2 0 ∷ choice one Add 0 2 ∷ choice one Sub 0 2 ∷ choice one Add 2 2 ∷ []
    ≡ chosen 6 false ∷ chosen 6 true ∷ None ∷ None ∷ []
choices = refl

exact_first : choice both Add 0 2 ≡ chosen 7 false
exact_first = refl

defined_once : with_overload both Add 2 0 9 ≡ both
defined_once = refl

-- which operators are exchanged
exchanges : map (λ op. choice (with_overload [] op 2 0 6) op 0 2)
    (Add ∷ Sub ∷ Mul ∷ Eq ∷ Neq ∷ Less ∷ Assign ∷ [])
    ≡ chosen 6 true ∷ None ∷ chosen 6 true ∷ chosen 6 true ∷ chosen 6 true ∷ None ∷ None ∷ []
exchanges = refl
