-- The values of constants, each with the token of the name in its declaration, in the order of
-- these tokens: the name of an enumeration stands before its constants.
use Rattle.std.specs.Prelude.{ℕ, ◌-◌, ℤ, List, [], ◌∷◌, ◌++◌, length, take, drop}
use Rattle.names_rules.specs.Verdict.{Verdict, Stands, Breaks}
use Rattle.names_rules.specs.Mark.{Mark, Opens, Closes, Mentions, Uses, Declares, Declaration, Sort}
use Rattle.names_rules.specs.Mark.{Variable, Parameter, Constant, First, Next, Label}
use Rattle.names_rules.specs.Known.{Kind, Cells, Worth, Function}
use Rattle.names_rules.specs.Around.{Around}
use Rattle.names_rules.specs.Found.{declared}

-- before how many of the values so far a declaration's own value stands
abbrev pub behind : Sort → ℕ
behind (Variable dims init) = 0
behind (Parameter dims) = 0
behind (Constant value) = 0
behind First = 0
behind (Next last) = 0
behind (Label last count) = count

-- with one more pair, before so many at the end
abbrev pub with_pair : ℕ → (ℕ × ℤ) → List (ℕ × ℤ) → List (ℕ × ℤ)
with_pair count pair values =
    take (length values - count) values ++ pair ∷ drop (length values - count) values

-- with the value of a constant, if it has one
abbrev pub with_worth : Declaration → Verdict ℤ → List (ℕ × ℤ) → List (ℕ × ℤ)
with_worth it (Stands value) values = with_pair (behind it.sort) (it.name.at.token, value) values
with_worth it (Breaks faults) values = values

-- with what is declared, if it is a constant
abbrev pub with_kind : Declaration → Kind → List (ℕ × ℤ) → List (ℕ × ℤ)
with_kind it (Cells sizes) values = values
with_kind it (Worth worth) values = with_worth it worth values
with_kind it Function values = values

-- the values of all constants among these marks
abbrev pub values : Around → List Mark → List (ℕ × ℤ)
values around [] = []
values around (Opens ∷ before) = values around before
values around (Closes ∷ before) = values around before
values around (Mentions tag ∷ before) = values around before
values around (Uses it ∷ before) = values around before
values around (Declares it ∷ before) =
    with_kind it (declared around before it).kind (values around before)
