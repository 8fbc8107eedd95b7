-- First values one behind another, of which some may fall.
use Rattle.std.specs.Prelude.{[], ◌∷◌, Option, None, Some, option_map}
use Rattle.names_rules.specs.Verdict.{Verdict, Stands, Breaks}
use Rattle.types_rules.specs.FirstValues.{First, first_behind}

-- one more behind those that stand, or None where one has fallen
abbrev pub joined_by : Option First → Verdict First → Verdict (Option First)
joined_by so_far (Stands v) = Stands (option_map (λ it. first_behind it v) so_far)
joined_by so_far (Breaks []) = Stands None
joined_by so_far (Breaks (fault ∷ more)) = Breaks (fault ∷ more)

-- all of them
abbrev pub stood_by : Option First → Verdict First
stood_by None = Breaks []
stood_by (Some so_far) = Stands so_far
