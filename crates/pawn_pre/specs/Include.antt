-- The name that an include asks for (Language Guide, "Directives", on `#include`).
use Rattle.std.specs.Prelude.{ℕ, ◌==◌, nat_lt, codes, not, position, Option, Some, None, List, []}
use Rattle.std.specs.Prelude.{◌∷◌, ◌++◌, take, Bool, true, false, if◌then◌else◌, ◌&&◌}
use Rattle.std.specs.List.{list_any, list_all}
use Rattle.pawn_pre.specs.declared.include.Named.{Named}
use Rattle.pawn_pre.specs.Blanks.{past_blanks, without_end}

-- no bytes
abbrev pub is_empty : List ℕ → Bool
is_empty [] = true
is_empty (b ∷ rest) = false

-- all bytes are below 128
abbrev pub is_ascii : List ℕ → Bool
is_ascii name = list_all (λ b. nat_lt b 128) name

-- a name without a dot gets `.inc`
abbrev pub with_ending : List ℕ → List ℕ
with_ending name = if list_any (λ b. b == 46) name then name else name ++ codes ".inc"

-- such a name can be asked for where it is closed, not empty and plain text
abbrev pub named : Bool → List ℕ → Named
named closed name = record {
  name = with_ending name;
  valid = closed && (not (is_empty name) && is_ascii name);
}

-- by the place of the closing sign
abbrev pub closed_at : List ℕ → Option ℕ → Named
closed_at bytes None = named false bytes
closed_at bytes (Some len) = named true (take len bytes)

-- up to the closing sign
abbrev pub name_up_to : ℕ → List ℕ → Named
name_up_to sign bytes = closed_at bytes (position (λ b. b == sign) bytes)

-- between `"` and `"`, between `<` and `>`, or bare to the line's end
abbrev pub include_by : List ℕ → Named
include_by [] = named true (without_end [])
include_by (b ∷ rest) =
    if b == 34 then name_up_to 34 rest
    else (if b == 60 then name_up_to 62 rest else named true (without_end (b ∷ rest)))

-- what stands behind the word, behind blanks
abbrev pub include_name : List ℕ → Named
include_name rest = include_by (past_blanks rest)
