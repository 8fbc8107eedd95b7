-- Which declaration an occurrence means (Language Guide, "Declarations", on scope): that of its
-- name in the innermost block around it that has one which ended before it. It is looked for from
-- the occurrence back to the source's start. A block that is closed is passed over. Where no
-- declaration is found, it is the function of that name, wherever that stands, or the predefined
-- constant.
use Rattle.std.specs.Prelude.{ℕ, zero, suc, ℤ, pos, if◌then◌else◌, List, [], ◌∷◌, Option, Some}
use Rattle.std.specs.Str.{bytes_eq}
use Rattle.pawn_cells.specs.declared.place.Place.{Place}
use Rattle.pawn_cells.specs.Cells.{add}
use Rattle.names_rules.specs.Verdict.{Verdict, Stands, after}
use Rattle.names_rules.specs.Mark.{Mark, Opens, Closes, Mentions, Uses, Declares, Declaration, Sort}
use Rattle.names_rules.specs.Mark.{Variable, Parameter, Constant, First, Next, Label}
use Rattle.names_rules.specs.Known.{Known, Kind, Cells, Worth}
use Rattle.names_rules.specs.Overloads.{tag_number}
use Rattle.names_rules.specs.Around.{Around, everywhere}
use Rattle.names_rules.specs.Worth.{Valued, worth, name_worth}
use Rattle.names_rules.specs.Sizes.{variable_sizes, parameter_sizes}

module _ (around : Around) where
  -- ---- what a declaration declares, by what names mean where it stands

  -- a constant's value
  abbrev pub value_of : Valued → Verdict ℤ
  value_of x = Stands x.value

  -- one more than the constant of a name
  abbrev pub next_after : Place → Option Known → Verdict ℤ
  next_after place known =
      after (name_worth around place place known) (λ x. Stands (add x.value (pos 1)))

  -- what a declaration makes of its name, by what names mean before it
  abbrev pub kind_of : (List ℕ → Option Known) → Place → Sort → Kind
  kind_of means place (Variable dims init) = Cells (variable_sizes around place means dims init)
  kind_of means place (Parameter dims) = Cells (parameter_sizes around place means dims)
  kind_of means place (Constant value) = Worth (after (worth around place means value) value_of)
  kind_of means place First = Worth (Stands (pos 0))
  kind_of means place (Next last) = Worth (next_after place (means last))
  kind_of means place (Label last count) = Worth (next_after place (means last))

  -- what is known of a declared name
  abbrev pub known_of : (List ℕ → Option Known) → Declaration → Known
  known_of means it = record {
    token = Some it.name.at.token;
    tag = tag_number around.tags it.tag;
    kind = kind_of means it.place it.sort;
  }

  -- ---- what a name means

  -- behind some marks, outside so many blocks that were closed
  abbrev pub found : List Mark → ℕ → List ℕ → Option Known
  found [] closed name = everywhere around name
  found (Opens ∷ before) zero name = found before zero name
  found (Opens ∷ before) (suc closed) name = found before closed name
  found (Closes ∷ before) closed name = found before (suc closed) name
  found (Mentions tag ∷ before) closed name = found before closed name
  found (Uses use_here ∷ before) closed name = found before closed name
  found (Declares it ∷ before) zero name =
      if bytes_eq it.name.bytes name then Some (known_of (found before zero) it)
      else found before zero name
  found (Declares it ∷ before) (suc closed) name = found before (suc closed) name

  -- behind some marks
  abbrev pub meaning : List Mark → List ℕ → Option Known
  meaning before name = found before zero name

  -- what the declaration behind some marks declares
  abbrev pub declared : List Mark → Declaration → Known
  declared before it = known_of (meaning before) it
