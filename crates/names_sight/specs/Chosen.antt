-- What a test answers that no operator of the program is chosen: where one is, the node at a place
-- isn't constant.
use Rattle.std.specs.Prelude.{◌≡◌, Bool, true, false, Result, Ok, Err}
use Rattle.pawn_cells.specs.declared.place.Place.{Place}
use Rattle.pawn_verdict.specs.declared.fault.CheckFault.{CheckFault}
use Rattle.pawn_verdict.specs.declared.fault.CheckFault.TheVariants.{Source}

-- the test is passed, or the fault stands at the place
abbrev pub AnswersChosen : {A : Type 0} → Bool → Place → Result A CheckFault → Type 0
AnswersChosen chosen place (Ok done) = chosen ≡ false
AnswersChosen chosen place (Err fault) = (chosen ≡ true) × (fault ≡ Source 57 place)
