-- A slot is filled.
use Rattle.std.proofs.Common.{◌≡◌, ◌<◌, ◌≤◌, ℕ, List, length, get_or, set, refl, ap, sym, arith}
use Rattle.std.proofs.Common.{lit<, Option, Some, None}
use Rattle.std.proofs.lemmas.Grind.{common_steps, elements}
use Rattle.std.proofs.lemmas.List.{map-set, length-map}
use Rattle.std.proofs.lemmas.Option.{slice_get_past}
use Rattle.std.specs.Option.{option_map}
use Rattle.std.specs.Prelude.{slice_get}
use Rattle.pawn_tree.specs.declared.name.At.{At}
use Rattle.names_rules.specs.Verdict.{Stands, faults_of}
use Rattle.types_rules.specs.declared.fault.TheConstants.{ARGUMENT_TWICE, TOO_MANY_ARGUMENTS}
use Rattle.types_rules.specs.Filling.{put}
use Rattle.pawn_verdict.specs.declared.fault.CheckFault.TheVariants.{Source}
use Rattle.pawn_verdict.specs.Answers.{Fails}
use Rattle.check_calls.specs.declared.filling.Filled.{Filled}
use Rattle.check_calls.specs.FillingView.{filled_view, slots_view}

pub slot_is : (slots : List (Option Filled)) (i : ℕ) (d : Option Filled) → i < length slots
    → slice_get (slots_view slots) i ≡ Some (option_map filled_view (get_or slots i d))
slot_is slots i d lt = grind (arith, elements, common_steps)

pub put_past : (at : At) (slots : List (Option Filled)) (i : ℕ) (it : Filled) → length slots ≤ i
    → Fails (faults_of (put at i (filled_view it) (slots_view slots)))
    (Source TOO_MANY_ARGUMENTS at.place)
put_past at slots i it le =
    let past : slice_get (slots_view slots) i ≡ None =
    slice_get_past (slots_view slots) i
    (omega (arith, length-map slots (option_map filled_view))) in
    rw past (record { cause = (0, lit< tt, refl) })

pub put_stands : (at : At) (slots : List (Option Filled)) (i : ℕ) (it : Filled)
    (d new : Option Filled)
    → i < length slots → d ≡ get_or slots i d → d ≡ None → new ≡ Some it
    → put at i (filled_view it) (slots_view slots) ≡ Stands (slots_view (set slots i new))
put_stands at slots i it d new lt e n f =
    rw (slot_is slots i d lt, ← e, n, f)
    (ap (λ now. Stands now) (sym (map-set (option_map filled_view) slots i (Some it))))

pub put_twice : (at : At) (slots : List (Option Filled)) (i : ℕ) (it old : Filled)
    (d : Option Filled)
    → i < length slots → d ≡ get_or slots i d → d ≡ Some old
    → Fails (faults_of (put at i (filled_view it) (slots_view slots)))
    (Source ARGUMENT_TWICE at.place)
put_twice at slots i it old d lt e n =
    rw (slot_is slots i d lt, ← e, n) (record { cause = (0, lit< tt, refl) })
