-- How many cells an assignment, an update or a step takes, by how place and value come.
use Rattle.std.proofs.Common.{◌+◌, ◌≤◌, ℤ, pos, negsuc, List, []}
use Rattle.std.proofs.Common.{◌∷◌, ◌++◌}
use Rattle.std.proofs.Common.{Option, None}
use Rattle.std.proofs.Common.{Some, Bool, true, false, arith}
use Rattle.pawn_cells.specs.declared.operator.Operator.{Operator}
use Rattle.pawn_meaning.specs.Program.{Scalar, Global, Own, Through, Element, Char, Expr}
use Rattle.pawn_meaning.specs.Scope.{Scope}
use Rattle.pawn_meaning.specs.Fold.{fold}
use Rattle.amx_ops.specs.declared.op.Op.TheVariants as op
use Rattle.gen_sim.specs.Items.{Item}
use Rattle.gen_sim.proofs.ItemLaws.{count-append}
use Rattle.gen_sim.specs.SimpleCode.{alone, taking, operator_code}
use Rattle.gen_sim.specs.SimpleCode.{const_code}
use Rattle.gen_sim.specs.AccessCode.{load_code, store_code}
use Rattle.gen_sim.specs.DirectCode.{Direct, direct_load, direct_store, direct_changed}
use Rattle.gen_sim.specs.ChangeCode.{quiet_assign, assign_by, leaves_alt, kept_update}
use Rattle.gen_sim.specs.OperandCode.{placed_code}
use Rattle.gen_sim.specs.ChangeCode.{pushed_update, known_update, waited_update, update_by}
use Rattle.gen_sim.specs.DirectCode.{effect_there, effect_by}
use Rattle.gen_sim.specs.OperandCode.{Right, Known, Placed, Waiting, right_by, read_place, right_of}
use Rattle.gen_sim.specs.OperandCode.{loaded_code, known_code}
use Rattle.gen_laws.proofs.Counts.{count, operator_count, load_count, store_count, both_count}
use Rattle.gen_laws.proofs.Counts.{AreTwo, step_count, AreEffectTwo, direct_effect_count}
use Rattle.gen_laws.proofs.Counts.{loaded_count, const_count, known_count, read_two}

quiet_assign_count : (p : Scalar) (place load : List Item)
    → count (quiet_assign p place load) ≤ count place + count load + 3
quiet_assign_count p place load =
    omega (
      arith,
      count-append place (alone op.MoveAlt ∷ (load ++ store_code p)),
      count-append load (store_code p),
      store_count p,
    )

abbrev pub IsQuietTwo : Right → Type 0
IsQuietTwo (Known v) = Unit {0}
IsQuietTwo (Placed d) = AreTwo (Some d)
IsQuietTwo Waiting = Unit {0}

quiet_by_two : (k : Option ℤ) (o : Option Direct) → AreTwo o → IsQuietTwo (right_by k o)
quiet_by_two (Some v) o h = tt
quiet_by_two None (Some d) h = h
quiet_by_two None None h = tt

pub quiet_two : (scope : Scope) (e : Expr) → IsQuietTwo (right_of scope e)
quiet_two scope e = quiet_by_two (fold e) (read_place scope e) (read_two scope e)

pub assign_count : (o : Option Direct) → AreTwo o → (how : Right) → IsQuietTwo how → (p : Scalar)
    (place value : List Item)
    → count (assign_by o how p place value) ≤ count place + count value + 6
assign_count None h (Known v) k p place value =
    omega (arith, quiet_assign_count p place (const_code v), const_count v)
assign_count None h (Placed d) k p place value =
    omega (arith, quiet_assign_count p place (direct_load d), k.0)
assign_count None h Waiting k p place value =
    omega (arith, both_count place value (store_code p), store_count p)
assign_count (Some d) h how k p place value =
    omega (arith, count-append value (direct_store d), h.2)

kept_count : (p : Scalar) (place change : List Item)
    → count (kept_update p place change) ≤ count place + count change + 5
kept_count p place change =
    omega (
      arith,
      count-append place (alone op.MoveAlt ∷ (load_code p ++ (change ++ store_code p))),
      count-append (load_code p) (change ++ store_code p),
      count-append change (store_code p),
      load_count p,
      store_count p,
    )

pushed_count : (p : Scalar) (place change : List Item)
    → count (pushed_update p place change) ≤ count place + count change + 6
pushed_count p place change =
    let last = alone op.PopAlt ∷ store_code p in
    omega (
      arith,
      count-append place (alone op.PushPri ∷ (load_code p ++ (change ++ last))),
      count-append (load_code p) (change ++ last),
      count-append change last,
      load_count p,
      store_count p,
    )

waited_count : (p : Scalar) (place value change : List Item)
    → count (waited_update p place value change) ≤ count place + count value + count change + 9
waited_count p place value change =
    let last = alone op.PopAlt ∷ store_code p in
    omega (
      arith,
      both_count place value
          (alone op.PushAlt ∷ alone op.Xchg ∷ (load_code p ++ (change ++ last))),
      count-append (load_code p) (change ++ last),
      count-append change last,
      load_count p,
      store_count p,
    )

known_update_count : (b : Bool) (p : Scalar) (place change : List Item)
    → count (known_update b p place change) ≤ count place + count change + 6
known_update_count true p place change = omega (arith, kept_count p place change)
known_update_count false p place change = pushed_count p place change

placed_count : (o : Operator) (d : Direct) → AreTwo (Some d) → count (placed_code o d) ≤ 4
placed_count o d h =
    omega (
      arith,
      h.1,
      count-append (taking d.loads_alt d.operand ∷ []) (loaded_code o),
      loaded_count o,
    )

ready_count : (d : Direct) → AreTwo (Some d) → (change : List Item)
    → count (direct_load d ++ (change ++ direct_store d)) ≤ count change + 4
ready_count d h change =
    omega (
      arith,
      count-append (direct_load d) (change ++ direct_store d),
      count-append change (direct_store d),
      h.0,
      h.2,
    )

pub update_count : (o : Option Direct) → AreTwo o → (how : Right) → IsQuietTwo how → (p : Scalar)
    (f : Operator) (place value : List Item)
    → count (update_by o how p f place value) ≤ count place + count value + 12
update_count None h (Known v) k p f place value =
    omega (arith, known_update_count (leaves_alt f) p place (known_code f v), known_count f v)
update_count None h (Placed d) k p f place value =
    omega (arith, pushed_count p place (placed_code f d), placed_count f d k)
update_count None h Waiting k p f place value =
    omega (arith, waited_count p place value (loaded_code f), loaded_count f)
update_count (Some d) h (Known v) k p f place value =
    omega (arith, ready_count d h (known_code f v), known_count f v)
update_count (Some d) h (Placed b) k p f place value =
    omega (arith, ready_count d h (placed_code f b), placed_count f b k)
update_count (Some d) h Waiting k p f place value =
    omega (
      arith,
      count-append value (direct_changed d (operator_code f)),
      count-append (taking d.loads_alt d.operand ∷ []) (operator_code f ++ direct_store d),
      count-append (operator_code f) (direct_store d),
      operator_count f,
      h.1,
      h.2,
    )

effect_there_count : (p : Scalar) (delta : ℤ) (place : List Item)
    → count (effect_there p delta place) ≤ count place + 9
effect_there_count (Char a e) delta place = step_count None tt (Char a e) delta true place
effect_there_count (Global o) (pos n) place = omega (arith, count-append place (alone op.IncI ∷ []))
effect_there_count (Global o) (negsuc n) place =
    omega (arith, count-append place (alone op.DecI ∷ []))
effect_there_count (Own s) (pos n) place = omega (arith, count-append place (alone op.IncI ∷ []))
effect_there_count (Own s) (negsuc n) place = omega (arith, count-append place (alone op.DecI ∷ []))
effect_there_count (Through s) (pos n) place =
    omega (arith, count-append place (alone op.IncI ∷ []))
effect_there_count (Through s) (negsuc n) place =
    omega (arith, count-append place (alone op.DecI ∷ []))
effect_there_count (Element a e) (pos n) place =
    omega (arith, count-append place (alone op.IncI ∷ []))
effect_there_count (Element a e) (negsuc n) place =
    omega (arith, count-append place (alone op.DecI ∷ []))

pub effect_count : (o : Option Direct) → AreTwo o → AreEffectTwo o → (p : Scalar) (delta : ℤ)
    (place : List Item) → count (effect_by o p delta place) ≤ count place + 9
effect_count None h k p delta place = effect_there_count p delta place
effect_count (Some d) h k p delta place = omega (arith, direct_effect_count d h d.adds k delta)
