-- Tables with the address of the first object and the offset of the first parameter alone.
use Rattle.std.proofs.Common.{◌≡◌, ℕ, zero, suc, ℤ, pos, Some, [], ◌∷◌}
use Rattle.std.specs.Prelude.{slice_get}
use Rattle.pawn_meaning.specs.Program.{Program}
use Rattle.pawn_meaning.specs.Scope.{Scope}
use Rattle.gen_sim.specs.PlaceItems.{object_address, slot_offset}
use Rattle.gen_expr.specs.declared.frame.Frame.{Frame}
use Rattle.gen_expr.specs.Standing.{scope_of, Serves}

first_object : (program : Program) (o : ℕ) (x : ℤ) → slice_get (pos 0 ∷ []) o ≡ Some x
    → x ≡ object_address program o
first_object program zero x e = cc
first_object program (suc o) x e = cc

first_slot : (scope : Scope) (s : ℕ) (x : ℤ) → scope.params ≡ 4
    → slice_get (Some (pos 12) ∷ []) s ≡ Some (Some x) → x ≡ slot_offset scope s
first_slot scope zero x four e = rw four (cc)
first_slot scope (suc s) x four e = cc

pub served : (frame : Frame) → frame.objects.now ≡ pos 0 ∷ []
    → frame.offsets.now ≡ Some (pos 12) ∷ [] → frame.params ≡ 4 → Serves frame
served frame objects offsets four = (
  λ o x e. first_object (scope_of frame).program o x (rw objects at e),
  λ s x e. first_slot (scope_of frame) s x four (rw offsets at e),
)
