-- A call under the plain script: each argument is seen as a cell, the answer is 0, and nothing is
-- written.
use Rattle.std.proofs.Common.{◌≡◌, ℕ, zero, suc, ℤ, pos, List, [], ◌∷◌, Some, None, refl, ap, ◌∙◌}
use Rattle.std.proofs.Common.{length, map, replicate, arith}
use Rattle.std.specs.Prelude.{All}
use Rattle.std.specs.List.{IsDistinct}
use Rattle.host_script.specs.Ranges.{IsNative, IsAnswer, IsScript}
use Rattle.host_script.specs.declared.script.Form.{Form}
use Rattle.host_script.specs.declared.script.Form.TheVariants as form
use Rattle.host_script.specs.declared.script.Answer.TheVariants.{Given}
use Rattle.host_script.specs.declared.event.Seen.TheVariants.{Cell}
use Rattle.host_script.specs.declared.event.Event.TheVariants as event
use Rattle.host_script.specs.Script.{plain, unlisted, forms_of}
use Rattle.host_script.specs.NativeCall.{Sight, Sees, Sought, Answers, see_all, native_call}
use Rattle.host_script.specs.NativeCall.{called_on}

forms_are_cells : (name : List ℕ) (count : ℕ)
    → forms_of (unlisted name) count ≡ Some (replicate count form.Cell)
forms_are_cells name zero = refl
forms_are_cells name (suc count) = refl

-- a cell that was seen, which may not be written to
abbrev sought_cell : {P : Type 0} → ℤ → Sought P
sought_cell v = record { seen = Cell v; hold = None }

module _ {A P : Type 0} (see : A → Form → Sight (Sought P)) (value : A → ℤ)
    (sees : (a : A) → see a form.Cell ≡ Sees (record { seen = Cell (value a); hold = None })) where
  all_seen : (arguments : List A) → see_all see arguments (replicate (length arguments) form.Cell)
      ≡ Sees (map (λ a. sought_cell (value a)) arguments)
  all_seen [] = refl
  all_seen (a ∷ arguments) = rw (sees a, all_seen arguments) refl

  seen_of : (arguments : List A)
      → map (λ (sought : Sought P). sought.seen) (map (λ a. sought_cell (value a)) arguments)
      ≡ map (λ a. Cell (value a)) arguments
  seen_of [] = refl
  seen_of (a ∷ arguments) = ap (λ others. Cell (value a) ∷ others) (seen_of arguments)

  pub plain_call : (name : List ℕ) (arguments : List A) (position : ℕ)
      → native_call plain see name arguments position
      ≡ Answers (event.Native name (map (λ a. Cell (value a)) arguments) (pos 0))
      (pos 0) position []
  plain_call name arguments position =
      ap (λ forms. called_on see name arguments position
      (record { answer = Given (pos 0) []; position = position }) forms)
      (forms_are_cells name (length arguments))
      ∙ rw (all_seen arguments, seen_of arguments) refl

-- ---- it keeps its form

none : {A : Type 0} (P : A → Type 0) → All P []
none P k d h = absurd (omega (arith, h))

pub plain_is_script : IsScript plain
unfolding IsDistinct
plain_is_script =
    record { natives = none IsNative; once = tt; answers = none IsAnswer; count = omega arith }
