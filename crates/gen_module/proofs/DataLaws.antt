-- A program's first cells, object by object, are the image of its first memory.
use Rattle.std.proofs.Common.{◌≡◌, ◌+◌, ◌≤◌, ℕ, zero, suc, ℤ, pos, List, [], ◌∷◌, ◌++◌, Option}
use Rattle.std.proofs.Common.{None, Some, length, map, slice_get, replicate, refl, sym, ap, ◌∙◌}
use Rattle.std.proofs.Common.{arith}
use Rattle.std.proofs.lemmas.List.{length-map}
use Rattle.pawn_arrays.specs.Sizes.{inner_sizes, sizes}
use Rattle.pawn_arrays.specs.Layout.{IsLayout}
use Rattle.pawn_arrays.specs.declared.shape.Shape.{Shape}
use Rattle.pawn_meaning.specs.Program.{StaticObject, Program}
use Rattle.pawn_meaning.specs.View.{object_view, automaton_view, program_view}
use Rattle.pawn_meaning.specs.declared.program.Program as held_program
use Rattle.pawn_meaning.specs.Memory.{Memory, Object, Static}
use Rattle.pawn_meaning.specs.Memory as memory
use Rattle.pawn_meaning.specs.World.{first_object, first_memory}
use Rattle.gen_sim.specs.Pieces.{vectors, object_cells, state_cells, image, objects_from}
use Rattle.gen_sim.specs.Pieces.{automata_from, data_pieces}
use Rattle.gen_sim.proofs.LayoutLaws.{vectors_are_layout}
use Rattle.gen_sim.proofs.PieceLaws.{image-append}
use Rattle.gen_module.specs.Data.{objects_data}
use Rattle.gen_laws.proofs.FirstObjects.{first_of, no_states, none_at}

-- ---- the offsets

pub shape_layout : (shape : Shape) → IsLayout shape (vectors (sizes shape))
shape_layout shape = vectors_are_layout shape.first (inner_sizes shape.second shape.third)

-- ---- the image

module _ (m : Memory) (all : List Object) (same : m.objects ≡ all) where
  objects_are : (k : ℕ) (objects : List StaticObject)
      → ((i : ℕ) (it : StaticObject) → slice_get objects i ≡ Some it
      → slice_get all (k + i) ≡ Some (first_object it))
      → image m (objects_from k objects) ≡ objects_data objects
  objects_are k [] at = refl
  objects_are k (it ∷ objects) at =
      let here : memory.object_at m (Static k) ≡ Some (first_object it) =
      ap (λ (l : List Object). slice_get l k) same
      ∙ ap (λ n. slice_get all n) {x = k} {y = k + 0} (omega arith) ∙ at 0 it refl in
      ap (λ (o : Option Object). object_cells it.sizes o ++ image m (objects_from (k + 1) objects))
      here
      ∙ ap (λ (l : List ℤ). (vectors it.sizes ++ it.first) ++ l)
      (objects_are (k + 1) objects (λ i x e. ap
      (λ n. slice_get all n) {x = k + 1 + i} {y = k + suc i} (omega arith) ∙ at (suc i) x e))

automata_are : (m : Memory) (all a left : ℕ) → m.states ≡ no_states all → a + left ≤ all
    → image m (automata_from a left) ≡ replicate left (pos 0)
automata_are m all a zero same h = refl
automata_are m all a (suc left) same h =
    let here : slice_get m.states a ≡ Some None =
    ap (λ (l : List (Option ℕ)). slice_get l a) same ∙ none_at all a (omega (arith, h)) in
    ap (λ (s : Option (Option ℕ)). state_cells s ++ image m (automata_from (a + 1) left)) here
    ∙ ap (λ l. pos 0 ∷ l) (automata_are m all (a + 1) left same (omega (arith, h)))

image_is : (program : Program) → image (first_memory program) (data_pieces program)
    ≡ objects_data program.objects ++ replicate (length program.automata) (pos 0)
image_is program =
    let m = first_memory program in
    image-append m (objects_from 0 program.objects) (automata_from 0 (length program.automata))
    ∙ ap (λ (l : List ℤ). l ++ image m (automata_from 0 (length program.automata)))
    (objects_are m (map first_object program.objects) refl 0 program.objects
    (λ i it e. ap (λ n. slice_get (map first_object program.objects) n) {x = 0 + i} {y = i}
    (omega arith) ∙ first_of program.objects i it e))
    ∙ ap (λ (l : List ℤ). objects_data program.objects ++ l)
    (automata_are m (length program.automata) 0 (length program.automata) refl (omega arith))

pub data_is : (program : held_program.Program) (objects all : List ℤ)
    → objects ≡ objects_data (map object_view program.objects)
    → all ≡ objects ++ replicate (length program.automata) (pos 0)
    → all ≡ image (first_memory (program_view program)) (data_pieces (program_view program))
data_is program objects all first behind =
    behind ∙ ap (λ (l : List ℤ). l ++ replicate (length program.automata) (pos 0)) first
    ∙ ap (λ n. objects_data (map object_view program.objects) ++ replicate n (pos 0))
    (sym (length-map program.automata automaton_view))
    ∙ sym (image_is (program_view program))
