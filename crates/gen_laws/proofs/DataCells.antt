-- The first cells of a program within the limits, with the offsets of its arrays, are cells, and
-- within the limit.
use Rattle.std.proofs.Common.{◌≡◌, ◌+◌, ◌*◌, ◌^◌, ◌<◌, ◌≤◌, ℕ, zero, suc, pos, List, [], ◌∷◌}
use Rattle.std.proofs.Common.{◌++◌, Option, None, Some, length, map, slice_get, refl}
use Rattle.std.proofs.Common.{sym, ap, subst, ◌∙◌, arith}
use Rattle.std.specs.Prelude.{All, sum_by}
use Rattle.std.proofs.lemmas.List.Elements.{All-append, All-nil, All-cons}
use Rattle.std.proofs.lemmas.List.Sums.{sum_by-cons}
use Rattle.pawn_cells.specs.Cells.{IsCell}
use Rattle.pawn_arrays.specs.Sizes.{elements_in, cells_in, cells_of, cell_limit}
use Rattle.pawn_meaning.specs.Program.{StaticObject, Program}
use Rattle.pawn_meaning.specs.Valid.{IsValidObject, IsValid}
use Rattle.pawn_meaning.specs.Limits.{IsWithinArray, IsWithinLimits}
use Rattle.pawn_meaning.specs.declared.program_limits.TheConstants.{DATA_LIMIT}
use Rattle.pawn_meaning.specs.Memory.{Memory, Object, Static}
use Rattle.pawn_meaning.specs.Memory as memory
use Rattle.pawn_meaning.specs.World.{first_object, first_memory}
use Rattle.pawn_cells.proofs.CellLaws.{small_cell}
use Rattle.gen_sim.specs.Pieces.{offsets, vectors_of, vectors, object_cells, image, total}
use Rattle.gen_sim.specs.Pieces.{objects_from, automata_from, data_pieces}
use Rattle.gen_sim.proofs.LayoutLaws.{extent_is}
use Rattle.gen_sim.proofs.PieceLaws.{image-append, total-append}
use Rattle.gen_laws.proofs.FirstObjects.{first_of, no_states, none_at}

-- ---- offsets

module _ (most : ℕ) (small : 4 * most < 2 ^ 31) where
  offsets_fit : (from left size : ℕ) → left + from * size + left * size ≤ most
      → All IsCell (offsets from left size)
  offsets_fit from zero size h = All-nil IsCell
  offsets_fit from (suc left) size h =
      All-cons IsCell (pos (4 * (suc left + from * size))) (offsets (from + 1) left size)
      (small_cell (4 * (suc left + from * size)) (omega (arith, h, small)))
      (offsets_fit (from + 1) left size (omega (arith, h)))

  levels_fit : (parts : ℕ) (inner : List ℕ) → parts + cells_in parts inner ≤ most
      → All IsCell (vectors_of parts inner)
  levels_fit parts [] h = All-nil IsCell
  levels_fit parts (size ∷ inner) h =
      All-append IsCell (offsets 0 parts size) (vectors_of (parts * size) inner)
      (offsets_fit 0 parts size (omega (arith, h)))
      (levels_fit (parts * size) inner (omega (arith, h)))

  vectors_fit : (sizes : List ℕ) → cells_of sizes ≤ most → All IsCell (vectors sizes)
  vectors_fit [] h = All-nil IsCell
  vectors_fit (size ∷ inner) h =
      let one : 1 * size ≡ size = omega arith in
      levels_fit size inner (omega (arith, h, ap (λ n. cells_in n inner) one))

-- ---- the objects and the automata

module _ (m : Memory) (all : List Object) (same : m.objects ≡ all) where
  objects_fit : (k : ℕ) (objects : List StaticObject) → All IsValidObject objects
      → All (λ (it : StaticObject). IsWithinArray it.sizes) objects
      → ((i : ℕ) (it : StaticObject) → slice_get objects i ≡ Some it
      → slice_get all (k + i) ≡ Some (first_object it))
      → All IsCell (image m (objects_from k objects))
  objects_fit k [] valid within at = All-nil IsCell
  objects_fit k (it ∷ objects) valid within at =
      let here : memory.object_at m (Static k) ≡ Some (first_object it) =
      ap (λ (l : List Object). slice_get l k) same
      ∙ ap (λ n. slice_get all n) {x = k} {y = k + 0} (omega arith) ∙ at 0 it refl in
      let own : All IsCell (vectors it.sizes ++ it.first) =
      All-append IsCell (vectors it.sizes) it.first
      (vectors_fit cell_limit (omega arith) it.sizes (within 0 it (omega arith)).most)
      (valid 0 it (omega arith)).cells in
      All-append IsCell (object_cells it.sizes (memory.object_at m (Static k)))
      (image m (objects_from (k + 1) objects))
      (subst (λ o. All IsCell (object_cells it.sizes o)) (sym here) own)
      (objects_fit (k + 1) objects (λ i d h. valid (suc i) d (omega (arith, h)))
      (λ i d h. within (suc i) d (omega (arith, h)))
      (λ i x e. ap (λ n. slice_get all n) {x = k + 1 + i} {y = k + suc i} (omega arith)
      ∙ at (suc i) x e))

automata_fit : (m : Memory) (all a left : ℕ) → m.states ≡ no_states all → a + left ≤ all
    → All IsCell (image m (automata_from a left))
automata_fit m all a zero same h = All-nil IsCell
automata_fit m all a (suc left) same h =
    let here : slice_get m.states a ≡ Some None =
    ap (λ (l : List (Option ℕ)). slice_get l a) same ∙ none_at all a (omega (arith, h)) in
    rw here (All-cons IsCell (pos 0) (image m (automata_from (a + 1) left))
    (small_cell 0 (omega arith)) (automata_fit m all (a + 1) left same (omega (arith, h))))

pub data_fit : (program : Program) → IsValid program → IsWithinLimits program
    → All IsCell (image (first_memory program) (data_pieces program))
data_fit program valid limits =
    let m = first_memory program in
    let objects = objects_from 0 program.objects in
    let automata = automata_from 0 (length program.automata) in
    subst (λ l. All IsCell l) (sym (image-append m objects automata))
    (All-append IsCell (image m objects) (image m automata)
    (objects_fit m (map first_object program.objects) refl 0 program.objects valid.objects
    limits.objects
    (λ i it e. ap (λ n. slice_get (map first_object program.objects) n) {x = 0 + i} {y = i}
    (omega arith) ∙ first_of program.objects i it e))
    (automata_fit m (length program.automata) 0 (length program.automata) refl (omega arith)))

-- ---- how many they are

object_total : (sizes : List ℕ) → 1 ≤ length sizes
    → length (vectors sizes) + elements_in sizes ≡ cells_of sizes
object_total [] h = absurd (omega (arith, h))
object_total (size ∷ inner) h = extent_is size inner

objects_total : (k : ℕ) (objects : List StaticObject) → All IsValidObject objects
    → total (objects_from k objects) ≡ sum_by (λ (it : StaticObject). cells_of it.sizes) objects
objects_total k [] valid = refl
objects_total k (it ∷ objects) valid =
    omega (
      arith,
      sum_by-cons (λ (x : StaticObject). cells_of x.sizes) it objects,
      object_total it.sizes (valid 0 it (omega arith)).sizes.0,
      objects_total (k + 1) objects (λ i d h. valid (suc i) d (omega (arith, h))),
    )

automata_total : (a left : ℕ) → total (automata_from a left) ≡ left
automata_total a zero = refl
automata_total a (suc left) = omega (arith, automata_total (a + 1) left)

pub data_small : (program : Program) → IsValid program → IsWithinLimits program
    → total (data_pieces program) ≤ DATA_LIMIT
data_small program valid limits =
    omega (
      arith,
      total-append (objects_from 0 program.objects) (automata_from 0 (length program.automata)),
      objects_total 0 program.objects valid.objects,
      automata_total 0 (length program.automata),
      limits.cells,
    )
