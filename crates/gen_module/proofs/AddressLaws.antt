-- The addresses of a program's objects, as far as they are in the table.
use Rattle.std.proofs.Common.{◌≡◌, ◌+◌, ◌*◌, ◌<◌, ◌⊎◌, inl, inr, ℕ, zero, suc, ℤ, pos, List, []}
use Rattle.std.proofs.Common.{◌∷◌, ◌++◌, Some, length, map, take, get_or, slice_get, sym, ap}
use Rattle.std.proofs.Common.{◌∙◌, arith, length-append, add-one}
use Rattle.pawn_arrays.specs.Sizes.{inner_sizes, sizes, cell_count}
use Rattle.pawn_arrays.specs.declared.shape.Shape.{Shape}
use Rattle.pawn_meaning.specs.View.{object_view}
use Rattle.pawn_meaning.specs.declared.program.Object.{Object}
use Rattle.gen_sim.specs.Pieces.{total, objects_from}
use Rattle.gen_sim.proofs.LayoutLaws.{extent_is}
use Rattle.gen_sim.specs.PlaceItems.{cells_by}
use Rattle.gen_module.proofs.EntryLaws.{get_more}

-- the cells of a shape are those of its sizes
pub array_size : (shape : Shape) → cells_by (sizes shape) ≡ cell_count shape
array_size shape = extent_is shape.first (inner_sizes shape.second shape.third)

-- the cells of the first objects
abbrev pub cells_before : List Object → ℕ → ℕ
cells_before objects i = total (objects_from 0 (take i (map object_view objects)))

total_taken : (k : ℕ) (objects : List Object) (i : ℕ) (object : Object) → i < length objects
    → object ≡ get_or objects i object
    → total (objects_from k (take (suc i) (map object_view objects)))
    ≡ total (objects_from k (take i (map object_view objects))) + cells_by (sizes object.shape)
total_taken k [] i object within is = absurd (omega (arith, within))
total_taken k (x ∷ objects) zero object within is =
    let same : cells_by (sizes x.shape) ≡ cells_by (sizes object.shape) =
    ap (λ (z : Object). cells_by (sizes z.shape)) (sym is) in
    omega (arith, same)
total_taken k (x ∷ objects) (suc i) object within is =
    omega (arith, total_taken (k + 1) objects i object (omega (arith, within)) is)

-- the first addresses, and the cells of the objects that have them
pub record Addressed (objects : List Object) (i : ℕ) (table : List ℤ) (cells : ℕ) : Type 0 where
  pub count : length table ≡ i
  pub cells_are : cells ≡ cells_before objects i
  pub at : (o : ℕ) (x : ℤ) → slice_get table o ≡ Some x → x ≡ pos (4 * cells_before objects o)

pub more_addressed : (objects : List Object) (i : ℕ) (table : List ℤ) (cells : ℕ) (object : Object)
    (address : ℤ) (n : ℕ)
    → Addressed objects i table cells → i < length objects → object ≡ get_or objects i object
    → address ≡ pos (4 * cells)
    → n ≡ cells + cells_by (sizes object.shape)
    → Addressed objects (i + 1) (table ++ address ∷ []) n
more_addressed objects i table cells object address n so_far within is at counted =
    let next : cells_before objects (i + 1) ≡ cells_before objects (suc i) =
    ap (λ k. cells_before objects k) (add-one i) in
    record {
      count = length-append table (address ∷ []) ∙ omega (arith, so_far.count);
      cells_are =
          omega (arith, counted, so_far.cells_are, total_taken 0 objects i object within is, next);
      at = λ o x e. by_place o x (get_more table address x o e);
    }
  where
    by_place : (o : ℕ) (x : ℤ) → (slice_get table o ≡ Some x) ⊎ ((o ≡ length table) × (x ≡ address))
        → x ≡ pos (4 * cells_before objects o)
    by_place o x (inl e) = so_far.at o x e
    by_place o x (inr e) =
        let here : i ≡ o = sym (e.0 ∙ so_far.count) in
        e.1 ∙ at ∙ ap (λ k. pos (4 * k)) (so_far.cells_are ∙ ap (λ k. cells_before objects k) here)
