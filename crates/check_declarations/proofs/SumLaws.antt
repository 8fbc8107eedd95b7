-- The cells of objects, counted one by one.
use Rattle.std.proofs.Common.{◌≡◌, ◌+◌, ◌<◌, ◌≤◌, ℕ, List, [], ◌∷◌, length, drop, get_or, sym, ap}
use Rattle.std.proofs.Common.{subst, ◌∙◌, arith}
use Rattle.std.proofs.lemmas.List.{drop_all, drop_more}
use Rattle.pawn_arrays.specs.Sizes.{cell_count}
use Rattle.pawn_meaning.specs.declared.program.Object.{Object}
use Rattle.pawn_meaning.specs.declared.program_limits.TheConstants.{DATA_LIMIT}
use Rattle.check_declarations.specs.ObjectCells.{cells_behind, cells_of_all, Counted}

-- a sum only grows
pub least : (sum : ℕ) (objects : List Object) → sum ≤ cells_behind sum objects
least sum [] = omega arith
least sum (x ∷ more) = let h = least (sum + cell_count x.shape) more in omega (arith, h)

-- one object more
behind_one : (objects : List Object) (i sum : ℕ) (x : Object) → Counted objects i sum
    → i < length objects → x ≡ get_or objects i x
    → cells_behind (sum + cell_count x.shape) (drop (i + 1) objects) ≡ cells_of_all objects
behind_one objects i sum x done lt e =
    ap (λ y. cells_behind sum (y ∷ drop (i + 1) objects)) e
    ∙ ap (cells_behind sum) (sym (drop_more objects i x lt)) ∙ done.same

pub counted_more : {objects : List Object} {i sum : ℕ} (x : Object) → Counted objects i sum
    → i < length objects → x ≡ get_or objects i x
    → sum + cell_count x.shape ≤ DATA_LIMIT → Counted objects (i + 1) (sum + cell_count x.shape)
counted_more {objects} {i} {sum} x done lt e h =
    record { same = behind_one objects i sum x done lt e; within = h }

-- where one more is too many, all are
pub counted_over : {objects : List Object} {i sum : ℕ} (x : Object) → Counted objects i sum
    → i < length objects → x ≡ get_or objects i x
    → (sum + cell_count (get_or objects i x).shape ≤ DATA_LIMIT → ⊥)
    → cells_of_all objects ≤ DATA_LIMIT → ⊥
counted_over {objects} {i} {sum} x done lt e h all =
    let same = behind_one objects i sum x done lt e in
    let grows = least (sum + cell_count x.shape) (drop (i + 1) objects) in
    h (subst (λ (y : Object). sum + cell_count y.shape ≤ DATA_LIMIT) e
    (omega (arith, all, same, grows)))

pub counted_all : {objects : List Object} {i sum : ℕ} → Counted objects i sum → length objects ≤ i
    → cells_of_all objects ≡ sum
counted_all {objects} {i} {sum} done le =
    sym done.same ∙ ap (cells_behind sum) (drop_all i objects le)
