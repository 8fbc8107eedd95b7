-- Loops over rows: how the rows made and the rows to come make up the whole.
use Rattle.std.proofs.Common.{◌≡◌, ℕ, ◌++◌, List, [], ◌∷◌, Bool, append_assoc}
use Rattle.pawn_pre.specs.File.{blanked, with_rows, part_at}
use Rattle.pawn_pre.specs.Comments.{clean}
use Rattle.pawn_pre.specs.declared.row.Row.{Row}

-- a row more
pub blanked_more : (made rest : List Row) (row : Row) (unclosed : Bool) (last : ℕ) →
    with_rows (made ++ (record {
      number = row.number;
      bytes = (clean (part_at unclosed) row.bytes).bytes;
    }) ∷ [])
    (blanked (clean (part_at unclosed) row.bytes).unclosed row.number rest) ≡
    with_rows made (blanked unclosed last (row ∷ rest))
unfolding blanked
blanked_more made rest row unclosed last = simp append_assoc
