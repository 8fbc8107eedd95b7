-- A file has no more lines than bytes.
use Rattle.std.proofs.Common.{◌≡◌, ℕ, ◌+◌, ◌-◌, ◌<◌, ◌≤◌, List, [], ◌∷◌, Bool, true, false, zero}
use Rattle.std.proofs.Common.{suc, cond, Option, Some, None, length, drop, take, refl, ap, arith}
use Rattle.std.specs.List.{position}
use Rattle.std.specs.Str.Lines.{lines}
use Rattle.std.proofs.lemmas.List.{length-drop, length-take}
use Rattle.pawn_pre.specs.declared.row.Row.{Row}
use Rattle.pawn_pre.specs.Comments.{clean}
use Rattle.pawn_pre.specs.File.{part_at, file_of, blanked, File}
use Rattle.pawn_pre.specs.Joined.{rows_of, joined, glued, is_last, goes_on, front_of}
use Rattle.pawn_pre.proofs.JoinedLaws.{first_line, last_line, ends_line}

lines_by : (k : ℕ) (bs : List ℕ) → length bs ≤ suc k → 0 < length bs
    → ((rest : List ℕ) → length rest ≤ k → length (lines rest) ≤ length rest) →
    (at : Option ℕ) → position ends_line bs ≡ at → length (lines bs) ≤ length bs
lines_by k bs h some ih None e = rw (last_line bs some e) (omega arith)
lines_by k bs h some ih (Some n) e =
    let shorter : length (drop 1 (drop n bs)) + 1 ≤ length bs =
    rw (length-drop 1 (drop n bs), length-drop n bs) (omega (arith, some)) in
    let rest = ih (drop 1 (drop n bs)) (omega (arith, h, shorter)) in
    rw (first_line bs n e) (omega (arith, rest, shorter))

count_lines : (k : ℕ) (bs : List ℕ) → length bs ≤ k → length (lines bs) ≤ length bs
count_lines k [] h = omega arith
count_lines zero (b ∷ bs) h = absurd (omega arith)
count_lines (suc k) (b ∷ bs) h =
    lines_by k (b ∷ bs) h (omega arith) (λ rest l. count_lines k rest l) _ refl

count_glued : (n : ℕ) (front : List ℕ) (rows : List Row) → length (glued n front rows) ≡ length rows
unfolding glued
count_glued n front [] = refl
count_glued n front (row ∷ rows) = refl

count_by : (t u : Bool) (n m : ℕ) (row : Row) (front : List ℕ) (rows : List Row) → length rows ≤ m →
    length (cond t (row ∷ rows) (cond u (glued n front rows) (row ∷ rows))) ≤ suc m
count_by true u n m row front rows h = omega (arith, h)
count_by false true n m row front rows h = omega (arith, h, count_glued n front rows)
count_by false false n m row front rows h = omega (arith, h)

count_joined : (n : ℕ) (ls : List (List ℕ)) → length (joined n ls) ≤ length ls
unfolding joined
count_joined n [] = omega arith
count_joined n (line ∷ rest) =
    count_by (is_last rest) (goes_on line) n (length rest) _ (front_of line) (joined (n + 1) rest)
    (count_joined (n + 1) rest)

count_blanked : (unclosed : Bool) (last : ℕ) (rows : List Row)
    → length (blanked unclosed last rows).rows ≡ length rows
unfolding blanked
count_blanked unclosed last [] = refl
count_blanked unclosed last (row ∷ rest) =
    ap suc (count_blanked (clean (part_at unclosed) row.bytes).unclosed row.number rest)

count_closed : (t : Bool) (file : File)
    → length (cond t (record file { rows = take (length file.rows - 1) file.rows }) file).rows
    ≤ length file.rows
count_closed true file = rw (length-take (length file.rows - 1) file.rows) (omega arith)
count_closed false file = omega arith

pub count_rows : (bytes : List ℕ) → length (file_of bytes).rows ≤ length bytes
unfolding file_of rows_of
count_rows bytes =
    let all = blanked false 1 (rows_of bytes) in
    let closed = count_closed all.unclosed all in
    let whole = count_blanked false 1 (rows_of bytes) in
    let joins = count_joined 1 (lines bytes) in
    let cuts = count_lines (length bytes) bytes (omega arith) in
    omega (arith, closed, whole, joins, cuts)
