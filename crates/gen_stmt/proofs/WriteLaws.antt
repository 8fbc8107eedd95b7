-- The pairs of ranges and of cases, from a number on.
use Rattle.std.proofs.Common.{◌≡◌, ◌+◌, ◌-◌, ◌*◌, ◌<◌, ◌≤◌, ℕ, zero, suc, ℤ, pos, ◌+ℤ◌, List, []}
use Rattle.std.proofs.Common.{◌∷◌, ◌++◌, drop, get_or, length, slice_set, length-set, add-one, refl}
use Rattle.std.proofs.Common.{sym, ap, ◌∙◌, arith, length-append}
use Rattle.std.proofs.Math.Seq.{drop-cons}
use Rattle.std.proofs.lemmas.Int.{ints}
use Rattle.std.proofs.lemmas.List.{drop_all}
use Rattle.pawn_meaning.specs.View.{cases_view}
use Rattle.pawn_meaning.specs.declared.node.Case.{Case}
use Rattle.pawn_meaning.specs.Weight.{values_in}
use Rattle.gen_laws.specs.SwitchCode.{values_of, cases_values}
use Rattle.gen_expr.specs.Built.{Built}
use Rattle.gen_expr.specs.Filled.{filled}
use Rattle.gen_stmt.specs.Over.{over, pairs_of, ranges_pairs, cases_pairs}
use Rattle.gen_stmt.proofs.CountLaws.{values_more, cases_more}
use Rattle.gen_stmt.proofs.OverLaws.{over_append, over_cells}

-- an element, whatever would stand where there is none
pub same_at : {A : Type 0} (xs : List A) (i : ℕ) (d e : A) → i < length xs
    → get_or xs i d ≡ get_or xs i e
same_at [] i d e within = absurd (omega (arith, within))
same_at (x ∷ xs) zero d e within = refl
same_at (x ∷ xs) (suc i) d e within = same_at xs i d e (omega (arith, within))

pub length_pairs : (v : ℤ) (n : ℕ) (to : ℤ) → length (pairs_of v n to) ≡ 2 * n
length_pairs v zero to = refl
length_pairs v (suc n) to = omega (arith, length_pairs (v +ℤ pos 1) n to)

-- one value
pub pair_written : (v : ℤ) (n i : ℕ) (to : ℤ) (at : ℕ) (b : Built) → i < n
    → over (at + 2 * i) (pairs_of (v +ℤ pos i) (n - i) to) b
    ≡ over (at + 2 * (i + 1)) (pairs_of (v +ℤ pos (i + 1)) (n - (i + 1)) to)
    (filled (at + 2 * i + 1) to (filled (at + 2 * i) (v +ℤ pos i) b))
pair_written v n i to at b within =
    let rest : n - i ≡ suc (n - (i + 1)) = omega arith in
    let value : (v +ℤ pos i) +ℤ pos 1 ≡ v +ℤ pos (i + 1) = omega (arith, ints) in
    let place : at + 2 * i + 1 + 1 ≡ at + 2 * (i + 1) = omega arith in
    let written : Built = filled (at + 2 * i + 1) to (filled (at + 2 * i) (v +ℤ pos i) b) in
    ap (λ k. over (at + 2 * i) (pairs_of (v +ℤ pos i) k to) b) rest
    ∙ ap (λ k. over k (pairs_of ((v +ℤ pos i) +ℤ pos 1) (n - (i + 1)) to) written) place
    ∙ ap (λ x. over (at + 2 * (i + 1)) (pairs_of x (n - (i + 1)) to) written) value

pub no_pairs : (v : ℤ) (n i : ℕ) (to : ℤ) (at : ℕ) (b : Built) → n ≤ i
    → over at (pairs_of v (n - i) to) b ≡ b
no_pairs v n i to at b h =
    let none : n - i ≡ 0 = omega (arith, h) in
    ap (λ k. over at (pairs_of v k to) b) none

-- a value, and what was written before it
pub next_written : (v : ℤ) (n i : ℕ) (to value : ℤ) (at : ℕ) (b m r all : Built) → i < n
    → value ≡ v +ℤ pos i
    → r ≡ filled (at + 2 * i + 1) to (filled (at + 2 * i) value m)
    → over (at + 2 * i) (pairs_of (v +ℤ pos i) (n - i) to) m ≡ all
    → length m.code ≡ length b.code
    → (over (at + 2 * (i + 1)) (pairs_of (v +ℤ pos (i + 1)) (n - (i + 1)) to) r ≡ all)
    × (length r.code ≡ length b.code)
next_written v n i to value at b m r all within ev er so_far cells =
    let rest : List ℤ = pairs_of (v +ℤ pos (i + 1)) (n - (i + 1)) to in
    let there : r ≡ filled (at + 2 * i + 1) to (filled (at + 2 * i) (v +ℤ pos i) m) =
    er ∙ ap (λ x. filled (at + 2 * i + 1) to (filled (at + 2 * i) x m)) ev in (
      ap (λ (z : Built). over (at + 2 * (i + 1)) rest z) there
          ∙ sym (pair_written v n i to at m within) ∙ so_far,
      ap (λ (z : Built). length z.code) er
          ∙ length-set (slice_set m.code (at + 2 * i) value) (at + 2 * i + 1) to
          ∙ length-set m.code (at + 2 * i) value ∙ cells,
    )

-- one range
pub range_written : (ranges : List (ℤ × ℤ)) (i : ℕ) (range : ℤ × ℤ) (to : ℤ) (at : ℕ) (b : Built)
    → i < length ranges → range ≡ get_or ranges i range
    → over at (ranges_pairs (drop i ranges) to) b
    ≡ over (at + 2 * values_in range) (ranges_pairs (drop (i + 1) ranges) to)
    (over at (pairs_of range.0 (values_in range) to) b)
range_written ranges i range to at b within is =
    let first = pairs_of range.0 (values_in range) to in
    ap (λ l. over at (ranges_pairs l to) b) (drop-cons ranges i range within)
    ∙ ap (λ (r : ℤ × ℤ). over at (pairs_of r.0 (values_in r) to
    ++ ranges_pairs (drop (suc i) ranges) to) b) (sym is)
    ∙ ap (λ k. over at (first ++ ranges_pairs (drop k ranges) to) b) (sym (add-one i))
    ∙ over_append at first (ranges_pairs (drop (i + 1) ranges) to) b
    ∙ ap (λ n. over (at + n) (ranges_pairs (drop (i + 1) ranges) to) (over at first b))
    (length_pairs range.0 (values_in range) to)

-- a range, and what was written before it
pub next_range : (ranges : List (ℤ × ℤ)) (i : ℕ) (range : ℤ × ℤ) (to : ℤ) (cell end last : ℕ)
    (b m r all : Built) → i < length ranges
    → range ≡ get_or ranges i range → r ≡ over cell (pairs_of range.0 (values_in range) to) m
    → end ≡ cell + 2 * values_in range
    → over cell (ranges_pairs (drop i ranges) to) m ≡ all
    → cell + 2 * values_of (drop i ranges) ≡ last → length m.code ≡ length b.code
    → (over end (ranges_pairs (drop (i + 1) ranges) to) r ≡ all)
    × (end + 2 * values_of (drop (i + 1) ranges) ≡ last) × (length r.code ≡ length b.code)
next_range ranges i range to cell end last b m r all within is er ee so_far count cells =
    let rest : List ℤ = ranges_pairs (drop (i + 1) ranges) to in (
      ap (λ n. over n rest r) ee ∙ ap (λ (z : Built). over (cell + 2 * values_in range) rest z) er
          ∙ sym (range_written ranges i range to cell m within is) ∙ so_far,
      omega (arith, ee, count, values_more ranges i range within is),
      ap (λ (z : Built). length z.code) er
          ∙ over_cells cell (pairs_of range.0 (values_in range) to) m ∙ cells,
    )

pub no_ranges : (ranges : List (ℤ × ℤ)) (i : ℕ) (to : ℤ) (at : ℕ) (b : Built) → i ≡ length ranges
    → over at (ranges_pairs (drop i ranges) to) b ≡ b
no_ranges ranges i to at b e =
    ap (λ l. over at (ranges_pairs l to) b) (drop_all i ranges (omega (arith, e)))

pub length_ranges_pairs : (ranges : List (ℤ × ℤ)) (to : ℤ)
    → length (ranges_pairs ranges to) ≡ 2 * values_of ranges
length_ranges_pairs [] to = refl
length_ranges_pairs (range ∷ ranges) to =
    omega (
      arith,
      length-append (pairs_of range.0 (values_in range) to) (ranges_pairs ranges to),
      length_pairs range.0 (values_in range) to,
      length_ranges_pairs ranges to,
    )

-- one case
pub case_written : (cases : List Case) (tos : List ℤ) (i : ℕ) (case : Case) (to : ℤ) (at : ℕ)
    (b : Built) → i < length cases → i < length tos
    → case ≡ get_or cases i case → to ≡ get_or tos i to
    → over at (cases_pairs (cases_view (drop i cases)) (drop i tos)) b
    ≡ over (at + 2 * values_of case.ranges)
    (cases_pairs (cases_view (drop (i + 1) cases)) (drop (i + 1) tos))
    (over at (ranges_pairs case.ranges to) b)
case_written cases tos i case to at b within among is target =
    let first = ranges_pairs case.ranges to in
    let others = cases_pairs (cases_view (drop (i + 1) cases)) (drop (i + 1) tos) in
    ap (λ l. over at (cases_pairs (cases_view l) (drop i tos)) b) (drop-cons cases i case within)
    ∙ ap (λ l. over at (cases_pairs (cases_view (get_or cases i case ∷ drop (suc i) cases)) l) b)
    (drop-cons tos i to among)
    ∙ ap (λ (c : Case). over at (ranges_pairs c.ranges (get_or tos i to)
    ++ cases_pairs (cases_view (drop (suc i) cases)) (drop (suc i) tos)) b) (sym is)
    ∙ ap (λ x. over at (ranges_pairs case.ranges x
    ++ cases_pairs (cases_view (drop (suc i) cases)) (drop (suc i) tos)) b) (sym target)
    ∙ ap (λ k. over at (first ++ cases_pairs (cases_view (drop k cases)) (drop k tos)) b)
    (sym (add-one i))
    ∙ over_append at first others b
    ∙ ap (λ n. over (at + n) others (over at first b)) (length_ranges_pairs case.ranges to)

-- a case, and what was written before it
pub next_case : (cases : List Case) (tos : List ℤ) (i : ℕ) (case : Case) (to : ℤ)
    (cell end last : ℕ) (b m r all : Built) → i < length cases
    → i < length tos → case ≡ get_or cases i case → to ≡ get_or tos i to
    → r ≡ over cell (ranges_pairs case.ranges to) m
    → end ≡ cell + 2 * values_of case.ranges
    → over cell (cases_pairs (cases_view (drop i cases)) (drop i tos)) m ≡ all
    → cell + 2 * cases_values (cases_view (drop i cases)) ≡ last → length m.code ≡ length b.code
    → (over end (cases_pairs (cases_view (drop (i + 1) cases)) (drop (i + 1) tos)) r ≡ all)
    × (end + 2 * cases_values (cases_view (drop (i + 1) cases)) ≡ last)
    × (length r.code ≡ length b.code)
next_case cases tos i case to cell end last b m r all within among is target er ee so_far
    count cells =
    let rest : List ℤ = cases_pairs (cases_view (drop (i + 1) cases)) (drop (i + 1) tos) in (
      ap (λ n. over n rest r) ee ∙ ap
          (λ (z : Built). over (cell + 2 * values_of case.ranges) rest z) er
          ∙ sym (case_written cases tos i case to cell m within among is target) ∙ so_far,
      omega (arith, ee, count, cases_more cases i case within is),
      ap (λ (z : Built). length z.code) er ∙ over_cells cell (ranges_pairs case.ranges to) m
          ∙ cells,
    )

pub no_cases_pairs : (cases : List Case) (tos : List ℤ) (i : ℕ) (at : ℕ) (b : Built)
    → i ≡ length cases
    → over at (cases_pairs (cases_view (drop i cases)) (drop i tos)) b ≡ b
no_cases_pairs cases tos i at b e =
    ap (λ l. over at (cases_pairs (cases_view l) (drop i tos)) b)
    (drop_all i cases (omega (arith, e)))
