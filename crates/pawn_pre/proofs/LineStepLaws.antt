-- The steps of a line, by what the first place gives.
use Rattle.std.proofs.Common.{◌≡◌, ℕ, ◌+◌, ◌-◌, ◌<◌, ◌++◌, zero, suc, List, [], true, false, Option}
use Rattle.std.proofs.Common.{Some, None, Ok, Err, length, refl, sym, ap, ◌∙◌, arith}
use Rattle.pawn_pre.specs.declared.quote.Quote.TheVariants.{Outside}
use Rattle.pawn_pre.specs.Table.{Rules}
use Rattle.pawn_pre.specs.Substitution.{Cursor, substituted, steps, expanded, is_long}
use Rattle.pawn_pre.specs.Expansion.{IsCursor}
use Rattle.pawn_pre.proofs.CutLaws.{cut_sum, cut_same}

module _ (rules : Rules) (control : ℕ) (done after : List ℕ) where
  pub stands : (left : ℕ) → substituted rules control Outside false after ≡ None
      → steps rules control left done after ≡ Ok (done ++ after)
  unfolding steps
  stands zero h = rw h refl
  stands (suc left) h = rw h refl

  one_too_many_at : (cursor : Cursor) → substituted rules control Outside false after ≡ Some cursor
      → steps rules control 0 done after ≡ Err 7
  unfolding steps
  one_too_many_at cursor h = rw h refl

  too_long_at : (left : ℕ) (cursor : Cursor)
      → substituted rules control Outside false after ≡ Some cursor → 0 < left →
      is_long (length (done ++ cursor.before) + length cursor.after) ≡ true
      → steps rules control left done after ≡ Err 9
  unfolding steps
  too_long_at zero cursor h k l = absurd (omega arith)
  too_long_at (suc left) cursor h k l = rw h (rw l refl)

  one_more_at : (left : ℕ) (cursor : Cursor)
      → substituted rules control Outside false after ≡ Some cursor → 0 < left →
      is_long (length (done ++ cursor.before) + length cursor.after) ≡ false →
      steps rules control (left - 1) (done ++ cursor.before) cursor.after
      ≡ steps rules control left done after
  unfolding steps
  one_more_at zero cursor h k l = absurd (omega arith)
  one_more_at (suc left) cursor h k l =
      rw h (rw l (ap (λ n. steps rules control n (done ++ cursor.before) cursor.after)
      (omega arith)))

  -- by the place that the code found, whose text may be cut
  module _ (before built : List ℕ)
      (found : IsCursor (substituted rules control Outside false after) before built) where
    pub one_too_many : steps rules control 0 done after ≡ Err 7
    one_too_many = by_cursor (substituted rules control Outside false after) refl found
      where
        by_cursor : (o : Option Cursor) → substituted rules control Outside false after ≡ o
            → IsCursor o before built → steps rules control 0 done after ≡ Err 7
        by_cursor None e h = absurd h
        by_cursor (Some cursor) e h = one_too_many_at cursor e

    pub too_long : (left : ℕ) → 0 < left → is_long (length (done ++ before) + length built) ≡ true
        → steps rules control left done after ≡ Err 9
    too_long left k l = by_cursor (substituted rules control Outside false after) refl found
      where
        by_cursor : (o : Option Cursor) → substituted rules control Outside false after ≡ o
            → IsCursor o before built → steps rules control left done after ≡ Err 9
        by_cursor None e h = absurd h
        by_cursor (Some cursor) e h =
            too_long_at left cursor e k (rw h.0
            (sym (cut_sum (length (done ++ before)) cursor.after built h.1) ∙ l))

    pub one_more : (left : ℕ) → 0 < left → is_long (length (done ++ before) + length built)
        ≡ false →
        steps rules control (left - 1) (done ++ before) built ≡ steps rules control left done after
    one_more left k l = by_cursor (substituted rules control Outside false after) refl found
      where
        by_cursor : (o : Option Cursor) → substituted rules control Outside false after ≡ o
            → IsCursor o before built →
            steps rules control (left - 1) (done ++ before) built
            ≡ steps rules control left done after
        by_cursor None e h = absurd h
        by_cursor (Some cursor) e h =
            rw (cut_same (length (done ++ before)) cursor.after built h.1 l)
            (rw (sym h.0) (one_more_at left cursor e k
            (rw h.0 (sym (cut_sum (length (done ++ before)) cursor.after built h.1) ∙ l))))

-- a line that is short enough
pub expanded_short : (rules : Rules) (control : ℕ) (bytes : List ℕ) → is_long (length bytes) ≡ false
    → expanded rules control bytes ≡ steps rules control 1000 [] bytes
unfolding expanded
expanded_short rules control bytes h = rw h refl
