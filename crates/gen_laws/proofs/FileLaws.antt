-- Items that are a part of a file's code lie there: each is fetched at its address.
use Rattle.std.proofs.Common.{◌≡◌, ◌+◌, ◌*◌, ◌/◌, ◌^◌, ◌<◌, ◌≤◌, ℕ, List, [], ◌∷◌, ◌++◌, Some, true}
use Rattle.std.proofs.Common.{false, ◌==◌, All, find, map, length, take, drop, refl, sym, ap, subst}
use Rattle.std.proofs.Common.{◌∙◌, arith, append_assoc, length-append, ne_eqb, eq-eqb}
use Rattle.std.specs.Prelude.{option_map}
use Rattle.std.specs.List.{flat_map}
use Rattle.std.proofs.lemmas.List.Elements.{All-nil, All-cons}
use Rattle.std.proofs.Math.Seq.{drop-append_seam, take-append_seam}
use Rattle.amx_ops.specs.Instructions.{Placed, placed, fetched}
use Rattle.amx_ops.specs.Written.{Written, IsWritten, cells_of, read_as, places}
use Rattle.amx_ops.proofs.WrittenLaws.{code_is_instructions}
use Rattle.gen_sim.specs.Site.{Site}
use Rattle.gen_sim.specs.Items.{Item, Plain, CallOf, placed_in, size, cells_with, past, AreWritten}
use Rattle.gen_sim.specs.Items.{LieIn}
use Rattle.gen_sim.proofs.ItemLaws.{cells-append, past-append}
use Rattle.gen_sim.specs.Lies.{Lies}
use Rattle.gen_sim.proofs.ItemSteps.{some_cells}

module _ (entry : ℕ → ℕ) where
  -- the instructions of items
  abbrev pub written_in : List Item → List Written
  written_in items = map (placed_in entry) items

  all_written : (items : List Item) → AreWritten items → All IsWritten (written_in items)
  all_written [] h = All-nil IsWritten
  all_written (Plain it ∷ items) h =
      All-cons IsWritten it (written_in items) h.0 (all_written items h.2)
  all_written (CallOf f ∷ items) h =
      All-cons IsWritten (placed_in entry (CallOf f)) (written_in items) (tt, refl)
      (all_written items h.2)

  cells_are : (items : List Item) → flat_map cells_of (written_in items) ≡ cells_with entry items
  cells_are [] = refl
  cells_are (it ∷ items) = ap (λ l. cells_of (placed_in entry it) ++ l) (cells_are items)

  size_is : (it : Item) → length (cells_of (placed_in entry it)) ≡ size it
  size_is (Plain it) = refl
  size_is (CallOf f) = refl

  some_size : (it : Item) → 1 ≤ size it
  some_size it = omega (arith, size_is it, some_cells (placed_in entry it))

  -- ---- the instruction at an address

  not_before : (q : ℕ) (items : List Item) → q ≤ past q items
  not_before q [] = omega arith
  not_before q (it ∷ items) = omega (arith, not_before (q + 4 * size it) items)

  found_at : (q : ℕ) (before : List Item) (it : Item) (after : List Item)
      → find (λ (z : Placed). z.at == past q before) (places q (written_in (before ++ it ∷ after)))
      ≡ Some (record { at = past q before; instr = read_as (placed_in entry it) })
  found_at q [] it after = let e : (q == q) ≡ true = eq-eqb _ _ refl in rw e refl
  found_at q (b ∷ before) it after =
      let next : ℕ = q + 4 * size b in
      let e : (q == past next before) ≡ false =
      ne_eqb _ _ (λ z. absurd (omega (arith, z, not_before next before, some_size b))) in
      let same : q + 4 * length (cells_of (placed_in entry b)) ≡ next = omega (arith, size_is b) in
      rw (e, same) (found_at next before it after)

-- a file whose code is that of some items
module _ (x : Site) (all : List Item) (whole : AreWritten all)
    (code_is : x.amx.code ≡ cells_with x.entry all) (small : 4 * length x.amx.code < 2 ^ 31) where
  placed_is : placed x.amx.code ≡ places 0 (written_in x.entry all)
  placed_is =
      ap placed (code_is ∙ sym (cells_are x.entry all))
      ∙ (code_is_instructions.read (written_in x.entry all)
      (all_written x.entry all whole)).placed

  fetched_at : (before : List Item) (it : Item) (after : List Item) → all ≡ before ++ it ∷ after
      → fetched x.amx.code (past 0 before) ≡ Some (read_as (placed_in x.entry it))
  fetched_at before it after split =
      ap (λ l. option_map (λ (z : Placed). z.instr)
      (find (λ (z : Placed). z.at == past 0 before) l))
      (placed_is ∙ ap (λ l. places 0 (written_in x.entry l)) split)
      ∙ ap (λ o. option_map (λ (z : Placed). z.instr) o) (found_at x.entry 0 before it after)

  -- an address counts four to a cell
  past_by : (q : ℕ) (items : List Item) → past q items ≡ q + 4 * length (cells_with x.entry items)
  past_by q [] = omega arith
  past_by q (it ∷ items) =
      omega (
        arith,
        past_by (q + 4 * size it) items,
        length-append (cells_of (placed_in x.entry it)) (cells_with x.entry items),
        size_is x.entry it,
      )

  cells_at : (before : List Item) (it : Item) (after : List Item) → all ≡ before ++ it ∷ after
      → take (size it) (drop (past 0 before / 4) x.amx.code) ≡ cells_of (placed_in x.entry it)
  cells_at before it after split =
      let front = cells_with x.entry before in
      let own = cells_of (placed_in x.entry it) in
      let rest = cells_with x.entry after in
      let at : past 0 before / 4 ≡ length front = omega (arith, past_by 0 before) in
      let all_is : x.amx.code ≡ front ++ (own ++ rest) =
      code_is ∙ ap (λ l. cells_with x.entry l) split
      ∙ cells-append x.entry before (it ∷ after) in
      ap (λ n. take (size it) (drop n x.amx.code)) at
      ∙ ap (λ l. take (size it) (drop (length front) l)) all_is
      ∙ ap (λ l. take (size it) l) (drop-append_seam front (own ++ rest))
      ∙ ap (λ n. take n (own ++ rest)) (sym (size_is x.entry it)) ∙ take-append_seam own rest

  ends_low : (before : List Item) (it : Item) (after : List Item) → all ≡ before ++ it ∷ after
      → past 0 before + 4 * size it < 2 ^ 31
  ends_low before it after split =
      let front = cells_with x.entry before in
      let own = cells_of (placed_in x.entry it) in
      let rest = cells_with x.entry after in
      let all_is =
      ap length (code_is ∙ ap (λ l. cells_with x.entry l) split
      ∙ cells-append x.entry before (it ∷ after)) in
      omega (
        arith,
        small,
        all_is,
        past_by 0 before,
        size_is x.entry it,
        length-append front (own ++ rest),
        length-append own rest,
      )

  regrouped : (before : List Item) (it : Item) (items after : List Item)
      → before ++ ((it ∷ items) ++ after) ≡ (before ++ it ∷ []) ++ (items ++ after)
  regrouped before it items after = sym (append_assoc before (it ∷ []) (items ++ after))

  pub lie_there : (before is after : List Item) → all ≡ before ++ (is ++ after)
      → LieIn x (past 0 before) is
  lie_there before [] after split = tt
  lie_there before (it ∷ is) after split =
      let next : past 0 (before ++ it ∷ []) ≡ past 0 before + 4 * size it =
      past-append 0 before (it ∷ []) in (
        fetched_at before it (is ++ after) split,
        cells_at before it (is ++ after) split,
        ends_low before it (is ++ after) split,
        subst (λ p. LieIn x p is) next
            (lie_there (before ++ it ∷ []) is after (split ∙ regrouped before it is after)),
      )

  -- with an instruction behind them
  pub lies_there : (before is : List Item) (it : Item) (after : List Item)
      → all ≡ before ++ (is ++ it ∷ after) → Lies x (past 0 before) is
  lies_there before is it after split = record {
    lie = lie_there before is (it ∷ after) split;
    starts =
        let f =
        fetched_at (before ++ is) it after
        (split ∙ sym (append_assoc before is (it ∷ after))) in
        let g : fetched x.amx.code (past (past 0 before) is)
        ≡ Some (read_as (placed_in x.entry it)) =
        ap (λ p. fetched x.amx.code p) (sym (past-append 0 before is)) ∙ f in
        rw g refl;
  }
