-- The instructions of a file's code, where they stand.
use Rattle.std.proofs.Common.{◌≡◌, ◌+◌, ◌*◌, inl, inr, ℕ, ℤ, List, [], ◌∷◌, ◌++◌, None}
use Rattle.std.proofs.Common.{Bool, true, false, ◌==◌, ◌&&◌, ◌||◌, is_some, refl, sym, ap}
use Rattle.std.proofs.Common.{◌∙◌, eq-eqb}
use Rattle.std.specs.Prelude.{All, find, option_map}
use Rattle.std.specs.List.{flat_map, list_any}
use Rattle.std.proofs.lemmas.List.Elements.{All-nil, All-cons}
use Rattle.amx_ops.specs.declared.op.Op.{Op}
use Rattle.amx_ops.specs.declared.op.Op.TheVariants as op
use Rattle.amx_ops.specs.Table.{number_of, row_of}
use Rattle.amx_ops.specs.Instructions.{Placed, placed, is_start}
use Rattle.amx_ops.specs.Written.{IsWritten, cells_of, read_as, places}
use Rattle.amx_ops.specs.Valid.{first_of, proper, is_cases}
use Rattle.amx_ops.proofs.Rows.{has_row}
use Rattle.amx_ops.proofs.WrittenLaws.{code_is_instructions}
use Rattle.gen_sim.specs.Items.{Item, Plain, CallOf, size, placed_in, cells_with, AreWritten}
use Rattle.gen_laws.proofs.FileLaws.{written_in}
use Rattle.gen_laws.proofs.FaultLaws.{stand}
use Rattle.gen_laws.specs.Well.{AreWell, IsTable, TableAt}
use Rattle.gen_laws.specs.Inner.{InnerAt}

or_right : (a b : Bool) → b ≡ true → (a || b) ≡ true
or_right true b e = refl
or_right false b e = e

module _ (entry : ℕ → ℕ) where
  all_written : (items : List Item) → AreWritten items → All IsWritten (written_in entry items)
  all_written [] h = All-nil IsWritten
  all_written (Plain it ∷ items) h =
      All-cons IsWritten it (written_in entry items) h.0 (all_written items h.2)
  all_written (CallOf f ∷ items) h =
      All-cons IsWritten (placed_in entry (CallOf f)) (written_in entry items) (tt, refl)
      (all_written items h.2)

  cells_are : (items : List Item)
      → flat_map cells_of (written_in entry items) ≡ cells_with entry items
  cells_are [] = refl
  cells_are (it ∷ items) = ap (λ (l : List ℤ). cells_of (placed_in entry it) ++ l) (cells_are items)

  places_are : (q : ℕ) (items : List Item) → places q (written_in entry items) ≡ stand entry q items
  places_are q [] = refl
  places_are q (Plain it ∷ items) =
      ap (λ (l : List Placed). record { at = q; instr = read_as it } ∷ l)
      (places_are (q + 4 * size (Plain it)) items)
  places_are q (CallOf f ∷ items) =
      ap (λ (l : List Placed). record { at = q; instr = read_as (placed_in entry (CallOf f)) } ∷ l)
      (places_are (q + 4 * size (CallOf f)) items)

  pub placed_are : (items : List Item) → AreWritten items
      → placed (cells_with entry items) ≡ stand entry 0 items
  placed_are items h =
      ap placed (sym (cells_are items))
      ∙ (code_is_instructions.read (written_in entry items) (all_written items h)).placed
      ∙ places_are 0 items

  -- ---- operands

  pub proper_all : (natives : ℕ) (T U : ℕ → Type 0) (begin : ℕ) (items : List Item)
      → AreWell natives T U items → first_of (proper natives) (stand entry begin items) ≡ None
  proper_all natives T U begin [] h = refl
  proper_all natives T U begin (Plain it ∷ items) h =
      rw ((has_row it.op).row, h.0.2 begin)
      (proper_all natives T U (begin + 4 * size (Plain it)) items h.1)
  proper_all natives T U begin (CallOf f ∷ items) h =
      rw (has_row (placed_in entry (CallOf f)).op).row
      (proper_all natives T U (begin + 4 * size (CallOf f)) items h.1)

  -- ---- starts and tables

  start_by : (begin at : ℕ) (it : Item) (items : List Item) → InnerAt begin (it ∷ items) at
      → (InnerAt (begin + 4 * size it) items at
      → is_some (option_map (λ (z : Placed). z.instr)
      (find (λ (z : Placed). z.at == at) (stand entry (begin + 4 * size it) items))) ≡ true)
      → (b : Bool) → (begin == at) ≡ b
      → is_some (option_map (λ (z : Placed). z.instr)
      (find (λ (z : Placed). z.at == at) (stand entry begin (it ∷ items)))) ≡ true
  start_by begin at it items h next true e = rw e refl
  start_by begin at it items (inl h) next false e =
      let same : (begin == at) ≡ true = eq-eqb _ _ (sym h) in absurd (clash (sym same ∙ e))
    where
      clash : true ≡ false → ⊥
      clash z = cc
  start_by begin at it items (inr h) next false e = rw e (next h)

  found : (begin at : ℕ) (items : List Item) → InnerAt begin items at
      → is_some (option_map (λ (z : Placed). z.instr)
      (find (λ (z : Placed). z.at == at) (stand entry begin items))) ≡ true
  found begin at [] h = elim h [ ]
  found begin at (it ∷ items) h =
      start_by begin at it items h (λ k. found (begin + 4 * size it) at items k) (begin == at) refl

  pub start_in : (items : List Item) → AreWritten items → (at : ℕ) → InnerAt 0 items at
      → is_start (cells_with entry items) at ≡ true
  start_in items whole at h =
      ap (λ (ps : List Placed). is_some
      (option_map (λ (z : Placed). z.instr) (find (λ (z : Placed). z.at == at) ps)))
      (placed_are items whole) ∙ found 0 at items h

  table_row : (it : Item) → IsTable it → is_cases (row_of (read_as (placed_in entry it)).op) ≡ true
  table_row (Plain it) h =
      ap (λ (o : Op). is_cases (row_of (number_of o))) h ∙ rw (has_row op.Casetbl).row refl
  table_row (CallOf f) h = elim h [ ]

  pub table_in : (begin at : ℕ) (items : List Item) → TableAt begin items at
      → list_any (λ (z : Placed). (z.at == at) && is_cases (row_of z.instr.op))
      (stand entry begin items) ≡ true
  table_in begin at [] h = elim h [ ]
  table_in begin at (it ∷ items) (inl h) =
      let same : (begin == at) ≡ true = eq-eqb _ _ (sym h.0) in
      let row = table_row it h.1 in
      rw (same, row) refl
  table_in begin at (it ∷ items) (inr h) = or_right _ _ (table_in (begin + 4 * size it) at items h)
