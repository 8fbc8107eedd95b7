-- Packed characters: the first one of a cell is its most significant byte, and memory has the least
-- one first.
use Rattle.std.proofs.Common.{◌≡◌, ◌+◌, ◌*◌, ◌-◌, ◌/◌, ◌%◌, ◌^◌, ◌<◌, ℕ, zero, suc, ℤ, pos, List}
use Rattle.std.proofs.Common.{[], ◌∷◌, Option, None, Some, true, ◌==◌, get_or, slice_set, refl, ap}
use Rattle.std.proofs.Common.{subst, ◌∙◌, arith, eq-eqb}
use Rattle.std.proofs.lemmas.Nat.{xor_block}
use Rattle.std.specs.Int.Bits.{bit_xor, xor_zero_r}
use Rattle.pawn_cells.specs.Cells.{IsCell, bits_of, cell_of, xor, char_at, with_char}
use Rattle.host_script.specs.declared.event.End.TheVariants as end
use Rattle.pawn_meaning.specs.Memory.{Memory, Name, Character, read, write, write_cells}
use Rattle.pawn_meaning.specs.Memory.{write_character, as_character, read_cell}
use Rattle.pawn_meaning.specs.World.{World}
use Rattle.pawn_meaning.specs.Run.{Run, Done, done, then_do, or_stop, changed}
use Rattle.amx_ops.specs.declared.op.Op.TheVariants as op
use Rattle.amx_ops.specs.Instructions.{fetched}
use Rattle.amx_ops.specs.Written.{read_as}
use Rattle.amx_ops.specs.State.{State}
use Rattle.amx_ops.specs.Access.{part}
use Rattle.amx_ops.specs.Moves.{Config}
use Rattle.pawn_cells.proofs.CellLaws.{cell_of_cell}
use Rattle.gen_sim.specs.Pieces.{Thing, extent}
use Rattle.gen_sim.specs.View.{View, CellAt}
use Rattle.gen_sim.specs.Stands.{Stands, With}
use Rattle.gen_sim.proofs.MemLaws.{Reads, below_top}
use Rattle.gen_sim.proofs.WorldLaws.{stands_on, cell_reads, cell_written}
use Rattle.gen_sim.specs.Site.{Site, DoesAt}
use Rattle.gen_sim.specs.Items.{with}
use Rattle.gen_sim.proofs.CallLaws.{small_fits, small_cell}
use Rattle.gen_sim.proofs.StepLaws.{goes, stray}

-- ---- the place of a character

low_bits : (r : ℕ) → r < 4 → bit_xor r 3 ≡ 3 - r
low_bits zero h = refl
low_bits (suc zero) h = refl
low_bits (suc (suc zero)) h = refl
low_bits (suc (suc (suc zero))) h = refl
low_bits (suc (suc (suc (suc r)))) h = absurd (omega (arith, h))

turned : (i : ℕ) → bit_xor i 3 ≡ 4 * (i / 4) + (3 - i % 4)
turned i =
    let e : i ≡ i / 4 * 2 ^ 2 + i % 4 = omega arith in
    let b : bit_xor (i / 4 * 2 ^ 2 + i % 4) (0 * 2 ^ 2 + 3)
    ≡ bit_xor (i / 4) 0 * 2 ^ 2 + bit_xor (i % 4) 3 =
    xor_block 2 (i / 4) 0 (i % 4) 3 (omega arith) (omega arith) in
    ap (λ n. bit_xor n 3) e ∙ b ∙ rw (xor_zero_r (i / 4), low_bits (i % 4) (omega arith))
    (omega arith)

-- ALIGN 1 of an index is the byte of its character
pub aligned : (i : ℕ) → i < 2 ^ 31 → xor (pos i) (pos 3) ≡ pos (4 * (i / 4) + (3 - i % 4))
aligned i h = ap cell_of (turned i) ∙ small_cell (4 * (i / 4) + (3 - i % 4)) (omega (arith, h))

-- ---- read

byte_is : (y : ℤ) (k : ℕ) → part y (3 - k) 1 ≡ char_at y k
byte_is y k = refl

module _ (x : Site) {A : Type 0} {d : ℕ} {Q : A → World → Config → Type 0} {v : View}
    {pending : List ℤ} {p : ℕ} {w : World} {c : Config}
    (a : Stands x.program x.room v pending p w c) {name : Name} {i cell : ℕ}
    (at : CellAt x.program x.room v name i cell) (k : ℕ) (below : k < 4) where
  -- LODB.I 1: a character is read at its byte's address in PRI, and ALT stays
  pub load_character_does : c.state.pri ≡ pos (4 * cell + (3 - k))
      → fetched x.amx.code p ≡ Some (read_as (with op.LodbI (pos 1))) → (go : ℤ → Run A)
      → ((y : ℤ) (t : Config) → With x.program x.room v pending (p + 8) y w t
      → t.state.alt ≡ c.state.alt → DoesAt x d w t (go y w) Q)
      → DoesAt x (1 + d) w c (then_do (or_stop (read (Character name i k) w.memory) end.Stray w) go)
      Q
  load_character_does e f go next = by_value (read_cell name i w.memory) refl
    where
      by_value : (o : Option ℤ) → read_cell name i w.memory ≡ o
          → DoesAt x (1 + d) w c (then_do (or_stop (as_character k o) end.Stray w) go) Q
      by_value None o = stray x a
      by_value (Some y) o =
          let r = cell_reads x.program x.room a at y o in
          let b : ℕ = 4 * cell + (3 - k) in
          let q0 : (b % 1 == 0) ≡ true = eq-eqb _ _ (omega arith) in
          let q1 : b / 4 ≡ cell = omega (arith, below) in
          let q2 : b % 4 ≡ 3 - k = omega (arith, below) in
          let q3 : 4 * cell / 4 ≡ cell = omega arith in
          let is : get_or c.state.cells cell (pos 0) ≡ y =
          subst (λ j. get_or c.state.cells j (pos 0) ≡ y) q3 r.value in
          let small : char_at y k < 256 = omega arith in
          let z : cell_of (char_at y k) ≡ pos (char_at y k) =
          small_cell (char_at y k) (omega (arith, small)) in
          let t : State = record c.state { pri = pos (char_at y k); cip = p + 8 } in
          goes x a (with op.LodbI (pos 1)) f t (rw (e, q0, q1, r.live, q2, is, z) refl)
          (next (pos (char_at y k)) (record c { state = t }) (record {
            stands = stands_on x.program x.room a (p + 8) t refl refl refl refl refl;
            value = refl;
            fits = small_fits (char_at y k) (omega (arith, small));
          }) refl)

  -- STRB.I 1: the low byte of PRI becomes the character whose byte's address is in ALT
  pub store_character_does : (y : ℤ) → c.state.pri ≡ y → IsCell y
      → c.state.alt ≡ pos (4 * cell + (3 - k))
      → fetched x.amx.code p ≡ Some (read_as (with op.StrbI (pos 1))) → (go : Done → Run A)
      → ((n : Memory) (t : Config) → With x.program x.room v pending (p + 8) y
      (record w { memory = n }) t
      → DoesAt x d w t (go done (record w { memory = n })) Q)
      → DoesAt x (1 + d) w c (then_do (changed (write (Character name i k) y w.memory) w) go) Q
  store_character_does y value fit e f go next = by_value (read_cell name i w.memory) refl
    where
      by_memory : (old : ℤ) → Reads c.state cell old → (o : Option Memory)
          → write_cells name i (with_char old k (bits_of y % 256) ∷ []) w.memory ≡ o
          → DoesAt x (1 + d) w c (then_do (changed o w) go) Q
      by_memory old r None o = stray x a
      by_memory old r (Some n) o =
          let b : ℕ = 4 * cell + (3 - k) in
          let q0 : (b % 1 == 0) ≡ true = eq-eqb _ _ (omega arith) in
          let q1 : b / 4 ≡ cell = omega (arith, below) in
          let q2 : b % 4 ≡ 3 - k = omega (arith, below) in
          let q3 : 4 * cell / 4 ≡ cell = omega arith in
          let is : get_or c.state.cells cell (pos 0) ≡ old =
          subst (λ j. get_or c.state.cells j (pos 0) ≡ old) q3 r.value in
          let new : ℤ = with_char old k (bits_of y % 256) in
          let inside : cell < at.first + extent (Thing name at.sizes) =
          omega (arith, at.cell_is, at.inside) in
          let t : State =
          record c.state { cells = slice_set c.state.cells cell new; cip = p + 8 } in
          goes x a (with op.StrbI (pos 1)) f t (rw (e, q0, q1, r.live, q2, is, value) refl)
          (next n (record c { state = t }) (record {
            stands =
                cell_written x.program x.room a at new (cell_of_cell _) n o
                (below_top a.mem at.placed cell inside) (p + 8) t refl refl refl refl refl;
            value = value;
            fits = fit;
          }))

      by_value : (o : Option ℤ) → read_cell name i w.memory ≡ o
          → DoesAt x (1 + d) w c (then_do (changed (write_character name i k y o w.memory) w) go) Q
      by_value None o = stray x a
      by_value (Some old) o =
          by_memory old (cell_reads x.program x.room a at old o)
          (write_cells name i (with_char old k (bits_of y % 256) ∷ []) w.memory) refl
