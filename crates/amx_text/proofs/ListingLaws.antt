-- The lines of code and of data, from the front.
use Rattle.std.proofs.Common.{◌≡◌, ◌+◌, ◌-◌, ◌*◌, ◌/◌, ◌<◌, ◌≤◌, min, ℕ, zero, suc, ℤ, List, []}
use Rattle.std.proofs.Common.{◌∷◌, ◌++◌, None, Some, length, take, drop, refl, sym, ap, ◌∙◌, arith}
use Rattle.std.proofs.Common.{length-drop}
use Rattle.std.specs.List.{flat_map}
use Rattle.std.proofs.lemmas.List.{drop-drop}
use Rattle.std.proofs.Math.ListN.{drop_of_length-le}
use Rattle.amx_ops.specs.declared.instr.Instr.{Instr}
use Rattle.amx_ops.specs.Instructions.{placed_from, placed_by, front}
use Rattle.amx_ops.proofs.FrontLaws.{placed_front}
use Rattle.amx_text.specs.Lines.{instruction_line, data_line}
use Rattle.amx_text.specs.Listing.{line_of, data_from}
use Rattle.amx_text.specs.declared.listing.TheConstants.{WIDTH}

-- ---- code

-- the lines of the cells from a place on
abbrev pub code_from : List ℤ → ℕ → List ℤ → List ℕ
code_from code at cells = flat_map (line_of code) (placed_from at 0 cells)

module _ (code rest : List ℤ) (place : ℕ) (is : rest ≡ drop place code) (i : Instr)
    (e : front rest ≡ Some i) (more : 1 ≤ i.cells)
    (within : i.cells ≤ length rest) where
  operands : take (i.cells - 1) (drop (4 * place / 4 + 1) code) ≡ take (i.cells - 1) (drop 1 rest)
  operands =
      let at : 4 * place / 4 + 1 ≡ place + 1 = omega arith in
      ap (λ n. take (i.cells - 1) (drop n code)) at
      ∙ sym (ap (take (i.cells - 1)) (drop-drop 1 place code))
      ∙ ap (λ cells. take (i.cells - 1) (drop 1 cells)) (sym is)

  next : placed_from (4 * place + 4 * i.cells) 0 (drop i.cells rest)
      ≡ placed_from (4 * (place + i.cells)) 0 (drop (place + i.cells) code)
  next =
      let at : 4 * place + 4 * i.cells ≡ 4 * (place + i.cells) = omega arith in
      ap (λ a. placed_from a 0 (drop i.cells rest)) at
      ∙ ap (placed_from (4 * (place + i.cells)) 0)
      (ap (drop i.cells) is ∙ drop-drop i.cells place code)

  -- the line of the instruction at a place, and those behind it
  pub line_first : code_from code (4 * place) (drop place code)
      ≡ instruction_line (4 * place) i.op (take (i.cells - 1) (drop 1 rest))
      ++ code_from code (4 * (place + i.cells)) (drop (place + i.cells) code)
  line_first =
      ap (code_from code (4 * place)) (sym is)
      ∙ ap (flat_map (line_of code)) (placed_front (4 * place) i rest e more within)
      ∙ ap (λ cells. instruction_line (4 * place) i.op cells
      ++ flat_map (line_of code) (placed_from (4 * place + 4 * i.cells) 0 (drop i.cells rest)))
      operands
      ∙ ap (λ its. instruction_line (4 * place) i.op (take (i.cells - 1) (drop 1 rest))
      ++ flat_map (line_of code) its) next

pub no_code : (code : List ℤ) (place : ℕ) → length code ≤ place
    → code_from code (4 * place) (drop place code) ≡ []
no_code code place h = ap (code_from code (4 * place)) (drop_of_length-le code h)

pub no_line : (code : List ℤ) (at : ℕ) (rest : List ℤ) → front rest ≡ None
    → code_from code at rest ≡ []
no_line code at [] e = refl
no_line code at (cell ∷ cells) e =
    ap (λ o. flat_map (line_of code)
    (placed_by at o (λ i. placed_from (at + 4) (i.cells - 1) cells))) e

-- ---- data

data_over : (at k : ℕ) (cells : List ℤ)
    → data_from at k cells ≡ data_from (at + 4 * k) 0 (drop k cells)
data_over at zero cells = ap (λ a. data_from a 0 cells) (omega arith)
data_over at (suc k) [] = refl
data_over at (suc k) (cell ∷ cells) =
    data_over (at + 4) k cells ∙ ap (λ a. data_from a 0 (drop k cells)) (omega arith)

-- as many as there are of so many
take_least : (k n : ℕ) (cells : List ℤ) → n ≡ min k (length cells) → take n cells ≡ take k cells
take_least zero n cells e = let none : n ≡ 0 = omega (arith, e) in ap (λ m. take m cells) none
take_least (suc k) zero [] e = refl
take_least (suc k) zero (cell ∷ cells) e = absurd (omega (arith, e))
take_least (suc k) (suc n) [] e = absurd (omega (arith, e))
take_least (suc k) (suc n) (cell ∷ cells) e =
    ap (λ others. cell ∷ others) (take_least k n cells (omega (arith, e)))

first_row : (at : ℕ) (cells : List ℤ) → 0 < length cells
    → data_from at 0 cells ≡ data_line at (take WIDTH cells)
    ++ data_from (at + 4 * WIDTH) 0 (drop WIDTH cells)
first_row at [] h = absurd (omega (arith, h))
first_row at (cell ∷ cells) h =
    let next : at + 4 + 4 * (WIDTH - 1) ≡ at + 4 * WIDTH = omega arith in
    ap (λ text. data_line at (take WIDTH (cell ∷ cells)) ++ text)
    (data_over (at + 4) (WIDTH - 1) cells ∙ ap (λ a. data_from a 0 (drop (WIDTH - 1) cells)) next)

-- the line of the cells at a place, and those behind it
pub data_first : (place n : ℕ) (cells : List ℤ) → place < length cells
    → n ≡ min WIDTH (length cells - place)
    → data_from (4 * place) 0 (drop place cells)
    ≡ data_line (4 * place) (take n (drop place cells))
    ++ data_from (4 * (place + WIDTH)) 0 (drop (place + WIDTH) cells)
data_first place n cells h e =
    let size = length-drop place cells in
    let at : 4 * place + 4 * WIDTH ≡ 4 * (place + WIDTH) = omega arith in
    first_row (4 * place) (drop place cells) (omega (arith, h, size))
    ∙ ap (λ row. data_line (4 * place) row
    ++ data_from (4 * place + 4 * WIDTH) 0 (drop WIDTH (drop place cells)))
    (sym (take_least WIDTH n (drop place cells) (omega (arith, e, size))))
    ∙ ap (λ a. data_line (4 * place) (take n (drop place cells))
    ++ data_from a 0 (drop WIDTH (drop place cells))) at
    ∙ ap (λ others. data_line (4 * place) (take n (drop place cells))
    ++ data_from (4 * (place + WIDTH)) 0 others)
    (drop-drop WIDTH place cells)

pub no_row : (place : ℕ) (cells : List ℤ) → length cells ≤ place
    → data_from (4 * place) 0 (drop place cells) ≡ []
no_row place cells h = ap (data_from (4 * place) 0) (drop_of_length-le cells h)
