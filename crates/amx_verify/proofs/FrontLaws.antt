-- The first fault of code, instruction by instruction from the front.
use Rattle.std.proofs.Common.{◌≡◌, ◌+◌, ◌-◌, ◌*◌, ◌≤◌, ℕ, ℤ, List, [], ◌∷◌, Option, None}
use Rattle.std.proofs.Common.{Some, Ok, Err, length, drop, refl, sym, ap, ◌∙◌, arith, subst}
use Rattle.std.proofs.lemmas.List.{drop-drop}
use Rattle.std.proofs.lemmas.List.Sums.{sum_by-cons}
use Rattle.std.proofs.lemmas.Option.{none-some}
use Rattle.std.proofs.Math.ListN.{drop_of_length-le}
use Rattle.amx_ops.specs.declared.instr.Instr.{Instr}
use Rattle.amx_ops.specs.Instructions.{Placed, placed_from, placed_by, cells_in, front}
use Rattle.amx_ops.specs.Valid.{Fault, or_else, first_of, proper, broken}
use Rattle.amx_ops.proofs.FrontLaws.{placed_one, placed_front}
use Rattle.amx_verify.specs.declared.fault.VerifyFault.{VerifyFault}
use Rattle.amx_verify.specs.declared.fault.VerifyFault.TheVariants as answer
use Rattle.amx_verify.specs.Verdict.{Tells}
use Rattle.amx_verify.specs.Fronts.{whole_fault, at_front, FrontIs}

pub none_placed : (at : ℕ) (cells : List ℤ) → front cells ≡ None → placed_from at 0 cells ≡ []
none_placed at [] e = refl
none_placed at (cell ∷ cells) e =
    ap (λ o. placed_by at o (λ i. placed_from (at + 4) (i.cells - 1) cells)) e

-- ---- whole instructions

abbrev whole_by : ℕ → ℕ → List ℤ → List Placed → Option Fault
whole_by natives at cells its =
    or_else (first_of (proper natives) its)
    (broken (drop (cells_in its) cells) (at + 4 * cells_in its))

whole_more : (natives at : ℕ) (i : Instr) (cells : List ℤ) → front cells ≡ Some i → 1 ≤ i.cells
    → i.cells ≤ length cells
    → proper natives (placed_one at i) ≡ None
    → whole_fault natives at cells ≡ whole_fault natives (at + 4 * i.cells) (drop i.cells cells)
whole_more natives at i cells e more within good =
    let its = placed_from (at + 4 * i.cells) 0 (drop i.cells cells) in
    let n = cells_in its in
    let all : cells_in (placed_one at i ∷ its) ≡ i.cells + n =
    sum_by-cons (λ (it : Placed). it.instr.cells) (placed_one at i) its in
    let back : drop (i.cells + n) cells ≡ drop n (drop i.cells cells) =
    ap (λ k. drop k cells) (omega arith) ∙ sym (drop-drop n i.cells cells) in
    let address : at + 4 * (i.cells + n) ≡ at + 4 * i.cells + 4 * n = omega arith in
    let others = first_of (proper natives) its in
    ap (whole_by natives at cells) (placed_front at i cells e more within)
    ∙ ap (λ k. or_else (or_else (proper natives (placed_one at i)) others)
    (broken (drop k cells) (at + 4 * k))) all
    ∙ ap (λ o. or_else (or_else o others)
    (broken (drop (i.cells + n) cells) (at + 4 * (i.cells + n)))) good
    ∙ ap (λ b. or_else others (broken b (at + 4 * (i.cells + n)))) back
    ∙ ap (λ a. or_else others (broken (drop n (drop i.cells cells)) a)) address

-- a fault before others is the first
pub tells_first : (fault : VerifyFault) (o rest : Option Fault) → Tells fault o
    → Tells fault (or_else o rest)
tells_first (answer.Opcode at) o rest e = ap (λ o. or_else o rest) e
tells_first (answer.Cut at) o rest e = ap (λ o. or_else o rest) e
tells_first (answer.Target at) o rest e = ap (λ o. or_else o rest) e
tells_first (answer.CaseTable at) o rest e = ap (λ o. or_else o rest) e
tells_first (answer.Native at) o rest e = ap (λ o. or_else o rest) e
tells_first (answer.Register at) o rest e = ap (λ o. or_else o rest) e
tells_first (answer.ByteCount at) o rest e = ap (λ o. or_else o rest) e
tells_first (answer.Entry number) o rest e = ap (λ o. or_else o rest) e
tells_first answer.Memory o rest e = tt

-- and one behind others that aren't there
pub tells_next : (fault : VerifyFault) (o rest : Option Fault) → o ≡ None → Tells fault rest
    → Tells fault (or_else o rest)
tells_next fault o rest e t = subst (λ o. Tells fault (or_else o rest)) (sym e) t

pub none_next : (o rest : Option Fault) → o ≡ None → rest ≡ None → or_else o rest ≡ None
none_next o rest e n = ap (λ o. or_else o rest) e ∙ n

some_placed : (at : ℕ) (i : Instr) (cells : List ℤ) → front cells ≡ Some i
    → (others : List Placed) × (placed_from at 0 cells ≡ placed_one at i ∷ others)
some_placed at i [] e = absurd (none-some i e)
some_placed at i (cell ∷ cells) e = (
  placed_from (at + 4) (i.cells - 1) cells,
  ap (λ o. placed_by at o (λ i. placed_from (at + 4) (i.cells - 1) cells)) e,
)

whole_tells : (natives at : ℕ) (fault : VerifyFault) (cells : List ℤ) (o : Option Instr)
    → front cells ≡ o
    → Tells fault (at_front natives at cells o) → Tells fault (whole_fault natives at cells)
whole_tells natives at fault cells None e t =
    subst (λ its. Tells fault (whole_by natives at cells its)) (sym (none_placed at cells e))
    (subst (λ a. Tells fault (broken cells a)) (omega arith) t)
whole_tells natives at fault cells (Some i) e t =
    let p = some_placed at i cells e in
    subst (λ its. Tells fault (whole_by natives at cells its)) (sym p.1)
    (tells_first fault (or_else (proper natives (placed_one at i)) (first_of (proper natives) p.0))
    _
    (tells_first fault (proper natives (placed_one at i)) (first_of (proper natives) p.0) t))

-- ---- as the loop meets them

module _ (natives place : ℕ) (code rest : List ℤ) (is : rest ≡ drop place code)
    (so_far : whole_fault natives (4 * place) (drop place code) ≡ whole_fault natives 0 code) where
  pub one_more : (next size : ℕ) → next ≡ place + size → FrontIs natives (4 * place) rest (Ok size)
      → (1 ≤ size) × (size ≤ length rest)
      → whole_fault natives (4 * next) (drop next code) ≡ whole_fault natives 0 code
  one_more next size n f s =
      let i = f.0 in
      let more : 1 ≤ i.cells = omega (arith, s, f.2) in
      let within : i.cells ≤ length rest = omega (arith, s, f.2) in
      let back : drop next code ≡ drop i.cells rest =
      ap (λ k. drop k code) n ∙ sym (drop-drop size place code) ∙ ap (drop size) (sym is)
      ∙ ap (λ k. drop k rest) f.2 in
      let place_is : 4 * next ≡ 4 * place + 4 * i.cells = omega (arith, n, f.2) in
      ap (λ a. whole_fault natives a (drop next code)) place_is
      ∙ ap (whole_fault natives (4 * place + 4 * i.cells)) back
      ∙ sym (whole_more natives (4 * place) i rest f.1 more within f.3)
      ∙ ap (whole_fault natives (4 * place)) is ∙ so_far

  pub fault_here : (fault : VerifyFault) → FrontIs natives (4 * place) rest (Err fault)
      → Tells fault (whole_fault natives 0 code)
  fault_here fault f =
      subst (Tells fault) (ap (whole_fault natives (4 * place)) is ∙ so_far)
      (whole_tells natives (4 * place) fault rest (front rest) refl f)

pub none_left : (natives place : ℕ) (code : List ℤ) → length code ≤ place
    → whole_fault natives (4 * place) (drop place code) ≡ whole_fault natives 0 code
    → whole_fault natives 0 code ≡ None
none_left natives place code past so_far =
    sym so_far ∙ ap (whole_fault natives (4 * place)) (drop_of_length-le code past)
