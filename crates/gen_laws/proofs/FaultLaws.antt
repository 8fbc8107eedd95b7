-- Items that lead to each other or to their end have no fault, wherever the functions are.
use Rattle.std.proofs.Common.{◌≡◌, ◌+◌, ◌*◌, ◌/◌, inl, inr, ℕ, ℤ, pos, List, [], ◌∷◌, ◌++◌}
use Rattle.std.proofs.Common.{None, Some, Bool, true, false, ◌==◌, ◌||◌, length, drop, refl, sym}
use Rattle.std.proofs.Common.{ap, subst, ◌∙◌, arith, length-append, eq-eqb}
use Rattle.std.specs.List.{list_any}
use Rattle.std.proofs.lemmas.List.Sums.{sum_by-cons}
use Rattle.amx_ops.specs.declared.table.Operand.{Operand}
use Rattle.amx_ops.specs.declared.table.Operand.TheVariants as operand
use Rattle.amx_ops.specs.Table.{number_of, operand_of, operand_at}
use Rattle.amx_ops.specs.Instructions.{Placed, placed_from, cells_by, cells_in}
use Rattle.amx_ops.specs.Written.{IsWrittenBy, cells_of, read_as}
use Rattle.amx_ops.specs.Valid.{first_of, proper, link_fault, linked, piece_fault}
use Rattle.amx_ops.proofs.Rows.{has_row, row_is}
use Rattle.amx_ops.proofs.WrittenLaws.{Stands_first, placed_plain}
use Rattle.gen_sim.proofs.Lists.{all_dropped}
use Rattle.gen_sim.specs.Items.{Item, Plain, CallOf, size, placed_in, cells_with, waits_from, past}
use Rattle.gen_sim.specs.Contract.{is_inside, is_entry, HaveNoFault}
use Rattle.gen_laws.specs.Fine.{LeadsBy, AreFine, StartsAt, AreClosed}

-- ---- the instructions of items

-- no case table
placed_by_form : (T : ℕ → Type 0) (p n : ℕ) (v : ℤ) (kind : Operand) (table rest : List ℤ)
    → operand_at (pos n) ≡ Some (n, kind) → IsWrittenBy kind v table → LeadsBy T kind v
    → Stands_first p n v (cells_by n v kind ++ table) rest
placed_by_form T p n v operand.Cases table rest e h l = elim l [ ]
placed_by_form T p n v kind table rest e h l =
    placed_plain p n v kind table rest (λ same. let no : ⊥ = cc in no) e h.0 h.1

module _ (entry : ℕ → ℕ) where
  -- where they stand
  abbrev pub stand : ℕ → List Item → List Placed
  stand begin [] = []
  stand begin (it ∷ items) =
      record { at = begin; instr = read_as (placed_in entry it) }
      ∷ stand (begin + 4 * size it) items

  pub placed_are : (natives : ℕ) (T : ℕ → Type 0) (begin : ℕ) (items : List Item)
      → AreFine natives T items
      → placed_from begin 0 (cells_with entry items) ≡ stand begin items
  placed_are natives T begin [] h = refl
  placed_are natives T begin (Plain it ∷ items) h =
      placed_by_form T begin (number_of it.op) it.operand (operand_of it.op) it.table
      (cells_with entry items) (row_is it.op) h.0.0 h.0.3
      ∙ ap (λ others. record { at = begin; instr = read_as it } ∷ others)
      (placed_are natives T (begin + 4 * length (cells_of it)) items h.1)
  placed_are natives T begin (CallOf f ∷ items) h =
      placed_plain begin (number_of (placed_in entry (CallOf f)).op)
      (pos (entry f)) operand.Target [] (cells_with entry items)
      (λ same. let no : ⊥ = cc in no) (row_is (placed_in entry (CallOf f)).op) tt refl
      ∙ ap (λ others. record { at = begin; instr = read_as (placed_in entry (CallOf f)) } ∷ others)
      (placed_are natives T (begin + 4 * size (CallOf f)) items h.1)

  size_same : (it : Item) → length (cells_of (placed_in entry it)) ≡ size it
  size_same (Plain it) = refl
  size_same (CallOf f) = refl

  pub all_cells : (begin : ℕ) (items : List Item)
      → cells_in (stand begin items) ≡ length (cells_with entry items)
  all_cells begin [] = refl
  all_cells begin (it ∷ items) =
      sum_by-cons (λ (it : Placed). it.instr.cells)
      (record { at = begin; instr = read_as (placed_in entry it) })
      (stand (begin + 4 * size it) items)
      ∙ ap (λ n. length (cells_of (placed_in entry it)) + n) (all_cells (begin + 4 * size it) items)
      ∙ sym (length-append (cells_of (placed_in entry it)) (cells_with entry items))

  -- ---- operands

  proper_all : (natives : ℕ) (T : ℕ → Type 0) (begin : ℕ) (items : List Item)
      → AreFine natives T items → first_of (proper natives) (stand begin items) ≡ None
  proper_all natives T begin [] h = refl
  proper_all natives T begin (Plain it ∷ items) h =
      rw ((has_row it.op).row, h.0.2 begin)
      (proper_all natives T (begin + 4 * length (cells_of it)) items h.1)
  proper_all natives T begin (CallOf f ∷ items) h =
      rw (has_row (placed_in entry (CallOf f)).op).row
      (proper_all natives T (begin + 4 * size (CallOf f)) items h.1)

  -- ---- where they lead

  -- the function of each call is somewhere
  abbrev pub CallsIn : (ℕ → Bool) → List Item → Type 0
  CallsIn S [] = Unit {0}
  CallsIn S (Plain it ∷ items) = CallsIn S items
  CallsIn S (CallOf f ∷ items) = (S (entry f) ≡ true) × CallsIn S items

  module _ (T : ℕ → Type 0) (S : ℕ → Bool) (holds : (at : ℕ) → T at → S at ≡ true) (start : ℕ)
      (cells : List ℤ) where
    link_none : (kind : Operand) (it : Placed) → LeadsBy T kind it.instr.operand
        → link_fault S start cells kind it ≡ None
    link_none operand.Target it h = rw (h.1, holds h.0 h.2) refl
    link_none operand.Relative it h = elim h [ ]
    link_none operand.CaseTable it h = elim h [ ]
    link_none operand.Cases it h = elim h [ ]
    link_none operand.Nothing it h = refl
    link_none operand.AnyCell it h = refl
    link_none operand.ByteCount it h = refl
    link_none operand.Register it h = refl
    link_none operand.SetRegister it h = refl
    link_none operand.Multiple it h = refl
    link_none operand.Length it h = refl
    link_none operand.CellsLength it h = refl
    link_none operand.NativeNumber it h = refl

    linked_all : (natives begin : ℕ) (items : List Item) → AreFine natives T items → CallsIn S items
        → first_of (linked S start cells) (stand begin items) ≡ None
    linked_all natives begin [] h k = refl
    linked_all natives begin (Plain it ∷ items) h k =
        rw (
          (has_row it.op).row,
          link_none (operand_of it.op)
              (record { at = begin; instr = read_as it }) h.0.3,
        )
        (linked_all natives (begin + 4 * length (cells_of it)) items h.1 k)
    linked_all natives begin (CallOf f ∷ items) h k =
        rw ((has_row (placed_in entry (CallOf f)).op).row, k.0)
        (linked_all natives (begin + 4 * size (CallOf f)) items h.1 k.1)

  -- a start is one of the instructions, or the end
  or_right : (a b : Bool) → b ≡ true → (a || b) ≡ true
  or_right true b e = refl
  or_right false b e = e

  or_left : (a b : Bool) → a ≡ true → (a || b) ≡ true
  or_left a b e = rw e refl

  start_in : (begin end : ℕ) (items : List Item) (at : ℕ) → end ≡ past begin items
      → StartsAt begin items at
      → ((at == end) || list_any (λ (it : Placed). it.at == at) (stand begin items)) ≡ true
  start_in begin end [] at e h =
      let same : (at == end) ≡ true = eq-eqb _ _ (h ∙ sym e) in rw same refl
  start_in begin end (it ∷ items) at e (inl h) =
      let same : (begin == at) ≡ true = eq-eqb _ _ (sym h) in
      or_right (at == end) _ (or_left (begin == at) _ same)
  start_in begin end (it ∷ items) at e (inr h) =
      swap (at == end) (begin == at) _ (start_in (begin + 4 * size it) end items at e h)
    where
      swap : (a b c : Bool) → (a || c) ≡ true → (a || (b || c)) ≡ true
      swap true b c k = refl
      swap false b c k = or_right b c k

  calls_in : (S : ℕ → Bool) (at : ℕ) (items : List Item)
      → ((n : ℕ) → is_entry entry (waits_from at items) n ≡ true → S n ≡ true) → CallsIn S items
  calls_in S at [] f = tt
  calls_in S at (Plain it ∷ items) f = calls_in S (at + size (Plain it)) items f
  calls_in S at (CallOf g ∷ items) f =
      let here : (entry g == entry g) ≡ true = eq-eqb _ _ refl in (
        f (entry g) (or_left (entry g == entry g) _ here),
        calls_in S (at + size (CallOf g)) items (λ n e. f n (or_right (entry g == n) _ e)),
      )

  -- the end is so many cells on, wherever the functions are
  end_is : (begin : ℕ) (items : List Item)
      → begin + 4 * length (cells_with entry items) ≡ past begin items
  end_is begin [] = omega arith
  end_is begin (it ∷ items) =
      omega (
        arith,
        end_is (begin + 4 * size it) items,
        length-append (cells_of (placed_in entry it)) (cells_with entry items),
        size_same it,
      )

none_by : (natives : ℕ) (S : ℕ → Bool) (begin : ℕ) (cells : List ℤ) (its : List Placed)
    → placed_from begin 0 cells ≡ its → first_of (proper natives) its ≡ None
    → drop (cells_in its) cells ≡ [] → first_of (linked S begin cells) its ≡ None
    → piece_fault natives S begin cells ≡ None
none_by natives S begin cells its placed p r l = rw (placed, p, r) l

pub have_no_fault : (natives begin : ℕ) (items : List Item) → AreClosed natives begin items
    → HaveNoFault natives begin items
have_no_fault natives begin items h entry =
    let cells = cells_with entry items in
    let its = stand entry begin items in
    let placed : placed_from begin 0 cells ≡ its =
    placed_are entry natives (StartsAt begin items) begin items h in
    let S : ℕ → Bool =
    λ at. is_inside begin cells at || is_entry entry (waits_from (begin / 4) items) at in
    let holds : (at : ℕ) → StartsAt begin items at → S at ≡ true = λ at z.
    or_left entry (is_inside begin cells at) (is_entry entry (waits_from (begin / 4) items) at)
    (subst (λ ps. ((at == begin + 4 * length cells) || list_any (λ (it : Placed). it.at == at) ps)
    ≡ true) (sym placed)
    (start_in entry begin (begin + 4 * length cells) items at (end_is entry begin items) z)) in
    let called =
    calls_in entry S (begin / 4) items
    (λ n e. or_right entry (is_inside begin cells n) _ e) in
    let rest : drop (cells_in its) cells ≡ [] =
    all_dropped cells (cells_in its) (omega (arith, all_cells entry begin items)) in
    let proper_none = proper_all entry natives (StartsAt begin items) begin items h in
    let linked_none =
    linked_all entry (StartsAt begin items) S holds begin cells natives begin items h
    called in
    none_by natives S begin cells its placed proper_none rest linked_none
