-- A draft of the lines of a file is refused for what the lines are refused for.
use Rattle.std.proofs.Common.{◌≡◌, ◌∙◌, ◌+◌, ◌*◌, ◌==◌, ℕ, ℤ, pos, negsuc}
use Rattle.std.proofs.Common.{List, [], ◌∷◌, Bool, true, false, cond, Option, None, Some, length}
use Rattle.std.proofs.Common.{drop, map}
use Rattle.std.proofs.Common.{refl, sym, ap, subst, arith, ◌⊎◌, inl, inr}
use Rattle.std.specs.List.{flat_map, position_or_len}
use Rattle.std.specs.Option.{option_or}
use Rattle.std.specs.Prelude.{if◌then◌else◌, option_map}
use Rattle.std.proofs.Common.{length-append}
use Rattle.std.proofs.Math.ListN.{drop_of_length-le}
use Rattle.std.proofs.lemmas.List.Sums.{sum_by-cons}
use Rattle.amx_ops.specs.declared.amx.Amx.{Amx}
use Rattle.amx_ops.specs.declared.table.Operand.{Operand}
use Rattle.amx_ops.specs.declared.table.Operand.TheVariants as operand
use Rattle.amx_ops.specs.Table.{Row, row_of}
use Rattle.amx_ops.specs.Instructions.{Placed, placed, cells_in, is_start}
use Rattle.amx_ops.specs.Valid.{Fault, Opcode, Cut, Target, CaseTable, Native, Register, ByteCount}
use Rattle.amx_ops.specs.Valid.{Entry, or_else, unless, first_of, operand_fault, row_fault, proper}
use Rattle.amx_ops.specs.Valid.{broken, link_fault, linked_by, linked, leads, entry_fault}
use Rattle.amx_ops.specs.Valid.{main_fault, publics_fault}
use Rattle.amx_ops.specs.Written.{Written, IsCodeOf, cells_of, places, read_as}
use Rattle.amx_verify.specs.Verdict.{fault_in}
use Rattle.amx_text.specs.declared.draft.Draft.{Draft}
use Rattle.amx_text.specs.declared.fault.AsmFault.{AsmFault}
use Rattle.amx_text.specs.declared.fault.AsmFault.TheVariants as asm
use Rattle.amx_text.specs.Lines.{Header}
use Rattle.amx_text.specs.Forms.{Line, HeaderLine}
use Rattle.amx_text.specs.Texts.{are_in_order}
use Rattle.amx_text.specs.Faults.{is_at, number_where, fault_line, fault_of, limit_fault}
use Rattle.amx_text.specs.Faults.{count_fault}
use Rattle.amx_text.specs.Faults.{invalid_fault, address_fault, is_within, amx_of, code_in}
use Rattle.amx_text.specs.Faults.{store_in}
use Rattle.amx_text.specs.Faults.{is_data, is_end}
use Rattle.amx_text.specs.Drafts.{puts, empty_draft, line_at, line_by, fault_by}
use Rattle.amx_text.specs.Drafts.{limit_by, address_by, counts_by, invalid_by}
use Rattle.amx_text.proofs.LinesOf.{lines_of_data, lines_of_cells, lines_behind}
use Rattle.amx_text.proofs.GatherLaws.{header_put, amx_put, puts_address}
use Rattle.amx_text.proofs.MarkLaws.{passed, front_of, front_joined, data_number, end_number}
use Rattle.amx_text.proofs.MarkLaws.{code_number, starts_are, Starts, place_in, front_without}

-- ---- the verifier names instructions of the code

-- the address of a fault's instruction
abbrev address_of : Fault → Option ℕ
address_of (Opcode at) = Some at
address_of (Cut at) = Some at
address_of (Target at) = Some at
address_of (CaseTable at) = Some at
address_of (Native at) = Some at
address_of (Register at) = Some at
address_of (ByteCount at) = Some at
address_of (Entry number) = None

unless_is : (b : Bool) (fault f : Fault) → unless b fault ≡ Some f → fault ≡ f
unless_is true fault f e = absurd (let no : ⊥ = cc in no)
unless_is false fault f e = let same : fault ≡ f = cc in same

told_at : (b : Bool) (fault f : Fault) (at : ℕ) → address_of fault ≡ Some at
    → unless b fault ≡ Some f → address_of f ≡ Some at
told_at b fault f at h e = ap address_of (sym (unless_is b fault f e)) ∙ h

operand_at : (natives : ℕ) (kind : Operand) (v : ℤ) (at : ℕ) (f : Fault)
    → operand_fault natives kind v at ≡ Some f → address_of f ≡ Some at
operand_at natives operand.ByteCount v at f e = told_at _ (ByteCount at) f at refl e
operand_at natives operand.Register v at f e = told_at _ (Register at) f at refl e
operand_at natives operand.SetRegister v at f e = told_at _ (Register at) f at refl e
operand_at natives operand.Multiple v at f e = told_at _ (ByteCount at) f at refl e
operand_at natives operand.Length v at f e = told_at _ (ByteCount at) f at refl e
operand_at natives operand.CellsLength v at f e = told_at _ (ByteCount at) f at refl e
operand_at natives operand.NativeNumber v at f e = told_at _ (Native at) f at refl e
operand_at natives operand.Nothing v at f e = absurd (let no : ⊥ = cc in no)
operand_at natives operand.AnyCell v at f e = absurd (let no : ⊥ = cc in no)
operand_at natives operand.Target v at f e = absurd (let no : ⊥ = cc in no)
operand_at natives operand.Relative v at f e = absurd (let no : ⊥ = cc in no)
operand_at natives operand.CaseTable v at f e = absurd (let no : ⊥ = cc in no)
operand_at natives operand.Cases v at f e = absurd (let no : ⊥ = cc in no)

row_at : (natives : ℕ) (row : Option Row) (v : ℤ) (at : ℕ) (f : Fault)
    → row_fault natives row v at ≡ Some f → address_of f ≡ Some at
row_at natives None v at f e = absurd (let no : ⊥ = cc in no)
row_at natives (Some row) v at f e = operand_at natives row.operand v at f e

module _ (starts : ℕ → Bool) (begin : ℕ) (cells : List ℤ) where
  link_at : (kind : Operand) (it : Placed) (f : Fault)
      → link_fault starts begin cells kind it ≡ Some f → address_of f ≡ Some it.at
  link_at operand.Target it f e = told_at _ (Target it.at) f it.at refl e
  link_at operand.Relative it f e = told_at _ (Target it.at) f it.at refl e
  link_at operand.CaseTable it f e = told_at _ (CaseTable it.at) f it.at refl e
  link_at operand.Cases it f e = told_at _ (CaseTable it.at) f it.at refl e
  link_at operand.Nothing it f e = absurd (let no : ⊥ = cc in no)
  link_at operand.AnyCell it f e = absurd (let no : ⊥ = cc in no)
  link_at operand.ByteCount it f e = absurd (let no : ⊥ = cc in no)
  link_at operand.Register it f e = absurd (let no : ⊥ = cc in no)
  link_at operand.SetRegister it f e = absurd (let no : ⊥ = cc in no)
  link_at operand.Multiple it f e = absurd (let no : ⊥ = cc in no)
  link_at operand.Length it f e = absurd (let no : ⊥ = cc in no)
  link_at operand.CellsLength it f e = absurd (let no : ⊥ = cc in no)
  link_at operand.NativeNumber it f e = absurd (let no : ⊥ = cc in no)

  linked_row : (row : Option Row) (it : Placed) (f : Fault)
      → linked_by starts begin cells row it ≡ Some f → address_of f ≡ Some it.at
  linked_row None it f e = absurd (let no : ⊥ = cc in no)
  linked_row (Some row) it f e = link_at row.operand it f e

-- the address is that of one of these
abbrev Names : Fault → List Placed → Type 0
Names f its = (at : ℕ) × ((address_of f ≡ Some at) × Starts at its)

first_by : (o rest : Option Fault) (f : Fault) → or_else o rest ≡ Some f
    → (o ≡ Some f) ⊎ ((o ≡ None) × (rest ≡ Some f))
first_by None rest f e = inr (refl, e)
first_by (Some x) rest f e = inl e

first_names : (test : Placed → Option Fault)
    → ((it : Placed) (f : Fault) → test it ≡ Some f → address_of f ≡ Some it.at)
    → (its : List Placed) (f : Fault) → first_of test its ≡ Some f → Names f its
first_names test told [] f e = absurd (let no : ⊥ = cc in no)
first_names test told (it ∷ its) f e =
    elim (first_by (test it) (first_of test its) f e) as (λ _. Names f (it ∷ its)) [
      | inl here ↦ (it.at, (told it f here, inl refl))
      | inr others ↦ let n = first_names test told its f others.1 in (n.0, (n.1.0, inr n.1.1))
    ]

cells_of_places : (at : ℕ) (its : List Written)
    → cells_in (places at its) ≡ length (flat_map cells_of its)
cells_of_places at [] = refl
cells_of_places at (it ∷ its) =
    let others = cells_of_places (at + 4 * length (cells_of it)) its in
    sum_by-cons (λ (one : Placed). one.instr.cells) (record { at = at; instr = read_as it })
    (places (at + 4 * length (cells_of it)) its)
    ∙ omega (arith, others, length-append (cells_of it) (flat_map cells_of its))

-- whole instructions leave nothing behind them
nothing_broken : (its : List Written) (code : List ℤ) → IsCodeOf its code
    → (at : ℕ) → broken (drop (cells_in (placed code)) code) at ≡ None
nothing_broken its code h at =
    let size : cells_in (placed code) ≡ length code =
    ap cells_in h.placed ∙ cells_of_places 0 its ∙ ap length h.cells in
    ap (λ n. broken (drop n code) at) size
    ∙ ap (λ rest. broken rest at) (drop_of_length-le code (omega arith))

entry_names : (b : Bool) (number : ℤ) (f : Fault) → unless b (Entry number) ≡ Some f
    → address_of f ≡ None
entry_names b number f e = ap address_of (sym (unless_is b (Entry number) f e))

main_names : (t : Bool) (code : List ℤ) (entry : ℤ) (f : Fault)
    → cond t None (entry_fault code (negsuc 0) entry) ≡ Some f → address_of f ≡ None
main_names true code entry f e = absurd (let no : ⊥ = cc in no)
main_names false code entry f e = entry_names (leads (is_start code) entry) (negsuc 0) f e

publics_names : (code : List ℤ) (n : ℕ) (addresses : List ℤ) (f : Fault)
    → publics_fault code n addresses ≡ Some f → address_of f ≡ None
publics_names code n [] f e = absurd (let no : ⊥ = cc in no)
publics_names code n (address ∷ addresses) f e =
    elim (first_by (entry_fault code (pos n) address) (publics_fault code (n + 1) addresses) f e)
    as (λ _. address_of f ≡ None) [
      | inl here ↦ entry_names (leads (is_start code) address) (pos n) f here
      | inr others ↦ publics_names code (n + 1) addresses f others.1
    ]

-- an entry, or an instruction of the code
fault_names : (amx : Amx) (its : List Written) (f : Fault) → IsCodeOf its amx.code
    → fault_in amx ≡ Some f → (address_of f ≡ None) ⊎ Names f (placed amx.code)
fault_names amx its f h e =
    let code : List ℤ = amx.code in
    let starts : ℕ → Bool = is_start amx.code in
    let addresses : List ℤ = map (λ it. it.address) amx.publics in
    let natives : ℕ = length amx.natives in
    let first = first_of (proper natives) (placed amx.code) in
    let second = broken (drop (cells_in (placed amx.code)) amx.code)
    (0 + 4 * cells_in (placed amx.code)) in
    let third = first_of (linked (is_start amx.code) 0 amx.code) (placed amx.code) in
    elim (first_by (or_else first (or_else second third)) _ f e)
    as (λ _. (address_of f ≡ None) ⊎ Names f (placed amx.code)) [
      | inl piece ↦ elim (first_by first (or_else second third) f piece)
          as (λ _. (address_of f ≡ None) ⊎ Names f (placed amx.code)) [
            | inl a ↦ inr (first_names (proper natives)
                (λ it g k. row_at natives (row_of it.instr.op) it.instr.operand it.at g k)
                (placed amx.code) f a)
            | inr b ↦ elim (first_by second third f b.1)
                as (λ _. (address_of f ≡ None) ⊎ Names f (placed amx.code)) [
                  | inl c ↦ absurd (let none = nothing_broken its amx.code h
                      (0 + 4 * cells_in (placed amx.code)) in let no : ⊥ = cc in no)
                  | inr d ↦ inr (first_names (linked (is_start amx.code) 0 amx.code)
                      (λ it g k. linked_row (is_start amx.code) 0 amx.code (row_of it.instr.op) it g k)
                      (placed amx.code) f d.1)
                ]
          ]
      | inr entries ↦ elim (first_by (main_fault amx.code amx.entry)
          (publics_fault amx.code 0 addresses) f entries.1)
          as (λ _. (address_of f ≡ None) ⊎ Names f (placed amx.code)) [
            | inl a ↦ inl (main_names _ amx.code amx.entry f a)
            | inr b ↦ inl (publics_names amx.code 0 addresses f b.1)
          ]
    ]

-- ---- its line

named : (its : List Placed) (f : Fault) (at : ℕ) → address_of f ≡ Some at
    → (address_of f ≡ None) ⊎ Names f its → Starts at its
named its f at e (inl none) = absurd (let no : ⊥ = cc in no)
named its f at e (inr n) =
    let both : Some n.0 ≡ Some at = sym n.1.0 ∙ e in
    let same : n.0 ≡ at = cc in
    subst (λ a. Starts a its) same n.1.1

module _ (it : Header) (amx : Amx) (its : List Written) where
  abbrev all_lines : List Line
  all_lines = HeaderLine it ∷ lines_behind amx its

  abbrev all_draft : Draft
  all_draft = puts (HeaderLine it ∷ lines_behind amx its) empty_draft

  -- the line of an instruction
  start_number : (at : ℕ) → Starts at (places 0 its)
      → number_where (is_at at) all_lines ≡ line_at all_draft.code_mark all_draft.starts at
  start_number at h =
      let front : List Line = front_of it amx in
      let more : List Line = lines_of_data amx.store in
      let a = ap (position_or_len (is_at at)) (front_joined it amx its)
      ∙ passed (is_at at) (front_of it amx) (lines_of_cells its amx.store) (front_without at it amx) in
      let b = place_in at 0 its (lines_of_data amx.store) h in
      let c = ap (position_or_len (λ start. start == at)) (starts_are it amx its) in
      omega (arith, a, b, c, code_number it amx its)

  fault_number : (f : Fault) → (address_of f ≡ None) ⊎ Names f (places 0 its)
      → fault_line all_lines f ≡ line_by all_draft.code_mark all_draft.starts f
  fault_number (Opcode at) h = start_number at (named (places 0 its) (Opcode at) at refl h)
  fault_number (Cut at) h = start_number at (named (places 0 its) (Cut at) at refl h)
  fault_number (Target at) h = start_number at (named (places 0 its) (Target at) at refl h)
  fault_number (CaseTable at) h = start_number at (named (places 0 its) (CaseTable at) at refl h)
  fault_number (Native at) h = start_number at (named (places 0 its) (Native at) at refl h)
  fault_number (Register at) h = start_number at (named (places 0 its) (Register at) at refl h)
  fault_number (ByteCount at) h = start_number at (named (places 0 its) (ByteCount at) at refl h)
  fault_number (Entry (pos n)) h = refl
  fault_number (Entry (negsuc n)) h = refl

-- ---- in their order

invalid_number : (o : Option Fault) (f g : Fault → ℕ) → ((x : Fault) → o ≡ Some x → f x ≡ g x)
    → option_map (λ (x : Fault). asm.Invalid (f x)) o
    ≡ option_map (λ (x : Fault). asm.Invalid (g x)) o
invalid_number None f g h = refl
invalid_number (Some x) f g h = ap (λ n. Some (asm.Invalid n)) (h x refl)

module _ (it : Header) (others : List Line) (order : are_in_order (Some (HeaderLine it)) others ≡ true)
  where
    abbrev whole : List Line
    whole = HeaderLine it ∷ others

    abbrev made : Draft
    made = puts (HeaderLine it ∷ others) empty_draft

    limit_is : limit_by made ≡ limit_fault it whole
    limit_is =
        ap (λ (h : Header). if is_within h made.amx then None else Some asm.Limit)
        (header_put it others order)
        ∙ ap (λ (a : Amx). if is_within it a then None else Some asm.Limit) (amx_put it others order)

    -- behind the tests of limits and addresses
    module _ (amx : Amx) (its : List Written) (code : IsCodeOf its (amx_of it whole).code)
        (is : others ≡ lines_behind amx its) where
      lines_are : whole ≡ HeaderLine it ∷ lines_behind amx its
      lines_are = ap (λ ls. HeaderLine it ∷ ls) is

      counts_are : counts_by made ≡ count_fault it whole
      counts_are =
          let head = header_put it others order in
          let file = amx_put it others order in
          let end : made.lines ≡ number_where is_end whole =
          ap (λ (ls : List Line). (puts ls empty_draft).lines) lines_are
          ∙ sym (end_number it amx its) ∙ sym (ap (number_where is_end) lines_are) in
          let data_line : made.data_mark + 1 ≡ number_where is_data whole =
          ap (λ (ls : List Line). (puts ls empty_draft).data_mark + 1) lines_are
          ∙ sym (data_number it amx its) ∙ sym (ap (number_where is_data) lines_are) in
          ap (λ (a : Amx). if length a.code == made.code
          then (if length a.store == made.store then None else Some (asm.Count made.lines))
          else Some (asm.Count (made.data_mark + 1))) file
          ∙ ap (λ (h : Header). if length (code_in whole) == h.code
          then (if length (store_in whole) == h.store then None else Some (asm.Count made.lines))
          else Some (asm.Count (made.data_mark + 1))) head
          ∙ ap (λ (n : ℕ). if length (code_in whole) == it.code
          then (if length (store_in whole) == it.store then None else Some (asm.Count n))
          else Some (asm.Count (made.data_mark + 1))) end
          ∙ ap (λ (n : ℕ). if length (code_in whole) == it.code
          then (if length (store_in whole) == it.store then None
          else Some (asm.Count (number_where is_end whole)))
          else Some (asm.Count n)) data_line

      invalid_is : invalid_by made ≡ invalid_fault it whole
      invalid_is =
          ap (λ (a : Amx). option_map (λ (x : Fault). asm.Invalid (line_by made.code_mark made.starts x))
          (fault_in a)) (amx_put it others order)
          ∙ sym (invalid_number (fault_in (amx_of it whole)) (fault_line whole)
          (line_by made.code_mark made.starts) (λ x e.
          ap (λ (ls : List Line). fault_line ls x) lines_are
          ∙ fault_number it amx its x
          (subst (λ ps. (address_of x ≡ None) ⊎ Names x ps) code.placed
          (fault_names (amx_of it whole) its x code e))
          ∙ sym (ap (λ (ls : List Line). line_by (puts ls empty_draft).code_mark
          (puts ls empty_draft).starts x) lines_are)))

    -- the first fault, where the lines are those of a file unless an address is another one
    pub faults_are : (address_fault [] whole ≡ None
        → (amx : Amx) × ((its : List Written) × (IsCodeOf its (amx_of it whole).code
        × (others ≡ lines_behind amx its))))
        → fault_by made ≡ fault_of it whole
    faults_are h =
        by (address_fault [] whole) refl
      where
        by : (o : Option AsmFault) → address_fault [] whole ≡ o → fault_by made ≡ fault_of it whole
        by None e =
            let file = h e in
            ap (λ o. option_or o (option_or (address_by made.misplaced)
            (option_or (counts_by made) (invalid_by made)))) limit_is
            ∙ ap (λ o. option_or (limit_fault it whole) (option_or o
            (option_or (counts_by made) (invalid_by made)))) (puts_address whole)
            ∙ ap (λ o. option_or (limit_fault it whole) (option_or (address_fault [] whole)
            (option_or o (invalid_by made)))) (counts_are file.0 file.1.0 file.1.1.0 file.1.1.1)
            ∙ ap (λ o. option_or (limit_fault it whole) (option_or (address_fault [] whole)
            (option_or (count_fault it whole) o)))
            (invalid_is file.0 file.1.0 file.1.1.0 file.1.1.1)
        by (Some f) e =
            ap (λ o. option_or o (option_or (address_by made.misplaced)
            (option_or (counts_by made) (invalid_by made)))) limit_is
            ∙ ap (λ o. option_or (limit_fault it whole) (option_or o
            (option_or (counts_by made) (invalid_by made)))) (puts_address whole ∙ e)
            ∙ sym (ap (λ o. option_or (limit_fault it whole) (option_or o
            (option_or (count_fault it whole) (invalid_fault it whole)))) e)
