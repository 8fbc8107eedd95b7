-- Lines of instructions and of cells: what is spelled is read, and what is read is spelled.
use Rattle.std.proofs.Common.{◌≡◌, ◌∙◌, ◌+◌, ◌*◌, ◌<◌, ◌≤◌, ◌==◌, ◌++◌, ℕ, ℤ, pos, negsuc, List, []}
use Rattle.std.proofs.Common.{◌∷◌, true, false, None, Some, length, drop, refl, sym, ap, subst}
use Rattle.std.proofs.Common.{arith, FitsSigned, w32, codes, append_assoc, append-nil, eq-eqb}
use Rattle.std.proofs.Common.{eqb-true, ◌⊎◌, inl, inr}
use Rattle.std.specs.List.{flat_map}
use Rattle.std.proofs.lemmas.List.Elements.{All-cons, All-tail}
use Rattle.host_script.specs.declared.event.Seen.TheVariants.{Cell}
use Rattle.host_script.specs.Text.{argument_text}
use Rattle.pawn_base.specs.Cells.{AreCells}
use Rattle.amx_ops.specs.declared.op.Op.{Op}
use Rattle.amx_ops.specs.declared.table.Operand.{Operand}
use Rattle.amx_ops.specs.declared.table.Operand.TheVariants as operand
use Rattle.amx_ops.specs.Table.{number_of, operand_of}
use Rattle.amx_ops.specs.Instructions.{cells_by}
use Rattle.amx_ops.specs.Written.{Written, IsWritten, IsWrittenBy, IsCounted, cells_of}
use Rattle.amx_text.specs.Lines.{address_text, instruction_line, data_line, cells_line}
use Rattle.amx_text.specs.Forms.{InstructionFits, CellsFit}
use Rattle.amx_text.specs.Readers.{after_word, address_at, operand_at, operation_at, has_operands}
use Rattle.amx_text.specs.Readers.{is_counted, Run, Whole}
use Rattle.amx_text.proofs.LineLaws.{cells_are}
use Rattle.amx_text.proofs.ReaderLaws.{same_pair, word_is, word_found, Stops}
use Rattle.amx_text.proofs.PartReads.{address_found, address_is, operand_found, operand_is}
use Rattle.amx_text.proofs.PartReads.{run_found, run_is, run_one}
use Rattle.amx_text.proofs.OperationReads.{Ends, name_at, name_found, name_text_is}

-- ---- cells up to a line's end

-- cells, each behind a blank
abbrev pub spelled : List ℤ → List ℕ
spelled cells = flat_map (λ z. argument_text (Cell z)) cells

pub cells_shape : (cells : List ℤ) (rest : List ℕ)
    → cells_line cells ++ rest ≡ spelled cells ++ (10 ∷ rest)
cells_shape cells rest =
    ap (λ t. (t ++ (10 ∷ [])) ++ rest) (sym (cells_are cells))
    ∙ append_assoc (spelled cells) (10 ∷ []) rest

pub cells_whole : (cells : List ℤ) (rest : List ℕ) → AreCells cells
    → Whole operand_at cells (spelled cells ++ (10 ∷ rest)) (10 ∷ rest)
cells_whole cells rest h = record {
  run =
      (run_found operand_at (λ z. argument_text (Cell z)) (FitsSigned w32) Stops
      (λ z t fits k. operand_found z t fits k) (λ z t. refl) cells (10 ∷ rest) h refl).0;
  stops = refl;
}

cells_end : (cells : List ℤ) (rest : List ℕ) → Ends (spelled cells ++ (10 ∷ rest))
cells_end [] rest = refl
cells_end (z ∷ cells) rest = refl

pub record AreSpelled (cells : List ℤ) (text rest : List ℕ) : Type 0 where
  pub fit : AreCells cells
  pub is : text ≡ cells_line cells ++ rest

pub cells_read : (cells : List ℤ) (text end rest : List ℕ) → Whole operand_at cells text end
    → after_word (codes "\n") end ≡ Some rest → AreSpelled cells text rest
cells_read cells text end rest h e =
    let it =
    run_is operand_at (λ z. argument_text (Cell z)) (FitsSigned w32)
    (λ z t r k. let o = operand_is z t r k in (o.fits, o.is)) cells text end h.run in
    record {
      fit = it.0;
      is =
          it.1 ∙ ap (λ t. spelled cells ++ t) (word_is (codes "\n") end rest e)
          ∙ sym (cells_shape cells rest);
    }

-- ---- an instruction's cells

-- its number, and the cells behind it
abbrev pub behind_number : Written → List ℤ
behind_number it = drop 1 (cells_of it)

cells_parts : (number : ℕ) (v : ℤ) (kind : Operand) (table : List ℤ)
    → cells_by number v kind ++ table ≡ pos number ∷ drop 1 (cells_by number v kind ++ table)
cells_parts number v operand.Nothing pairs = refl
cells_parts number v kind pairs = refl

pub cells_first : (it : Written) → cells_of it ≡ pos (number_of it.op) ∷ behind_number it
cells_first it = cells_parts (number_of it.op) it.operand (operand_of it.op) it.table

counted : (v : ℤ) (table : List ℤ) → IsCounted v table → is_counted (v ∷ table) ≡ true
counted (pos count) pairs h = eq-eqb (length pairs) (1 + 2 * count) h
counted (negsuc n) pairs h = absurd h

operands_by : (number : ℕ) (v : ℤ) (kind : Operand) (table : List ℤ) → IsWrittenBy kind v table
    → has_operands kind (drop 1 (cells_by number v kind ++ table)) ≡ true
operands_by number v operand.Nothing table h = rw h.1 refl
operands_by number v operand.Cases table h = counted v table h
operands_by number v kind table h = rw h.1 refl

pub has_its_operands : (it : Written) → IsWritten it
    → has_operands (operand_of it.op) (behind_number it) ≡ true
has_its_operands it h = operands_by (number_of it.op) it.operand (operand_of it.op) it.table h

-- the instruction with such cells
pub record IsOf (o : Op) (cells : List ℤ) : Type 0 where
  pub it : Written
  pub op_is : it.op ≡ o
  pub written : IsWritten it
  pub is : cells_of it ≡ pos (number_of o) ∷ cells

record Operands (kind : Operand) (number : ℕ) (cells : List ℤ) : Type 0 where
  operand : ℤ
  table : List ℤ
  written : IsWrittenBy kind operand table
  is : cells_by number operand kind ++ table ≡ pos number ∷ cells

none_left : (cells : List ℤ) → (length cells == 0) ≡ true → cells ≡ []
none_left [] h = refl
none_left (z ∷ cells) h = absurd (omega (arith, eqb-true (length (z ∷ cells)) 0 h))

one_left : (kind : Operand) (number : ℕ) (cells : List ℤ)
    → ((v : ℤ) → cells_by number v kind ≡ pos number ∷ v ∷ []) → ((v : ℤ) → IsWrittenBy kind v [])
    → (length cells == 1) ≡ true → Operands kind number cells
one_left kind number [] f g h = absurd (omega (arith, eqb-true (length {A = ℤ} []) 1 h))
one_left kind number (v ∷ []) f g h = record {
  operand = v;
  table = [];
  written = g v;
  is = append-nil (cells_by number v kind) ∙ f v;
}
one_left kind number (v ∷ w ∷ cells) f g h =
    absurd (omega (arith, eqb-true (length (v ∷ w ∷ cells)) 1 h))

table_left : (number : ℕ) (cells : List ℤ) → is_counted cells ≡ true
    → Operands operand.Cases number cells
table_left number [] h = absurd (let no : ⊥ = cc in no)
table_left number (pos count ∷ table) h = record {
  operand = pos count;
  table = table;
  written = eqb-true (length table) (1 + 2 * count) h;
  is = refl;
}
table_left number (negsuc n ∷ table) h = absurd (let no : ⊥ = cc in no)

operands_of : (kind : Operand) (number : ℕ) (cells : List ℤ) → has_operands kind cells ≡ true
    → Operands kind number cells
operands_of operand.Nothing number cells h = record {
  operand = pos 0;
  table = [];
  written = (refl, refl);
  is = ap (λ t. pos number ∷ t) (sym (none_left cells h));
}
operands_of operand.Cases number cells h = table_left number cells h
operands_of kind number cells h = one_left kind number cells (λ v. refl) (λ v. (tt, refl)) h

pub instruction_of : (o : Op) (cells : List ℤ) → has_operands (operand_of o) cells ≡ true
    → IsOf o cells
instruction_of o cells h =
    let it = operands_of (operand_of o) (number_of o) cells h in
    record {
      it = record { op = o; operand = it.operand; table = it.table };
      op_is = refl;
      written = it.written;
      is = it.is;
    }

-- ---- an instruction's line

-- the text of an instruction, with what stands behind its line
pub instruction_shape : (at : ℕ) (it : Written) (rest : List ℕ)
    → instruction_line at (number_of it.op) (behind_number it) ++ rest
    ≡ address_text at ++ (32 ∷ (name_at it.op ++ (spelled (behind_number it) ++ (10 ∷ rest))))
instruction_shape at it rest =
    append_assoc (address_text at) (32 ∷ (name_at it.op ++ cells_line (behind_number it))) rest
    ∙ ap (λ t. address_text at ++ (32 ∷ t))
    (append_assoc (name_at it.op) (cells_line (behind_number it)) rest
    ∙ ap (λ t. name_at it.op ++ t) (cells_shape (behind_number it) rest))

-- an instruction stands there
pub record IsInstruction (at : ℕ) (it : Written) (text rest : List ℕ) : Type 0 where
  pub fits : InstructionFits at it
  pub is : text ≡ instruction_line at (number_of it.op) (behind_number it) ++ rest

tail_cells : (number : ℕ) (cells all : List ℤ) → all ≡ pos number ∷ cells → AreCells all
    → AreCells cells
tail_cells number cells all e h =
    All-tail (FitsSigned w32) (pos number) cells (subst AreCells e h)

-- how it is read
pub record InstructionReads (at : ℕ) (it : Written) (text rest : List ℕ) : Type 0 where
  pub behind : List ℕ
  pub cells : List ℕ
  pub address : address_at text ≡ Some (at, behind)
  pub operation : operation_at behind ≡ Some ((number_of it.op, operand_of it.op), cells)
  pub whole : Whole operand_at (behind_number it) cells (10 ∷ rest)
  pub operands : has_operands (operand_of it.op) (behind_number it) ≡ true

pub instruction_reads : (at : ℕ) (it : Written) (text rest : List ℕ)
    → IsInstruction at it text rest → InstructionReads at it text rest
instruction_reads at it text rest h =
    let cells : List ℕ = spelled (behind_number it) ++ (10 ∷ rest) in
    record {
      behind = 32 ∷ (name_at it.op ++ (spelled (behind_number it) ++ (10 ∷ rest)));
      cells = spelled (behind_number it) ++ (10 ∷ rest);
      address =
          ap address_at (h.is ∙ instruction_shape at it rest)
          ∙ address_found at (32 ∷ (name_at it.op ++ (spelled (behind_number it) ++ (10 ∷ rest))))
          h.fits.address;
      operation =
          name_found it.op (spelled (behind_number it) ++ (10 ∷ rest))
          (cells_end (behind_number it) rest);
      whole =
          cells_whole (behind_number it) rest
          (tail_cells (number_of it.op) (behind_number it) (cells_of it) (cells_first it)
          h.fits.cells);
      operands = has_its_operands it h.fits.written;
    }

-- no instruction stands there
abbrev pub NoInstruction : List ℕ → Type 0
NoInstruction text = (at : ℕ) (it : Written) (rest : List ℕ) → IsInstruction at it text rest → ⊥

pub no_start : (text : List ℕ) → address_at text ≡ None → NoInstruction text
no_start text e at it rest h =
    let a = (instruction_reads at it text rest h).address in let no : ⊥ = cc in no

module _ (text : List ℕ) (start : ℕ) (behind : List ℕ)
    (first : address_at text ≡ Some (start, behind)) where
  behind_is : (at : ℕ) (it : Written) (rest : List ℕ) → (h : IsInstruction at it text rest)
      → (instruction_reads at it text rest h).behind ≡ behind
  behind_is at it rest h =
      let r = instruction_reads at it text rest h in
      let pair : (at ≡ start) × (r.behind ≡ behind) = same_pair (sym r.address ∙ first) in pair.1

  pub no_operation : operation_at behind ≡ None → NoInstruction text
  no_operation e at it rest h =
      let r = instruction_reads at it text rest h in
      let a : operation_at behind ≡ Some ((number_of it.op, operand_of it.op), r.cells) =
      subst (λ t. operation_at t ≡ Some ((number_of it.op, operand_of it.op), r.cells))
      (behind_is at it rest h) r.operation in
      let no : ⊥ = cc in no

  module _ (number : ℕ) (kind : Operand) (others : List ℕ)
      (second : operation_at behind ≡ Some ((number, kind), others)) where
    second_is : (at : ℕ) (it : Written) (rest : List ℕ) → (h : IsInstruction at it text rest)
        → (operand_of it.op ≡ kind) × ((instruction_reads at it text rest h).cells ≡ others)
    second_is at it rest h =
        let r = instruction_reads at it text rest h in
        let a : operation_at behind ≡ Some ((number_of it.op, operand_of it.op), r.cells) =
        subst (λ t. operation_at t ≡ Some ((number_of it.op, operand_of it.op), r.cells))
        (behind_is at it rest h) r.operation in
        let pair : ((number_of it.op, operand_of it.op) ≡ (number, kind)) × (r.cells ≡ others) =
        same_pair (sym a ∙ second) in
        (ap (λ (p : ℕ × Operand). p.1) pair.0, pair.1)

    module _ (cells : List ℤ) (end : List ℕ) (whole : Whole operand_at cells others end) where
      cells_same : (at : ℕ) (it : Written) (rest : List ℕ) → IsInstruction at it text rest
          → (cells ≡ behind_number it) × (end ≡ 10 ∷ rest)
      cells_same at it rest h =
          let r = instruction_reads at it text rest h in
          run_one operand_at cells (behind_number it) others end (10 ∷ rest) whole.run whole.stops
          (subst (λ t. Run operand_at (behind_number it) t (10 ∷ rest))
          (second_is at it rest h).1 r.whole.run)
          r.whole.stops

      pub no_end : after_word (codes "\n") end ≡ None → NoInstruction text
      no_end e at it rest h =
          let a = ap (after_word (codes "\n")) (cells_same at it rest h).1
          ∙ word_found (codes "\n") rest in
          let no : ⊥ = cc in no

      pub no_operands : has_operands kind cells ≡ false → NoInstruction text
      no_operands e at it rest h =
          let r = instruction_reads at it text rest h in
          let kinds : operand_of it.op ≡ kind =
          (second_is at it rest h).0 in
          let a : has_operands kind cells ≡ true =
          ap (λ k. has_operands k cells) (sym kinds)
          ∙ ap (has_operands (operand_of it.op)) (cells_same at it rest h).0 ∙ r.operands in
          let no : ⊥ = cc in no

      -- the instruction that was read
      pub record Found (rest : List ℕ) : Type 0 where
        pub it : Written
        pub stands : IsInstruction start it text rest
        pub all : cells_of it ≡ pos number ∷ cells

      pub an_instruction : (rest : List ℕ) → after_word (codes "\n") end ≡ Some rest
          → has_operands kind cells ≡ true → FitsSigned w32 (pos number) → Found rest
      an_instruction rest e h fits =
          let address = address_is start text behind first in
          let named = name_text_is behind number kind others second in
          let operands : has_operands (operand_of named.op) cells ≡ true =
          ap (λ k. has_operands k cells) named.operand_is ∙ h in
          let of = instruction_of named.op cells operands in
          let read = cells_read cells others end rest whole e in
          let all : cells_of of.it ≡ pos number ∷ cells =
          of.is ∙ ap (λ m. pos m ∷ cells) named.number_is in
          let tail : behind_number of.it ≡ cells = ap (drop 1) all in
          let whole_line : text ≡ instruction_line start (number_of of.it.op) (behind_number of.it)
          ++ rest =
          address.is
          ∙ ap (λ t. address_text start ++ t) (named.is
          ∙ ap (λ t. 32 ∷ (name_at named.op ++ t)) read.is)
          ∙ ap (λ o. address_text start ++ (32 ∷ (name_at o ++ (cells_line cells ++ rest))))
          (sym of.op_is)
          ∙ ap (λ cs. address_text start
          ++ (32 ∷ (name_at of.it.op ++ (cells_line cs ++ rest)))) (sym tail)
          ∙ ap (λ t. address_text start ++ (32 ∷ t))
          (sym (append_assoc (name_at of.it.op) (cells_line (behind_number of.it)) rest))
          ∙ sym (append_assoc (address_text start)
          (32 ∷ (name_at of.it.op ++ cells_line (behind_number of.it))) rest) in
          record {
            it = of.it;
            stands = record {
              fits = record {
                address = address.fits;
                written = of.written;
                cells =
                    subst AreCells (sym all)
                    (All-cons (FitsSigned w32) (pos number) cells fits read.fit);
              };
              is = whole_line;
            };
            all = all;
          }

-- ---- a row of cells

-- a row stands there
pub record IsRow (at : ℕ) (cells : List ℤ) (text rest : List ℕ) : Type 0 where
  pub fits : CellsFit at cells
  pub is : text ≡ data_line at cells ++ rest

pub row_shape : (at : ℕ) (cells : List ℤ) (rest : List ℕ)
    → data_line at cells ++ rest ≡ address_text at ++ (spelled cells ++ (10 ∷ rest))
row_shape at cells rest =
    append_assoc (address_text at) (cells_line cells) rest
    ∙ ap (λ t. address_text at ++ t) (cells_shape cells rest)

abbrev pub NoRow : List ℕ → Type 0
NoRow text = (at : ℕ) (cells : List ℤ) (rest : List ℕ) → IsRow at cells text rest → ⊥

row_address : (at : ℕ) (cells : List ℤ) (text rest : List ℕ) → IsRow at cells text rest
    → address_at text ≡ Some (at, spelled cells ++ (10 ∷ rest))
row_address at cells text rest h =
    ap address_at (h.is ∙ row_shape at cells rest)
    ∙ address_found at (spelled cells ++ (10 ∷ rest)) h.fits.address

pub no_row_start : (text : List ℕ) → address_at text ≡ None → NoRow text
no_row_start text e at cells rest h =
    let a = row_address at cells text rest h in let no : ⊥ = cc in no

module _ (text : List ℕ) (start : ℕ) (behind : List ℕ)
    (first : address_at text ≡ Some (start, behind)) (cells : List ℤ) (end : List ℕ)
    (whole : Whole operand_at cells behind end) where
  row_same : (at : ℕ) (others : List ℤ) (rest : List ℕ) → IsRow at others text rest
      → (cells ≡ others) × (end ≡ 10 ∷ rest)
  row_same at others rest h =
      let pair : (start ≡ at) × (behind ≡ spelled others ++ (10 ∷ rest)) =
      same_pair (sym first ∙ row_address at others text rest h) in
      let same = pair.1 in
      let it = cells_whole others rest h.fits.fit in
      run_one operand_at cells others behind end (10 ∷ rest) whole.run whole.stops
      (subst (λ t. Run operand_at others t (10 ∷ rest)) (sym same) it.run) it.stops

  pub no_row_end : after_word (codes "\n") end ≡ None → NoRow text
  no_row_end e at others rest h =
      let a = ap (after_word (codes "\n")) (row_same at others rest h).1
      ∙ word_found (codes "\n") rest in
      let no : ⊥ = cc in no

  pub no_width : (length cells ≡ 0) ⊎ (8 < length cells) → NoRow text
  no_width (inl none) at others rest h =
      omega (arith, none, ap length (row_same at others rest h).0, h.fits.some)
  no_width (inr many) at others rest h =
      omega (arith, many, ap length (row_same at others rest h).0, h.fits.few)

  pub a_row : (rest : List ℕ) → after_word (codes "\n") end ≡ Some rest → 1 ≤ length cells
      → length cells ≤ 8 → IsRow start cells text rest
  a_row rest e some few =
      let address = address_is start text behind first in
      let read = cells_read cells behind end rest whole e in
      record {
        fits = record { address = address.fits; some = some; few = few; fit = read.fit };
        is =
            address.is ∙ ap (λ t. address_text start ++ t) read.is
            ∙ sym (append_assoc (address_text start) (cells_line cells) rest);
      }
