-- What a draft of a whole text is refused for is what the text is refused for; where it isn't, its
-- file is listed with the text.
use Rattle.std.proofs.Common.{◌≡◌, ◌∙◌, ℕ, List, [], ◌∷◌, Bool, true, false}
use Rattle.std.proofs.Common.{Option, None, Some, Result, Ok, Err, refl, sym, ap, subst}
use Rattle.std.specs.List.{flat_map}
use Rattle.std.specs.Option.{option_or}
use Rattle.std.specs.Prelude.{if◌then◌else◌, option_map}
use Rattle.std.proofs.lemmas.Bool.{and_parts}
use Rattle.std.proofs.lemmas.List.Elements.{All-tail}
use Rattle.amx_ops.specs.declared.amx.Amx.{Amx}
use Rattle.amx_ops.specs.Written.{Written, IsCodeOf, cells_of}
use Rattle.amx_ops.specs.Valid.{Fault}
use Rattle.amx_ops.proofs.WrittenLaws.{code_is_instructions}
use Rattle.amx_verify.specs.Verdict.{fault_in}
use Rattle.amx_text.specs.declared.draft.Draft.{Draft}
use Rattle.amx_text.specs.declared.fault.AsmFault.{AsmFault}
use Rattle.amx_text.specs.declared.fault.AsmFault.TheVariants as asm
use Rattle.amx_text.specs.Lines.{Header}
use Rattle.amx_text.specs.Listing.{header_of}
use Rattle.amx_text.specs.Forms.{Line, HeaderLine, RecordLine, CodeLine, InstructionLine, DataLine}
use Rattle.amx_text.specs.Forms.{CellsLine, EndLine, Fits, may_follow}
use Rattle.amx_text.specs.Texts.{are_in_order, AreLines}
use Rattle.amx_text.specs.Faults.{fault_of, limit_fault, count_fault, invalid_fault, address_fault}
use Rattle.amx_text.specs.Faults.{is_within, amx_of, code_in, fault_line}
use Rattle.amx_text.specs.Faults.{HasFault}
use Rattle.amx_text.specs.Assembles.{IsAssembled, Assembles}
use Rattle.amx_text.specs.Drafts.{puts, empty_draft, fault_by, Finishes, ReadsAll, ReadsLines}
use Rattle.amx_text.proofs.LinesOf.{lines_behind}
use Rattle.amx_text.proofs.SaidLaws.{code_of_lines}
use Rattle.amx_text.proofs.PlacedLaws.{are_placed_at}
use Rattle.amx_text.proofs.WholeLaws.{Tail}
use Rattle.amx_text.proofs.TableLines.{parts_of}
use Rattle.amx_text.proofs.FileLaws.{addresses_placed, file_by, header_counts}
use Rattle.amx_text.proofs.FileLaws.{listed_of_lines}
use Rattle.amx_text.proofs.GatherLaws.{amx_put}
use Rattle.amx_text.proofs.FinishLaws.{faults_are}

-- ---- a whole text begins with its header

pub record Headed (lines : List Line) : Type 0 where
  pub it : Header
  pub others : List Line
  pub is : lines ≡ HeaderLine it ∷ others

first_line : (line : Line) (others : List Line) → may_follow None line ≡ true
    → Headed (line ∷ others)
first_line (HeaderLine it) others h = record { it = it; others = others; is = refl }
first_line (RecordLine kind it) others h = absurd (let no : ⊥ = cc in no)
first_line CodeLine others h = absurd (let no : ⊥ = cc in no)
first_line (InstructionLine at it) others h = absurd (let no : ⊥ = cc in no)
first_line DataLine others h = absurd (let no : ⊥ = cc in no)
first_line (CellsLine at cells) others h = absurd (let no : ⊥ = cc in no)
first_line EndLine others h = absurd (let no : ⊥ = cc in no)

pub headed : (text : List ℕ) (lines : List Line) → AreLines text lines → Headed lines
headed text [] h = absurd (let no : None ≡ Some EndLine = h.ends in cc)
headed text (line ∷ others) h =
    first_line line others
    (and_parts (may_follow None line) (are_in_order (Some line) others) h.whole.order).0

order_behind : (text : List ℕ) (it : Header) (others : List Line)
    → AreLines text (HeaderLine it ∷ others) → are_in_order (Some (HeaderLine it)) others ≡ true
order_behind text it others h =
    (and_parts true (are_in_order (Some (HeaderLine it)) others) h.whole.order).1

-- ---- the file of its lines

pub file_there : (text : List ℕ) (it : Header) (others : List Line)
    → AreLines text (HeaderLine it ∷ others) → address_fault [] (HeaderLine it ∷ others) ≡ None
    → (amx : Amx) × ((its : List Written)
    × (IsCodeOf its (amx_of it (HeaderLine it ∷ others)).code × (others ≡ lines_behind amx its)))
file_there text it others are addresses =
    let placed = addresses_placed [] (HeaderLine it ∷ others) addresses in
    let tail : Tail (HeaderLine it) 0 0 others = record {
      order = order_behind text it others are;
      ends = are.ends;
      fits = All-tail Fits (HeaderLine it) others are.whole.fit;
      placed = (and_parts true (are_placed_at 0 0 others) placed).1;
    } in
    let parts = parts_of it others tail in
    let amx = file_by it others parts in
    let code : code_in (HeaderLine it ∷ others) ≡ flat_map cells_of parts.its =
    ap (λ ls. code_in (HeaderLine it ∷ ls)) parts.is ∙ code_of_lines amx parts.its in (
      amx,
      (
        parts.its,
        (
          subst (IsCodeOf parts.its) (sym code)
              (code_is_instructions.read parts.its parts.written),
          parts.is,
        ),
      ),
    )

-- ---- without a fault

record Faultless (it : Header) (lines : List Line) : Type 0 where
  limit : limit_fault it lines ≡ None
  address : address_fault [] lines ≡ None
  count : count_fault it lines ≡ None
  invalid : invalid_fault it lines ≡ None

pub or_none : (a b : Option AsmFault) → option_or a b ≡ None → (a ≡ None) × (b ≡ None)
or_none None b e = (refl, e)
or_none (Some x) b e = absurd (let no : ⊥ = cc in no)

faultless : (it : Header) (lines : List Line) → fault_of it lines ≡ None → Faultless it lines
faultless it lines e =
    let a = or_none (limit_fault it lines) (option_or (address_fault [] lines)
    (option_or (count_fault it lines) (invalid_fault it lines))) e in
    let b = or_none (address_fault [] lines)
    (option_or (count_fault it lines) (invalid_fault it lines)) a.1 in
    let c = or_none (count_fault it lines) (invalid_fault it lines) b.1 in
    record { limit = a.0; address = b.0; count = c.0; invalid = c.1 }

pub within_by : (t : Bool) → (if t then None else Some asm.Limit) ≡ None → t ≡ true
within_by true e = refl
within_by false e = absurd (let no : ⊥ = cc in no)

valid_by : (o : Option Fault) (f : Fault → ℕ)
    → option_map (λ (x : Fault). asm.Invalid (f x)) o ≡ None → o ≡ None
valid_by None f e = refl
valid_by (Some x) f e = absurd (let no : ⊥ = cc in no)

assembled : (text : List ℕ) (it : Header) (others : List Line)
    → AreLines text (HeaderLine it ∷ others) → fault_of it (HeaderLine it ∷ others) ≡ None
    → IsAssembled text (amx_of it (HeaderLine it ∷ others))
assembled text it others are e =
    let none = faultless it (HeaderLine it ∷ others) e in
    let counts = header_counts it (HeaderLine it ∷ others) none.count in
    let head : header_of (amx_of it (HeaderLine it ∷ others)) ≡ it =
    λ i. record it { code = counts.0 i; store = counts.1 i } in
    record {
      listed = listed_of_lines text it others are none.address none.count;
      within =
          ap (λ (h : Header). is_within h (amx_of it (HeaderLine it ∷ others))) head
          ∙ within_by (is_within it (amx_of it (HeaderLine it ∷ others))) none.limit;
      valid =
          valid_by (fault_in (amx_of it (HeaderLine it ∷ others)))
          (fault_line (HeaderLine it ∷ others)) none.invalid;
    }

-- ---- the answer

module _ (text : List ℕ) (draft : Draft) (it : Header) (others : List Line)
    (are : AreLines text (HeaderLine it ∷ others))
    (is : draft ≡ puts (HeaderLine it ∷ others) empty_draft) where
  first_is : fault_by draft ≡ fault_of it (HeaderLine it ∷ others)
  first_is =
      ap fault_by is
      ∙ faults_are it others (order_behind text it others are) (file_there text it others are)

  refused : (fault : AsmFault) → fault_by draft ≡ Some fault → HasFault text fault
  refused fault e = record { header = it; others = others; are = are; first = sym first_is ∙ e }

  amx_is : draft.amx ≡ amx_of it (HeaderLine it ∷ others)
  amx_is =
      ap (λ (d : Draft). d.amx) is ∙ amx_put it others (order_behind text it others are)

  answered : (result : Result Amx AsmFault) → Finishes draft result → Assembles text result
  answered (Ok amx) h =
      subst (IsAssembled text) (sym (h.1 ∙ amx_is))
      (assembled text it others are (sym first_is ∙ h.0))
  answered (Err (asm.Form line)) h = absurd h
  answered (Err asm.Limit) h = refused asm.Limit h
  answered (Err (asm.Address line)) h = refused (asm.Address line) h
  answered (Err (asm.Count line)) h = refused (asm.Count line) h
  answered (Err (asm.Invalid line)) h = refused (asm.Invalid line) h
  answered (Err asm.Memory) h = tt

answer_by : (text : List ℕ) (draft : Draft) (lines : List Line) → AreLines text lines
    → draft ≡ puts lines empty_draft → Headed lines
    → (result : Result Amx AsmFault) → Finishes draft result → Assembles text result
answer_by text draft lines are is h result f =
    answered text draft h.it h.others (subst (AreLines text) h.is are)
    (is ∙ ap (λ ls. puts ls empty_draft) h.is) result f

pub answer : (text : List ℕ) (draft : Draft) → ReadsAll text draft → (result : Result Amx AsmFault)
    → Finishes draft result → Assembles text result
answer text draft h result f =
    answer_by text draft h.lines h.are h.is (headed text h.lines h.are) result f

-- a text that isn't read has its answer
pub failed : (text : List ℕ) (fault : AsmFault) → ReadsLines text (Err fault)
    → Assembles text (Err fault)
failed text (asm.Form line) h = h
failed text asm.Limit h = absurd h
failed text (asm.Address line) h = absurd h
failed text (asm.Count line) h = absurd h
failed text (asm.Invalid line) h = absurd h
failed text asm.Memory h = tt
