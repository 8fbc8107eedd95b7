-- What was read of a text so far: how each line is put into it, and which lines a draft stands for.
use denote.Ref.{Bor}
use Rattle.std.specs.Prelude.{◌≡◌, ◌+◌, ◌*◌, ◌++◌, ◌==◌, ◌<◌, ◌≤◌, ◌^◌, ℕ, ℤ, List, []}
use Rattle.std.specs.Prelude.{◌∷◌, Bool, true, false, Option, None, Some, Result, Ok, Err, IsTrue}
use Rattle.std.specs.Prelude.{length, nat_le, pos, negsuc, option_map, if◌then◌else◌}
use Rattle.std.specs.Option.{option_or}
use Rattle.std.specs.List.{position_or_len}
use Rattle.pawn_base.specs.declared.memory.Memory.{Memory}
use Rattle.amx_ops.specs.declared.amx.Amx.{Amx}
use Rattle.amx_ops.specs.declared.amx.Record.{Record}
use Rattle.amx_ops.specs.Valid.{Fault, Opcode, Cut, Target, CaseTable, Native as NativeFault}
use Rattle.amx_ops.specs.Valid.{Register, ByteCount, Entry}
use Rattle.amx_ops.specs.Written.{Written, cells_of}
use Rattle.amx_verify.specs.declared.fault.VerifyFault.{VerifyFault}
use Rattle.amx_verify.specs.declared.fault.VerifyFault.TheVariants as verifier
use Rattle.amx_verify.specs.Verdict.{fault_in, Tells}
use Rattle.amx_text.specs.declared.draft.Draft.{Draft}
use Rattle.amx_text.specs.declared.fault.AsmFault.{AsmFault}
use Rattle.amx_text.specs.declared.fault.AsmFault.TheVariants as asm
use Rattle.amx_text.specs.declared.header.Header.{Header}
use Rattle.amx_text.specs.declared.kind.Kind.{Kind}
use Rattle.amx_text.specs.declared.kind.Kind.TheVariants.{Public, Native, Library, Variable, Tag}
use Rattle.amx_text.specs.declared.last.Last.{Last}
use Rattle.amx_text.specs.declared.last.Last.TheVariants as last
use Rattle.amx_text.specs.declared.listing.TheConstants.{WIDTH}
use Rattle.amx_text.specs.Forms.{Line, HeaderLine, RecordLine, CodeLine, InstructionLine, DataLine}
use Rattle.amx_text.specs.Forms.{CellsLine, EndLine, line_text, Fits, place_of}
use Rattle.amx_text.specs.Texts.{AreLines, BreaksAt}
use Rattle.amx_text.specs.Faults.{is_within}

-- ---- which line may follow

-- what a row of cells leaves
abbrev pub row_last : ℕ → Last
row_last count = if count == WIDTH then last.Data else last.ShortRow

-- what the last line is
abbrev pub last_as : Option Line → Last
last_as None = last.Nothing
last_as (Some (HeaderLine it)) = last.Tables Public
last_as (Some (RecordLine kind it)) = last.Tables kind
last_as (Some CodeLine) = last.Code
last_as (Some (InstructionLine at it)) = last.Code
last_as (Some DataLine) = last.Data
last_as (Some (CellsLine at cells)) = row_last (length cells)
last_as (Some EndLine) = last.End

-- a line may follow it
abbrev pub follows : Last → Line → Bool
follows last.Nothing (HeaderLine it) = true
follows (last.Tables from) (RecordLine kind it) = nat_le (place_of from) (place_of kind)
follows (last.Tables from) CodeLine = true
follows last.Code (InstructionLine at it) = true
follows last.Code DataLine = true
follows last.Data (CellsLine at cells) = true
follows last.Data EndLine = true
follows last.ShortRow EndLine = true
follows before line = false

-- ---- how a line is put into a draft

-- the file before any line
abbrev pub empty_amx : Amx
empty_amx = record {
  flags = 0;
  version = 0;
  code = [];
  store = [];
  room = 0;
  entry = pos 0;
  publics = [];
  natives = [];
  libraries = [];
  variables = [];
  tags = [];
}

-- before any line
abbrev pub empty_draft : Draft
empty_draft = record {
  amx = empty_amx;
  code = 0;
  store = 0;
  starts = [];
  lines = 0;
  code_mark = 0;
  data_mark = 0;
  misplaced = None;
  last = last.Nothing;
}

-- a line more, which is such a one
abbrev pub ended : Last → Draft → Draft
ended line draft = record draft { lines = draft.lines + 1; last = line }

-- what the header says
abbrev pub with_header : Header → Draft → Draft
with_header it draft = record draft {
  amx = record draft.amx
      { flags = it.flags; version = it.version; room = it.room; entry = it.entry };
  code = it.code;
  store = it.store;
}

-- a record at the end of its table
abbrev pub with_record : Kind → Record → Draft → Draft
with_record Public it draft =
    record draft { amx = record draft.amx { publics = draft.amx.publics ++ it ∷ [] } }
with_record Native it draft =
    record draft { amx = record draft.amx { natives = draft.amx.natives ++ it ∷ [] } }
with_record Library it draft =
    record draft { amx = record draft.amx { libraries = draft.amx.libraries ++ it ∷ [] } }
with_record Variable it draft =
    record draft { amx = record draft.amx { variables = draft.amx.variables ++ it ∷ [] } }
with_record Tag it draft =
    record draft { amx = record draft.amx { tags = draft.amx.tags ++ it ∷ [] } }

-- the first line with another address is noted by the lines before it
abbrev pub noted : Option ℕ → Bool → ℕ → Option ℕ
noted (Some before) stands lines = Some before
noted None true lines = None
noted None false lines = Some lines

-- a line at an address behind so many cells
abbrev pub placed_draft : ℕ → ℕ → Draft → Draft
placed_draft at before draft =
    record draft { misplaced = noted draft.misplaced (at == 4 * before) draft.lines }

-- an instruction behind the others
abbrev pub with_instruction : ℕ → Written → Draft → Draft
with_instruction at it draft = record draft {
  amx = record draft.amx { code = draft.amx.code ++ cells_of it };
  starts = draft.starts ++ at ∷ [];
}

-- cells behind the others
abbrev pub with_cells : List ℤ → Draft → Draft
with_cells cells draft =
    record draft { amx = record draft.amx { store = draft.amx.store ++ cells } }

-- a line more
abbrev pub put : Line → Draft → Draft
put (HeaderLine it) draft = ended (last.Tables Public) (with_header it draft)
put (RecordLine kind it) draft = ended (last.Tables kind) (with_record kind it draft)
put CodeLine draft = ended last.Code (record draft { code_mark = draft.lines })
put (InstructionLine at it) draft =
    ended last.Code (placed_draft at (length draft.amx.code) (with_instruction at it draft))
put DataLine draft = ended last.Data (record draft { data_mark = draft.lines })
put (CellsLine at cells) draft =
    ended (row_last (length cells))
    (placed_draft at (length draft.amx.store) (with_cells cells draft))
put EndLine draft = ended last.End draft

-- ---- what taking a line answers

-- a text begins with a line of such a kind
pub record Begins (may : Line → Bool) (text rest : List ℕ) (line : Line) : Type 0 where
  pub fits : Fits line
  pub follows : IsTrue (may line)
  pub is : text ≡ line_text line ++ rest

-- the line was put into the draft
pub record TakesLine (may : Line → Bool) (text rest : List ℕ) (old new : Draft) : Type 0 where
  pub line : Line
  pub begins : Begins may text rest line
  pub put : new ≡ put line old

-- the text begins with no such line, and the draft says so still
pub record TakesNone (may : Line → Bool) (text : List ℕ) (old new : Draft) : Type 0 where
  pub none : (line : Line) (rest : List ℕ) → Begins may text rest line → ⊥
  pub lines : new.lines ≡ old.lines
  pub last : new.last ≡ old.last

-- a line was taken, or there is none
abbrev pub TakesMore : (Line → Bool) → List ℕ → Draft → Draft → Option (Bor (List ℕ)) → Type 0
TakesMore may text old new None = TakesNone may text old new
TakesMore may text old new (Some rest) = TakesLine may text rest.now old new

-- unless memory runs out
abbrev pub Takes : (Line → Bool) → List ℕ → Draft → Draft → Result (Option (Bor (List ℕ))) Memory
    → Type 0
Takes may text old new (Ok rest) = TakesMore may text old new rest
Takes may text old new (Err fault) = Unit {0}

-- ---- kinds of lines that one method takes

-- the header line, which alone may come first
abbrev pub is_header : Line → Bool
is_header line = follows last.Nothing line

-- a record of a table from this one on
abbrev pub is_record : Kind → Line → Bool
is_record from (RecordLine kind it) = nat_le (place_of from) (place_of kind)
is_record from line = false

-- a line of the code, behind its word
abbrev pub is_instruction : Line → Bool
is_instruction (InstructionLine at it) = true
is_instruction line = false

-- a line of cells, behind the word of the data
abbrev pub is_row : Line → Bool
is_row (CellsLine at cells) = true
is_row line = false

-- ---- what lines make of a draft

-- all lines, one behind another
abbrev pub puts : List Line → Draft → Draft
puts [] draft = draft
puts (line ∷ lines) draft = puts lines (put line draft)

-- a text is some lines, and the draft is what they make
pub record ReadsAll (text : List ℕ) (draft : Draft) : Type 0 where
  pub lines : List Line
  pub are : AreLines text lines
  pub is : draft ≡ puts lines empty_draft

-- the lines of a text, or the first that has no form which may follow
abbrev pub ReadsLines : List ℕ → Result Draft AsmFault → Type 0
ReadsLines text (Ok draft) = ReadsAll text draft
ReadsLines text (Err (asm.Form line)) = BreaksAt text line
ReadsLines text (Err asm.Memory) = Unit {0}
ReadsLines text (Err fault) = ⊥

-- ---- what a draft is refused for

-- the header that a draft has
abbrev pub header_by : Draft → Header
header_by draft = record {
  flags = draft.amx.flags;
  version = draft.amx.version;
  code = draft.code;
  store = draft.store;
  room = draft.amx.room;
  entry = draft.amx.entry;
}

-- too large a file
abbrev pub limit_by : Draft → Option AsmFault
limit_by draft = if is_within (header_by draft) draft.amx then None else Some asm.Limit

-- the first line with another address
abbrev pub address_by : Option ℕ → Option AsmFault
address_by None = None
address_by (Some before) = Some (asm.Address (before + 1))

-- another count
abbrev pub counts_by : Draft → Option AsmFault
counts_by draft =
    if length draft.amx.code == draft.code
    then (if length draft.amx.store == draft.store then None else Some (asm.Count draft.lines))
    else Some (asm.Count (draft.data_mark + 1))

-- the line of an instruction at an address, behind the mark of the code
abbrev pub line_at : ℕ → List ℕ → ℕ → ℕ
line_at mark starts at = mark + 2 + position_or_len (λ start. start == at) starts

-- the line of an entry
abbrev pub entry_line : ℤ → ℕ
entry_line (pos n) = n + 2
entry_line (negsuc n) = 1

-- the line of what the verifier refuses
abbrev pub line_by : ℕ → List ℕ → Fault → ℕ
line_by mark starts (Opcode at) = line_at mark starts at
line_by mark starts (Cut at) = line_at mark starts at
line_by mark starts (Target at) = line_at mark starts at
line_by mark starts (CaseTable at) = line_at mark starts at
line_by mark starts (NativeFault at) = line_at mark starts at
line_by mark starts (Register at) = line_at mark starts at
line_by mark starts (ByteCount at) = line_at mark starts at
line_by mark starts (Entry number) = entry_line number

-- what the verifier refuses
abbrev pub invalid_by : Draft → Option AsmFault
invalid_by draft =
    option_map (λ (fault : Fault). asm.Invalid (line_by draft.code_mark draft.starts fault))
    (fault_in draft.amx)

-- what its lines alone show
abbrev pub lines_fault_by : Draft → Option AsmFault
lines_fault_by draft =
    option_or (limit_by draft) (option_or (address_by draft.misplaced) (counts_by draft))

-- in their order
abbrev pub fault_by : Draft → Option AsmFault
fault_by draft =
    option_or (limit_by draft)
    (option_or (address_by draft.misplaced) (option_or (counts_by draft) (invalid_by draft)))

-- the file of a draft that has none, or the first
abbrev pub Finishes : Draft → Result Amx AsmFault → Type 0
Finishes draft (Ok amx) = (fault_by draft ≡ None) × (amx ≡ draft.amx)
Finishes draft (Err asm.Memory) = Unit {0}
Finishes draft (Err (asm.Form line)) = ⊥
Finishes draft (Err fault) = fault_by draft ≡ Some fault

-- the same for the verifier alone
abbrev pub Verifies : Draft → Result Amx AsmFault → Type 0
Verifies draft (Ok amx) = (fault_in draft.amx ≡ None) × (amx ≡ draft.amx)
Verifies draft (Err asm.Memory) = Unit {0}
Verifies draft (Err (asm.Form line)) = ⊥
Verifies draft (Err fault) = invalid_by draft ≡ Some fault

-- what the verifier answers is told by its line
abbrev pub IsTold : VerifyFault → List ℕ → ℕ → AsmFault → Type 0
IsTold fault starts mark asm.Memory = fault ≡ verifier.Memory
IsTold fault starts mark (asm.Form line) = ⊥
IsTold fault starts mark told = (found : Option Fault) → Tells fault found
    → option_map (λ (it : Fault). asm.Invalid (line_by mark starts it)) found ≡ Some told

-- its lines have numbers of 32 bits, and its marks are among them; behind the mark of the code
-- stand the instructions, where each has its address
pub record IsSmall (draft : Draft) : Type 0 where
  pub lines : draft.lines + 1 < 2 ^ 32
  pub code : draft.misplaced ≡ None → draft.code_mark + length draft.starts + 2 ≤ draft.lines + 1
  pub counts : draft.data_mark ≤ draft.lines
  pub misplaced : (before : ℕ) → draft.misplaced ≡ Some before → before ≤ draft.lines
