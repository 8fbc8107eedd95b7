-- Where the lines of a file have their marks, and on which line what the verifier refuses stands.
use Rattle.std.proofs.Common.{◌≡◌, ◌∙◌, ◌+◌, ◌-◌, ◌*◌, ◌==◌, ◌++◌, ℕ, zero, suc, ℤ}
use Rattle.std.proofs.Common.{List, [], ◌∷◌, Bool, true, false, cond, not}
use Rattle.std.proofs.Common.{length, map, refl, sym, ap, arith, append_assoc}
use Rattle.std.proofs.Common.{eq-eqb, length-append, append-nil, ◌⊎◌, inl, inr}
use Rattle.std.specs.List.{flat_map, list_all, position_or_len}
use Rattle.std.proofs.lemmas.Bool.{and_parts, and_from}
use Rattle.std.proofs.lemmas.List.Folds.{list_all-append}
use Rattle.amx_ops.specs.declared.amx.Amx.{Amx}
use Rattle.amx_ops.specs.declared.amx.Record.{Record}
use Rattle.amx_ops.specs.Instructions.{Placed}
use Rattle.amx_ops.specs.Written.{Written, cells_of, places}
use Rattle.amx_text.specs.declared.draft.Draft.{Draft}
use Rattle.amx_text.specs.declared.kind.Kind.{Kind}
use Rattle.amx_text.specs.declared.kind.Kind.TheVariants.{Public, Native, Library, Variable, Tag}
use Rattle.amx_text.specs.declared.listing.TheConstants.{WIDTH}
use Rattle.amx_text.specs.Lines.{Header}
use Rattle.amx_text.specs.Forms.{Line, HeaderLine, RecordLine, CodeLine, InstructionLine, DataLine}
use Rattle.amx_text.specs.Forms.{CellsLine, EndLine}
use Rattle.amx_text.specs.Faults.{is_data, is_end, is_at, number_where}
use Rattle.amx_text.specs.Drafts.{put, puts, empty_draft}
use Rattle.amx_text.proofs.LinesOf.{lines_in, lines_at, rows_from, lines_of_data, lines_of_cells}
use Rattle.amx_text.proofs.LinesOf.{lines_behind}
use Rattle.amx_text.proofs.DraftLaws.{puts_lines}
use Rattle.amx_text.proofs.GatherLaws.{puts_starts, start_of}

-- ---- the place of a mark

-- a test that fails on some elements passes over them
pub passed : {X : Type 0} (test : X → Bool) (front rest : List X)
    → list_all (λ x. not (test x)) front ≡ true
    → position_or_len test (front ++ rest) ≡ length front + position_or_len test rest
passed test [] rest h = omega arith
passed test (x ∷ front) rest h =
    let both = and_parts (not (test x)) (list_all (λ y. not (test y)) front) h in
    let others = passed test front rest both.1 in
    rw both.0 (omega (arith, others))

-- and stops where it holds
pub stopped : {X : Type 0} (test : X → Bool) (front : List X) (x : X) (rest : List X)
    → list_all (λ y. not (test y)) front ≡ true → test x ≡ true
    → position_or_len test (front ++ (x ∷ rest)) ≡ length front
stopped test front x rest h e =
    let none : position_or_len test (x ∷ rest) ≡ 0 = rw e refl in
    passed test front (x ∷ rest) h ∙ omega (arith, none)

puts_joined : (front rest : List Line) (draft : Draft)
    → puts (front ++ rest) draft ≡ puts rest (puts front draft)
puts_joined [] rest draft = refl
puts_joined (line ∷ front) rest draft = puts_joined front rest (put line draft)

-- ---- the mark of the code

abbrev is_code : Line → Bool
is_code CodeLine = true
is_code line = false

code_kept_by : (line : Line) (draft : Draft) → not (is_code line) ≡ true
    → (put line draft).code_mark ≡ draft.code_mark
code_kept_by (HeaderLine it) draft h = refl
code_kept_by (RecordLine Public it) draft h = refl
code_kept_by (RecordLine Native it) draft h = refl
code_kept_by (RecordLine Library it) draft h = refl
code_kept_by (RecordLine Variable it) draft h = refl
code_kept_by (RecordLine Tag it) draft h = refl
code_kept_by CodeLine draft h = absurd (let no : ⊥ = cc in no)
code_kept_by (InstructionLine at it) draft h = refl
code_kept_by DataLine draft h = refl
code_kept_by (CellsLine at cells) draft h = refl
code_kept_by EndLine draft h = refl

code_kept : (lines : List Line) (draft : Draft) → list_all (λ line. not (is_code line)) lines ≡ true
    → (puts lines draft).code_mark ≡ draft.code_mark
code_kept [] draft h = refl
code_kept (line ∷ lines) draft h =
    let both = and_parts (not (is_code line)) (list_all (λ l. not (is_code l)) lines) h in
    code_kept lines (put line draft) both.1 ∙ code_kept_by line draft both.0

pub code_marked : (front rest : List Line)
    → list_all (λ line. not (is_code line)) rest ≡ true
    → (puts (front ++ (CodeLine ∷ rest)) empty_draft).code_mark ≡ length front
code_marked front rest h =
    ap (λ (d : Draft). d.code_mark) (puts_joined front (CodeLine ∷ rest) empty_draft)
    ∙ code_kept rest (put CodeLine (puts front empty_draft)) h
    ∙ (let count = puts_lines front empty_draft in omega (arith, count))

-- ---- that of the data

data_kept_by : (line : Line) (draft : Draft) → not (is_data line) ≡ true
    → (put line draft).data_mark ≡ draft.data_mark
data_kept_by (HeaderLine it) draft h = refl
data_kept_by (RecordLine Public it) draft h = refl
data_kept_by (RecordLine Native it) draft h = refl
data_kept_by (RecordLine Library it) draft h = refl
data_kept_by (RecordLine Variable it) draft h = refl
data_kept_by (RecordLine Tag it) draft h = refl
data_kept_by CodeLine draft h = refl
data_kept_by (InstructionLine at it) draft h = refl
data_kept_by DataLine draft h = absurd (let no : ⊥ = cc in no)
data_kept_by (CellsLine at cells) draft h = refl
data_kept_by EndLine draft h = refl

data_kept : (lines : List Line) (draft : Draft) → list_all (λ line. not (is_data line)) lines ≡ true
    → (puts lines draft).data_mark ≡ draft.data_mark
data_kept [] draft h = refl
data_kept (line ∷ lines) draft h =
    let both = and_parts (not (is_data line)) (list_all (λ l. not (is_data l)) lines) h in
    data_kept lines (put line draft) both.1 ∙ data_kept_by line draft both.0

pub data_marked : (front rest : List Line)
    → list_all (λ line. not (is_data line)) rest ≡ true
    → (puts (front ++ (DataLine ∷ rest)) empty_draft).data_mark ≡ length front
data_marked front rest h =
    ap (λ (d : Draft). d.data_mark) (puts_joined front (DataLine ∷ rest) empty_draft)
    ∙ data_kept rest (put DataLine (puts front empty_draft)) h
    ∙ (let count = puts_lines front empty_draft in omega (arith, count))

-- ---- lines of one kind

module _ (test : Line → Bool) where
  abbrev none_in : List Line → Type 0
  none_in lines = list_all (λ line. not (test line)) lines ≡ true

  joined : (front rest : List Line) → none_in front → none_in rest → none_in (front ++ rest)
  joined front rest h k =
      list_all-append (λ line. not (test line)) front rest
      ∙ and_from (list_all (λ line. not (test line)) front)
      (list_all (λ line. not (test line)) rest) h k

  records_pass : ((kind : Kind) (it : Record) → not (test (RecordLine kind it)) ≡ true)
      → (kind : Kind) (records : List Record) → none_in (lines_in kind records)
  records_pass h kind [] = refl
  records_pass h kind (it ∷ records) =
      and_from (not (test (RecordLine kind it))) _ (h kind it) (records_pass h kind records)

  instructions_pass : ((at : ℕ) (it : Written) → not (test (InstructionLine at it)) ≡ true)
      → (at : ℕ) (its : List Written) → none_in (lines_at at its)
  instructions_pass h at [] = refl
  instructions_pass h at (it ∷ its) =
      and_from (not (test (InstructionLine at it))) _ (h at it)
      (instructions_pass h (at + 4 * length (cells_of it)) its)

  rows_pass : ((at : ℕ) (cells : List ℤ) → not (test (CellsLine at cells)) ≡ true)
      → (at passed : ℕ) (cells : List ℤ) → none_in (rows_from at passed cells)
  rows_pass h at passed [] = refl
  rows_pass h at (suc passed) (cell ∷ cells) = rows_pass h (at + 4) passed cells
  rows_pass h at zero (cell ∷ cells) =
      and_from (not (test (CellsLine at _))) _ (h at _) (rows_pass h (at + 4) (WIDTH - 1) cells)

-- the header and the records of a file
abbrev pub front_of : Header → Amx → List Line
front_of it amx =
    HeaderLine it ∷ (lines_in Public amx.publics ++ (lines_in Native amx.natives
    ++ (lines_in Library amx.libraries ++ (lines_in Variable amx.variables
    ++ lines_in Tag amx.tags))))

pub front_joined : (it : Header) (amx : Amx) (its : List Written)
    → HeaderLine it ∷ lines_behind amx its ≡ front_of it amx ++ lines_of_cells its amx.store
front_joined it amx its =
    let cells : List Line = lines_of_cells its amx.store in
    let tags : List Line = lines_in Tag amx.tags in
    let variables : List Line = lines_in Variable amx.variables in
    let libraries : List Line = lines_in Library amx.libraries in
    let natives : List Line = lines_in Native amx.natives in
    let publics : List Line = lines_in Public amx.publics in
    let a : (variables ++ tags) ++ cells ≡ variables ++ (tags ++ cells) =
    append_assoc variables tags cells in
    let b : (libraries ++ (variables ++ tags)) ++ cells
    ≡ libraries ++ (variables ++ (tags ++ cells)) =
    append_assoc libraries (variables ++ tags) cells ∙ ap (λ t. libraries ++ t) a in
    let c : (natives ++ (libraries ++ (variables ++ tags))) ++ cells
    ≡ natives ++ (libraries ++ (variables ++ (tags ++ cells))) =
    append_assoc natives (libraries ++ (variables ++ tags)) cells ∙ ap (λ t. natives ++ t) b in
    let d : (publics ++ (natives ++ (libraries ++ (variables ++ tags)))) ++ cells
    ≡ publics ++ (natives ++ (libraries ++ (variables ++ (tags ++ cells)))) =
    append_assoc publics (natives ++ (libraries ++ (variables ++ tags))) cells
    ∙ ap (λ t. publics ++ t) c in
    ap (λ t. HeaderLine it ∷ t) (sym d)

front_passes : (test : Line → Bool) (it : Header) (amx : Amx) → not (test (HeaderLine it)) ≡ true
    → ((kind : Kind) (one : Record) → not (test (RecordLine kind one)) ≡ true)
    → none_in test (front_of it amx)
front_passes test it amx head h =
    and_from (not (test (HeaderLine it))) _ head
    (joined test (lines_in Public amx.publics) _ (records_pass test h Public amx.publics)
    (joined test (lines_in Native amx.natives) _ (records_pass test h Native amx.natives)
    (joined test (lines_in Library amx.libraries) _ (records_pass test h Library amx.libraries)
    (joined test (lines_in Variable amx.variables) _ (records_pass test h Variable amx.variables)
    (records_pass test h Tag amx.tags)))))

-- no instruction stands there
pub front_without : (at : ℕ) (it : Header) (amx : Amx)
    → list_all (λ line. not (is_at at line)) (front_of it amx) ≡ true
front_without at it amx = front_passes (is_at at) it amx refl (λ kind one. refl)

-- ---- the numbers of a file's lines

module _ (it : Header) (amx : Amx) (its : List Written) where
  abbrev lines : List Line
  lines = HeaderLine it ∷ lines_behind amx its

  abbrev draft : Draft
  draft = puts (HeaderLine it ∷ lines_behind amx its) empty_draft

  -- the lines before the data
  abbrev before_data : List Line
  before_data = front_of it amx ++ (CodeLine ∷ lines_at 0 its)

  data_joined : HeaderLine it ∷ lines_behind amx its ≡ before_data ++ lines_of_data amx.store
  data_joined =
      front_joined it amx its
      ∙ sym (append_assoc (front_of it amx) (CodeLine ∷ lines_at 0 its) (lines_of_data amx.store))

  data_last : none_in is_data (rows_from 0 0 amx.store ++ (EndLine ∷ []))
  data_last =
      joined is_data (rows_from 0 0 amx.store) (EndLine ∷ [])
      (rows_pass is_data (λ at cells. refl) 0 0 amx.store) refl

  pub data_number : number_where is_data (HeaderLine it ∷ lines_behind amx its)
      ≡ draft.data_mark + 1
  data_number =
      let rest : List Line = rows_from 0 0 amx.store ++ (EndLine ∷ []) in
      let front : none_in is_data before_data =
      joined is_data (front_of it amx) (CodeLine ∷ lines_at 0 its)
      (front_passes is_data it amx refl (λ kind one. refl))
      (instructions_pass is_data (λ at one. refl) 0 its) in
      ap (λ n. n + 1) (ap (position_or_len is_data) data_joined
      ∙ stopped is_data before_data DataLine (rows_from 0 0 amx.store ++ (EndLine ∷ [])) front refl
      ∙ sym (ap (λ (ls : List Line). (puts ls empty_draft).data_mark) data_joined
      ∙ data_marked before_data (rows_from 0 0 amx.store ++ (EndLine ∷ [])) data_last))

  pub end_number : number_where is_end (HeaderLine it ∷ lines_behind amx its) ≡ draft.lines
  end_number =
      let front : List Line = before_data ++ (DataLine ∷ rows_from 0 0 amx.store) in
      let is : HeaderLine it ∷ lines_behind amx its
      ≡ (before_data ++ (DataLine ∷ rows_from 0 0 amx.store)) ++ (EndLine ∷ []) =
      data_joined
      ∙ sym (append_assoc before_data (DataLine ∷ rows_from 0 0 amx.store) (EndLine ∷ [])) in
      let none : none_in is_end (before_data ++ (DataLine ∷ rows_from 0 0 amx.store)) =
      joined is_end before_data (DataLine ∷ rows_from 0 0 amx.store)
      (joined is_end (front_of it amx) (CodeLine ∷ lines_at 0 its)
      (front_passes is_end it amx refl (λ kind one. refl))
      (instructions_pass is_end (λ at one. refl) 0 its))
      (rows_pass is_end (λ at cells. refl) 0 0 amx.store) in
      let place = ap (position_or_len is_end) is
      ∙ stopped is_end (before_data ++ (DataLine ∷ rows_from 0 0 amx.store)) EndLine [] none refl in
      let size = ap length is
      ∙ length-append (before_data ++ (DataLine ∷ rows_from 0 0 amx.store)) (EndLine ∷ []) in
      let count = puts_lines (HeaderLine it ∷ lines_behind amx its) empty_draft in
      omega (arith, place, size, count)

  code_front : none_in is_code (lines_at 0 its ++ lines_of_data amx.store)
  code_front =
      joined is_code (lines_at 0 its) (lines_of_data amx.store)
      (instructions_pass is_code (λ at one. refl) 0 its)
      (joined is_code (rows_from 0 0 amx.store) (EndLine ∷ [])
      (rows_pass is_code (λ at cells. refl) 0 0 amx.store) refl)

  pub code_number : draft.code_mark ≡ length (front_of it amx)
  code_number =
      ap (λ (ls : List Line). (puts ls empty_draft).code_mark) (front_joined it amx its)
      ∙ code_marked (front_of it amx) (lines_at 0 its ++ lines_of_data amx.store) code_front

  -- ---- instructions

  records_start : (kind : Kind) (records : List Record) (more : List Line)
      → flat_map start_of (lines_in kind records ++ more) ≡ flat_map start_of more
  records_start kind [] more = refl
  records_start kind (one ∷ records) more = records_start kind records more

  rows_start : (at passed : ℕ) (cells : List ℤ) (more : List Line)
      → flat_map start_of (rows_from at passed cells ++ more) ≡ flat_map start_of more
  rows_start at passed [] more = refl
  rows_start at (suc passed) (cell ∷ cells) more = rows_start (at + 4) passed cells more
  rows_start at zero (cell ∷ cells) more = rows_start (at + 4) (WIDTH - 1) cells more

  lines_start : (at : ℕ) (all : List Written) (more : List Line)
      → flat_map start_of (lines_at at all ++ more)
      ≡ map (λ (one : Placed). one.at) (places at all) ++ flat_map start_of more
  lines_start at [] more = refl
  lines_start at (one ∷ all) more =
      ap (λ ats. at ∷ ats) (lines_start (at + 4 * length (cells_of one)) all more)

  pub starts_are : draft.starts ≡ map (λ (one : Placed). one.at) (places 0 its)
  starts_are =
      puts_starts (HeaderLine it ∷ lines_behind amx its) empty_draft
      ∙ records_start Public amx.publics _ ∙ records_start Native amx.natives _
      ∙ records_start Library amx.libraries _ ∙ records_start Variable amx.variables _
      ∙ records_start Tag amx.tags (lines_of_cells its amx.store)
      ∙ lines_start 0 its (lines_of_data amx.store)
      ∙ ap (λ ats. map (λ (one : Placed). one.at) (places 0 its) ++ ats)
      (rows_start 0 0 amx.store (EndLine ∷ []))
      ∙ append-nil (map (λ (one : Placed). one.at) (places 0 its))

-- an address is that of an instruction
abbrev pub Starts : ℕ → List Placed → Type 0
Starts at [] = ⊥
Starts at (one ∷ its) = (at ≡ one.at) ⊎ Starts at its

eq_same : (n : ℕ) → (n == n) ≡ true
eq_same n = eq-eqb n n refl

position_by : (t : Bool) (m n : ℕ) → m ≡ n
    → cond (not t) (1 + m) 0 ≡ cond (not t) (1 + n) 0
position_by t m n e = ap (λ k. cond (not t) (1 + k) 0) e

-- its line stands behind those before it
pub place_in : (at from : ℕ) (its : List Written) (more : List Line) → Starts at (places from its)
    → position_or_len (is_at at) (lines_at from its ++ more)
    ≡ position_or_len (λ start. start == at) (map (λ (one : Placed). one.at) (places from its))
place_in at from [] more h = absurd h
place_in at from (one ∷ its) more (inl e) =
    let here : (from == at) ≡ true = ap (λ n. from == n) e ∙ eq_same from in
    rw here refl
place_in at from (one ∷ its) more (inr h) =
    position_by (from == at) _ _ (place_in at (from + 4 * length (cells_of one)) its more h)
