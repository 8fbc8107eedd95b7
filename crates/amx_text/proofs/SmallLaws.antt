-- Numbers of lines are small: each line ends in a byte 10, and marks are among the lines.
use Rattle.std.proofs.Common.{◌≡◌, ◌∙◌, ◌+◌, ◌*◌, ◌<◌, ◌≤◌, ◌^◌, ◌==◌, ◌++◌, ℕ, suc, List, [], ◌∷◌}
use Rattle.std.proofs.Common.{Bool, true}
use Rattle.std.proofs.Common.{false, Option, None, Some, All, length, refl, sym, ap, subst, arith}
use Rattle.std.proofs.Common.{count_by, length-append}
use Rattle.std.specs.Prelude.{if◌then◌else◌}
use Rattle.std.specs.List.{flat_map}
use Rattle.std.proofs.lemmas.List.Elements.{All-head, All-tail}
use Rattle.std.proofs.lemmas.List.{length-map}
use Rattle.std.proofs.lemmas.List.Sums.{sum_by-append}
use Rattle.amx_ops.specs.declared.amx.Amx.{Amx}
use Rattle.amx_ops.specs.Instructions.{Placed}
use Rattle.amx_ops.specs.Written.{Written, places, cells_of}
use Rattle.amx_text.specs.declared.draft.Draft.{Draft}
use Rattle.amx_text.specs.declared.kind.Kind.TheVariants.{Public, Native, Library, Variable, Tag}
use Rattle.amx_text.specs.Lines.{Header}
use Rattle.amx_text.specs.Forms.{Line, HeaderLine, RecordLine, CodeLine, InstructionLine, DataLine}
use Rattle.amx_text.specs.Forms.{CellsLine, EndLine, line_text, Fits}
use Rattle.amx_text.specs.Texts.{AreLines}
use Rattle.amx_text.specs.Faults.{address_fault}
use Rattle.amx_text.specs.Drafts.{put, puts, empty_draft, noted, address_by, TakesLine, ReadsAll}
use Rattle.amx_text.specs.Drafts.{IsSmall}
use Rattle.amx_text.proofs.LinesOf.{lines_at, lines_behind, lines_of_cells, lines_of_data}
use Rattle.amx_text.proofs.EndLaws.{line_ends}
use Rattle.amx_text.proofs.DraftLaws.{puts_lines, Onward}
use Rattle.amx_text.proofs.GatherLaws.{puts_address}
use Rattle.amx_text.proofs.MarkLaws.{front_of, front_joined, code_number, starts_are}
use Rattle.amx_text.proofs.AssembleLaws.{headed, file_there, Headed}

-- ---- bytes 10

-- how many bytes 10
abbrev tens : List ℕ → ℕ
tens text = count_by (λ byte. byte == 10) text

one_ten : (body : List ℕ) → 1 ≤ tens (body ++ (10 ∷ []))
one_ten body = omega (arith, sum_by-append (λ byte. if byte == 10 then 1 else 0) body (10 ∷ []))

line_ten : (line : Line) → Fits line → 1 ≤ tens (line_text line)
line_ten line h =
    let it = line_ends line h in
    subst (λ t. 1 ≤ tens t) (sym it.is) (one_ten it.body)

pub lines_tens : (lines : List Line) → All Fits lines → length lines ≤ tens (flat_map line_text lines)
lines_tens [] h = omega arith
lines_tens (line ∷ lines) h =
    let first = line_ten line (All-head Fits line lines h) in
    let others = lines_tens lines (All-tail Fits line lines h) in
    omega (
      arith,
      first,
      others,
      sum_by-append (λ byte. if byte == 10 then 1 else 0) (line_text line)
          (flat_map line_text lines),
    )

-- so far no more lines were read than there are bytes 10
pub onward_small : (text : List ℕ) (draft : Draft) (rest : List ℕ) → Onward text draft rest
    → draft.lines ≤ tens text
onward_small text draft rest h =
    let count = puts_lines h.lines empty_draft in
    let same = ap (λ (d : Draft). d.lines) h.is in
    let front = lines_tens h.lines h.begins.fit in
    let all = ap tens h.begins.is in
    omega (
      arith,
      count,
      same,
      front,
      all,
      sum_by-append (λ byte. if byte == 10 then 1 else 0)
          (flat_map line_text h.lines) rest,
    )

-- a line isn't empty
pub shorter : {may : Line → Bool} {text rest : List ℕ} {old new : Draft}
    → TakesLine may text rest old new → length rest < length text
shorter {may} {text} {rest} {old} {new} h =
    let it = line_ends h.line h.begins.fits in
    omega (
      arith,
      ap length h.begins.is,
      length-append (line_text h.line) rest,
      ap length it.is,
      length-append it.body (10 ∷ []),
    )

-- ---- marks

record Among (draft : Draft) : Type 0 where
  counts : draft.data_mark ≤ draft.lines
  misplaced : (before : ℕ) → draft.misplaced ≡ Some before → before ≤ draft.lines

noted_among : (o : Option ℕ) (stands : Bool) (lines : ℕ)
    → ((n : ℕ) → o ≡ Some n → n ≤ lines) → (n : ℕ) → noted o stands lines ≡ Some n → n ≤ lines + 1
noted_among (Some before) stands lines h n e = omega (arith, h n e)
noted_among None true lines h n e = absurd (let no : ⊥ = cc in no)
noted_among None false lines h n e = let same : lines ≡ n = cc in omega (arith, same)

more : (draft : Draft) → Among draft → (n : ℕ) → draft.misplaced ≡ Some n → n ≤ draft.lines + 1
more draft h n e = omega (arith, h.misplaced n e)

put_among : (line : Line) (draft : Draft) → Among draft → Among (put line draft)
put_among (HeaderLine it) draft h =
    record { counts = omega (arith, h.counts); misplaced = more draft h }
put_among (RecordLine Public it) draft h =
    record { counts = omega (arith, h.counts); misplaced = more draft h }
put_among (RecordLine Native it) draft h =
    record { counts = omega (arith, h.counts); misplaced = more draft h }
put_among (RecordLine Library it) draft h =
    record { counts = omega (arith, h.counts); misplaced = more draft h }
put_among (RecordLine Variable it) draft h =
    record { counts = omega (arith, h.counts); misplaced = more draft h }
put_among (RecordLine Tag it) draft h =
    record { counts = omega (arith, h.counts); misplaced = more draft h }
put_among CodeLine draft h = record { counts = omega (arith, h.counts); misplaced = more draft h }
put_among (InstructionLine at it) draft h = record {
  counts = omega (arith, h.counts);
  misplaced = noted_among draft.misplaced _ draft.lines h.misplaced;
}
put_among DataLine draft h = record { counts = omega arith; misplaced = more draft h }
put_among (CellsLine at cells) draft h = record {
  counts = omega (arith, h.counts);
  misplaced = noted_among draft.misplaced _ draft.lines h.misplaced;
}
put_among EndLine draft h = record { counts = omega (arith, h.counts); misplaced = more draft h }

puts_among : (lines : List Line) (draft : Draft) → Among draft → Among (puts lines draft)
puts_among [] draft h = h
puts_among (line ∷ lines) draft h = puts_among lines (put line draft) (put_among line draft h)

none_yet : Among empty_draft
none_yet = record {
  counts = omega arith;
  misplaced = λ n e. absurd (let no : ⊥ = cc in no);
}

places_many : (at : ℕ) (its : List Written) → length (places at its) ≡ length its
places_many at [] = refl
places_many at (it ∷ its) = ap suc (places_many (at + 4 * length (cells_of it)) its)

lines_many : (at : ℕ) (its : List Written) → length (lines_at at its) ≡ length its
lines_many at [] = refl
lines_many at (it ∷ its) = ap suc (lines_many (at + 4 * length (cells_of it)) its)

no_address : (o : Option ℕ) → o ≡ None → address_by o ≡ None
no_address o e = ap address_by e

-- the lines of the instructions stand behind the mark of the code
marks_by : (text : List ℕ) (it : Header) (others : List Line) → AreLines text (HeaderLine it ∷ others)
    → (puts (HeaderLine it ∷ others) empty_draft).misplaced ≡ None
    → (puts (HeaderLine it ∷ others) empty_draft).code_mark
    + length (puts (HeaderLine it ∷ others) empty_draft).starts + 2
    ≤ (puts (HeaderLine it ∷ others) empty_draft).lines + 1
marks_by text it others are none =
    let none_told : address_fault [] (HeaderLine it ∷ others) ≡ None =
    sym (puts_address (HeaderLine it ∷ others))
    ∙ no_address (puts (HeaderLine it ∷ others) empty_draft).misplaced none in
    let file = file_there text it others are none_told in
    let amx : Amx = file.0 in
    let its : List Written = file.1.0 in
    let is = file.1.1.1 in
    let back = λ (P : List Line → Type 0) (p : P (lines_behind file.0 file.1.0)).
    subst P (sym file.1.1.1) p in
    back (λ ls. (puts (HeaderLine it ∷ ls) empty_draft).code_mark
    + length (puts (HeaderLine it ∷ ls) empty_draft).starts + 2
    ≤ (puts (HeaderLine it ∷ ls) empty_draft).lines + 1)
    (omega (
      arith,
      code_number it file.0 file.1.0,
      ap length (starts_are it file.0 file.1.0),
      length-map (places 0 file.1.0) (λ (one : Placed). one.at),
      places_many 0 file.1.0,
      lines_many 0 file.1.0,
      puts_lines (HeaderLine it ∷ lines_behind file.0 file.1.0) empty_draft,
      ap length (front_joined it file.0 file.1.0),
      length-append (front_of it file.0) (lines_of_cells file.1.0 file.0.store),
      length-append (lines_at 0 file.1.0) (lines_of_data file.0.store),
    ))

small_by : (text : List ℕ) (draft : Draft) (lines : List Line) → AreLines text lines
    → draft ≡ puts lines empty_draft → Headed lines → tens text + 1 < 2 ^ 32 → IsSmall draft
small_by text draft lines are is h few =
    let among = puts_among lines empty_draft none_yet in
    let count = puts_lines lines empty_draft in
    let front = lines_tens lines are.whole.fit in
    let all = ap tens are.whole.is in
    let joined = sum_by-append (λ byte. if byte == 10 then 1 else 0) (flat_map line_text lines) [] in
    let head : lines ≡ HeaderLine h.it ∷ h.others = h.is in
    subst IsSmall (sym is) (record {
      lines = omega (arith, count, front, all, joined, few);
      code =
          subst (λ ls. (puts ls empty_draft).misplaced ≡ None → (puts ls empty_draft).code_mark
          + length (puts ls empty_draft).starts + 2 ≤ (puts ls empty_draft).lines + 1) (sym h.is)
          (marks_by text h.it h.others (subst (AreLines text) h.is are));
      counts = among.counts;
      misplaced = among.misplaced;
    })

pub all_small : (text : List ℕ) (draft : Draft) → ReadsAll text draft → tens text + 1 < 2 ^ 32
    → IsSmall draft
all_small text draft h few =
    small_by text draft h.lines h.are h.is (headed text h.lines h.are) few
