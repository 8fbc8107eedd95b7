-- Reading as a function of the bytes, so that there is one answer, and the cells read so far.
use Rattle.std.proofs.Common.{◌≡◌, ◌≢◌, ◌⊎◌, inl, inr, ◌+◌, ◌-◌, ◌*◌, ◌<◌, ◌≤◌, ℕ, zero, suc, List}
use Rattle.std.proofs.Common.{[], ◌∷◌, ◌++◌, length, length-append, append_assoc, append-nil, ℤ}
use Rattle.std.proofs.Common.{Result, Ok, Err, nat_lt, if◌then◌else◌, refl, sym, ap, subst, ◌∙◌}
use Rattle.std.proofs.Common.{arith}
use borrow.Author.Tests.{lt-ltb, le-ltb}
use Rattle.pawn_cells.specs.Cells.{wrap}
use Rattle.amx_compact.specs.declared.fault.CompactFault.{CompactFault}
use Rattle.amx_compact.specs.declared.fault.CompactFault.TheVariants.{Short, OpenGroup}
use Rattle.amx_compact.specs.declared.fault.CompactFault.TheVariants.{GroupTooLong, TooMany, Memory}
use Rattle.amx_compact.specs.Causes.{Answers, HasNoCell, IsOpen, IsTooLong, Leaves, Stops}
use Rattle.amx_compact.specs.Fits.{Fits}
use Rattle.amx_compact.specs.Spelled.{signed_sum, Ends, GoesOn, Spelled, SpelledAll, ShortestAll}

-- ---- the one answer

abbrev with_first : ℕ → Result (List ℕ × List ℕ) CompactFault
    → Result (List ℕ × List ℕ) CompactFault
with_first byte (Ok parts) = Ok (byte ∷ parts.0, parts.1)
with_first byte (Err fault) = Err fault

-- the bytes of the cell at the front, of which so many may come, and the bytes behind them
abbrev split : ℕ → List ℕ → Result (List ℕ × List ℕ) CompactFault
split left [] = Err OpenGroup
split zero (byte ∷ rest) = Err GroupTooLong
split (suc left) (byte ∷ rest) =
    if nat_lt byte 128 then Ok (byte ∷ [], rest) else with_first byte (split left rest)

abbrev cell_then : ℤ → Result (List ℤ) CompactFault → Result (List ℤ) CompactFault
cell_then cell (Ok cells) = Ok (cell ∷ cells)
cell_then cell (Err fault) = Err fault

abbrev all_with : (List ℕ → Result (List ℤ) CompactFault) → Result (List ℕ × List ℕ) CompactFault
    → Result (List ℤ) CompactFault
all_with next (Ok parts) = cell_then (wrap (signed_sum parts.0)) (next parts.1)
all_with next (Err fault) = Err fault

abbrev reading : ℕ → List ℕ → Result (List ℤ) CompactFault
reading zero [] = Ok []
reading zero (byte ∷ rest) = Err TooMany
reading (suc count) [] = Err Short
reading (suc count) (byte ∷ rest) = all_with (reading count) (split 5 (byte ∷ rest))

-- a byte that doesn't go on, and one that does
split-last : (left byte : ℕ) (rest : List ℕ) → byte < 128
    → split (suc left) (byte ∷ rest) ≡ Ok (byte ∷ [], rest)
split-last left byte rest h =
    ap (λ t. if t then Ok (byte ∷ [], rest) else with_first byte (split left rest))
    (lt-ltb byte 128 h)

split-next : (left byte : ℕ) (rest : List ℕ) → 128 ≤ byte
    → split (suc left) (byte ∷ rest) ≡ with_first byte (split left rest)
split-next left byte rest h =
    ap (λ t. if t then Ok (byte ∷ [], rest) else with_first byte (split left rest))
    (le-ltb byte 128 h)

split-ends : (left : ℕ) (front rest : List ℕ) → Ends front → length front ≤ left
    → split left (front ++ rest) ≡ Ok (front, rest)
split-ends left [] rest e h = absurd e
split-ends zero (byte ∷ front) rest e h = absurd (omega arith)
split-ends (suc left) (byte ∷ []) rest e h = split-last left byte rest e
split-ends (suc left) (byte ∷ next ∷ front) rest e h =
    split-next left byte (next ∷ (front ++ rest)) e.0
    ∙ ap (with_first byte) (split-ends left (next ∷ front) rest e.2 (omega arith))

split-open : (left : ℕ) (bytes : List ℕ) → GoesOn bytes → length bytes ≤ left
    → split left bytes ≡ Err OpenGroup
split-open left [] g h = refl
split-open zero (byte ∷ bytes) g h = absurd (omega arith)
split-open (suc left) (byte ∷ bytes) g h =
    split-next left byte bytes g.0 ∙ ap (with_first byte) (split-open left bytes g.2 (omega arith))

split-long : (left : ℕ) (front more : List ℕ) → length front ≡ left → GoesOn front → 0 < length more
    → split left (front ++ more) ≡ Err GroupTooLong
split-long zero [] [] e g h = absurd (omega arith)
split-long zero [] (byte ∷ more) e g h = refl
split-long (suc left) [] more e g h = absurd (omega arith)
split-long zero (byte ∷ front) more e g h = absurd (omega arith)
split-long (suc left) (byte ∷ front) more e g h =
    split-next left byte (front ++ more) g.0
    ∙ ap (with_first byte) (split-long left front more (omega arith) g.2 h)

reading-cell : (count : ℕ) (cell : ℤ) (front rest : List ℕ) → Spelled cell front
    → reading (suc count) (front ++ rest) ≡ cell_then cell (reading count rest)
reading-cell count cell [] rest s = absurd s.ends
reading-cell count cell (byte ∷ front) rest s =
    ap (all_with (reading count)) (split-ends 5 (byte ∷ front) rest s.ends s.short)
    ∙ ap (λ z. cell_then z (reading count rest)) (sym s.sum)

abbrev cells_then : List ℤ → Result (List ℤ) CompactFault → Result (List ℤ) CompactFault
cells_then [] read = read
cells_then (cell ∷ cells) read = cell_then cell (cells_then cells read)

cells_then-ok : (cells : List ℤ) → cells_then cells (Ok []) ≡ Ok cells
cells_then-ok [] = refl
cells_then-ok (cell ∷ cells) = ap (cell_then cell) (cells_then-ok cells)

cells_then-err : (cells : List ℤ) (fault : CompactFault) → cells_then cells (Err fault) ≡ Err fault
cells_then-err [] fault = refl
cells_then-err (cell ∷ cells) fault = ap (cell_then cell) (cells_then-err cells fault)

reading-cells : (cells : List ℤ) (front rest : List ℕ) (total count : ℕ) → SpelledAll cells front
    → total ≡ length cells + count
    → reading total (front ++ rest) ≡ cells_then cells (reading count rest)
reading-cells [] front rest total count s h =
    ap (λ f. reading total (f ++ rest)) s ∙ ap (λ n. reading n rest) (omega arith)
reading-cells (cell ∷ cells) front rest zero count s h = absurd (omega arith)
reading-cells (cell ∷ cells) front rest (suc total) count (a, b, spelled, whole, more) h =
    ap (λ f. reading (suc total) (f ++ rest)) whole
    ∙ ap (reading (suc total)) (append_assoc a b rest)
    ∙ reading-cell total cell a (b ++ rest) spelled
    ∙ ap (cell_then cell) (reading-cells cells b rest total count more (omega arith))

reading-leaves : (bytes rest : List ℕ) (before total count : ℕ) (fault : CompactFault)
    → Leaves bytes before rest → total ≡ before + count
    → reading count rest ≡ Err fault → reading total bytes ≡ Err fault
reading-leaves bytes rest before total count fault l h e =
    ap (reading total) l.whole ∙ reading-cells l.cells l.front rest total count l.spelled
    (omega (arith, l.counted)) ∙ ap (cells_then l.cells) e ∙ cells_then-err l.cells fault

reading-stops : (bytes : List ℕ) (count : ℕ) (P : List ℕ → Type 0) (fault : CompactFault)
    (s : Stops bytes count P)
    → ((n : ℕ) → reading (suc n) s.rest ≡ Err fault) → reading count bytes ≡ Err fault
reading-stops bytes count P fault s e =
    reading-leaves bytes s.rest s.before count (suc (count - suc s.before)) fault s.leaves
    (omega (arith, s.fewer)) (e (count - suc s.before))

reading-open : (n : ℕ) (bytes : List ℕ) → IsOpen bytes → reading (suc n) bytes ≡ Err OpenGroup
reading-open n [] o = absurd (omega (arith, o.begun))
reading-open n (byte ∷ bytes) o =
    ap (all_with (reading n)) (split-open 5 (byte ∷ bytes) o.goes_on o.short)

reading-long : (n : ℕ) (five more : List ℕ) → length five ≡ 5 → GoesOn five → 0 < length more
    → reading (suc n) (five ++ more) ≡ Err GroupTooLong
reading-long n [] more c g h = absurd (omega arith)
reading-long n (byte ∷ five) more c g h =
    ap (all_with (reading n)) (split-long 5 (byte ∷ five) more c g h)

reading-more : (bytes : List ℕ) → 0 < length bytes → reading zero bytes ≡ Err TooMany
reading-more [] h = absurd (omega arith)
reading-more (byte ∷ bytes) h = refl

is_reading : (bytes : List ℕ) (count : ℕ) (answer : Result (List ℤ) CompactFault)
    → Answers bytes count answer → answer ≢ Err Memory → reading count bytes ≡ answer
is_reading bytes count (Ok cells) a n =
    ap (reading count) (sym (append-nil bytes))
    ∙ reading-cells cells bytes [] count 0 a.0 (omega (arith, a.1)) ∙ cells_then-ok cells
is_reading bytes count (Err Short) a n =
    reading-stops bytes count (λ rest. rest ≡ []) Short a (λ m. ap (reading (suc m)) a.stops)
is_reading bytes count (Err OpenGroup) a n =
    reading-stops bytes count IsOpen OpenGroup a (λ m. reading-open m a.rest a.stops)
is_reading bytes count (Err GroupTooLong) a n =
    let long = a.stops in
    reading-stops bytes count IsTooLong GroupTooLong a
    (λ m. ap (reading (suc m)) long.whole
    ∙ reading-long m long.five long.more long.counted long.goes_on long.follows)
is_reading bytes count (Err TooMany) (rest, leaves, more) n =
    reading-leaves bytes rest count count 0 TooMany leaves (omega arith) (reading-more rest more)
is_reading bytes count (Err Memory) a n = absurd (n refl)

-- there is one answer
pub one_answer : (bytes : List ℕ) (count : ℕ) (x y : Result (List ℤ) CompactFault)
    → Answers bytes count x → Answers bytes count y → x ≢ Err Memory → y ≢ Err Memory → x ≡ y
one_answer bytes count x y a b m n =
    sym (is_reading bytes count x a m) ∙ is_reading bytes count y b n

pub SpelledAll-from_shortest : (cells : List ℤ) (bytes : List ℕ) → ShortestAll cells bytes
    → SpelledAll cells bytes
SpelledAll-from_shortest [] bytes s = s
SpelledAll-from_shortest (cell ∷ cells) bytes (front, rest, shortest, whole, more) =
    (front, rest, shortest.spelled, whole, SpelledAll-from_shortest cells rest more)

-- what was written is read back
pub reads_back : (bytes : List ℕ) (count : ℕ) (x : Result (List ℤ) CompactFault)
    → Answers bytes count x → (cells : List ℤ) → ShortestAll cells bytes → length cells ≡ count
    → x ≢ Err Memory → x ≡ Ok cells
reads_back bytes count x a cells s c n =
    one_answer bytes count x (Ok cells) a (SpelledAll-from_shortest cells bytes s, c) n
    (λ e. absurd (cc e))

-- ---- the cells read so far

pub record SoFar (bytes : List ℕ) (cells : List ℤ) (rest : List ℕ) (count : ℕ) : Type 0 where
  pub front : List ℕ
  pub spelled : SpelledAll cells front
  pub counted : length cells ≡ count
  pub whole : bytes ≡ front ++ rest

pub so_far-none : (bytes : List ℕ) → SoFar bytes [] bytes 0
so_far-none bytes = record { front = []; spelled = refl; counted = refl; whole = refl }

SpelledAll-push : (cells : List ℤ) (cell : ℤ) (front next : List ℕ) → SpelledAll cells front
    → Spelled cell next → SpelledAll (cells ++ cell ∷ []) (front ++ next)
SpelledAll-push [] cell front next s n =
    (next, [], n, ap (λ f. f ++ next) s ∙ sym (append-nil next), refl)
SpelledAll-push (first ∷ cells) cell front next (a, b, spelled, whole, more) n = (
  a,
  b ++ next,
  spelled,
  ap (λ f. f ++ next) whole
      ∙ append_assoc a b next,
  SpelledAll-push cells cell b next more n,
)

pub so_far-next : (bytes : List ℕ) (cells : List ℤ) (rest after : List ℕ) (count : ℕ) (cell : ℤ)
    → SoFar bytes cells rest count
    → (front : List ℕ) × Spelled cell front × (rest ≡ front ++ after)
    → SoFar bytes (cells ++ cell ∷ []) after (count + 1)
so_far-next bytes cells rest after count cell s (next, spelled, whole) = record {
  front = s.front ++ next;
  spelled = SpelledAll-push cells cell s.front next s.spelled spelled;
  counted = omega (arith, s.counted, length-append cells (cell ∷ []));
  whole = s.whole ∙ ap (λ r. s.front ++ r) whole ∙ sym (append_assoc s.front next after);
}

leaves_of : (bytes : List ℕ) (cells : List ℤ) (rest : List ℕ) (count : ℕ)
    → SoFar bytes cells rest count → Leaves bytes count rest
leaves_of bytes cells rest count s =
    record {
      front = s.front;
      cells = cells;
      spelled = s.spelled;
      counted = s.counted;
      whole = s.whole;
    }

stops_at : (bytes : List ℕ) (cells : List ℤ) (rest : List ℕ) (before count : ℕ)
    (P : List ℕ → Type 0) → SoFar bytes cells rest before → before < count → P rest
    → Stops bytes count P
stops_at bytes cells rest before count P s h b =
    record {
      before = before;
      fewer = h;
      rest = rest;
      leaves = leaves_of bytes cells rest before s;
      stops = b;
    }

-- no cell stands at the front
pub answers_fault : (bytes : List ℕ) (cells : List ℤ) (rest : List ℕ) (before count : ℕ)
    (fault : CompactFault) → SoFar bytes cells rest before → before < count → HasNoCell rest fault
    → Answers bytes count (Err fault)
answers_fault bytes cells rest before count Short s h b =
    stops_at bytes cells rest before count _ s h b
answers_fault bytes cells rest before count OpenGroup s h b =
    stops_at bytes cells rest before count _ s h b
answers_fault bytes cells rest before count GroupTooLong s h b =
    stops_at bytes cells rest before count _ s h b
answers_fault bytes cells rest before count TooMany s h b = absurd b
answers_fault bytes cells rest before count Memory s h b = absurd b

-- all cells are read
pub answers_many : (bytes : List ℕ) (cells : List ℤ) (rest : List ℕ) (before count : ℕ)
    → SoFar bytes cells rest before → before ≡ count → 0 < length rest
    → Answers bytes count (Err TooMany)
answers_many bytes cells rest before count s e h =
    (rest, subst (λ n. Leaves bytes n rest) e (leaves_of bytes cells rest before s), h)

pub answers_ok : (bytes : List ℕ) (cells : List ℤ) (rest : List ℕ) (before count : ℕ)
    → SoFar bytes cells rest before → before ≡ count → length rest ≡ 0
    → Answers bytes count (Ok cells)
answers_ok bytes cells [] before count s e h =
    (subst (SpelledAll cells) (sym (s.whole ∙ append-nil s.front)) s.spelled, s.counted ∙ e)
answers_ok bytes cells (byte ∷ rest) before count s e h = absurd (omega arith)

-- ---- the bytes behind so many cells

abbrev rest_in : (List ℕ → List ℕ) → Result (List ℕ × List ℕ) CompactFault → List ℕ
rest_in next (Ok parts) = next parts.1
rest_in next (Err fault) = []

abbrev rest_after : ℕ → List ℕ → List ℕ
rest_after zero bytes = bytes
rest_after (suc count) bytes = rest_in (rest_after count) (split 5 bytes)

rest_after-cells : (cells : List ℤ) (front rest : List ℕ) (count : ℕ) → SpelledAll cells front
    → length cells ≡ count → rest_after count (front ++ rest) ≡ rest
rest_after-cells [] front rest zero s e = ap (λ (f : List ℕ). f ++ rest) s
rest_after-cells [] front rest (suc count) s e = absurd (omega (arith, e))
rest_after-cells (cell ∷ cells) front rest zero s e = absurd (omega (arith, e))
rest_after-cells (cell ∷ cells) front rest (suc count) (a, b, spelled, whole, more) e =
    ap (λ (f : List ℕ). rest_in (rest_after count) (split 5 (f ++ rest))) whole
    ∙ ap (λ (f : List ℕ). rest_in (rest_after count) (split 5 f)) (append_assoc a b rest)
    ∙ ap (rest_in (rest_after count)) (split-ends 5 a (b ++ rest) spelled.ends spelled.short)
    ∙ rest_after-cells cells b rest count more (omega (arith, e))

-- there is one rest behind so many cells
pub one_rest : (bytes : List ℕ) (count : ℕ) (x y : List ℕ) → Leaves bytes count x
    → Leaves bytes count y → x ≡ y
one_rest bytes count x y l m =
    sym (ap (rest_after count) l.whole
    ∙ rest_after-cells l.cells l.front x count l.spelled l.counted)
    ∙ (ap (rest_after count) m.whole ∙ rest_after-cells m.cells m.front y count m.spelled m.counted)

fault_of : Result (List ℤ) CompactFault → CompactFault
fault_of (Ok cells) = Memory
fault_of (Err fault) = fault

-- ---- whether they fit

-- of so many cells, the first ones take at most four bytes each
abbrev pub FitsUpTo : List ℕ → ℕ → Type 0
FitsUpTo bytes index = (count : ℕ) (rest : List ℕ) → count ≤ index → Leaves bytes count rest
    → length bytes ≤ 4 * count + length rest

pub record Scanned (bytes rest : List ℕ) (index : ℕ) : Type 0 where
  pub cells : List ℤ
  pub so_far : SoFar bytes cells rest index
  pub fits : FitsUpTo bytes index

le_or_next : (a b : ℕ) → a ≤ b + 1 → (a ≤ b) ⊎ (a ≡ b + 1)
le_or_next zero b h = inl (omega arith)
le_or_next (suc a) zero h = inr (omega (arith, h))
le_or_next (suc a) (suc b) h =
    elim (le_or_next a b (omega (arith, h)))
    [ inl e ↦ inl (omega (arith, e)) | inr e ↦ inr (omega (arith, e)) ]

none_fits : (bytes : List ℕ) → FitsUpTo bytes 0
none_fits bytes count rest h l =
    let none : count ≡ 0 = omega (arith, h) in
    omega (
      arith,
      ap length (one_rest bytes count rest bytes l
          (subst (λ n. Leaves bytes n bytes) (sym none)
          (leaves_of bytes [] bytes 0 (so_far-none bytes)))),
    )

pub scanned_none : (bytes : List ℕ) → Scanned bytes bytes 0
scanned_none bytes = record { cells = []; so_far = so_far-none bytes; fits = none_fits bytes }

at_or_before : (bytes after : List ℕ) (index : ℕ) → FitsUpTo bytes index
    → Leaves bytes (index + 1) after → length bytes - length after ≤ 4 * (index + 1)
    → FitsUpTo bytes (index + 1)
at_or_before bytes after index fits here few count rest h l =
    elim (le_or_next count index h) [
      | inl before ↦ fits count rest before l
      | inr last ↦ omega (
        arith,
        few,
        last,
        ap length (one_rest bytes (index + 1) rest after
            (subst (λ n. Leaves bytes n rest) last l) here),
      )
    ]

-- one cell more, behind which at most four bytes each have been taken
pub scanned_next : (bytes rest after : List ℕ) (index : ℕ) (cell : ℤ) → Scanned bytes rest index
    → (front : List ℕ) × Spelled cell front × (rest ≡ front ++ after)
    → length bytes - length after ≤ 4 * (index + 1) → Scanned bytes after (index + 1)
scanned_next bytes rest after index cell s found few =
    let next : SoFar bytes (s.cells ++ cell ∷ []) after (index + 1) =
    so_far-next bytes s.cells rest after index cell s.so_far found in
    record {
      cells = s.cells ++ cell ∷ [];
      so_far = next;
      fits =
          λ count other h l. at_or_before bytes after index s.fits
          (leaves_of bytes (s.cells ++ cell ∷ []) after (index + 1) next) few count other h l;
    }

other_than_memory : (rest : List ℕ) (fault : CompactFault) → HasNoCell rest fault
    → (let answer : Result (List ℤ) CompactFault = Err fault in answer) ≢ Err Memory
unfolding fault_of
other_than_memory rest Short gap e = absurd (cc (ap fault_of e))
other_than_memory rest OpenGroup gap e = absurd (cc (ap fault_of e))
other_than_memory rest GroupTooLong gap e = absurd (cc (ap fault_of e))
other_than_memory rest TooMany gap e = gap
other_than_memory rest Memory gap e = gap

le_or_above : (a b : ℕ) → (a ≤ b) ⊎ (b < a)
le_or_above zero b = inl (omega arith)
le_or_above (suc a) zero = inr (omega arith)
le_or_above (suc a) (suc b) =
    elim (le_or_above a b) [ inl e ↦ inl (omega (arith, e)) | inr e ↦ inr (omega (arith, e)) ]

-- all cells were scanned
pub scanned_all : (bytes rest : List ℕ) (index count : ℕ) (cells : List ℤ)
    → Scanned bytes rest index → SpelledAll cells bytes → length cells ≡ count → count ≤ index
    → Fits bytes
scanned_all bytes rest index count cells s spelled e h k other l =
    let whole : Leaves bytes count [] =
    record {
      front = bytes;
      cells = cells;
      spelled = spelled;
      counted = e;
      whole = sym (append-nil bytes);
    } in
    let all : length bytes ≤ 4 * count + length (let none : List ℕ = [] in none) =
    s.fits count [] h whole in
    elim (le_or_above k index) [
      | inl before ↦ s.fits k other before l
      | inr behind ↦ omega (arith, all, behind, h)
    ]

-- a cell that leaves too much behind
pub too_long : (bytes rest after : List ℕ) (index : ℕ) (cell : ℤ) → Scanned bytes rest index
    → (front : List ℕ) × Spelled cell front × (rest ≡ front ++ after)
    → 4 * (index + 1) < length bytes - length after → ¬ Fits bytes
too_long bytes rest after index cell s found many fits =
    let next : SoFar bytes (s.cells ++ cell ∷ []) after (index + 1) =
    so_far-next bytes s.cells rest after index cell s.so_far found in
    omega (
      arith,
      many,
      fits (index + 1) after
          (leaves_of bytes (s.cells ++ cell ∷ []) after (index + 1) next),
    )

-- a cell stands at the front, where cells are missing
pub never_stops : (bytes rest : List ℕ) (index count : ℕ) (cells : List ℤ) (fault : CompactFault)
    → Scanned bytes rest index → SpelledAll cells bytes
    → length cells ≡ count → index < count → HasNoCell rest fault → ⊥
never_stops bytes rest index count cells fault s spelled e h gap =
    absurd (cc (one_answer bytes count (Ok cells) (Err fault) (spelled, e)
    (answers_fault bytes s.cells rest index count fault s.so_far h gap)
    (λ k. absurd (cc k)) (other_than_memory rest fault gap)))
