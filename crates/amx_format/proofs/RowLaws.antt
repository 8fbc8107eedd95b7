-- The bytes of cells, tables and names that stand one behind the other.
use Rattle.std.proofs.Common.{◌≡◌, ◌+◌, ◌*◌, ◌≤◌, ℕ, ℤ, List, [], ◌∷◌, ◌++◌, length, refl, sym, ap}
use Rattle.std.proofs.Common.{subst, ◌∙◌, arith, ◌<◌, pos, get_or, take, add-one}
use Rattle.std.specs.Prelude.{FitsSigned}
use Rattle.std.specs.List.Sorted.{IsPermutation, IsSortedByKey, IsStableByKey}
use Rattle.std.specs.Ordering.{nat_cmp}
use Rattle.std.specs.Cmp.Lexicographic.{slice_cmp}
use Rattle.std.proofs.Math.Seq.{take-suc}
use Rattle.std.proofs.lemmas.List.Elements.{All-append}
use Rattle.std.proofs.lemmas.List.{append_assoc, append-nil, length-append}
use Rattle.std.proofs.lemmas.List.Sums.{sum_by-cons, sum_by-append}
use Rattle.std.specs.Int.{w32, cast_unsigned}
use Rattle.amx_compact.specs.Spelled.{Shortest, ShortestAll}
use Rattle.amx_ops.specs.declared.amx.Amx.{Amx}
use Rattle.amx_ops.specs.declared.amx.Record.{Record}
use Rattle.amx_ops.specs.Writable.{names_size, stored_cells}
use Rattle.amx_format.specs.declared.encoding.Encoding.{Encoding}
use Rattle.amx_format.specs.declared.encoding.Encoding.TheVariants.{Plain, Compact}
use Rattle.amx_format.specs.Layout.{word, cells, table, names, all_records, IsRow}
use Rattle.amx_format.proofs.Numbers.{length-word}
use Rattle.pawn_base.specs.Cells.{AreCells}
use Rattle.amx_format.specs.Ranges.{AddressesFit}
use Rattle.amx_format.specs.Sorts.{Sorts, with_publics}

pub cells-append : (a b : List ℤ) → cells (a ++ b) ≡ cells a ++ cells b
cells-append [] b = refl
cells-append (z ∷ a) b =
    ap (λ (bytes : List ℕ). word (cast_unsigned w32 z) ++ bytes) (cells-append a b)
    ∙ sym (append_assoc (word (cast_unsigned w32 z)) (cells a) (cells b))

pub names-append : (a b : List Record) → names (a ++ b) ≡ names a ++ names b
names-append [] b = refl
names-append (it ∷ a) b =
    ap (λ (bytes : List ℕ). it.name ++ (0 ∷ bytes)) (names-append a b)
    ∙ sym (append_assoc it.name (0 ∷ names a) (names b))

pub names_size-cons : (it : Record) (records : List Record)
    → names_size (it ∷ records) ≡ (length it.name + 1) + names_size records
names_size-cons it records = sum_by-cons (λ (r : Record). length r.name + 1) it records

pub names_size-append : (a b : List Record) → names_size (a ++ b) ≡ names_size a + names_size b
names_size-append a b = sum_by-append (λ (r : Record). length r.name + 1) a b

pub table-append : (place : ℕ) (a b : List Record)
    → table place (a ++ b) ≡ table place a ++ table (place + names_size a) b
table-append place [] b = ap (λ n. table n b) (omega arith)
table-append place (it ∷ a) b =
    let next : ℕ = place + (length it.name + 1) in
    let moved : table (next + names_size a) b ≡ table (place + names_size (it ∷ a)) b =
    ap (λ n. table n b) (omega (arith, names_size-cons it a)) in
    let more : table next (a ++ b) ≡ table next a ++ table (place + names_size (it ∷ a)) b =
    table-append next a b ∙ ap (λ (bytes : List ℕ). table next a ++ bytes) moved in
    let w : List ℕ = word (cast_unsigned w32 it.address) in
    ap (λ (bytes : List ℕ). w ++ (word place ++ bytes)) more
    ∙ sym (append_assoc w (word place ++ table next a) (table (place + names_size (it ∷ a)) b)
    ∙ ap (λ (bytes : List ℕ). w ++ bytes)
    (append_assoc (word place) (table next a) (table (place + names_size (it ∷ a)) b)))

pub shortest-append : (a b : List ℤ) (x y : List ℕ) → ShortestAll a x → ShortestAll b y
    → ShortestAll (a ++ b) (x ++ y)
shortest-append [] b x y s t = subst (ShortestAll b) (sym (ap (λ (bytes : List ℕ). bytes ++ y) s)) t
shortest-append (cell ∷ a) b x y (front, rest, spelled, whole, more) t = (
  front,
  rest ++ y,
  spelled,
  ap (λ (bytes : List ℕ). bytes ++ y) whole
      ∙ append_assoc front rest y,
  shortest-append a b rest y more t,
)

pub shortest-one : (cell : ℤ) (x : List ℕ) → Shortest cell x → ShortestAll (cell ∷ []) x
shortest-one cell x s = (x, [], s, sym (append-nil x), refl)

pub length-cells : (row : List ℤ) → length (cells row) ≡ 4 * length row
length-cells [] = refl
length-cells (z ∷ row) =
    let ih = length-cells row in
    simp (length-append, length-word) (omega (arith, ih))

length-shortest : (row : List ℤ) (bytes : List ℕ) → ShortestAll row bytes
    → length bytes ≤ 5 * length row
length-shortest [] bytes s = omega (arith, ap length s)
length-shortest (cell ∷ row) bytes (front, rest, spelled, whole, more) =
    let ih = length-shortest row rest more in
    omega (arith, ih, ap length whole, length-append front rest, spelled.spelled.short)

-- each cell takes at most five bytes
pub row_short : (encoding : Encoding) (row : List ℤ) (bytes : List ℕ) → IsRow encoding row bytes
    → length bytes ≤ 5 * length row
row_short Plain row bytes s = omega (arith, ap length s, length-cells row)
row_short Compact row bytes s = length-shortest row bytes s

-- those of a file
pub cells_short : (encoding : Encoding) (amx : Amx) (row : List ℕ)
    → IsRow encoding (amx.code ++ amx.store) row → length row ≤ 5 * stored_cells amx
cells_short encoding amx row is_row =
    omega (
      arith,
      row_short encoding (amx.code ++ amx.store) row is_row,
      length-append amx.code amx.store,
    )

-- two rows, each of compact cells
pub two_rows : (a b code store : List ℤ) (start one two : List ℕ) → start ≡ [] → a ≡ code
    → b ≡ store
    → (x : List ℕ) × ShortestAll a x × (one ≡ start ++ x)
    → (y : List ℕ) × ShortestAll b y × (two ≡ one ++ y) → ShortestAll (code ++ store) two
two_rows a b code store start one two none p q (x, s, e) (y, t, f) =
    let whole : two ≡ x ++ y =
    f ∙ ap (λ (o : List ℕ). o ++ y) (e ∙ ap (λ (o : List ℕ). o ++ x) none) in
    subst (ShortestAll (code ++ store)) (sym whole)
    (shortest-append code store x y (subst (λ (row : List ℤ). ShortestAll row x) p s)
    (subst (λ (row : List ℤ). ShortestAll row y) q t))

pub cells_fit : (a b : List ℤ) → AreCells a → AreCells b → AreCells (a ++ b)
cells_fit a b f g = All-append (λ (z : ℤ). FitsSigned w32 z) a b f g

-- ---- the five tables

pub five : {X : Type 0} (old a b c d e o1 o2 o3 o4 new : List X) → o1 ≡ old ++ a → o2 ≡ o1 ++ b
    → o3 ≡ o2 ++ c → o4 ≡ o3 ++ d → new ≡ o4 ++ e
    → new ≡ old ++ (a ++ (b ++ (c ++ (d ++ e))))
five old a b c d e o1 o2 o3 o4 new p q r s t = simp (p, q, r, s, t, append_assoc) refl

-- the records of an Amx with other publics
all_are : (amx : Amx) (a b c d e : List Record) → b ≡ amx.natives → c ≡ amx.libraries
    → d ≡ amx.variables → e ≡ amx.tags
    → a ++ (b ++ (c ++ (d ++ e))) ≡ all_records (with_publics amx a)
all_are amx a b c d e p q r s = rw (p, q, r, s) refl

pub five_names : (amx : Amx) (a b c d e : List Record) → b ≡ amx.natives → c ≡ amx.libraries
    → d ≡ amx.variables → e ≡ amx.tags
    → names a ++ (names b ++ (names c ++ (names d ++ names e)))
    ≡ names (all_records (with_publics amx a))
five_names amx a b c d e p q r s =
    let joined : names (a ++ (b ++ (c ++ (d ++ e))))
    ≡ names a ++ (names b ++ (names c ++ (names d ++ names e))) = simp names-append refl in
    sym joined ∙ ap names (all_are amx a b c d e p q r s)

pub five_tables : (amx : Amx) (first n l v t : ℕ) (a b c d e : List Record)
    → n ≡ first + names_size a → l ≡ n + names_size b → v ≡ l + names_size c
    → t ≡ v + names_size d → b ≡ amx.natives → c ≡ amx.libraries → d ≡ amx.variables → e ≡ amx.tags
    → table first a ++ (table n b ++ (table l c ++ (table v d ++ table t e)))
    ≡ table first (all_records (with_publics amx a))
five_tables amx first n l v t a b c d e i j k m p q r s =
    let joined : table first (a ++ (b ++ (c ++ (d ++ e))))
    ≡ table first a ++ (table n b ++ (table l c ++ (table v d ++ table t e))) =
    simp (table-append, sym i, sym j, sym k, sym m) refl in
    sym joined ∙ ap (table first) (all_are amx a b c d e p q r s)

pub five_fit : (amx : Amx) (a b c d e : List Record) → b ≡ amx.natives → c ≡ amx.libraries
    → d ≡ amx.variables → e ≡ amx.tags
    → AddressesFit a → AddressesFit b → AddressesFit c → AddressesFit d → AddressesFit e
    → AddressesFit (all_records (with_publics amx a))
five_fit amx a b c d e p q r s fa fb fc fd fe =
    let P : Record → Type 0 = λ (it : Record). FitsSigned w32 it.address in
    subst AddressesFit (all_are amx a b c d e p q r s)
    (All-append P a (b ++ (c ++ (d ++ e))) fa
    (All-append P b (c ++ (d ++ e)) fb (All-append P c (d ++ e) fc (All-append P d e fd fe))))

-- one compact cell more has been put
pub compact_step : (row : List ℤ) (i : ℕ) (start out next : List ℕ) (z : ℤ) → i < length row
    → z ≡ get_or row i (pos 0)
    → (bytes : List ℕ) × ShortestAll (take i row) bytes × (out ≡ start ++ bytes)
    → (x : List ℕ) × Shortest z x × (next ≡ out ++ x)
    → (bytes : List ℕ) × ShortestAll (take (i + 1) row) bytes × (next ≡ start ++ bytes)
compact_step row i start out next z h e (bytes, spelled, out_is) (x, shortest, next_is) =
    let longer : take i row ++ z ∷ [] ≡ take (i + 1) row =
    ap (λ (y : ℤ). take i row ++ y ∷ []) e
    ∙ sym (ap (λ n. take n row) (add-one i) ∙ take-suc row i (pos 0) h) in (
      bytes ++ x,
      subst (λ (list : List ℤ). ShortestAll list (bytes ++ x)) longer
          (shortest-append (take i row) (z ∷ []) bytes x spelled (shortest-one z x shortest)),
      next_is ∙ ap (λ (o : List ℕ). o ++ x) out_is ∙ append_assoc start bytes x,
    )

-- what a stable sort gives
pub sorts_by : (old copy new out : List Record) → copy ≡ old → out ≡ new → IsPermutation copy new
    → IsSortedByKey (λ (it : Record). it.name) (slice_cmp nat_cmp) new
    → IsStableByKey (λ (it : Record). it.name) (slice_cmp nat_cmp) copy new → Sorts old out
sorts_by old copy new out e f same rises stable =
    let here : Sorts copy new = record { same = same; rises = rises; stable = stable } in
    subst (Sorts old) (sym f) (subst (λ (list : List Record). Sorts list new) e here)
