-- The writer's layout is the file of what it was made from.
use Rattle.std.proofs.Common.{◌≡◌, ◌+◌, ◌-◌, ◌*◌, ◌/◌, ◌%◌, ◌^◌, ◌<◌, ◌≤◌, ℕ, zero, suc, ℤ, List}
use Rattle.std.proofs.Common.{[], ◌++◌, true, false, length, drop, take, refl, sym, ap, ap₂, subst}
use Rattle.std.proofs.Common.{◌∙◌, arith, eq-eqb, true≢false}
use Rattle.std.specs.Prelude.{All, Result, Ok, Err, IfOk, OnOk}
use Rattle.std.proofs.lemmas.Bool.{ne_eqb}
use Rattle.std.proofs.lemmas.List.{append_assoc, append-nil, drop_at, take_all, length-append}
use Rattle.std.proofs.lemmas.List.{length-take-le, get_or-take}
use Rattle.pawn_base.specs.Cells.{AreCells}
use Rattle.std.proofs.lemmas.List.Elements.{All-append}
use Rattle.amx_compact.specs.Spelled.{SpelledAll}
use Rattle.amx_compact.proofs.ReadLemmas.{SpelledAll-from_shortest}
use Rattle.amx_ops.specs.declared.amx.Amx.{Amx}
use Rattle.amx_ops.specs.declared.amx.Record.{Record}
use Rattle.amx_ops.specs.Writable.{IsWritable, IsWritableName, name_place, names_end, names_size}
use Rattle.amx_ops.specs.Writable.{code_place}
use Rattle.amx_format.specs.declared.encoding.Encoding.{Encoding}
use Rattle.amx_format.specs.declared.encoding.Encoding.TheVariants.{Plain, Compact}
use Rattle.amx_format.specs.declared.header.Header.{Header}
use Rattle.amx_format.specs.Numbers.{word_at, cells_at}
use Rattle.amx_format.specs.Header.{header_of, is_compact, kept, HasVersions, HasSize, HasTables}
use Rattle.amx_format.specs.Header.{HasParts, HasOrder, code_cells, store_cells}
use Rattle.amx_format.specs.Records.{records_at, table_at, AllNames, IsInside, IsClosed}
use Rattle.amx_format.specs.Faults.{IsFreeOfAll, order, row_of}
use Rattle.amx_format.specs.File.{AreCellsOf, HasCells, IsFile}
use Rattle.amx_format.specs.Layout.{half, cells, table, names, zeros, all_records, header_bytes}
use Rattle.amx_format.specs.Layout.{layout_header, layout, flag_of, natives_place, libraries_place}
use Rattle.amx_format.specs.Layout.{variables_place, tags_place, IsRow, IsLayout}
use Rattle.amx_format.specs.Ranges.{HasRanges}
use Rattle.amx_format.specs.Sorts.{Sorts, IsWritableSorted, with_publics}
use Rattle.amx_format.specs.Written.{IsWritten}
use Rattle.amx_format.proofs.HeaderLaws.{HeaderFits, header_reads, length-header}
use Rattle.amx_format.proofs.Numbers.{cells_at-cells}
use Rattle.amx_format.proofs.RowLaws.{names_size-append, length-cells, cells_short}
use Rattle.amx_format.proofs.TableLaws.{length-table, length-names, parted, Parted, Stand}
use Rattle.amx_format.proofs.TableLaws.{records_at-table, IsNamed, named-table}

pub length-zeros : (n : ℕ) → length (zeros n) ≡ n
length-zeros zero = refl
length-zeros (suc n) = let ih = length-zeros n in omega (arith, ih)

pub length-half : (x : ℕ) → length (half x) ≡ 2
unfolding half
length-half x = refl

-- the flags with that of the encoding, in which only that one is set
flags_kept : (encoding : Encoding) (flags : ℕ) → flags / 2 % 4 ≡ 0
    → kept (flags + flag_of encoding) ≡ flags
flags_kept Plain flags h = omega (arith, h)
flags_kept Compact flags h = omega (arith, h)

plain_flag : (flags : ℕ) → flags / 2 % 4 ≡ 0 → is_compact (flags + flag_of Plain) ≡ false
plain_flag flags k = ne_eqb ((flags + 0) / 4 % 2) 1 (λ e. omega (arith, k, e))

compact_flag : (flags : ℕ) → flags / 2 % 4 ≡ 0 → is_compact (flags + flag_of Compact) ≡ true
compact_flag flags k = eq-eqb ((flags + 4) / 4 % 2) 1 (omega (arith, k))

flags_fit : (encoding : Encoding) (flags : ℕ) → flags / 2 % 4 ≡ 0 → flags < 2 ^ 16
    → flags + flag_of encoding < 2 ^ 16
flags_fit Plain flags k f = omega (arith, f)
flags_fit Compact flags k f = omega (arith, k, f)

-- of plain cells the row has four bytes each
plain_size : (encoding : Encoding) (flags : ℕ) (list : List ℤ) (row : List ℕ) → flags / 2 % 4 ≡ 0
    → IsRow encoding list row
    → is_compact (flags + flag_of encoding) ≡ false → length row ≡ 4 * length list
plain_size Plain flags list row k is_row e = ap length is_row ∙ length-cells list
plain_size Compact flags list row k is_row e = absurd (true≢false (sym (compact_flag flags k) ∙ e))

-- six parts, one behind the other
long_of : (a b c d e f : List ℕ)
    → length (a ++ (b ++ (c ++ (d ++ (e ++ f)))))
    ≡ length a + (length b + (length c + (length d + (length e + length f))))
long_of a b c d e f = simp length-append refl

joined : (a b c d e f : List ℕ)
    → a ++ (b ++ (c ++ (d ++ (e ++ f)))) ≡ (a ++ (b ++ (c ++ (d ++ e)))) ++ f
joined a b c d e f = simp append_assoc

-- the row of the cells stands behind a front
cells_stand : (encoding : Encoding) (flags : ℕ) (bytes front row : List ℕ) (h : Header)
    (list : List ℤ) → flags / 2 % 4 ≡ 0 → h.flags ≡ flags + flag_of encoding
    → bytes ≡ front ++ row → length front ≡ h.cod → h.size ≡ h.cod + length row
    → code_cells h + store_cells h ≡ length list
    → IsRow encoding list row → AreCells list → AreCellsOf (is_compact h.flags) bytes h list
cells_stand Plain flags bytes front row h list k e whole front_long size count is_row fits =
    let plain : is_compact h.flags ≡ false = ap is_compact e ∙ plain_flag flags k in
    let there : bytes ≡ front ++ (cells list ++ []) =
    whole ∙ ap (λ (r : List ℕ). front ++ r) (is_row ∙ sym (append-nil (cells list))) in
    let read : cells_at bytes h.cod (code_cells h + store_cells h) ≡ list =
    ap₂ (λ (b : List ℕ) (n : ℕ). cells_at b h.cod n) there count
    ∙ cells_at-cells front [] h.cod list front_long fits in
    subst (λ b. AreCellsOf b bytes h list) (sym plain) (sym read)
cells_stand Compact flags bytes front row h list k e whole front_long size count is_row fits =
    let compact : is_compact h.flags ≡ true = ap is_compact e ∙ compact_flag flags k in
    let there : row_of bytes h ≡ row =
    ap (take (h.size - h.cod)) (ap (drop h.cod) whole ∙ drop_at front row h.cod front_long)
    ∙ take_all (h.size - h.cod) row (omega (arith, size)) in
    subst (λ b. AreCellsOf b bytes h list) (sym compact)
    (subst (SpelledAll list) (sym there) (SpelledAll-from_shortest list row is_row))

module _ (encoding : Encoding) (amx : Amx) (row : List ℕ) (w : IsWritable amx) (r : HasRanges amx)
    (is_row : IsRow encoding (amx.code ++ amx.store) row) where
  abbrev h : Header
  h = layout_header encoding amx (length row)

  abbrev bytes : List ℕ
  bytes = layout encoding amx row

  abbrev records : List Record
  records = all_records amx

  abbrev back : List ℕ
  back = zeros (code_place amx - names_end amx) ++ row

  count : length records ≡ length amx.publics
      + (length amx.natives + (length amx.libraries + (length amx.variables + length amx.tags)))
  count = simp length-append refl

  size_of_names : names_size records
      ≡ names_size amx.publics + (names_size amx.natives
      + (names_size amx.libraries + (names_size amx.variables + names_size amx.tags)))
  size_of_names = simp names_size-append refl

  fits : HeaderFits h
  fits = record {
    size = omega (arith, cells_short encoding amx row is_row, w.size);
    magic = omega arith;
    flags = flags_fit encoding amx.flags w.flags r.flags;
    record_size = omega arith;
    cod = omega (arith, w.size);
    dat = omega (arith, w.top);
    hea = omega (arith, w.top);
    stp = omega (arith, w.top);
    cip = r.entry;
    publics = omega arith;
    natives = omega (arith, w.size);
    libraries = omega (arith, w.size);
    variables = omega (arith, w.size);
    tags = omega (arith, w.size);
    names = omega (arith, w.size);
  }

  reads : header_of bytes ≡ h
  reads = header_reads h _ fits

  long : length bytes ≡ code_place amx + length row
  long =
      long_of (header_bytes h) (table (name_place amx + 2) records) (half 31) (names records)
      (zeros (code_place amx - names_end amx)) row
      ∙ omega (
        arith,
        length-header h,
        length-table (name_place amx + 2) records,
        length-half 31,
        length-names records,
        length-zeros (code_place amx - names_end amx),
        count,
        size_of_names,
      )

  stands : Stand (header_bytes h) (half 31) 56 (name_place amx + 2) records
  stands = record {
    front_long = length-header h;
    mid_long = omega (arith, length-half 31, count);
    below = omega (arith, w.size, size_of_names);
  }

  good : All IsWritableName records
  good =
      All-append IsWritableName amx.publics _ w.publics
      (All-append IsWritableName amx.natives _ w.natives
      (All-append IsWritableName amx.libraries _ w.libraries
      (All-append IsWritableName amx.variables amx.tags w.variables w.tags)))

  all_read : records_at bytes 56 (length records) ≡ records
  all_read =
      records_at-table (header_bytes h) (half 31) back 56
      (name_place amx + 2) records r.addresses good stands

  named : (index : ℕ) → index < length records
      → IsNamed bytes (name_place amx + 2) (name_place amx + 2 + names_size records)
      (word_at bytes (56 + 8 * index + 4))
  named = named-table (header_bytes h) (half 31) back 56 (name_place amx + 2) records stands

  inside : AllNames (IsInside h) bytes h
  inside index below =
      let it = named index (omega (arith, below, count)) in
      record { behind = it.behind; before = omega (arith, it.from, it.before, size_of_names) }

  ended : (index place : ℕ) → IsNamed bytes (name_place amx + 2)
      (name_place amx + 2 + names_size records) place → IsClosed (take (code_place amx) bytes) place
  ended index place it =
      let before : it.end < code_place amx = omega (arith, it.before, size_of_names) in
      record {
        end = it.end;
        behind = it.from;
        within = omega (arith, before, length-take-le (code_place amx) bytes (omega (arith, long)));
        zero = get_or-take (code_place amx) bytes it.end 0 before ∙ it.zero_;
      }

  closed : AllNames (IsClosed (take h.cod bytes)) bytes h
  closed index below = ended index _ (named index (omega (arith, below, count)))

  versions : HasVersions h
  versions = record { format = refl; first = w.version.0; last = w.version.1 }

  size_ : HasSize h (length bytes)
  size_ = record {
    least = omega arith;
    signed = omega (arith, cells_short encoding amx row is_row, w.size);
    within = omega (arith, long);
    whole = λ e. sym long;
    plain =
        λ e. omega (
          arith,
          plain_size encoding amx.flags
              (amx.code ++ amx.store) row w.flags is_row e,
          length-append amx.code amx.store,
        );
  }

  tables : HasTables h
  tables = record {
    first = omega arith;
    publics = record { rises = omega arith; whole = omega arith };
    natives = record { rises = omega arith; whole = omega arith };
    libraries = record { rises = omega arith; whole = omega arith };
    variables = record { rises = omega arith; whole = omega arith };
    tags = record { rises = omega arith; whole = omega arith };
    names = omega arith;
  }

  parts : HasParts h
  parts = record {
    code = record { rises = omega arith; whole = omega arith };
    store = record { rises = omega arith; whole = omega arith };
    room = record { rises = omega arith; whole = omega arith };
    memory = omega (arith, w.memory);
    top = omega (arith, w.top);
    row = λ e. omega arith;
  }

  sound : IsFreeOfAll order bytes
  sound = (
    omega (arith, long),
    (
      ap (λ (k : Header). k.magic) reads,
      (
        subst HasVersions (sym reads) versions,
        (
          ap (λ (k : Header). k.record_size) reads,
          (
            subst (λ (k : Header). HasSize k (length bytes)) (sym reads) size_,
            (
              subst HasOrder (sym reads) (record { tables = tables; parts = parts }),
              (
                subst (λ (k : Header). AllNames (IsInside k) bytes k) (sym reads) inside,
                (
                  subst (λ (k : Header). AllNames (IsClosed (take k.cod bytes)) bytes k)
                      (sym reads) closed,
                  tt,
                ),
              ),
            ),
          ),
        ),
      ),
    ),
  )

  front : List ℕ
  front =
      header_bytes h ++ (table (name_place amx + 2) records
      ++ (half 31 ++ (names records ++ zeros (code_place amx - names_end amx))))

  whole : bytes ≡ front ++ row
  unfolding front
  whole =
      joined (header_bytes h) (table (name_place amx + 2) records) (half 31) (names records)
      (zeros (code_place amx - names_end amx)) row

  front_long : length front ≡ code_place amx
  front_long = omega (arith, ap length whole, length-append front row, long)

  stored : HasCells bytes amx.code amx.store
  stored =
      let row_here : AreCellsOf (is_compact h.flags) bytes h (amx.code ++ amx.store) =
      cells_stand encoding amx.flags bytes front row h
      (amx.code ++ amx.store) w.flags refl whole front_long refl
      (omega (arith, length-append amx.code amx.store)) is_row r.cells in
      record {
        code_length = sym (ap code_cells reads ∙ omega arith);
        store_length = sym (ap store_cells reads ∙ omega arith);
        row =
            subst (λ (k : Header). AreCellsOf (is_compact k.flags) bytes k (amx.code ++ amx.store))
            (sym reads) row_here;
      }

  first_part : Parted bytes 56 amx.publics
      (amx.natives ++ (amx.libraries ++ (amx.variables ++ amx.tags)))
  first_part = parted bytes 56 amx.publics _ all_read

  second_part : Parted bytes (natives_place amx) amx.natives
      (amx.libraries ++ (amx.variables ++ amx.tags))
  second_part = parted bytes (natives_place amx) amx.natives _ first_part.rest

  third_part : Parted bytes (libraries_place amx) amx.libraries (amx.variables ++ amx.tags)
  third_part = parted bytes (libraries_place amx) amx.libraries _ second_part.rest

  fourth_part : Parted bytes (variables_place amx) amx.variables amx.tags
  fourth_part = parted bytes (variables_place amx) amx.variables amx.tags third_part.rest

  pub file : IsFile bytes amx
  file = record {
    sound = sound;
    flags = sym (ap (λ (k : Header). kept k.flags) reads ∙ flags_kept encoding amx.flags w.flags);
    version = sym (ap (λ (k : Header). k.version) reads);
    cells = stored;
    room = sym (ap (λ (k : Header). (k.stp - k.hea) / 4) reads ∙ omega arith);
    entry = sym (ap (λ (k : Header). k.cip) reads);
    publics =
        sym (ap (λ (k : Header). table_at bytes k.publics k.natives) reads
        ∙ ap (records_at bytes 56) (omega arith) ∙ first_part.first);
    natives =
        sym (ap (λ (k : Header). table_at bytes k.natives k.libraries) reads
        ∙ ap (records_at bytes (natives_place amx)) (omega arith) ∙ second_part.first);
    libraries =
        sym (ap (λ (k : Header). table_at bytes k.libraries k.variables) reads
        ∙ ap (records_at bytes (libraries_place amx)) (omega arith) ∙ third_part.first);
    variables =
        sym (ap (λ (k : Header). table_at bytes k.variables k.tags) reads
        ∙ ap (records_at bytes (variables_place amx)) (omega arith) ∙ fourth_part.first);
    tags =
        sym (ap (λ (k : Header). table_at bytes k.tags k.names) reads
        ∙ ap (records_at bytes (tags_place amx)) (omega arith) ∙ fourth_part.rest);
  }

pub layout_is_file : (encoding : Encoding) (amx : Amx) (bytes : List ℕ)
    → IsLayout encoding amx bytes → IsWritable amx → HasRanges amx → IsFile bytes amx
layout_is_file encoding amx there it w r =
    subst (λ (b : List ℕ). IsFile b amx) (sym it.is) (file encoding amx it.row w r it.is_row)

-- what the writer answers
pub written : (encoding : Encoding) (amx : Amx) (publics : List Record) (bytes : List ℕ)
    → Sorts amx.publics publics → IsWritableSorted amx
    → IsLayout encoding (with_publics amx publics) bytes → HasRanges (with_publics amx publics)
    → IsWritten encoding amx bytes
written encoding amx publics bytes sorts w layout r = record {
  publics = publics;
  sorts = sorts;
  layout = layout;
  file = layout_is_file encoding (with_publics amx publics) bytes layout (w publics sorts) r;
}

pub written_by : {E : Type 0} (encoding : Encoding) (amx : Amx) (lent publics given : List Record)
    (result : Result (List ℕ) E) → lent ≡ amx.publics
    → Sorts lent publics → given ≡ publics → IsWritableSorted amx
    → IfOk result (IsLayout encoding (with_publics amx given))
    → OnOk result (HasRanges (with_publics amx given)) → IfOk result (IsWritten encoding amx)
written_by encoding amx lent publics given (Ok out) e sorts f w layout r =
    written encoding amx given out
    (subst (Sorts amx.publics) (sym f)
    (subst (λ (list : List Record). Sorts list publics) e sorts)) w layout r
written_by encoding amx lent publics given (Err fault) e sorts f w layout r = tt
