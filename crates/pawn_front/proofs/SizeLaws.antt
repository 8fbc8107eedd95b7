-- A file of a good program has no more bytes than a file may have, whatever its encoding.
use Rattle.std.proofs.Common.{◌≡◌, ◌+◌, ◌-◌, ◌*◌, ◌≤◌, ◌∙◌, ℕ, suc, List, [], ◌∷◌, ◌++◌}
use Rattle.std.proofs.Common.{length, map, refl, ap, arith, length-append}
use Rattle.std.specs.Prelude.{All, sum_by}
use Rattle.std.proofs.lemmas.List.Sums.{sum_by-append, sum_by-cons}
use Rattle.pawn_cells.specs.Cells.{cell_of}
use Rattle.pawn_meaning.specs.ProgramNames.{IsName, names_of}
use Rattle.pawn_meaning.specs.Program.{Program, Public, Tag}
use Rattle.amx_ops.specs.declared.amx.Amx.{Amx}
use Rattle.amx_ops.specs.declared.amx.Record.{Record}
use Rattle.amx_ops.specs.Writable.{table_size, names_size, over_tables, name_place, names_end}
use Rattle.amx_ops.specs.Writable.{code_place, stored_cells}
use Rattle.amx_format.specs.declared.encoding.Encoding.{Encoding}
use Rattle.amx_format.specs.declared.header.TheConstants.{FILE_LIMIT}
use Rattle.amx_format.specs.Layout as layout
use Rattle.amx_format.specs.Layout.{half, zeros, all_records, header_bytes, layout_header, table}
use Rattle.amx_format.specs.Layout.{IsRow, IsLayout}
use Rattle.amx_format.proofs.HeaderLaws.{length-header}
use Rattle.amx_format.proofs.FileLaws.{length-zeros, length-half}
use Rattle.amx_format.proofs.RowLaws.{names_size-append, cells_short}
use Rattle.amx_format.proofs.TableLaws.{length-table, length-names}
use Rattle.gen_agrees.specs.Agrees.{Agrees}
use Rattle.gen_agrees.specs.Shape.{names, native_record}
use Rattle.types_laws.specs.GoodSources.{IsGoodProgram}

-- ---- names

-- how many bytes some names have
abbrev bytes_in : List (List ℕ) → ℕ
bytes_in all = sum_by (λ (n : List ℕ). length n) all

-- a name has a byte at least
count : (all : List (List ℕ)) → All IsName all → length all ≤ bytes_in all
count [] h = omega arith
count (name ∷ all) h =
    let here : IsName name = h 0 name (omega arith) in
    omega (
      arith,
      sum_by-cons (λ (n : List ℕ). length n) name all,
      here.least,
      count all (λ i d k. h (suc i) d (omega (arith, k))),
    )

-- the records of a table, and their names with a zero behind each
records_size : (records : List Record)
    → table_size records + names_size records
    ≡ 9 * length (names records) + bytes_in (names records)
records_size [] = refl
records_size (x ∷ xs) =
    omega (
      arith,
      records_size xs,
      sum_by-cons (λ (it : Record). length it.name + 1) x xs,
      sum_by-cons (λ (n : List ℕ). length n) x.name (names xs),
    )

natives_named : (all : List (List ℕ)) → names (map native_record all) ≡ all
natives_named [] = refl
natives_named (name ∷ all) = ap (λ l. name ∷ l) (natives_named all)

tags_named : (tags : List Tag)
    → names (map (λ (it : Tag). record { address = cell_of it.number; name = it.name }) tags)
    ≡ map (λ (it : Tag). it.name) tags
tags_named [] = refl
tags_named (tag ∷ tags) = ap (λ l. tag.name ∷ l) (tags_named tags)

module _ (program : Program) (amx : Amx) (good : IsGoodProgram program)
    (agrees : Agrees program amx) where
  abbrev natives : List (List ℕ)
  natives = program.natives

  abbrev publics : List (List ℕ)
  publics = map (λ (it : Public). it.name) program.publics

  abbrev tags : List (List ℕ)
  tags = map (λ (it : Tag). it.name) program.tags

  few : length natives + (length publics + length tags) ≤ 1048576
  few =
      omega (
        arith,
        count (names_of program) good.names.names,
        good.names.bytes,
        length-append natives (publics ++ tags),
        length-append publics tags,
      )

  small : bytes_in natives + (bytes_in publics + bytes_in tags) ≤ 1048576
  small =
      omega (
        arith,
        good.names.bytes,
        sum_by-append (λ (n : List ℕ). length n) natives (publics ++ tags),
        sum_by-append (λ (n : List ℕ). length n) publics tags,
      )

  natives_size : table_size amx.natives + names_size amx.natives
      ≡ 9 * length natives + bytes_in natives
  natives_size =
      let e : names amx.natives ≡ natives = ap names agrees.shape.natives ∙ natives_named natives in
      records_size amx.natives ∙ ap (λ l. 9 * length l + bytes_in l) e

  publics_size : table_size amx.publics + names_size amx.publics
      ≡ 9 * length publics + bytes_in publics
  publics_size = records_size amx.publics ∙ ap (λ l. 9 * length l + bytes_in l) agrees.shape.publics

  tags_size : table_size amx.tags + names_size amx.tags ≡ 9 * length tags + bytes_in tags
  tags_size =
      let e : names amx.tags ≡ tags = ap names agrees.shape.tags ∙ tags_named program.tags in
      records_size amx.tags ∙ ap (λ l. 9 * length l + bytes_in l) e

  none : (records : List Record) → records ≡ [] → table_size records + names_size records ≡ 0
  none records e = ap (λ l. table_size l + names_size l) e

  tables : over_tables table_size amx + over_tables names_size amx ≤ 10485760
  tables =
      omega (
        arith,
        few,
        small,
        natives_size,
        publics_size,
        tags_size,
        none amx.libraries agrees.shape.no_libraries,
        none amx.variables agrees.shape.no_variables,
      )

  cells : stored_cells amx ≤ 8388610
  cells = omega (arith, agrees.shape.code, good.limits.weight, agrees.shape.store)

-- ---- bytes

long_of : (a b c d e f : List ℕ)
    → length (a ++ (b ++ (c ++ (d ++ (e ++ f)))))
    ≡ length a + (length b + (length c + (length d + (length e + length f))))
long_of a b c d e f = simp length-append refl

module _ (encoding : Encoding) (amx : Amx) (row : List ℕ)
    (is_row : IsRow encoding (amx.code ++ amx.store) row) where
  all_count : length (all_records amx)
      ≡ length amx.publics + (length amx.natives
      + (length amx.libraries + (length amx.variables + length amx.tags)))
  all_count = simp length-append refl

  all_names : names_size (all_records amx)
      ≡ names_size amx.publics + (names_size amx.natives
      + (names_size amx.libraries + (names_size amx.variables + names_size amx.tags)))
  all_names = simp names_size-append refl

  long : length (layout.layout encoding amx row) ≡ code_place amx + length row
  long =
      long_of (header_bytes (layout_header encoding amx (length row)))
      (table (name_place amx + 2) (all_records amx)) (half 31)
      (layout.names (all_records amx)) (zeros (code_place amx - names_end amx)) row
      ∙ omega (
        arith,
        length-header (layout_header encoding amx (length row)),
        length-table (name_place amx + 2) (all_records amx),
        length-half 31,
        length-names (all_records amx),
        length-zeros (code_place amx - names_end amx),
        all_count,
        all_names,
      )

pub file_small : (program : Program) (amx : Amx) (encoding : Encoding) (bytes : List ℕ)
    → IsGoodProgram program → Agrees program amx
    → IsLayout encoding amx bytes → length bytes ≤ FILE_LIMIT
file_small program amx encoding bytes good agrees it =
    omega (
      arith,
      ap length it.is,
      long encoding amx it.row it.is_row,
      cells_short encoding amx it.row it.is_row,
      cells program amx good agrees,
      tables program amx good agrees,
    )
