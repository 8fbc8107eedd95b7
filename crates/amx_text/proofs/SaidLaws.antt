-- The lines of a file say that file.
use Rattle.std.proofs.Common.{◌≡◌, ◌+◌, ◌-◌, ◌*◌, ℕ, zero, suc, ℤ, true, false, ◌==◌, List, []}
use Rattle.std.proofs.Common.{◌∷◌, ◌++◌, None, Some, length, take, drop, refl, sym, ap, ◌∙◌}
use Rattle.std.proofs.Common.{append_assoc, append-nil, take-append-drop}
use Rattle.std.specs.List.{flat_map, cons_option}
use Rattle.std.specs.Prelude.{if◌then◌else◌}
use Rattle.std.proofs.lemmas.List.Concat.{flat_map-append}
use Rattle.amx_ops.specs.declared.amx.Amx.{Amx}
use Rattle.amx_ops.specs.declared.amx.Record.{Record}
use Rattle.amx_ops.specs.Written.{Written, IsCodeOf, cells_of}
use Rattle.amx_text.specs.declared.kind.Kind.{Kind}
use Rattle.amx_text.specs.declared.kind.Kind.TheVariants.{Public, Native, Library, Variable, Tag}
use Rattle.amx_text.specs.declared.listing.TheConstants.{WIDTH}
use Rattle.amx_text.specs.Listing.{header_of}
use Rattle.amx_text.specs.Forms.{Line, EndLine, place_of}
use Rattle.amx_text.specs.Faults.{records_in, store_cells, code_in, store_in, amx_of}
use Rattle.amx_text.proofs.LinesOf.{lines_in, lines_at, rows_from, lines_of_data, lines_of_cells}
use Rattle.amx_text.proofs.LinesOf.{lines_of}

-- ---- code

pub code_over : (kind : Kind) (records : List Record) (more : List Line)
    → code_in (lines_in kind records ++ more) ≡ code_in more
code_over kind [] more = refl
code_over kind (it ∷ records) more = code_over kind records more

pub code_at : (at : ℕ) (its : List Written) (more : List Line)
    → code_in (lines_at at its ++ more) ≡ flat_map cells_of its ++ code_in more
code_at at [] more = refl
code_at at (it ∷ its) more =
    ap (λ cells. cells_of it ++ cells) (code_at (at + 4 * length (cells_of it)) its more)
    ∙ sym (append_assoc (cells_of it) (flat_map cells_of its) (code_in more))

no_code_in : (at passed : ℕ) (cells : List ℤ) (more : List Line)
    → code_in (rows_from at passed cells ++ more) ≡ code_in more
no_code_in at passed [] more = refl
no_code_in at (suc passed) (cell ∷ cells) more = no_code_in (at + 4) passed cells more
no_code_in at zero (cell ∷ cells) more = no_code_in (at + 4) (WIDTH - 1) cells more

code_of_cells : (its : List Written) (store : List ℤ)
    → code_in (lines_of_cells its store) ≡ flat_map cells_of its
code_of_cells its store =
    code_at 0 its (lines_of_data store)
    ∙ ap (λ cells. flat_map cells_of its ++ cells) (no_code_in 0 0 store (EndLine ∷ []))
    ∙ append-nil (flat_map cells_of its)

pub code_of_lines : (amx : Amx) (its : List Written)
    → code_in (lines_of amx its) ≡ flat_map cells_of its
code_of_lines amx its =
    code_over Public amx.publics _ ∙ code_over Native amx.natives _
    ∙ code_over Library amx.libraries _ ∙ code_over Variable amx.variables _
    ∙ code_over Tag amx.tags (lines_of_cells its amx.store) ∙ code_of_cells its amx.store

-- ---- data

pub store_over : (kind : Kind) (records : List Record) (more : List Line)
    → store_in (lines_in kind records ++ more) ≡ store_in more
store_over kind [] more = refl
store_over kind (it ∷ records) more = store_over kind records more

no_store_at : (at : ℕ) (its : List Written) (more : List Line)
    → store_in (lines_at at its ++ more) ≡ store_in more
no_store_at at [] more = refl
no_store_at at (it ∷ its) more = no_store_at (at + 4 * length (cells_of it)) its more

-- the cells but for those that are passed over
store_from : (at passed : ℕ) (cells : List ℤ)
    → store_in (rows_from at passed cells) ≡ drop passed cells
store_from at zero [] = refl
store_from at (suc passed) [] = refl
store_from at (suc passed) (cell ∷ cells) = store_from (at + 4) passed cells
store_from at zero (cell ∷ cells) =
    ap (λ rest. take WIDTH (cell ∷ cells) ++ rest) (store_from (at + 4) (WIDTH - 1) cells)
    ∙ take-append-drop WIDTH (cell ∷ cells)

store_of_data : (store : List ℤ) → store_in (lines_of_data store) ≡ store
store_of_data store =
    flat_map-append store_cells (rows_from 0 0 store) (EndLine ∷ [])
    ∙ append-nil (store_in (rows_from 0 0 store)) ∙ store_from 0 0 store

pub store_of_lines : (amx : Amx) (its : List Written) → store_in (lines_of amx its) ≡ amx.store
store_of_lines amx its =
    store_over Public amx.publics _ ∙ store_over Native amx.natives _
    ∙ store_over Library amx.libraries _ ∙ store_over Variable amx.variables _
    ∙ store_over Tag amx.tags (lines_of_cells its amx.store)
    ∙ no_store_at 0 its (lines_of_data amx.store) ∙ store_of_data amx.store

-- ---- tables

-- its own records
pub records_own : (kind : Kind) (records : List Record) (more : List Line)
    → (place_of kind == place_of kind) ≡ true
    → records_in kind (lines_in kind records ++ more) ≡ records ++ records_in kind more
records_own kind [] more h = refl
records_own kind (it ∷ records) more h =
    ap (λ b. cons_option (if b then Some it else None)
    (records_in kind (lines_in kind records ++ more))) h
    ∙ ap (λ rest. it ∷ rest) (records_own kind records more h)

-- those of another table
pub records_other : (table kind : Kind) (records : List Record) (more : List Line)
    → (place_of table == place_of kind) ≡ false
    → records_in table (lines_in kind records ++ more) ≡ records_in table more
records_other table kind [] more h = refl
records_other table kind (it ∷ records) more h =
    ap (λ b. cons_option (if b then Some it else None)
    (records_in table (lines_in kind records ++ more))) h
    ∙ records_other table kind records more h

no_records_at : (table : Kind) (at : ℕ) (its : List Written) (more : List Line)
    → records_in table (lines_at at its ++ more) ≡ records_in table more
no_records_at table at [] more = refl
no_records_at table at (it ∷ its) more =
    no_records_at table (at + 4 * length (cells_of it)) its more

no_records_from : (table : Kind) (at passed : ℕ) (cells : List ℤ) (more : List Line)
    → records_in table (rows_from at passed cells ++ more) ≡ records_in table more
no_records_from table at passed [] more = refl
no_records_from table at (suc passed) (cell ∷ cells) more =
    no_records_from table (at + 4) passed cells more
no_records_from table at zero (cell ∷ cells) more =
    no_records_from table (at + 4) (WIDTH - 1) cells more

no_records : (table : Kind) (its : List Written) (store : List ℤ)
    → records_in table (lines_of_cells its store) ≡ []
no_records table its store =
    no_records_at table 0 its (lines_of_data store)
    ∙ no_records_from table 0 0 store (EndLine ∷ [])

module _ (amx : Amx) (its : List Written) where
  publics_are : records_in Public (lines_of amx its) ≡ amx.publics
  publics_are =
      records_own Public amx.publics _ refl
      ∙ ap (λ rest. amx.publics ++ rest) (records_other Public Native amx.natives _ refl
      ∙ records_other Public Library amx.libraries _ refl
      ∙ records_other Public Variable amx.variables _ refl
      ∙ records_other Public Tag amx.tags (lines_of_cells its amx.store) refl
      ∙ no_records Public its amx.store)
      ∙ append-nil amx.publics

  natives_are : records_in Native (lines_of amx its) ≡ amx.natives
  natives_are =
      records_other Native Public amx.publics _ refl ∙ records_own Native amx.natives _ refl
      ∙ ap (λ rest. amx.natives ++ rest) (records_other Native Library amx.libraries _ refl
      ∙ records_other Native Variable amx.variables _ refl
      ∙ records_other Native Tag amx.tags (lines_of_cells its amx.store) refl
      ∙ no_records Native its amx.store)
      ∙ append-nil amx.natives

  libraries_are : records_in Library (lines_of amx its) ≡ amx.libraries
  libraries_are =
      records_other Library Public amx.publics _ refl
      ∙ records_other Library Native amx.natives _ refl
      ∙ records_own Library amx.libraries _ refl
      ∙ ap (λ rest. amx.libraries ++ rest) (records_other Library Variable amx.variables _ refl
      ∙ records_other Library Tag amx.tags (lines_of_cells its amx.store) refl
      ∙ no_records Library its amx.store)
      ∙ append-nil amx.libraries

  variables_are : records_in Variable (lines_of amx its) ≡ amx.variables
  variables_are =
      records_other Variable Public amx.publics _ refl
      ∙ records_other Variable Native amx.natives _ refl
      ∙ records_other Variable Library amx.libraries _ refl
      ∙ records_own Variable amx.variables _ refl
      ∙ ap (λ rest. amx.variables ++ rest)
      (records_other Variable Tag amx.tags (lines_of_cells its amx.store) refl
      ∙ no_records Variable its amx.store)
      ∙ append-nil amx.variables

  tags_are : records_in Tag (lines_of amx its) ≡ amx.tags
  tags_are =
      records_other Tag Public amx.publics _ refl
      ∙ records_other Tag Native amx.natives _ refl
      ∙ records_other Tag Library amx.libraries _ refl
      ∙ records_other Tag Variable amx.variables _ refl
      ∙ records_own Tag amx.tags (lines_of_cells its amx.store) refl
      ∙ ap (λ rest. amx.tags ++ rest) (no_records Tag its amx.store)
      ∙ append-nil amx.tags

  -- ---- all

  pub amx_of_lines : IsCodeOf its amx.code → amx_of (header_of amx) (lines_of amx its) ≡ amx
  amx_of_lines h =
      let code : code_in (lines_of amx its) ≡ amx.code = code_of_lines amx its ∙ h.cells in
      let store = store_of_lines amx its in
      λ i. record {
        flags = amx.flags;
        version = amx.version;
        code = code i;
        store = store i;
        room = amx.room;
        entry = amx.entry;
        publics = publics_are i;
        natives = natives_are i;
        libraries = libraries_are i;
        variables = variables_are i;
        tags = tags_are i;
      }
