-- What a file's bytes are, where they are the file of an Amx: the row of its cells.
use Rattle.std.proofs.Common.{◌≡◌, ◌+◌, ◌-◌, ◌*◌, ◌≤◌, ◌++◌, ℕ, List, Bool, true}
use Rattle.std.proofs.Common.{false, length, take, drop, refl, ap, subst, arith}
use Rattle.amx_compact.specs.Spelled.{SpelledAll}
use Rattle.amx_ops.specs.declared.amx.Amx.{Amx}
use Rattle.amx_format.specs.declared.header.Header.{Header}
use Rattle.amx_format.specs.Header.{header_of, is_compact, code_cells, store_cells, HasSize}
use Rattle.amx_format.specs.Header.{HasOrder}
use Rattle.amx_format.specs.Faults.{row_of}
use Rattle.amx_format.specs.File.{AreCellsOf, IsFile}
use Rattle.amx_load.specs.Plain.{ArePlain}
use Rattle.amx_load.proofs.PlainLaws.{plain_row}

module _ (bytes : List ℕ) (amx : Amx) (file : IsFile bytes amx) where
  abbrev h : Header
  h = header_of bytes

  has_size : HasSize h (length bytes)
  has_size = file.sound.1.1.1.1.0

  has_order : HasOrder h
  has_order = file.sound.1.1.1.1.1.0

  front_by : (b : Bool) → is_compact h.flags ≡ b → h.cod ≤ h.size
  front_by true e = has_order.parts.row e
  front_by false e =
      omega (
        arith,
        has_size.plain e,
        has_order.parts.code.rises,
        has_order.parts.store.rises,
      )

  -- the row stands in the bytes
  pub row_begins : h.cod ≤ h.size
  row_begins = front_by (is_compact h.flags) refl

  pub row_ends : h.size ≤ length bytes
  row_ends = has_size.within

  plain_size : is_compact h.flags ≡ false → h.size - h.cod ≡ 4 * (code_cells h + store_cells h)
  plain_size e =
      omega (
        arith,
        has_size.plain e,
        has_order.parts.code.rises,
        has_order.parts.code.whole,
        has_order.parts.store.rises,
        has_order.parts.store.whole,
      )

  -- plain cells are four bytes each
  pub row_plain : is_compact h.flags ≡ false → ArePlain (amx.code ++ amx.store) (row_of bytes h)
  row_plain e =
      plain_row bytes h.cod (code_cells h + store_cells h) (amx.code ++ amx.store) (row_of bytes h)
      (subst (λ b. AreCellsOf b bytes h (amx.code ++ amx.store)) e file.cells.row)
      (ap (λ n. take n (drop h.cod bytes)) (plain_size e))
      (omega (arith, plain_size e, row_begins, row_ends))

  -- compact cells are their spellings
  pub row_spelled : is_compact h.flags ≡ true → SpelledAll (amx.code ++ amx.store) (row_of bytes h)
  row_spelled e = subst (λ b. AreCellsOf b bytes h (amx.code ++ amx.store)) e file.cells.row
