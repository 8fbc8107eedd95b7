-- The Amx of a file is within the limits of memory and of tables.
use Rattle.std.proofs.Common.{◌≡◌, ◌+◌, ◌-◌, ◌/◌, ◌<◌, ◌≤◌, ◌^◌, ℕ, List, Result, Ok}
use Rattle.std.proofs.Common.{Err, length, ap, ◌∙◌, arith}
use Rattle.std.specs.Prelude.{IfOk}
use Rattle.amx_ops.specs.declared.amx.Amx.{Amx}
use Rattle.amx_format.specs.declared.fault.FormatFault.{FormatFault}
use Rattle.amx_format.specs.declared.header.Header.{Header}
use Rattle.amx_format.specs.Header.{header_of, HasSize, HasOrder}
use Rattle.amx_format.specs.Records.{records_at}
use Rattle.amx_format.specs.File.{IsFile, Answers}
use Rattle.amx_format.specs.Limits.{IsWithinLimits}
use Rattle.amx_format.proofs.TableLaws.{length-records_at}
use Rattle.amx_ops.specs.Writable.{cells_limit, memory_limit}

-- the parts of a file from code to stack top, in cells
parts : (cod dat hea stp code store room : ℕ) → cod ≤ dat → dat ≤ hea → hea ≤ stp
    → stp - cod ≤ memory_limit
    → code ≡ (dat - cod) / 4 → store ≡ (hea - dat) / 4 → room ≡ (stp - hea) / 4
    → code + store + room ≤ cells_limit
parts cod dat hea stp code store room a b c d e f g = omega arith

few : (first past top n : ℕ) → past ≤ top → top < 2 ^ 31 → n ≡ (past - first) / 8 → n < 2 ^ 31
few first past top n h t e = omega arith

module _ (bytes : List ℕ) (amx : Amx) (file : IsFile bytes amx) where
  abbrev h : Header
  h = header_of bytes

  size : HasSize h (length bytes)
  size = file.sound.1.1.1.1.0

  order : HasOrder h
  order = file.sound.1.1.1.1.1.0

  pub within_limits : IsWithinLimits amx
  within_limits =
      let t = order.tables in
      let p = order.parts in
      let last : h.libraries ≤ h.stp =
      omega (
        arith,
        t.libraries.rises,
        t.variables.rises,
        t.tags.rises,
        t.names,
        p.code.rises,
        p.store.rises,
        p.room.rises,
      ) in
      record {
        memory =
            parts h.cod h.dat h.hea h.stp _ _ _ p.code.rises p.store.rises p.room.rises p.memory
            file.cells.code_length file.cells.store_length file.room;
        publics = few h.publics h.natives h.stp _ (omega (arith, t.natives.rises, last)) p.top
            (ap length file.publics ∙ length-records_at bytes h.publics
            ((h.natives - h.publics) / 8));
        natives = few h.natives h.libraries h.stp _ last p.top
            (ap length file.natives ∙ length-records_at bytes h.natives
            ((h.libraries - h.natives) / 8));
      }

pub limits_of : (bytes : List ℕ) (answer : Result Amx FormatFault) → Answers bytes answer
    → IfOk answer IsWithinLimits
limits_of bytes (Ok amx) file = within_limits bytes amx file
limits_of bytes (Err fault) first = tt
