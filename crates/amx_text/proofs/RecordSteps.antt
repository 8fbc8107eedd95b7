-- What a name behind a record's address says of the record.
use denote.Ref.{Bor}
use Rattle.std.proofs.Common.{◌≡◌, ◌++◌, ℤ, ℕ, List, Option, None, Some, Ok, codes, sym, subst}
use Rattle.std.proofs.Common.{to_z, of_z, w32}
use Rattle.std.proofs.lemmas.Int.{to_z-of_z}
use Rattle.amx_text.specs.Forms.{RecordFits}
use Rattle.amx_text.specs.Readers.{after_word, cell_at, record_text, ReadsName}
use Rattle.amx_text.proofs.LineReads.{NoRecord, no_name, no_line, a_record}
use Rattle.amx_text.proofs.ReaderLaws.{cell_is}

module _ (text : List ℕ) (address : ℤ) (behind : List ℕ)
    (first : cell_at text ≡ Some (address, behind)) (chars : List ℕ)
    (quote : after_word (codes " \"") behind ≡ Some chars) (found : Option (List ℕ × Bor (List ℕ)))
    (read : ReadsName chars (Ok found)) where
  pub name_missing : found ≡ None → NoRecord text
  name_missing e =
      let it = rw e at read in
      no_name text address behind first chars quote it.0 it.1 it.2 it.3

  module _ (name : List ℕ) (line : Bor (List ℕ)) (is : found ≡ Some (name, line)) where
    pub line_missing : after_word (codes "\n") line.now ≡ None → NoRecord text
    line_missing e =
        let it = rw is at read in
        no_line text address behind first chars quote name it.0 it.1 line.now it.2 e

    pub record_there : (rest : List ℕ) → after_word (codes "\n") line.now ≡ Some rest
        → RecordFits (record { address = to_z w32 (of_z w32 address); name = name })
        × (text ≡ record_text (record { address = to_z w32 (of_z w32 address); name = name })
        ++ rest)
    record_there rest e =
        let it = rw is at read in
        subst (λ (z : ℤ). RecordFits (record { address = z; name = name })
        × (text ≡ record_text (record { address = z; name = name }) ++ rest))
        (sym (to_z-of_z w32 address (cell_is address text behind first).fits))
        (a_record text address behind first chars quote name it.0 it.1 line.now it.2 rest e)
