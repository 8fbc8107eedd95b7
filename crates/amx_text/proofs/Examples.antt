-- The listing of the file of an empty main, and lines of each kind.
use Rattle.std.proofs.Common.{◌≡◌, pos, negsuc, [], ◌∷◌, ◌++◌, codes, refl}
use Rattle.std.specs.Fmt.{digits}
use Rattle.amx_ops.specs.Table.{row_at}
use Rattle.amx_ops.proofs.Examples.{empty_main, file_of}
use Rattle.amx_text.specs.Lines.{address_text, record_line}
use Rattle.amx_text.specs.Listing.{code_lines, data_from, listing}

of_an_empty_main : listing (file_of empty_main [])
    ≡ codes "amx flags 0 version 8 code 5 data 0 room 4096 entry 8\n"
    ++ (codes "code\n00000000 HALT 0\n00000008 PROC\n"
    ++ codes "0000000c ZERO.pri\n00000010 RETN\ndata\nend\n")
unfolding row_at address_text digits
of_an_empty_main = refl

-- a case table shows its count, its default and its pairs
case_table : code_lines (pos 134 ∷ pos 130 ∷ pos 1 ∷ pos 0 ∷ negsuc 6 ∷ pos 4 ∷ [])
    ≡ codes "00000000 NOP\n00000004 CASETBL 1 0 -7 4\n"
unfolding row_at address_text digits
case_table = refl

-- the ninth cell begins a line
nine_cells : data_from 0 0 (negsuc 0 ∷ pos 0 ∷ pos 2 ∷ pos 3 ∷ pos 4 ∷ pos 5 ∷ pos 6 ∷ pos 7
    ∷ pos 8 ∷ [])
    ≡ codes "00000000 -1 0 2 3 4 5 6 7\n00000020 8\n"
unfolding address_text digits
nine_cells = refl

-- a name's byte that isn't printable, or would end the name, is shown by its number
names : record_line (codes "native") (record { address = negsuc 1; name = 34 ∷ 92 ∷ 200 ∷ 65 ∷ [] })
    ≡ codes "native -2 \"\\34;\\92;\\200;A\"\n"
unfolding digits
names = refl
