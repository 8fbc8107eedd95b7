-- The file that is made of its parts.
use Rattle.std.proofs.Common.{◌≡◌, ℕ, ℤ, pos, List, [], ◌∷◌, Option, None, Some, map, refl, sym, ap}
use Rattle.std.proofs.Common.{subst, ◌∙◌, ◌+◌, ◌≤◌, length, arith}
use Rattle.pawn_cells.specs.Cells.{cell_of}
use Rattle.pawn_meaning.specs.ProgramNames.{HasNames}
use Rattle.pawn_meaning.specs.Program as plain
use Rattle.pawn_meaning.specs.Valid.{IsValid}
use Rattle.pawn_meaning.specs.View.{public_view, tag_view, program_view}
use Rattle.pawn_meaning.specs.declared.program.Public.{Public}
use Rattle.pawn_meaning.specs.declared.program.Tag.{Tag}
use Rattle.pawn_meaning.specs.declared.program.Program.{Program}
use Rattle.pawn_meaning.specs.Limits.{IsWithinLimits}
use Rattle.pawn_meaning.specs.Weight.{counted, lean}
use Rattle.pawn_meaning.specs.World.{first_memory}
use Rattle.amx_ops.specs.declared.amx.Amx.{Amx}
use Rattle.amx_ops.specs.declared.amx.Record.{Record}
use Rattle.amx_ops.proofs.Made.{amx_of}
use Rattle.gen_agrees.specs.Agrees.{Agrees}
use Rattle.gen_agrees.specs.Shape.{native_record}
use Rattle.gen_sim.specs.Pieces.{image, data_pieces}
use Rattle.gen_sim.specs.Items.{cells_with}
use Rattle.gen_laws.specs.CodeIsValid.{main_by}
use Rattle.gen_laws.specs.FileCode.{entry_of, program_items}
use Rattle.gen_laws.specs.FileOf.{file_of, ProgramsHaveFiles}
use Rattle.gen_laws.proofs.FileWeights.{program_lean}
use Rattle.gen_laws.proofs.LayoutLaws.{same_count}
use Rattle.gen_module.specs.Few.{AreFew}
use Rattle.gen_module.specs.Records.{public_record, tag_record, main_with}
use Rattle.gen_module.proofs.FewLaws.{all_few}
use Rattle.gen_module.proofs.WritableLaws.{few_natives, program_writable}

-- ---- what the tables have

map_twice : {A B C : Type 0} (f : A → B) (g : B → C) (xs : List A)
    → map g (map f xs) ≡ map (λ x. g (f x)) xs
map_twice f g [] = refl
map_twice f g (x ∷ xs) = ap (λ l. g (f x) ∷ l) (map_twice f g xs)

publics_are : (entry : ℕ → ℕ) (publics : List Public)
    → map (public_record entry) publics
    ≡ map (λ (it : plain.Public). record { address = pos (entry it.function); name = it.name })
    (map public_view publics)
publics_are entry publics =
    sym (map_twice public_view (λ (it : plain.Public). record
    { address = pos (entry it.function); name = it.name }) publics)

tags_are : (tags : List Tag) → map tag_record tags
    ≡ map (λ (it : plain.Tag). record { address = cell_of it.number; name = it.name })
    (map tag_view tags)
tags_are tags =
    sym (map_twice tag_view (λ (it : plain.Tag). record
    { address = cell_of it.number; name = it.name }) tags)

main_is : (program : plain.Program) (main : Option ℕ)
    → main_with (entry_of program) main ≡ main_by program main
main_is program None = refl
main_is program (Some f) = refl

-- ---- the file

-- no flag, no library and no variable
abbrev pub made_of : (code store : List ℤ) → (room : ℕ) → (entry : ℤ)
    → (publics natives tags : List Record) → Amx
made_of code store room entry publics natives tags =
    amx_of 0 8 code store room entry publics natives [] [] tags

-- of these parts it is the program's
pub record AreParts (program : Program) (code store : List ℤ) (room : ℕ) (entry : ℤ)
    (publics natives tags : List Record) : Type 0 where
  pub code_is : code ≡ cells_with (entry_of (program_view program))
      (program_items (program_view program))
  pub store_is : store ≡ image (first_memory (program_view program))
      (data_pieces (program_view program))
  pub room_is : room ≡ counted program.dynamic
  pub entry_is : entry ≡ main_with (entry_of (program_view program)) program.entry
  pub publics_are : publics ≡ map (public_record (entry_of (program_view program))) program.publics
  pub natives_are : natives ≡ map native_record program.natives
  pub tags_are : tags ≡ map tag_record program.tags

same_made : (c d s t : List ℤ) (m n : ℕ) (v w : ℤ) (p q ns os ts us : List Record) → c ≡ d → s ≡ t
    → m ≡ n → v ≡ w → p ≡ q → ns ≡ os → ts ≡ us
    → made_of c s m v p ns ts ≡ made_of d t n w q os us
same_made c d s t m n v w p q ns os ts us ec es em ev ep en et =
    ap (λ x. made_of x s m v p ns ts) ec ∙ ap (λ x. made_of d x m v p ns ts) es
    ∙ ap (λ x. made_of d t x v p ns ts) em
    ∙ ap (λ x. made_of d t n x p ns ts) ev ∙ ap (λ x. made_of d t n w x ns ts) ep
    ∙ ap (λ x. made_of d t n w q x ts) en
    ∙ ap (λ x. made_of d t n w q os x) et

file_is : (program : Program) (code store : List ℤ) (room : ℕ) (entry : ℤ)
    (publics natives tags : List Record)
    → AreParts program code store room entry publics natives tags
    → made_of code store room entry publics natives tags ≡ file_of (program_view program)
file_is program code store room entry publics natives tags parts =
    let source = program_view program in
    same_made code _ store _ room _ entry _ publics _ natives _ tags _ parts.code_is parts.store_is
    parts.room_is
    (parts.entry_is ∙ main_is source program.entry)
    (parts.publics_are ∙ publics_are (entry_of source) program.publics)
    parts.natives_are (parts.tags_are ∙ tags_are program.tags)

-- and so with the same entry, and with tables that have nothing in them
pub parts_are : (program : Program) (code store : List ℤ) (room : ℕ) (entry same : ℤ)
    (publics natives libraries variables tags : List Record)
    → AreParts program code store room entry publics natives tags → same ≡ entry → libraries ≡ []
    → variables ≡ []
    → amx_of 0 8 code store room same publics natives libraries variables tags
    ≡ file_of (program_view program)
parts_are program code store room entry same publics natives libraries variables tags parts is none
    nothing =
    ap (λ z. amx_of 0 8 code store room z publics natives libraries variables tags) is
    ∙ ap (λ l. amx_of 0 8 code store room entry publics natives l variables tags) none
    ∙ ap (λ l. amx_of 0 8 code store room entry publics natives [] l tags) nothing
    ∙ file_is program code store room entry publics natives tags parts

-- and agrees with it
pub file_agrees : (program : Program) (amx : Amx) → ProgramsHaveFiles → AreFew program.automata
    → amx ≡ file_of (program_view program)
    → IsValid (program_view program) → IsWithinLimits (program_view program)
    → HasNames (program_view program) → Agrees (program_view program) amx
file_agrees program amx have few is valid limits names =
    let source = program_view program in
    subst (λ a. Agrees source a) (sym is)
    (have source valid limits (all_few program.automata few) (few_natives source names)
    (program_writable source valid limits names))

-- its code is within the lean weight and two cells
pub file_lean : (program : Program) (amx : Amx) → amx ≡ file_of (program_view program)
    → length amx.code ≤ lean (program_view program) + 2
file_lean program amx is =
    let source = program_view program in
    subst (λ a. length a.code ≤ lean source + 2) (sym is)
    (omega (
      arith,
      same_count (entry_of source) (program_items source),
      program_lean source,
    ))
