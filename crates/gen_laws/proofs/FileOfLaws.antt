-- The file of a program has all of it.
use Rattle.std.proofs.Common.{◌≡◌, ◌^◌, ◌<◌, ◌≤◌, ◌≤ℤ◌, ℤ, pos, negsuc, List, [], ◌∷◌, length, map}
use Rattle.std.proofs.Common.{refl, ap, arith}
use Rattle.std.specs.Prelude.{All}
use Rattle.std.proofs.lemmas.Int.{ints}
use Rattle.pawn_meaning.specs.Program.{Automaton, Public, Program}
use Rattle.pawn_meaning.specs.Valid.{IsValid}
use Rattle.pawn_meaning.specs.Limits.{IsWithinLimits}
use Rattle.pawn_meaning.specs.Weight.{counted}
use Rattle.amx_ops.specs.declared.amx.Record.{Record}
use Rattle.amx_ops.specs.Writable.{IsWritable}
use Rattle.gen_agrees.specs.Agrees.{Agrees}
use Rattle.gen_laws.specs.FileCode.{entry_of}
use Rattle.gen_laws.specs.FileOf.{file_of}
use Rattle.gen_laws.specs.HasProgram.{HasProgram}
use Rattle.gen_laws.proofs.ProgramLaws.{program_agrees}

map_twice : {A B C : Type 0} (f : A → B) (g : B → C) (xs : List A)
    → map g (map f xs) ≡ map (λ x. g (f x)) xs
map_twice f g [] = refl
map_twice f g (x ∷ xs) = ap (λ l. g (f x) ∷ l) (map_twice f g xs)

not_below : (z : ℤ) → pos 0 ≤ℤ z → pos (counted z) ≡ z
not_below (pos n) h = refl
not_below (negsuc n) h = absurd (omega (arith, ints, h))

pub file_has : (program : Program) → IsWithinLimits program → IsWritable (file_of program)
    → HasProgram program (file_of program)
file_has program limits writable =
    let of : Public → Record =
    λ it. record { address = pos (entry_of program it.function); name = it.name } in
    record {
      code = refl;
      entry = refl;
      publics = map_twice of (λ it. it.address) program.publics;
      store = refl;
      tables = record {
        writable = writable;
        natives = refl;
        publics = map_twice of (λ it. it.name) program.publics;
        tags = refl;
        no_libraries = refl;
        no_variables = refl;
        version = refl;
        flags = refl;
        room = not_below program.dynamic limits.dynamic.0;
      };
    }

pub file_agrees_with : (program : Program) → IsValid program → IsWithinLimits program
    → All (λ (it : Automaton). length it.states < 2 ^ 31) program.automata
    → length program.natives ≤ 2 ^ 31 → IsWritable (file_of program)
    → Agrees program (file_of program)
file_agrees_with program valid limits few numbered writable =
    program_agrees program (file_of program) valid limits few numbered
    (file_has program limits writable)
