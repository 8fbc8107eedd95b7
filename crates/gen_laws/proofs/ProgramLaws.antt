-- A file that has a valid program agrees with it.
use Rattle.std.proofs.Common.{◌≡◌, ◌*◌, ◌^◌, ◌<◌, ◌≤◌, ℕ, zero, suc, ℤ, pos, List, [], ◌∷◌, Option}
use Rattle.std.proofs.Common.{None, Some, length, map, slice_get, unwrap_or, refl, sym, ap, subst}
use Rattle.std.proofs.Common.{◌∙◌, arith}
use Rattle.std.specs.Prelude.{All, IfSome, option_map}
use Rattle.std.proofs.lemmas.List.{length-map}
use Rattle.pawn_cells.specs.Cells.{IsCell, bits_of}
use Rattle.pawn_meaning.specs.Program.{Automaton, Public, Program}
use Rattle.pawn_meaning.specs.Valid.{IsValid}
use Rattle.pawn_meaning.specs.Limits.{IsWithinLimits}
use Rattle.amx_ops.specs.declared.amx.Amx.{Amx}
use Rattle.amx_ops.specs.declared.amx.Record.{Record}
use Rattle.amx_ops.specs.Instructions.{placed}
use Rattle.amx_ops.specs.Valid as machine
use Rattle.amx_ops.specs.Moves as moves
use Rattle.amx_ops.specs.Trace as trace
use Rattle.amx_ops.specs.Trace.{Main, address_of}
use Rattle.gen_agrees.specs.Shape.{HasShape, HasEntry, native_record, last_of, IsSleep}
use Rattle.gen_agrees.specs.Agrees.{Agrees, function_of}
use Rattle.gen_laws.specs.FileCode.{entry_of, program_items, code_of}
use Rattle.gen_laws.proofs.FileWeights.{program_light}
use Rattle.gen_laws.proofs.LayoutLaws.{same_count, whole, is_file}
use Rattle.gen_laws.proofs.DataCells.{data_fit, data_small}
use Rattle.gen_laws.specs.FilesAgree.{IsFileOf}
use Rattle.gen_laws.proofs.FirstLaws.{store_count}
use Rattle.gen_laws.proofs.AgreeLaws.{file_agrees}
use Rattle.gen_laws.specs.CodeIsValid.{main_by}
use Rattle.gen_laws.proofs.ValidLaws.{program_valid}
use Rattle.gen_laws.specs.HasProgram.{HasProgram}
use Rattle.gen_laws.proofs.LastLaws.{program_ends}

-- the names of natives are those of the program
names_are : (names : List (List ℕ)) (n : ℕ)
    → moves.name_of (map native_record names) n ≡ unwrap_or (slice_get names n) []
names_are [] n = refl
names_are (name ∷ names) zero = refl
names_are (name ∷ names) (suc n) = names_are names n

got_mapped : {A B : Type 0} (f : A → B) (xs : List A) (n : ℕ)
    → slice_get (map f xs) n ≡ option_map f (slice_get xs n)
got_mapped f [] n = refl
got_mapped f (x ∷ xs) zero = refl
got_mapped f (x ∷ xs) (suc n) = got_mapped f xs n

some_is : {A : Type 0} (a b : A) → Some a ≡ Some b → a ≡ b
some_is a b e = cc

-- ---- entries

module _ (entry : ℕ → ℕ) where
  public_by : (o : Option Public) (f : ℕ) → option_map (λ (it : Public). it.function) o ≡ Some f
      → option_map (λ (it : Public). pos (entry it.function)) o ≡ Some (pos (entry f))
  public_by None f e = cc
  public_by (Some it) f e = ap (λ g. Some (pos (entry g))) (some_is it.function f e)

has_entry : (program : Program) (o : Option ℕ) → HasEntry o (main_by program o)
has_entry program None = refl
has_entry program (Some f) = λ e. cc

module _ (program : Program) (amx : Amx) (has : HasProgram program amx) where
  -- the address of an entry is that of its function
  entry_at : (e : trace.Entry) (f : ℕ) (address : ℤ) → function_of program e ≡ Some f
      → address_of amx e ≡ Some address → bits_of address ≡ entry_of program f
  entry_at Main f address e a =
      let at : amx.entry ≡ pos (entry_of program f) = has.entry ∙ ap (λ o. main_by program o) e in
      let is : Some (pos (entry_of program f)) ≡ Some address =
      sym (main_is amx.entry (entry_of program f) at) ∙ a in
      ap bits_of (sym (some_is (pos (entry_of program f)) address is))
    where
      main_is : (v : ℤ) (n : ℕ) → v ≡ pos n
          → address_of (record amx { entry = v }) Main ≡ Some (pos n)
      main_is v n k = rw k refl
  entry_at (trace.Public n) f address e a =
      let is : Some (pos (entry_of program f)) ≡ Some address =
      sym (public_by (entry_of program) (slice_get program.publics n) f e)
      ∙ sym (got_mapped (λ (it : Public). pos (entry_of program it.function)) program.publics n)
      ∙ ap (λ (l : List ℤ). slice_get l n) (sym has.publics)
      ∙ got_mapped (λ (it : Record). it.address) amx.publics n ∙ a in
      ap bits_of (sym (some_is (pos (entry_of program f)) address is))

  module _ (valid : IsValid program) (limits : IsWithinLimits program)
      (few : All (λ (it : Automaton). length it.states < 2 ^ 31) program.automata)
      (numbered : length program.natives ≤ 2 ^ 31) where
    natives_count : length amx.natives ≡ length program.natives
    natives_count = ap length has.tables.natives ∙ length-map program.natives native_record

    small : 4 * length amx.code < 2 ^ 31
    small = omega (arith, has.tables.writable.memory)

    code_valid : machine.IsValid amx.code (length amx.natives) amx.entry
        (map (λ it. it.address) amx.publics)
    code_valid =
        subst (λ c. machine.IsValid c (length amx.natives) amx.entry
        (map (λ it. it.address) amx.publics)) (sym has.code)
        (subst (λ n. machine.IsValid (code_of program) n amx.entry
        (map (λ it. it.address) amx.publics)) (sym natives_count)
        (subst (λ v. machine.IsValid (code_of program) (length program.natives) v
        (map (λ it. it.address) amx.publics)) (sym has.entry)
        (subst (λ ps. machine.IsValid (code_of program) (length program.natives)
        (main_by program program.entry) ps) (sym has.publics)
        (program_valid program valid few))))

    file : IsFileOf program amx (entry_of program)
    file =
        is_file program amx valid has.code small few numbered
        (λ n. ap (λ l. moves.name_of l n) has.tables.natives ∙ names_are program.natives n)
        has.store
        (subst (λ l. All IsCell l) (sym has.store) (data_fit program valid limits))

    shape : HasShape program amx
    shape = record {
      writable = has.tables.writable;
      valid = code_valid;
      natives = has.tables.natives;
      publics = has.tables.publics;
      tags = has.tables.tags;
      no_libraries = has.tables.no_libraries;
      no_variables = has.tables.no_variables;
      version = has.tables.version;
      flags = has.tables.flags;
      entry =
          subst (λ v. HasEntry program.entry v) (sym has.entry) (has_entry program program.entry);
      room = has.tables.room;
      code =
          omega (
            arith,
            ap length has.code,
            same_count (entry_of program) (program_items program),
            program_light program,
          );
      store =
          omega (
            arith,
            store_count program amx (entry_of program) file 0 (pos 0),
            data_small program valid limits,
          );
      last_is_no_sleep =
          subst (λ c. IfSome (last_of (placed c)) (λ it. ¬ IsSleep it.instr)) (sym has.code)
          (program_ends program valid.functions (whole program amx valid has.code small));
    }

    agrees : Agrees program amx
    agrees = record {
      shape = shape;
      runs = λ script room entry f address bound bounds keeps serves within e a.
          file_agrees program amx (entry_of program) file script room keeps within f address
          (entry_at entry f address e a) bound bounds;
    }

pub program_agrees : (program : Program) (amx : Amx) → IsValid program → IsWithinLimits program
    → All (λ (it : Automaton). length it.states < 2 ^ 31) program.automata
    → length program.natives ≤ 2 ^ 31 → HasProgram program amx → Agrees program amx
program_agrees program amx valid limits few numbered has =
    agrees program amx has valid limits few numbered
