-- Each function lies at its address in a file that has the program's code.
use Rattle.std.proofs.Common.{◌≡◌, ◌+◌, ◌*◌, ◌^◌, ◌<◌, ◌≤◌, ℕ, zero, suc, pos, List, [], ◌∷◌, ◌++◌}
use Rattle.std.proofs.Common.{Some, false, length, slice_get, refl, sym, ap, subst, ◌∙◌, arith}
use Rattle.std.proofs.Common.{append_assoc, length-append}
use Rattle.std.specs.Prelude.{All}
use Rattle.pawn_cells.specs.Cells.{IsCell}
use Rattle.host_script.specs.declared.script.Script.{Script}
use Rattle.pawn_meaning.specs.Program.{Function, Automaton, Program}
use Rattle.pawn_meaning.specs.Valid.{IsValid}
use Rattle.pawn_meaning.specs.World.{first_memory}
use Rattle.pawn_meaning.specs.Meaning.{name_of}
use Rattle.amx_ops.specs.declared.amx.Amx.{Amx}
use Rattle.amx_ops.specs.declared.op.Op.TheVariants as op
use Rattle.amx_ops.specs.Instructions.{fetched}
use Rattle.amx_ops.specs.Written.{cells_of, read_as}
use Rattle.amx_ops.specs.Moves as machine
use Rattle.gen_sim.specs.Pieces.{image, data_pieces}
use Rattle.gen_sim.specs.Items.{Item, Plain, CallOf, placed_in, cells_with, item_cells, past}
use Rattle.gen_sim.specs.Items.{AreWritten, LieIn, with}
use Rattle.gen_sim.proofs.ItemLaws.{past-append, count-append}
use Rattle.gen_sim.specs.SimpleCode.{taking}
use Rattle.gen_laws.proofs.FileLaws.{lie_there}
use Rattle.gen_laws.specs.Well.{TableAt}
use Rattle.gen_laws.specs.FunctionCode.{function_items}
use Rattle.gen_laws.specs.FilesAgree.{IsFileOf, site_of}
use Rattle.gen_laws.specs.FileCode.{functions_items, function_begin, entry_of, program_items}
use Rattle.gen_laws.specs.FileCode.{code_of}
use Rattle.gen_laws.specs.Inner.{InnerAt}
use Rattle.gen_laws.proofs.FunctionWells.{written_of, program_well}

-- any script: what is said of code needs none
pub no_script : Script
no_script = record { others = false; natives = []; answers = [] }

-- the functions before one, and those behind it
pub record Split (program : Program) (begin : ℕ) (functions : List Function) (f : ℕ)
    (function : Function) : Type 0 where
  pub before : List Item
  pub after : List Item
  pub is : functions_items program begin functions
      ≡ before ++ (function_items program (function_begin program begin functions f) function
      ++ after)
  pub at : past begin before ≡ function_begin program begin functions f

pub split_at : (program : Program) (begin : ℕ) (functions : List Function) (f : ℕ)
    (function : Function) → slice_get functions f ≡ Some function
    → Split program begin functions f function
split_at program begin [] f function e = cc
split_at program begin (first ∷ functions) zero function e =
    let same : first ≡ function = cc in
    record {
      before = [];
      after = functions_items program (past begin (function_items program begin first)) functions;
      is =
          ap (λ z. function_items program begin z
          ++ functions_items program (past begin (function_items program begin first))
          functions) same;
      at = refl;
    }
split_at program begin (first ∷ functions) (suc f) function e =
    let one = function_items program begin first in
    let r = split_at program (past begin one) functions f function e in
    record {
      before = one ++ r.before;
      after = r.after;
      is =
          ap (λ (l : List Item). one ++ l) r.is
          ∙ sym (append_assoc one r.before
          (function_items program (function_begin program (past begin one) functions f) function
          ++ r.after));
      at = past-append begin one r.before ∙ r.at;
    }

pub same_count : (entry : ℕ → ℕ) (items : List Item)
    → length (cells_with entry items) ≡ length (item_cells items)
same_count entry [] = refl
same_count entry (it ∷ items) =
    omega (
      arith,
      length-append (cells_of (placed_in entry it)) (cells_with entry items),
      length-append (cells_of (placed_in (λ f. 0) it)) (item_cells items),
      size_same it,
      same_count entry items,
    )
  where
    size_same : (item : Item) → length (cells_of (placed_in entry item))
        ≡ length (cells_of (placed_in (λ f. 0) item))
    size_same (Plain item) = refl
    size_same (CallOf f) = refl

module _ (program : Program) (amx : Amx) (valid : IsValid program)
    (code_is : amx.code ≡ code_of program) (small : 4 * length amx.code < 2 ^ 31) where
  abbrev halt : Item
  halt = taking op.Halt (pos 0)

  pub whole : AreWritten (program_items program)
  whole =
      written_of (length program.natives) (InnerAt 0 (program_items program))
      (TableAt 0 (program_items program)) (program_items program)
      (program_well (InnerAt 0 (program_items program))
      (TableAt 0 (program_items program)) program valid.functions
      (record { starts = λ at z. z; tables = λ at z. z }))

  module _ (script : Script) (room limit : ℕ) where
    pub lies : (f : ℕ) (function : Function) → slice_get program.functions f ≡ Some function
        → LieIn (site_of program amx (entry_of program) script room limit) (entry_of program f)
        (function_items program (entry_of program f) function)
        × (length (item_cells (function_items program (entry_of program f) function)) + 2
        ≤ length amx.code)
    lies f function there =
        let r = split_at program 8 program.functions f function there in
        let items = function_items program (entry_of program f) function in
        let x = site_of program amx (entry_of program) script room limit in
        let split : program_items program ≡ (halt ∷ r.before) ++ (items ++ r.after) =
        ap (λ (l : List Item). halt ∷ l) r.is in (
          subst (λ q. LieIn x q items) r.at
              (lie_there x (program_items program) whole code_is small
              (halt ∷ r.before) items r.after split),
          omega (
            arith,
            ap length code_is,
            same_count (entry_of program) (program_items program),
            ap (λ l. length (item_cells l)) split,
            count-append r.before (items ++ r.after),
            count-append items r.after,
          ),
        )

  -- HALT 0 stands at address 0
  first_fetched : fetched amx.code 0 ≡ Some (read_as (with op.Halt (pos 0)))
  first_fetched =
      let x = site_of program amx (entry_of program) no_script 0 0 in
      (lie_there x (program_items program) whole code_is small [] (halt ∷ [])
      (functions_items program 8 program.functions) refl).0

  pub is_file : All (λ (it : Automaton). length it.states < 2 ^ 31) program.automata
      → length program.natives ≤ 2 ^ 31
      → ((n : ℕ) → machine.name_of amx.natives n ≡ name_of program n)
      → amx.store ≡ image (first_memory program) (data_pieces program)
      → All IsCell amx.store → IsFileOf program amx (entry_of program)
  is_file few numbered natives store cells = record {
    valid = valid;
    few = few;
    numbered = numbered;
    natives = natives;
    stored = store;
    cells = cells;
    first = first_fetched;
    lie = lies;
  }
