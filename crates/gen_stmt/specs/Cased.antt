-- Cases that were appended to a draft, whose jumps to the end are led and whose table is written
-- when that is known.
use Rattle.std.specs.Prelude.{◌≡◌, ◌+◌, ◌*◌, ℕ, pos, List, ◌∷◌, length}
use Rattle.pawn_meaning.specs.Program.{Cases, no_cases, then_case}
use Rattle.gen_sim.specs.Here.{Exits}
use Rattle.gen_laws.specs.StmtCode.{cases_items, cases_table}
use Rattle.gen_expr.specs.Built.{with_items}
use Rattle.gen_stmt.specs.Over.{over, cases_pairs}
use Rattle.gen_stmt.specs.declared.draft.Draft.{Draft}
use Rattle.gen_stmt.specs.Led.{all_led}
use Rattle.gen_stmt.specs.Grown.{IsDraft}
use Rattle.gen_stmt.specs.declared.place.Place.{Place}
use Rattle.gen_stmt.specs.Ended.{Ended}
use Rattle.gen_stmt.specs.Tabled.{unled_table}
use Rattle.gen_stmt.specs.declared.cases.Cased.{Cased}
use Rattle.gen_stmt.specs.Standing.{here_in}

-- how many they are
abbrev pub count_of : Cases → ℕ
count_of no_cases = 0
count_of (then_case ranges s cases) = 1 + count_of cases

-- behind SWITCH and its table
abbrev pub tabled : Cases → Draft → Draft
tabled cases b =
    record {
      code = with_items (unled_table (4 * length b.code.code) cases) b.code;
      holes = b.holes;
    }

-- with all written, behind what stands behind `default`
abbrev pub closed_cases : Cased → Cases → Draft → Draft
closed_cases it cases b = record {
  code =
      all_led (pos (4 * length b.code.code)) (pos 0) it.ends
      (over it.at (it.default ∷ cases_pairs cases it.begins) b.code);
  holes = b.holes;
}

-- r is b with SWITCH, a table and these cases; `it` knows what stands in that table
pub record IsCased (place : Place) (made : List ℕ) (since : ℕ) (cases : Cases) (b r : Draft)
    (it : Cased) : Type 0 where
  pub at : it.at ≡ length b.code.code + 4
  pub default : it.default ≡ pos (4 * length r.code.code)
  pub code : Ended (tabled cases b) r it.ends
      (λ end exits. cases_items (here_in place made since exits)
      (4 * length (tabled cases b).code.code) end cases)
  pub count : length it.begins ≡ count_of cases
  pub table : IsDraft (tabled cases b) → (exits : Exits)
      → cases_pairs cases it.begins ≡ cases_table (here_in place made since exits)
      (4 * length (tabled cases b).code.code) cases
