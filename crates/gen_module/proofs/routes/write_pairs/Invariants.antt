use Rattle.std.proofs.Common.{◌≡◌, ◌+◌, ◌*◌, ℕ, length, drop}
use Rattle.gen_laws.specs.RouteCode.{route_table}
use Rattle.gen_stmt.specs.Over.{over}
use Rattle.gen_module.specs.Starts.{Finds}
use Rattle.gen_module.proofs.routes.write_pairs.Given as goal

abbrev pub invariant-loop-case : goal.invariant-loop-case
invariant-loop-case l = record {
  led : (address : ℕ → ℕ) → Finds address l.starts
      → over l.cell (route_table address (drop l.case-index l.cases)) l.led
      ≡ over l.fn.at (route_table address l.cases) l.fn.b;
  place : l.cell ≡ l.fn.at + 2 * l.case-index;
  cells : length l.led.code ≡ length l.fn.b.code;
}
