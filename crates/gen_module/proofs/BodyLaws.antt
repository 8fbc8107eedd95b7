-- A body, by its parts.
use Rattle.std.proofs.Common.{◌≡◌, ◌*◌, ℕ, Bool, List, [], length, ap, ◌∙◌}
use Rattle.pawn_meaning.specs.Program.{Slot, Body, Program}
use Rattle.gen_sim.specs.Here.{Here}
use Rattle.gen_laws.specs.GoesOn.{never_goes_on}
use Rattle.gen_laws.specs.StmtCode.{stmt_items}
use Rattle.gen_laws.specs.BodyCode.{no_exits, body_here, end_code, body_items}
use Rattle.gen_expr.specs.Built.{Built, with_items}
use Rattle.gen_expr.proofs.GrowLaws.{then_grow}

-- where a statement stands, by the slots and how many of them are parameters
abbrev pub here_of : Program → List Slot → ℕ → Here
here_of program slots n = record {
  scope = record { program = program; slots = slots; params = n; made = [] };
  since = [];
  exits = no_exits;
}

pub body_made : (program : Program) (params slots : List Slot) (n : ℕ) (body : Body)
    (never : Bool) (b done r : Built) → never ≡ never_goes_on body.stmt → slots ≡ body.slots
    → n ≡ length params
    → done ≡ with_items (stmt_items (here_of program slots n) (4 * length b.code) body.stmt) b
    → r ≡ with_items (end_code never) done
    → r ≡ with_items (body_items program params (4 * length b.code) body) b
body_made program params slots n body never b done r is same count first last =
    then_grow b done r (stmt_items (body_here program params body) (4 * length b.code) body.stmt)
    (end_code (never_goes_on body.stmt))
    (first ∙ ap (λ l. with_items (stmt_items (here_of program l n) (4 * length b.code) body.stmt) b)
    same
    ∙ ap (λ k. with_items (stmt_items (here_of program body.slots k) (4 * length b.code) body.stmt)
    b) count)
    (last ∙ ap (λ k. with_items (end_code k) done) is)
