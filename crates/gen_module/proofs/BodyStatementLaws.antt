-- A statement around which no loop is.
use Rattle.std.proofs.Common.{◌≡◌, ◌*◌, ℕ, pos, List, [], length, ap, subst, ◌∙◌}
use Rattle.pawn_meaning.specs.Program.{Stmt}
use Rattle.gen_laws.specs.StmtCode.{stmt_items}
use Rattle.gen_laws.specs.BodyCode.{no_exits}
use Rattle.gen_expr.specs.Built.{Built, with_items}
use Rattle.gen_stmt.specs.declared.draft.Draft.{Draft}
use Rattle.gen_stmt.specs.Grown.{Grown}
use Rattle.gen_stmt.specs.Led.{all_led}
use Rattle.gen_stmt.specs.declared.place.Place.{Place}
use Rattle.gen_stmt.specs.Standing.{here_in}
use Rattle.gen_module.specs.First.{first_here}

at_first : (place : Place) (code : Built) (r : Draft) (s : Stmt) (done : Built)
    → Grown (record { code = code; holes = [] }) r
    (λ exits. stmt_items (here_in place [] 0 exits) (4 * length code.code) s)
    → done ≡ all_led (pos 0) (pos 0) r.holes r.code
    → done ≡ with_items (stmt_items (first_here place) (4 * length code.code) s) code
at_first place code r s done grown is = is ∙ grown.is tt no_exits

pub whole_done : (place : Place) (made : List ℕ) (since : ℕ) (code : Built) (begun r : Draft)
    (s : Stmt) (done : Built) → made ≡ [] → since ≡ length made
    → begun ≡ record { code = code; holes = [] }
    → Grown begun r (λ exits. stmt_items (here_in place made since exits)
    (4 * length begun.code.code) s)
    → done ≡ all_led (pos 0) (pos 0) r.holes r.code
    → done ≡ with_items (stmt_items (first_here place) (4 * length code.code) s) code
whole_done place made since code begun r s done none first is grown led =
    let zero_is : since ≡ 0 = first ∙ ap length none in
    at_first place code r s done
    (subst (λ n. Grown (record { code = code; holes = [] }) r
    (λ exits. stmt_items (here_in place [] n exits) (4 * length code.code) s)) zero_is
    (subst (λ l. Grown (record { code = code; holes = [] }) r
    (λ exits. stmt_items (here_in place l since exits) (4 * length code.code) s)) none
    (subst (λ (d : Draft). Grown d r
    (λ exits. stmt_items (here_in place made since exits) (4 * length d.code.code) s)) is
    grown)))
    led
