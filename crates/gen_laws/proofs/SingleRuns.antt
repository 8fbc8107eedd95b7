-- A function without a route, within the cells of its code.
use Rattle.std.proofs.Common.{◌≡◌, ◌+◌, ◌*◌, ◌≤◌, ℕ, ℤ, pos, List, ◌∷◌, ◌++◌, None, Some, length}
use Rattle.std.proofs.Common.{sum, slice_get, sym, ap, subst, ◌∙◌, arith}
use Rattle.pawn_meaning.specs.Program.{Body, Function}
use Rattle.pawn_meaning.specs.Valid.{IsValidBody}
use Rattle.pawn_meaning.specs.World.{World, entered}
use Rattle.pawn_meaning.specs.Natives.{Held}
use Rattle.pawn_meaning.specs.Calls.{value_of, enter_function, body_by, frame_of}
use Rattle.amx_ops.specs.Moves.{Config, move}
use Rattle.gen_sim.proofs.Sim.{wider}
use Rattle.gen_sim.specs.View.{View, kept, used, Laid}
use Rattle.gen_sim.specs.Next.{HoldArguments}
use Rattle.gen_sim.specs.Stands.{Stands, With}
use Rattle.gen_sim.specs.Site.{Site, IsSite, Starts, DoesAt}
use Rattle.gen_sim.specs.Items.{item_cells, LieIn}
use Rattle.gen_sim.specs.Results.{SuitAll}
use Rattle.gen_sim.specs.Back.{Back}
use Rattle.gen_sim.specs.Code.{with_turns}
use Rattle.gen_sim.proofs.BodyLaws.{in_body}
use Rattle.gen_sim.proofs.NodesPartLaws.{gives_of}
use Rattle.gen_sim.proofs.CalledScopes.{suit_count, hold_count}
use Rattle.gen_sim.specs.Enters.{CallsBelow}
use Rattle.gen_laws.specs.Fresh.{Ready}
use Rattle.gen_laws.specs.BodyCode.{body_items, single_items}
use Rattle.gen_laws.proofs.BodyNodes.{body_runs}
use Rattle.gen_laws.proofs.RouteNodes.{chosen_does, turns_left}

pub single_runs : (x : Site) → IsSite x → (f : ℕ) (function : Function) (body : Body)
    → function.dispatch ≡ None → slice_get function.bodies 0 ≡ Some body
    → IsValidBody x.program function.params body → Ready x.program body.slots
    → LieIn x (x.entry f) (single_items x.program function.params (x.entry f) body)
    → length (item_cells (single_items x.program function.params (x.entry f) body))
    ≤ length x.amx.code → (turns : ℕ) → CallsBelow x turns
    → (v : View) (held : List Held) (cells waits : List ℤ) (back : ℕ) → SuitAll function.params held
    → HoldArguments x.program x.room v held cells
    → Laid x.program x.room v → Starts x back
    → used x.program x.room v waits ≤ kept x.program x.room + sum v.needs
    → (w : World) (c : Config) → Stands x.program x.room v
    (pos back ∷ pos (4 * length cells) ∷ (cells ++ waits)) (x.entry f) w c
    → DoesAt x (length (item_cells (single_items x.program function.params (x.entry f) body))) w c
    (enter_function (with_turns x turns) f function held w)
    (With x.program x.room v waits back)
single_runs x site f function body single there valid ready l paid turns calls v held cells waits
    back suit hold laid starts deep w c s =
    let items = body_items x.program function.params (x.entry f + 4) body in
    let n = length (item_cells items) in
    let all = length (item_cells (single_items x.program function.params (x.entry f) body)) in
    let e = entered (frame_of f function held (Some body)) w in
    let few =
    hold_count x.program x.room v held cells hold ∙ suit_count function.params held suit in
    let chosen : body_by function function.dispatch w.memory ≡ Some body =
    ap (λ d. body_by function d w.memory) single ∙ there in
    subst (λ o. DoesAt x all w c (in_body (with_turns x turns) f function held o w)
    (With x.program x.room v waits back)) (sym chosen)
    (wider (move x.amx x.script) (length x.amx.code) x.room {c = 1 + (n + 0)} (omega arith)
    (chosen_does x turns v f function held cells waits back hold laid starts (Some body) n
    (x.entry f) w c s l.0 (omega (arith, deep, few))
    (λ t k. gives_of x n e (with_turns x turns body.stmt e) value_of
    (λ way. Back x.program x.room v waits back (value_of way)) (λ a u m h. h)
    (turns_left x body.stmt k turns n
    (λ j z. body_runs x site function 0 body there valid ready (x.entry f + 4) l.3
    (omega (arith, paid)) j (λ fewer h. calls fewer (omega (arith, h, z)))
    v held cells waits back suit hold laid starts deep e t k)))))
