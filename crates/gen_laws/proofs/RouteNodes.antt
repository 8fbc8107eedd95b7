-- A function with a route: PROC, the jump by the automaton's state and its bodies do what a call of
-- it means.
use Rattle.std.proofs.Common.{◌≡◌, ◌+◌, ◌*◌, ◌-◌, ◌^◌, ◌<◌, ◌≤◌, inl, inr, ℕ, zero, suc, ℤ, pos}
use Rattle.std.proofs.Common.{List, [], ◌∷◌, ◌++◌, Option, None, Some, Bool, true, false, ◌==◌}
use Rattle.std.proofs.Common.{length, sum, slice_get, replicate, refl, sym, subst, ◌∙◌, arith}
use Rattle.std.proofs.Common.{length-append}
use Rattle.std.specs.Prelude.{All, IfSome, find}
use Rattle.host_script.specs.declared.event.End.TheVariants as end_of
use Rattle.pawn_meaning.specs.Program.{Body, Route, Function, Stmt}
use Rattle.pawn_meaning.specs.Valid.{IsValidBody}
use Rattle.pawn_meaning.specs.Memory.{Frame, Holds, Unmade}
use Rattle.pawn_meaning.specs.World.{World, entered}
use Rattle.pawn_meaning.specs.Run.{◌>>=◌, then_do, give, leave}
use Rattle.pawn_meaning.specs.Natives.{Held}
use Rattle.pawn_meaning.specs.Calls.{Way, value_of, enter_function, case_for, route_from, routed}
use Rattle.pawn_meaning.specs.Calls.{body_at, body_by, frame_of, slots_of, run_body}
use Rattle.pawn_meaning.specs.Meaning.{run}
use Rattle.pawn_meaning.specs.Need.{need}
use Rattle.pawn_meaning.specs.Later.{Grows}
use Rattle.pawn_meaning.proofs.Grows.{after_grows}
use Rattle.pawn_meaning.proofs.RunLaws.{runs_grow_lem}
use Rattle.amx_ops.specs.declared.op.Op.TheVariants as op
use Rattle.amx_ops.specs.Instructions.{fetched}
use Rattle.amx_ops.specs.Written.{read_as}
use Rattle.amx_ops.specs.State.{State}
use Rattle.amx_ops.specs.Effects.{paired, case_of}
use Rattle.amx_ops.specs.Moves.{Config, move}
use Rattle.gen_sim.proofs.Sim.{stays, gives, stops, grown, ends_one, in_turn, wider}
use Rattle.gen_sim.specs.Pieces.{Automaton, HasState, state_cell}
use Rattle.gen_sim.specs.Places.{Apart}
use Rattle.gen_sim.specs.View.{View, IsOfCall, depth, kept, used, PlacedIn, Laid}
use Rattle.gen_sim.specs.Next.{HoldArguments, in_call}
use Rattle.gen_sim.specs.Stands.{Stands, With}
use Rattle.gen_sim.proofs.PieceLaws.{each_gives}
use Rattle.gen_sim.proofs.MemLaws.{mem_there}
use Rattle.gen_sim.proofs.DataLaws.{automaton_in_low}
use Rattle.gen_sim.proofs.ViewLaws.{automaton_below}
use Rattle.gen_sim.proofs.WorldLaws.{state_read, stands_on}
use Rattle.gen_sim.specs.Site.{Site, IsSite, Starts, DoesAt, scene_at}
use Rattle.gen_sim.specs.Items.{Item, item_cells, past, size, LieIn, with}
use Rattle.gen_sim.specs.Results.{SuitAll}
use Rattle.gen_sim.specs.Back.{Back}
use Rattle.gen_sim.specs.Code.{with_turns}
use Rattle.gen_sim.proofs.CallLaws.{proc_does}
use Rattle.gen_sim.proofs.BodyLaws.{body_grows, leaving_grows, in_body}
use Rattle.gen_sim.proofs.ParameterLaws.{unmade_none}
use Rattle.gen_sim.proofs.ItemLaws.{lie_rest, past_is}
use Rattle.gen_sim.proofs.StepLaws.{move_is, goes}
use Rattle.gen_sim.proofs.NodesPartLaws.{gives_of}
use Rattle.gen_sim.proofs.CalledScopes.{suit_count, hold_count}
use Rattle.gen_sim.specs.StateCode.{automaton_cell}
use Rattle.gen_sim.specs.SimpleCode.{taking}
use Rattle.gen_laws.specs.SwitchCode.{table_item}
use Rattle.gen_laws.proofs.TableLaws.{bits_are, table_leads}
use Rattle.gen_sim.specs.Enters.{CallsBelow}
use Rattle.gen_laws.specs.Fresh.{Ready}
use Rattle.gen_laws.specs.GoesOn.{never_goes_on}
use Rattle.gen_laws.specs.StmtCode.{stmt_items}
use Rattle.gen_laws.specs.BodyCode.{body_here, end_code, body_items}
use Rattle.gen_laws.proofs.BodyNodes.{body_runs}
use Rattle.gen_laws.specs.RouteCode.{bodies_items, route_table, leads_to, fail_at, bodies_at}
use Rattle.gen_laws.specs.RouteCode.{address_of, route_items}
use Rattle.gen_laws.proofs.RouteLaws.{length_route, pair_address, state_led, none_led, body_lies}
use Rattle.gen_laws.proofs.RouteLaws.{body_few}

-- where the end of a body stands
end_small : (x : Site) (p : ℕ) (b : Bool) → LieIn x p (end_code b) → p + 4 < 2 ^ 31
end_small x p true l = l.2
end_small x p false l = l.2

-- ---- a call with the body that was chosen, its turn being begun

module _ (x : Site) (turns : ℕ) (v : View) (f : ℕ) (function : Function) (held : List Held)
    (cells waits : List ℤ) (back : ℕ)
    (hold : HoldArguments x.program x.room v held cells) (laid : Laid x.program x.room v)
    (starts : Starts x back) (chosen : Option Body) where
  abbrev inner : View
  inner =
      in_call x.program x.room v (need function)
      (pos v.frm ∷ pos back ∷ pos (4 * length cells) ∷ []) held cells waits

  abbrev frame : Frame
  frame = frame_of f function held chosen

  grows : (stmt : Stmt) → Grows (with_turns x turns stmt)
  grows stmt = runs_grow_lem.nestings (scene_at x) turns stmt

  pub chosen_does : (count at : ℕ) (w : World) (c : Config)
      → Stands x.program x.room v (pos back ∷ pos (4 * length cells) ∷ (cells ++ waits)) at w c
      → fetched x.amx.code at ≡ Some (read_as (with op.Proc (pos 0)))
      → used x.program x.room v waits + length cells + 3 ≤ kept x.program x.room + sum v.needs
      + need function
      → ((t : Config) → Stands x.program x.room inner [] (at + 4) (entered frame w) t
      → DoesAt x count (entered frame w) t (run_body (with_turns x turns) chosen (entered frame w))
      (Back x.program x.room v waits back))
      → DoesAt x (1 + (count + 0)) w c (in_body (with_turns x turns) f function held chosen w)
      (With x.program x.room v waits back)
  chosen_does count at w c s g deep hb =
      let rest : List Holds = replicate (slots_of chosen - length held) Unmade in
      proc_does x v (need function) back held cells waits hold laid starts {d = count + 0}
      {o = then_do (run_body (with_turns x turns) chosen (entered frame w))
      (λ a. leave >>= (λ _. give a))} frame rest at w c s refl refl
      (unmade_none (slots_of chosen - length held)) g deep
      ((after_grows (body_grows (with_turns x turns) grows chosen) (λ a. leaving_grows a)).at
      (entered frame w))
      (λ t s2. in_turn (move x.amx x.script) (length x.amx.code) x.room
      (run_body (with_turns x turns) chosen (entered frame w)) (λ a. leave >>= (λ _. give a))
      (Back x.program x.room v waits back) (λ a y. (leaving_grows a).at y) (hb t s2)
      (λ a y u b. rw b.frames_are (gives (move x.amx x.script) (length x.amx.code) x.room
      (stays (move x.amx x.script) (length x.amx.code) x.room u _ b.back.stands.said b.back))))

-- with no turn left a statement is a turn too many
pub turns_left : (x : Site) {v : View} {p : ℕ} {e : World} {t : Config}
    {Q : Way → World → Config → Type 0} (stmt : Stmt) → Stands x.program x.room v [] p e t
    → (left d : ℕ) → ((j : ℕ) → left ≡ suc j
    → DoesAt x d e t (run (scene_at x) (with_turns x j) stmt e) Q)
    → DoesAt x d e t (with_turns x left stmt e) Q
turns_left x {e = e} {t = t} stmt s zero d go = record {
  does = inr (grown (move x.amx x.script) (length x.amx.code) x.room (omega arith)
      (stays (move x.amx x.script) (length x.amx.code) x.room t e s.said tt));
}
turns_left x stmt s (suc j) d go = go j refl

-- ---- numbers of bodies

all_head : {A : Type 0} (P : A → Type 0) (y : A) (ys : List A) → All P (y ∷ ys) → P y
all_head P y ys h = h 0 y (omega arith)

all_tail : {A : Type 0} (P : A → Type 0) (y : A) (ys : List A) → All P (y ∷ ys) → All P ys
all_tail P y ys h = λ i d k. h (suc i) d (omega (arith, k))

pub record Numbered (bodies : List Body) (number : ℕ) : Type 0 where
  pub body : Body
  pub there : slice_get bodies number ≡ Some body

numbered : (bodies : List Body) (number : ℕ) → number < length bodies → Numbered bodies number
numbered [] number h = absurd (omega (arith, h))
numbered (body ∷ bodies) zero h = record { body = body; there = refl }
numbered (body ∷ bodies) (suc number) h =
    let r = numbered bodies number (omega (arith, h)) in record { body = r.body; there = r.there }

module _ (function : Function) (route : Route)
    (fallback_in : IfSome route.fallback (λ body. body < length function.bodies)) where
  cases_in : (state : ℕ) (cases : List (ℕ × ℕ))
      → All (λ case. case.1 < length function.bodies) cases
      → IfSome (route_from route (find (λ case. case.0 == state) cases))
      (λ body. body < length function.bodies)
  cases_in state [] h = fallback_in
  cases_in state (case ∷ cases) h =
      by (case.0 == state) refl (cases_in state cases
      (all_tail (λ it. it.1 < length function.bodies) case cases h))
    where
      by : (b : Bool) → (case.0 == state) ≡ b
          → IfSome (route_from route (find (λ it. it.0 == state) cases))
          (λ body. body < length function.bodies)
          → IfSome (route_from route (find (λ it. it.0 == state) (case ∷ cases)))
          (λ body. body < length function.bodies)
      by true e rest = rw e (all_head (λ it. it.1 < length function.bodies) case cases h)
      by false e rest = rw e rest

  routed_in : All (λ case. case.1 < length function.bodies) route.cases → (o : Option (Option ℕ))
      → IfSome (routed route o) (λ body. body < length function.bodies)
  routed_in h None = fallback_in
  routed_in h (Some None) = fallback_in
  routed_in h (Some (Some state)) = cases_in state route.cases h

-- ---- the function

module _ (x : Site) (site : IsSite x) (f : ℕ) (function : Function) (route : Route)
    (routed_by : function.dispatch ≡ Some route)
    (below : route.automaton < length x.program.automata)
    (cases_are : All (λ case. case.1 < length function.bodies) route.cases)
    (fallback_is : IfSome route.fallback (λ body. body < length function.bodies))
    (valid : (number : ℕ) (body : Body) → slice_get function.bodies number ≡ Some body
    → IsValidBody x.program function.params body × Ready x.program body.slots)
    (l : LieIn x (x.entry f) (route_items x.program function (x.entry f) route))
    (paid : length (item_cells (route_items x.program function (x.entry f) route))
    ≤ length x.amx.code) where
  abbrev begin : ℕ
  begin = x.entry f

  abbrev address : ℕ → ℕ
  address = address_of x.program function begin route

  abbrev fail : ℕ
  fail = fail_at begin route

  abbrev pairs : List ℤ
  pairs = route_table address route.cases

  abbrev default : ℕ
  default = leads_to address fail route.fallback

  abbrev count : ℕ
  count = length route.cases

  abbrev bodies : List Item
  bodies = bodies_items x.program function.params (bodies_at begin route) function.bodies

  abbrev table_at : ℕ
  table_at = begin + 4 + 8 + 8

  abbrev behind : List Item
  behind = taking op.Halt (pos 13) ∷ bodies

  at_table : LieIn x table_at (table_item count default pairs ∷ behind)
  at_table = l.3.3.3

  behind_table : table_at + 4 * size (table_item count default pairs) ≡ fail
  behind_table = omega (arith, length_route address route.cases)

  at_halt : LieIn x fail behind
  at_halt = subst (λ q. LieIn x q behind) behind_table at_table.3

  few : count < 2 ^ 31
  few = omega (arith, at_table.2, length_route address route.cases)

  address_small : (number : ℕ) → number < length function.bodies → address number < 2 ^ 31
  address_small number h =
      let it = numbered function.bodies number h in
      let own =
      body_lies x x.program function.params function.bodies
      (bodies_at begin route) number it.body it.there at_halt.3 in
      let items =
      stmt_items (body_here x.program function.params it.body)
      (address number) it.body.stmt in
      let never = never_goes_on it.body.stmt in
      let last =
      end_small x (past (address number) items) never
      (lie_rest x (address number) items (end_code never) own) in
      omega (arith, last, past_is (address number) items)

  leads_small : (o : Option ℕ) → IfSome o (λ body. body < length function.bodies)
      → leads_to address fail o < 2 ^ 31
  leads_small None h = omega (arith, at_halt.2)
  leads_small (Some number) h = address_small number h

  pair_is : (o : Option (ℕ × ℕ))
      → IfSome (route_from route o) (λ body. body < length function.bodies)
      → pair_address address default o ≡ leads_to address fail (route_from route o)
  pair_is None h = refl
  pair_is (Some case) h = bits_are (address case.1) (address_small case.1 h)

  -- where the table leads a state
  state_at : (state : Option ℕ) (more : List ℤ)
      → paired (pairs ++ more) (state_cell state) count default
      ≡ leads_to address fail (routed route (Some state))
  state_at None more = none_led address more default route.cases
  state_at (Some state) more =
      state_led address more default state route.cases
      ∙ pair_is (case_for route state)
      (routed_in function route fallback_is cases_are (Some (Some state)))

  module _ (turns : ℕ) (calls : CallsBelow x turns) (v : View) (held : List Held)
      (cells waits : List ℤ) (back : ℕ) (suit : SuitAll function.params held)
      (hold : HoldArguments x.program x.room v held cells) (laid : Laid x.program x.room v)
      (starts : Starts x back)
      (deep : used x.program x.room v waits ≤ kept x.program x.room + sum v.needs) (e : World) where
    abbrev within : View
    within =
        in_call x.program x.room v (need function)
        (pos v.frm ∷ pos back ∷ pos (4 * length cells) ∷ []) held cells waits

    abbrev Comes : ℤ → World → Config → Type 0
    Comes = Back x.program x.room v waits back

    body_with : (number : ℕ) (it : Numbered function.bodies number) (t : Config)
        → Stands x.program x.room within [] (address number) e t
        → DoesAt x (length (item_cells bodies)) e t
        (run_body (with_turns x turns) (slice_get function.bodies number) e) Comes
    body_with number it t s =
        let begins = address number in
        let items = body_items x.program function.params begins it.body in
        let own =
        body_lies x x.program function.params function.bodies
        (bodies_at begin route) number it.body it.there at_halt.3 in
        let shorter =
        body_few x.program function.params function.bodies
        (bodies_at begin route) number it.body it.there in
        let sound = valid number it.body it.there in
        let long : length (item_cells items) ≤ length x.amx.code =
        omega (arith, paid, shorter, length-append pairs (item_cells behind)) in
        subst (λ o. DoesAt x (length (item_cells bodies)) e t
        (run_body (with_turns x turns) o e) Comes) (sym it.there)
        (wider (move x.amx x.script) (length x.amx.code) x.room
        {c = length (item_cells items)} shorter
        (gives_of x (length (item_cells items)) e (with_turns x turns it.body.stmt e) value_of
        (λ way. Comes (value_of way)) (λ a u n k. k)
        (turns_left x it.body.stmt s turns (length (item_cells items))
        (λ j z. body_runs x site function number it.body it.there sound.0 sound.1 begins own long j
        (λ fewer h. calls fewer (omega (arith, h, z)))
        v held cells waits back suit hold laid starts deep e t s))))

    -- the body that was chosen, or error 13
    by_number : (o : Option ℕ) → IfSome o (λ body. body < length function.bodies) → (t : Config)
        → Stands x.program x.room within [] (leads_to address fail o) e t
        → DoesAt x (length (item_cells behind)) e t
        (run_body (with_turns x turns) (body_at function o) e) Comes
    by_number None h t s =
        wider (move x.amx x.script) (length x.amx.code) x.room {c = 1} (omega arith)
        (stops (move x.amx x.script) (length x.amx.code) x.room
        (ends_one (move x.amx x.script) (length x.amx.code) x.room t
        (record t { state = record t.state { cip = fail + 8 } }) e (end_of.Error (pos 13))
        (move_is x t fail (with op.Halt (pos 13)) s.at at_halt.0) s.said))
    by_number (Some number) h t s =
        wider (move x.amx x.script) (length x.amx.code) x.room {c = length (item_cells bodies)}
        (omega arith) (body_with number (numbered function.bodies number h) t s)

    own_cell : Laid x.program x.room within
        → PlacedIn x.program x.room within (Automaton route.automaton)
        (automaton_cell x.program route.automaton)
    own_cell k = record {
      where_it_is = inl (record {
        stands = automaton_in_low x.program route.automaton v.temps below;
        apart = each_gives (IsOfCall (depth within)) (Apart (Automaton route.automaton)) within.high
            (λ q h. automaton_below (depth within) route.automaton q h) k.frames_are;
      });
    }

    -- LOAD.pri and SWITCH
    by_state : (t : Config) → Stands x.program x.room within [] (begin + 4) e t
        → (o : Option (Option ℕ)) → slice_get e.memory.states route.automaton ≡ o → HasState o
        → DoesAt x (1 + (1 + length (item_cells behind))) e t
        (run_body (with_turns x turns) (body_at function (routed route o)) e) Comes
    by_state t s None h z = elim z [ ]
    by_state t s (Some state) h z =
        let cell = automaton_cell x.program route.automaton in
        let r = state_read s.mem (own_cell s.laid) state h in
        let t1 : State = record t.state { pri = state_cell state; cip = begin + 4 + 8 } in
        let s1 = stands_on x.program x.room s (begin + 4 + 8) t1 refl refl refl refl refl in
        let led =
        table_leads x table_at count default pairs behind (state_cell state) at_table few
        (leads_small route.fallback fallback_is) in
        let t2 : State = record t1 { cip = case_of x.amx table_at (state_cell state) } in
        let s2 =
        stands_on x.program x.room s1 (case_of x.amx table_at (state_cell state)) t2 refl
        refl refl refl refl in
        goes x s (with op.LoadPri (pos (4 * cell))) l.3.0 t1 (rw (r.live, r.value) refl)
        (goes x s1 (with op.Switch (pos table_at)) l.3.3.0 t2 (rw (bits_are table_at l.3.3.2) refl)
        (by_number (routed route (Some state))
        (routed_in function route fallback_is cases_are (Some state)) (record t { state = t2 })
        (subst (λ q. Stands x.program x.room within [] q e (record t { state = t2 }))
        (led.is ∙ state_at state led.more) s2)))

  pub route_runs : (turns : ℕ) → CallsBelow x turns
      → (v : View) (held : List Held) (cells waits : List ℤ) (back : ℕ)
      → SuitAll function.params held
      → HoldArguments x.program x.room v held cells → Laid x.program x.room v → Starts x back
      → used x.program x.room v waits ≤ kept x.program x.room + sum v.needs
      → (w : World) (c : Config) → Stands x.program x.room v
      (pos back ∷ pos (4 * length cells) ∷ (cells ++ waits)) (x.entry f) w c
      → DoesAt x (length (item_cells (route_items x.program function (x.entry f) route))) w c
      (enter_function (with_turns x turns) f function held w)
      (With x.program x.room v waits back)
  route_runs turns calls v held cells waits back suit hold laid starts deep w c s =
      let n = 1 + (1 + length (item_cells behind)) in
      let chosen = body_at function (routed route (slice_get w.memory.states route.automaton)) in
      let e = entered (frame_of f function held chosen) w in
      let few_cells =
      hold_count x.program x.room v held cells hold
      ∙ suit_count function.params held suit in
      subst (λ d. DoesAt x (length (item_cells (route_items x.program function (x.entry f) route)))
      w c
      (in_body (with_turns x turns) f function held (body_by function d w.memory) w)
      (With x.program x.room v waits back)) (sym routed_by)
      (wider (move x.amx x.script) (length x.amx.code) x.room {c = 1 + (n + 0)}
      (omega (arith, length-append pairs (item_cells behind)))
      (chosen_does x turns v f function held cells waits back hold laid starts chosen n begin w c s
      l.0 (omega (arith, deep, few_cells))
      (λ t k. by_state turns calls v held cells waits back suit hold laid starts deep e t k
      (slice_get w.memory.states route.automaton) refl
      (mem_there k.mem (own_cell turns calls v held cells waits back suit hold laid starts deep e
      k.laid)))))
