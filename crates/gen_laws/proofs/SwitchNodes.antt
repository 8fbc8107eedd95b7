-- `switch`: its code does what it means, where that of its parts does.
use Rattle.std.proofs.Common.{◌≡◌, ◌+◌, ◌*◌, ◌^◌, ◌<◌, ◌≤◌, ℕ, ℤ, pos, List, [], ◌∷◌, ◌++◌, Bool}
use Rattle.std.proofs.Common.{true, false, if◌then◌else◌, length, max, sum, refl, sym, ap, subst}
use Rattle.std.proofs.Common.{◌∙◌, arith, append_assoc, length-append}
use Rattle.pawn_cells.specs.Cells.{bits_of}
use Rattle.pawn_meaning.specs.Program.{Expr, Stmt, Switch, Else, no_else, otherwise, Cases}
use Rattle.pawn_meaning.specs.Program.{no_cases, then_case}
use Rattle.pawn_meaning.specs.ValidStmts.{slots_made}
use Rattle.pawn_meaning.specs.World.{World}
use Rattle.pawn_meaning.specs.Run.{Run, choose}
use Rattle.pawn_meaning.specs.Calls.{Way, Through}
use Rattle.pawn_meaning.specs.Meaning.{value, run, run_else, run_case, in_ranges}
use Rattle.pawn_meaning.specs.Need.{made_by, locals, stmt_load, cases_locals, cases_load}
use Rattle.pawn_meaning.specs.Need.{else_locals, else_load}
use Rattle.pawn_meaning.specs.Later.{Grows}
use Rattle.pawn_meaning.proofs.Grows.{give_grows}
use Rattle.amx_ops.specs.declared.op.Op.TheVariants as op
use Rattle.amx_ops.specs.Written.{cells_of}
use Rattle.amx_ops.specs.State.{State}
use Rattle.amx_ops.specs.Effects.{paired, case_of}
use Rattle.amx_ops.specs.Moves.{Config, move}
use Rattle.gen_sim.proofs.Sim.{after_it, size_is, wider}
use Rattle.gen_sim.specs.View.{View, kept, used}
use Rattle.gen_sim.specs.Stands.{Stands, With}
use Rattle.gen_sim.proofs.WorldLaws.{stands_on}
use Rattle.gen_sim.specs.Site.{Site, DoesAt, scene_at}
use Rattle.gen_sim.specs.Items.{Item, size, placed_in, item_cells, past, with}
use Rattle.gen_sim.specs.Code.{with_turns}
use Rattle.gen_sim.specs.Contract.{ValueCode}
use Rattle.gen_sim.proofs.ItemLaws.{past-append, count-append, past_is}
use Rattle.gen_sim.proofs.StepLaws.{goes, given}
use Rattle.gen_sim.specs.Lies.{Lies}
use Rattle.gen_sim.specs.SimpleCode.{taking}
use Rattle.gen_sim.specs.JumpCode.{jump_to}
use Rattle.gen_sim.proofs.ItemSteps.{one_item, first_lies, rest_lies, next_lies}
use Rattle.gen_sim.proofs.NodesPartLaws.{nodes_of, then_items}
use Rattle.gen_sim.proofs.JumpNodes.{choose_grows}
use Rattle.gen_sim.proofs.JumpSteps.{past_small, jump_does}
use Rattle.gen_sim.specs.Here.{Here}
use Rattle.gen_sim.specs.Ways.{Outer, made_view, Left}
use Rattle.gen_sim.specs.FlowCode.{made_cells}
use Rattle.gen_sim.specs.Flow.{Begins, StmtCode, ElseCode}
use Rattle.gen_sim.proofs.WayLaws.{ends_left}
use Rattle.gen_sim.proofs.FlowNodes.{value_at}
use Rattle.gen_laws.specs.SwitchCode.{ranges_table, values_of, cases_values, table_item, cases_at}
use Rattle.gen_laws.specs.SwitchCode.{case_code, table_code, switch_code}
use Rattle.gen_laws.specs.SwitchFlow.{LedBy, CasesCode}
use Rattle.gen_laws.proofs.TableLaws.{bits_are, chosen, left_out, ranges_lead, length_ranges}
use Rattle.gen_laws.proofs.TableLaws.{table_leads}

else_grows : (x : Site) (turns : ℕ) (other : Else)
    → Grows (run_else (scene_at x) (with_turns x turns) other)
else_grows x turns no_else = give_grows Through
else_grows x turns (otherwise s) = (nodes_of x turns).statements s

case_grows : (x : Site) (turns : ℕ) (cases : Cases) {other : Run Way} (y : ℤ) → Grows other
    → Grows (run_case (scene_at x) (with_turns x turns) cases other y)
case_grows x turns no_cases y h = h
case_grows x turns (then_case ranges s cases) {other} y h =
    choose_grows (in_ranges ranges y) (run (scene_at x) (with_turns x turns) s)
    (run_case (scene_at x) (with_turns x turns) cases other y)
    ((nodes_of x turns).statements s) (case_grows x turns cases y h)

-- a statement that makes no slot
plain_does : (here : Here) (s : Stmt) (begin : ℕ) (items : List Item) → slots_made s ≡ []
    → StmtCode here s begin items
    → (x : Site) (turns : ℕ) (v : View) (o : Outer) → Begins here x turns v o → Lies x begin items
    → length (item_cells items) ≤ length x.amx.code
    → used x.program x.room v [] + (locals here.scope.slots s + stmt_load s) ≤ kept x.program x.room
    + sum v.needs
    → (w : World) (c : Config) → Stands x.program x.room v [] begin w c
    → DoesAt x (length (item_cells items)) w c (run (scene_at x) (with_turns x turns) s w)
    (Left x here.exits o v (past begin items))
plain_does here s begin items none part x turns v o b l paid deep w c k =
    let count : made_by here.scope.slots s ≡ 0 =
    sym part.count ∙ ap (λ m. made_cells here.scope.slots m) none in
    subst (λ z. DoesAt x (length (item_cells items)) w c (run (scene_at x) (with_turns x turns) s w)
    (Left x here.exits o (made_view here.scope.slots z v) (past begin items))) none
    (part.does x turns v o b l paid (omega (arith, deep, count)) w c k)

-- ---- cases

module _ (here : Here) where
  pub no_cases_do : (begin end : ℕ) → CasesCode here no_cases begin end [] []
  no_cases_do begin end = record {
    count = refl;
    does = λ x turns v o b l low paid deep y more n default d other w c k next.
        let none : n + 0 ≡ n = omega arith in
        wider (move x.amx x.script) (length x.amx.code) x.room {c = d} (omega arith)
        (next (subst (λ j. LedBy x v more y j default w c) none k));
  }

  module _ (begin end : ℕ) (ranges : List (ℤ × ℤ)) (s : Stmt) (cases : Cases)
      (one others : List Item) (table : List ℤ) (none : slots_made s ≡ [])
      (first : StmtCode here s begin one)
      (rest : CasesCode here cases (past begin one + 8) end others table) where
    abbrev all : List Item
    all = case_code end one others

    abbrev jump : Item
    jump = jump_to op.Jump end

    -- the first pairs are those of its ranges
    leads : (y : ℤ) (more : List ℤ) (n default : ℕ)
        → paired ((ranges_table ranges begin ++ table) ++ more) y
        (n + (values_of ranges + cases_values cases)) default
        ≡ (if in_ranges ranges y then bits_of (pos begin)
        else paired (table ++ more) y (n + cases_values cases) default)
    leads y more n default =
        let count : n + (values_of ranges + cases_values cases)
        ≡ n + cases_values cases + values_of ranges = omega arith in
        ap (λ (l : List ℤ). paired l y (n + (values_of ranges + cases_values cases)) default)
        (append_assoc (ranges_table ranges begin) table more)
        ∙ ap (λ k. paired (ranges_table ranges begin ++ (table ++ more)) y k default) count
        ∙ ranges_lead ranges y begin (n + cases_values cases) default (table ++ more)

    module _ (x : Site) (turns : ℕ) (v : View) (o : Outer) (b : Begins here x turns v o)
        (l : Lies x begin all) (low : end < 2 ^ 31)
        (paid : length (item_cells all) ≤ length x.amx.code)
        (deep : used x.program x.room v []
        + (max (locals here.scope.slots s) (cases_locals here.scope.slots cases)
        + max (stmt_load s) (cases_load cases))
        ≤ kept x.program x.room + sum v.needs) (w : World) (c : Config) where
      behind : Lies x (past begin one) (jump ∷ others)
      behind = rest_lies x begin one (jump ∷ others) l

      long : length (item_cells all) ≡ length (item_cells one) + length (item_cells (jump ∷ others))
      long = count-append one (jump ∷ others)

      small : begin < 2 ^ 31
      small = omega (arith, behind.lie.2, past_is begin one)

      -- this case holds the value
      case_does : Stands x.program x.room v [] begin w c
          → DoesAt x (length (item_cells all)) w c (run (scene_at x) (with_turns x turns) s w)
          (Left x here.exits o v end)
      case_does k =
          size_is (move x.amx x.script) (length x.amx.code) x.room (sym long)
          (after_it (move x.amx x.script) (length x.amx.code) x.room
          (run (scene_at x) (with_turns x turns) s w)
          (Left x here.exits o v (past begin one))
          (plain_does here s begin one none first x turns v o b
          (first_lies x begin one (jump ∷ others) l) (omega (arith, paid, long))
          (omega (arith, deep)) w c k)
          (λ way n h m. ends_left x here.exits o v v (past begin one) end way n h m
          (λ g. jump_does x g end 0 low (omega arith) behind (λ f q e. given x q q))))

      -- or the others follow
      by_value : (y : ℤ) (more : List ℤ) (n default d : ℕ) (other : Run Way)
          → LedBy x v ((ranges_table ranges begin ++ table) ++ more) y
          (n + (values_of ranges + cases_values cases)) default w c
          → (LedBy x v more y n default w c → DoesAt x d w c (other w) (Left x here.exits o v end))
          → (h : Bool) → in_ranges ranges y ≡ h
          → DoesAt x (d + length (item_cells all)) w c
          (choose h (run (scene_at x) (with_turns x turns) s)
          (run_case (scene_at x) (with_turns x turns) cases other y) w)
          (Left x here.exits o v end)
      by_value y more n default d other k next true e =
          let at = leads y more n default
          ∙ chosen (in_ranges ranges y) (bits_of (pos begin))
          (paired (table ++ more) y (n + cases_values cases) default) e
          ∙ bits_are begin small in
          wider (move x.amx x.script) (length x.amx.code) x.room {c = length (item_cells all)}
          (omega arith)
          (case_does (subst (λ q. Stands x.program x.room v [] q w c) at k))
      by_value y more n default d other k next false e =
          let at = leads y more n default
          ∙ left_out (in_ranges ranges y) (bits_of (pos begin))
          (paired (table ++ more) y (n + cases_values cases) default) e in
          wider (move x.amx x.script) (length x.amx.code) x.room
          {c = d + length (item_cells others)} (omega (arith, long))
          (rest.does x turns v o b (next_lies x (past begin one) jump others behind) low
          (omega (arith, paid, long)) (omega (arith, deep)) y more n default d other
          w c (subst (λ q. Stands x.program x.room v [] q w c) at k) next)

    pub then_case_does : CasesCode here (then_case ranges s cases) begin end all
        (ranges_table ranges begin ++ table)
    then_case_does = record {
      count =
          omega (
            arith,
            length-append (ranges_table ranges begin) table,
            length_ranges ranges begin,
            rest.count,
          );
      does = λ x turns v o b l low paid deep y more n default d other w c k next.
          by_value x turns v o b l low paid deep w c y more n default d other k next
          (in_ranges ranges y) refl;
    }

-- ---- the whole

module _ (here : Here) (begin : ℕ) (e : Expr) (cases : Cases) (other : Else)
    (code items second : List Item) (table : List ℤ) where
  abbrev from : ℕ
  from = past begin code

  abbrev default : ℕ
  default = past (cases_at from cases) items

  abbrev end : ℕ
  end = past default second

  abbrev tail : List Item
  tail = table_code from cases default table (items ++ second)

  abbrev entry : Item
  entry = table_item (cases_values cases) default table

  module _ (value_part : ValueCode here.scope e begin code)
      (cases_part : CasesCode here cases (cases_at from cases) end items table)
      (other_part : ElseCode here other default second) where
    behind_table : from + 8 + 4 * size entry ≡ cases_at from cases
    behind_table = omega (arith, cases_part.count)

    ends : past from tail ≡ end
    ends =
        ap (λ q. past q (items ++ second)) behind_table
        ∙ past-append (cases_at from cases) items second

    module _ (x : Site) (turns : ℕ) (v : View) (o : Outer) (b : Begins here x turns v o)
        (l : Lies x from tail)
        (paid : length (item_cells tail) ≤ length x.amx.code)
        (deep : used x.program x.room v []
        + (max (cases_locals here.scope.slots cases) (else_locals here.scope.slots other)
        + max (cases_load cases) (else_load other)) ≤ kept x.program x.room + sum v.needs) where
      at_table : Lies x (from + 8) (entry ∷ (items ++ second))
      at_table = next_lies x from (taking op.Switch (pos (from + 8))) (entry ∷ (items ++ second)) l

      at_cases : Lies x (cases_at from cases) (items ++ second)
      at_cases =
          subst (λ q. Lies x q (items ++ second)) behind_table
          (next_lies x (from + 8) entry (items ++ second) at_table)

      wide : length (item_cells (entry ∷ (items ++ second)))
          ≡ size entry + (length (item_cells items) + length (item_cells second))
      wide =
          omega (
            arith,
            length-append (cells_of (placed_in (λ f. 0) entry))
                (item_cells (items ++ second)),
            count-append items second,
          )

      few : cases_values cases < 2 ^ 31
      few = omega (arith, at_table.lie.2, cases_part.count)

      low : cases_at from cases < 2 ^ 31
      low = omega (arith, at_table.lie.2, behind_table)

      default_low : default < 2 ^ 31
      default_low =
          past_small x (cases_at from cases) items
          (first_lies x (cases_at from cases) items second at_cases).lie low

      end_low : end < 2 ^ 31
      end_low =
          past_small x default second (rest_lies x (cases_at from cases) items second at_cases).lie
          default_low

      -- from where the table leads the value
      led_does : (y : ℤ) (w : World) (c : Config)
          → Stands x.program x.room v [] (case_of x.amx (from + 8) y) w c
          → DoesAt x (length (item_cells second) + length (item_cells items)) w c
          (run_case (scene_at x) (with_turns x turns) cases
          (run_else (scene_at x) (with_turns x turns) other) y w) (Left x here.exits o v end)
      led_does y w c k =
          let led =
          table_leads x (from + 8) (cases_values cases) default table
          (items ++ second) y at_table.lie few default_low in
          let count : cases_values cases ≡ 0 + cases_values cases = omega arith in
          let at = led.is ∙ ap (λ n. paired (table ++ led.more) y n default) count in
          cases_part.does x turns v o b (first_lies x (cases_at from cases) items second at_cases)
          end_low (omega (arith, paid, wide)) (omega (arith, deep))
          y led.more 0 default (length (item_cells second))
          (run_else (scene_at x) (with_turns x turns) other) w c
          (subst (λ q. Stands x.program x.room v [] q w c) at k)
          (λ s. other_part.does x turns v o b
          (rest_lies x (cases_at from cases) items second at_cases) (omega (arith, paid, wide))
          (omega (arith, deep)) w c s)

      switched : (y : ℤ) (w : World) (c : Config) → With x.program x.room v [] from y w c
          → DoesAt x (length (item_cells tail)) w c
          (run_case (scene_at x) (with_turns x turns) cases
          (run_else (scene_at x) (with_turns x turns) other) y w)
          (Left x here.exits o v (past from tail))
      switched y w c k =
          let t : State = record c.state { cip = case_of x.amx (from + 8) c.state.pri } in
          let s =
          stands_on x.program x.room k.stands
          (case_of x.amx (from + 8) c.state.pri) t refl refl refl refl refl in
          subst (λ q. DoesAt x (length (item_cells tail)) w c
          (run_case (scene_at x) (with_turns x turns) cases
          (run_else (scene_at x) (with_turns x turns) other) y w) (Left x here.exits o v q))
          (sym ends)
          (one_item x (with op.Switch (pos (from + 8))) (entry ∷ (items ++ second)) w
          (goes x k.stands (with op.Switch (pos (from + 8))) l.lie.0 t
          (rw (bits_are (from + 8) l.lie.2) refl)
          (wider (move x.amx x.script) (length x.amx.code) x.room
          {c = length (item_cells second) + length (item_cells items)} (omega (arith, wide))
          (led_does y w (record c { state = t })
          (subst (λ z. Stands x.program x.room v [] (case_of x.amx (from + 8) z) w
          (record c { state = t })) k.value s)))))

    pub switch_does : StmtCode here (Switch e cases other) begin
        (switch_code from cases default code table (items ++ second))
    switch_does = record {
      fresh = tt;
      count = refl;
      does = λ x turns v o b l paid deep w c s.
          let rest = run_else (scene_at x) (with_turns x turns) other in
          let long = count-append code tail in
          then_items x begin code tail (λ y u t. With x.program x.room v [] from y u t)
          (Left x here.exits o v) w l
          (value (scene_at x) (with_turns x turns) e w)
          (λ y. run_case (scene_at x) (with_turns x turns) cases rest y)
          (λ y u. (case_grows x turns cases y (else_grows x turns other)).at u)
          (λ j. value_at here b value_part j (omega (arith, deep)) w c s)
          (λ j y u t k. switched x turns v o b j (omega (arith, paid, long))
          (omega (arith, deep)) y u t k);
    }
