-- `sleep`: the host is shown the value and its tag, and the run goes on behind it. What is free is
-- swept.
use Rattle.std.proofs.Common.{◌≡◌, ◌+◌, ◌-◌, ◌/◌, ℕ, ℤ, pos, List, [], ◌∷◌, ◌++◌, Some}
use Rattle.std.proofs.Common.{length, take, drop, replicate, refl, sym, ap, subst, ◌∙◌, arith}
use Rattle.std.proofs.Common.{append_assoc, length-append}
use Rattle.std.proofs.Math.Seq.{drop-append_seam, take-append_seam, drop-append-add}
use Rattle.std.proofs.lemmas.List.{length-replicate, map-append}
use Rattle.std.proofs.lemmas.List.Elements.{All-append, All-take, All-drop, All-replicate}
use Rattle.std.specs.Prelude.{All}
use Rattle.pawn_cells.specs.Cells.{IsCell, cell_of}
use Rattle.host_script.specs.declared.event.Event.TheVariants as event
use Rattle.pawn_meaning.specs.Program.{Expr, Sleep}
use Rattle.pawn_meaning.specs.World.{Entry, World, said}
use Rattle.pawn_meaning.specs.Run.{Gives, done, ◌>>=◌, give, say}
use Rattle.pawn_meaning.specs.Calls.{Through}
use Rattle.pawn_meaning.specs.Meaning.{value}
use Rattle.pawn_meaning.specs.Memory.{Memory}
use Rattle.pawn_meaning.specs.Told.{events_of}
use Rattle.pawn_meaning.proofs.Grows.{give_grows, after_grows, say_grows}
use Rattle.amx_ops.specs.declared.op.Op.TheVariants as op
use Rattle.amx_ops.specs.Instructions.{fetched}
use Rattle.amx_ops.specs.Written.{read_as}
use Rattle.amx_ops.specs.State.{State, swept}
use Rattle.amx_ops.specs.Runs as runs
use Rattle.amx_ops.specs.Runs.{iterate}
use Rattle.amx_ops.specs.Moves.{Config, shown, move}
use Rattle.amx_ops.proofs.RunLaws.{iterate-sleeps}
use Rattle.pawn_cells.proofs.CellLaws.{small_cell}
use Rattle.gen_sim.specs.Does.{Reach, Running}
use Rattle.gen_sim.proofs.Sim.{gives, wider}
use Rattle.gen_sim.specs.Pieces.{Piece, image, total}
use Rattle.gen_sim.specs.Mem.{Mem, row}
use Rattle.gen_sim.specs.View.{View}
use Rattle.gen_sim.specs.Stands.{Stands, With}
use Rattle.gen_sim.proofs.PieceLaws.{length_image}
use Rattle.gen_sim.proofs.ChangeLaws.{there_low, there_high, there_row, image_row}
use Rattle.gen_sim.specs.Site.{Site, DoesAt, scene_at}
use Rattle.gen_sim.specs.Items.{Item, item_cells, past, with}
use Rattle.gen_sim.specs.Code.{with_turns}
use Rattle.gen_sim.specs.Contract.{ValueCode}
use Rattle.gen_sim.proofs.StepLaws.{move_is, goes}
use Rattle.gen_sim.specs.SimpleCode.{taking}
use Rattle.gen_sim.proofs.ItemSteps.{next_lies}
use Rattle.gen_sim.proofs.NodesPartLaws.{gives_of, then_items}
use Rattle.gen_sim.specs.Here.{Here}
use Rattle.gen_sim.specs.Ways.{Left}
use Rattle.gen_sim.specs.Flow.{StmtCode}
use Rattle.gen_sim.proofs.FlowNodes.{value_at}
use Rattle.gen_sim.specs.StateCode.{sleep_code}

-- ---- the memory

swept_mem : {N : ℕ} {low : List Piece} {pending : List ℤ} {high : List Piece} {m : Memory}
    {s : State} → Mem N low pending high m s → (t : State)
    → t.cells ≡ (swept s).cells → t.hea ≡ s.hea → t.stk ≡ s.stk → Mem N low pending high m t
swept_mem {low = low} {pending} {high} {m} {s} mem t c h k =
    let zl = there_low m low (mem.free ++ pending) high mem.there in
    let n : length (image m low) ≡ total low = length_image m low zl in
    let zeros : List ℤ = replicate (length mem.free) (pos 0) in
    let count : length zeros ≡ length mem.free = length-replicate (length mem.free) (pos 0) in
    let rest : List ℤ = pending ++ image m high in
    let i1 : s.hea / 4 ≡ length (image m low) = omega (arith, mem.hea, n) in
    let i2 : s.stk / 4 ≡ length (image m low) + length mem.free = omega (arith, mem.stk, n) in
    let i3 : s.stk / 4 - s.hea / 4 ≡ length mem.free = omega (arith, i1, i2) in
    let split : s.cells ≡ image m low ++ (mem.free ++ rest) =
    mem.cells ∙ image_row m low (mem.free ++ pending) high
    ∙ ap (λ l. image m low ++ l) (append_assoc mem.free pending (image m high)) in
    let first : take (s.hea / 4) s.cells ≡ image m low =
    ap (λ j. take j s.cells) i1 ∙ ap (λ l. take (length (image m low)) l) split
    ∙ take-append_seam (image m low) (mem.free ++ rest) in
    let last : drop (s.stk / 4) s.cells ≡ rest =
    ap (λ j. drop j s.cells) i2 ∙ ap (λ l. drop (length (image m low) + length mem.free) l) split
    ∙ drop-append-add (image m low) (mem.free ++ rest) (length mem.free)
    ∙ drop-append_seam mem.free rest in
    let whole : (swept s).cells ≡ image m low ++ (zeros ++ rest) =
    ap (λ l. l ++ (replicate (s.stk / 4 - s.hea / 4) (pos 0) ++ drop (s.stk / 4) s.cells)) first
    ∙ ap (λ j. image m low ++ (replicate j (pos 0) ++ drop (s.stk / 4) s.cells)) i3
    ∙ ap (λ l. image m low ++ (zeros ++ l)) last in
    let there : image m (row low (zeros ++ pending) high) ≡ image m low ++ (zeros ++ rest) =
    image_row m low (zeros ++ pending) high
    ∙ ap (λ l. image m low ++ l) (append_assoc zeros pending (image m high)) in
    record {
      free = zeros;
      cells = c ∙ whole ∙ sym there;
      hea = h ∙ mem.hea;
      stk = omega (arith, k, mem.stk, count);
      there =
          there_row m low (zeros ++ pending) high zl
          (there_high m low (mem.free ++ pending) high mem.there);
      size =
          omega (
            arith,
            mem.size,
            count,
            length-append mem.free pending,
            length-append zeros pending,
          );
      fits =
          subst (λ l. All IsCell l) (sym c)
          (All-append IsCell (take (s.hea / 4) s.cells)
          (replicate (s.stk / 4 - s.hea / 4) (pos 0) ++ drop (s.stk / 4) s.cells)
          (All-take IsCell (s.hea / 4) s.cells mem.fits)
          (All-append IsCell (replicate (s.stk / 4 - s.hea / 4) (pos 0)) (drop (s.stk / 4) s.cells)
          (All-replicate IsCell (s.stk / 4 - s.hea / 4) (pos 0) (small_cell 0 (omega arith)))
          (All-drop IsCell (s.stk / 4) s.cells mem.fits)));
    }

-- ---- CONST.alt, HALT 12

module _ (x : Site) {v : View} (y tag : ℤ) (p : ℕ) (w : World) (c : Config)
    (a : With x.program x.room v [] p y w c) where
  abbrev asleep : State
  asleep = record (swept (record c.state { alt = tag; cip = p + 8 })) { cip = p + 8 + 8 }

  abbrev later : World
  later = said (event.Slept y tag) w

  more : c.events ++ event.Slept y tag ∷ [] ≡ events_of later.entries
  more =
      ap (λ l. l ++ event.Slept y tag ∷ []) a.stands.said
      ∙ sym (map-append (λ (entry : Entry). entry.event) w.entries
      (record { event = event.Slept y tag; turns = w.turns; peak = w.peak } ∷ []))

  abbrev behind : Config
  behind =
      record { state = asleep; position = c.position; events = c.events ++ event.Slept y tag ∷ [] }

  sleep_does : fetched x.amx.code p ≡ Some (read_as (with op.ConstAlt tag))
      → fetched x.amx.code (p + 8) ≡ Some (read_as (with op.Halt (pos 12)))
      → DoesAt x 2 w c (Gives done later) (λ d u t. Stands x.program x.room v [] (p + 8 + 8) u t)
  sleep_does f g =
      let t : State = record c.state { alt = tag; cip = p + 8 } in
      let c1 : Config = record c { state = t } in
      let sleeps : move x.amx x.script c1 ≡ runs.Sleeps behind =
      move_is x c1 (p + 8) (with op.Halt (pos 12)) refl g
      ∙ ap (λ z. runs.Sleeps (shown (event.Slept z tag) (record c1 { state = asleep }))) a.value in
      let reach : Reach (move x.amx x.script) (length x.amx.code) x.room 1 w.turns c1 later Running
      (λ n. Stands x.program x.room v [] (p + 8 + 8) later n) =
      record {
        steps = 1;
        config = behind;
        by =
            λ k. ap (λ n. iterate (move x.amx x.script) n c1) (omega arith)
            ∙ iterate-sleeps (move x.amx x.script) k c1 behind sleeps;
        said = more;
        least = omega arith;
        most = omega arith;
        holds = record {
          mem = swept_mem a.stands.mem asleep refl refl refl;
          frame = a.stands.frame;
          at = refl;
          said = more;
          position = a.stands.position;
          needs = a.stands.needs;
          most = a.stands.most;
          laid = a.stands.laid;
          params = a.stands.params;
          temps = a.stands.temps;
        };
      } in
      goes x {d = 1} a.stands (with op.ConstAlt tag) f t refl
      (gives (move x.amx x.script) (length x.amx.code) x.room reach)

pub sleep_node_does : (here : Here) (begin : ℕ) (e : Expr) (tag : ℕ) (items : List Item)
    → ValueCode here.scope e begin items
    → StmtCode here (Sleep e tag) begin (sleep_code tag items)
sleep_node_does here begin e tag items part = record {
  fresh = tt;
  count = refl;
  does = λ x turns v o b l paid deep w c s.
      let p = past begin items in
      let last = taking op.ConstAlt (cell_of tag) ∷ taking op.Halt (pos 12) ∷ [] in
      then_items x begin items last (λ y u t. With x.program x.room v [] p y u t)
      (Left x here.exits o v) w l
      (value (scene_at x) (with_turns x turns) e w)
      (λ y. say (event.Slept y (cell_of tag)) >>= (λ _. give Through))
      (λ y u. (after_grows (say_grows (event.Slept y (cell_of tag))) (λ _. give_grows Through)).at
      u)
      (λ j. value_at here b part j (omega (arith, deep)) w c s)
      (λ j y u t k. wider (move x.amx x.script)
      (length x.amx.code) x.room {d = length (item_cells last)} (omega arith)
      (gives_of x 2 u (say (event.Slept y (cell_of tag)) u) (λ d. Through)
      (λ d n i. Stands x.program x.room v [] (p + 8 + 8) n i) (λ d n i m. m)
      (sleep_does x y (cell_of tag) p u t k j.lie.0
      (next_lies x p (taking op.ConstAlt (cell_of tag))
      (taking op.Halt (pos 12) ∷ []) j).lie.0)));
}
