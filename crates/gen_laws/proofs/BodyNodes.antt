-- A body's code does what its statement means, and goes back to the caller.
use Rattle.std.proofs.Common.{◌≡◌, ◌+◌, ◌*◌, ◌-◌, ◌≤◌, ℕ, ℤ, pos, List, [], ◌∷◌, Some, Bool, true, false}
use Rattle.std.proofs.Common.{length, sum, slice_get, refl, sym, ◌∙◌, arith}
use Rattle.pawn_meaning.specs.Program.{Body, Function}
use Rattle.pawn_meaning.specs.Valid.{IsValidBody, body_scope}
use Rattle.pawn_meaning.specs.ValidStmts.{slots_made, all_slots_made}
use Rattle.pawn_meaning.specs.World.{World}
use Rattle.pawn_meaning.specs.Run.{Outcome, Gives, Stops, More}
use Rattle.pawn_meaning.specs.Natives.{Held}
use Rattle.pawn_meaning.specs.Calls.{Way, Through, Broke, Continued, Returned, value_of}
use Rattle.pawn_meaning.specs.Meaning.{run}
use Rattle.pawn_meaning.specs.Need.{locals, stmt_load, greatest_locals, greatest_load, need}
use Rattle.amx_ops.specs.declared.op.Op.TheVariants as op
use Rattle.amx_ops.specs.State.{State}
use Rattle.amx_ops.specs.Moves.{Config, move}
use Rattle.pawn_cells.proofs.CellLaws.{small_cell}
use Rattle.gen_sim.proofs.Sim.{stays, gives, grown, size_is, after_it}
use Rattle.gen_sim.specs.Pieces.{Fixed, total}
use Rattle.gen_sim.specs.View.{View, depth, kept, used, Laid}
use Rattle.gen_sim.specs.Next.{HoldArguments, param_pieces, in_call}
use Rattle.gen_sim.specs.Stands.{Stands}
use Rattle.gen_sim.proofs.PieceLaws.{total-append}
use Rattle.gen_sim.proofs.ViewLaws.{total_params}
use Rattle.gen_sim.proofs.WorldLaws.{stands_on}
use Rattle.gen_sim.specs.Site.{Site, IsSite, Starts, DoesAt, scene_at}
use Rattle.gen_sim.specs.Items.{Item, item_cells, past, LieIn, with}
use Rattle.gen_sim.specs.Results.{SuitAll}
use Rattle.gen_sim.specs.Back.{Back}
use Rattle.gen_sim.specs.Code.{CallsWithin, with_turns}
use Rattle.gen_sim.proofs.CallLaws.{sum_cons}
use Rattle.gen_sim.proofs.ItemLaws.{lie_first, lie_rest, count-append}
use Rattle.gen_sim.proofs.StepLaws.{goes}
use Rattle.gen_sim.proofs.CalledScopes.{suit_count, hold_count, called_fits}
use Rattle.gen_sim.specs.Lies.{Lies}
use Rattle.gen_sim.specs.Here.{Here}
use Rattle.gen_sim.specs.Ways.{Outer, Left}
use Rattle.gen_sim.specs.Flow.{Begins, StmtCode}
use Rattle.gen_sim.proofs.LoopNodes.{inner_does}
use Rattle.gen_laws.specs.Fresh.{Fresh, Ready}
use Rattle.gen_laws.specs.StmtCode.{stmt_items}
use Rattle.gen_sim.proofs.KindLaws.{Known, known_does}
use Rattle.gen_sim.proofs.WayLaws.{IsOut}
use Rattle.gen_laws.specs.GoesOn.{never_goes_on}
use Rattle.gen_laws.proofs.GoesOnLaws.{never_out}
use Rattle.gen_laws.proofs.FreshLaws.{makes_none}
use Rattle.gen_laws.proofs.StmtNodes.{stmt_does}
use Rattle.gen_laws.specs.BodyCode.{no_exits, body_here, end_code, body_items}
use Rattle.gen_laws.proofs.OnceLaws.{made_once, greatest_of}
use Rattle.gen_laws.proofs.ReturnLaws.{returns}

clash : false ≡ true → ⊥
clash e = cc

-- an instruction starts at the end of a statement
end_starts : (x : Site) (p : ℕ) (b : Bool) → LieIn x p (end_code b) → Starts x p
end_starts x p true l = rw l.0 refl
end_starts x p false l = rw l.0 refl

-- what is known of a run only in one case
where_never : (o : Outcome Way) (b : Bool) → (b ≡ true → Known o IsOut)
    → Known o (λ way. b ≡ true → IsOut way)
where_never (Gives way w) b h = h
where_never (Stops e w) b h = tt
where_never (More w) b h = tt

module _ (x : Site) (site : IsSite x) (function : Function) (number : ℕ) (body : Body)
    (there : slice_get function.bodies number ≡ Some body)
    (valid : IsValidBody x.program function.params body) (ready : Ready x.program body.slots)
    (at : ℕ) where
  abbrev here : Here
  here = body_here x.program function.params body

  abbrev items : List Item
  items = stmt_items here at body.stmt

  abbrev end : ℕ
  end = past at items

  fresh : Fresh (body_scope x.program function.params body) (all_slots_made body.stmt)
  fresh = record {
    new = λ s a m. absurd (omega (arith, m.2));
    once =
        made_once (all_slots_made body.stmt) (length function.params)
        (length body.slots - length function.params) valid.makes;
  }

  none : slots_made body.stmt ≡ []
  none = makes_none (body_scope x.program function.params body) false body.stmt valid.stmt

  part : StmtCode here body.stmt at items
  part = stmt_does body.stmt here false valid.stmt ready fresh at

  enough : locals body.slots body.stmt + stmt_load body.stmt ≤ greatest_locals function.bodies
      + greatest_load function.bodies
  enough =
      omega (
        arith,
        greatest_of (λ (it : Body). locals it.slots it.stmt) function.bodies number body there,
        greatest_of (λ (it : Body). stmt_load it.stmt) function.bodies number body there,
      )

  module _ (l : LieIn x at (body_items x.program function.params at body))
      (paid : length (item_cells (body_items x.program function.params at body))
      ≤ length x.amx.code) (turns : ℕ) (calls : CallsWithin x turns)
      (v : View) (held : List Held) (cells waits : List ℤ) (back : ℕ)
      (suit : SuitAll function.params held) (hold : HoldArguments x.program x.room v held cells)
      (laid : Laid x.program x.room v) (starts : Starts x back)
      (deep : used x.program x.room v waits ≤ kept x.program x.room + sum v.needs) where
    abbrev saved : List ℤ
    saved = pos v.frm ∷ pos back ∷ pos (4 * length cells) ∷ []

    abbrev inner : View
    inner = in_call x.program x.room v (need function) saved held cells waits

    abbrev outer : Outer
    outer = record { loop = inner; body = inner; caller = v; waits = waits; back = back }

    at_end : LieIn x end (end_code (never_goes_on body.stmt))
    at_end = lie_rest x at items (end_code (never_goes_on body.stmt)) l

    lies : Lies x at items
    lies = record {
      lie = lie_first x at items (end_code (never_goes_on body.stmt)) l;
      starts = end_starts x end (never_goes_on body.stmt) at_end;
    }

    high : total inner.high ≡ 3 + length cells + (length waits + total v.high)
    high =
        omega (
          arith,
          total-append (Fixed saved ∷ param_pieces (depth v) 0 held cells) (Fixed waits ∷ v.high),
          total_params x.program x.room v (depth v) 0 held cells hold,
        )

    few : length cells ≡ length function.params
    few = hold_count x.program x.room v held cells hold ∙ suit_count function.params held suit

    all_deep : used x.program x.room inner [] + (locals body.slots body.stmt + stmt_load body.stmt)
        ≤ kept x.program x.room + sum inner.needs
    all_deep = omega (arith, high, few, enough, deep, sum_cons (need function) v.needs)

    begins : (w : World) (c : Config) → Stands x.program x.room inner [] at w c
        → Begins here x turns inner outer
    begins w c s = record {
      site = site;
      same = refl;
      calls = calls;
      fits =
          called_fits x.program x.room v function.params body
          (need function) saved held cells waits laid hold suit valid.begins refl
          (omega (arith, high, s.mem.size));
      inside = record {
        loop = λ h. absurd (clash h);
        body = record { is = refl; laid = s.laid };
        returns =
            λ y q u t k g. returns x v (need function) back held cells waits hold laid starts y
            (λ z. z) y refl q u t k g;
      };
    }

    -- through its end 0 is the value
    finish : (b : Bool) → LieIn x end (end_code b) → (way : Way) (w : World) (c : Config)
        → (b ≡ true → IsOut way) → Left x no_exits outer inner end way w c
        → DoesAt x (length (item_cells (end_code b))) w c (Gives way w)
        (λ z. Back x.program x.room v waits back (value_of z))
    finish true l Through w c out k = elim (out refl) [ ]
    finish false l Through w c out k =
        let t : State = record c.state { pri = pos 0; cip = end + 4 } in
        let s = stands_on x.program x.room k (end + 4) t refl refl refl refl refl in
        goes x {d = 1} k (with op.ZeroPri (pos 0)) l.0 t refl
        (returns x v (need function) back held cells waits hold laid starts Through value_of
        (pos 0) refl (end + 4) w (record c { state = t })
        (record { stands = s; value = refl; fits = small_cell 0 (omega arith) }) l.3.0)
    finish b l Broke w c out k = absurd (clash k.0)
    finish b l Continued w c out k = absurd (clash k.0)
    finish b l (Returned y) w c out k =
        gives (move x.amx x.script) (length x.amx.code) x.room
        (grown (move x.amx x.script) (length x.amx.code) x.room (omega arith)
        (stays (move x.amx x.script) (length x.amx.code) x.room c w k.back.stands.said k))

    pub body_runs : (w : World) (c : Config) → Stands x.program x.room inner [] at w c
        → DoesAt x (length (item_cells (body_items x.program function.params at body))) w c
        (run (scene_at x) (with_turns x turns) body.stmt w)
        (λ way. Back x.program x.room v waits back (value_of way))
    body_runs w c s =
        let all = run (scene_at x) (with_turns x turns) body.stmt w in
        let never = never_goes_on body.stmt in
        size_is (move x.amx x.script) (length x.amx.code) x.room
        (sym (count-append items (end_code never)))
        (after_it (move x.amx x.script) (length x.amx.code) x.room all
        (λ way u t. Left x no_exits outer inner end way u t × (never ≡ true → IsOut way))
        (known_does x (length (item_cells items)) w all (Left x no_exits outer inner end)
        (λ way. never ≡ true → IsOut way)
        (where_never all never
        (λ e. never_out (scene_at x) (with_turns x turns) body.stmt e w))
        (inner_does here none part x turns inner outer (begins w c s) lies
        (omega (arith, paid, count-append items (end_code never)))
        all_deep w c s))
        (λ way u t k. finish never at_end way u t k.1 k.0))
