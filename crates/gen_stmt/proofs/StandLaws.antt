-- What is known of the locals where a statement stands, and behind it.
use Rattle.std.proofs.Common.{◌≡◌, ◌+◌, ◌-◌, ◌≤◌, ℕ, List, ◌++◌, drop, length, map, take, sym, ap}
use Rattle.std.proofs.Common.{subst, ◌∙◌, arith, length-append, length-drop}
use Rattle.std.proofs.lemmas.List.{take-append-le, drop-append-le, take_all, drop_all}
use Rattle.std.proofs.lemmas.List.{take-append-drop, drop_at, take_at}
use Rattle.pawn_meaning.specs.Program.{Slot}
use Rattle.pawn_meaning.specs.View.{slot_view}
use Rattle.gen_sim.specs.Here.{Exits, behind}
use Rattle.gen_sim.specs.FlowCode.{made_cells}
use Rattle.gen_sim.proofs.MadeViews.{count_more}
use Rattle.gen_stmt.specs.Keeps.{Keeps, scope_in}
use Rattle.gen_stmt.specs.declared.locals.Locals.{Locals}
use Rattle.gen_stmt.specs.declared.locals.Mark.{Mark}
use Rattle.gen_stmt.specs.declared.place.Place.{Place}
use Rattle.gen_stmt.specs.Standing.{here_in, within_in, IsMark, Stands, Within}

-- ---- marks

pub mark_more : (slots : List Slot) (mark : Mark) (made more : List ℕ) → IsMark slots mark made
    → IsMark slots mark (made ++ more)
mark_more slots mark made more h = (
  omega (arith, h.0, length-append made more),
  h.1
      ∙ ap (λ l. made_cells slots l) (sym (take-append-le mark.made made more h.0)),
)

-- of what is in force now
pub mark_now : (slots : List Slot) (params : ℕ) (locals : Locals) (mark : Mark)
    → Keeps slots params locals
    → mark ≡ record { made = length locals.made.items; cells = locals.cells }
    → IsMark slots mark locals.made.items
mark_now slots params locals mark k e =
    let made = locals.made.items in
    let count : mark.made ≡ length made = ap (λ (m : Mark). m.made) e in
    let cells : mark.cells ≡ locals.cells = ap (λ (m : Mark). m.cells) e in (
      omega (arith, count),
      cells ∙ k.cells
          ∙ ap (λ l. made_cells slots l) (sym (take_all mark.made made (omega (arith, count)))),
    )

pub since_count : (slots : List Slot) (mark : Mark) (made : List ℕ) → IsMark slots mark made
    → length made - mark.made ≡ length (drop mark.made made)
since_count slots mark made h = sym (length-drop mark.made made)

pub since_cells : (slots : List Slot) (mark : Mark) (made : List ℕ) → IsMark slots mark made
    → made_cells slots made ≡ mark.cells + made_cells slots (drop mark.made made)
since_cells slots mark made h =
    ap (λ l. made_cells slots l) (sym (take-append-drop mark.made made))
    ∙ count_more slots (take mark.made made) (drop mark.made made)
    ∙ ap (λ n. n + made_cells slots (drop mark.made made)) (sym h.1)

-- ---- where a statement stands

pub stands_more : (place : Place) (old new : Locals) → Stands place old
    → Keeps (map slot_view place.slots.now) place.params new → Stands place new
stands_more place old new h k = record { objects = h.objects; automata = h.automata; keeps = k }

pub within_more : (place : Place) (since : Mark) (old new : Locals) (more : List ℕ)
    → Within place since old → Stands place new
    → new.made.items ≡ old.made.items ++ more → Within place since new
within_more place since old new more h s e = record {
  stands = s;
  mark =
      subst (λ l. IsMark (map slot_view place.slots.now) since l) (sym e)
      (mark_more (map slot_view place.slots.now) since old.made.items more h.mark);
}

pub within_same : (place : Place) (since : Mark) (old new : Locals) → Within place since old
    → Stands place new
    → new.made.items ≡ old.made.items → Within place since new
within_same place since old new h s e = record {
  stands = s;
  mark = subst (λ l. IsMark (map slot_view place.slots.now) since l) (sym e) h.mark;
}

-- a loop's body begins now
pub within_now : (place : Place) (locals : Locals) (mark : Mark) → Stands place locals
    → mark ≡ record { made = length locals.made.items; cells = locals.cells }
    → Within place mark locals
within_now place locals mark h e = record {
  stands = h;
  mark = mark_now (map slot_view place.slots.now) place.params locals mark h.keeps e;
}

pub behind_here : (place : Place) (made more : List ℕ) (since : ℕ) (exits : Exits)
    → since ≤ length made
    → behind more (here_in place made since exits) ≡ here_in place (made ++ more) since exits
behind_here place made more since exits h =
    ap (λ (l : List ℕ). record { scope = scope_in place (made ++ more); since = l; exits = exits })
    (sym (drop-append-le since made more h))

pub begun_here : (place : Place) (made : List ℕ) (since : ℕ) (exits : Exits) → since ≡ length made
    → here_in place made since exits ≡ within_in place made exits
begun_here place made since exits e =
    ap (λ (l : List ℕ). record { scope = scope_in place made; since = l; exits = exits })
    (drop_all since made (omega (arith, e)))

-- ---- what is left

pub taken_back : (mark : Mark) (cells : ℕ) (old more new : List ℕ)
    → mark ≡ record { made = length old; cells = cells } → new ≡ take mark.made (old ++ more)
    → new ≡ old
taken_back mark cells old more new e n =
    n ∙ take_at old more mark.made (sym (ap (λ (m : Mark). m.made) e))

pub dropped_more : (mark : Mark) (cells : ℕ) (old more : List ℕ)
    → mark ≡ record { made = length old; cells = cells } → drop mark.made (old ++ more) ≡ more
dropped_more mark cells old more e = drop_at old more mark.made (sym (ap (λ (m : Mark). m.made) e))

-- ---- behind a part that began at a mark

module _ (place : Place) (old mid : Locals) (mark : Mark) (more : List ℕ) (h : Stands place old)
    (e : mark ≡ record { made = length old.made.items; cells = old.cells })
    (m : mid.made.items ≡ old.made.items ++ more) where
  pub begun_mark : IsMark (map slot_view place.slots.now) mark mid.made.items
  begun_mark =
      subst (λ l. IsMark (map slot_view place.slots.now) mark l) (sym m)
      (mark_more (map slot_view place.slots.now) mark old.made.items more
      (mark_now (map slot_view place.slots.now) place.params old mark h.keeps e))

  pub back_to : (new : List ℕ) → new ≡ take mark.made mid.made.items → new ≡ old.made.items
  back_to new n =
      taken_back mark old.cells old.made.items more new e (n ∙ ap (λ l. take mark.made l) m)

  pub stands_back : (new : Locals) → Stands place mid
      → ((slots : List Slot) (params : ℕ) → Keeps slots params mid
      → mark.cells ≡ made_cells slots (take mark.made mid.made.items) → Keeps slots params new)
      → Stands place new
  stands_back new s k =
      stands_more place mid new s (k (map slot_view place.slots.now) place.params s.keeps
      begun_mark.1)
