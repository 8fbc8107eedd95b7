-- Arguments: each one's code puts what it means on the stack, and the others stay.
use Rattle.std.proofs.Common.{◌≡◌, ◌+◌, ◌*◌, ◌≤◌, ℕ, ℤ, pos, List, [], ◌∷◌, ◌++◌, Some, length, sum}
use Rattle.std.proofs.Common.{refl, sym, ap, subst, ◌∙◌, arith, length-append}
use Rattle.pawn_cells.specs.Cells.{IsCell}
use Rattle.pawn_meaning.specs.Program.{Slot, ScalarSlot, ReferenceSlot, ArraySlot, OpenSlot, Scalar}
use Rattle.pawn_meaning.specs.Program.{Global, Own, Element, Char, Array, Expr, Arg, Ref, Whole}
use Rattle.pawn_meaning.specs.Program.{Temp, Args, no_args, then_arg}
use Rattle.pawn_meaning.specs.Program as node
use Rattle.pawn_meaning.specs.Scope.{Scope, Extent, extent, known_extent, HasInner}
use Rattle.pawn_meaning.specs.ValidExprs.{IsNoChar, ArgAgrees}
use Rattle.pawn_meaning.specs.Memory.{Place, Cell, Character, Reference}
use Rattle.pawn_meaning.specs.Memory as memory
use Rattle.pawn_meaning.specs.World.{World}
use Rattle.pawn_meaning.specs.Run.{Run, ◌>>=◌, give, look, change}
use Rattle.pawn_meaning.specs.References.{to_cell, refers}
use Rattle.pawn_meaning.specs.Natives.{Held}
use Rattle.pawn_meaning.specs.Natives as natives
use Rattle.pawn_meaning.specs.Later.{Grows}
use Rattle.pawn_meaning.specs.Need.{count_of}
use Rattle.pawn_meaning.specs.Meaning.{place, array, value, argument, arguments}
use Rattle.pawn_meaning.proofs.Grows.{after_grows, give_grows, stop_grows, look_grows, change_grows}
use Rattle.pawn_meaning.proofs.Grows.{same_later}
use Rattle.amx_ops.specs.declared.op.Op.TheVariants as op
use Rattle.amx_ops.specs.Written.{Written, cells_of}
use Rattle.amx_ops.specs.State.{push}
use Rattle.amx_ops.specs.Step.{act}
use Rattle.amx_ops.specs.Effects.{at_next}
use Rattle.amx_ops.specs.Moves.{Config, move}
use Rattle.gen_sim.proofs.Sim.{wider}
use Rattle.gen_sim.specs.View.{View, RefersTo, kept, used}
use Rattle.gen_sim.specs.Next.{HoldArguments}
use Rattle.gen_sim.specs.Stands.{Stands, With}
use Rattle.gen_sim.specs.Site.{Site, DoesAt, scene_at}
use Rattle.gen_sim.specs.Items.{Item, Plain, item_cells, past, with}
use Rattle.gen_sim.specs.Results.{Reaches, Suits, PlaceAt, ArrayAt, ArgumentsAt, is_temporary}
use Rattle.gen_sim.specs.Results.{temporaries_in, with_temporaries}
use Rattle.gen_sim.specs.Code.{with_turns}
use Rattle.gen_sim.specs.Contract.{ValueCode, PushedCode, PlaceCode, ArrayCode, ArgumentsCode}
use Rattle.gen_sim.proofs.CallLaws.{small_fits}
use Rattle.gen_sim.proofs.StepLaws.{given}
use Rattle.gen_sim.proofs.TemporaryLaws.{TemporaryAt, temporary_made}
use Rattle.gen_sim.specs.Lies.{Lies}
use Rattle.gen_sim.specs.SimpleCode.{alone, taking}
use Rattle.gen_sim.proofs.ItemSteps.{next_lies, item_pushes}
use Rattle.gen_sim.proofs.NodesPartLaws.{nodes_of, gives_of, does_as, then_items}
use Rattle.gen_sim.proofs.KindLaws.{OfKind, IsCellPlace, known_does}
use Rattle.gen_sim.proofs.AccessNodes.{placed_does}
use Rattle.gen_sim.proofs.ArrayNodes.{inside}
use Rattle.gen_sim.proofs.IndexLaws.{sized}
use Rattle.gen_sim.proofs.AddressLaws.{refers_inside}
use Rattle.gen_sim.specs.CallCode.{temporary_code}
use Rattle.gen_sim.specs.PushCode.{pushed_code}
use Rattle.gen_sim.specs.ArgumentCode.{ArgumentAt, ArgumentCode}
use Rattle.gen_sim.proofs.CalledScopes.{hold_count, suit_count}
use Rattle.gen_sim.proofs.TemporaryViews.{temporaries_fit, arguments_stay, used_more, needs_stay}
use Rattle.gen_sim.proofs.TemporaryViews.{more_of, temporaries_few}

-- ---- values

module _ (scope : Scope) (begin : ℕ) where
  pub value_argument : (e : Expr) (items : List Item) → PushedCode scope e begin items
      → ArgumentCode scope ScalarSlot (node.Value e) begin items
  value_argument e items part = record {
    does = λ x site same turns calls v fits lie starts pending deep w c s.
        gives_of x (length (item_cells items)) w (value (scene_at x) (with_turns x turns) e w)
        (λ y. natives.Value y)
        (λ y u t. Stands x.program x.room v (y ∷ pending) (past begin items) u t × IsCell y)
        (λ y u t k. record { cell = y; stands = k.0; holds = refl; suits = tt })
        (part.does x site same turns calls v fits lie starts pending (omega (arith, deep)) w c s);
  }

-- ---- references to cells

cell_place : (p : Scalar) (at : Place) → IsNoChar p → OfKind p at → IsCellPlace at
cell_place (Global o) at h k = k
cell_place (Own s) at h k = k
cell_place (node.Through s) at h k = k
cell_place (Element a e) at h k = k
cell_place (Char a e) at h k = elim h [ ]

refers_grows : (at : Place) → Grows (refers at)
refers_grows (Cell name i) = give_grows (natives.Refers (to_cell name i))
refers_grows (Character name i k) = stop_grows _

-- an address is pushed by an instruction
pub address_pushed : (x : Site) {v : View} {pending : List ℤ} {p : ℕ} {w : World} {c : Config}
    {Q : Held → World → Config → Type 0} (it : Written) (r : Reference) (cell : ℕ)
    → Stands x.program x.room v pending p w c → RefersTo x.program x.room v r cell
    → act x.amx it.op it.operand (p + 4 * length (cells_of it)) c.state
    ≡ push c.state (pos (4 * cell)) (at_next (p + 4 * length (cells_of it)))
    → used x.program x.room v pending ≤ kept x.program x.room + sum v.needs + 15
    → Lies x p (Plain it ∷ [])
    → ((t : Config)
    → Stands x.program x.room v (pos (4 * cell) ∷ pending) (p + 4 * length (cells_of it)) w t
    → Q (natives.Refers r) w t)
    → DoesAt x (length (item_cells (Plain it ∷ []))) w c (give (natives.Refers r) w) Q
address_pushed x {v} {pending} {p} {w} {c} it r cell s h e deep l next =
    let top = refers_inside x v s r cell h in
    item_pushes x it {js = []} s l (pos (4 * cell)) e
    (small_fits (4 * cell) (omega (arith, top, s.laid.small))) deep (same_later w)
    (λ n b f g. given x b (next n b))

-- or from PRI
from_pri : (x : Site) {v : View} {pending : List ℤ} {p : ℕ} {w : World} {c : Config}
    {Q : Held → World → Config → Type 0} (r : Reference) (cell : ℕ)
    → Stands x.program x.room v pending p w c → RefersTo x.program x.room v r cell
    → c.state.pri ≡ pos (4 * cell)
    → used x.program x.room v pending ≤ kept x.program x.room + sum v.needs + 15
    → Lies x p (alone op.PushPri ∷ [])
    → ((t : Config) → Stands x.program x.room v (pos (4 * cell) ∷ pending) (p + 4) w t
    → Q (natives.Refers r) w t)
    → DoesAt x (length (item_cells (alone op.PushPri ∷ []))) w c (give (natives.Refers r) w) Q
from_pri x {p = p} {c = c} r cell s h pri deep l next =
    address_pushed x (with op.PushPri (pos 0)) r cell s h
    (ap (λ z. push c.state z (at_next (p + 4))) pri) deep l next

module _ (x : Site) {v : View} {pending : List ℤ} where
  ref_pushed : (at : Place) → IsCellPlace at → (p : ℕ) (u : World) (t : Config)
      → PlaceAt x.program x.room v pending p at u t
      → used x.program x.room v pending ≤ kept x.program x.room + sum v.needs + 15
      → Lies x p (alone op.PushPri ∷ [])
      → DoesAt x (length (item_cells (alone op.PushPri ∷ []))) u t (refers at u)
      (ArgumentAt x.program x.room v ReferenceSlot 0 pending (p + 4))
  ref_pushed (Cell name i) k p u t a deep l =
      from_pri x (to_cell name i) a.address.0 a.stands a.address.3 a.address.2 deep l
      (λ n b. record {
        cell = pos (4 * a.address.0);
        stands = b;
        holds = (a.address.0, a.address.3, refl);
        suits = refl;
      })
  ref_pushed (Character name i j) k p u t a deep l = elim k [ ]

module _ (scope : Scope) (begin : ℕ) where
  pub ref_argument : (p : Scalar) (items : List Item) → IsNoChar p → PlaceCode scope p begin items
      → ArgumentCode scope ReferenceSlot (Ref p) begin (pushed_code items)
  ref_argument p items no_char part = record {
    does = λ x site same turns calls v fits lie starts pending deep w c s.
        then_items x begin items (alone op.PushPri ∷ [])
        (λ at u t. PlaceAt x.program x.room v pending (past begin items) at u t × OfKind p at)
        (λ q. ArgumentAt x.program x.room v ReferenceSlot 0 pending q) w
        (record { lie = lie; starts = starts }) (place (scene_at x) (with_turns x turns) p w)
        refers (λ at u. (refers_grows at).at u)
        (λ l. placed_does x scope p (length (item_cells items)) (past begin items) turns w
        (part.does x site same turns calls v fits l.lie l.starts pending
        (omega (arith, deep)) w c s))
        (λ l at u t a. ref_pushed x at (cell_place p at no_char a.1) (past begin items) u t a.0
        (omega (arith, deep)) l);
  }

-- ---- arrays

-- an array is of its parameter's kind
array_by : (sizes : List ℕ) (reach : Extent) (r : Reference) → known_extent sizes ≡ Some reach
    → Reaches reach.first reach.inner r → r.sizes ≡ sizes
array_by [] reach r e h = cc
array_by (n ∷ inner) reach r e h =
    subst (λ (z : Extent). Reaches z.first z.inner r)
    (sym (inside (record { first = Some n; inner = inner }) reach e)) h

pub array_suits : (scope : Scope) (kind : Slot) (a : Array) (reach : Extent) (r : Reference)
    → ArgAgrees scope kind (Whole a) → extent scope a ≡ Some reach
    → Reaches reach.first reach.inner r → Suits kind (natives.Refers r)
array_suits scope ScalarSlot a reach r h e k = elim h [ ]
array_suits scope ReferenceSlot a reach r h e k = elim h [ ]
array_suits scope (ArraySlot sizes) a reach r h e k = array_by sizes reach r (sym h ∙ e) k
array_suits scope (OpenSlot inner) a reach r h e k =
    let same : reach.inner ≡ inner = subst (λ o. HasInner inner o) e h in
    let s = sized reach r k in (s.size, s.sizes_are ∙ ap (λ z. s.size ∷ z) same)

module _ (scope : Scope) (begin : ℕ) where
  pub whole_argument : (kind : Slot) (a : Array) (reach : Extent) (items : List Item)
      → ArgAgrees scope kind (Whole a) → extent scope a ≡ Some reach
      → ArrayCode scope a begin items → ArgumentCode scope kind (Whole a) begin (pushed_code items)
  whole_argument kind a reach items agrees is part = record {
    does = λ x site same turns calls v fits lie starts pending deep w c s.
        then_items x begin items (alone op.PushPri ∷ [])
        (λ r u t. ArrayAt x.program x.room v reach pending (past begin items) r u t)
        (λ q. ArgumentAt x.program x.room v kind 0 pending q) w
        (record { lie = lie; starts = starts }) (array (scene_at x) (with_turns x turns) a w)
        (λ r. give (natives.Refers r)) (λ r u. same_later u)
        (λ l. part.does reach is x site same turns calls v fits l.lie l.starts pending
        (omega (arith, deep)) w c s)
        (λ l r u t h. from_pri x r h.cell h.stands h.refers h.address (omega (arith, deep)) l
        (λ n b. record {
          cell = pos (4 * h.cell);
          stands = b;
          holds = (h.cell, h.refers, refl);
          suits = array_suits scope kind a reach r agrees is h.reaches;
        }));
  }

-- ---- temporary arguments

-- what is made of a value
abbrev made_of : ℤ → Run Held
made_of y =
    look (λ m. Some (length m.heap))
    >>= (λ count. change (λ m. Some (memory.with_temporary y m))
    >>= (λ _. give (natives.Refers (to_cell (memory.Temporary count) 0))))

made_grows : (y : ℤ) → Grows (made_of y)
made_grows y =
    after_grows (look_grows (λ m. Some (length m.heap)))
    (λ count. after_grows (change_grows (λ m. Some (memory.with_temporary y m)))
    (λ _. give_grows (natives.Refers (to_cell (memory.Temporary count) 0))))

-- and where it is
made_at : (x : Site) (v : View) (pending : List ℤ) (q : ℕ) (h : Held) (w : World) (c : Config)
    → h ≡ natives.Refers (to_cell (memory.Temporary v.temps) 0)
    → TemporaryAt x v pending q h w c
    → ArgumentAt x.program x.room v ReferenceSlot 1 pending q h w c
made_at x v pending q h w c same k = record {
  cell = k.cell;
  stands = k.stands;
  holds = k.holds;
  suits = subst (λ z. Suits ReferenceSlot z) (sym same) refl;
}

module _ (scope : Scope) (begin : ℕ) where
  pub temporary_argument : (e : Expr) (items : List Item) → ValueCode scope e begin items
      → ArgumentCode scope ReferenceSlot (Temp e) begin (temporary_code items)
  temporary_argument e items part = record {
    does = λ x site same turns calls v fits lie starts pending deep w c s.
        let last = taking op.Heap (pos 4) ∷ alone op.StorI ∷ alone op.PushAlt ∷ [] in
        then_items x begin items last (λ y u t. With x.program x.room v pending
        (past begin items) y u t)
        (λ q. ArgumentAt x.program x.room v ReferenceSlot 1 pending q) w
        (record { lie = lie; starts = starts }) (value (scene_at x) (with_turns x turns) e w)
        made_of (λ y u. (made_grows y).at u)
        (λ l. part.does x site same turns calls v fits l.lie l.starts pending
        (omega (arith, deep)) w c s)
        (λ l y u t a.
        let p = past begin items in
        let l1 =
        next_lies x p (taking op.Heap (pos 4)) (alone op.StorI ∷ alone op.PushAlt ∷ []) l in
        let l2 = next_lies x (p + 8) (alone op.StorI) (alone op.PushAlt ∷ []) l1 in
        let here = natives.Refers (to_cell (memory.Temporary v.temps) 0) in
        let then_world : World = record u { memory = memory.with_temporary y u.memory } in
        wider (move x.amx x.script) (length x.amx.code) x.room (omega arith)
        (subst (λ n. DoesAt x 3 u t (give
        (natives.Refers (to_cell (memory.Temporary n) 0)) then_world)
        (ArgumentAt x.program x.room v ReferenceSlot 1 pending (p + 8 + 4 + 4)))
        (sym a.stands.temps)
        (does_as x 3 u (give here then_world)
        (λ h n i. TemporaryAt x v pending (p + 8 + 4 + 4) h n i × (h ≡ here))
        (λ h n i k. made_at x v pending (p + 8 + 4 + 4) h n i k.1 k.0)
        (known_does x 3 u (give here then_world) (TemporaryAt x v pending (p + 8 + 4 + 4))
        (λ h. h ≡ here) refl
        (temporary_made x site v pending p u t y a
        (omega (arith, deep)) l.lie.0 l1.lie.0 l2.lie.0)))));
  }

-- ---- all arguments

module _ (scope : Scope) (begin : ℕ) where
  pub no_arguments : ArgumentsCode scope [] no_args begin []
  no_arguments = record {
    does =
        λ x site same turns calls v fits lie starts pending deep w c s. given x s
        (record { cells = []; stands = s; hold = tt; suit = tt });
  }

  pub then_argument : (kind : Slot) (kinds : List Slot) (a : Arg) (args : Args)
      (first items : List Item) → length kinds ≡ count_of args
      → ArgumentsCode scope kinds args begin first
      → ArgumentCode scope kind a (past begin first) items
      → ArgumentsCode scope (kind ∷ kinds) (then_arg a args) begin (first ++ items)
  then_argument kind kinds a args first items count one two = record {
    does = λ x site same turns calls v fits lie starts pending deep w c s.
        let fewer = with_turns x turns in
        let n = temporaries_in args in
        let few = temporaries_few args in
        then_items x begin first items
        (ArgumentsAt x.program x.room v kinds n pending (past begin first))
        (λ q. ArgumentsAt x.program x.room v (kind ∷ kinds)
        (temporaries_in (then_arg a args)) pending q) w (record { lie = lie; starts = starts })
        (arguments (scene_at x) fewer args w)
        (λ others. argument (scene_at x) fewer a >>= (λ it. give (it ∷ others)))
        (λ others u. (after_grows ((nodes_of x turns).one_argument a)
        (λ it. give_grows (it ∷ others))).at u)
        (λ l. one.does x site same turns calls v fits l.lie l.starts pending
        (omega (arith, deep)) w c s)
        (λ l others u t h.
        let cells =
        hold_count x.program x.room (with_temporaries n v) others h.cells h.hold
        ∙ suit_count kinds others h.suit ∙ count in
        let q = past (past begin first) items in
        gives_of x (length (item_cells items)) u (argument (scene_at x) fewer a u)
        (λ it. it ∷ others)
        (ArgumentAt x.program x.room (with_temporaries n v) kind (is_temporary a)
        (h.cells ++ pending) q)
        (λ it m i k. record {
          cells = k.cell ∷ h.cells;
          stands =
              subst (λ z. Stands x.program x.room z (k.cell ∷ (h.cells ++ pending)) q m i)
              (more_of (is_temporary a) n v) k.stands;
          hold =
              subst (λ z. HoldArguments x.program x.room z (it ∷ others) (k.cell ∷ h.cells))
              (more_of (is_temporary a) n v) (
                k.holds,
                arguments_stay x.program x.room (is_temporary a)
                    (with_temporaries n v) others h.cells h.hold,
              );
          suit = (k.suits, h.suit);
        })
        (two.does x site same turns calls (with_temporaries n v)
        (temporaries_fit x.program x.room n scope v fits) l.lie l.starts (h.cells ++ pending)
        (omega (
          arith,
          deep,
          used_more x.program x.room n v (h.cells ++ pending),
          needs_stay n v,
          length-append h.cells pending,
          cells,
          few,
        )) u t h.stands));
  }
