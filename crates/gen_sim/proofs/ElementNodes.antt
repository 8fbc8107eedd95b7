-- Elements, characters, rows and rests: the code of each leads to what the index leads to.
use Rattle.std.proofs.Common.{◌≡◌, ◌+◌, ◌-◌, ◌*◌, ◌/◌, ◌%◌, ◌^◌, ◌<◌, ◌≤◌, ℕ, ℤ, pos, List, [], ◌∷◌}
use Rattle.std.proofs.Common.{Option, Some, length, sum, refl, sym, ap, subst, ◌∙◌, arith, ◌++◌}
use Rattle.std.specs.Prelude.{max}
use Rattle.pawn_cells.specs.Cells.{add, mul, sub, xor}
use Rattle.pawn_meaning.specs.Program.{Array, Expr, Element, Char, Row, From}
use Rattle.pawn_meaning.specs.Scope.{Scope, Extent, extent, known_extent, open_extent, row_extent}
use Rattle.pawn_meaning.specs.Scope.{rest_extent}
use Rattle.pawn_meaning.specs.Memory.{Reference}
use Rattle.pawn_meaning.specs.World.{World}
use Rattle.pawn_meaning.specs.Run.{Outcome, give, ◌>>=◌}
use Rattle.pawn_meaning.specs.Need.{load, array_load}
use Rattle.pawn_meaning.specs.Meaning.{place, array, value}
use Rattle.pawn_meaning.proofs.Grows.{same_later}
use Rattle.pawn_meaning.specs.References.{is_known, index, first_size, other_sizes, row_at}
use Rattle.pawn_meaning.specs.References.{rest_from}
use Rattle.pawn_meaning.specs.References.{cell_at, character_at}
use Rattle.amx_ops.specs.declared.op.Op.TheVariants as op
use Rattle.amx_ops.specs.State.{State, Goes}
use Rattle.amx_ops.specs.Step.{act}
use Rattle.amx_ops.specs.Moves.{Config}
use Rattle.gen_sim.specs.Leads.{span}
use Rattle.gen_sim.specs.View.{View, RefersTo, kept, used}
use Rattle.gen_sim.specs.Fits.{Fits}
use Rattle.gen_sim.specs.Code.{with_turns, CallsWithin}
use Rattle.gen_sim.specs.Stands.{Stands}
use Rattle.gen_sim.proofs.MemLaws.{Reads}
use Rattle.gen_sim.proofs.WorldLaws.{stands_on}
use Rattle.gen_sim.specs.Site.{Site, IsSite, DoesAt, scene_at}
use Rattle.gen_sim.specs.Items.{Item, item_cells, past, with}
use Rattle.gen_sim.specs.Results.{IsAddress, ArrayAt, Reaches}
use Rattle.gen_sim.specs.Contract.{ValueCode, IndexedCode, ArrayCode}
use Rattle.gen_sim.proofs.StepLaws.{given, goes}
use Rattle.gen_sim.proofs.CharacterLaws.{aligned}
use Rattle.gen_sim.specs.Lies.{Lies}
use Rattle.gen_sim.specs.SimpleCode.{alone, taking}
use Rattle.gen_sim.proofs.ItemSteps.{next_lies, one_item, item_sets}
use Rattle.gen_sim.proofs.ArrayNodes.{inside}
use Rattle.gen_sim.specs.BaseCode.{Base, base_item, index_begin}
use Rattle.gen_sim.specs.IndexCode.{in_characters, element_code, character_code, rest_code}
use Rattle.gen_sim.specs.IndexCode.{row_code}
use Rattle.gen_sim.proofs.NodesPartLaws.{does_as, then_items, then_nothing}
use Rattle.gen_sim.proofs.BaseLaws.{HasBase, base_goes}
use Rattle.gen_sim.proofs.IndexLaws.{knows, characters_known, characters_size}
use Rattle.gen_sim.proofs.AddressLaws.{wrapped, summed, indexed, refers_inside, element_at}
use Rattle.gen_sim.proofs.AddressLaws.{element_refers, rest_at, row_found}
use Rattle.gen_sim.proofs.IndexNodes.{indexed_does}

three : sub (pos 4) (pos 1) ≡ pos 3
three = wrapped 3 (omega arith)

-- ---- up to the index

-- behind the index of an array: its address is in ALT, and PRI says how far behind it lies what is
-- made of both
pub record IndexedIn {A : Type 0} (x : Site) (v : View) (pending : List ℤ) (inner : List ℕ)
    (count steps : ℕ → ℕ) (make : Reference → ℕ → A) (p : ℕ) (made : A) (w : World) (c : Config)
    : Type 0 where
  pub r : Reference
  pub cell : ℕ
  pub size : ℕ
  pub i : ℕ
  pub stands : Stands x.program x.room v pending p w c
  pub refers : RefersTo x.program x.room v r cell
  pub all : r.sizes ≡ size ∷ inner
  pub below : i < count size
  pub pri : c.state.pri ≡ pos (steps i)
  pub alt : c.state.alt ≡ pos (4 * cell)
  pub is : made ≡ make r i

-- that is within the machine's cells
pub reaches_up : {A : Type 0} (x : Site) (v : View) {pending : List ℤ} {inner : List ℕ}
    {count steps : ℕ → ℕ} {make : Reference → ℕ → A} {p : ℕ} {made : A} {w : World} {c : Config}
    → (h : IndexedIn x v pending inner count steps make p made w c)
    → 4 * (h.cell + h.size) < 2 ^ 31
reaches_up x v h =
    let e : span h.r.sizes ≡ h.size = ap span h.all in
    omega (arith, refers_inside x v h.stands h.r h.cell h.refers, e, h.stands.laid.small)

-- how far a character's byte lies behind the cells
abbrev pub byte_behind : ℕ → ℕ
byte_behind i = 4 * (i / 4) + (3 - i % 4)

module _ (scope : Scope) (begin : ℕ) (a : Array) (e : Expr) (whole : Extent) (base : Option Base)
    (array_part index_part : List Item) (reach : extent scope a ≡ Some whole)
    (has : HasBase scope a base) (one : ArrayCode scope a begin array_part)
    (two : ValueCode scope e (index_begin base begin array_part) index_part)
    (x : Site) (site : IsSite x) (same : x.program ≡ scope.program) (turns : ℕ)
    (calls : CallsWithin x turns) (v : View) (fits : Fits x.program x.room scope v)
    {pending : List ℤ}
    (deep : used x.program x.room v pending + (1 + max (array_load a) (load e))
    ≤ kept x.program x.room + sum v.needs) (w : World) (c : Config)
    (s : Stands x.program x.room v pending begin w c) {A : Type 0} (make : Reference → ℕ → A) where
  pub element_in : Lies x begin (element_code base whole.first array_part index_part)
      → DoesAt x (length (item_cells (element_code base whole.first array_part index_part))) w c
      ((array (scene_at x) (with_turns x turns) a
      >>= (λ r. value (scene_at x) (with_turns x turns) e
      >>= (λ z. index (is_known a) (first_size r.sizes) z >>= (λ i. give (make r i))))) w)
      (IndexedIn x v pending whole.inner (λ n. n) (λ n. n) make
      (past begin (element_code base whole.first array_part index_part)))
  element_in l =
      indexed_does scope x site same turns calls v fits pending begin a e whole array_part
      index_part
      (base_item base ∷ []) whole.first (λ n. n) make
      (λ q. IndexedIn x v pending whole.inner (λ n. n) (λ n. n) make q) (knows scope a whole reach)
      (λ n k. k) (λ n k. omega (arith, k)) base has reach one two deep w c s l
      (λ r cell size refers all sets i below q k u t b pri.
      base_goes x base cell sets [] q u t b k
      (λ n g alt same_pri. given x g (record {
        r = r;
        cell = cell;
        size = size;
        i = i;
        stands = g;
        refers = refers;
        all = all;
        below = below;
        pri = same_pri ∙ pri;
        alt = alt;
        is = refl;
      })))

  pub character_in : Lies x begin (character_code base whole.first array_part index_part)
      → DoesAt x (length (item_cells (character_code base whole.first array_part index_part))) w c
      ((array (scene_at x) (with_turns x turns) a
      >>= (λ r. value (scene_at x) (with_turns x turns) e
      >>= (λ z. index (is_known a) (4 * first_size r.sizes) z >>= (λ i. give (make r i))))) w)
      (IndexedIn x v pending whole.inner (λ n. 4 * n) byte_behind make
      (past begin (character_code base whole.first array_part index_part)))
  character_in l =
      indexed_does scope x site same turns calls v fits pending begin a e whole array_part
      index_part
      (taking op.AlignPri (pos 1) ∷ base_item base ∷ []) (in_characters whole.first) (λ n. 4 * n)
      make
      (λ q. IndexedIn x v pending whole.inner (λ n. 4 * n) byte_behind make q)
      (characters_known whole.first (is_known a) (knows scope a whole reach))
      (λ n k. characters_size whole.first n k) (λ n k. omega (arith, k))
      base has reach one two deep w c s l
      (λ r cell size refers all sets i below q k u t b pri.
      let span_is : span r.sizes ≡ size = ap span all in
      let small : i < 2 ^ 31 =
      omega (arith, below, refers_inside x v b r cell refers, span_is, b.laid.small) in
      item_sets x (with op.AlignPri (pos 1)) b k
      (xor t.state.pri (sub (pos 4) (pos 1))) t.state.alt refl
      (λ t1 b1 pri1 alt1. base_goes x base cell sets [] (q + 8) u t1 b1
      (next_lies x q (taking op.AlignPri (pos 1)) (base_item base ∷ []) k)
      (λ n g alt same_pri. given x g (record {
        r = r;
        cell = cell;
        size = size;
        i = i;
        stands = g;
        refers = refers;
        all = all;
        below = below;
        pri =
            same_pri ∙ pri1 ∙ ap (λ z. xor t.state.pri z) three ∙ ap (λ z. xor z (pos 3)) pri
            ∙ aligned i small;
        alt = alt;
        is = refl;
      }))))

-- ---- from there to what the index leads to

-- MOVE.alt, LOAD.I, ADD: the offset is read where the index leads, and counts from there
loads_at : (x : Site) (s : State) (cell : ℕ) (y : ℤ) (q : ℕ) → s.pri ≡ pos (4 * cell)
    → Reads s cell y → act x.amx op.LoadI (pos 0) q s ≡ Goes (record s { pri = y; cip = q })
loads_at x s cell y q e r = rw (e, r.live, r.value) refl

by_offset : (x : Site) (v : View) (pending : List ℤ) (reach : Extent) (r : Reference)
    (cell size i next : ℕ) (inner : List ℕ) → RefersTo x.program x.room v r cell
    → r.sizes ≡ size ∷ next ∷ inner → i < size → record { first = Some next; inner = inner } ≡ reach
    → (q : ℕ) (u : World) (t : Config)
    → Stands x.program x.room v pending q u t → t.state.pri ≡ pos (4 * (cell + i))
    → Lies x q (alone op.MoveAlt ∷ alone op.LoadI ∷ alone op.Add ∷ [])
    → DoesAt x (length (item_cells (alone op.MoveAlt ∷ alone op.LoadI ∷ alone op.Add ∷ []))) u t
    (give (row_at r i) u)
    (ArrayAt x.program x.room v reach pending (q + 4 + 4 + 4))
by_offset x v pending reach r cell size i next inner h all below reach_is q u t k pri l =
    let l1 = next_lies x q (alone op.MoveAlt) (alone op.LoadI ∷ alone op.Add ∷ []) l in
    let l2 = next_lies x (q + 4) (alone op.LoadI) (alone op.Add ∷ []) l1 in
    item_sets x (with op.MoveAlt (pos 0)) k l t.state.pri t.state.pri refl
    (λ t1 k1 e f.
    let row1 = row_found x v k1 r cell size next inner i h all below in
    let s2 : State = record t1.state { pri = pos (4 * row1.offset); cip = q + 4 + 4 } in
    one_item x (with op.LoadI (pos 0)) (alone op.Add ∷ []) u
    (goes x k1 (with op.LoadI (pos 0)) l1.lie.0 s2
    (loads_at x t1.state (cell + i) (pos (4 * row1.offset)) (q + 4 + 4) (e ∙ pri) row1.reads)
    (let k2 = stands_on x.program x.room k1 (q + 4 + 4) s2 refl refl refl refl refl in
    let top1 = refers_inside x v k1 (row_at r i) (cell + i + row1.offset) row1.refers in
    let sum1 : add (pos (4 * row1.offset)) (pos (4 * (cell + i)))
    ≡ pos (4 * (cell + i + row1.offset)) =
    summed (4 * row1.offset) (4 * (cell + i)) (omega (arith, top1, k.laid.small))
    ∙ ap pos (omega arith) in
    item_sets x (with op.Add (pos 0)) k2 l2
    (add (pos (4 * row1.offset)) t1.state.alt) t1.state.alt refl
    (λ t3 k3 g m. given x k3 (record {
      stands = k3;
      cell = cell + i + row1.offset;
      refers = row1.refers;
      address = g ∙ ap (λ z. add (pos (4 * row1.offset)) z) (f ∙ pri) ∙ sum1;
      reaches = subst (λ z. Reaches z.first z.inner (row_at r i)) reach_is (ap other_sizes all);
    })))))

-- ---- nodes

module _ (scope : Scope) (begin : ℕ) (a : Array) (e : Expr) (whole : Extent) (base : Option Base)
    (array_part index_part : List Item) (is : extent scope a ≡ Some whole)
    (has : HasBase scope a base) (one : ArrayCode scope a begin array_part)
    (two : ValueCode scope e (index_begin base begin array_part) index_part) where
  abbrev element : List Item
  element = element_code base whole.first array_part index_part

  abbrev character : List Item
  character = character_code base whole.first array_part index_part

  pub element_does : whole.inner ≡ [] → IndexedCode scope (Element a e) begin element
  element_does line = record {
    does = λ x site same turns calls v fits lie starts pending deep w c s.
        does_as x (length (item_cells element)) w
        (place (scene_at x) (with_turns x turns) (Element a e) w)
        (IndexedIn x v pending whole.inner (λ n. n) (λ n. n) cell_at (past begin element))
        (λ at u t h.
        let one_line : h.r.sizes ≡ h.size ∷ [] = h.all ∙ ap (λ z. h.size ∷ z) line in
        record {
          stands = h.stands;
          leads = (
            h.cell,
            h.i,
            h.pri,
            h.alt,
            omega (arith, h.below, reaches_up x v h),
            subst (λ z. IsAddress x.program x.room v z (pos (4 * (h.cell + h.i)))) (sym h.is) (
              h.cell + h.i,
              element_at x v h.r h.cell h.size h.i h.refers one_line h.below,
              refl,
              element_refers x v h.r h.cell h.size h.i h.refers one_line h.below,
            ),
          );
        })
        (element_in scope begin a e whole base array_part index_part is has one two x site same
        turns
        calls v fits deep w c s cell_at (record { lie = lie; starts = starts }));
  }

  pub character_does : whole.inner ≡ [] → IndexedCode scope (Char a e) begin character
  character_does line = record {
    does = λ x site same turns calls v fits lie starts pending deep w c s.
        does_as x (length (item_cells character)) w
        (place (scene_at x) (with_turns x turns) (Char a e) w)
        (IndexedIn x v pending whole.inner (λ n. 4 * n) byte_behind character_at
        (past begin character))
        (λ at u t h.
        let one_line : h.r.sizes ≡ h.size ∷ [] = h.all ∙ ap (λ z. h.size ∷ z) line in
        let row : h.i / 4 < h.size = omega (arith, h.below) in
        record {
          stands = h.stands;
          leads = (
            4 * h.cell,
            byte_behind h.i,
            h.pri,
            h.alt,
            omega (arith, h.below, reaches_up x v h),
            subst (λ z. IsAddress x.program x.room v z (pos (4 * h.cell + byte_behind h.i)))
                (sym h.is) (
                  h.cell + h.i / 4,
                  element_at x v h.r h.cell h.size (h.i / 4) h.refers one_line row,
                  omega arith,
                  ap pos (omega arith),
                ),
          );
        })
        (character_in scope begin a e whole base array_part index_part is has one two x site same
        turns calls v fits deep w c s character_at (record { lie = lie; starts = starts }));
  }

  -- IDXADDR
  indexed_up : {A B : Type 0} (x : Site) {v : View} {pending : List ℤ} {make : Reference → ℕ → A}
      {o : Outcome B} {Q : B → World → Config → Type 0} (js : List Item) (made : A) (q : ℕ)
      (u : World) (t : Config)
      → (h : IndexedIn x v pending whole.inner (λ n. n) (λ n. n) make q made u t)
      → Lies x q (alone op.Idxaddr ∷ js)
      → ((n : Config) → Stands x.program x.room v pending (q + 4) u n
      → n.state.pri ≡ pos (4 * (h.cell + h.i)) → DoesAt x (length (item_cells js)) u n o Q)
      → DoesAt x (length (item_cells (alone op.Idxaddr ∷ js))) u t o Q
  indexed_up x {v} js made q u t h l next =
      item_sets x (with op.Idxaddr (pos 0)) h.stands l
      (add t.state.alt (mul (pos 4) t.state.pri)) t.state.alt refl
      (λ n g e f. next n g (e ∙ ap (λ z. add z (mul (pos 4) t.state.pri)) h.alt
      ∙ ap (λ z. add (pos (4 * h.cell)) (mul (pos 4) z)) h.pri
      ∙ indexed h.cell h.i (omega (arith, h.below, reaches_up x v h))))

  pub rest_does : whole.inner ≡ [] → ArrayCode scope (From a e) begin (element ++ rest_code)
  rest_does line = record {
    does = λ reach reach_is x site same turns calls v fits lie starts pending deep w c s.
        let open_is : open_extent whole.inner ≡ reach =
        inside (open_extent whole.inner) reach (sym (ap rest_extent is) ∙ reach_is) in
        let run = array (scene_at x) (with_turns x turns) (From a e) w in
        subst (λ o. DoesAt x (length (item_cells (element ++ rest_code))) w c o
        (ArrayAt x.program x.room v reach pending (past begin (element ++ rest_code))))
        (then_nothing run)
        (then_items x begin element rest_code
        (IndexedIn x v pending whole.inner (λ n. n) (λ n. n) rest_from (past begin element))
        (λ p. ArrayAt x.program x.room v reach pending p) w (record { lie = lie; starts = starts })
        run (λ r. give r) (λ r u. same_later u)
        (λ l. element_in scope begin a e whole base array_part index_part is has one two x site same
        turns calls v fits deep w c s rest_from l)
        (λ l r u t h. indexed_up x [] r (past begin element) u t h l
        (λ n b m. given x b (subst (λ z. ArrayAt x.program x.room v reach pending
        (past begin element + 4) z u n) (sym h.is) (record {
          stands = b;
          cell = h.cell + h.i;
          refers =
              rest_at x v h.r h.cell h.size h.i h.refers (h.all ∙ ap (λ z. h.size ∷ z) line)
              h.below;
          address = m;
          reaches =
              subst (λ z. Reaches z.first z.inner (rest_from h.r h.i)) open_is (
                first_size h.r.sizes - h.i,
                ap (λ z. (first_size h.r.sizes - h.i) ∷ other_sizes z) h.all,
              );
        })))));
  }

  -- a row, by its offset
  pub row_does : (next : ℕ) (inner : List ℕ) → whole.inner ≡ next ∷ inner
      → ArrayCode scope (Row a e) begin (element ++ row_code)
  row_does next inner rows = record {
    does = λ reach reach_is x site same turns calls v fits lie starts pending deep w c s.
        let known : Some (record { first = Some next; inner = inner }) ≡ Some reach =
        ap known_extent (sym rows) ∙ sym (ap row_extent is) ∙ reach_is in
        let run = array (scene_at x) (with_turns x turns) (Row a e) w in
        let last = alone op.MoveAlt ∷ alone op.LoadI ∷ alone op.Add ∷ [] in
        let q = past begin element in
        subst (λ o. DoesAt x (length (item_cells (element ++ row_code))) w c o
        (ArrayAt x.program x.room v reach pending (past begin (element ++ row_code))))
        (then_nothing run)
        (then_items x begin element row_code
        (IndexedIn x v pending whole.inner (λ n. n) (λ n. n) row_at q)
        (λ p. ArrayAt x.program x.room v reach pending p) w (record { lie = lie; starts = starts })
        run (λ r. give r) (λ r u. same_later u)
        (λ l. element_in scope begin a e whole base array_part index_part is has one two x site same
        turns calls v fits deep w c s row_at l)
        (λ l r u t h. indexed_up x last r q u t h l
        (λ n b m. subst (λ z. DoesAt x (length (item_cells last)) u n (give z u)
        (ArrayAt x.program x.room v reach pending (q + 4 + 4 + 4 + 4))) (sym h.is)
        (by_offset x v pending reach h.r h.cell h.size h.i next inner h.refers
        (h.all ∙ ap (λ z. h.size ∷ z) rows) h.below
        (inside (record { first = Some next; inner = inner }) reach known)
        (q + 4) u n b m (next_lies x q (alone op.Idxaddr) last l)))));
  }
