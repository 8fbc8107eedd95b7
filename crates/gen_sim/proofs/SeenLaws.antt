-- What a native sees through a reference, in the world and in the machine's memory.
use Rattle.std.proofs.Common.{◌≡◌, ◌+◌, ◌*◌, ◌≤◌, ℕ, zero, suc, ℤ, pos, negsuc, List, [], ◌∷◌, ◌++◌}
use Rattle.std.proofs.Common.{Option, None, Some, Bool, true, false, length, take, drop, option_map}
use Rattle.std.proofs.Common.{nat_le, nat_lt, if◌then◌else◌, refl, sym, ap, subst, ◌∙◌, arith}
use Rattle.std.proofs.Common.{le-leb, length-append}
use Rattle.std.proofs.lemmas.Bool.{leb-true}
use Rattle.std.proofs.lemmas.List.{take-append-le, length-drop, length-take-le}
use Rattle.std.proofs.Math.Seq.{drop-append-add}
use Rattle.std.specs.List.{flat_map}
use Rattle.std.proofs.lemmas.List.Concat.{flat_map-append}
use Rattle.pawn_cells.specs.Cells.{bits_of}
use Rattle.host_script.specs.declared.script.Form.{Form}
use Rattle.host_script.specs.declared.script.Form.TheVariants as form
use Rattle.host_script.specs.declared.event.Seen.TheVariants as seen
use Rattle.host_script.specs.Script.{characters, before_zero, bytes_of}
use Rattle.host_script.specs.NativeCall.{Sight, Sought}
use Rattle.pawn_arrays.specs.Sizes.{elements_in}
use Rattle.pawn_meaning.specs.Program.{Program}
use Rattle.pawn_meaning.specs.Memory.{Object, Reference, object_at, cells_from}
use Rattle.pawn_meaning.specs.References.{other_sizes}
use Rattle.pawn_meaning.specs.World.{World}
use Rattle.pawn_meaning.specs.Natives.{Held, Value, Spot, spot_of, line_of, see, see_first}
use Rattle.pawn_meaning.specs.Natives.{see_cells, see_text, see_characters}
use Rattle.pawn_meaning.specs.Natives as natives
use Rattle.amx_ops.specs.State.{State}
use Rattle.amx_ops.specs.Moves.{Config, live_from, look}
use Rattle.gen_sim.specs.Pieces.{Thing, vectors, object_cells}
use Rattle.gen_sim.specs.View.{View, PlacedIn, RefersTo}
use Rattle.gen_sim.specs.Leads.{Leads, span}
use Rattle.gen_sim.specs.Next.{HoldsArgument}
use Rattle.gen_sim.specs.Stands.{Stands}
use Rattle.gen_sim.proofs.LeadLaws.{among}
use Rattle.gen_sim.proofs.NearNative.{NearSight}
use Rattle.gen_sim.proofs.PartLaws.{live_part}

-- ---- texts

more_by : (v : ℤ) (xs ys t : List ℤ) (o : Option (List ℤ))
    → ((u : List ℤ) → o ≡ Some u → before_zero (xs ++ ys) ≡ Some u)
    → option_map (λ others. v ∷ others) o ≡ Some t
    → option_map (λ others. v ∷ others) (before_zero (xs ++ ys)) ≡ Some t
more_by v xs ys t None h e = cc
more_by v xs ys t (Some u) h e = rw (h u refl) e

before_more : (xs ys t : List ℤ) → before_zero xs ≡ Some t → before_zero (xs ++ ys) ≡ Some t
before_more [] ys t e = cc
before_more (pos zero ∷ xs) ys t e = e
before_more (pos (suc n) ∷ xs) ys t e =
    more_by (pos (suc n)) xs ys t (before_zero xs) (λ u f. before_more xs ys u f) e
before_more (negsuc n ∷ xs) ys t e =
    more_by (negsuc n) xs ys t (before_zero xs) (λ u f. before_more xs ys u f) e

chars_by : (x : ℤ) (xs ys t : List ℤ) (b : Bool) → nat_lt 0xFFFFFF (bits_of x) ≡ b
    → characters (x ∷ xs) ≡ Some t → characters (x ∷ (xs ++ ys)) ≡ Some t
chars_by x xs ys t true f e =
    let g : before_zero (flat_map bytes_of (x ∷ xs)) ≡ Some t =
    subst (λ b. (if b then before_zero (flat_map bytes_of (x ∷ xs))
    else before_zero (x ∷ xs)) ≡ Some t) f e in
    let j : flat_map bytes_of (x ∷ (xs ++ ys)) ≡ flat_map bytes_of (x ∷ xs) ++ flat_map bytes_of ys
    = flat_map-append bytes_of (x ∷ xs) ys in
    subst (λ b. (if b then before_zero (flat_map bytes_of (x ∷ (xs ++ ys)))
    else before_zero (x ∷ (xs ++ ys))) ≡ Some t) (sym f)
    (ap before_zero j ∙ before_more (flat_map bytes_of (x ∷ xs)) (flat_map bytes_of ys) t g)
chars_by x xs ys t false f e =
    let g : before_zero (x ∷ xs) ≡ Some t =
    subst (λ b. (if b then before_zero (flat_map bytes_of (x ∷ xs))
    else before_zero (x ∷ xs)) ≡ Some t) f e in
    subst (λ b. (if b then before_zero (flat_map bytes_of (x ∷ (xs ++ ys)))
    else before_zero (x ∷ (xs ++ ys))) ≡ Some t) (sym f) (before_more (x ∷ xs) ys t g)

pub characters_more : (xs ys t : List ℤ) → characters xs ≡ Some t → characters (xs ++ ys) ≡ Some t
characters_more [] ys t e = cc
characters_more (x ∷ xs) ys t e = chars_by x xs ys t _ refl e

-- ---- arguments

module _ (program : Program) (room : ℕ) where
  -- so many cells of an object from a place on are those at an address
  pub record SpotAt (v : View) (n : ℕ) (spot : Spot) (address : ℕ) : Type 0 where
    pub sizes : List ℕ
    pub first : ℕ
    pub placed : PlacedIn program room v (Thing spot.object sizes) first
    pub address_is : address ≡ 4 * (first + (length (vectors sizes) + spot.at))
    pub inside : spot.at + n ≤ elements_in sizes

  pub spot_closed : (v : View) (n k : ℕ) (spot : Spot) (address : ℕ) → k ≤ n
      → SpotAt v n spot address → SpotAt v k spot address
  spot_closed v n k spot address l s = record {
    sizes = s.sizes;
    first = s.first;
    placed = s.placed;
    address_is = s.address_is;
    inside = omega (arith, l, s.inside);
  }

  -- a part of one dimension, with its cells, as the machine has it
  pub record Line (v : View) (s : State) (r : Reference) (a : ℕ) (cells : List ℤ) : Type 0 where
    pub more : List ℤ
    pub live : live_from s (4 * a) ≡ cells ++ more
    pub spot : SpotAt v (length cells) (spot_of r) (4 * a)

module _ (program : Program) (room : ℕ) (v : View) (pending : List ℤ) (p : ℕ) (w : World)
    (c : Config) (s : Stands program room v pending p w c) where
  line_in : (r : Reference) (a n : ℕ) (sizes : List ℕ) → r.sizes ≡ sizes → span sizes ≡ n
      → other_sizes sizes ≡ [] → RefersTo program room v r a
      → (x : Object) → object_at w.memory r.object ≡ Some x → r.at + n ≤ length x.cells
      → Line program room v c.state r a (take n (drop r.at x.cells))
  line_in r a n sizes is sp none h x e l =
      by_sizes h.sizes h.placed (subst (λ z. Leads h.sizes h.first z r.at a) is h.leads)
    where
      by_sizes : (all : List ℕ) → PlacedIn program room v (Thing r.object all) h.first
          → Leads all h.first sizes r.at a
          → Line program room v c.state r a (take n (drop r.at x.cells))
      by_sizes [] pl d = elim d [ ]
      by_sizes (k ∷ ks) pl d =
          let y = among ks h.first k sizes r.at a none d in
          let i : ℕ = length (vectors (k ∷ ks)) + r.at in
          let fits : i + n ≤ length (object_cells (k ∷ ks) (object_at w.memory r.object)) =
          rw e (omega (arith, length-append (vectors (k ∷ ks)) x.cells, l)) in
          let q = live_part s.mem pl i n fits in
          let own : drop i (object_cells (k ∷ ks) (object_at w.memory r.object))
          ≡ drop r.at x.cells =
          rw e (drop-append-add (vectors (k ∷ ks)) x.cells r.at) in
          let len : length (take n (drop r.at x.cells)) ≡ n =
          length-take-le n (drop r.at x.cells) (omega (arith, length-drop r.at x.cells, l)) in
          let a_is : a ≡ h.first + i = omega (arith, y.cell_is) in
          record {
            more = q.more;
            live =
                ap (λ b. live_from c.state (4 * b)) a_is ∙ q.is ∙ ap (λ z. take n z ++ q.more) own;
            spot = record {
              sizes = k ∷ ks;
              first = h.first;
              placed = pl;
              address_is = omega (arith, a_is);
              inside = omega (arith, y.inside, len, sp);
            };
          }

  some_same : (xs ys : List ℤ) → Some xs ≡ Some ys → xs ≡ ys
  some_same xs ys e = cc

  sees_by : (r : Reference) (a n : ℕ) (sizes : List ℕ) → r.sizes ≡ sizes → span sizes ≡ n
      → other_sizes sizes ≡ [] → RefersTo program room v r a
      → (x : Object) → object_at w.memory r.object ≡ Some x → (cells : List ℤ) → (b : Bool)
      → nat_le (r.at + n) (length x.cells) ≡ b
      → (if b then Some (take n (drop r.at x.cells)) else None) ≡ Some cells
      → Line program room v c.state r a cells
  sees_by r a n sizes is sp none h x e cells true t g =
      subst (λ l. Line program room v c.state r a l)
      (some_same (take n (drop r.at x.cells)) cells g)
      (line_in r a n sizes is sp none h x e (leb-true _ _ t))
  sees_by r a n sizes is sp none h x e cells false t g = cc

  sees_line : (r : Reference) (a n : ℕ) (sizes : List ℕ) → r.sizes ≡ sizes → span sizes ≡ n
      → other_sizes sizes ≡ [] → RefersTo program room v r a
      → (o : Option Object) → object_at w.memory r.object ≡ o → (cells : List ℤ)
      → cells_from o r.at n ≡ Some cells → Line program room v c.state r a cells
  sees_line r a n sizes is sp none h None e cells g = cc
  sees_line r a n sizes is sp none h (Some x) e cells g =
      sees_by r a n sizes is sp none h x e cells _ refl g

  line_near : (r : Reference) (a : ℕ) → RefersTo program room v r a → (sizes : List ℕ)
      → r.sizes ≡ sizes → (cells : List ℤ)
      → line_of r sizes w.memory ≡ Some cells → Line program room v c.state r a cells
  line_near r a h [] is cells e = sees_line r a 1 [] is refl refl h _ refl cells e
  line_near r a h (n ∷ []) is cells e = sees_line r a n (n ∷ []) is refl refl h _ refl cells e
  line_near r a h (n ∷ k ∷ ns) is cells e = cc

  abbrev pub NearHere : Sight (Sought Spot) → Sight (Sought ℕ) → Type 0
  NearHere x y =
      NearSight (see w.memory) (look c.state) (HoldsArgument program room v) (SpotAt program room v)
      (spot_closed program room v) x y

  first_near : (r : Reference) (a : ℕ) (o : Option (List ℤ))
      → ((cells : List ℤ) → o ≡ Some cells → Line program room v c.state r a cells)
      → NearHere (see_first r o) (look c.state (pos (4 * a)) form.Ref)
  first_near r a None h = tt
  first_near r a (Some []) h = tt
  first_near r a (Some (x ∷ cells)) h =
      let l = h (x ∷ cells) refl in
      let e : nat_le 1 (length ((x ∷ cells) ++ l.more)) ≡ true = le-leb _ _ (omega arith) in (
        record { seen = seen.Ref x; hold = Some (record { at = 4 * a; cells = 1 }) },
        rw (l.live, e) refl,
        record {
          seen_is = refl;
          hold = (
            refl,
            spot_closed program room v (length (x ∷ cells)) 1 (spot_of r) (4 * a)
                (omega arith) l.spot,
          );
        },
      )

  cells_by : (r : Reference) (a n : ℕ) (cells : List ℤ) → Line program room v c.state r a cells
      → (b : Bool) → nat_le n (length cells) ≡ b
      → NearHere (see_cells r (Some cells) n) (look c.state (pos (4 * a)) (form.Cells n))
  cells_by r a n cells l false e = rw e tt
  cells_by r a n cells l true e =
      let f : nat_le n (length (cells ++ l.more)) ≡ true =
      le-leb _ _ (omega (arith, length-append cells l.more, leb-true _ _ e)) in
      let t : take n (cells ++ l.more) ≡ take n cells =
      take-append-le n cells l.more (leb-true _ _ e) in
      rw e (
        record { seen = seen.Cells (take n cells); hold = Some (record { at = 4 * a; cells = n }) },
        rw (l.live, f, t) refl,
        record {
          seen_is = refl;
          hold = (
            refl,
            spot_closed program room v (length cells) n (spot_of r) (4 * a)
                (leb-true _ _ e) l.spot,
          );
        },
      )

  cells_near : (r : Reference) (a n : ℕ) (o : Option (List ℤ))
      → ((cells : List ℤ) → o ≡ Some cells → Line program room v c.state r a cells)
      → NearHere (see_cells r o n) (look c.state (pos (4 * a)) (form.Cells n))
  cells_near r a n None h = tt
  cells_near r a n (Some cells) h = cells_by r a n cells (h cells refl) _ refl

  text_by : (r : Reference) (a : ℕ) (cells : List ℤ) → Line program room v c.state r a cells
      → (o : Option (List ℤ)) → characters cells ≡ o
      → NearHere (see_characters o) (look c.state (pos (4 * a)) form.Text)
  text_by r a cells l None e = tt
  text_by r a cells l (Some t) e = (
    record { seen = seen.Text t; hold = None },
    rw (l.live, characters_more cells l.more t e) refl,
    record { seen_is = refl; hold = tt },
  )

  text_near : (r : Reference) (a : ℕ) (o : Option (List ℤ))
      → ((cells : List ℤ) → o ≡ Some cells → Line program room v c.state r a cells)
      → NearHere (see_text o) (look c.state (pos (4 * a)) form.Text)
  text_near r a None h = tt
  text_near r a (Some cells) h = text_by r a cells (h cells refl) _ refl

  pub see_near : (x : Held) (y : ℤ) (f : Form) → HoldsArgument program room v x y
      → NearHere (see w.memory x f) (look c.state y f)
  see_near (Value x) y form.Cell h =
      rw h (record { seen = seen.Cell x; hold = None }, refl, record { seen_is = refl; hold = tt })
  see_near (Value x) y form.Ref h = tt
  see_near (Value x) y form.Text h = tt
  see_near (Value x) y (form.Cells n) h = tt
  see_near (natives.Refers r) y form.Cell h = tt
  see_near (natives.Refers r) y form.Ref h =
      rw h.2 (first_near r h.0 (line_of r r.sizes w.memory)
      (λ cells e. line_near r h.0 h.1 r.sizes refl cells e))
  see_near (natives.Refers r) y form.Text h =
      rw h.2 (text_near r h.0 (line_of r r.sizes w.memory)
      (λ cells e. line_near r h.0 h.1 r.sizes refl cells e))
  see_near (natives.Refers r) y (form.Cells n) h =
      rw h.2 (cells_near r h.0 n (line_of r r.sizes w.memory)
      (λ cells e. line_near r h.0 h.1 r.sizes refl cells e))
