-- Views, scopes and exits with slots that were made one after another.
use Rattle.std.proofs.Common.{◌≡◌, ◌+◌, ◌≤◌, ℕ, List, [], ◌∷◌, ◌++◌, sum, slice_get, refl, sym, ap}
use Rattle.std.proofs.Common.{subst, ◌∙◌, arith, append_assoc, append-nil}
use Rattle.pawn_meaning.specs.Program.{Slot}
use Rattle.pawn_meaning.specs.Scope.{Scope, with_made}
use Rattle.pawn_meaning.specs.Memory.{Local}
use Rattle.gen_sim.specs.Pieces.{Piece, Thing, total}
use Rattle.gen_sim.specs.View.{View, innermost, kept, used, Laid}
use Rattle.gen_sim.specs.Next.{with_local}
use Rattle.gen_sim.proofs.PieceLaws.{total-append}
use Rattle.gen_sim.specs.Site.{Site}
use Rattle.gen_sim.specs.Fits.{own_sizes, locals_of, Fits}
use Rattle.gen_sim.proofs.LocalScopes.{local_fits}
use Rattle.gen_sim.specs.Here.{Here, behind, AreNew}
use Rattle.gen_sim.specs.FlowCode.{made_cells}
use Rattle.gen_sim.specs.Ways.{Outer, made_view, Upon, Inside}
use Rattle.gen_sim.specs.Flow.{Begins}

-- ---- their cells

-- the same in each frame
pub total_locals : (k j : ℕ) (slots : List Slot) (made : List ℕ)
    → total (locals_of k slots made) ≡ total (locals_of j slots made)
total_locals k j slots [] = refl
total_locals k j slots (s ∷ made) =
    omega (
      arith,
      total_locals k j slots made,
      total-append (locals_of k slots made)
          (Thing (Local k s) (own_sizes (slice_get slots s)) ∷ []),
      total-append (locals_of j slots made)
          (Thing (Local j s) (own_sizes (slice_get slots s)) ∷ []),
    )

pub count_more : (slots : List Slot) (made more : List ℕ)
    → made_cells slots (made ++ more) ≡ made_cells slots made + made_cells slots more
count_more slots [] more = omega arith
count_more slots (s ∷ made) more =
    omega (
      arith,
      count_more slots made more,
      total-append (locals_of 0 slots (made ++ more))
          (Thing (Local 0 s) (own_sizes (slice_get slots s)) ∷ []),
      total-append (locals_of 0 slots made)
          (Thing (Local 0 s) (own_sizes (slice_get slots s)) ∷ []),
    )

newest : (k : ℕ) (slots : List Slot) (made : List ℕ) (s : ℕ)
    → locals_of k slots (made ++ s ∷ [])
    ≡ Thing (Local k s) (own_sizes (slice_get slots s)) ∷ locals_of k slots made
newest k slots [] s = refl
newest k slots (m ∷ made) s =
    ap (λ ps. ps ++ Thing (Local k m) (own_sizes (slice_get slots m)) ∷ []) (newest k slots made s)

-- ---- views

module _ (x : Site) (slots : List Slot) where
  upon_one : (made : List ℕ) (s : ℕ) (v base : View) → Upon x slots made v base
      → Upon x slots (made ++ s ∷ []) (with_local v s (own_sizes (slice_get slots s))) base
  upon_one made s v base u = record {
    is =
        ap (λ z. with_local z s (own_sizes (slice_get slots s))) u.is
        ∙ ap (λ (ps : List Piece). record base { high = ps ++ base.high })
        (sym (newest (innermost base) slots made s));
    laid = u.laid;
  }

  pub upon_made : (before made : List ℕ) (v base : View) → Upon x slots before v base
      → Upon x slots (before ++ made) (made_view slots made v) base
  upon_made before [] v base u = subst (λ l. Upon x slots l v base) (sym (append-nil before)) u
  upon_made before (s ∷ made) v base u =
      subst (λ l. Upon x slots l (made_view slots (s ∷ made) v) base)
      (append_assoc before (s ∷ []) made)
      (upon_made (before ++ s ∷ []) made (with_local v s (own_sizes (slice_get slots s))) base
      (upon_one before s v base u))

  pub made_upon : (made : List ℕ) (v : View) → Laid x.program x.room v
      → Upon x slots made (made_view slots made v) v
  made_upon made v laid = upon_made [] made v v (record { is = refl; laid = laid })

  -- what is in use without them
  pub upon_used : (made : List ℕ) (v base : View) → Upon x slots made v base
      → used x.program x.room v [] ≡ used x.program x.room base [] + made_cells slots made
  upon_used made v base u =
      omega (
        arith,
        ap (λ z. used x.program x.room z []) u.is,
        total-append (locals_of (innermost base) slots made) base.high,
        total_locals (innermost base) 0 slots made,
      )

  pub upon_needs : (made : List ℕ) (v base : View) → Upon x slots made v base
      → sum v.needs ≡ sum base.needs
  upon_needs made v base u = ap (λ (z : View). sum z.needs) u.is

  pub upon_less : (made : List ℕ) (v base : View) → Upon x slots made v base → (n : ℕ)
      → used x.program x.room v [] + n ≤ kept x.program x.room + sum v.needs
      → used x.program x.room base [] ≤ kept x.program x.room + sum base.needs
  upon_less made v base u n h = omega (arith, h, upon_used made v base u, upon_needs made v base u)

pub made_more : (slots : List Slot) (made more : List ℕ) (v : View)
    → made_view slots (made ++ more) v ≡ made_view slots more (made_view slots made v)
made_more slots [] more v = refl
made_more slots (s ∷ made) more v =
    made_more slots made more (with_local v s (own_sizes (slice_get slots s)))

-- ---- scopes

made_none : (scope : Scope) → with_made [] scope ≡ scope
made_none scope = ap (λ (l : List ℕ). record scope { made = l }) (append-nil scope.made)

made_next : (scope : Scope) (s : ℕ) (made : List ℕ)
    → with_made made (with_made (s ∷ []) scope) ≡ with_made (s ∷ made) scope
made_next scope s made =
    ap (λ (l : List ℕ). record scope { made = l }) (append_assoc scope.made (s ∷ []) made)

pub new_more : (scope : Scope) (made more : List ℕ) → AreNew scope made
    → AreNew (with_made made scope) more → AreNew scope (made ++ more)
new_more scope [] more h g = subst (λ z. AreNew z more) (made_none scope) g
new_more scope (s ∷ made) more h g = (
  h.0,
  h.1,
  new_more (with_made (s ∷ []) scope) made more h.2
      (subst (λ z. AreNew z more) (sym (made_next scope s made)) g),
)

pub made_fits : (x : Site) (scope : Scope) (made : List ℕ) (v : View) → AreNew scope made
    → Fits x.program x.room scope v
    → Fits x.program x.room (with_made made scope) (made_view scope.slots made v)
made_fits x scope [] v h f = subst (λ z. Fits x.program x.room z v) (sym (made_none scope)) f
made_fits x scope (s ∷ made) v h f =
    subst (λ z. Fits x.program x.room z (made_view scope.slots (s ∷ made) v))
    (made_next scope s made)
    (made_fits x (with_made (s ∷ []) scope) made
    (with_local v s (own_sizes (slice_get scope.slots s))) h.2
    (local_fits x.program x.room scope v s f h.0 h.1))

-- ---- where a statement stands

made_inside : (x : Site) (here : Here) (o : Outer) (made : List ℕ) (v : View) → Inside x here o v
    → Inside x (behind made here) o (made_view here.scope.slots made v)
made_inside x here o made v i = record {
  loop = λ h.
      let n = i.loop h in
      record {
        broke = n.broke;
        continued = n.continued;
        upon = upon_made x here.scope.slots here.since made v o.loop n.upon;
      };
  body = upon_made x here.scope.slots here.scope.made made v o.body i.body;
  returns = i.returns;
}

pub made_begins : (here : Here) (x : Site) (turns : ℕ) (o : Outer) (made : List ℕ) (v : View)
    → AreNew here.scope made → Begins here x turns v o
    → Begins (behind made here) x turns (made_view here.scope.slots made v) o
made_begins here x turns o made v new b = record {
  site = b.site;
  same = b.same;
  calls = b.calls;
  fits = made_fits x here.scope made v new b.fits;
  inside = made_inside x here o made v b.inside;
}
