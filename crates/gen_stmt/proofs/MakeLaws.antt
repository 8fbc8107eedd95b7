-- The table of offsets, before any slot is made and with one more.
use Rattle.std.proofs.Common.{◌≡◌, ◌+◌, ◌*◌, ◌<◌, ◌≤◌, ◌⊎◌, inl, inr, ℕ, ℤ, pos, List, [], ◌∷◌}
use Rattle.std.proofs.Common.{◌++◌, Option, None, Some, length, slice_get, slice_set, sym, ap}
use Rattle.std.proofs.Common.{subst, ◌∙◌, arith}
use Rattle.std.proofs.lemmas.Bool.{cases_eq}
use Rattle.std.specs.Prelude.{Any, neg_ℤ}
use Rattle.pawn_meaning.specs.Program.{Slot}
use Rattle.gen_sim.specs.PlaceItems.{cells_by}
use Rattle.gen_sim.specs.Fits.{own_sizes}
use Rattle.gen_sim.specs.FlowCode.{made_cells}
use Rattle.gen_stmt.specs.Keeps.{offset_in, HasFirst, AreOffsets, Keeps}
use Rattle.gen_stmt.specs.declared.locals.Locals.{Locals}
use Rattle.gen_stmt.proofs.WrittenListLaws.{none_some, some_same, get_set_same}
use Rattle.gen_stmt.proofs.WrittenListLaws.{get_set_other, get_set_is}
use Rattle.gen_stmt.proofs.WrittenListLaws.{get_more, any_both, any_left}
use Rattle.gen_stmt.proofs.WrittenListLaws.{any_last, any_one, once_more}
use Rattle.gen_stmt.proofs.OffsetLaws.{made_one, offset_of_param, offset_old, offset_new}

-- ---- the parameters alone

-- of so many slots
pub record AreFirst (params : ℕ) (offsets : List (Option ℤ)) : Type 0 where
  pub first : (s : ℕ) (x : ℤ) → slice_get offsets s ≡ Some (Some x)
      → (s < params) × (x ≡ pos (12 + 4 * s))

pub none_first : (params : ℕ) → AreFirst params []
none_first params = record { first = λ s x e. absurd (none_some (Some x) e) }

has_first : (params s : ℕ) (v : Option ℤ) (x : ℤ) → HasFirst params s v → v ≡ Some x
    → (s < params) × (x ≡ pos (12 + 4 * s))
has_first params s None x h e = absurd (none_some x e)
has_first params s (Some y) x h e = (h.0, sym (some_same y x e) ∙ h.1)

pub first_more : (params : ℕ) (offsets : List (Option ℤ)) (s : ℕ) (v : Option ℤ)
    → AreFirst params offsets → s ≡ length offsets → HasFirst params s v
    → AreFirst params (offsets ++ v ∷ [])
first_more params offsets s v h e f =
    record { first = λ t x g. go t x (get_more offsets v (Some x) t g) }
  where
    go : (t : ℕ) (x : ℤ) → (slice_get offsets t ≡ Some (Some x))
        ⊎ ((t ≡ length offsets) × (v ≡ Some x)) → (t < params) × (x ≡ pos (12 + 4 * t))
    go t x (inl g) = h.first t x g
    go t x (inr g) = has_first params t v x (subst (λ n. HasFirst params n v) (e ∙ sym g.0) f) g.1

pub first_offsets : (slots : List Slot) (params : ℕ) (offsets : List (Option ℤ))
    → AreFirst params offsets → AreOffsets slots params [] offsets
first_offsets slots params offsets h = record {
  once = tt;
  known = λ s a e. omega (arith, a.2);
  tell = λ s x e.
      let f = h.first s x e in
      (inl f.0, f.1 ∙ sym (offset_of_param slots params [] s f.0));
}

-- ---- one more

module _ (slots : List Slot) (params : ℕ) (made : List ℕ) (offsets : List (Option ℤ)) (s : ℕ)
    (x : ℤ) (o : AreOffsets slots params made offsets)
    (local : params ≤ s) (there : slice_get offsets s ≡ Some None)
    (is : x ≡ neg_ℤ (pos (4 * (made_cells slots made + cells_by (own_sizes (slice_get slots s))))))
  where
    new : ¬ (Any (λ m. m ≡ s) made)
    new a = o.known s a there

    some_none : (y : ℤ) → Some (Some y) ≡ Some None → ⊥
    some_none y e = none_some y (sym (some_same (Some y) None e))

    known_more : (t : ℕ) → (s ≡ t) ⊎ (s ≡ t → ⊥) → Any (λ m. m ≡ t) made ⊎ Any (λ m. m ≡ t) (s ∷ [])
        → ¬ (slice_get (slice_set offsets s (Some x)) t ≡ Some None)
    known_more t (inl same) a e =
        some_none x (sym (get_set_same offsets s (Some x) None there)
        ∙ ap (λ n. slice_get (slice_set offsets s (Some x)) n) same ∙ e)
    known_more t (inr other) (inl a) e =
        o.known t a (sym (get_set_other offsets s t (Some x) other) ∙ e)
    known_more t (inr other) (inr a) e = other (any_one s t a)

    tell_more : (t : ℕ) (y : ℤ) → (s ≡ t) ⊎ (s ≡ t → ⊥)
        → slice_get (slice_set offsets s (Some x)) t ≡ Some (Some y)
        → ((t < params) ⊎ Any (λ m. m ≡ t) (made ++ s ∷ []))
        × (y ≡ offset_in slots params (made ++ s ∷ []) t)
    tell_more t y (inl same) e =
        let here : slice_get (slice_set offsets s (Some x)) s ≡ Some (Some y) =
        ap (λ n. slice_get (slice_set offsets s (Some x)) n) same ∙ e in
        let yx : x ≡ y = some_same x y (get_set_is offsets s (Some x) (Some y) here) in (
          inr (any_last (λ m. m ≡ t) made s same),
          sym yx ∙ is ∙ sym (offset_new slots params made s local new)
              ∙ ap (λ n. offset_in slots params (made ++ s ∷ []) n) same,
        )
    tell_more t y (inr other) e =
        let old = o.tell t y (sym (get_set_other offsets s t (Some x) other) ∙ e) in
        (wider old.0, old.1 ∙ sym (offset_old slots params made (s ∷ []) t old.0))
      where
        wider : (t < params) ⊎ Any (λ m. m ≡ t) made
            → (t < params) ⊎ Any (λ m. m ≡ t) (made ++ s ∷ [])
        wider (inl h) = inl h
        wider (inr a) = inr (any_left (λ m. m ≡ t) made (s ∷ []) a)

    pub made_offsets : AreOffsets slots params (made ++ s ∷ []) (slice_set offsets s (Some x))
    made_offsets = record {
      once = once_more made s o.once new;
      known = λ t a. known_more t (cases_eq s t) (any_both (λ m. m ≡ t) made (s ∷ []) a);
      tell = λ t y e. tell_more t y (cases_eq s t) e;
    }

pub made_keeps : (slots : List Slot) (params : ℕ) (old new : Locals) (s own cells : ℕ) (x : ℤ)
    → Keeps slots params old
    → slice_get old.offsets.items s ≡ Some None → params ≤ s
    → own ≡ cells_by (own_sizes (slice_get slots s)) → cells ≡ old.cells + own
    → x ≡ neg_ℤ (pos (4 * cells)) → new.made.items ≡ old.made.items ++ s ∷ []
    → new.offsets.items ≡ slice_set old.offsets.items s (Some x)
    → new.cells ≡ cells → Keeps slots params new
made_keeps slots params old new s own cells x k there local eo ec ex em ef en =
    let made = old.made.items in
    let size : cells ≡ made_cells slots made + cells_by (own_sizes (slice_get slots s)) =
    omega (arith, ec, eo, k.cells) in
    let table : AreOffsets slots params (made ++ s ∷ []) (slice_set old.offsets.items s (Some x)) =
    made_offsets slots params made old.offsets.items s x k.offsets local there
    (ex ∙ ap (λ n. neg_ℤ (pos (4 * n))) size) in
    record {
      offsets =
          subst (λ l. AreOffsets slots params new.made.items l) (sym ef)
          (subst (λ l. AreOffsets slots params l (slice_set old.offsets.items s (Some x)))
          (sym em) table);
      cells = en ∙ size ∙ sym (made_one slots made s) ∙ ap (λ l. made_cells slots l) (sym em);
    }
