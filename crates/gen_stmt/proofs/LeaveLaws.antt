-- The table of offsets without the newest slot.
use Rattle.std.proofs.Common.{◌≡◌, ◌<◌, ◌≤◌, ◌⊎◌, inl, inr, ℕ, zero, suc, ℤ, List, []}
use Rattle.std.proofs.Common.{◌∷◌, ◌++◌, Option, None, Some, length, slice_get, slice_set, refl}
use Rattle.std.proofs.Common.{sym, ap, subst, ◌∙◌, arith}
use Rattle.std.proofs.lemmas.Bool.{cases_eq}
use Rattle.std.specs.Prelude.{Any}
use Rattle.pawn_meaning.specs.Program.{Slot}
use Rattle.gen_stmt.specs.Keeps.{offset_in, AreOffsets, Without}
use Rattle.gen_stmt.proofs.WrittenListLaws.{none_some, get_set_other, get_set_is}
use Rattle.gen_stmt.proofs.WrittenListLaws.{any_both, any_left}
use Rattle.gen_stmt.proofs.WrittenListLaws.{any_one, once_before, once_new}
use Rattle.gen_stmt.proofs.OffsetLaws.{offset_old}

pub cleared : (offsets : List (Option ℤ)) (s : ℕ) → Without s offsets (slice_set offsets s None)
cleared offsets s = record {
  others = λ t h. get_set_other offsets s t None h;
  none = λ x e. none_some x (get_set_is offsets s None (Some x) e);
}

get_past : (l : List (Option ℤ)) (s : ℕ) (v : Option ℤ) → length l ≤ s → slice_get l s ≡ Some v → ⊥
get_past [] s v h e = none_some v e
get_past (x ∷ l) zero v h e = omega (arith, h)
get_past (x ∷ l) (suc s) v h e = get_past l s v (omega (arith, h)) e

pub past_end : (offsets : List (Option ℤ)) (s : ℕ) → length offsets ≤ s → Without s offsets offsets
past_end offsets s h =
    record { others = λ t other. refl; none = λ x e. get_past offsets s (Some x) h e }

pub less_offsets : (slots : List Slot) (params : ℕ) (made : List ℕ) (s : ℕ)
    (offsets less : List (Option ℤ)) → Without s offsets less
    → AreOffsets slots params (made ++ s ∷ []) offsets → AreOffsets slots params made less
less_offsets slots params made s offsets less w o = record {
  once = once_before made s o.once;
  known = λ t a e.
      o.known t (any_left (λ m. m ≡ t) made (s ∷ []) a)
      (sym (w.others t (λ same. new (subst (λ n. Any (λ m. m ≡ n) made) (sym same) a))) ∙ e);
  tell = λ t y e. tell_less t y (cases_eq s t) e;
}
  where
    new : ¬ (Any (λ m. m ≡ s) made)
    new a = once_new made s o.once a

    narrow : (t : ℕ) → ¬ (s ≡ t) → (t < params) ⊎ Any (λ m. m ≡ t) (made ++ s ∷ [])
        → (t < params) ⊎ Any (λ m. m ≡ t) made
    narrow t other (inl h) = inl h
    narrow t other (inr a) = pick (any_both (λ m. m ≡ t) made (s ∷ []) a)
      where
        pick : Any (λ m. m ≡ t) made ⊎ Any (λ m. m ≡ t) (s ∷ [])
            → (t < params) ⊎ Any (λ m. m ≡ t) made
        pick (inl b) = inr b
        pick (inr b) = absurd (other (any_one s t b))

    tell_less : (t : ℕ) (y : ℤ) → (s ≡ t) ⊎ (s ≡ t → ⊥) → slice_get less t ≡ Some (Some y)
        → ((t < params) ⊎ Any (λ m. m ≡ t) made) × (y ≡ offset_in slots params made t)
    tell_less t y (inl same) e = absurd (w.none y (ap (λ n. slice_get less n) same ∙ e))
    tell_less t y (inr other) e =
        let old = o.tell t y (sym (w.others t other) ∙ e) in
        let at = narrow t other old.0 in
        (at, old.1 ∙ offset_old slots params made (s ∷ []) t at)

-- the newest one is out of force
pub popped_offsets : (slots : List Slot) (params : ℕ) (made rest : List ℕ) (s : ℕ)
    (offsets less : List (Option ℤ)) → made ≡ rest ++ s ∷ []
    → Without s offsets less → AreOffsets slots params made offsets
    → AreOffsets slots params rest less
popped_offsets slots params made rest s offsets less e w o =
    less_offsets slots params rest s offsets less w
    (subst (λ l. AreOffsets slots params l offsets) e o)
