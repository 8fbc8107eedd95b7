-- Parts that are appended one behind another, and where they begin.
use Rattle.std.proofs.Common.{◌≡◌, ◌+◌, ◌*◌, ◌<◌, ◌⊎◌, inl, inr, ℕ, zero, suc, ℤ, pos, List, []}
use Rattle.std.proofs.Common.{◌∷◌, ◌++◌, Some, length, drop, get_or, slice_get, add-one, refl, sym}
use Rattle.std.proofs.Common.{ap, ◌∙◌, arith, length-append}
use Rattle.std.proofs.Math.Seq.{drop-cons}
use Rattle.gen_sim.specs.Items.{Item, past}
use Rattle.gen_expr.specs.Built.{Built, with_items}
use Rattle.gen_expr.proofs.GrowLaws.{both_grow, none_grow, next_at}
use Rattle.gen_module.specs.Rows.{row_items, row_begin}
use Rattle.gen_module.proofs.EntryLaws.{get_more}

module _ {A : Type 0} (part : ℕ → A → List Item) where
  -- the next one begins where this one ends
  begin_next : (at : ℕ) (xs : List A) (i : ℕ) (x : A) → i < length xs → x ≡ get_or xs i x
      → row_begin part at xs (suc i)
      ≡ past (row_begin part at xs i) (part (row_begin part at xs i) x)
  begin_next at [] i x within is = absurd (omega (arith, within))
  begin_next at (y ∷ []) zero x within is = ap (λ z. past at (part at z)) (sym is)
  begin_next at (y ∷ (z ∷ xs)) zero x within is = ap (λ w. past at (part at w)) (sym is)
  begin_next at (y ∷ xs) (suc i) x within is =
      begin_next (past at (part at y)) xs i x (omega (arith, within)) is

  -- the first parts of a row were appended
  pub record Row (xs : List A) (o b : Built) (i : ℕ) (starts : List ℤ) : Type 0 where
    pub code : with_items (row_items part (4 * length b.code) (drop i xs)) b
        ≡ with_items (row_items part (4 * length o.code) xs) o
    pub next : 4 * length b.code ≡ row_begin part (4 * length o.code) xs i
    pub count : length starts ≡ i
    pub finds : (n : ℕ) (x : ℤ) → slice_get starts n ≡ Some x
        → x ≡ pos (row_begin part (4 * length o.code) xs n)

  first_begins : (at : ℕ) (xs : List A) → row_begin part at xs 0 ≡ at
  first_begins at [] = refl
  first_begins at (x ∷ xs) = refl

  pub row_none : (xs : List A) (o : Built) → Row xs o o 0 []
  row_none xs o =
      record {
        code = refl;
        next = sym (first_begins (4 * length o.code) xs);
        count = refl;
        finds = λ n x e. cc;
      }

  pub row_more : (xs : List A) (o b m : Built) (i : ℕ) (starts : List ℤ) (x : A) (begin : ℤ)
      → Row xs o b i starts → i < length xs → x ≡ get_or xs i x
      → begin ≡ pos (4 * length b.code) → m ≡ with_items (part (4 * length b.code) x) b
      → Row xs o m (i + 1) (starts ++ begin ∷ [])
  row_more xs o b m i starts x begin row within is at grown =
      let here : drop i xs ≡ x ∷ drop (i + 1) xs =
      drop-cons xs i x within ∙ ap (λ z. z ∷ drop (suc i) xs) (sym is)
      ∙ ap (λ k. x ∷ drop k xs) (sym (add-one i)) in
      let one = part (4 * length b.code) x in
      let ends : 4 * length m.code ≡ past (4 * length b.code) one = next_at b m one grown in
      let rest = row_items part (past (4 * length b.code) one) (drop (i + 1) xs) in
      record {
        code =
            ap (λ p. with_items (row_items part p (drop (i + 1) xs)) m) ends
            ∙ ap (λ (z : Built). with_items rest z) grown
            ∙ both_grow one rest b ∙ ap (λ (l : List A). with_items
            (row_items part (4 * length b.code) l) b) (sym here) ∙ row.code;
        next =
            ends ∙ ap (λ p. past p (part p x)) row.next
            ∙ sym (begin_next (4 * length o.code) xs i x within is)
            ∙ ap (λ k. row_begin part (4 * length o.code) xs k) (sym (add-one i));
        count = length-append starts (begin ∷ []) ∙ omega (arith, row.count);
        finds = λ n y e. by_place n y (get_more starts begin y n e);
      }
    where
      by_place : (n : ℕ) (y : ℤ) → (slice_get starts n ≡ Some y)
          ⊎ ((n ≡ length starts) × (y ≡ begin)) → y ≡ pos (row_begin part (4 * length o.code) xs n)
      by_place n y (inl e) = row.finds n y e
      by_place n y (inr e) =
          let here : i ≡ n = sym (e.0 ∙ row.count) in
          e.1 ∙ at ∙ ap pos (row.next ∙ ap (λ k. row_begin part (4 * length o.code) xs k) here)

  none_left : (xs : List A) (n : ℕ) → n ≡ length xs → drop n xs ≡ []
  none_left [] zero e = refl
  none_left [] (suc n) e = refl
  none_left (x ∷ xs) zero e = absurd (omega (arith, e))
  none_left (x ∷ xs) (suc n) e = none_left xs n (omega (arith, e))

  pub row_all : (xs : List A) (o b : Built) (i : ℕ) (starts : List ℤ) → Row xs o b i starts
      → i ≡ length xs
      → b ≡ with_items (row_items part (4 * length o.code) xs) o
  row_all xs o b i starts row e =
      none_grow b ∙ ap (λ (l : List A). with_items (row_items part (4 * length b.code) l) b)
      (sym (none_left xs i e)) ∙ row.code
