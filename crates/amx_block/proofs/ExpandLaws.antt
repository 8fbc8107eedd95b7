-- One more piece from the end.
use Rattle.std.proofs.Common.{◌≡◌, ◌≢◌, ◌+◌, ◌-◌, ◌*◌, ◌/◌, ◌%◌, ◌<◌, ◌≤◌, ◌⊎◌, inl, inr, ℕ, zero}
use Rattle.std.proofs.Common.{suc, ℤ, pos, neg_ℤ, List, length, get_or, set, refl, sym, ap, ◌∙◌}
use Rattle.std.proofs.Common.{subst, arith, get_or-set_same, get_or-set_other}
use Rattle.std.proofs.Common.{take, drop, ◌++◌}
use Rattle.std.proofs.lemmas.List.{length-take-le, length-drop, take-append-drop}
use Rattle.std.proofs.lemmas.Bool.Decides.{leb_tells}
use Rattle.pawn_cells.specs.Cells.{char_at, add, mul}
use Rattle.amx_ops.specs.Access.{byte_at}
use Rattle.amx_block.specs.Packed.{groups, IsPiece, IsPacked}
use Rattle.amx_block.specs.Expanded.{IsExpanded, IsExpandedFrom, IsPackedIn}
use Rattle.amx_block.proofs.BlockLaws.{contents}

abbrev pub SameBelow : List ℤ → List ℤ → ℕ → Type 0
SameBelow now old m = (k : ℕ) → k < m → byte_at now k ≡ byte_at old k

groups_same : (now old : List ℤ) (start n m : ℕ) → SameBelow now old m → start < m
    → start + n ≤ m → groups now start n ≡ groups old start n
groups_same now old start zero m same h l = ap (λ b. neg_ℤ (pos (b / 64 % 2))) (same start h)
groups_same now old start (suc n) m same h l =
    ap (λ g. add (mul g (pos 128)) (pos (byte_at now (start + n) % 128)))
    (groups_same now old start n m same h (omega (arith, l)))
    ∙ ap (λ b. add (mul (groups old start n) (pos 128)) (pos (b % 128)))
    (same (start + n) (omega (arith, l)))

module _ (old now : List ℤ) (len count end j : ℕ) (p : IsPacked old len count)
    (v : IsExpandedFrom old now len count (suc j) end p) (h : j < count) where
  piece : IsPiece old (p.cut j) (p.cut (suc j))
  piece = p.piece j h

  fits : end ≤ 4 * suc j
  fits = omega (arith, v.end_is, p.fits (suc j) (omega (arith, h)))

  same : SameBelow now old (4 * suc j)
  same k l = ap (λ c. char_at c (3 - k % 4)) (v.below (k / 4) (omega (arith, l)))

  pub starts : p.cut j < end
  starts = omega (arith, piece.some, v.end_is)

  pub ends_within : end ≤ 4 * length old
  ends_within = omega (arith, fits, h, p.within)

  piece_now : IsPiece now (p.cut j) end
  piece_now = record {
    some = starts;
    goes_on =
        λ k s l. omega
        (arith, same k (omega (arith, l, fits)), piece.goes_on k s (omega (arith, l, v.end_is)));
    ends =
        omega (
          arith,
          same (end - 1) (omega (arith, starts, fits)),
          ap (λ e. byte_at old (e - 1)) v.end_is,
          piece.ends,
        );
  }

  closed : (i : ℕ) → i ≡ j → (p.cut i ≡ 0) ⊎ (byte_at now (p.cut i - 1) < 128)
  closed zero e = inl p.first
  closed (suc i) e =
      let before = p.piece i (omega (arith, e, h)) in
      let cut : p.cut (suc i) ≡ p.cut j = ap p.cut e in
      inr (omega (arith, same (p.cut (suc i) - 1) (omega (arith, cut, starts, fits)), before.ends))

  module _ (new : List ℤ) (start : ℕ)
      (is : (s : ℕ) → IsPiece now s end → ((s ≡ 0) ⊎ (byte_at now (s - 1) < 128)) → start ≡ s)
      (written : new ≡ set now j (groups now start (end - start)))
      (size : length now ≡ length old) where
    start_is : start ≡ p.cut j
    start_is = is (p.cut j) piece_now (closed j refl)

    value_is : groups now start (end - start) ≡ groups old (p.cut j) (p.cut (suc j) - p.cut j)
    value_is =
        ap (λ s. groups now s (end - s)) start_is
        ∙ groups_same now old (p.cut j) (end - p.cut j) (4 * suc j) same
        (omega (arith, starts, fits)) (omega (arith, starts, fits))
        ∙ ap (λ e. groups old (p.cut j) (e - p.cut j)) v.end_is

    other : (k : ℕ) → k ≢ j → get_or new k (pos 0) ≡ get_or now k (pos 0)
    other k ne =
        ap (λ cs. get_or cs k (pos 0)) written
        ∙ get_or-set_other now j k (groups now start (end - start)) (pos 0) ne

    here : get_or new j (pos 0) ≡ groups old (p.cut j) (p.cut (suc j) - p.cut j)
    here =
        ap (λ cs. get_or cs j (pos 0)) written
        ∙ get_or-set_same now j (groups now start (end - start)) (pos 0)
        (omega (arith, h, p.within, size)) ∙ value_is

    pub expanded : IsExpandedFrom old new len count j start p
    expanded = record {
      end_is = start_is;
      below = λ k l. other k (λ e. omega (arith, e, l)) ∙ v.below k (omega (arith, l));
      done = λ k l m. elim (leb_tells (suc j) k) [
        | inl t ↦ other k (λ e. omega (arith, e, t.1)) ∙ v.done k t.1 m
        | inr t ↦
            let e : j ≡ k = omega (arith, l, t.1) in
            subst (λ i. get_or new i (pos 0) ≡ groups old (p.cut i) (p.cut (suc i) - p.cut i)) e
            here
      ];
      past = λ k l. other k (λ e. omega (arith, e, l, h)) ∙ v.past k l;
    }

-- ---- in a block

same_lists : (old new xs ys : List ℤ) (len n m : ℕ) → old ≡ xs → new ≡ ys → n ≡ m
    → ((p : IsPacked old len n) → IsExpandedFrom old new len n 0 0 p) → (p : IsPacked xs len m)
    → IsExpandedFrom xs ys len m 0 0 p
same_lists old new xs ys len n m a b e h =
    subst (λ (list : List ℤ). (p : IsPacked list len m) → IsExpandedFrom list ys len m 0 0 p) a
    (subst (λ (list : List ℤ). (p : IsPacked old len m) → IsExpandedFrom old list len m 0 0 p) b
    (subst (λ (k : ℕ). (p : IsPacked old len k) → IsExpandedFrom old new len k 0 0 p) e h))

pub expanded_in : (code store len : ℕ) (old new : List ℤ) → code + store ≤ length old
    → length new ≡ length old
    → ((p : IsPacked old len (code + store)) → IsExpandedFrom old new len (code + store) 0 0 p)
    → (p : IsPackedIn len (contents code old store))
    → IsExpanded len (contents code old store) (contents code new store) p
expanded_in code store len old new within size h p =
    let was : length (take code old) ≡ code = length-take-le code old (omega (arith, within)) in
    let is : length (take code new) ≡ code =
    length-take-le code new (omega (arith, within, size)) in
    record {
      cells =
          same_lists old new (take code old ++ drop code old) (take code new ++ drop code new) len
          (code + store) (length (take code old) + store) (sym (take-append-drop code old))
          (sym (take-append-drop code new)) (omega (arith, was)) h p;
      code = is ∙ sym was;
      memory = length-drop code new ∙ ap (λ n. n - code) size ∙ sym (length-drop code old);
      store = refl;
    }
