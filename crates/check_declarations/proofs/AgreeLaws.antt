-- Returns behind others, one by one.
use Rattle.std.proofs.Common.{◌≡◌, ◌≢◌, ◌<◌, ◌≤◌, ◌+◌, ℕ, zero, suc, Bool, true, false, ◌||◌, List}
use Rattle.std.proofs.Common.{[], ◌∷◌, ◌++◌, map, drop, length, get_or, Option, Some, None, Ok, Err}
use Rattle.std.proofs.Common.{refl, sym, ap, ap₂, subst, ◌∙◌, arith}
use Rattle.std.specs.Prelude.{not}
use Rattle.std.specs.List.{list_any}
use Rattle.std.proofs.lemmas.List.{drop_more, drop_all, get_or_default}
use Rattle.std.proofs.lemmas.List.Folds.{list_any-append}
use Rattle.pawn_verdict.specs.Answers.{Fails}
use Rattle.pawn_verdict.specs.declared.fault.CheckFault.{CheckFault}
use Rattle.pawn_verdict.specs.declared.fault.CheckFault.TheVariants.{Source}
use Rattle.types_rules.specs.declared.fault.TheConstants.{RETURN_MIXED}
use Rattle.types_rules.specs.Stood.{Returned}
use Rattle.types_rules.specs.TypedTrees.{gives, gives_none}
use Rattle.pawn_verdict.proofs.VerdictLaws.{fails_left, fails_right}
use Rattle.check_functions.proofs.FindsLaws.{map_at}
use Rattle.check_declarations.specs.Marks.{Seen, seen_behind, seen_by, both_seen, mixed_at, Agrees}

-- ---- behind each other

or_assoc : (a b c : Bool) → (a || b) || c ≡ a || (b || c)
or_assoc true b c = refl
or_assoc false b c = refl

any_behind : (p : Returned → Bool) (a : Bool) (xs ys : List Returned)
    → (a || list_any p xs) || list_any p ys ≡ a || list_any p (xs ++ ys)
any_behind p a xs ys =
    or_assoc a (list_any p xs) (list_any p ys)
    ∙ ap (λ (b : Bool). a || b) (sym (list_any-append p xs ys))

abbrev seen : Bool → Bool → Seen
seen a b = record { with_value = a; without = b }

pub behind_append : (x : Seen) (xs ys : List Returned)
    → seen_behind (seen_behind x xs) ys ≡ seen_behind x (xs ++ ys)
behind_append x xs ys =
    ap₂ seen (any_behind gives x.with_value xs ys) (any_behind gives_none x.without xs ys)

-- a mark that stands for what is behind another one
pub moved : (last next : Option Bool) (xs ys : List Returned)
    → seen_by next ≡ seen_behind (seen_by last) xs
    → seen_behind (seen_by next) ys ≡ seen_behind (seen_by last) (xs ++ ys)
moved last next xs ys h = ap (λ (x : Seen). seen_behind x ys) h ∙ behind_append (seen_by last) xs ys

-- where both kinds are, both stay
pub both_stay : (x : Seen) (xs ys : List Returned) → seen_behind x xs ≡ both_seen
    → seen_behind x (xs ++ ys) ≡ both_seen
both_stay x xs ys h = sym (behind_append x xs ys) ∙ ap (λ (s : Seen). seen_behind s ys) h

-- ---- one return

or_not : (b : Bool) → b || not b ≡ true
or_not true = refl
or_not false = refl

or_itself : (b : Bool) → b ≡ b || (b || false)
or_itself true = refl
or_itself false = refl

-- the first one
pub first_told : (it : Returned) → Agrees None (it ∷ []) (Ok (Some it.gives))
first_told it = record { told = ap₂ seen (or_first it.gives) (or_first (not it.gives)) }
  where
    or_first : (b : Bool) → b ≡ b || false
    or_first true = refl
    or_first false = refl

-- one as those before it
pub same_told : (value : Bool) (it : Returned) → it.gives ≡ value
    → Agrees (Some value) (it ∷ []) (Ok (Some value))
same_told value it e = record {
  told =
      subst (λ (b : Bool). seen_by (Some value)
      ≡ seen (value || (b || false)) (not value || (not b || false))) (sym e)
      (ap₂ seen (or_itself value) (or_itself (not value)));
}

-- one unlike those before it
pub other_told : (value : Bool) (it : Returned) (fault : CheckFault) → it.gives ≢ value
    → fault ≡ Source RETURN_MIXED it.at.place
    → Agrees (Some value) (it ∷ []) (Err fault)
other_told value it fault d e =
    record {
      told = (
        kinds value it.gives d,
        subst (Fails (mixed_at (it ∷ []))) (sym e) (record { cause = (0, omega arith, refl) }),
      );
    }
  where
    kinds : (a b : Bool) → b ≢ a → seen (a || (b || false)) (not a || (not b || false)) ≡ both_seen
    kinds true true d = absurd (d refl)
    kinds true false d = refl
    kinds false true d = refl
    kinds false false d = absurd (d refl)

-- ---- all of a list

or_nothing : (b : Bool) → b ≡ b || false
or_nothing true = refl
or_nothing false = refl

-- a fault of one of them
pub fails_at : (items : List Returned) (i : ℕ) (it : Returned) (fault : CheckFault)
    → i < length items → it ≡ get_or items i it → Fails (mixed_at (it ∷ [])) fault
    → Fails (mixed_at items) fault
fails_at [] i it fault lt is h = absurd (omega (arith, lt))
fails_at (x ∷ xs) zero it fault lt is h =
    fails_left (mixed_at (x ∷ [])) (mixed_at xs) fault
    (subst (λ (y : Returned). Fails (mixed_at (y ∷ [])) fault) is h)
fails_at (x ∷ xs) (suc i) it fault lt is h =
    let less : i < length xs = omega (arith, lt) in
    fails_right (mixed_at (x ∷ [])) (mixed_at xs) fault (fails_at xs i it fault less is h)

module _ {A : Type 0} (view : A → Returned) (mark : Option Bool) (items : List A) where
  -- those before a place are marked
  pub record SeenSoFar (last : Option Bool) (i : ℕ) : Type 0 where
    pub same : seen_behind (seen_by last) (map view (drop i items))
        ≡ seen_behind (seen_by mark) (map view items)

  pub so_far_begins : SeenSoFar mark 0
  so_far_begins = record { same = refl }

  cut : (i : ℕ) (it : A) → i < length items → it ≡ get_or items i it
      → map view (drop i items) ≡ view it ∷ map view (drop (i + 1) items)
  cut i it lt is =
      ap (map view) (drop_more items i it lt ∙ ap (λ (y : A). y ∷ drop (i + 1) items) (sym is))

  there : (i : ℕ) (d : A) → i < length items → get_or items i d ≡ get_or items i (get_or items i d)
  there i d lt = sym (get_or_default items i (get_or items i d) d lt)

  pub so_far_more : (last next : Option Bool) (i : ℕ) (d : A) → SeenSoFar last i → i < length items
      → Agrees last (view (get_or items i d) ∷ []) (Ok next)
      → SeenSoFar next (i + 1)
  so_far_more last next i d h lt ok = record {
    same = moved last next (view (get_or items i d) ∷ []) (map view (drop (i + 1) items)) ok.told
        ∙ ap (seen_behind (seen_by last)) (sym (cut i (get_or items i d) lt (there i d lt)))
        ∙ h.same;
  }

  pub so_far_fails : (last : Option Bool) (i : ℕ) (d : A) (fault : CheckFault) → SeenSoFar last i
      → i < length items
      → Agrees last (view (get_or items i d) ∷ []) (Err fault)
      → Agrees mark (map view items) (Err fault)
  so_far_fails last i d fault h lt e =
      let at = map_at view items i (get_or items i d) lt (there i d lt) in
      record {
        told = (
          sym h.same ∙ ap (seen_behind (seen_by last)) (cut i (get_or items i d) lt (there i d lt))
              ∙ both_stay (seen_by last) (view (get_or items i d) ∷ [])
              (map view (drop (i + 1) items)) e.told.0,
          fails_at (map view items) i (view (get_or items i d)) fault at.0 at.1 e.told.1,
        );
      }

  pub so_far_all : (last : Option Bool) (i : ℕ) → SeenSoFar last i → length items ≤ i
      → Agrees mark (map view items) (Ok last)
  so_far_all last i h past = record {
    told = ap₂ seen (or_nothing (seen_by last).with_value) (or_nothing (seen_by last).without)
        ∙ ap (λ (rest : List A). seen_behind (seen_by last) (map view rest))
        (sym (drop_all i items past)) ∙ h.same;
  }
