-- Lists and parts that may be left out: what their readers give stands there, and what stands there
-- is what they give.
use Rattle.std.proofs.Common.{◌≡◌, ℕ, zero, suc, ◌-◌, ◌≤◌, ◌<◌, max, Bool, true, List, [], ◌∷◌}
use Rattle.std.proofs.Common.{◌++◌, length, Option, Some, refl, sym, ◌∙◌, subst, arith}
use Rattle.std.proofs.Common.{append_assoc, ⊎_elim}
use Rattle.std.proofs.lemmas.List.{append-nil}
use Rattle.std.proofs.lemmas.Bool.{leb-true}
use Rattle.pawn_token.specs.declared.sign.Sign.{Sign}
use Rattle.pawn_lex.specs.declared.token.Token.{Token}
use Rattle.tree_rules.specs.Tokens.{sees}
use Rattle.tree_rules.specs.Lists.{Part, Many, no_more, one_more, Behind, Several, several, UpTo}
use Rattle.tree_rules.specs.Lists.{none_up_to, some_up_to, Led, left_out, led}
use Rattle.tree_rules.specs.Readers.{Got, got, Reader, ◌>>=◌, many}
use Rattle.tree_rules.specs.Readers as read
use Rattle.tree_rules.proofs.Steps.{none_some, some_inj, bind_some, guard_some, if_cases}
use Rattle.tree_rules.proofs.Base.{true_sees, sees_true}

-- what is read stands there, n levels high at most
pub record IsPart {A : Type 0} (part : Part A) (n i : ℕ) (x : Got A) : Type 0 where
  pub stands : part x.height x.tree i x.stop
  pub low : x.height ≤ n

pub record IsSound {A : Type 0} (part : Part A) (n : ℕ) (read : Reader A) : Type 0 where
  pub gives : (i : ℕ) (x : Got A) → read i ≡ Some x → IsPart part n i x

-- the same where a part begins
pub record IsSoundWhere {A : Type 0} (more : ℕ → Bool) (part : Part A) (n : ℕ)
    (read : Reader A) : Type 0 where
  pub gives : (i : ℕ) (x : Got A) → more i ≡ true → read i ≡ Some x → IsPart part n i x

pub anywhere : {A : Type 0} {more : ℕ → Bool} {part : Part A} {n : ℕ} {read : Reader A}
    → IsSound part n read → IsSoundWhere more part n read
anywhere s = record { gives = λ i x t e. s.gives i x e }

-- what stands there is read
pub record IsComplete {A : Type 0} (part : Part A) (n : ℕ) (read : Reader A) : Type 0 where
  pub all : {h i j : ℕ} {x : A} → part h x i j → h ≤ n → read i ≡ Some (got x h j)

-- a part takes at least the token at which it begins
pub record Advances {A : Type 0} (ts : List Token) (part : Part A) : Type 0 where
  pub steps : {h i j : ℕ} {x : A} → part h x i j → (i < j) × (i < length ts)

pub part_at : {A : Type 0} (part : Part A) (h h2 : ℕ) (x x2 : A) (i j : ℕ) → h ≡ h2 → x ≡ x2
    → part h2 x2 i j → part h x i j
part_at part h h2 x x2 i j e f p = rw (e, f) p

pub max_zero : (h : ℕ) → h ≡ max h 0
max_zero h = omega arith

pub max_assoc : (g h k : ℕ) → max (max g h) k ≡ max g (max h k)
max_assoc g h k = omega arith

pub record Added {A : Type 0} (more : ℕ → Bool) (part : Part A) (n : ℕ) (done : List A) (h i : ℕ)
    (y : Got (List A)) : Type 0 where
  pub added : List A
  pub height : ℕ
  pub stands : Many more part height added i y.stop
  pub items : y.tree ≡ done ++ added
  pub is_height : y.height ≡ max h height
  pub low : height ≤ n

module _ {A : Type 0} {more : ℕ → Bool} {part : Part A} {n : ℕ} {read : Reader A} where
  pub many_sound : IsSoundWhere more part n read
      → (fuel : ℕ) (done : List A) (h i : ℕ) (y : Got (List A))
      → many more read fuel done h i ≡ Some y → Added more part n done h i y
  unfolding many
  many_sound sound zero done h i y e = absurd (none_some e)
  many_sound sound (suc fuel) done h i y e = ⊎_elim
      (λ t. let x = bind_some _ _ _ t.1 in let r = sound.gives _ _ t.0 x.is in
      let rest = many_sound sound fuel _ _ _ y x.next in let low = r.low in let low2 = rest.low in
      record {
        added = x.first.tree ∷ rest.added;
        height = max x.first.height rest.height;
        stands = one_more t.0 r.stands rest.stands;
        items = rest.items ∙ append_assoc done (x.first.tree ∷ []) rest.added;
        is_height = rest.is_height ∙ max_assoc h x.first.height rest.height;
        low = omega arith;
      })
      (λ f. subst (λ z. Added more part n done h i z) (some_inj _ _ f.1)
      (record {
        added = [];
        height = 0;
        stands = no_more f.0;
        items = sym (append-nil done);
        is_height = max_zero h;
        low = omega arith;
      }))
      (if_cases (more i) _ _ y e)

  pub many_complete : {h i j : ℕ} {xs : List A} → IsComplete part n read → Many more part h xs i j
      → h ≤ n → (fuel : ℕ) → length xs < fuel → (done : List A) (g : ℕ)
      → many more read fuel done g i ≡ Some (got (done ++ xs) (max g h) j)
  unfolding many
  many_complete complete m low zero few done g = absurd (omega arith)
  many_complete complete (no_more f) low (suc fuel) few done g =
      rw (f, append-nil done, ← max_zero g) refl
  many_complete complete (one_more {h = h} {j = j} {g = g2} {k = k} {x = x} {xs = xs} t p m) low
      (suc fuel) few done g =
      rw (
        t,
        complete.all p (omega arith),
        many_complete {h = g2} {i = j} {j = k} {xs = xs} complete m (omega arith) fuel (omega arith)
            (done ++ x ∷ []) (max g h),
        append_assoc done (x ∷ []) xs,
        max_assoc g h g2,
      ) refl

-- what a reader gives, by its last step
pub got_part : {A : Type 0} (part : Part A) (n i : ℕ) (x : A) (h j : ℕ) (y : Got A)
    → Some (got x h j) ≡ Some y → part h x i j → h ≤ n → IsPart part n i y
got_part part n i x h j y e p l =
    subst (λ z. IsPart part n i z) (some_inj _ _ e) (record { stands = p; low = l })

pub node_part : {A : Type 0} (part : Part A) (d i : ℕ) (x : A) (under j : ℕ) (y : Got A)
    → read.node d x under j ≡ Some y → part (suc under) x i j → IsPart part (suc d) i y
node_part part d i x under j y e p =
    let g = guard_some _ _ _ e in let l : under ≤ d = leb-true _ _ g.0 in
    got_part part (suc d) i x (suc under) j y g.1 p (omega arith)

pub many_count : {A : Type 0} {ts : List Token} {more : ℕ → Bool} {part : Part A} {h i j : ℕ}
    {xs : List A} → Advances ts part → Many more part h xs i j → length xs ≤ length ts - i
many_count a (no_more f) = omega arith
many_count {i = i} a (one_more t p m) =
    let s = a.steps p in let l = s.0 in let l2 = s.1 in let n = many_count a m in omega arith

pub many_moves : {A : Type 0} {ts : List Token} {more : ℕ → Bool} {part : Part A} {h i j : ℕ}
    {xs : List A} → Advances ts part → Many more part h xs i j → i ≤ j
many_moves a (no_more f) = omega arith
many_moves a (one_more t p m) =
    let s = a.steps p in let l = s.0 in let n = many_moves a m in omega arith

module _ {A : Type 0} {more : ℕ → Bool} {part : Part A} {n : ℕ} {reads : Reader A} where
  -- a list with none before it
  pub all_sound : IsSoundWhere more part n reads → (fuel i : ℕ) (y : Got (List A))
      → many more reads fuel [] 0 i ≡ Some y → IsPart (Many more part) n i y
  all_sound s fuel i y e =
      let m = many_sound s fuel [] 0 i y e in
      let low = m.low in let is = m.is_height in
      let none : max 0 m.height ≡ m.height = omega arith in
      record {
        stands = part_at (Many more part) _ _ _ _ i y.stop
            (m.is_height ∙ none) m.items m.stands;
        low = omega arith;
      }

  pub all_complete : {h i j : ℕ} {xs : List A} → IsComplete part n reads → Many more part h xs i j
      → h ≤ n → (fuel : ℕ) → length xs < fuel
      → many more reads fuel [] 0 i ≡ Some (got xs h j)
  all_complete {h = h} c m l fuel few =
      let none : max 0 h ≡ h = omega arith in many_complete c m l fuel few [] 0 ∙ rw none refl

module _ {A : Type 0} {part : Part A} {n : ℕ} {reads : Reader A} where
  pub behind_sound : IsSound part n reads → IsSound (Behind part) n (read.behind reads)
  behind_sound s =
      record {
        gives = λ i x e. let r = s.gives (suc i) x e in record
            { stands = r.stands; low = r.low };
      }

  pub behind_complete : IsComplete part n reads → IsComplete (Behind part) n (read.behind reads)
  behind_complete c = record { all = λ p l. c.all p l }

pub behind_advances : {A : Type 0} {ts : List Token} {part : Part A} → Advances ts part
    → Advances ts (Behind part)
behind_advances a =
    record {
      steps = λ p. let s = a.steps p in let l = s.0 in let l2 = s.1 in
          (omega arith, omega arith);
    }

module _ {A : Type 0} (ts : List Token) {more : ℕ → Bool} {part others : Part A} {n : ℕ}
    {reads rest : Reader A} where
  pub several_sound : IsSound part n reads → IsSound others n rest
      → IsSound (Several more part others) n (read.several ts more reads rest)
  several_sound s o = record {
    gives = λ i y e.
        let x = bind_some _ _ _ e in let r = s.gives _ _ x.is in
        let m = many_sound (anywhere o) _ _ _ _ y x.next in
        let low = r.low in let low2 = m.low in let is = m.is_height in
        record {
          stands = part_at (Several more part others) _ _ _ _ i y.stop m.is_height m.items
              (several r.stands m.stands);
          low = omega arith;
        };
  }

  pub several_complete : IsComplete part n reads → IsComplete others n rest → Advances ts others
      → IsComplete (Several more part others) n (read.several ts more reads rest)
  several_complete c o a = record { all = λ p l. several_all p l }
    where
      several_all : {h i j : ℕ} {xs : List A} → Several more part others h xs i j → h ≤ n
          → read.several ts more reads rest i ≡ Some (got xs h j)
      several_all (several {h = h} {x = x} p m) l =
          let few = many_count a m in
          rw (
            c.all p (omega arith),
            many_complete o m (omega arith) (suc (length ts)) (omega arith)
                (x ∷ []) h,
          ) refl

pub several_steps : {A : Type 0} {ts : List Token} {more : ℕ → Bool} {part others : Part A}
    {h i j : ℕ} {xs : List A} → Advances ts part → Advances ts others
    → Several more part others h xs i j → (i < j) × (i < length ts)
several_steps a o (several p m) =
    let s = a.steps p in let l = s.0 in
    let l2 = s.1 in let k = many_moves o m in (omega arith, omega arith)

pub several_advances : {A : Type 0} {ts : List Token} {more : ℕ → Bool} {part others : Part A}
    → Advances ts part → Advances ts others → Advances ts (Several more part others)
several_advances a o = record { steps = λ p. several_steps a o p }

module _ {A : Type 0} (ts : List Token) (c : Sign) {part : Part A} {n : ℕ} {reads : Reader A} where
  pub led_sound : IsSound part n reads → IsSound (Led ts c part) n (read.led ts c reads)
  led_sound s = record {
    gives = λ i y e. ⊎_elim
        (λ t. let x = bind_some _ _ _ t.1 in let r = s.gives _ _ x.is in
        subst (λ z. IsPart (Led ts c part) n i z) (some_inj _ _ x.next)
        (record { stands = led (sees_true ts c i t.0) r.stands; low = r.low }))
        (λ f. subst (λ z. IsPart (Led ts c part) n i z) (some_inj _ _ f.1)
        (record { stands = left_out f.0; low = omega arith }))
        (if_cases (sees ts c i) _ _ y e);
  }

  pub led_complete : IsComplete part n reads → IsComplete (Led ts c part) n (read.led ts c reads)
  led_complete k = record { all = λ p l. led_all k p l }
    where
      led_all : IsComplete part n reads → {h i j : ℕ} {x : Option A} → Led ts c part h x i j → h ≤ n
          → read.led ts c reads i ≡ Some (got x h j)
      led_all k (left_out f) l = rw f refl
      led_all k (led {i = i} e p) l = rw (true_sees ts c i e, k.all p l) refl

  pub up_to_sound : IsSound part n reads → IsSound (UpTo ts c part) n (read.up_to ts c reads)
  up_to_sound s = record {
    gives = λ i y e. ⊎_elim
        (λ t. subst (λ z. IsPart (UpTo ts c part) n i z) (some_inj _ _ t.1)
        (record { stands = none_up_to (sees_true ts c i t.0); low = omega arith }))
        (λ f. let x = bind_some _ _ _ f.1 in let g = guard_some _ _ _ x.next in
        let r = (several_sound ts s (behind_sound s)).gives i x.first x.is in
        subst (λ z. IsPart (UpTo ts c part) n i z) (some_inj _ _ g.1)
        (record { stands = some_up_to f.0 r.stands (sees_true ts c _ g.0); low = r.low }))
        (if_cases (sees ts c i) _ _ y e);
  }

  pub up_to_complete : IsComplete part n reads → Advances ts part
      → IsComplete (UpTo ts c part) n (read.up_to ts c reads)
  up_to_complete k a = record { all = λ p l. up_to_all k a p l }
    where
      up_to_all : IsComplete part n reads → Advances ts part → {h i j : ℕ} {xs : List A}
          → UpTo ts c part h xs i j → h ≤ n → read.up_to ts c reads i ≡ Some (got xs h j)
      up_to_all k a (none_up_to {i = i} e) l = rw (true_sees ts c i e) refl
      up_to_all k a (some_up_to {j = j} f p e) l =
          rw (
            f,
            (several_complete ts k (behind_complete k) (behind_advances a)).all p l,
            true_sees ts c j e,
          ) refl
