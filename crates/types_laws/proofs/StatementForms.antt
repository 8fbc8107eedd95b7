-- Each kind of statement is valid where its parts are.
use Rattle.std.proofs.Common.{◌≡◌, ◌+◌, ◌≤◌, ℕ, List, [], ◌∷◌, ◌++◌, Bool, true, refl, sym, ap, ◌∙◌}
use Rattle.std.proofs.Common.{subst, arith}
use Rattle.std.specs.Prelude.{length}
use Rattle.std.proofs.lemmas.List.{append-nil, length-append}
use Rattle.pawn_meaning.specs.Program.{Stmt, Slot, StaticObject}
use Rattle.pawn_meaning.specs.Valid.{numbers_from}
use Rattle.pawn_meaning.specs.ValidStmts.{slots_made, slots_made_by, all_slots_made}
use Rattle.pawn_meaning.specs.ValidStmts.{all_slots_made_else, all_slots_made_in, all_slots_made_by}
use Rattle.pawn_meaning.specs.ValidStmts.{IsValidStmt}
use Rattle.types_rules.specs.Around.{Around}
use Rattle.types_rules.specs.Points.{Point, inside}
use Rattle.types_rules.specs.Stood.{Stood, stmts_in, one_of}
use Rattle.types_rules.specs.Statements.{Used, Maybe, Other, Cased, block_rule, if_rule, while_rule}
use Rattle.types_rules.specs.Statements.{do_while_rule, for_rule, switch_rule}
use Rattle.types_rules.proofs.StatementLaws.{MadeStood}
use Rattle.types_laws.specs.Known.{KnowsAround}
use Rattle.types_laws.specs.ValidExpressions.{ExpressionsAreValid}
use Rattle.types_laws.specs.Objects.{Each, IsGoodObject}
use Rattle.types_laws.specs.Plain.{HasTags}
use Rattle.types_laws.proofs.Facts.{each_append}
use Rattle.types_laws.specs.Sits.{Sits}
use Rattle.types_laws.specs.Seen.{IsSeenPath}
use Rattle.types_laws.specs.ValidStatements.{IsGoodSlot}
use Rattle.types_laws.proofs.ListPartLaws.{sits_left, sits_right, sits_at, numbers_joined}
use Rattle.types_laws.proofs.SeenLaws.{seen_inside}
use Rattle.types_laws.proofs.Bodies.{Place, scope_at, Here, SoundStatements, StandsSound}
use Rattle.types_laws.proofs.StatementParts.{OneIn, SubIn, OtherIn, CasedIn, UsedIn, MaybeIn}
use Rattle.types_laws.proofs.StatementParts.{UsedFine, MaybeFine, CasedFine, sub_in}

module _ (law : ExpressionsAreValid) (place : Place) (cx : Around) (Calls : List ℕ → Type 0)
    (known : KnowsAround place.program cx) (tags : HasTags cx) (result : ℕ) where
  -- one statement that makes nothing for those behind it
  pub record OneSound (in_loop : Bool) (point : Point) (stmts : List Stmt) (slots : List Slot)
      (objects : List StaticObject) : Type 0 where
    pub sound : (made : List ℕ) → Here place cx Calls made point
        → Sits place.program.objects point.objects objects → Sits place.slots point.slots slots
        → OneIn place made point.slots in_loop stmts slots objects

  pub record OtherFine (point : Point) (in_loop : Bool) (m n : ℕ) (it : Other) : Type 0 where
    pub counts : MadeStood m n it.stood
    pub sound : (made : List ℕ) → Here place cx Calls made point
        → Sits place.program.objects point.objects it.stood.objects
        → Sits place.slots point.slots it.stood.slots
        → OtherIn place made point.slots in_loop it

  abbrev Fits : ℕ → List StaticObject → Type 0
  Fits o xs = Sits place.program.objects o xs

  abbrev Takes : ℕ → List Slot → Type 0
  Takes s xs = Sits place.slots s xs

  -- the same behind nothing more than objects
  pub moved : (made : List ℕ) (point there : Point) → Here place cx Calls made point
      → there.scope ≡ point.scope → place.params ≤ there.slots → Here place cx Calls made there
  moved made point there here e low =
      record {
        path = subst (λ path. IsSeenPath (scope_at place made) cx Calls path) (sym e) here.path;
        low = low;
      }

  pub other_in : (in_loop : Bool) (m n : ℕ) (point : Point) (it : Other)
      → OtherFine point in_loop m n it → (made : List ℕ) (o s : ℕ)
      → IsSeenPath (scope_at place made) cx Calls point.scope → place.params ≤ s
      → o ≡ point.objects → s ≡ point.slots → Fits o it.stood.objects → Takes s it.stood.slots
      → OtherIn place made s in_loop it
  other_in in_loop m n point it p made o s path low eo es fits slots =
      let r : OtherIn place made point.slots in_loop it =
      p.sound made (record { path = path; low = omega (arith, low, es) })
      (sits_at place.program.objects o point.objects it.stood.objects eo fits)
      (sits_at place.slots s point.slots it.stood.slots es slots) in
      record {
        valid = r.valid;
        made_is = r.made_is ∙ ap (λ m. numbers_from m (length it.stood.slots)) (sym es);
        slots = r.slots;
        objects = r.objects;
      }

  -- a statement that holds no other
  pub simple_one : (in_loop : Bool) (point : Point) (s : Stmt) (objects : List StaticObject)
      → slots_made s ≡ [] → all_slots_made s ≡ []
      → ((made : List ℕ) → Here place cx Calls made point → Each IsGoodObject objects
      × (Fits point.objects objects → IsValidStmt (scope_at place made) in_loop true s))
      → OneSound in_loop point (s ∷ []) [] objects
  simple_one in_loop point s objects e f k = record {
    sound = λ made here fits slots.
        let p = k made here in
        record {
          valid = (p.1 fits, tt);
          all_made = ap (λ (l : List ℕ). l ++ []) f;
          slots_good = tt;
          objects_good = p.0;
          unmade = ap (λ (l : List ℕ). l ++ []) e;
        };
  }

  pub block_one : (in_loop : Bool) (point to : Point) (x : Stood)
      → StandsSound place cx Calls in_loop (inside point) to x
      → OneSound in_loop point (block_rule x).stmts x.slots x.objects
  block_one in_loop point to x p = record {
    sound = λ made here fits slots.
        let r : SoundStatements place cx Calls made (inside point) in_loop to x =
        p.sound made (record {
          path = seen_inside cx Calls (scope_at place made) point.scope here.path;
          low = here.low;
        }) fits slots in
        record {
          valid = (r.valid, tt);
          all_made = append-nil (all_slots_made_by (stmts_in x.stmts)) ∙ r.all_made;
          slots_good = r.slots;
          objects_good = r.objects;
          unmade = refl;
        };
  }

  pub while_one : (in_loop : Bool) (point there to : Point) (n : ℕ) (c : Used) (x : Stood)
      → UsedFine law place cx Calls known tags result point n c
      → StandsSound place cx Calls true there to x
      → there.scope ≡ point.scope → there.objects ≡ point.objects + n → there.slots ≡ point.slots
      → OneSound in_loop point (while_rule c x).stmts x.slots (c.objects ++ x.objects)
  while_one in_loop point there to n c x u p e eo es = record {
    sound = λ made here fits slots.
        let v : UsedIn place made point.objects n c = u.fine made here in
        let r : SubIn place made point.slots true x =
        sub_in law place cx Calls known tags result true there to x p made
        (point.objects + length c.objects) point.slots
        (subst (λ path. IsSeenPath (scope_at place made) cx Calls path) (sym e) here.path) here.low
        (ap (λ m. point.objects + m) v.count ∙ sym eo) (sym es)
        (sits_right place.program.objects point.objects c.objects x.objects fits) slots in
        record {
          valid = (
            (
              v.valid (sits_left place.program.objects point.objects c.objects x.objects fits),
              r.valid,
            ),
            tt,
          );
          all_made = append-nil (all_slots_made (one_of x)) ∙ r.made_is;
          slots_good = r.slots;
          objects_good = each_append IsGoodObject c.objects x.objects v.objects r.objects;
          unmade = refl;
        };
  }

  pub do_while_one : (in_loop : Bool) (point there to : Point) (k m n : ℕ) (x : Stood) (c : Used)
      → StandsSound place cx Calls true point to x → MadeStood k m x
      → UsedFine law place cx Calls known tags result there n c
      → there.scope ≡ point.scope → there.objects ≡ point.objects + m
      → there.slots ≡ point.slots + k
      → OneSound in_loop point (do_while_rule x c).stmts (x.slots ++ []) (x.objects ++ c.objects)
  do_while_one in_loop point there to k m n x c p counts u e eo es = record {
    sound = λ made here fits slots.
        let v : UsedIn place made there.objects n c =
        u.fine made (moved made point there here e (omega (arith, here.low, es))) in
        let r : SubIn place made point.slots true x =
        sub_in law place cx Calls known tags result true point to x p made point.objects point.slots
        here.path here.low refl refl
        (sits_left place.program.objects point.objects x.objects c.objects fits)
        (sits_left place.slots point.slots x.slots [] slots) in
        record {
          valid = (
            (
              r.valid,
              v.valid
                  (sits_at place.program.objects (point.objects + length x.objects) there.objects
                  c.objects (ap (λ z. point.objects + z) counts.objects ∙ sym eo)
                  (sits_right place.program.objects point.objects x.objects c.objects fits)),
            ),
            tt,
          );
          all_made = append-nil (all_slots_made (one_of x)) ∙ r.made_is
              ∙ ap (λ (l : List Slot). numbers_from point.slots (length l))
              (sym (append-nil x.slots));
          slots_good = each_append IsGoodSlot x.slots [] r.slots tt;
          objects_good = each_append IsGoodObject x.objects c.objects r.objects v.objects;
          unmade = refl;
        };
  }

  -- all numbers of a part and of what stands behind it
  numbers_of_both : (made more : List ℕ) (first : ℕ) (xs ys : List Slot)
      → made ≡ numbers_from first (length xs) → more ≡ numbers_from (first + length xs) (length ys)
      → made ++ more ≡ numbers_from first (length (xs ++ ys))
  numbers_of_both made more first xs ys e f =
      numbers_joined made more first (length xs) (length ys) e f
      ∙ ap (λ z. numbers_from first z) (sym (length-append xs ys))

  -- the objects of a value, of a part and of what stands behind it
  good_objects : (xs ys zs : List StaticObject) → Each IsGoodObject xs → Each IsGoodObject ys
      → Each IsGoodObject zs → Each IsGoodObject (xs ++ (ys ++ zs))
  good_objects xs ys zs h k l =
      each_append IsGoodObject xs (ys ++ zs) h (each_append IsGoodObject ys zs k l)

  -- a value, a statement or cases, and what stands behind them
  pub if_one : (in_loop : Bool) (point there to last : Point) (k m n i j : ℕ) (c : Used) (x : Stood)
      (other : Other) → UsedFine law place cx Calls known tags result point n c
      → StandsSound place cx Calls in_loop there to x → MadeStood k m x
      → OtherFine last in_loop i j other
      → there.scope ≡ point.scope → there.objects ≡ point.objects + n → there.slots ≡ point.slots
      → last.scope ≡ point.scope → last.objects ≡ point.objects + n + m
      → last.slots ≡ point.slots + k
      → OneSound in_loop point (if_rule c x other).stmts (x.slots ++ other.stood.slots)
      (c.objects ++ (x.objects ++ other.stood.objects))
  if_one in_loop point there to last k m n i j c x other u p counts q e eo es e2 eo2 es2 = record {
    sound = λ made here fits slots.
        let v : UsedIn place made point.objects n c = u.fine made here in
        let more = sits_right place.program.objects point.objects c.objects
        (x.objects ++ other.stood.objects) fits in
        let r : SubIn place made point.slots in_loop x =
        sub_in law place cx Calls known tags result in_loop there to x p made
        (point.objects + length c.objects) point.slots
        (subst (λ path. IsSeenPath (scope_at place made) cx Calls path) (sym e) here.path) here.low
        (ap (λ z. point.objects + z) v.count ∙ sym eo) (sym es)
        (sits_left place.program.objects _ x.objects other.stood.objects more)
        (sits_left place.slots point.slots x.slots other.stood.slots slots) in
        let o : OtherIn place made (point.slots + length x.slots) in_loop other =
        other_in in_loop i j last other q made
        (point.objects + length c.objects + length x.objects) (point.slots + length x.slots)
        (subst (λ path. IsSeenPath (scope_at place made) cx Calls path) (sym e2) here.path)
        (omega (arith, here.low)) (omega (arith, v.count, counts.objects, eo2))
        (omega (arith, counts.slots, es2))
        (sits_right place.program.objects _ x.objects other.stood.objects more)
        (sits_right place.slots point.slots x.slots other.stood.slots slots) in
        let c_valid = v.valid (sits_left place.program.objects point.objects c.objects _ fits) in
        record {
          valid = ((c_valid, r.valid, o.valid), tt);
          all_made = append-nil (all_slots_made (one_of x) ++ all_slots_made_else other.other)
              ∙ numbers_of_both _ _ point.slots x.slots other.stood.slots r.made_is o.made_is;
          slots_good = each_append IsGoodSlot x.slots other.stood.slots r.slots o.slots;
          objects_good = good_objects c.objects x.objects other.stood.objects v.objects r.objects
              o.objects;
          unmade = refl;
        };
  }

  pub switch_one : (in_loop : Bool) (point there last : Point) (cs : _) (n i j : ℕ) (c : Used)
      (it : Cased) (other : Other) → UsedFine law place cx Calls known tags result point n c
      → CasedFine law place cx Calls known tags result there in_loop cs it
      → OtherFine last in_loop i j other
      → there.scope ≡ point.scope → there.objects ≡ point.objects + n → there.slots ≡ point.slots
      → last.scope ≡ point.scope
      → last.objects ≡ point.objects + n + length it.stood.objects
      → last.slots ≡ point.slots + length it.stood.slots
      → OneSound in_loop point (switch_rule c it other).stmts (it.stood.slots ++ other.stood.slots)
      (c.objects ++ (it.stood.objects ++ other.stood.objects))
  switch_one in_loop point there last cs n i j c it other u p q e eo es e2 eo2 es2 = record {
    sound = λ made here fits slots.
        let x : Stood = it.stood in
        let v : UsedIn place made point.objects n c = u.fine made here in
        let more = sits_right place.program.objects point.objects c.objects
        (x.objects ++ other.stood.objects) fits in
        let r : CasedIn place made there.slots in_loop it =
        p.sound made (moved made point there here e (omega (arith, here.low, es)))
        (sits_at place.program.objects (point.objects + length c.objects) there.objects x.objects
        (ap (λ z. point.objects + z) v.count ∙ sym eo)
        (sits_left place.program.objects _ x.objects other.stood.objects more))
        (sits_at place.slots point.slots there.slots x.slots (sym es)
        (sits_left place.slots point.slots x.slots other.stood.slots slots)) in
        let o : OtherIn place made (point.slots + length x.slots) in_loop other =
        other_in in_loop i j last other q made
        (point.objects + length c.objects + length x.objects) (point.slots + length x.slots)
        (subst (λ path. IsSeenPath (scope_at place made) cx Calls path) (sym e2) here.path)
        (omega (arith, here.low)) (omega (arith, v.count, eo2)) (sym es2)
        (sits_right place.program.objects _ x.objects other.stood.objects more)
        (sits_right place.slots point.slots x.slots other.stood.slots slots) in
        let c_valid = v.valid (sits_left place.program.objects point.objects c.objects _ fits) in
        record {
          valid = ((c_valid, r.valid, o.valid), tt);
          all_made = append-nil (all_slots_made_in it.cases ++ all_slots_made_else other.other)
              ∙ numbers_of_both _ _ point.slots x.slots other.stood.slots
              (r.made_is ∙ ap (λ z. numbers_from z (length x.slots)) es) o.made_is;
          slots_good = each_append IsGoodSlot x.slots other.stood.slots r.slots o.slots;
          objects_good = good_objects c.objects x.objects other.stood.objects v.objects r.objects
              o.objects;
          unmade = refl;
        };
  }

  -- what is done first, the condition, the step and the body
  pub for_one : (in_loop : Bool) (point inner then body to : Point) (j k : ℕ) (first : Stood)
      (c step : Maybe) (x : Stood) → StandsSound place cx Calls in_loop (inside point) inner first
      → MaybeFine law place cx Calls known tags result inner j c
      → MaybeFine law place cx Calls known tags result then k step
      → StandsSound place cx Calls true body to x
      → then.scope ≡ inner.scope → then.objects ≡ inner.objects + j → then.slots ≡ inner.slots
      → body.scope ≡ inner.scope → body.objects ≡ inner.objects + j + k
      → body.slots ≡ inner.slots
      → OneSound in_loop point (for_rule first c step x).stmts (first.slots ++ x.slots)
      (first.objects ++ ((c.objects ++ step.objects) ++ x.objects))
  for_one in_loop point inner then body to j k first c step x p u w q e eo es e2 eo2 es2 = record {
    sound = λ made here fits slots.
        let f : SoundStatements place cx Calls made (inside point) in_loop inner first =
        p.sound made (record {
          path = seen_inside cx Calls (scope_at place made) point.scope here.path;
          low = here.low;
        }) (sits_left place.program.objects point.objects first.objects _ fits)
        (sits_left place.slots point.slots first.slots x.slots slots) in
        let now : List ℕ = made ++ slots_made_by (stmts_in first.stmts) in
        let more = sits_right place.program.objects point.objects first.objects
        ((c.objects ++ step.objects) ++ x.objects) fits in
        let values = sits_left place.program.objects _ (c.objects ++ step.objects) x.objects more in
        let a : MaybeIn place now inner.objects j c = u.fine now f.behind in
        let b : MaybeIn place now then.objects k step =
        w.fine now (moved now inner then f.behind e (omega (arith, f.behind.low, es))) in
        let r : SubIn place now (point.slots + length first.slots) true x =
        sub_in law place cx Calls known tags result true body to x q now
        (point.objects + length first.objects + length (c.objects ++ step.objects))
        (point.slots + length first.slots)
        (subst (λ path. IsSeenPath (scope_at place now) cx Calls path) (sym e2) f.behind.path)
        (omega (arith, here.low))
        (omega (arith, f.at_objects, a.count, b.count, eo2, length-append c.objects step.objects))
        (sym f.at_slots ∙ sym es2)
        (sits_right place.program.objects _ (c.objects ++ step.objects) x.objects more)
        (sits_right place.slots point.slots first.slots x.slots slots) in
        record {
          valid = (
            (
              f.valid,
              a.valid
                  (sits_at place.program.objects (point.objects + length first.objects)
                  inner.objects c.objects (sym f.at_objects)
                  (sits_left place.program.objects _ c.objects step.objects values)),
              b.valid
                  (sits_at place.program.objects
                  (point.objects + length first.objects + length c.objects) then.objects
                  step.objects (omega (arith, f.at_objects, a.count, eo))
                  (sits_right place.program.objects _ c.objects step.objects values)),
              r.valid,
            ),
            tt,
          );
          all_made =
              append-nil (all_slots_made_by (stmts_in first.stmts) ++ all_slots_made (one_of x))
              ∙ numbers_joined _ _ point.slots (length first.slots) (length x.slots) f.all_made
              r.made_is
              ∙ ap (λ z. numbers_from point.slots z) (sym (length-append first.slots x.slots));
          slots_good = each_append IsGoodSlot first.slots x.slots f.slots r.slots;
          objects_good = each_append IsGoodObject first.objects _ f.objects
              (each_append IsGoodObject (c.objects ++ step.objects) x.objects
              (each_append IsGoodObject c.objects step.objects a.objects b.objects) r.objects);
          unmade = refl;
        };
  }
