-- What each step of a search does.
use Rattle.std.proofs.Common.{◌≡◌, ◌⊎◌, inl, inr, ◌+◌, ◌-◌, ◌≤◌, ℕ, List, [], ◌∷◌}
use Rattle.std.proofs.Common.{◌++◌, Option, None, Some, Bool, true, false, refl, sym, ap, subst, ◌∙◌}
use Rattle.std.proofs.Common.{arith, length, take, slice_get, slice_set, length-append}
use Rattle.std.specs.Prelude.{Contains, sum_by, nat_lt, if◌then◌else◌}
use Rattle.std.proofs.lemmas.Bool.{ltb-true, ltb-false}
use Rattle.std.proofs.lemmas.List.{length-set, take_at, take_all, take_more}
use Rattle.std.proofs.lemmas.List.Elements.{Contains-append_left, Contains-push}
use Rattle.std.proofs.lemmas.List.Elements.{Contains-push_cases}
use Rattle.std.proofs.lemmas.Option.{slice_get_within, get_or_from_slice_get}
use Rattle.pawn_meaning.specs.Program.{Program}
use Rattle.pawn_usage.specs.declared.search.Progress.TheVariants.{Fresh, Open, Closed}
use Rattle.pawn_usage.specs.declared.search.Mark.{Mark}
use Rattle.pawn_usage.specs.declared.search.Search.{Search}
use Rattle.pawn_usage.specs.Chains.{Calls, IsStart, IsChain, starts, called_at, need_at}
use Rattle.pawn_usage.specs.IsUsage.{IsRecursion}
use Rattle.pawn_usage.specs.Marks.{left, stage, stage_of, stage_at, cells_of, steps_left}
use Rattle.pawn_usage.specs.Marks.{IsBelow, LeadsTo, IsMarked, IsSearch, GoesOn, EndsWith}
use Rattle.pawn_usage.specs.Marks.{IsStep, IsAtCall, IsAtRest, IsOpened, with_call}
use Rattle.pawn_usage.proofs.ChainLaws.{chain_on, chain_front}
use Rattle.pawn_usage.proofs.MarkLaws.{IsChange, all_marked, goes_on, steps_change, stage_here}
use Rattle.pawn_usage.proofs.MarkLaws.{elsewhere, same_or, some_is, none_clash}

-- ---- paths

pub ends_with : (path : List ℕ) (top : ℕ) → slice_get path (length path - 1) ≡ Some top
    → EndsWith path top
ends_with path top e =
    let lt = slice_get_within path (length path - 1) top e in
    let more = take_more path (length path - 1) top lt in
    let all : take (length path - 1 + 1) path ≡ path = take_all _ path (omega arith) in
    record {
      before = take (length path - 1) path;
      is =
          sym all ∙ more
          ∙ ap (λ x. take (length path - 1) path ++ x ∷ [])
          (get_or_from_slice_get path (length path - 1) top top e);
    }

before_is : (path : List ℕ) (top : ℕ) (ends : EndsWith path top)
    → take (length path - 1) path ≡ ends.before
before_is path top ends =
    let count : length ends.before ≡ length path - 1 =
    omega (arith, ap length ends.is, length-append ends.before (top ∷ [])) in
    ap (λ xs. take (length path - 1) xs) ends.is
    ∙ take_at ends.before (top ∷ []) (length path - 1) count

module _ (program : Program) where
  path_chain : (path : List ℕ) (top : ℕ) (ends : EndsWith path top)
      → (path ≡ []) ⊎ IsChain program path → IsChain program (ends.before ++ top ∷ [])
  path_chain path top ends (inl none) =
      absurd (omega (
        arith,
        ap length none,
        ap length ends.is,
        length-append ends.before (top ∷ []),
      ))
  path_chain path top ends (inr chain) = subst (IsChain program) ends.is chain

  front_path : (before : List ℕ) (top : ℕ) → IsChain program (before ++ top ∷ [])
      → (before ≡ []) ⊎ IsChain program before
  front_path [] top chain = inl refl
  front_path (f ∷ fs) top chain = inr (chain_front program f fs top chain)

  longer_path : (path : List ℕ) (top callee : ℕ) (ends : EndsWith path top)
      → (path ≡ []) ⊎ IsChain program path → Calls program top callee
      → IsChain program (path ++ callee ∷ [])
  longer_path path top callee ends is_path call =
      subst (λ xs. IsChain program (xs ++ callee ∷ [])) (sym ends.is)
      (chain_on program ends.before top callee (path_chain path top ends is_path) call)

  -- ---- the last function leaves the path

  -- its search being done, or never begun
  pub leaves : (old new : Search) (top : ℕ) (marks : List Mark)
      → EndsWith old.path.items top
      → IsSearch program old.marks.items old.path.items
      → ((g : ℕ) (mark : Mark) → slice_get marks g ≡ Some mark → IsMarked program marks g mark)
      → length marks ≡ length old.marks.items
      → ((g : ℕ) → stage_at marks g ≡ 1 → (stage_at old.marks.items g ≡ 1) × (g ≡ top → ⊥))
      → GoesOn old.marks.items marks
      → sum_by (λ (mark : Mark). steps_left mark.progress) marks
      ≤ sum_by (λ (mark : Mark). steps_left mark.progress) old.marks.items
      → new.marks.items ≡ marks
      → new.path.items ≡ take (length old.path.items - 1) old.path.items
      → IsStep program old new
  leaves old new top marks ends is marked count open_in on less marks_are path_is =
      let front : new.path.items ≡ ends.before =
      path_is ∙ before_is old.path.items top ends in
      let long : length old.path.items ≡ length ends.before + 1 =
      omega (arith, ap length ends.is, length-append ends.before (top ∷ [])) in
      let search : IsSearch program marks ends.before =
      record {
        count = count ∙ is.count;
        marked = marked;
        is_path = front_path ends.before top
            (path_chain old.path.items top ends is.is_path);
        open_in = λ g is_open.
            let o = open_in g is_open in
            let c : Contains (ends.before ++ top ∷ []) g =
            subst (λ xs. Contains xs g) ends.is (is.open_in g o.0) in
            by_place g o.1 (Contains-push_cases ends.before top g c);
      } in
      record {
        is =
            subst (λ ms. IsSearch program ms new.path.items) (sym marks_are)
            (subst (IsSearch program marks) (sym front) search);
        goes_on = subst (GoesOn old.marks.items) (sym marks_are) on;
        less = omega (
          arith,
          less,
          long,
          ap length front,
          ap (sum_by (λ (mark : Mark). steps_left mark.progress)) marks_are,
        );
      }
    where
      by_place : (g : ℕ) → (g ≡ top → ⊥) → Contains ends.before g ⊎ (top ≡ g)
          → Contains ends.before g
      by_place g differs (inl c) = c
      by_place g differs (inr same) = absurd (differs (sym same))

  -- a function that isn't open
  pub leaves_as_it_is : (old new : Search) (top : ℕ) → EndsWith old.path.items top
      → IsSearch program old.marks.items old.path.items
      → (stage_at old.marks.items top ≡ 1 → ⊥)
      → new.marks.items ≡ old.marks.items
      → new.path.items ≡ take (length old.path.items - 1) old.path.items
      → IsStep program old new
  leaves_as_it_is old new top ends is differs marks_are path_is =
      leaves old new top old.marks.items ends is is.marked refl
      (λ g is_open. (
        is_open,
        λ same. differs (ap (stage_at old.marks.items) (sym same) ∙ is_open),
      ))
      (λ g. omega arith) (omega arith) marks_are path_is

  -- a function all of whose calls were looked at
  pub closes : (old new : Search) (top : ℕ) (mark : Mark) → EndsWith old.path.items top
      → IsSearch program old.marks.items old.path.items
      → slice_get old.marks.items top ≡ Some mark → mark.progress ≡ Open 0
      → new.marks.items ≡ slice_set old.marks.items top (record mark { progress = Closed })
      → new.path.items ≡ take (length old.path.items - 1) old.path.items
      → IsStep program old new
  closes old new top mark ends is there is_open marks_are path_is =
      let marks = old.marks.items in
      let closed : Mark = record mark { progress = Closed } in
      let m = is.marked top mark there in
      let none : left mark.progress ≡ 0 = ap left is_open in
      let at : stage mark.progress ≡ 1 = ap stage is_open in
      let steps : steps_left mark.progress ≡ 1 = ap steps_left is_open in
      let change : IsChange program marks top mark closed =
      record {
        there = there;
        undone = omega (arith, at);
        on = omega (arith, at);
        now_is = record {
          own = m.own;
          callees = λ i g e l. m.callees i g e (omega (arith, none));
          next = m.next;
        };
      } in
      leaves old new top (slice_set marks top closed) ends is
      (all_marked program marks top mark closed change is.marked)
      (length-set marks top closed)
      (λ g open_now. open_before change g open_now (same_or g top))
      (goes_on program marks top mark closed change)
      (omega (arith, steps_change program marks top mark closed change, steps))
      marks_are path_is
    where
      open_before : IsChange program old.marks.items top mark (record mark { progress = Closed })
          → (g : ℕ)
          → stage_at (slice_set old.marks.items top (record mark { progress = Closed })) g ≡ 1
          → (g ≡ top) ⊎ (g ≡ top → ⊥)
          → (stage_at old.marks.items g ≡ 1) × (g ≡ top → ⊥)
      open_before change g open_now (inl same) =
          let here =
          stage_here program old.marks.items top mark (record mark { progress = Closed }) change in
          let now =
          ap (stage_at (slice_set old.marks.items top (record mark { progress = Closed }))) same in
          absurd (omega (arith, open_now, here, now))
      open_before change g open_now (inr differs) = (
        sym (ap stage_of (elsewhere program old.marks.items top mark
            (record mark { progress = Closed }) change g differs)) ∙ open_now,
        differs,
      )

  -- ---- a call is looked at

  -- the last function of the path gets another mark, with one call less
  module _ (old new : Search) (top : ℕ) (mark now : Mark) (index : ℕ)
      (is : IsSearch program old.marks.items old.path.items)
      (there : slice_get old.marks.items top ≡ Some mark)
      (is_open : mark.progress ≡ Open (index + 1)) (open_now : now.progress ≡ Open index)
      (now_is : IsMarked program old.marks.items top now)
      (marks_are : new.marks.items ≡ slice_set old.marks.items top now)
      (path_is : new.path.items ≡ old.path.items) where
    looked_change : IsChange program old.marks.items top mark now
    looked_change = record {
      there = there;
      undone = omega (arith, ap stage is_open);
      on = omega (arith, ap stage is_open, ap stage open_now);
      now_is = now_is;
    }

    still_open : (g : ℕ) → stage_at (slice_set old.marks.items top now) g ≡ 1
        → (g ≡ top) ⊎ (g ≡ top → ⊥) → stage_at old.marks.items g ≡ 1
    still_open g open_then (inl same) =
        ap (stage_at old.marks.items) same ∙ ap stage_of there ∙ ap stage is_open
    still_open g open_then (inr differs) =
        sym (ap stage_of (elsewhere program old.marks.items top mark now looked_change g differs))
        ∙ open_then

    pub looks : IsStep program old new
    looks =
        let search : IsSearch program (slice_set old.marks.items top now) old.path.items =
        record {
          count = length-set old.marks.items top now ∙ is.count;
          marked = all_marked program old.marks.items top mark now looked_change is.marked;
          is_path = is.is_path;
          open_in = λ g o. is.open_in g (still_open g o (same_or g top));
        } in
        record {
          is =
              subst (λ ms. IsSearch program ms new.path.items) (sym marks_are)
              (subst (IsSearch program (slice_set old.marks.items top now)) (sym path_is) search);
          goes_on =
              subst (GoesOn old.marks.items) (sym marks_are)
              (goes_on program old.marks.items top mark now looked_change);
          less = omega (
            arith,
            steps_change program old.marks.items top mark now looked_change,
            ap steps_left is_open,
            ap steps_left open_now,
            ap length path_is,
            ap (sum_by (λ (mark : Mark). steps_left mark.progress)) marks_are,
          );
        }

  -- what a mark says stays so with one call less, where what the call needs is taken into account
  looked_marked : (marks : List Mark) (top : ℕ) (mark now : Mark) (index : ℕ)
      → IsMarked program marks top mark → mark.progress ≡ Open (index + 1)
      → now.progress ≡ Open index → mark.cells ≤ now.cells
      → ((g : ℕ) → slice_get (called_at program top) index ≡ Some g
      → IsBelow program marks (need_at program top) now.cells g)
      → LeadsTo program marks top now.cells now.next → IsMarked program marks top now
  looked_marked marks top mark now index m is_open open_now more below next = record {
    own = omega (arith, m.own, more);
    callees = λ i g e l. by_index i g e l (nat_lt index i) refl;
    next = next;
  }
    where
      by_index : (i g : ℕ) → slice_get (called_at program top) i ≡ Some g → left now.progress ≤ i
          → (b : Bool) → nat_lt index i ≡ b
          → IsBelow program marks (need_at program top) now.cells g
      by_index i g e l true lt =
          let later : left mark.progress ≤ i = omega (arith, ap left is_open, ltb-true index i lt) in
          λ it there.
          let b = m.callees i g e later it there in (b.0, omega (arith, b.1, more))
      by_index i g e l false ge =
          let same : i ≡ index = omega (arith, ap left open_now, l, ltb-false index i ge) in
          below g (subst (λ k. slice_get (called_at program top) k ≡ Some g) same e)

  -- ---- the ways of a call

  pub callee_there : (marks : List Mark) (path : List ℕ) (top callee index : ℕ) (called : Mark)
      → IsSearch program marks path → slice_get (called_at program top) index ≡ Some callee
      → slice_get marks callee ≡ Some called → Calls program top callee
  callee_there marks path top callee index called is e there = record {
    there = omega (arith, slice_get_within marks callee called there, is.count);
    called = (
      index,
      slice_get_within (called_at program top) index callee e,
      get_or_from_slice_get (called_at program top) index callee callee e,
    );
  }

  -- it leads to no function
  pub looks_past : (old new : Search) (top : ℕ) (now : Mark) (callee : Option ℕ)
      → IsAtCall program old top now callee
      → ((g : ℕ) → callee ≡ Some g → slice_get old.marks.items g ≡ None)
      → new.marks.items ≡ slice_set old.marks.items top now → new.path.items ≡ old.path.items
      → IsStep program old new
  looks_past old new top now callee at absent marks_are path_is =
      let m = at.is.marked top at.mark at.there in
      let same_cells : now.cells ≡ at.mark.cells = ap (λ (x : Mark). x.cells) at.now_is in
      let same_next : now.next ≡ at.mark.next = ap (λ (x : Mark). x.next) at.now_is in
      let open_now : now.progress ≡ Open at.index = ap (λ (x : Mark). x.progress) at.now_is in
      looks old new top at.mark now at.index at.is at.there at.is_open open_now
      (looked_marked old.marks.items top at.mark now at.index m at.is_open open_now
      (omega (arith, same_cells))
      (λ g e it there.
      absurd (none_clash it (sym (absent g (at.callee_is ∙ e)) ∙ there)))
      (subst (λ c. LeadsTo program old.marks.items top c now.next) (sym same_cells)
      (subst (λ o. LeadsTo program old.marks.items top at.mark.cells o) (sym same_next) m.next)))
      marks_are path_is

  -- it leads to a function whose search is done
  pub looks_at_done : (old new : Search) (top : ℕ) (now : Mark) (callee cells : ℕ) (called : Mark)
      → IsAtCall program old top now (Some callee)
      → slice_get old.marks.items callee ≡ Some called → called.progress ≡ Closed
      → cells ≡ need_at program top + called.cells
      → new.marks.items ≡ slice_set old.marks.items top (with_call now cells callee)
      → new.path.items ≡ old.path.items → IsStep program old new
  looks_at_done old new top now callee cells called at there closed cells_are marks_are path_is =
      by_cells (nat_lt now.cells cells) refl
    where
      m : IsMarked program old.marks.items top at.mark
      m = at.is.marked top at.mark at.there

      same_cells : now.cells ≡ at.mark.cells
      same_cells = ap (λ (x : Mark). x.cells) at.now_is

      same_next : now.next ≡ at.mark.next
      same_next = ap (λ (x : Mark). x.next) at.now_is

      open_now : now.progress ≡ Open at.index
      open_now = ap (λ (x : Mark). x.progress) at.now_is

      -- with as many cells as the callee wants
      below : (c : ℕ) → cells ≤ c → (g : ℕ) → slice_get (called_at program top) at.index ≡ Some g
          → IsBelow program old.marks.items (need_at program top) c g
      below c enough g e it found =
          let same : callee ≡ g = some_is callee g (at.callee_is ∙ e) in
          let is : called ≡ it =
          some_is called it (sym there ∙ ap (slice_get old.marks.items) same ∙ found) in (
            ap (λ (x : Mark). x.progress) (sym is) ∙ closed,
            omega (arith, ap (λ (x : Mark). x.cells) is, cells_are, enough),
          )

      by_cells : (b : Bool) → nat_lt now.cells cells ≡ b → IsStep program old new
      by_cells true more =
          let greater : Mark = record now { cells = cells; next = Some callee } in
          let is_greater : with_call now cells callee ≡ greater = rw more refl in
          looks old new top at.mark greater at.index at.is at.there at.is_open open_now
          (looked_marked old.marks.items top at.mark greater at.index m at.is_open open_now
          (omega (arith, ltb-true now.cells cells more, same_cells))
          (below cells (omega arith)) (
            callee_there old.marks.items old.path.items top callee at.index called at.is
                (sym at.callee_is) there,
            ap stage_of there ∙ ap stage closed,
            cells_are ∙ ap (λ o. need_at program top + cells_of o) (sym there),
          ))
          (marks_are ∙ ap (slice_set old.marks.items top) is_greater) path_is
      by_cells false less =
          let is_now : with_call now cells callee ≡ now = rw less refl in
          looks old new top at.mark now at.index at.is at.there at.is_open open_now
          (looked_marked old.marks.items top at.mark now at.index m at.is_open open_now
          (omega (arith, same_cells))
          (below now.cells (ltb-false now.cells cells less))
          (subst (λ c. LeadsTo program old.marks.items top c now.next) (sym same_cells)
          (subst (λ o. LeadsTo program old.marks.items top at.mark.cells o) (sym same_next) m.next)))
          (marks_are ∙ ap (slice_set old.marks.items top) is_now) path_is

  -- a function that was not come to is put at the end of the path
  module _ (old new : Search) (f count : ℕ) (mark : Mark)
      (is : IsSearch program old.marks.items old.path.items)
      (chain : IsChain program (old.path.items ++ f ∷ []))
      (there : slice_get old.marks.items f ≡ Some mark) (fresh : mark.progress ≡ Fresh count)
      (marks_are :
      new.marks.items ≡ slice_set old.marks.items f (record mark { progress = Open count }))
      (path_is : new.path.items ≡ old.path.items ++ f ∷ []) where
    abbrev opened : Mark
    opened = record mark { progress = Open count }

    fresh_change : IsChange program old.marks.items f mark opened
    fresh_change =
        let m = is.marked f mark there in
        record {
          there = there;
          undone = omega (arith, ap stage fresh);
          on = omega (arith, ap stage fresh);
          now_is = record {
            own = m.own;
            callees = λ i g e l. m.callees i g e (omega (arith, l, ap left fresh));
            next = m.next;
          };
        }

    in_path : (g : ℕ) → stage_at (slice_set old.marks.items f opened) g ≡ 1
        → (g ≡ f) ⊎ (g ≡ f → ⊥) → Contains (old.path.items ++ f ∷ []) g
    in_path g is_open (inl same) =
        subst (λ x. Contains (old.path.items ++ f ∷ []) x) (sym same)
        (Contains-push old.path.items f)
    in_path g is_open (inr differs) =
        Contains-append_left old.path.items (f ∷ []) g
        (is.open_in g
        (sym (ap stage_of (elsewhere program old.marks.items f mark opened fresh_change g differs))
        ∙ is_open))

    pub opens : IsStep program old new
    opens =
        let search : IsSearch program (slice_set old.marks.items f opened)
        (old.path.items ++ f ∷ []) =
        record {
          count = length-set old.marks.items f opened ∙ is.count;
          marked = all_marked program old.marks.items f mark opened fresh_change is.marked;
          is_path = inr chain;
          open_in = λ g o. in_path g o (same_or g f);
        } in
        record {
          is =
              subst (λ ms. IsSearch program ms new.path.items) (sym marks_are)
              (subst (IsSearch program (slice_set old.marks.items f opened)) (sym path_is) search);
          goes_on =
              subst (GoesOn old.marks.items) (sym marks_are)
              (goes_on program old.marks.items f mark opened fresh_change);
          less = omega (
            arith,
            steps_change program old.marks.items f mark opened fresh_change,
            ap steps_left fresh,
            ap length path_is,
            length-append old.path.items (f ∷ []),
            ap (sum_by (λ (mark : Mark). steps_left mark.progress)) marks_are,
          );
        }

    pub opened_stage : stage_at new.marks.items f ≡ 1
    opened_stage =
        ap (λ ms. stage_at ms f) marks_are
        ∙ stage_here program old.marks.items f mark opened fresh_change

  -- the callee was not come to
  pub looks_at_fresh : (old new : Search) (top : ℕ) (now : Mark) (callee count : ℕ) (called : Mark)
      → IsAtCall program old top now (Some callee)
      → slice_get old.marks.items callee ≡ Some called → called.progress ≡ Fresh count
      → new.marks.items ≡ slice_set old.marks.items callee (record called { progress = Open count })
      → new.path.items ≡ old.path.items ++ callee ∷ [] → IsStep program old new
  looks_at_fresh old new top now callee count called at there fresh marks_are path_is =
      opens old new callee count called at.is
      (longer_path old.path.items top callee at.ends at.is.is_path
      (callee_there old.marks.items old.path.items top callee at.index called at.is
      (sym at.callee_is) there))
      there fresh marks_are path_is

  -- the callee stands on the path
  pub comes_back : (old : Search) (path : List ℕ) (top : ℕ) (now : Mark) (callee : ℕ) (called : Mark)
      → IsAtCall program old top now (Some callee)
      → slice_get old.marks.items callee ≡ Some called → stage called.progress ≡ 1
      → path ≡ old.path.items ++ callee ∷ [] → IsRecursion program path
  comes_back old path top now callee called at there is_open path_is =
      subst (IsRecursion program) (sym path_is) (record {
        is_chain =
            longer_path old.path.items top callee at.ends at.is.is_path
            (callee_there old.marks.items old.path.items top callee at.index called at.is
            (sym at.callee_is) there);
        recursive = record {
          earlier = old.path.items;
          last = callee;
          is = refl;
          again = at.is.open_in callee (ap stage_of there ∙ is_open);
        };
      })

  -- the call that a step looks at
  pub at_call : (old : Search) (top left : ℕ) (mark now : Mark) (callee : Option ℕ)
      → IsSearch program old.marks.items old.path.items → EndsWith old.path.items top
      → slice_get old.marks.items top ≡ Some mark → mark.progress ≡ Open left → 1 ≤ left
      → now ≡ record mark { progress = Open (left - 1) }
      → callee ≡ slice_get (called_at program top) (left - 1)
      → IsAtCall program old top now callee
  at_call old top left mark now callee is ends there is_open some now_is callee_is = record {
    is = is;
    ends = ends;
    mark = mark;
    there = there;
    index = left - 1;
    is_open = is_open ∙ ap (λ n. Open n) (omega (arith, some));
    now_is = now_is;
    callee_is = callee_is;
  }

  -- a path begins with a function that was not come to
  pub begins : (old new : Search) (start count : ℕ) (mark : Mark) → IsAtRest program old
      → Contains (starts program) start → slice_get old.marks.items start ≡ Some mark
      → mark.progress ≡ Fresh count
      → new.marks.items ≡ slice_set old.marks.items start (record mark { progress = Open count })
      → new.path.items ≡ old.path.items ++ start ∷ [] → IsOpened program start old new
  begins old new start count mark rests started there fresh marks_are path_is =
      let is : IsSearch program old.marks.items old.path.items =
      subst (IsSearch program old.marks.items) (sym rests.no_path) rests.is in
      let is_start : IsStart program start =
      record {
        there = omega (arith, slice_get_within old.marks.items start mark there, is.count);
        started = started;
      } in
      let chain : IsChain program (old.path.items ++ start ∷ []) =
      subst (λ xs. IsChain program (xs ++ start ∷ [])) (sym rests.no_path) (is_start, tt) in
      let step = opens old new start count mark is chain there fresh marks_are path_is in
      let stage_is =
      opened_stage old new start count mark is chain there fresh marks_are path_is in
      record { is = step.is; goes_on = step.goes_on; is_open = omega (arith, stage_is) }
