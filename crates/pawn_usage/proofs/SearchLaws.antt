-- What a whole search finds.
use Rattle.std.proofs.Common.{◌≡◌, ◌⊎◌, inl, inr, ◌+◌, ◌-◌, ◌<◌, ◌≤◌, ℕ, zero, suc, List, [], ◌∷◌}
use Rattle.std.proofs.Common.{◌++◌, Option, None, Some, Bool, true, false, refl, sym, ap, subst, ◌∙◌}
use Rattle.std.proofs.Common.{arith, length, slice_get, length-append}
use Rattle.std.specs.Prelude.{Contains, nat_lt}
use Rattle.std.proofs.lemmas.Bool.{ltb-true, ltb-false}
use Rattle.std.proofs.lemmas.List.Elements.{Contains-push, Contains-push_cases, Contains-append_cases}
use Rattle.std.proofs.lemmas.Option.{slice_get_within, slice_get-get_or, get_or_from_slice_get}
use Rattle.pawn_meaning.specs.Program.{Function, Program}
use Rattle.pawn_usage.specs.declared.search.Progress.{Progress}
use Rattle.pawn_usage.specs.declared.search.Progress.TheVariants.{Fresh, Open, Closed}
use Rattle.pawn_usage.specs.declared.search.Mark.{Mark}
use Rattle.pawn_usage.specs.declared.search.Search.{Search}
use Rattle.pawn_usage.specs.Chains.{Calls, IsStart, Follows, IsChain, IsRecursive, starts, called_at}
use Rattle.pawn_usage.specs.Chains.{need_of, need_at, chain_need}
use Rattle.pawn_usage.specs.IsUsage.{HasStart, IsBound}
use Rattle.pawn_usage.specs.Marks.{left, stage, stage_of, stage_at, cells_of, cells_at, next_of}
use Rattle.pawn_usage.specs.Marks.{next_at, LeadsTo, IsMarked, IsSearch, GoesOn, IsFirst, IsAtRest}
use Rattle.pawn_usage.specs.Marks.{IsVisited, IsOpened, IsStep, IsExplored, IsGreatest}
use Rattle.pawn_usage.proofs.ChainLaws.{chain_on, need_append}
use Rattle.pawn_usage.proofs.MarkLaws.{stage_closed, some_is, none_clash}

-- ---- small things

stage_small : (p : Progress) → stage p ≤ 2
stage_small (Fresh n) = omega arith
stage_small (Open n) = omega arith
stage_small Closed = omega arith

stage_of_small : (o : Option Mark) → stage_of o ≤ 2
stage_of_small None = omega arith
stage_of_small (Some mark) = stage_small mark.progress

pub at_most : (marks : List Mark) (f : ℕ) → stage_at marks f ≤ 2
at_most marks f = stage_of_small (slice_get marks f)

-- what stands in a list of known length
pub record Found {A : Type 0} (xs : List A) (i : ℕ) : Type 0 where
  pub it : A
  pub is : slice_get xs i ≡ Some it

pub found : {A : Type 0} (xs : List A) (i : ℕ) → i < length xs → Found xs i
found [] i lt = absurd (omega (arith, lt))
found (x ∷ xs) zero lt = record { it = x; is = refl }
found (x ∷ xs) (suc i) lt =
    let rest = found xs i (omega (arith, lt)) in record { it = rest.it; is = rest.is }

in_none : (g : ℕ) → Contains [] g → ⊥
in_none g c = absurd (omega (arith, c.1))

-- the last of no functions
pub none_last : (path : List ℕ) → slice_get path (length path - 1) ≡ None → path ≡ []
none_last [] e = refl
none_last (f ∷ fs) e =
    let it = found (f ∷ fs) (length (f ∷ fs) - 1) (omega arith) in
    absurd (none_clash it.it (sym e ∙ it.is))

module _ (program : Program) where
  -- a function needs three cells at least
  need_some : (o : Option Function) (function : Function) → o ≡ Some function → 1 ≤ need_of o
  need_some None function e = absurd (none_clash function e)
  need_some (Some it) function e = omega arith

  pub need_positive : (f : ℕ) → f < length program.functions → 1 ≤ need_at program f
  need_positive f lt =
      let it = found program.functions f lt in need_some (slice_get program.functions f) it.it it.is

  -- ---- where a search begins

  pub first_search : (marks : List Mark) → length marks ≡ length program.functions
      → ((f : ℕ) (mark : Mark) → slice_get marks f ≡ Some mark → IsFirst program f mark)
      → IsSearch program marks []
  first_search marks count first = record {
    count = count;
    marked = λ f mark e. first_mark f mark (first f mark e);
    is_path = inl refl;
    open_in = λ f is_open. absurd (not_open f (slice_get marks f) refl is_open);
  }
    where
      first_mark : (f : ℕ) (mark : Mark) → IsFirst program f mark → IsMarked program marks f mark
      first_mark f mark is = record {
        own = omega (arith, is.cells);
        callees = λ i g e l. absurd (omega (
          arith,
          l,
          ap left is.progress,
          slice_get_within (called_at program f) i g e,
        ));
        next = subst (λ o. LeadsTo program marks f mark.cells o) (sym is.next) is.cells;
      }

      not_open : (f : ℕ) (o : Option Mark) → slice_get marks f ≡ o → stage_of (slice_get marks f) ≡ 1
          → ⊥
      not_open f None e is_open = absurd (omega (arith, sym (ap stage_of e) ∙ is_open))
      not_open f (Some mark) e is_open =
          absurd (omega (arith, sym (ap stage_of e) ∙ is_open, ap stage (first f mark e).progress))

  -- ---- from one function on

  pub goes_on_more : (a b c : List Mark) → GoesOn a b → GoesOn b c → GoesOn a c
  goes_on_more a b c h k g = omega (arith, h g, k g)

  pub opened_more : (start : ℕ) (old mid new : Search) → IsOpened program start old mid
      → IsStep program mid new → IsOpened program start old new
  opened_more start old mid new o step = record {
    is = step.is;
    goes_on = goes_on_more old.marks.items mid.marks.items new.marks.items o.goes_on step.goes_on;
    is_open = omega (arith, o.is_open, step.goes_on start);
  }

  -- nothing is open where the path has come to its end
  none_open : (marks : List Mark) → IsSearch program marks [] → (f : ℕ) → 1 ≤ stage_at marks f
      → stage_at marks f ≡ 2
  none_open marks is f h = by_stage (stage_at marks f) refl
    where
      by_stage : (n : ℕ) → stage_at marks f ≡ n → stage_at marks f ≡ 2
      by_stage zero e = absurd (omega (arith, e, h))
      by_stage (suc zero) e = absurd (in_none f (is.open_in f e))
      by_stage (suc (suc n)) e = omega (arith, e, at_most marks f)

  pub visited : (start : ℕ) (old new : Search) → IsOpened program start old new
      → new.path.items ≡ [] → IsVisited program start old new
  visited start old new o none =
      let is : IsSearch program new.marks.items [] =
      subst (IsSearch program new.marks.items) none o.is in
      record {
        rests = record { is = is; no_path = none };
        done = none_open new.marks.items is start o.is_open;
        goes_on = o.goes_on;
      }

  -- a function that was searched before, or that isn't there
  pub visited_before : (start : ℕ) (old : Search) → IsAtRest program old
      → 1 ≤ stage_at old.marks.items start → IsVisited program start old old
  visited_before start old rests h = record {
    rests = rests;
    done = none_open old.marks.items rests.is start h;
    goes_on = λ g. omega arith;
  }

  -- ---- what is known where all was searched

  record Below (marks : List Mark) (f g : ℕ) : Type 0 where
    done : stage_at marks g ≡ 2
    less : need_at program f + cells_at marks g ≤ cells_at marks f

  module _ (marks : List Mark) (is : IsSearch program marks []) where
    own_cells : (f : ℕ) → f < length program.functions → need_at program f ≤ cells_at marks f
    own_cells f lt =
        let it = found marks f (omega (arith, lt, is.count)) in
        omega (arith, (is.marked f it.it it.is).own, ap cells_of it.is)

    call_below : (f g : ℕ) → f < length program.functions → stage_at marks f ≡ 2
        → Calls program f g → Below marks f g
    call_below f g lt done call =
        let it = found marks f (omega (arith, lt, is.count)) in
        let other = found marks g (omega (arith, call.there, is.count)) in
        let closed : it.it.progress ≡ Closed =
        stage_closed it.it.progress (sym (ap stage_of it.is) ∙ done) in
        let e : slice_get (called_at program f) call.called.0 ≡ Some g =
        slice_get-get_or (called_at program f) call.called.0 g call.called.1
        ∙ ap (λ x. Some x) call.called.2 in
        let b = (is.marked f it.it it.is).callees call.called.0 g e
        (omega (arith, ap left closed)) other.it other.is in
        record {
          done = ap stage_of other.is ∙ ap stage b.0;
          less = omega (arith, b.1, ap cells_of it.is, ap cells_of other.is);
        }

    -- no chain needs more than is known of its first function
    path_need : (f : ℕ) (gs : List ℕ) → f < length program.functions → stage_at marks f ≡ 2
        → Follows program f gs → chain_need program (f ∷ gs) ≤ cells_at marks f
    path_need f [] lt done h = omega (arith, own_cells f lt)
    path_need f (g ∷ gs) lt done h =
        let b = call_below f g lt done h.0 in
        omega (arith, path_need g gs h.0.there b.done h.1, b.less)

    falls_by : (f x : ℕ) (xs : List ℕ) (g : ℕ) → Below marks f x → 1 ≤ need_at program f
        → Contains (x ∷ []) g ⊎ Contains xs g → (Contains xs g → cells_at marks g < cells_at marks x)
        → cells_at marks g < cells_at marks f
    falls_by f x xs g b some (inr later) rest = omega (arith, rest later, b.less)
    falls_by f x xs g b some (inl here) rest = by_first (Contains-push_cases [] x g here)
      where
        by_first : Contains [] g ⊎ (x ≡ g) → cells_at marks g < cells_at marks f
        by_first (inl none) = absurd (in_none g none)
        by_first (inr same) = omega (arith, b.less, some, ap (cells_at marks) same)

    -- what is known of functions falls along a chain
    falls : (f : ℕ) (gs : List ℕ) (g : ℕ) → f < length program.functions → stage_at marks f ≡ 2
        → Follows program f gs → Contains gs g → cells_at marks g < cells_at marks f
    falls f [] g lt done h c = absurd (in_none g c)
    falls f (x ∷ xs) g lt done h c =
        let b = call_below f x lt done h.0 in
        falls_by f x xs g b (need_positive f lt) (Contains-append_cases (x ∷ []) xs g c)
        (λ later. falls x xs g h.0.there b.done h.1 later)

    return_by : (f : ℕ) (gs : List ℕ) (x : ℕ) (xs : List ℕ) (last : ℕ)
        → (Contains gs last → cells_at marks last < cells_at marks f) → f ≡ x
        → gs ≡ xs ++ last ∷ [] → Contains (x ∷ []) last ⊎ Contains xs last
        → (Contains xs last → ⊥) → ⊥
    return_by f gs x xs last less head tail (inr later) differs = differs later
    return_by f gs x xs last less head tail (inl here) differs =
        by_first (Contains-push_cases [] x last here)
      where
        by_first : Contains [] last ⊎ (x ≡ last) → ⊥
        by_first (inl none) = absurd (in_none last none)
        by_first (inr same) =
            let c : Contains gs last =
            subst (λ ys. Contains ys last) (sym tail) (Contains-push xs last) in
            absurd (omega (arith, less c, ap (cells_at marks) (head ∙ same)))

    no_return : (f : ℕ) (gs : List ℕ) (earlier : List ℕ) (last : ℕ) → f < length program.functions
        → stage_at marks f ≡ 2 → Follows program f gs → f ∷ gs ≡ earlier ++ last ∷ []
        → Contains earlier last → ⊥
    no_return f gs [] last lt done h e c = absurd (in_none last c)
    no_return f [] (x ∷ xs) last lt done h e c =
        absurd (omega (arith, ap length e, length-append xs (last ∷ [])))
    no_return f (y ∷ ys) (x ∷ xs) last lt done h e c =
        let head : f ≡ x = cc in
        let tail : y ∷ ys ≡ xs ++ last ∷ [] = cc in
        let b = call_below f y lt done h.0 in
        return_by f (y ∷ ys) x xs last (falls f (y ∷ ys) last lt done h) head tail
        (Contains-append_cases (x ∷ []) xs last c)
        (λ later. no_return y ys xs last h.0.there b.done h.1 tail later)

  -- ---- the bound

  pub start_there : (search : Search) (fs : List ℕ) (greatest : ℕ) → fs ≡ starts program
      → HasStart program → IsExplored program search → IsGreatest search fs greatest
      → IsStart program greatest
  start_there search fs greatest are has explored is =
      let marks = search.marks.items in
      let in_starts : Contains (starts program) greatest =
      subst (λ xs. Contains xs greatest) are is.among in
      let some : 1 ≤ cells_at marks greatest =
      omega (
        arith,
        is.most has.start (subst (λ xs. Contains xs has.start) (sym are) has.is.started),
        own_cells marks explored.is has.start has.is.there,
        need_positive has.start has.is.there,
      ) in
      record { there = by_mark marks (slice_get marks greatest) refl some explored.is.count; started = in_starts }
    where
      by_mark : (marks : List Mark) (o : Option Mark) → slice_get marks greatest ≡ o
          → 1 ≤ cells_at marks greatest → length marks ≡ length program.functions
          → greatest < length program.functions
      by_mark marks None e some count = absurd (omega (arith, some, ap cells_of e))
      by_mark marks (Some mark) e some count =
          omega (arith, slice_get_within marks greatest mark e, count)

  pub is_bound : (search : Search) (fs chain : List ℕ) (greatest : ℕ) → fs ≡ starts program
      → IsExplored program search → IsGreatest search fs greatest → IsChain program chain
      → chain_need program chain ≡ cells_at search.marks.items greatest
      → IsBound program (cells_at search.marks.items greatest) chain
  is_bound search fs chain greatest are explored is is_chain needs = record {
    is_chain = is_chain;
    needs = needs;
    greatest = λ other h. of_chain other h;
    none_recursive = λ other h r. not_recursive other h r;
  }
    where
      of_chain : (other : List ℕ) → IsChain program other
          → chain_need program other ≤ cells_at search.marks.items greatest
      of_chain [] h = absurd h
      of_chain (f ∷ fs) h = omega (
        arith,
        path_need search.marks.items explored.is f fs h.0.there (explored.done f h.0.started) h.1,
        is.most f (subst (λ xs. Contains xs f) (sym are) h.0.started),
      )

      not_recursive : (other : List ℕ) → IsChain program other → IsRecursive other → ⊥
      not_recursive [] h r = absurd h
      not_recursive (f ∷ fs) h r =
          no_return search.marks.items explored.is f fs r.earlier r.last h.0.there
          (explored.done f h.0.started) h.1 r.is r.again

  -- ---- the chain

  -- a chain from a function on, and what is known of its last one
  pub record IsFollowing (marks : List Mark) (start : ℕ) (chain : List ℕ) (last : ℕ) : Type 0 where
    pub before : List ℕ
    pub is : chain ≡ before ++ last ∷ []
    pub is_chain : IsChain program chain
    pub there : last < length program.functions
    pub needs : chain_need program before + cells_at marks last ≡ cells_at marks start

  pub following_begins : (marks : List Mark) (start : ℕ) → IsStart program start
      → IsFollowing marks start (start ∷ []) start
  following_begins marks start is = record {
    before = [];
    is = refl;
    is_chain = (is, tt);
    there = is.there;
    needs = omega arith;
  }

  record Led (marks : List Mark) (f next : ℕ) : Type 0 where
    call : Calls program f next
    cells : cells_at marks f ≡ need_at program f + cells_at marks next

  module _ (marks : List Mark) (is : IsSearch program marks []) where
    led : (f next : ℕ) → f < length program.functions → next_at marks f ≡ Some next
        → Led marks f next
    led f next lt e =
        let it = found marks f (omega (arith, lt, is.count)) in
        let o : it.it.next ≡ Some next = sym (ap next_of it.is) ∙ e in
        let l = subst (λ o. LeadsTo program marks f it.it.cells o) o (is.marked f it.it it.is).next in
        record { call = l.0; cells = ap cells_of it.is ∙ l.2 }

    pub following_more : (start : ℕ) (chain : List ℕ) (last next : ℕ)
        → IsFollowing marks start chain last → next_at marks last ≡ Some next
        → IsFollowing marks start (chain ++ next ∷ []) next
    following_more start chain last next f e =
        let l = led last next f.there e in
        record {
          before = chain;
          is = refl;
          is_chain =
              subst (λ xs. IsChain program (xs ++ next ∷ [])) (sym f.is)
              (chain_on program f.before last next (subst (IsChain program) f.is f.is_chain) l.call);
          there = l.call.there;
          needs = omega (
            arith,
            f.needs,
            l.cells,
            ap (chain_need program) f.is,
            need_append program f.before (last ∷ []),
          );
        }

    pub following_less : (start : ℕ) (chain : List ℕ) (last next : ℕ)
        → IsFollowing marks start chain last → next_at marks last ≡ Some next
        → cells_at marks next < cells_at marks last
    following_less start chain last next f e =
        let l = led last next f.there e in
        omega (arith, l.cells, need_positive last f.there)

    pub following_ends : (start : ℕ) (chain : List ℕ) (last : ℕ)
        → IsFollowing marks start chain last → next_at marks last ≡ None
        → chain_need program chain ≡ cells_at marks start
    following_ends start chain last f e =
        let it = found marks last (omega (arith, f.there, is.count)) in
        let o : it.it.next ≡ None = sym (ap next_of it.is) ∙ e in
        let l = subst (λ o. LeadsTo program marks last it.it.cells o) o
        (is.marked last it.it it.is).next in
        omega (
          arith,
          f.needs,
          l,
          ap cells_of it.is,
          ap (chain_need program) f.is,
          need_append program f.before (last ∷ []),
        )

-- ---- some functions one after another

contained : (fs : List ℕ) (f : ℕ) (c : Contains fs f) → slice_get fs c.0 ≡ Some f
contained fs f c = slice_get-get_or fs c.0 f c.1 ∙ ap (λ x. Some x) c.2

module _ (program : Program) where
  -- all that can be come to from the first so many was searched
  pub record IsExploring (fs : List ℕ) (i : ℕ) (search : Search) : Type 0 where
    pub rests : IsAtRest program search
    pub done : (k f : ℕ) → k < i → slice_get fs k ≡ Some f → stage_at search.marks.items f ≡ 2

  pub exploring_begins : (fs : List ℕ) (search : Search) → IsAtRest program search
      → IsExploring fs 0 search
  exploring_begins fs search rests =
      record { rests = rests; done = λ k f lt e. absurd (omega (arith, lt)) }

  pub exploring_more : (fs : List ℕ) (i f : ℕ) (old new : Search) → IsExploring fs i old
      → slice_get fs i ≡ Some f → IsVisited program f old new → IsExploring fs (i + 1) new
  exploring_more fs i f old new exploring here visit = record {
    rests = visit.rests;
    done = λ k g lt e. by_place k g lt e (nat_lt k i) refl;
  }
    where
      by_place : (k g : ℕ) → k < i + 1 → slice_get fs k ≡ Some g → (b : Bool) → nat_lt k i ≡ b
          → stage_at new.marks.items g ≡ 2
      by_place k g lt e true before =
          omega (
            arith,
            exploring.done k g (ltb-true k i before) e,
            visit.goes_on g,
            at_most new.marks.items g,
          )
      by_place k g lt e false after =
          let same : k ≡ i = omega (arith, lt, ltb-false k i after) in
          let is : f ≡ g = some_is f g (sym here ∙ ap (slice_get fs) (sym same) ∙ e) in
          ap (stage_at new.marks.items) (sym is) ∙ visit.done

  pub explored : (fs : List ℕ) (i : ℕ) (search : Search) → fs ≡ starts program
      → IsExploring fs i search → length fs ≤ i → IsExplored program search
  explored fs i search are exploring all = record {
    is = exploring.rests.is;
    done = λ f c. of_start f (subst (λ xs. Contains xs f) (sym are) c);
  }
    where
      of_start : (f : ℕ) → Contains fs f → stage_at search.marks.items f ≡ 2
      of_start f c = exploring.done c.0 f (omega (arith, c.1, all)) (contained fs f c)

-- ---- the greatest of some functions

-- the greatest of the first so many
pub record IsGreatestOf (search : Search) (fs : List ℕ) (i greatest : ℕ) : Type 0 where
  pub among : Contains fs greatest
  pub most : (k f : ℕ) → k < i → slice_get fs k ≡ Some f
      → cells_at search.marks.items f ≤ cells_at search.marks.items greatest

pub greatest_begins : (search : Search) (fs : List ℕ) (f : ℕ) → slice_get fs 0 ≡ Some f
    → IsGreatestOf search fs 0 f
greatest_begins search fs f e = record {
  among = (0, slice_get_within fs 0 f e, get_or_from_slice_get fs 0 f f e);
  most = λ k g lt at. absurd (omega (arith, lt));
}

greatest_on : (search : Search) (fs : List ℕ) (i greatest next f : ℕ)
    → IsGreatestOf search fs i greatest → slice_get fs i ≡ Some f → Contains fs next
    → cells_at search.marks.items greatest ≤ cells_at search.marks.items next
    → cells_at search.marks.items f ≤ cells_at search.marks.items next
    → IsGreatestOf search fs (i + 1) next
greatest_on search fs i greatest next f g here among more enough = record {
  among = among;
  most = λ k h lt e. by_place k h lt e (nat_lt k i) refl;
}
  where
    by_place : (k h : ℕ) → k < i + 1 → slice_get fs k ≡ Some h → (b : Bool) → nat_lt k i ≡ b
        → cells_at search.marks.items h ≤ cells_at search.marks.items next
    by_place k h lt e true before =
        omega (arith, g.most k h (ltb-true k i before) e, more)
    by_place k h lt e false after =
        let same : k ≡ i = omega (arith, lt, ltb-false k i after) in
        let is : f ≡ h = some_is f h (sym here ∙ ap (slice_get fs) (sym same) ∙ e) in
        omega (arith, ap (cells_at search.marks.items) is, enough)

pub greatest_new : (search : Search) (fs : List ℕ) (i greatest f : ℕ)
    → IsGreatestOf search fs i greatest → slice_get fs i ≡ Some f
    → cells_at search.marks.items greatest < cells_at search.marks.items f
    → IsGreatestOf search fs (i + 1) f
greatest_new search fs i greatest f g here more =
    greatest_on search fs i greatest f f g here
    (i, slice_get_within fs i f here, get_or_from_slice_get fs i f f here)
    (omega (arith, more)) (omega arith)

pub greatest_old : (search : Search) (fs : List ℕ) (i greatest f : ℕ)
    → IsGreatestOf search fs i greatest → slice_get fs i ≡ Some f
    → cells_at search.marks.items f ≤ cells_at search.marks.items greatest
    → IsGreatestOf search fs (i + 1) greatest
greatest_old search fs i greatest f g here less =
    greatest_on search fs i greatest greatest f g here g.among (omega arith) less

pub greatest_ends : (search : Search) (fs : List ℕ) (i greatest : ℕ)
    → IsGreatestOf search fs i greatest → length fs ≤ i → IsGreatest search fs greatest
greatest_ends search fs i greatest g all = record {
  among = g.among;
  most = λ f c. g.most c.0 f (omega (arith, c.1, all)) (contained fs f c);
}

-- ---- starts

pub some_start : (program : Program) (fs : List ℕ) → fs ≡ starts program → HasStart program
    → fs ≡ [] → ⊥
some_start program fs are has none =
    in_none has.start
    (subst (λ xs. Contains xs has.start) (sym are ∙ none) has.is.started)

pub bounded : (program : Program) (search : Search) (fs chain : List ℕ) (greatest cells : ℕ)
    → fs ≡ starts program → IsExplored program search → IsGreatest search fs greatest
    → IsChain program chain → chain_need program chain ≡ cells_at search.marks.items greatest
    → cells ≡ cells_at search.marks.items greatest → IsBound program cells chain
bounded program search fs chain greatest cells are explored is is_chain needs same =
    subst (λ n. IsBound program n chain) (sym same)
    (is_bound program search fs chain greatest are explored is is_chain needs)
