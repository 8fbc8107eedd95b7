-- What is known of each function while the calls are searched, along a path of calls from main or a
-- public function on.
use Rattle.std.specs.Prelude.{◌≡◌, ◌⊎◌, ◌+◌, ◌*◌, ◌<◌, ◌≤◌, ℕ, List, [], ◌∷◌, ◌++◌, Option, None}
use Rattle.std.specs.Prelude.{Some, Bool, true, false, Contains, length, slice_get, sum_by, nat_lt}
use Rattle.std.specs.Prelude.{if◌then◌else◌}
use Rattle.pawn_meaning.specs.Program.{Program}
use Rattle.pawn_usage.specs.declared.search.Progress.{Progress}
use Rattle.pawn_usage.specs.declared.search.Progress.TheVariants.{Fresh, Open, Closed}
use Rattle.pawn_usage.specs.declared.search.Mark.{Mark}
use Rattle.pawn_usage.specs.declared.search.Search.{Search}
use Rattle.pawn_usage.specs.Chains.{Calls, IsChain, starts, called_at, need_at}
use Rattle.pawn_usage.specs.IsUsage.{IsRecursion}

-- the calls that were not looked at, those with a lesser index
abbrev pub left : Progress → ℕ
left (Fresh count) = count
left (Open count) = count
left Closed = 0

-- how far the search of a function is
abbrev pub stage : Progress → ℕ
stage (Fresh count) = 0
stage (Open count) = 1
stage Closed = 2

-- so by its mark, a function that isn't there being done
abbrev pub stage_of : Option Mark → ℕ
stage_of None = 2
stage_of (Some mark) = stage mark.progress

-- and by its number
abbrev pub stage_at : List Mark → ℕ → ℕ
stage_at marks f = stage_of (slice_get marks f)

-- the mark of a function whose search isn't done, with its calls that were not looked at
abbrev pub IsOpenMark : List Mark → ℕ → Option (Mark × ℕ) → Type 0
IsOpenMark marks f None = stage_at marks f ≡ 1 → ⊥
IsOpenMark marks f (Some it) = (slice_get marks f ≡ Some it.0) × (it.0.progress ≡ Open it.1)

-- the cells of a function and all that it calls
abbrev pub cells_of : Option Mark → ℕ
cells_of None = 0
cells_of (Some mark) = mark.cells

-- by its number
abbrev pub cells_at : List Mark → ℕ → ℕ
cells_at marks f = cells_of (slice_get marks f)

-- the call by which a function needs its cells
abbrev pub next_of : Option Mark → Option ℕ
next_of None = None
next_of (Some mark) = mark.next

-- by its number
abbrev pub next_at : List Mark → ℕ → Option ℕ
next_at marks f = next_of (slice_get marks f)

-- a mark with a call, where the function needs more cells by it
abbrev pub with_call : Mark → ℕ → ℕ → Mark
with_call mark cells callee =
    if nat_lt mark.cells cells then record mark { cells = cells; next = Some callee } else mark

-- the steps that the search of a function still takes
abbrev pub steps_left : Progress → ℕ
steps_left (Fresh count) = count + 2
steps_left (Open count) = count + 1
steps_left Closed = 0

-- a path, and what is still to do, in no more than so many steps
abbrev pub work_left : Search → ℕ
work_left search = 2 * sum_by (λ (mark : Mark). steps_left mark.progress) search.marks.items
    + length search.path.items

module _ (program : Program) where
  -- a callee was searched, and what it needs was taken into account
  abbrev pub IsBelow : List Mark → ℕ → ℕ → ℕ → Type 0
  IsBelow marks need cells g = (mark : Mark) → slice_get marks g ≡ Some mark
      → (mark.progress ≡ Closed) × (need + mark.cells ≤ cells)

  -- the cells are the function's own, or with those of a callee
  abbrev pub LeadsTo : List Mark → ℕ → ℕ → Option ℕ → Type 0
  LeadsTo marks f cells None = cells ≡ need_at program f
  LeadsTo marks f cells (Some g) =
      Calls program f g × (stage_at marks g ≡ 2) × (cells ≡ need_at program f + cells_at marks g)

  -- each call that was looked at leads to a function that needs less by the caller's own need
  pub record IsMarked (marks : List Mark) (f : ℕ) (mark : Mark) : Type 0 where
    pub own : need_at program f ≤ mark.cells
    pub callees : (i g : ℕ) → slice_get (called_at program f) i ≡ Some g → left mark.progress ≤ i
        → IsBelow marks (need_at program f) mark.cells g
    pub next : LeadsTo marks f mark.cells mark.next

  -- the marks are so, and the path is a chain that has each function whose search isn't done
  pub record IsSearch (marks : List Mark) (path : List ℕ) : Type 0 where
    pub count : length marks ≡ length program.functions
    pub marked : (f : ℕ) (mark : Mark) → slice_get marks f ≡ Some mark → IsMarked marks f mark
    pub is_path : (path ≡ []) ⊎ IsChain program path
    pub open_in : (f : ℕ) → stage_at marks f ≡ 1 → Contains path f

-- no search goes back
abbrev pub GoesOn : List Mark → List Mark → Type 0
GoesOn old new = (f : ℕ) → stage_at old f ≤ stage_at new f

-- the path ends with a function
pub record EndsWith (path : List ℕ) (last : ℕ) : Type 0 where
  pub before : List ℕ
  pub is : path ≡ before ++ last ∷ []

-- a call of the last function of the path is looked at: the call with this index, which leads to the
-- callee, and the mark that the function has then
pub record IsAtCall (program : Program) (search : Search) (top : ℕ) (now : Mark) (callee : Option ℕ)
    : Type 0 where
  pub is : IsSearch program search.marks.items search.path.items
  pub ends : EndsWith search.path.items top
  pub mark : Mark
  pub there : slice_get search.marks.items top ≡ Some mark
  pub index : ℕ
  pub is_open : mark.progress ≡ Open (index + 1)
  pub now_is : now ≡ record mark { progress = Open index }
  pub callee_is : callee ≡ slice_get (called_at program top) index

-- nothing was come to yet
pub record IsFirst (program : Program) (f : ℕ) (mark : Mark) : Type 0 where
  pub progress : mark.progress ≡ Fresh (length (called_at program f))
  pub cells : mark.cells ≡ need_at program f
  pub next : mark.next ≡ None

-- a search with no path
pub record IsAtRest (program : Program) (search : Search) : Type 0 where
  pub is : IsSearch program search.marks.items []
  pub no_path : search.path.items ≡ []

-- a step at the end of a path, behind which there is less to do
pub record IsStep (program : Program) (old new : Search) : Type 0 where
  pub is : IsSearch program new.marks.items new.path.items
  pub goes_on : GoesOn old.marks.items new.marks.items
  pub less : work_left new < work_left old

-- or the path comes back to one of its functions
abbrev pub Steps : Program → Search → Search → Bool → Type 0
Steps program old new true = IsRecursion program new.path.items
Steps program old new false = IsStep program old new

-- all that can be come to from a function was searched, and what was searched before still is
pub record IsVisited (program : Program) (start : ℕ) (old new : Search) : Type 0 where
  pub rests : IsAtRest program new
  pub done : stage_at new.marks.items start ≡ 2
  pub goes_on : GoesOn old.marks.items new.marks.items

-- or the path comes back to one of its functions
abbrev pub Visits : Program → ℕ → Search → Search → Bool → Type 0
Visits program start old new true = IsRecursion program new.path.items
Visits program start old new false = IsVisited program start old new

-- a path begins with a function, or that was searched before
pub record IsOpened (program : Program) (start : ℕ) (old new : Search) : Type 0 where
  pub is : IsSearch program new.marks.items new.path.items
  pub goes_on : GoesOn old.marks.items new.marks.items
  pub is_open : 1 ≤ stage_at new.marks.items start

-- with an answer that tells which of both
abbrev pub Opens : Program → ℕ → Search → Search → Bool → Type 0
Opens program start old new true = IsOpened program start old new
Opens program start old new false = IsVisited program start old new

-- all that can be come to from main and the public functions was searched
pub record IsExplored (program : Program) (search : Search) : Type 0 where
  pub is : IsSearch program search.marks.items []
  pub done : (f : ℕ) → Contains (starts program) f → stage_at search.marks.items f ≡ 2

-- or the path comes back to one of its functions
abbrev pub Explores : Program → Search → Bool → Type 0
Explores program new true = IsRecursion program new.path.items
Explores program new false = IsExplored program new

-- of some functions one that needs the most cells
pub record IsGreatest (search : Search) (fs : List ℕ) (greatest : ℕ) : Type 0 where
  pub among : Contains fs greatest
  pub most : (f : ℕ) → Contains fs f
      → cells_at search.marks.items f ≤ cells_at search.marks.items greatest
