-- Classifiers and automata by computation.
use Rattle.std.specs.Prelude.{◌≡◌, ℕ, List, [], ◌∷◌, map, codes, true, false, None, Some, refl}
use Rattle.pawn_tree.specs.declared.name.At.{At}
use Rattle.pawn_tree.specs.declared.name.Name as n
use Rattle.pawn_tree.specs.declared.name.StateName.{StateName}
use Rattle.pawn_tree.specs.declared.declaration.HeadName.TheVariants as called
use Rattle.pawn_tree.specs.Statements as s
use Rattle.pawn_tree.specs.Declarations.{Decl, Function, Tree}
use Rattle.pawn_tags.specs.Tags.{first_names}
use Rattle.types_rules.specs.Clauses.{clause, is_mixed}
use Rattle.types_rules.specs.Keys.{Named, Enters}
use Rattle.types_rules.specs.Groups.{Group, written, groups, grouped, entry_fallback}
use Rattle.types_rules.specs.Automata.{automata, classified, entered}
use Rattle.types_rules.specs.Routes.{route}

abbrev at : At
at = record { token = 0; place = record { file = 0; line = 1 } }

abbrev name : List ℕ → n.Name
name bytes = record { at = at; bytes = bytes }

abbrev state : List ℕ → StateName
state bytes = record { automaton = None; state = name bytes }

abbrev of : List ℕ → List ℕ → StateName
of automaton bytes = record { automaton = Some (name automaton); state = name bytes }

abbrev body : List ℕ → List StateName → Decl
body bytes states = Function at (record {
  is_static = false;
  is_stock = false;
  is_public = false;
  head = record { tag = None; name = called.Name (name bytes); params = [] };
  states = Some states;
  body = s.Empty at;
})

-- `<a:s, t>` is of automaton a; `<a:s, b:t>` and `<s, a:t>` are of two
clauses : clause (of (codes "a") (codes "s") ∷ state (codes "t") ∷ [])
    ≡ record { automaton = codes "a"; states = codes "s" ∷ codes "t" ∷ [] }
clauses = refl

mixed : map is_mixed (
    (of (codes "a") (codes "s") ∷ state (codes "t") ∷ [])
    ∷ (of (codes "a") (codes "s") ∷ of (codes "b") (codes "t") ∷ [])
    ∷ (state (codes "s") ∷ of (codes "a") (codes "t") ∷ []) ∷ [])
    ≡ false ∷ true ∷ true ∷ []
mixed = refl

-- `f() <a:s>`, `g() <>`, `f() <>`, `entry() <a:t>`, `entry() <>`: the first fallback is the
-- anonymous automaton's, the last one that of a
abbrev source : Tree
source =
    body (codes "f") (of (codes "a") (codes "s") ∷ []) ∷ body (codes "g") [] ∷ body (codes "f") []
    ∷ body (codes "entry") (of (codes "a") (codes "t") ∷ []) ∷ body (codes "entry") [] ∷ []

keys : map (λ (group : Group). group.key) (groups first_names source)
    ≡ Named (codes "f") ∷ Named (codes "g") ∷ Enters (codes "a") ∷ []
unfolding grouped
keys = refl

all : automata first_names (entry_fallback source) (groups first_names source) (written source)
    ≡ record { name = codes "a"; states = codes "s" ∷ codes "t" ∷ []; enter = Some 2 }
    ∷ record { name = []; states = []; enter = None } ∷ []
unfolding grouped classified entered
all = refl

-- the fallback of entry functions that name several automata is the anonymous one's
several : entry_fallback (body (codes "entry") (of (codes "a") (codes "s") ∷ [])
    ∷ body (codes "entry") (of (codes "b") (codes "s") ∷ []) ∷ [])
    ≡ []
several = refl

routes : route (record { name = codes "a"; states = codes "s" ∷ codes "t" ∷ []; enter = None } ∷ [])
    (clause (of (codes "a") (codes "t") ∷ []) ∷ clause [] ∷ [])
    ≡ record { automaton = 0; cases = (1, 0) ∷ []; fallback = Some 1 }
routes = refl
