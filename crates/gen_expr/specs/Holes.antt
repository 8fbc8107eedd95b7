-- The cells of a chain's links that hold where a link leads that doesn't hold: one for each link
-- but the last.
use Rattle.std.specs.Prelude.{◌+◌, ◌*◌, ◌/◌, ◌<◌, ℕ, ℤ, pos, List, [], ◌∷◌, length}
use Rattle.pawn_meaning.specs.Program.{Links, no_links, then_link}
use Rattle.pawn_meaning.specs.Scope.{Scope}
use Rattle.gen_sim.specs.Items.{past}
use Rattle.gen_sim.specs.ChainCode.{link_code, fail_at, chain_end_code}
use Rattle.gen_laws.specs.ExprCode.{value_items, others_at}
use Rattle.gen_expr.specs.Built.{Built, with_items}
use Rattle.gen_expr.specs.Filled.{filled}

-- of a link, by whether others stand behind it
abbrev pub holes_with : ℕ → Links → List ℕ → List ℕ
holes_with at no_links others = []
holes_with at (then_link o e f swapped links) others = at ∷ others

-- of links that begin at an address
abbrev pub holes_of : Scope → ℕ → Links → List ℕ
holes_of scope begin no_links = []
holes_of scope begin (then_link o e f swapped links) =
    let operand = value_items scope (begin + 4) e in
    let link = link_code o f swapped in
    holes_with (past (past (begin + 4) operand + 4 + 4) link / 4 + 1) links
    (holes_of scope (others_at begin operand link) links)

-- each of some cells holds the same
abbrev pub all_filled : List ℕ → ℤ → Built → Built
all_filled [] v b = b
all_filled (at ∷ holes) v b = all_filled holes v (filled at v b)

-- they are cells of so many
abbrev pub AreIn : ℕ → List ℕ → Type 0
AreIn count [] = Unit {0}
AreIn count (at ∷ holes) = (at < count) × AreIn count holes

-- links whose jumps are all led to the end of their chain, where there are jumps
abbrev pub ended_by : List ℕ → Built → Built
ended_by [] b = b
ended_by (at ∷ holes) b =
    all_filled (at ∷ holes) (pos (fail_at (4 * length b.code)))
    (with_items (chain_end_code (4 * length b.code)) b)
