-- The links of a chain behind its first operand, with what stands behind several of them.
use Rattle.std.specs.Prelude.{ℕ, List}
use Rattle.pawn_meaning.specs.Program.{Links}
use Rattle.pawn_meaning.specs.Scope.{Scope}
use Rattle.gen_sim.specs.Items.{Item, past}
use Rattle.gen_sim.specs.ChainCode.{fail_at}
use Rattle.gen_laws.specs.ExprCode.{links_items, linked_with}

-- those that don't hold lead to the code behind the last one
abbrev pub chain_items : Scope → ℕ → Links → List Item
chain_items scope p links =
    let q = past p (links_items scope p 0 links) in
    linked_with q links (links_items scope p (fail_at q) links)
