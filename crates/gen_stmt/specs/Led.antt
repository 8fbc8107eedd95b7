-- Code whose exits aren't known yet: what it is once its jumps lead to them.
use Rattle.std.specs.Prelude.{◌≡◌, ◌<◌, ℕ, ℤ, pos, List, [], ◌∷◌}
use Rattle.gen_sim.specs.Here.{Exits}
use Rattle.gen_expr.specs.Built.{Built}
use Rattle.gen_expr.specs.Filled.{filled}
use Rattle.gen_stmt.specs.declared.draft.Draft.{Draft}
use Rattle.gen_stmt.specs.declared.draft.Exit.{Exit}
use Rattle.gen_stmt.specs.declared.draft.Exit.TheVariants as exit
use Rattle.gen_stmt.specs.declared.draft.Hole.{Hole}

-- where a loop is left to, of two
abbrev pub exit_by : (broke continued : ℤ) → Exit → ℤ
exit_by broke continued exit.Break = broke
exit_by broke continued exit.Continue = continued

-- and of a loop's exits
abbrev pub exit_at : Exits → Exit → ℕ
exit_at exits exit.Break = exits.broke
exit_at exits exit.Continue = exits.continued

-- the operand of each jump is where it leads
abbrev pub all_led : (broke continued : ℤ) → List Hole → Built → Built
all_led broke continued [] b = b
all_led broke continued (hole ∷ holes) b =
    all_led broke continued holes (filled hole.at (exit_by broke continued hole.exit) b)

-- they are cells of so many
abbrev pub AreIn : ℕ → List Hole → Type 0
AreIn count [] = Unit {0}
AreIn count (hole ∷ holes) = (hole.at < count) × AreIn count holes

-- none of them is this cell
abbrev pub AreOthers : ℕ → List Hole → Type 0
AreOthers at [] = Unit {0}
AreOthers at (hole ∷ holes) = ¬ (hole.at ≡ at) × AreOthers at holes

-- the code with these exits
abbrev pub led : Exits → Draft → Built
led exits d = all_led (pos exits.broke) (pos exits.continued) d.holes d.code
