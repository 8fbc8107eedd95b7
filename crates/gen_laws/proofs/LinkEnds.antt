-- Where the links of a chain end, wherever those that don't hold lead.
use Rattle.std.proofs.Common.{◌≡◌, ◌+◌, ℕ, List}
use Rattle.std.proofs.Common.{refl, sym}
use Rattle.std.proofs.Common.{◌∙◌}
use Rattle.pawn_meaning.specs.Program.{Links}
use Rattle.pawn_meaning.specs.Program.{no_links, then_link}
use Rattle.pawn_meaning.specs.Scope.{Scope}
use Rattle.gen_sim.specs.Items.{Item, past}
use Rattle.gen_sim.proofs.ItemLaws.{past-append}
use Rattle.gen_sim.specs.OperandCode.{Right, right_of}
use Rattle.gen_sim.specs.ChainCode.{link_code, middle_link_code}
use Rattle.gen_laws.specs.ExprCode.{link_with, others_at}
use Rattle.gen_laws.specs.ExprCode.{value_items, links_items}

-- wherever those that don't hold lead
middle_end : (begin fail : ℕ) (operand link others : List Item)
    → past begin (middle_link_code fail operand link others)
    ≡ past (others_at begin operand link) others
middle_end begin fail operand link others =
    past-append (begin + 4) operand _ ∙ past-append (past (begin + 4) operand + 4 + 4) link _

pub links_end : (scope : Scope) (links : Links) (begin fail other : ℕ)
    → past begin (links_items scope begin fail links)
    ≡ past begin (links_items scope begin other links)
links_end scope no_links begin fail other = refl
links_end scope (then_link o e f swapped links) begin fail other =
    by_links links (right_of scope e) (value_items scope (begin + 4) e)
    (λ p. links_end scope links p fail other)
  where
    by_links : (links : Links) (how : Right) (operand : List Item)
        → ((p : ℕ) → past p (links_items scope p fail links)
        ≡ past p (links_items scope p other links))
        → past begin (link_with fail o f swapped how operand links
        (links_items scope (others_at begin operand (link_code o f swapped)) fail links))
        ≡ past begin (link_with other o f swapped how operand links
        (links_items scope (others_at begin operand (link_code o f swapped)) other links))
    by_links no_links how operand h = refl
    by_links (then_link o2 e2 f2 swapped2 more) how operand h =
        let rest = then_link o2 e2 f2 swapped2 more in
        let link = link_code o f swapped in
        let p = others_at begin operand link in
        middle_end begin fail operand link (links_items scope p fail rest) ∙ h p
        ∙ sym (middle_end begin other operand link (links_items scope p other rest))
