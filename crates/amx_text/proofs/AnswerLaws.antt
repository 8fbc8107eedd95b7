-- A text lists one file at most, and has one answer at most.
use Rattle.std.proofs.Common.{◌≡◌, ◌≢◌, ℕ, List, ◌∷◌, None, Some, refl, sym, ap, ◌∙◌, append-nil}
use Rattle.std.proofs.Common.{ap₂}
use Rattle.std.specs.Prelude.{Ok, Err}
use Rattle.std.specs.List.{flat_map}
use Rattle.amx_ops.specs.declared.amx.Amx.{Amx}
use Rattle.amx_text.specs.declared.fault.AsmFault.{AsmFault}
use Rattle.amx_text.specs.declared.fault.AsmFault.TheVariants.{Form, Memory}
use Rattle.amx_text.specs.Lines.{Header}
use Rattle.amx_text.specs.Listing.{header_of}
use Rattle.amx_text.specs.Forms.{Line, HeaderLine, line_text}
use Rattle.amx_text.specs.Faults.{amx_of, fault_of, HasFault}
use Rattle.amx_text.specs.Texts.{AreLines, BreaksAt}
use Rattle.amx_text.specs.Listed.{IsListed, ATextListsOneFile}
use Rattle.amx_text.specs.Assembles.{IsAssembled, Assembles, ATextHasOneAnswer}
use Rattle.amx_text.proofs.LinesOf.{lines_of, lines_behind, text_of_lines}
use Rattle.amx_text.proofs.SaidLaws.{amx_of_lines}
use Rattle.amx_text.proofs.OrderLaws.{order_of_lines, end_of_lines, fits_of_lines}
use Rattle.amx_text.proofs.PlacedLaws.{no_fault}
use Rattle.amx_text.proofs.TextLaws.{lines_of_text, no_break, one_break}

-- ---- one file

-- a listing is lines, from the header to the end
pub lines_of_listed : (amx : Amx) (text : List ℕ) (h : IsListed amx text)
    → AreLines text (lines_of amx h.its)
lines_of_listed amx text h = record {
  whole =
      record {
        fit = fits_of_lines amx h.its h.fields h.places h.code;
        order = order_of_lines amx h.its;
        is =
            h.is ∙ sym (text_of_lines amx h.its h.code)
            ∙ sym (append-nil (flat_map line_text (lines_of amx h.its)));
      };
  ends = end_of_lines amx h.its;
}

-- the header in front of some lines
record SameHeader (a b : Header) (ls ms : List Line) : Type 0 where
  header : a ≡ b
  others : ls ≡ ms

same_header : (a b : Header) (ls ms : List Line) → HeaderLine a ∷ ls ≡ HeaderLine b ∷ ms
    → SameHeader a b ls ms
same_header a b ls ms e = record { header = cc; others = cc }

pub a_text_lists_one_file : ATextListsOneFile
a_text_lists_one_file text a b h k =
    let lines : lines_of a h.its ≡ lines_of b k.its =
    lines_of_text text (lines_of a h.its) (lines_of b k.its) (lines_of_listed a text h)
    (lines_of_listed b text k) in
    let it =
    same_header (header_of a) (header_of b) (lines_behind a h.its) (lines_behind b k.its) lines in
    let header = it.header in
    sym (amx_of_lines a h.its h.code) ∙ ap₂ amx_of header lines
    ∙ amx_of_lines b k.its k.code

-- ---- one answer

-- a file and a fault
never_both : (text : List ℕ) (amx : Amx) (fault : AsmFault) → IsAssembled text amx
    → HasFault text fault → ⊥
never_both text amx fault h k =
    let its = h.listed.its in
    let lines : lines_of amx its ≡ HeaderLine k.header ∷ k.others =
    lines_of_text text (lines_of amx its) (HeaderLine k.header ∷ k.others)
    (lines_of_listed amx text h.listed) k.are in
    let it = same_header (header_of amx) k.header (lines_behind amx its) k.others lines in
    let header = it.header in
    let no : None ≡ Some fault =
    sym (no_fault amx its h.listed.code h.within h.valid) ∙ ap₂ fault_of header lines
    ∙ k.first in
    cc

never_breaks : (text : List ℕ) (amx : Amx) (line : ℕ) → IsAssembled text amx
    → BreaksAt text line → ⊥
never_breaks text amx line h k =
    no_break text line (lines_of amx h.listed.its) (lines_of_listed amx text h.listed) k

fault_breaks : (text : List ℕ) (fault : AsmFault) (line : ℕ) → HasFault text fault
    → BreaksAt text line → ⊥
fault_breaks text fault line h k = no_break text line (HeaderLine h.header ∷ h.others) h.are k

one_fault : (text : List ℕ) (a b : AsmFault) → HasFault text a → HasFault text b → a ≡ b
one_fault text a b h k =
    let lines : HeaderLine h.header ∷ h.others ≡ HeaderLine k.header ∷ k.others =
    lines_of_text text (HeaderLine h.header ∷ h.others) (HeaderLine k.header ∷ k.others) h.are
    k.are in
    let it = same_header h.header k.header h.others k.others lines in
    let header = it.header in
    let both : Some a ≡ Some b =
    sym h.first ∙ ap₂ fault_of header lines ∙ k.first in
    cc

-- where a text breaks, or the first fault of its lines
abbrev Refuses : List ℕ → AsmFault → Type 0
Refuses text fault = Assembles text (Err fault)

one_refusal : (text : List ℕ) (a b : AsmFault) → Refuses text a → Refuses text b → a ≢ Memory
    → b ≢ Memory → a ≡ b
one_refusal text (Form m) (Form n) h k x y = ap Form (one_break text m n h k)
one_refusal text (Form m) Memory h k x y = absurd (y refl)
one_refusal text Memory b h k x y = absurd (x refl)
one_refusal text (Form m) b h k x y = absurd (fault_breaks text b m k h)
one_refusal text a (Form n) h k x y = absurd (fault_breaks text a n h k)
one_refusal text a Memory h k x y = absurd (y refl)
one_refusal text a b h k x y = one_fault text a b h k

never_refused : (text : List ℕ) (amx : Amx) (fault : AsmFault) → IsAssembled text amx
    → Refuses text fault → fault ≢ Memory → ⊥
never_refused text amx (Form line) h k x = never_breaks text amx line h k
never_refused text amx Memory h k x = x refl
never_refused text amx fault h k x = never_both text amx fault h k

pub a_text_has_one_answer : ATextHasOneAnswer
a_text_has_one_answer text (Ok a) (Ok b) h k x y =
    ap Ok (a_text_lists_one_file text a b h.listed k.listed)
a_text_has_one_answer text (Ok a) (Err b) h k x y =
    absurd (never_refused text a b h k (λ e. y (ap Err e)))
a_text_has_one_answer text (Err a) (Ok b) h k x y =
    absurd (never_refused text b a k h (λ e. x (ap Err e)))
a_text_has_one_answer text (Err a) (Err b) h k x y =
    ap Err (one_refusal text a b h k (λ e. x (ap Err e)) (λ e. y (ap Err e)))
