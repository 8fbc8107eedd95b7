-- What a command does of a file that is made, and what stops `compile` and `assemble`.
use Rattle.std.proofs.Common.{◌≡◌, ◌++◌, inl, inr, ℕ, List, Option, length, subst}
use Rattle.pawn_outside.specs.Held.{Held}
use Rattle.amx_format.specs.declared.encoding.Encoding.{Encoding}
use Rattle.pawn_front.specs.declared.compiled.Compiled.{Compiled}
use Rattle.pawn_front.specs.declared.compiled.Warning.{Warning}
use Rattle.pawn_front.specs.Compiled.{IsCompiled}
use Rattle.command_parts.specs.declared.status.Status.{Status}
use Rattle.command_parts.specs.declared.stop.Stop.{Stop}
use Rattle.command_parts.specs.Told.{Writes, TellsStop}
use Rattle.command_parts.specs.declared.command.CompileWords.{CompileWords}
use Rattle.commands.specs.Compiles.{Compiles, encoding_of}
use Rattle.commands.specs.Lines.{ok_line, warning_lines}
use Rattle.commands.specs.Made.{NoSource}
use Rattle.commands.specs.PutFile.{PutsFile}

-- what is told of a file
abbrev pub put_text : List Warning → List ℕ → List ℕ
put_text warnings bytes = warning_lines warnings ++ ok_line (length bytes)

module _ {S : Type 0} {writes : Writes S} {old new : S} where
  pub compiles_nothing : (words : CompileWords) (held after : Option Held) (src : List ℕ)
      (stop : Stop) (answer : Status) → src ≡ words.src
      → NoSource held src stop → after ≡ held → TellsStop stop writes old new answer
      → Compiles writes words held after old new answer
  compiles_nothing words held after src stop answer e none kept tells =
      let P : List ℕ → Type 0 = λ n. NoSource held n stop in
      inl (record { stop = stop; comes = subst P e none; kept = kept; tells = tells })

  -- a file that was made, as it was lent
  pub puts_lent : (it bytes : List ℕ) (its warnings : List Warning) (held mid after : Option Held)
      (begun : S) (name meant : List ℕ) (answer : Status) → bytes ≡ it → warnings ≡ its
      → name ≡ meant → mid ≡ held → begun ≡ old
      → PutsFile writes bytes (put_text warnings bytes) name mid after begun new answer
      → PutsFile writes it (put_text its it) meant held after old new answer
  puts_lent it bytes its warnings held mid after begun name meant answer b w n same from puts =
      let P : List ℕ → Type 0 =
      λ b. PutsFile writes b (put_text warnings b) name mid after begun new answer in
      let Q : List Warning → Type 0 =
      λ w. PutsFile writes it (put_text w it) name mid after begun new answer in
      let R : List ℕ → Type 0 =
      λ n. PutsFile writes it (put_text its it) n mid after begun new answer in
      let T : Option Held → Type 0 =
      λ h. PutsFile writes it (put_text its it) meant h after begun new answer in
      let U : S → Type 0 =
      λ s. PutsFile writes it (put_text its it) meant held after s new answer in
      subst U from (subst T same (subst R n (subst Q w (subst P b puts))))

  pub compiles_good : (words : CompileWords) (held after : Option Held) (src : List ℕ)
      (encoding : Encoding) (it : Compiled) (answer : Status)
      → src ≡ words.src → encoding ≡ encoding_of words.compact
      → IsCompiled held src encoding it
      → PutsFile writes it.bytes (put_text it.warnings it.bytes) words.amx held after old new answer
      → Compiles writes words held after old new answer
  compiles_good words held after src encoding it answer e k made puts =
      let P : List ℕ → Type 0 = λ n. IsCompiled held n encoding it in
      let Q : Encoding → Type 0 = λ n. IsCompiled held words.src n it in
      inr (record { it = it; made = subst Q k (subst P e made); puts = puts })
