-- The file of a text, the stop at a text that is refused, and what is good is assembled.
use Rattle.std.proofs.Common.{◌≡◌, ◌≢◌, ◌∙◌, ◌≤◌, ◌⊎◌, inl, inr, ℕ, List, Option, None, Some}
use Rattle.std.proofs.Common.{Result, Ok, Err, [], length, subst, sym, refl}
use Rattle.pawn_outside.specs.Held.{Held, Tells}
use Rattle.amx_ops.specs.declared.amx.Amx.{Amx}
use Rattle.amx_format.specs.declared.encoding.Encoding.{Encoding}
use Rattle.amx_text.specs.declared.fault.AsmFault.{AsmFault}
use Rattle.amx_text.specs.declared.fault.AsmFault.TheVariants.{Form, Limit, Address, Count, Invalid}
use Rattle.amx_text.specs.declared.fault.AsmFault.TheVariants.{Memory}
use Rattle.amx_text.specs.Assembles as texts
use Rattle.amx_text.specs.Faults.{refusal_of}
use Rattle.amx_text.specs.Listing.{listing}
use Rattle.amx_text.proofs.BackLaws.{what_is_listed_is_assembled}
use Rattle.command_parts.specs.declared.command.AssembleWords.{AssembleWords}
use Rattle.command_parts.specs.declared.read.TheConstants.{SOURCE_LIMIT}
use Rattle.command_parts.specs.declared.status.Status.{Status}
use Rattle.command_parts.specs.declared.stop.Stop.{Stop}
use Rattle.command_parts.specs.declared.stop.Stop.TheVariants.{FileFault, NoMemory}
use Rattle.command_parts.specs.Told.{Writes, TellsStop}
use Rattle.command_parts.specs.Unread.{IsRead, IsStopOf}
use Rattle.command_parts.proofs.ReadLaws.{read_is, stops_so}
use Rattle.commands.specs.Assembles.{Assembles, IsFileOfText, IsRefused, IsTextMade}
use Rattle.commands.specs.Assembles.{IsTextRead, NoText, stop_by}
use Rattle.commands.specs.Compiles.{encoding_of}
use Rattle.commands.specs.Good.{IsFree}
use Rattle.commands.specs.GoodText.{AssemblesFile, GoodIsAssembled, HoldsListing}
use Rattle.commands.specs.PutFile.{PutsFile}
use Rattle.commands.specs.Runs.{IsStopped}
use Rattle.commands.proofs.DoneLaws.{freely}
use Rattle.commands.proofs.GoodLaws.{read_free, same_bytes}
use Rattle.commands.proofs.PutLaws.{put_text}

-- ---- a text that is refused

-- a text that isn't assembled is refused, or memory was wanting
pub text_stops : (name bytes : List ℕ) (fault : AsmFault) (stop : Stop)
    → texts.Assembles bytes (Err fault) → IsStopOf (stop_by name (refusal_of fault)) stop
    → (stop ≡ NoMemory) ⊎ IsRefused name bytes stop
text_stops name bytes (Form line) stop has (inl e) =
    inr (record { fault = Form line; has = has; refused = λ f. absurd (cc f); is = e })
text_stops name bytes Limit stop has (inl e) =
    inr (record { fault = Limit; has = has; refused = λ f. absurd (cc f); is = e })
text_stops name bytes (Address line) stop has (inl e) =
    inr (record { fault = Address line; has = has; refused = λ f. absurd (cc f); is = e })
text_stops name bytes (Count line) stop has (inl e) =
    inr (record { fault = Count line; has = has; refused = λ f. absurd (cc f); is = e })
text_stops name bytes (Invalid line) stop has (inl e) =
    inr (record { fault = Invalid line; has = has; refused = λ f. absurd (cc f); is = e })
text_stops name bytes Memory stop has (inl e) = inl e
text_stops name bytes fault stop has (inr e) = inl e

-- no refusal is a fault of the files
refusal_no_fault : (name : List ℕ) (refusal : Option (ℕ × ℕ)) → stop_by name refusal ≢ FileFault
refusal_no_fault name None = λ e. absurd (cc e)
refusal_no_fault name (Some it) = λ e. absurd (cc e)

pub text_no_fault : (name : List ℕ) (encoding : Encoding) (bytes : List ℕ)
    (result : Result (List ℕ) Stop) → IsTextMade name encoding bytes result
    → result ≡ Err FileFault → ⊥
text_no_fault name encoding bytes (Ok file) it e = absurd (cc e)
text_no_fault name encoding bytes (Err stop) (inl memory) e = absurd (cc (memory, e))
text_no_fault name encoding bytes (Err stop) (inr it) e =
    let is : stop ≡ FileFault = cc e in
    refusal_no_fault name (refusal_of it.fault) (sym it.is ∙ is)

-- ---- by its name

pub text_named : (held : Option Held) (name : List ℕ) (encoding : Encoding) {bytes lent : List ℕ}
    (result : Result (List ℕ) Stop)
    → Tells held name (Some bytes) × (length bytes ≤ SOURCE_LIMIT) → lent ≡ bytes
    → IsTextMade name encoding lent result → IsTextRead held name encoding result
text_named held name encoding (Ok file) tells e it =
    read_is tells e (λ b. IsFileOfText encoding b file) it
text_named held name encoding (Err stop) tells e it =
    stops_so tells e (λ b. IsRefused name b stop) stop it

-- ---- the command

module _ {S : Type 0} {writes : Writes S} {old new : S} (words : AssembleWords)
    (held after : Option Held) (name : List ℕ) (encoding : Encoding) (answer : Status)
    (e : name ≡ words.text) where
  pub assembles_nothing : (stop : Stop) → IsTextRead held name encoding (Err stop) → after ≡ held
      → TellsStop stop writes old new answer → Assembles writes words held after old new answer
  assembles_nothing stop none kept tells =
      let P : List ℕ → Type 0 = λ n. NoText held n stop in
      inl (record { stop = stop; comes = subst P e none; kept = kept; tells = tells })

  pub assembles_good : (file : List ℕ) → encoding ≡ encoding_of words.compact
      → IsTextRead held name encoding (Ok file)
      → PutsFile writes file (put_text [] file) words.amx held after old new answer
      → Assembles writes words held after old new answer
  assembles_good file k made puts =
      let P : List ℕ → Type 0 = λ n.
      IsRead held n SOURCE_LIMIT (λ bytes. IsFileOfText encoding bytes file) in
      let Q : Encoding → Type 0 = λ n.
      IsRead held words.text SOURCE_LIMIT (λ bytes. IsFileOfText n bytes file) in
      inr (record { file = file; made = subst Q k (subst P e made); puts = puts })

-- ---- the listing of a valid file is assembled

module _ (map : Held) (words : AssembleWords) (amx : Amx) (is : HoldsListing map words amx) where
  the_listing : IsRead (Some map) words.text SOURCE_LIMIT (λ bytes. bytes ≡ listing amx)
  the_listing = record { bytes = listing amx; tells = is.held; within = is.small; is = refl }

  -- whatever is answered to it, but for want of memory, is the file
  only_file : (answer : Result Amx AsmFault) → texts.Assembles (listing amx) answer
      → answer ≢ Err Memory → answer ≡ Ok amx
  only_file = what_is_listed_is_assembled amx is.fields is.writable is.valid

  no_text : (stop : Stop) → NoText (Some map) words.text stop → IsFree stop
  unfolding the_listing
  no_text stop (inl unread) = read_free map words.text _ stop the_listing unread
  no_text stop (inr none) =
      let P : List ℕ → Type 0 = λ b. IsRefused words.text b stop in
      let at = subst P (same_bytes map words.text the_listing none) none.is in
      let no : Err at.fault ≡ Ok amx =
      only_file (Err at.fault) at.has (λ f. at.refused (cc f)) in
      absurd (cc no)

  same_file : {encoding : Encoding} {file : List ℕ}
      (it : IsRead (Some map) words.text SOURCE_LIMIT (λ bytes. IsFileOfText encoding bytes file))
      → it.is.amx ≡ amx
  unfolding the_listing
  same_file it =
      let P : List ℕ → Type 0 = λ b. texts.Assembles b (Ok it.is.amx) in
      let at = subst P (same_bytes map words.text the_listing it) it.is.assembled in
      let same : Ok it.is.amx ≡ Ok amx =
      only_file (Ok it.is.amx) at (λ f. absurd (cc f)) in
      cc same

  module _ {S : Type 0} (writes : Writes S) (after : Option Held) (old new : S)
      (answer : Status) where
    assembled : Assembles writes words (Some map) after old new answer
        → IsStopped writes IsFree (Some map) after old new answer
        ⊎ AssemblesFile writes words amx (Some map) after old new answer
    assembled (inl early) = inl (freely no_text early)
    assembled (inr it) = inr (record { good = it; same = same_file it.made })

pub good_is_assembled : {S : Type 0} (writes : Writes S) → GoodIsAssembled writes
good_is_assembled writes = record {
  done =
      λ map after words amx old new answer is it. assembled map words amx is writes after old new
      answer it;
}
