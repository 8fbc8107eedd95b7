-- What ends a command early: its status, and its line.
use Rattle.std.specs.Prelude.{ℕ, List, ◌++◌, codes}
use Rattle.std.specs.Fmt.{decimal, signed_decimal}
use Rattle.script_reader.specs.declared.fault.Field.{Field}
use Rattle.script_reader.specs.declared.fault.Field.TheVariants as field
use Rattle.command_parts.specs.declared.status.Status.{Status}
use Rattle.command_parts.specs.declared.status.Status.TheVariants as status
use Rattle.command_parts.specs.declared.stop.Stop.{Stop}
use Rattle.command_parts.specs.declared.stop.Stop.TheVariants as stop

-- by the kind of stop alone
abbrev pub status_of : Stop → Status
status_of (stop.Refused kind file line) = status.Refused
status_of stop.BadWords = status.BadWords
status_of (stop.NoFile name) = status.NoFile
status_of (stop.TooLarge name) = status.TooLarge
status_of stop.FileFault = status.FileFault
status_of (stop.Invalid kind) = status.Invalid
status_of (stop.InvalidAt kind at) = status.Invalid
status_of stop.NoScript = status.BadScript
status_of (stop.BadScript kind field) = status.BadScript
status_of (stop.NoEntry name) = status.NoEntry
status_of (stop.Unregistered name) = status.Unregistered
status_of stop.NoMemory = status.NoMemory
status_of (stop.BadPlan line) = status.BadPlan

-- a field of a script, as it is printed
abbrev pub field_text : Field → List ℕ
field_text field.Script = codes "script"
field_text field.Others = codes "others"
field_text field.Natives = codes "natives"
field_text field.Answers = codes "answers"
field_text field.Name = codes "name"
field_text field.Forms = codes "forms"
field_text field.Rest = codes "rest"
field_text field.Result = codes "result"
field_text field.Writes = codes "writes"
field_text field.Arg = codes "arg"
field_text field.Cells = codes "cells"
field_text field.Error = codes "error"

-- a line that ends with a name
abbrev pub named_line : List ℕ → List ℕ → List ℕ
named_line front name = front ++ (name ++ codes "\n")

-- the kind of stop, with its numbers and names
abbrev pub line_of : Stop → List ℕ
line_of (stop.Refused kind file line) =
    codes "refused " ++ (decimal kind
    ++ (codes " at " ++ (file ++ (codes ":" ++ (decimal line ++ codes "\n")))))
line_of stop.BadWords = codes "bad words\n"
line_of (stop.NoFile name) = named_line (codes "no file ") name
line_of (stop.TooLarge name) = named_line (codes "too large ") name
line_of stop.FileFault = codes "file fault\n"
line_of (stop.Invalid kind) = named_line (codes "invalid ") (decimal kind)
line_of (stop.InvalidAt kind at) =
    codes "invalid " ++ (decimal kind ++ (codes " at " ++ (signed_decimal at ++ codes "\n")))
line_of stop.NoScript = codes "bad script 130\n"
line_of (stop.BadScript kind field) =
    codes "bad script " ++ (decimal kind ++ (codes " " ++ (field_text field ++ codes "\n")))
line_of (stop.NoEntry name) = named_line (codes "no entry ") name
line_of (stop.Unregistered name) = named_line (codes "unregistered ") name
line_of stop.NoMemory = codes "no memory\n"
line_of (stop.BadPlan line) = named_line (codes "bad plan ") (decimal line)
