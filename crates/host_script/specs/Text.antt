-- The lines that are printed for events and ends. Numbers are decimal, with a sign where negative.
use Rattle.std.specs.Prelude.{ℕ, ℤ, pos, negsuc, List, [], ◌∷◌, ◌++◌, Bool, ◌&&◌, not, codes}
use Rattle.std.specs.Prelude.{nat_le, ◌==◌, if◌then◌else◌}
use Rattle.std.specs.Fmt.{signed_decimal}
use Rattle.std.specs.List.{flat_map}
use Rattle.host_script.specs.declared.event.Seen.{Seen}
use Rattle.host_script.specs.declared.event.Seen.TheVariants.{Cell, Ref, Cells, Text}
use Rattle.host_script.specs.declared.event.Event.{Event}
use Rattle.host_script.specs.declared.event.Event.TheVariants.{Native, Slept}
use Rattle.host_script.specs.declared.event.End.{End}
use Rattle.host_script.specs.declared.event.End.TheVariants.{Done, Exit, Error, Stray}

-- printable, and neither the quote nor the backslash
abbrev pub stands_for_itself : ℕ → Bool
stands_for_itself c = nat_le 32 c && nat_le c 126 && not (c == 34) && not (c == 92)

-- a character that is printed as its number
abbrev pub escaped : ℤ → List ℕ
escaped c = codes "\\" ++ (signed_decimal c ++ codes ";")

-- a character of a text, as the listing and the trace print it
abbrev pub character_text : ℤ → List ℕ
character_text (pos c) = if stands_for_itself c then c ∷ [] else escaped (pos c)
character_text (negsuc c) = escaped (negsuc c)

-- values parted by blanks
abbrev pub values_text : List ℤ → List ℕ
values_text [] = []
values_text (value ∷ []) = signed_decimal value
values_text (value ∷ next ∷ values) =
    signed_decimal value ++ (codes " " ++ values_text (next ∷ values))

-- a reference has `&` before it, an array stands in brackets and a text in quotes
abbrev pub seen_text : Seen → List ℕ
seen_text (Cell value) = signed_decimal value
seen_text (Ref value) = codes "&" ++ signed_decimal value
seen_text (Cells values) = codes "[" ++ (values_text values ++ codes "]")
seen_text (Text characters) = codes "\"" ++ (flat_map character_text characters ++ codes "\"")

-- an argument after one blank
abbrev pub argument_text : Seen → List ℕ
argument_text argument = codes " " ++ seen_text argument

-- all arguments of a call
abbrev pub arguments_text : List Seen → List ℕ
arguments_text seen = flat_map argument_text seen

-- a call with its result, or a sleep with its value and tag
abbrev pub event_text : Event → List ℕ
event_text (Native name seen result) =
    codes "native " ++ (name ++ (arguments_text seen
    ++ (codes " -> " ++ (signed_decimal result ++ codes "\n"))))
event_text (Slept value tag) =
    codes "sleep " ++ (signed_decimal value
    ++ (codes " tag " ++ (signed_decimal tag ++ codes "\n")))

-- a stray access prints nothing
abbrev pub end_text : End → List ℕ
end_text (Done value) = codes "done " ++ (signed_decimal value ++ codes "\n")
end_text (Exit value tag) =
    codes "exit " ++ (signed_decimal value ++ (codes " tag " ++ (signed_decimal tag ++ codes "\n")))
end_text (Error code) = codes "error " ++ (signed_decimal code ++ codes "\n")
end_text Stray = []

-- the lines of a run
abbrev pub trace_text : List Event → End → List ℕ
trace_text events end = flat_map event_text events ++ end_text end
