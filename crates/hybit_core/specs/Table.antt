-- Document 01's table of refusals, and what each case of the answers in src/ says in its terms.
use Rattle.std.specs.Prelude.{Result, Ok, Err}
use Rattle.hybit_core.specs.Answer.{Told, plain, lengths_differ, Answer, accepted, refused, Given, gives, refuses}
use Rattle.hybit_core.specs.declared.HybitError.{HybitError}
use Rattle.hybit_core.specs.declared.HybitError.TheVariants.{SizeOverflow, BadFrame, OutsideColumn, NotFinite, BadMask, DimensionMismatch, NoSuchPlace, FramesDiffer, BadThresholds, NotSquare, BadWords, BadStore, ShortList}

-- over size, bad frame, outside column, not finite, bad mask, lengths differ, no such place, frames differ, bad thresholds,
-- not square, bad words, bad store, short list
abbrev pub paper : HybitError → Told
paper SizeOverflow = plain 1
paper BadFrame = plain 2
paper OutsideColumn = plain 3
paper NotFinite = plain 4
paper BadMask = plain 5
paper (DimensionMismatch e a) = lengths_differ e a
paper NoSuchPlace = plain 7
paper FramesDiffer = plain 8
paper BadThresholds = plain 9
paper NotSquare = plain 10
paper BadWords = plain 11
paper BadStore = plain 12
paper ShortList = plain 13

-- a call without a result: accepted, or refused
abbrev pub told : Result Unit HybitError → Answer
told (Ok u) = accepted
told (Err e) = refused (paper e)

-- a call with a result
abbrev pub given : {A : Type 0} → Result A HybitError → Given A
given (Ok a) = gives a
given (Err e) = refuses (paper e)
