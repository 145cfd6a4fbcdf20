-- What is shown of a report, and how reports are counted.
use Rattle.std.specs.Prelude.{◌≡◌, ℕ, ◌+◌, min, List, ◌++◌, length, Ok, Err, codes, decimal, Result}
use Rattle.hexadecimal.specs.declared.decode.HexError.{HexError}
use Rattle.hexadecimal.specs.Decoding.{fault_shown}
use Rattle.update.specs.declared.refusal.Refusal.{Refusal}
use Rattle.update.specs.Contents.{Contents, contents}
use Rattle.update.specs.Reading.{reads}
use Rattle.update.specs.Refusals.{number_of, place_of, cause_of}
use Rattle.inspect.specs.declared.report.LineError.{LineError}
use Rattle.inspect.specs.declared.report.LineError.TheVariants.{Refused, NotHex}
use Rattle.inspect.specs.declared.report.Update.{Update}
use Rattle.inspect.specs.declared.report.Tally.{Tally}
use Rattle.inspect.specs.Shown.{parts_shown}

abbrev pub update_shown : ℕ → Contents → List ℕ
update_shown n p = codes "an update of " ++ decimal n ++ codes " bytes" ++ parts_shown p

abbrev pub refusal_shown : Refusal → List ℕ
refusal_shown e = codes "refused " ++ decimal (number_of e) ++ codes " at " ++ decimal (place_of e) ++ codes ": " ++ cause_of e

-- what the reader answered to a text of n bytes
abbrev pub answer_shown : ℕ → Result Contents Refusal → List ℕ
answer_shown n (Ok p) = update_shown n p
answer_shown n (Err e) = refusal_shown e

abbrev pub error_shown : LineError → List ℕ
error_shown (Refused e) = refusal_shown e
error_shown (NotHex e) = codes "not hexadecimal: " ++ fault_shown e

abbrev pub report_shown : Result Update LineError → List ℕ
report_shown (Ok u) = update_shown u.length (contents u.parts)
report_shown (Err e) = error_shown e

-- what is read of a text is what the reader answers
abbrev pub ReadsText : List ℕ → Result Update Refusal → Type 0
ReadsText t (Ok u) = (u.length ≡ length t) × (reads t ≡ Ok (contents u.parts))
ReadsText t (Err e) = reads t ≡ Err e

-- what is read of a line is what is read of the bytes that it spells, or its fault
abbrev pub ReportsLine : Result (List ℕ) HexError → Result Update LineError → Type 0
ReportsLine (Ok t) (Ok u) = ReadsText t (Ok u)
ReportsLine (Ok t) (Err (Refused e)) = ReadsText t (Err e)
ReportsLine (Ok t) (Err (NotHex e)) = ⊥
ReportsLine (Err e) r = r ≡ Err (NotHex e)

-- what is shown of a line, from what it spells
abbrev pub line_shown : Result (List ℕ) HexError → List ℕ
line_shown (Ok t) = answer_shown (length t) (reads t)
line_shown (Err e) = codes "not hexadecimal: " ++ fault_shown e

-- one more, as far as the counter goes
abbrev pub more : ℕ → ℕ
more n = min (n + 1) 18446744073709551615

abbrev pub tallied : Result Update LineError → Tally → Tally
tallied (Ok u) t = record { read = more t.read; refused = t.refused; not_hex = t.not_hex }
tallied (Err (Refused e)) t = record { read = t.read; refused = more t.refused; not_hex = t.not_hex }
tallied (Err (NotHex e)) t = record { read = t.read; refused = t.refused; not_hex = more t.not_hex }

abbrev pub tally_shown : Tally → List ℕ
tally_shown t = decimal t.read ++ codes " read, " ++ decimal t.refused ++ codes " refused, " ++ decimal t.not_hex ++ codes " not hexadecimal"
