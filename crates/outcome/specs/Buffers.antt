-- What calls write into a buffer of the caller's.
use Rattle.std.specs.Prelude.{ℕ, List, ◌++◌, length, drop, Ok, Err, Result}
use Rattle.std.proofs.Math.Seq.{paste}

-- what a call that writes bytes leaves in the buffer: the bytes at its start, later ones as they were; a refusal alters nothing
abbrev pub after : {E : Type 0} → Result (List ℕ) E → List ℕ → List ℕ
after (Ok bytes) out = bytes ++ drop (length bytes) out
after (Err e) out = out

-- and what it answers
abbrev pub size : {E : Type 0} → Result (List ℕ) E → Result ℕ E
size (Ok bytes) = Ok (length bytes)
size (Err e) = Err e

-- a part written into the buffer
unfoldable pub placed : ℕ → List ℕ → List ℕ → List ℕ
placed at part out = paste out at part (length part)
