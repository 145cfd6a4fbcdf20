-- Answers that may be refusals, of any type of refusal.
use Rattle.std.specs.Prelude.{◌≡◌, Ok, Err, Result}

-- what follows, unless there is a refusal
abbrev pub bind : {A B E : Type 0} → Result A E → (A → Result B E) → Result B E
bind (Ok x) f = f x
bind (Err e) f = Err e

-- the code's answer, seen without its borrows, is the definition's
abbrev pub Answers : {A B E : Type 0} → (A → B) → Result A E → Result B E → Type 0
Answers see (Ok x) m = m ≡ Ok (see x)
Answers see (Err e) m = m ≡ Err e
