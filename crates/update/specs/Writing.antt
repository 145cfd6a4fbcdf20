-- The writer: parts to text, or the refusal of the first check that fails, in the reader's order and at place 0.
use Rattle.std.specs.Prelude.{ℕ, ◌/◌, ◌%◌, Bool, true, cond, not, ◌&&◌, ◌||◌, List, [], length, is_some, is_ok, Some, None, Ok, Err, Option, Result, ◌==◌, nat_le, nat_lt}
use Rattle.update.specs.declared.refusal.Refusal.{Refusal}
use Rattle.update.specs.declared.refusal.Refusal.TheVariants.{BadMap, BadPredecessors, BadValueLength, SmallBuffer}
use Rattle.update.specs.Contents.{Contents}
use Rattle.update.specs.Layout.{layout}
use Rattle.update.specs.Reading.{ascending_at}
use Rattle.outcome.specs.Outcomes.{bind}

-- what a field is held to where it is there
abbrev pub every : Option (List ℕ) → (List ℕ → Bool) → Bool
every None f = true
every (Some l) f = f l

abbrev pub good_predecessors : List ℕ → Bool
good_predecessors l =
    (length l % 32 == 0)
    && (nat_le 1 (length l / 32) && (nat_le (length l / 32) 8 && is_ok (ascending_at 0 [] (length l / 32) l)))

abbrev pub good_value : List ℕ → Bool
good_value l = nat_le 1 (length l) && nat_le (length l) 64

abbrev pub good_seal : List ℕ → Bool
good_seal l = length l == 32

abbrev pub faults : Contents → Result (Unit {0}) Refusal
faults p =
    cond (is_some p.address || not (is_some p.value))
    (cond (every p.predecessors good_predecessors)
    (cond (every p.value good_value)
    (cond (every p.seal good_seal)
    (Ok tt)
    (Err BadMap))
    (Err (BadValueLength 0)))
    (Err (BadPredecessors 0)))
    (Err BadMap)

abbrev pub writes : Contents → Result (List ℕ) Refusal
writes p = bind (faults p) (λ _. Ok (layout p))

-- the answer for a buffer of that length
abbrev pub writing : ℕ → Contents → Result (List ℕ) Refusal
writing room p = cond (nat_lt room 363) (Err SmallBuffer) (writes p)
