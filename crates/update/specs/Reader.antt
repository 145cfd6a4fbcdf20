-- What a reader does to the text before it.
use Rattle.std.specs.Prelude.{◌≡◌, ℕ, Bool, true, false, List, Some, None, Ok, Err, Option, Result}
use Rattle.std.specs.Borrow.{Bor, MutBor}
use Rattle.std.specs.Fn.{FnOnceReturnsAtMut, Once}
use Rattle.std.specs.Result.{result_map_both}
use Rattle.update.specs.declared.reader.Reader.{Reader}
use Rattle.update.specs.declared.refusal.Refusal.{Refusal}
use Rattle.update.specs.declared.refusal.Refusal.TheVariants.{BadLength}
use Rattle.update.specs.Reading.{Read}
use Rattle.outcome.specs.Outcomes.{Answers}

-- what is answered, seen without its borrows, and what is left are the definition's of what was left before
abbrev pub Reads : {A B : Type 0} → (A → B) → (ℕ → List ℕ → Read B) → Reader → Result A Refusal → Reader → Type 0
Reads see field r answer r' = Answers (λ x. (see x, r'.rest.now)) answer (field r.total r.rest.now) × (r'.total ≡ r.total)

-- a field that is there only if so is what a call of f answers, and else absent, and nothing is taken
abbrev pub ReadsIf : {F A : Type 0} → Once F (MutBor Reader × Unit {0}) (Result A Refusal × (MutBor Reader × Unit {0})) → F → Bool → Reader → Result (Option A) Refusal → Reader → Type 0
ReadsIf call f false r answer r' = (answer ≡ Ok None) × (r' ≡ r)
ReadsIf {F} {A} call f true r answer r' = (x : Result A Refusal) × FnOnceReturnsAtMut call f r x r' × (answer ≡ result_map_both Some (λ e. e) x)

-- what was cut off the front, and what is left behind it
abbrev pub Takes : {A : Type 0} → Option (A × Bor (List ℕ)) → Reader → Result A Refusal → Reader → Type 0
Takes None r answer r' = (answer ≡ Err (BadLength r.total)) × (r' ≡ r)
Takes (Some p) r answer r' = (answer ≡ Ok p.0) × (r'.rest.now ≡ p.1.now) × (r'.total ≡ r.total)
