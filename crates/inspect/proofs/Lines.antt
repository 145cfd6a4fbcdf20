-- Bytes that are text, and lines that may be absent.
use Rattle.std.proofs.Common.{◌≡◌, ℕ, ◌<◌, true, leb, List, [], ◌∷◌, Some, None, Option, Ok, Err, IsUtf8, Result, arith, Bor, MatchResult}
use Rattle.std.proofs.ByRecursion.{IsAscii-from_all}
use Rattle.std.proofs.lemmas.Bool.{leb-true, and_parts}
use Rattle.std.proofs.lemmas.Str.{IsUtf8-from_ascii}
use Rattle.std.specs.List.{AllByRecursion, list_all}
use Rattle.std.specs.Option.{option_map, MatchOption, IsSomeAnd}
use Rattle.std.specs.Result.{result_ok}
use Rattle.inspect.specs.Shown.{printable, text_in, if_there}

ascii : (v : List ℕ) → list_all printable v ≡ true → AllByRecursion (λ b. b < 128) v
ascii [] h = tt
ascii (b ∷ v) h =
    let a = and_parts (printable b) (list_all printable v) h in
    let u = leb-true b 126 (and_parts (leb 32 b) (leb b 126) a.0).1 in
    (omega arith, ascii v a.1)

-- printable bytes are text
pub text_read : {E : Type 0} (P : E → Type 0) (v : List ℕ) (r : Result (Bor (List ℕ)) E) → list_all printable v ≡ true → MatchResult r (λ s. (s.now ≡ v) × IsUtf8 v) (λ e. (IsUtf8 v → ⊥) × P e) → option_map (λ x. x.now) (result_ok r) ≡ text_in v
text_read P v (Ok s) h k = rw (h, k.0)
text_read P v (Err e) h k = absurd (k.0 (IsUtf8-from_ascii v (IsAscii-from_all v (ascii v h))))

-- a line that is shown of what is there, and nothing of what is not
pub shown_there : {A B : Type 0} (output : B → Option (List ℕ)) (R : A → B → Type 0) (shown : Option A → List ℕ) (o : Option A) (r : Option B) → MatchOption o (r ≡ None) (λ x. IsSomeAnd r (R x))
    → shown None ≡ [] → ((x : A) (y : B) → R x y → output y ≡ Some (shown (Some x))) → if_there output r ≡ Some (shown o)
shown_there output R shown None r m none some = rw (m, none)
shown_there output R shown (Some x) None m none some = absurd m
shown_there output R shown (Some x) (Some y) m none some = some x y m
