-- The worked examples, by computation; one digest twice, for every digest.
use Rattle.std.proofs.Common.{◌≡◌, ℕ, false, List, [], ◌∷◌, ◌++◌, length, take, refl, arith, length-append}
use Rattle.std.proofs.lemmas.Bool.{eq-eqb, le-ltb}
use Rattle.std.proofs.lemmas.List.{take_at, drop_at, take_all}
use Rattle.update.specs.declared.refusal.Refusal.TheVariants.{BadLength, BadMap, BadPredecessors, BadValueLength}
use Rattle.update.specs.Examples.{Refuses, Examples}
use Rattle.outcome.specs.Order.{below}
use Rattle.update.proofs.Ascending.{above_empty}

not_below_itself : (d : List ℕ) → below d d ≡ false
not_below_itself [] = refl
not_below_itself (x ∷ d) =
    let a = le-ltb x x (omega arith) in
    let b = eq-eqb x x refl in
    simp (a, b) (not_below_itself d)

twice : (d : List ℕ) → length d ≡ 32 → Refuses (0x05 ∷ 0x00 ∷ 0x07 ∷ 0x02 ∷ d ++ d) 3 36
twice d h =
    let a : length (d ++ d) ≡ 64 = omega (arith, length-append d d) in
    let b = take_at d d 32 h in
    let c = drop_at d d 32 h in
    let e : take 32 d ≡ d = take_all 32 d (omega arith) in
    (BadPredecessors 36, simp (a, b, c, e, h, above_empty d h, not_below_itself d), refl, refl)

pub worked : Examples (0x0b ∷ 0x00 ∷ 0x07 ∷ 0x02 ∷ 0x00 ∷ 0x00 ∷ 0x00 ∷ 0x05 ∷ 0x01 ∷ 0x02 ∷ 0x32 ∷ 0x37 ∷ [])
worked = record {
  author_alone = refl;
  empty = (BadLength 0, refl, refl, refl);
  left_over = (BadLength 3, refl, refl, refl);
  unused_bit = (BadMap, refl, refl, refl);
  no_author = (BadMap, refl, refl, refl);
  value_alone = (BadMap, refl, refl, refl);
  this_text = refl;
  value_at_address = refl;
  empty_value = (BadValueLength 9, refl, refl, refl);
  no_predecessors = (BadPredecessors 3, refl, refl, refl);
  nine_predecessors = (BadPredecessors 3, refl, refl, refl);
  one_digest_twice = twice;
}
