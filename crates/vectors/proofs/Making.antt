-- Keys that are filled with zeros.
use Rattle.std.proofs.Common.{◌≡◌, ℕ, ◌+◌, ◌-◌, ◌≤◌, min, List, ◌++◌, length, take, drop, replicate, sym, ap, ◌∙◌, ⊎_elim, append-nil, arith}
use lib.Seq.{take-append-add}
use Rattle.std.proofs.lemmas.Bool.{cases_lt}
use Rattle.std.proofs.lemmas.List.{take_all, take-append-le, take-replicate, drop-replicate}

-- a short key is followed by zeros
filled_short : (key : List ℕ) → length key ≤ 32 → key ++ drop (length key) (replicate {A = ℕ} 32 0) ≡ take 32 (key ++ replicate 32 0)
filled_short key h =
    let n : 32 ≡ length key + (32 - length key) = omega arith in
    ap (λ (ys : List ℕ). key ++ ys) (drop-replicate (length key) 32 0 ∙ sym (take-replicate (32 - length key) 32 0 (omega arith)))
    ∙ sym (ap (λ (k : ℕ). take k (key ++ replicate 32 0)) n ∙ take-append-add key (replicate 32 0) (32 - length key))

-- the front of a key, written over zeros
pub filled_all : (key front : List ℕ) (n : ℕ) → n ≡ min (length key) 32 → front ≡ take n key → front ++ drop n (replicate 32 0) ≡ take 32 (key ++ replicate 32 0)
filled_all key front n e f =
    ⊎_elim
    (λ h. let same : n ≡ length key = omega arith in
    rw (f, same, take_all (length key) key (omega arith)) (filled_short key (omega arith)))
    (λ h. let same : n ≡ 32 = omega arith in rw (f, same, append-nil, take-append-le 32 key (replicate 32 0) h))
    (cases_lt (length key) 32)
