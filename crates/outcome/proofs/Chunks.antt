-- A slice as chunks of one size.
use Rattle.std.proofs.Common.{◌≡◌, ℕ, zero, suc, ◌+◌, ◌*◌, ◌<◌, List, [], get_or, take, drop, ap, ◌∙◌, mul-zero, mul-suc, arith}
use Rattle.std.proofs.lemmas.List.{drop-drop, get_or-drop, get_or-take}
use Rattle.std.specs.Simd.{first_chunks}

-- the chunk i
pub chunk_at : (n k i : ℕ) (xs : List ℕ) → i < k → get_or (first_chunks n k xs) i [] ≡ take n (drop (n * i) xs)
chunk_at n zero i xs h = absurd (omega arith)
chunk_at n (suc k) zero xs h = rw (mul-zero n)
chunk_at n (suc k) (suc i) xs h =
    chunk_at n k i (drop n xs) (omega arith) ∙ ap (take n) (drop-drop (n * i) n xs ∙ ap (λ (j : ℕ). drop j xs) (omega (arith, mul-suc n i)))

-- its element j
pub chunk_item : (n k i j : ℕ) (xs : List ℕ) → i < k → j < n → get_or (get_or (first_chunks n k xs) i []) j 0 ≡ get_or xs (n * i + j) 0
chunk_item n k i j xs h m = rw (chunk_at n k i xs h) (get_or-take n (drop (n * i) xs) j 0 m ∙ get_or-drop (n * i) xs j 0)
