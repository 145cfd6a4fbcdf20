-- Where the constants of SHA-256 come from: roots of the first primes.
use Rattle.std.specs.Prelude.{ℕ, zero, suc, ◌+◌, ◌*◌, ◌%◌, ◌^◌, Bool, true, false, cond, not, ◌&&◌, ◌||◌, List, [], ◌∷◌, ◌++◌, ◌==◌, nat_le, nat_lt}

-- no number from 2 to d divides n
abbrev pub undivided : ℕ → ℕ → Bool
undivided n zero = true
undivided n (suc zero) = true
undivided n (suc (suc d)) = not (n % suc (suc d) == 0) && undivided n (suc d)

-- the primes up to n
abbrev pub primes : ℕ → List ℕ
primes zero = []
primes (suc zero) = []
primes (suc (suc n)) = primes (suc n) ++ cond (undivided (suc (suc n)) (suc n)) (suc (suc n) ∷ []) []

-- the root of degree n of p, in units of 1 / 2 ^ 32 and rounded down, is x
abbrev pub is_root : ℕ → ℕ → ℕ → Bool
is_root n p x = nat_le (x ^ n) (p * 2 ^ (32 * n)) && nat_lt (p * 2 ^ (32 * n)) ((x + 1) ^ n)

-- k is the first 32 bits of that root's fraction, where its whole part is below w
abbrev pub is_fraction : ℕ → ℕ → ℕ → ℕ → Bool
is_fraction n p k zero = false
is_fraction n p k (suc w) = (nat_lt k (2 ^ 32) && is_root n p (w * 2 ^ 32 + k)) || is_fraction n p k w

-- each of the words is the fraction of the root of its prime
abbrev pub are_fractions : ℕ → List ℕ → List ℕ → Bool
are_fractions n [] [] = true
are_fractions n [] (k ∷ ks) = false
are_fractions n (p ∷ ps) [] = false
are_fractions n (p ∷ ps) (k ∷ ks) = is_fraction n p k 8 && are_fractions n ps ks
