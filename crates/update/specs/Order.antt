-- Digests that stand one behind the other.
use Rattle.std.specs.Prelude.{ℕ, ◌/◌, List, length}
use Rattle.std.specs.Simd.{first_chunks}

-- digests of 32 bytes
abbrev pub digests_in : List ℕ → List (List ℕ)
digests_in l = first_chunks 32 (length l / 32) l
