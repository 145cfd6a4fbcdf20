-- Byte strings in their usual order.
use Rattle.std.specs.Prelude.{ℕ, Bool, List}
use Rattle.std.specs.declared.cmp.Ordering.{Ordering}
use Rattle.std.specs.Cmp.Lexicographic.{slice_cmp}
use Rattle.std.specs.Ordering.{is_lt, nat_cmp}

-- the one order of bytes, digests and whatever is made of them
abbrev pub bytes_rank : List ℕ → List ℕ → Ordering
bytes_rank = slice_cmp nat_cmp

abbrev pub below : List ℕ → List ℕ → Bool
below a b = is_lt (bytes_rank a b)
