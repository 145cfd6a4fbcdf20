-- Digests in the order of their bytes.
use Rattle.std.specs.Prelude.{◌≡◌, Bool, Option, Some, nat_eq}
use Rattle.std.specs.declared.cmp.Ordering.{Ordering}
use Rattle.std.specs.Cmp.Lexicographic.{pointwise}
use Rattle.std.specs.Ordering.{on}
use Rattle.digest.specs.declared.Digest.{Digest}
use Rattle.outcome.specs.Order.{bytes_rank}

abbrev pub digest_rank : Digest → Digest → Ordering
digest_rank = on (λ d. d.bytes) bytes_rank

-- what `==`, `partial_cmp` and `cmp` answer
pub record ComparedByBytes (eq : Digest → Digest → Bool) (partial_cmp : Digest → Digest → Option Ordering) (cmp : Digest → Digest → Ordering) : Type 0 where
  pub same : (x y : Digest) → eq x y ≡ pointwise nat_eq x.bytes y.bytes
  pub partial : (x y : Digest) → partial_cmp x y ≡ Some (digest_rank x y)
  pub rank : (x y : Digest) → cmp x y ≡ digest_rank x y
