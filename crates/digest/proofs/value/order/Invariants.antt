use Rattle.std.proofs.Common.{◌≡◌, length}
use Rattle.outcome.specs.Order.{bytes_rank}
use Rattle.digest.proofs.value.order.Given as goal

abbrev pub invariant-loop-x : goal.invariant-loop-x
invariant-loop-x l =
    (bytes_rank l.a l.b ≡ bytes_rank l.x-iterator.a.rest.now l.x-iterator.b.rest.now)
    × (length l.x-iterator.a.rest.now ≡ length l.x-iterator.b.rest.now)
