use Rattle.std.proofs.Common.{◌≡◌, ◌-◌, []}
use Rattle.update.specs.Reading.{ascending_at}
use Rattle.update.proofs.reader.Reader.check_digests.Given as goal

-- what is left of the digests answers for all of them
abbrev pub invariant-loop-k : goal.invariant-loop-k
invariant-loop-k l = ascending_at l.self.total l.before (l.count - l._k) l.self.rest.now ≡ ascending_at l.fn.self.total [] l.count l.fn.self.rest.now
