use Rattle.std.proofs.Common.{◌+◌, ◌%◌, ◌^◌, get_or, rules}
use Rattle.digest.specs.Sha256.{sums}
use Rattle.digest.proofs.Arrays.{made_from_fn}
use Rattle.digest.proofs.compression.add_words.Goals as goal

pub returns : goal.returns
unfolding sums
returns c = made_from_fn _ (λ i. (get_or c.args.s i 0 + get_or c.args.v i 0) % 2 ^ 32) _ (λ i y q k. search rules) c.from_fn.result 8 0 c.from_fn.ensures.items
