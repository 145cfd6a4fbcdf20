use Rattle.std.proofs.Common.{refl}
use Rattle.digest.proofs.Standing.{examples_hold, sizes, ordered, ends_a_block, roots, zeros}
use Rattle.digest.proofs.examples.digest_of_abc.Goals as goal

pub returns : goal.returns
returns c = record {
  examples = examples_hold c.sha256.result.bytes c.sha256.ensures;
  sizes = sizes;
  order = ordered;
  compared = record { same = λ x y. refl; partial = λ x y. refl; rank = λ x y. refl };
  padding = ends_a_block;
  constants = roots;
  keys = zeros;
}
