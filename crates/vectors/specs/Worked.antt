-- The worked examples of every crate, as one statement.
use Rattle.std.specs.Prelude.{ℕ, List}
use Rattle.digest.specs.Examples.{Examples as DigestExamples}
use Rattle.update.specs.Examples.{Examples as TextExamples}

-- of a text and a digest
pub record WorkedExamples (text digest : List ℕ) : Type 0 where
  pub texts : TextExamples text
  pub digests : DigestExamples digest
