-- What is shown of a test vector.
use Rattle.std.specs.Prelude.{ℕ, List, ◌++◌, codes}
use Rattle.hexadecimal.specs.Showing.{shown_bytes}
use Rattle.vectors.specs.declared.vector.Vector.{Vector}

-- a label and a digest
abbrev pub line_of : List ℕ → List ℕ → List ℕ
line_of label digest = label ++ codes ": " ++ shown_bytes digest

abbrev pub vector_shown : Vector → List ℕ
vector_shown v = line_of v.label.now v.digest.bytes
