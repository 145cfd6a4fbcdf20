-- A buffer that is written from its start, part by part.
use Rattle.std.specs.Prelude.{◌≡◌, ℕ, ◌+◌, ◌≤◌, List, length}
use Rattle.update.specs.declared.writer.Writer.{Writer}
use Rattle.outcome.specs.Buffers.{placed}

abbrev pub HasRoom : Writer → List ℕ → Type 0
HasRoom w part = w.end + length part ≤ length w.out.now

-- the part stands behind what was written before, in the same buffer
pub record Wrote (w : Writer) (part : List ℕ) (w' : Writer) : Type 0 where
  pub same : w'.out.ghost_name ≡ w.out.ghost_name
  pub bytes : w'.out.now ≡ placed w.end part w.out.now
  pub size : length w'.out.now ≡ length w.out.now
  pub end : w'.end ≡ w.end + length part
