-- How a text is laid out: a map byte, then the fields whose bit stands in it, in the order of their bits.
use Rattle.std.specs.Prelude.{◌≡◌, ℕ, ◌+◌, ◌/◌, ◌%◌, ◌^◌, ◌<◌, ◌≤◌, true, cond, not, ◌||◌, List, [], ◌∷◌, ◌++◌, length, is_some, IfSome, Some, None, Option}
use Rattle.std.specs.List.Sorted.{IsStrictlySortedBy}
use Rattle.update.specs.declared.layout.Field.{Field}
use Rattle.update.specs.declared.layout.Field.TheVariants.{Author, Predecessors, Value, Seal}
use Rattle.update.specs.declared.layout.Field.TheVariants.{Address as AddressBit}
use Rattle.update.specs.declared.parts.Address.{Address}
use Rattle.update.specs.Contents.{Contents}
use Rattle.outcome.specs.Order.{bytes_rank}
use Rattle.update.specs.Order.{digests_in}

abbrev pub bit_of : Field → ℕ
bit_of Author = 1
bit_of AddressBit = 2
bit_of Predecessors = 4
bit_of Value = 8
bit_of Seal = 16

abbrev pub map_of : Contents → ℕ
map_of p =
    1 + cond (is_some p.address) 2 0 + cond (is_some p.predecessors) 4 0
    + cond (is_some p.value) 8 0 + cond (is_some p.seal) 16 0

abbrev pub author_bytes : ℕ → List ℕ
author_bytes a = (a / 256 % 256) ∷ (a % 256) ∷ []

abbrev pub address_bytes : Option Address → List ℕ
address_bytes None = []
address_bytes (Some a) =
    a.table
    ∷ (a.row / 16777216 % 256) ∷ (a.row / 65536 % 256) ∷ (a.row / 256 % 256) ∷ (a.row % 256)
    ∷ a.column ∷ []

-- a field behind a byte that counts its units
abbrev pub counted_bytes : ℕ → Option (List ℕ) → List ℕ
counted_bytes unit None = []
counted_bytes unit (Some l) = (length l / unit) ∷ l

abbrev pub plain_bytes : Option (List ℕ) → List ℕ
plain_bytes None = []
plain_bytes (Some l) = l

abbrev pub layout : Contents → List ℕ
layout p =
    (map_of p ∷ []) ++ author_bytes p.author ++ address_bytes p.address
    ++ counted_bytes 32 p.predecessors ++ counted_bytes 1 p.value ++ plain_bytes p.seal

-- 1 to 8 digests, strictly ascending
pub record Digests (l : List ℕ) : Type 0 where
  pub whole : length l % 32 ≡ 0
  pub some : 1 ≤ length l / 32
  pub few : length l / 32 ≤ 8
  pub ascending : IsStrictlySortedBy bytes_rank (digests_in l)

-- what the parts of a text are
pub record Formed (p : Contents) : Type 0 where
  pub addressed : (is_some p.address || not (is_some p.value)) ≡ true
  pub predecessors : IfSome p.predecessors Digests
  pub value : IfSome p.value (λ v. (1 ≤ length v) × (length v ≤ 64))
  pub seal : IfSome p.seal (λ s. length s ≡ 32)

-- the numbers fit their fields, as those of the code do by their types
pub record Fitting (p : Contents) : Type 0 where
  pub author : p.author < 65536
  pub row : IfSome p.address (λ a. a.row < 2 ^ 32)

-- t is the text of these parts
pub record TextOf (p : Contents) (t : List ℕ) : Type 0 where
  pub formed : Formed p
  pub laid_out : t ≡ layout p
