-- The update text, read from its front: each field answers what it holds and what follows it, or the refusal of the first check that fails.
-- `total` is the length of the whole text, so that a place in it is `total` less what is left.
use Rattle.std.specs.Prelude.{ℕ, zero, suc, ◌+◌, ◌-◌, ◌*◌, Bool, true, false, cond, not, ◌&&◌, ◌||◌, List, [], length, take, drop, Some, None, Ok, Err, Option, Result, ◌==◌, bit_and, nat_le, nat_lt, slice_index}
use Rattle.update.specs.declared.parts.Address.{Address}
use Rattle.update.specs.declared.refusal.Refusal.{Refusal}
use Rattle.update.specs.declared.refusal.Refusal.TheVariants.{BadLength, BadMap, BadPredecessors, BadValueLength}
use Rattle.update.specs.Contents.{Contents}
use Rattle.outcome.specs.Order.{below}
use Rattle.outcome.specs.Outcomes.{bind}

-- a field at the front, and what follows it
abbrev pub Read : Type 0 → Type 0
Read A = Result (A × List ℕ) Refusal

-- n bytes
abbrev pub cut_at : ℕ → ℕ → List ℕ → Read (List ℕ)
cut_at total n l = cond (nat_lt (length l) n) (Err (BadLength total)) (Ok (take n l, drop n l))

-- a byte from 1 to most
abbrev pub count_at : ℕ → ℕ → Refusal → List ℕ → Read ℕ
count_at total most fault l =
    cond (nat_lt (length l) 1) (Err (BadLength total))
    (cond (nat_le 1 (slice_index l 0) && nat_le (slice_index l 0) most) (Ok (slice_index l 0, drop 1 l)) (Err fault))

abbrev pub author_at : ℕ → List ℕ → Read ℕ
author_at total l =
    cond (nat_lt (length l) 2) (Err (BadLength total))
    (Ok (slice_index l 0 * 256 + slice_index l 1, drop 2 l))

abbrev pub address_at : ℕ → List ℕ → Read Address
address_at total l =
    cond (nat_lt (length l) 6) (Err (BadLength total))
    (Ok (
      record {
        table = slice_index l 0;
        row = slice_index l 1 * 16777216 + slice_index l 2 * 65536 + slice_index l 3 * 256 + slice_index l 4;
        column = slice_index l 5;
      },
      drop 6 l,
    ))

-- n digests, each whole, then above the one before it; the first is above the empty string
abbrev pub ascending_at : ℕ → List ℕ → ℕ → List ℕ → Result (Unit {0}) Refusal
ascending_at total before zero l = Ok tt
ascending_at total before (suc n) l =
    bind (cut_at total 32 l) λ d.
    cond (below before d.0) (ascending_at total d.0 n d.1) (Err (BadPredecessors (total - length l)))

-- a count, then that many digests
abbrev pub predecessors_at : ℕ → List ℕ → Read (List ℕ)
predecessors_at total l =
    bind (count_at total 8 (BadPredecessors (total - length l)) l) λ n.
    bind (ascending_at total [] n.0 n.1) λ _.
    cut_at total (32 * n.0) n.1

-- a length, then that many bytes
abbrev pub value_at : ℕ → List ℕ → Read (List ℕ)
value_at total l =
    bind (count_at total 64 (BadValueLength (total - length l)) l) λ n.
    cut_at total n.0 n.1

abbrev pub seal_at : ℕ → List ℕ → Read (List ℕ)
seal_at total l = cut_at total 32 l

-- a field that is there only if its bit stands
abbrev pub optional : {A : Type 0} → Bool → Read A → List ℕ → Read (Option A)
optional true r l = bind r (λ p. Ok (Some p.0, p.1))
optional false r l = Ok (None, l)

abbrev pub stands : ℕ → ℕ → Bool
stands map mask = not (bit_and map mask == 0)

-- bits 5 to 7 are clear, the author's stands, and the value's only with the address's
abbrev pub map_allowed : ℕ → Bool
map_allowed map = nat_lt map 32 && (stands map 1 && (not (stands map 8) || stands map 2))

abbrev pub end_at : ℕ → List ℕ → Result (Unit {0}) Refusal
end_at total l = cond (length l == 0) (Ok tt) (Err (BadLength (total - length l)))

abbrev pub fields_at : ℕ → ℕ → List ℕ → Result Contents Refusal
fields_at total map l =
    bind (author_at total l) λ a.
    bind (optional (stands map 2) (address_at total a.1) a.1) λ d.
    bind (optional (stands map 4) (predecessors_at total d.1) d.1) λ p.
    bind (optional (stands map 8) (value_at total p.1) p.1) λ v.
    bind (optional (stands map 16) (seal_at total v.1) v.1) λ s.
    bind (end_at total s.1) λ _.
    Ok (record { author = a.0; address = d.0; predecessors = p.0; value = v.0; seal = s.0 })

-- the whole text
abbrev pub reads : List ℕ → Result Contents Refusal
reads t =
    cond (length t == 0) (Err (BadLength 0))
    (cond (map_allowed (slice_index t 0)) (fields_at (length t) (slice_index t 0) (drop 1 t)) (Err BadMap))
