-- The writer's checks pass exactly where the parts are formed; and how long their fields are.
use Rattle.std.proofs.Common.{◌≡◌, ℕ, ◌+◌, ◌*◌, ◌/◌, ◌%◌, ◌≤◌, Bool, true, not, ◌||◌, eqb, leb, List, [], length, is_some, IfSome, is_ok as isOk, Some, None, Ok, Err, Option, Result, sym, refl, arith, length-append}
use Rattle.std.proofs.lemmas.Bool.{eqb-true, eq-eqb, leb-true, le-leb, and_parts}
use Rattle.std.specs.List.Sorted.{IsStrictlySortedBy}
use Rattle.update.specs.declared.parts.Address.{Address}
use Rattle.update.specs.declared.refusal.Refusal.{Refusal}
use Rattle.update.specs.Contents.{Contents}
use Rattle.update.specs.Layout.{address_bytes, counted_bytes, plain_bytes, layout, Digests, Formed, TextOf}
use Rattle.update.specs.Writing.{every, good_predecessors, good_value, good_seal, faults, writes}
use Rattle.update.proofs.Ascending.{sorted_from_ascending, ascending_from_sorted, all_above_empty}
use Rattle.outcome.proofs.Steps.{ok_same, bind_then, pass}

pub is_ok : (r : Result (Unit {0}) Refusal) → isOk r ≡ true → r ≡ Ok tt
is_ok (Ok x) h = refl
is_ok (Err e) h = absurd (let z : ◌≡◌ {A = ℕ} 0 1 = cc in omega arith)

-- ---- a test of each field, and its fact

from_test : (o : Option (List ℕ)) (f : List ℕ → Bool) (P : List ℕ → Type 0) → ((l : List ℕ) → f l ≡ true → P l) → every o f ≡ true → IfSome o P
from_test None f P k h = tt
from_test (Some l) f P k h = k l h

to_test : (o : Option (List ℕ)) (f : List ℕ → Bool) (P : List ℕ → Type 0) → ((l : List ℕ) → P l → f l ≡ true) → IfSome o P → every o f ≡ true
to_test None f P k h = refl
to_test (Some l) f P k h = k l h

pub digests_from_test : (l : List ℕ) → good_predecessors l ≡ true → Digests l
unfolding IsStrictlySortedBy
digests_from_test l h =
    let a = and_parts (eqb (length l % 32) 0) _ h in
    let b = and_parts (leb 1 (length l / 32)) _ a.1 in
    let c = and_parts (leb (length l / 32) 8) _ b.1 in
    record {
      whole = eqb-true (length l % 32) 0 a.0;
      some = leb-true 1 (length l / 32) b.0;
      few = leb-true (length l / 32) 8 c.0;
      ascending = (sorted_from_ascending 0 (length l / 32) [] l (is_ok _ c.1)).1;
    }

pub test_from_digests : (l : List ℕ) → Digests l → good_predecessors l ≡ true
unfolding IsStrictlySortedBy
test_from_digests l d =
    let w : 32 * (length l / 32) ≤ length l = omega arith in
    let a = eq-eqb (length l % 32) 0 d.whole in
    let b = le-leb 1 (length l / 32) d.some in
    let c = le-leb (length l / 32) 8 d.few in
    let e = ascending_from_sorted 0 (length l / 32) [] l w (all_above_empty (length l / 32) l w, d.ascending) in
    simp (a, b, c, e)

value_from_test : (l : List ℕ) → good_value l ≡ true → (1 ≤ length l) × (length l ≤ 64)
value_from_test l h =
    let a = and_parts (leb 1 (length l)) _ h in
    (leb-true 1 (length l) a.0, leb-true (length l) 64 a.1)

test_from_value : (l : List ℕ) → (1 ≤ length l) × (length l ≤ 64) → good_value l ≡ true
test_from_value l h =
    let a = le-leb 1 (length l) h.0 in
    let b = le-leb (length l) 64 h.1 in
    simp (a, b)

-- ---- all of them

-- the tests that pass where there is no fault
pub record Tested (p : Contents) : Type 0 where
  pub addressed : (is_some p.address || not (is_some p.value)) ≡ true
  pub predecessors : every p.predecessors good_predecessors ≡ true
  pub value : every p.value good_value ≡ true
  pub seal : every p.seal good_seal ≡ true

pub tested : (p : Contents) → faults p ≡ Ok tt → Tested p
tested p h =
    let a = pass _ _ _ tt h in
    let b = pass _ _ _ tt a.1 in
    let c = pass _ _ _ tt b.1 in
    let d = pass _ _ _ tt c.1 in
    record { addressed = a.0; predecessors = b.0; value = c.0; seal = d.0 }

pub no_faults : (p : Contents) → Tested p → faults p ≡ Ok tt
no_faults p t = simp (t.addressed, t.predecessors, t.value, t.seal)

pub formed : (p : Contents) → Tested p → Formed p
formed p t = record {
  addressed = t.addressed;
  predecessors = from_test p.predecessors good_predecessors Digests digests_from_test t.predecessors;
  value = from_test p.value good_value _ value_from_test t.value;
  seal = from_test p.seal good_seal (λ s. length s ≡ 32) (λ l. eqb-true (length l) 32) t.seal;
}

pub tested_from_formed : (p : Contents) → Formed p → Tested p
tested_from_formed p f = record {
  addressed = f.addressed;
  predecessors = to_test p.predecessors good_predecessors Digests test_from_digests f.predecessors;
  value = to_test p.value good_value _ test_from_value f.value;
  seal = to_test p.seal good_seal (λ s. length s ≡ 32) (λ l. eq-eqb (length l) 32) f.seal;
}

pub text_of_written : (p : Contents) (t : List ℕ) → writes p ≡ Ok t → TextOf p t
text_of_written p t h =
    bind_then (faults p) (λ _. Ok (layout p)) t h λ u hu e.
    record { formed = formed p (tested p hu); laid_out = sym (ok_same _ _ e) }

pub written_of_text : (p : Contents) (t : List ℕ) → TextOf p t → writes p ≡ Ok t
written_of_text p t x = rw (no_faults p (tested_from_formed p x.formed), x.laid_out)

-- ---- lengths

pub address_length : (a : Option Address) → length (address_bytes a) ≤ 6
address_length None = omega arith
address_length (Some a) = omega arith

pub predecessors_length : (o : Option (List ℕ)) → IfSome o Digests → length (counted_bytes 32 o) ≤ 257
predecessors_length None h = omega arith
predecessors_length (Some l) h = omega (arith, h.whole, h.few)

pub value_length : (o : Option (List ℕ)) → IfSome o (λ v. (1 ≤ length v) × (length v ≤ 64)) → length (counted_bytes 1 o) ≤ 65
value_length None h = omega arith
value_length (Some l) h = omega (arith, h.1)

pub seal_length : (o : Option (List ℕ)) → IfSome o (λ s. length s ≡ 32) → length (plain_bytes o) ≤ 32
seal_length None h = omega arith
seal_length (Some l) h = omega (arith, h)

-- what each field takes of a text
pub record Lengths (p : Contents) : Type 0 where
  pub address : length (address_bytes p.address) ≤ 6
  pub predecessors : length (counted_bytes 32 p.predecessors) ≤ 257
  pub value : length (counted_bytes 1 p.value) ≤ 65
  pub seal : length (plain_bytes p.seal) ≤ 32

pub lengths : (p : Contents) → Formed p → Lengths p
lengths p f = record {
  address = address_length p.address;
  predecessors = predecessors_length p.predecessors f.predecessors;
  value = value_length p.value f.value;
  seal = seal_length p.seal f.seal;
}

pub text_length : (p : Contents) → Formed p → (3 ≤ length (layout p)) × (length (layout p) ≤ 363)
text_length p f =
    let l = lengths p f in
    let e : length (layout p) ≡ 3 + length (address_bytes p.address) + length (counted_bytes 32 p.predecessors) + length (counted_bytes 1 p.value) + length (plain_bytes p.seal) = simp length-append (omega arith) in
    (omega arith, omega arith)
