-- What the writer makes of parts is read as these parts.
use Rattle.std.proofs.Common.{◌≡◌, ℕ, suc, ◌+◌, ◌*◌, ◌/◌, ◌%◌, ◌^◌, ◌<◌, Bool, true, false, cond, not, ◌||◌, eqb, leb, List, [], ◌∷◌, ◌++◌, length, is_some, Some, None, Ok, Option, sym, refl, ap, ◌∙◌, subst, arith, length-append}
use native.Mathlib.Nat.{div-div-eq-div-mul}
use Rattle.std.proofs.lemmas.List.{take_at, drop_at, take-append-le}
use Rattle.std.proofs.lemmas.Bool.{ne_eqb, eqb-true, le-ltb, and_parts}
use Rattle.std.proofs.lemmas.Option.{MatchOption-at_some}
use Rattle.update.specs.declared.parts.Address.{Address}
use Rattle.update.specs.Contents.{Contents}
use Rattle.update.specs.Layout.{map_of, author_bytes, address_bytes, counted_bytes, plain_bytes, layout, Fitting}
use Rattle.update.specs.Reading.{Read, cut_at, author_at, address_at, predecessors_at, value_at, seal_at, optional, stands, map_allowed, reads}
use Rattle.update.specs.Writing.{every, good_predecessors, good_value, good_seal, faults, writes}
use Rattle.update.proofs.Ascending.{ascending_same}
use Rattle.update.proofs.Back.{glue}
use Rattle.update.proofs.Forming.{is_ok, tested}
use Rattle.outcome.proofs.Steps.{ok_same, bind_then}

-- ---- each field is read from the front of its bytes

cut_forth : (total n : ℕ) (v rest : List ℕ) → length v ≡ n → cut_at total n (v ++ rest) ≡ Ok (v, rest)
cut_forth total n v rest h =
    let t = le-ltb (length (v ++ rest)) n (omega (arith, length-append v rest)) in
    simp (t, take_at v rest n h, drop_at v rest n h)

author_forth : (total a : ℕ) (rest : List ℕ) → a < 65536 → author_at total (author_bytes a ++ rest) ≡ Ok (a, rest)
author_forth total a rest h =
    let t = le-ltb (suc (suc (length rest))) 2 (omega arith) in
    let v : (a / 256 % 256) * 256 + a % 256 ≡ a = omega arith in
    simp (t, v)

row : (r : ℕ) → r < 2 ^ 32 → r / 16777216 % 256 * 16777216 + r / 65536 % 256 * 65536 + r / 256 % 256 * 256 + r % 256 ≡ r
row r h =
    let a : r / 65536 ≡ r / 256 / 256 = sym (div-div-eq-div-mul r 256 256) in
    let b : r / 16777216 ≡ r / 256 / 256 / 256 = sym (div-div-eq-div-mul r 65536 256) ∙ ap (λ (x : ℕ). x / 256) a in
    let c : r / 256 / 256 / 256 < 256 = omega arith in
    rw (a, b) (omega arith)

address_forth : (total : ℕ) (a : Address) (rest : List ℕ) → a.row < 2 ^ 32 → address_at total (address_bytes (Some a) ++ rest) ≡ Ok (a, rest)
address_forth total a rest h =
    let t = le-ltb (suc (suc (suc (suc (suc (suc (length rest))))))) 6 (omega arith) in
    simp (t, row a.row h)

value_forth : (total : ℕ) (v rest : List ℕ) → good_value v ≡ true → value_at total (counted_bytes 1 (Some v) ++ rest) ≡ Ok (v, rest)
value_forth total v rest h =
    let t = le-ltb (suc (length (v ++ rest))) 1 (omega arith) in
    let m : length v / 1 ≡ length v = omega arith in
    simp (t, m, h, cut_forth total (length v) v rest refl)

predecessors_forth : (total : ℕ) (v rest : List ℕ) → good_predecessors v ≡ true → predecessors_at total (counted_bytes 32 (Some v) ++ rest) ≡ Ok (v, rest)
predecessors_forth total v rest h =
    let a = and_parts (eqb (length v % 32) 0) _ h in
    let b = and_parts (leb 1 (length v / 32)) _ a.1 in
    let c = and_parts (leb (length v / 32) 8) _ b.1 in
    let z = eqb-true (length v % 32) 0 a.0 in
    let q : 32 * (length v / 32) ≡ length v = omega arith in
    let t = le-ltb (suc (length (v ++ rest))) 1 (omega arith) in
    let w = sym (take-append-le (32 * (length v / 32)) v rest (omega arith)) in
    let s = ascending_same 0 total (length v / 32) [] v (v ++ rest) w (omega (arith, length-append v rest)) (is_ok _ c.1) in
    simp (t, b.0, c.0, s, q, cut_forth total (length v) v rest refl)

optional_forth : {A : Type 0} (enc : Option A → List ℕ) → enc None ≡ [] → (r : List ℕ → Read A) (rest : List ℕ) (o : Option A) → ((v : A) → o ≡ Some v → r (enc (Some v) ++ rest) ≡ Ok (v, rest)) → optional (is_some o) (r (enc o ++ rest)) (enc o ++ rest) ≡ Ok (o, rest)
optional_forth enc n r rest None f = rw n
optional_forth enc n r rest (Some v) f = simp (f v refl)

-- ---- the map of the fields that are there has their bits

record Bits (x y z w : Bool) (m : ℕ) : Type 0 where
  good : map_allowed m ≡ true
  two : stands m 2 ≡ x
  four : stands m 4 ≡ y
  eight : stands m 8 ≡ z
  sixteen : stands m 16 ≡ w

flags : Bool → Bool → Bool → Bool → ℕ
flags x y z w = 1 + cond x 2 0 + cond y 4 0 + cond z 8 0 + cond w 16 0

-- for one of the maps, by computation
at : (x y z w : Bool) → map_allowed (flags x y z w) ≡ true → stands (flags x y z w) 2 ≡ x → stands (flags x y z w) 4 ≡ y → stands (flags x y z w) 8 ≡ z → stands (flags x y z w) 16 ≡ w → Bits x y z w (flags x y z w)
at x y z w a b c d e = record { good = a; two = b; four = c; eight = d; sixteen = e }

no_address : {G : Type 0} → ◌≡◌ {A = Bool} false true → G
no_address h = absurd (let z : ◌≡◌ {A = ℕ} 0 1 = cc in omega arith)

map_forth : (x y z w : Bool) → (x || not z) ≡ true → Bits x y z w (flags x y z w)
unfolding flags
map_forth true true true true h = at true true true true refl refl refl refl refl
map_forth true true true false h = at true true true false refl refl refl refl refl
map_forth true true false true h = at true true false true refl refl refl refl refl
map_forth true true false false h = at true true false false refl refl refl refl refl
map_forth true false true true h = at true false true true refl refl refl refl refl
map_forth true false true false h = at true false true false refl refl refl refl refl
map_forth true false false true h = at true false false true refl refl refl refl refl
map_forth true false false false h = at true false false false refl refl refl refl refl
map_forth false y true w h = no_address h
map_forth false true false true h = at false true false true refl refl refl refl refl
map_forth false true false false h = at false true false false refl refl refl refl refl
map_forth false false false true h = at false false false true refl refl refl refl refl
map_forth false false false false h = at false false false false refl refl refl refl refl

-- ---- the whole text

pub written_then_read : (t : List ℕ) (p : Contents) → Fitting p → writes p ≡ Ok t → reads t ≡ Ok p
unfolding flags
written_then_read t p f h =
    bind_then (faults p) (λ _. Ok (layout p)) t h λ u hu e.
    let c = tested p hu in
    let b = map_forth (is_some p.address) (is_some p.predecessors) (is_some p.value) (is_some p.seal) c.addressed in
    let A = address_bytes p.address in
    let P = counted_bytes 32 p.predecessors in
    let V = counted_bytes 1 p.value in
    let S = plain_bytes p.seal in
    let l = author_bytes p.author ++ (A ++ (P ++ (V ++ (S ++ [])))) in
    let n = suc (length l) in
    let a1 = author_forth n p.author (A ++ (P ++ (V ++ (S ++ [])))) f.author in
    let a2 = optional_forth address_bytes refl (address_at n) (P ++ (V ++ (S ++ []))) p.address (λ v k. address_forth n v _ (MatchOption-at_some _ _ v k f.row)) in
    let a3 = optional_forth (counted_bytes 32) refl (predecessors_at n) (V ++ (S ++ [])) p.predecessors (λ v k. predecessors_forth n v _ (subst (λ o. every o good_predecessors ≡ true) k c.predecessors)) in
    let a4 = optional_forth (counted_bytes 1) refl (value_at n) (S ++ []) p.value (λ v k. value_forth n v _ (subst (λ o. every o good_value ≡ true) k c.value)) in
    let a5 = optional_forth plain_bytes refl (seal_at n) [] p.seal (λ v k. cut_forth n 32 v _ (eqb-true _ _ (subst (λ o. every o good_seal ≡ true) k c.seal))) in
    let g : layout p ≡ map_of p ∷ l = glue refl A P V S refl refl refl refl refl refl in
    let z : eqb n 0 ≡ false = ne_eqb n 0 (λ k. omega arith) in
    subst (λ (x : List ℕ). reads x ≡ Ok p) (sym g ∙ ok_same _ _ e)
    (simp (z, b.good) (simp (b.two, b.four, b.eight, b.sixteen, a1, a2, a3, a4, a5)))
