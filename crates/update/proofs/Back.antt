-- A text that the reader accepts is what the writer makes of its parts.
use Rattle.std.proofs.Common.{◌≡◌, ℕ, zero, suc, ◌+◌, ◌*◌, ◌/◌, ◌%◌, ◌<◌, Bool, true, false, cond, not, ◌&&◌, ◌||◌, eqb, ltb, leb, ◌⊎◌, List, [], ◌∷◌, ◌++◌, length, take, is_some, Some, None, Ok, Option, sym, refl, ap, ◌∙◌, subst, inl, inr, ⊎_elim, append_assoc, append-nil, arith, take-append-drop}
use Rattle.std.proofs.lemmas.List.{length-take-le, nil_from_length, take-take}
use Rattle.std.proofs.lemmas.Bool.{ltb-true, cases_lt, ltb-false, eqb-true, eq-eqb, and_parts}
use Rattle.update.specs.declared.parts.Address.{Address}
use Rattle.update.specs.declared.refusal.Refusal.{Refusal}
use Rattle.update.specs.Contents.{Contents}
use Rattle.update.specs.Laws.{Bytes}
use Rattle.update.specs.Layout.{map_of, author_bytes, address_bytes, counted_bytes, plain_bytes, layout}
use Rattle.update.specs.Reading.{Read, cut_at, count_at, author_at, address_at, ascending_at, predecessors_at, value_at, seal_at, optional, stands, map_allowed, end_at, reads}
use Rattle.update.specs.Writing.{every, good_predecessors, good_value, good_seal, writes}
use Rattle.update.proofs.Ascending.{ascending_same}
use Rattle.update.proofs.Forming.{Tested, no_faults}
use Rattle.outcome.proofs.Steps.{no_ok, ok_same, bind_then, pass, stay}

-- ---- what each field held stands at the front

cut_back : (total n : ℕ) (l : List ℕ) (p : List ℕ × List ℕ) → cut_at total n l ≡ Ok p → (l ≡ p.0 ++ p.1) × (p.0 ≡ take n l) × (length p.0 ≡ n)
cut_back total n l p h =
    let k = stay (ltb (length l) n) _ _ p h in
    let le = ltb-false (length l) n k.0 in
    subst (λ (q : List ℕ × List ℕ). (l ≡ q.0 ++ q.1) × (q.0 ≡ take n l) × (length q.0 ≡ n)) (ok_same _ _ k.1) (sym (take-append-drop n l), refl, length-take-le n l le)

count_back : (total most : ℕ) (fault : Refusal) (l : List ℕ) (p : ℕ × List ℕ) → count_at total most fault l ≡ Ok p → (l ≡ p.0 ∷ p.1) × ((leb 1 p.0 && leb p.0 most) ≡ true)
count_back total most fault [] p h = absurd (no_ok _ _ h)
count_back total most fault (n ∷ l) p h =
    let b = pass (leb 1 n && leb n most) _ _ p (stay (ltb (suc (length l)) 1) _ _ p h).1 in
    subst (λ (q : ℕ × List ℕ). (n ∷ l ≡ q.0 ∷ q.1) × ((leb 1 q.0 && leb q.0 most) ≡ true)) (ok_same _ _ b.1) (refl, b.0)

two : (x y : ℕ) → x < 256 → y < 256 → ((x * 256 + y) / 256 % 256 ≡ x) × ((x * 256 + y) % 256 ≡ y)
two x y a b = (omega arith, omega arith)

author_back : (total : ℕ) (l : List ℕ) (p : ℕ × List ℕ) → Bytes l → author_at total l ≡ Ok p → (l ≡ author_bytes p.0 ++ p.1) × Bytes p.1
author_back total [] p b h = absurd (no_ok _ _ h)
author_back total (x ∷ []) p b h = absurd (no_ok _ _ h)
author_back total (x ∷ y ∷ l) p b h =
    let e = ok_same _ _ (stay (ltb (suc (suc (length l))) 2) _ _ p h).1 in
    let d = two x y (b 0) (b 1) in
    subst (λ (q : ℕ × List ℕ). (x ∷ y ∷ l ≡ author_bytes q.0 ++ q.1) × Bytes q.1) e (rw (d.0, d.1), λ i. b (suc (suc i)))

four : (w x y z : ℕ) → w < 256 → x < 256 → y < 256 → z < 256 → (n : ℕ) → n ≡ w * 16777216 + x * 65536 + y * 256 + z → (n / 16777216 % 256 ≡ w) × (n / 65536 % 256 ≡ x) × (n / 256 % 256 ≡ y) × (n % 256 ≡ z)
four w x y z a b c d n e = (omega arith, omega arith, omega arith, omega arith)

address_back : (total : ℕ) (l : List ℕ) (p : Address × List ℕ) → Bytes l → address_at total l ≡ Ok p → l ≡ address_bytes (Some p.0) ++ p.1
address_back total [] p b h = absurd (no_ok _ _ h)
address_back total (t ∷ []) p b h = absurd (no_ok _ _ h)
address_back total (t ∷ w ∷ []) p b h = absurd (no_ok _ _ h)
address_back total (t ∷ w ∷ x ∷ []) p b h = absurd (no_ok _ _ h)
address_back total (t ∷ w ∷ x ∷ y ∷ []) p b h = absurd (no_ok _ _ h)
address_back total (t ∷ w ∷ x ∷ y ∷ z ∷ []) p b h = absurd (no_ok _ _ h)
address_back total (t ∷ w ∷ x ∷ y ∷ z ∷ c ∷ l) p b h =
    let e = ok_same _ _ (stay (ltb (length (t ∷ w ∷ x ∷ y ∷ z ∷ c ∷ l)) 6) _ _ p h).1 in
    let d = four w x y z (b 1) (b 2) (b 3) (b 4) _ refl in
    subst (λ (q : Address × List ℕ). t ∷ w ∷ x ∷ y ∷ z ∷ c ∷ l ≡ address_bytes (Some q.0) ++ q.1) e (rw (d.0, d.1, d.2, d.3))

value_back : (total : ℕ) (l : List ℕ) (p : List ℕ × List ℕ) → value_at total l ≡ Ok p → (l ≡ counted_bytes 1 (Some p.0) ++ p.1) × (good_value p.0 ≡ true)
value_back total l p h =
    bind_then (count_at total 64 _ l) _ p h λ n hn hc.
    let a = count_back total 64 _ l n hn in
    let b = cut_back total n.0 n.1 p hc in
    let m : length p.0 / 1 ≡ n.0 = omega (arith, b.2) in
    (rw m (a.0 ∙ ap (λ (x : List ℕ). n.0 ∷ x) b.0), rw b.2 a.1)

predecessors_back : (total : ℕ) (l : List ℕ) (p : List ℕ × List ℕ) → predecessors_at total l ≡ Ok p → (l ≡ counted_bytes 32 (Some p.0) ++ p.1) × (good_predecessors p.0 ≡ true)
predecessors_back total l p h =
    bind_then (count_at total 8 _ l) _ p h λ n hn h1.
    bind_then (ascending_at total [] n.0 n.1) _ p h1 λ u hu hc.
    let a = count_back total 8 _ l n hn in
    let b = cut_back total (32 * n.0) n.1 p hc in
    let q : length p.0 / 32 ≡ n.0 = omega (arith, b.2) in
    let z : length p.0 % 32 ≡ 0 = omega (arith, b.2) in
    let r = and_parts (leb 1 n.0) (leb n.0 8) a.1 in
    let t : take (32 * n.0) n.1 ≡ take (32 * n.0) p.0 = sym (take-take (32 * n.0) (32 * n.0) n.1 (omega arith)) ∙ ap (take (32 * n.0)) (sym b.1) in
    let s = ascending_same total 0 n.0 [] n.1 p.0 t (omega (arith, b.2)) hu in
    (rw q (a.0 ∙ ap (λ (x : List ℕ). n.0 ∷ x) b.0), simp (q, z, r.0, r.1, s))

seal_back : (total : ℕ) (l : List ℕ) (p : List ℕ × List ℕ) → seal_at total l ≡ Ok p → (l ≡ plain_bytes (Some p.0) ++ p.1) × (good_seal p.0 ≡ true)
seal_back total l p h = let w = cut_back total 32 l p h in (w.0, eq-eqb _ _ w.2)

optional_back : {A : Type 0} (enc : Option A → List ℕ) (good : Option A → Type 0) → enc None ≡ [] → good None → (b : Bool) (r : Read A) (l : List ℕ) → ((q : A × List ℕ) → r ≡ Ok q → (l ≡ enc (Some q.0) ++ q.1) × good (Some q.0)) → (p : Option A × List ℕ) → optional b r l ≡ Ok p → (l ≡ enc p.0 ++ p.1) × (is_some p.0 ≡ b) × good p.0
optional_back {A} enc good n g true r l f p h =
    bind_then r _ p h λ q hq hp.
    let k = f q hq in
    let P : Option A × List ℕ → Type 0 = λ x. (l ≡ enc x.0 ++ x.1) × (is_some x.0 ≡ true) × good x.0 in
    subst P (ok_same _ _ hp) (k.0, refl, k.1)
optional_back {A} enc good n g false r l f p h =
    let P : Option A × List ℕ → Type 0 = λ x. (l ≡ enc x.0 ++ x.1) × (is_some x.0 ≡ false) × good x.0 in
    subst P (ok_same _ _ h) (rw n, refl, g)

-- ---- the map is that of the fields that are there: a test at each of the 32

abbrev bits : ℕ → ℕ
bits m = 1 + cond (stands m 2) 2 0 + cond (stands m 4) 4 0 + cond (stands m 8) 8 0 + cond (stands m 16) 16 0

right : ℕ → Bool
right m = not (map_allowed m) || eqb m (bits m)

all_right : ℕ → Bool
all_right zero = true
all_right (suc n) = right n && all_right n

from : (n m : ℕ) → all_right n ≡ true → m < n → right m ≡ true
unfolding all_right
from zero m h l = absurd (omega arith)
from (suc n) m h l =
    let a = and_parts (right n) (all_right n) h in
    ⊎_elim (λ e. subst (λ (k : ℕ). right k ≡ true) (sym e) a.0) (λ k. from n m a.1 k) (last m n l)
  where
    last : (m n : ℕ) → m < suc n → (m ≡ n) ⊎ (m < n)
    last m n l = ⊎_elim (λ x. inr x) (λ x. inl (omega arith)) (cases_lt m n)

map_back : (m : ℕ) → map_allowed m ≡ true → m ≡ bits m
unfolding all_right right
map_back m h =
    let l = ltb-true m 32 (and_parts _ (stands m 1 && (not (stands m 8) || stands m 2)) h).0 in
    eqb-true m (bits m) (simp h at (from 32 m refl l))

or_swap : (x y : Bool) → (not y || x) ≡ true → (x || not y) ≡ true
or_swap true y h = refl
or_swap false true h = h
or_swap false false h = refl

map_allows : (m : ℕ) → map_allowed m ≡ true → (not (stands m 8) || stands m 2) ≡ true
map_allows m h = (and_parts (stands m 1) _ (and_parts (ltb m 32) _ h).1).1

-- ---- the whole text

-- the parts, one behind the other
pub glue : {m n hi lo : ℕ} {l r1 r2 r3 r4 r5 : List ℕ} → n ≡ m → (A P V S : List ℕ) → l ≡ hi ∷ lo ∷ r1 → r1 ≡ A ++ r2 → r2 ≡ P ++ r3 → r3 ≡ V ++ r4 → r4 ≡ S ++ r5 → r5 ≡ [] → n ∷ hi ∷ lo ∷ (A ++ P ++ V ++ S) ≡ m ∷ l
glue e A P V S a b c d f g = simp (e, a, b, c, d, f, g, append-nil, append_assoc)

accepted : (q : Contents) → Tested q → writes q ≡ Ok (layout q)
accepted q t = rw (no_faults q t)

pub read_then_written : (t : List ℕ) (p : Contents) → Bytes t → reads t ≡ Ok p → writes p ≡ Ok t
read_then_written [] p b h = absurd (no_ok _ _ h)
read_then_written (m ∷ l) p b h =
    let s = stay (eqb (suc (length l)) 0) _ _ p h in
    let g = pass (map_allowed m) _ _ p s.1 in
    bind_then (author_at (suc (length l)) l) _ p g.1 λ a ha h1.
    bind_then (optional (stands m 2) (address_at (suc (length l)) a.1) a.1) _ p h1 λ d hd h2.
    bind_then (optional (stands m 4) (predecessors_at (suc (length l)) d.1) d.1) _ p h2 λ c hc h3.
    bind_then (optional (stands m 8) (value_at (suc (length l)) c.1) c.1) _ p h3 λ v hv h4.
    bind_then (optional (stands m 16) (seal_at (suc (length l)) v.1) v.1) _ p h4 λ z hz h5.
    bind_then (end_at (suc (length l)) z.1) _ p h5 λ u hu h6.
    let e1 = author_back _ l a (λ i. b (suc i)) ha in
    let e2 = optional_back address_bytes (λ _. Unit {0}) refl tt (stands m 2) _ a.1 (λ q k. (address_back _ a.1 q e1.1 k, tt)) d hd in
    let e3 = optional_back (counted_bytes 32) (λ o. every o good_predecessors ≡ true) refl refl (stands m 4) _ d.1 (predecessors_back _ d.1) c hc in
    let e4 = optional_back (counted_bytes 1) (λ o. every o good_value ≡ true) refl refl (stands m 8) _ c.1 (value_back _ c.1) v hv in
    let e5 = optional_back plain_bytes (λ o. every o good_seal ≡ true) refl refl (stands m 16) _ v.1 (seal_back _ v.1) z hz in
    let e6 = nil_from_length z.1 (eqb-true (length z.1) 0 (pass (eqb (length z.1) 0) _ _ tt hu).0) in
    let q : Contents = record { author = a.0; address = d.0; predecessors = c.0; value = v.0; seal = z.0 } in
    let t : (is_some d.0 || not (is_some v.0)) ≡ true = rw (e2.1, e4.1) (or_swap (stands m 2) (stands m 8) (map_allows m g.0)) in
    let o : map_of q ≡ m = rw (e2.1, e3.1, e4.1, e5.1) (sym (map_back m g.0)) in
    subst (λ (x : Contents). writes x ≡ Ok (m ∷ l)) (ok_same _ _ h6)
    (accepted q (record { addressed = t; predecessors = e3.2; value = e4.2; seal = e5.2 })
    ∙ ap Ok (glue o (address_bytes d.0) (counted_bytes 32 c.0) (counted_bytes 1 v.0) (plain_bytes z.0) e1.0 e2.0 e3.0 e4.0 e5.0 e6))
