-- Digests that the reader finds ascending, and digests in order.
use Rattle.std.proofs.Common.{◌≡◌, ℕ, zero, suc, ◌+◌, ◌-◌, ◌*◌, ◌≤◌, Bool, true, false, cond, ltb, List, [], ◌∷◌, length, take, drop, is_ok, Ok, Err, Ordering, Less, Equal, Greater, sym, refl, ap, ◌∙◌, subst, arith, length-drop}
use Rattle.std.proofs.lemmas.List.{length-take-le, take-take, drop-take}
use Rattle.std.proofs.lemmas.Bool.{ltb-false, le-ltb}
use Rattle.std.specs.List.{AllByRecursion}
use Rattle.std.specs.Cmp.{nat_cmp_total}
use Rattle.std.specs.Ordering.{is_lt}
use Rattle.std.specs.List.Sorted.{IsStrictlySortedBy}
use Rattle.update.specs.declared.refusal.Refusal.{Refusal}
use Rattle.update.specs.declared.refusal.Refusal.TheVariants.{BadPredecessors}
use Rattle.std.specs.Simd.{first_chunks}
use Rattle.outcome.specs.Order.{bytes_rank, below}
use Rattle.update.specs.Reading.{cut_at, ascending_at}
use Rattle.outcome.proofs.Steps.{ok_same, bind_then, pass, stay}
use Rattle.std.specs.Cmp.Lexicographic.{lists_total}

-- one digest of those that are left
pub ascending_more : (total : ℕ) (before l : List ℕ) (n m : ℕ) (p : List ℕ × List ℕ) → n ≡ suc m → cut_at total 32 l ≡ Ok p → below before p.0 ≡ true → ascending_at total before n l ≡ ascending_at total p.0 m p.1
ascending_more total before l n m p e h b = simp (e, h, b)

pub ascending_cut : (total : ℕ) (before l : List ℕ) (n m : ℕ) (f : Refusal) → n ≡ suc m → cut_at total 32 l ≡ Err f → ascending_at total before n l ≡ Err f
ascending_cut total before l n m f e h = simp (e, h)

pub ascending_not : (total : ℕ) (before l : List ℕ) (n m : ℕ) (p : List ℕ × List ℕ) → n ≡ suc m → cut_at total 32 l ≡ Ok p → below before p.0 ≡ false → ascending_at total before n l ≡ Err (BadPredecessors (total - length l))
ascending_not total before l n m p e h b = simp (e, h, b)

-- the first of the digests, and the others
pub record Opened (total n : ℕ) (before l : List ℕ) : Type 0 where
  pub whole : 32 ≤ length l
  pub above : below before (take 32 l) ≡ true
  pub rest : ascending_at total (take 32 l) n (drop 32 l) ≡ Ok tt

pub ascending_open : (total n : ℕ) (before l : List ℕ) → ascending_at total before (suc n) l ≡ Ok tt → Opened total n before l
ascending_open total n before l h =
    bind_then (cut_at total 32 l) _ tt h λ d hd hr.
    let k = stay (ltb (length l) 32) _ _ d hd in
    let F : List ℕ × List ℕ → Type 0 = λ p. cond (below before p.0) (ascending_at total p.0 n p.1) (Err (BadPredecessors (total - length l))) ≡ Ok tt in
    let c = pass (below before (take 32 l)) _ _ tt (subst F (sym (ok_same _ _ k.1)) hr) in
    record { whole = ltb-false (length l) 32 k.0; above = c.0; rest = c.1 }

pub ascending_whole : (total n : ℕ) (before l : List ℕ) → ascending_at total before n l ≡ Ok tt → 32 * n ≤ length l
ascending_whole total zero before l h = omega arith
ascending_whole total (suc n) before l h =
    let a = ascending_open total n before l h in
    omega (arith, a.whole, length-drop 32 l, ascending_whole total n (take 32 l) (drop 32 l) a.rest)

-- only the digests count, and not what follows them or where the text ends
pub ascending_same : (total total' n : ℕ) (before l l' : List ℕ) → take (32 * n) l ≡ take (32 * n) l' → 32 * n ≤ length l' → ascending_at total before n l ≡ Ok tt → ascending_at total' before n l' ≡ Ok tt
ascending_same total total' zero before l l' e w h = refl
ascending_same total total' (suc n) before l l' e w h =
    let a = ascending_open total n before l h in
    let m : 32 * suc n ≡ 32 + 32 * n = omega arith in
    let s : take (32 + 32 * n) l ≡ take (32 + 32 * n) l' = subst (λ (k : ℕ). take k l ≡ take k l') m e in
    let f : take 32 l ≡ take 32 l' = sym (take-take 32 (32 + 32 * n) l (omega arith)) ∙ ap (take 32) s ∙ take-take 32 (32 + 32 * n) l' (omega arith) in
    let g : take (32 * n) (drop 32 l) ≡ take (32 * n) (drop 32 l') = sym (drop-take 32 (32 * n) l) ∙ ap (drop 32) s ∙ drop-take 32 (32 * n) l' in
    let t = le-ltb (length l') 32 (omega arith) in
    let r = ascending_same total total' n (take 32 l) (drop 32 l) (drop 32 l') g (omega (arith, length-drop 32 l')) a.rest in
    simp (t, ← f, a.above, r)

one_step : (total total' n : ℕ) (before l : List ℕ) (x y : Bool) → ltb (length l) 32 ≡ x → below before (take 32 l) ≡ y
    → is_ok (ascending_at total (take 32 l) n (drop 32 l)) ≡ is_ok (ascending_at total' (take 32 l) n (drop 32 l))
    → is_ok (ascending_at total before (suc n) l) ≡ is_ok (ascending_at total' before (suc n) l)
one_step total total' n before l true y a b h = simp a refl
one_step total total' n before l false true a b h = simp (a, b) h
one_step total total' n before l false false a b h = simp (a, b) refl

-- whether digests are ascending doesn't depend on where the text ends
pub ascending_anywhere : (total total' n : ℕ) (before l : List ℕ) → is_ok (ascending_at total before n l) ≡ is_ok (ascending_at total' before n l)
ascending_anywhere total total' zero before l = refl
ascending_anywhere total total' (suc n) before l = one_step total total' n before l _ _ refl refl (ascending_anywhere total total' n (take 32 l) (drop 32 l))

less : (o : Ordering) → is_lt o ≡ true → o ≡ Less
less Less h = refl
less Equal h = absurd (let z : ◌≡◌ {A = ℕ} 0 1 = cc in omega arith)
less Greater h = absurd (let z : ◌≡◌ {A = ℕ} 0 1 = cc in omega arith)

above_all : (a b : List ℕ) (ds : List (List ℕ)) → bytes_rank a b ≡ Less → AllByRecursion (λ d. bytes_rank b d ≡ Less) ds → AllByRecursion (λ d. bytes_rank a d ≡ Less) ds
above_all a b [] h k = tt
above_all a b (d ∷ ds) h k = ((lists_total nat_cmp_total).trans a b d h k.0, above_all a b ds h k.1)

-- ascending by neighbours is ascending throughout
pub sorted_from_ascending : (total n : ℕ) (before l : List ℕ) → ascending_at total before n l ≡ Ok tt → IsStrictlySortedBy bytes_rank (before ∷ first_chunks 32 n l)
unfolding IsStrictlySortedBy
sorted_from_ascending total zero before l h = (tt, tt)
sorted_from_ascending total (suc n) before l h =
    let a = ascending_open total n before l h in
    let b = less (bytes_rank before (take 32 l)) a.above in
    let r = sorted_from_ascending total n (take 32 l) (drop 32 l) a.rest in
    ((b, above_all before (take 32 l) (first_chunks 32 n (drop 32 l)) b r.0), r)

pub ascending_from_sorted : (total n : ℕ) (before l : List ℕ) → 32 * n ≤ length l → IsStrictlySortedBy bytes_rank (before ∷ first_chunks 32 n l) → ascending_at total before n l ≡ Ok tt
unfolding IsStrictlySortedBy
ascending_from_sorted total zero before l w s = refl
ascending_from_sorted total (suc n) before l w s =
    let t = le-ltb (length l) 32 (omega arith) in
    let r = ascending_from_sorted total n (take 32 l) (drop 32 l) (omega (arith, length-drop 32 l)) s.1 in
    simp (t, s.0.0, r)

pub above_empty : (d : List ℕ) → length d ≡ 32 → bytes_rank [] d ≡ Less
above_empty [] h = absurd (omega arith)
above_empty (x ∷ d) h = refl

-- the empty string is below every digest
pub all_above_empty : (n : ℕ) (l : List ℕ) → 32 * n ≤ length l → AllByRecursion (λ d. bytes_rank [] d ≡ Less) (first_chunks 32 n l)
all_above_empty zero l w = tt
all_above_empty (suc n) l w =
    (above_empty (take 32 l) (length-take-le 32 l (omega arith)), all_above_empty n (drop 32 l) (omega (arith, length-drop 32 l)))
