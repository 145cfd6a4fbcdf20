-- Byte strings that are compared byte by byte.
use Rattle.std.proofs.Common.{◌≡◌, ℕ, ◌+◌, ◌<◌, Bool, true, false, List, [], ◌∷◌, length, get_or, drop, Decides, Ordering, Less, Equal, Greater, sym, refl, ap, ◌∙◌, true≢false, arith}
use Rattle.std.proofs.lemmas.List.{drop_more}
use Rattle.std.specs.Cmp.{ranks, nat_cmp_total}
use Rattle.std.specs.Ordering.{is_eq, is_ne, is_lt, ordering_then, ordering_reverse, MatchOrdering, nat_cmp}
use Rattle.outcome.specs.Order.{bytes_rank}
use Rattle.std.specs.Cmp.Lexicographic.{lists_total}

-- one byte of each, where o is what their comparison answered
turn : (a b : List ℕ) (i : ℕ) (o : Ordering) → i < length a → i < length b → o ≡ nat_cmp (get_or a i 0) (get_or b i 0)
    → bytes_rank (drop i a) (drop i b) ≡ ordering_then o (bytes_rank (drop (i + 1) a) (drop (i + 1) b))
turn a b i o h k says = rw (drop_more a i 0 h, drop_more b i 0 k, says)

first_decides : (o p : Ordering) → is_ne o ≡ true → ordering_then o p ≡ o
first_decides Less p e = refl
first_decides Equal p e = absurd (true≢false (sym e))
first_decides Greater p e = refl

second_decides : (o p : Ordering) → is_ne o ≡ false → ordering_then o p ≡ p
second_decides Less p e = absurd (true≢false e)
second_decides Equal p e = refl
second_decides Greater p e = absurd (true≢false e)

pub decided : (a b : List ℕ) (i : ℕ) (o : Ordering) → i < length a → i < length b → o ≡ nat_cmp (get_or a i 0) (get_or b i 0)
    → is_ne o ≡ true → bytes_rank (drop i a) (drop i b) ≡ o
decided a b i o h k says e = turn a b i o h k says ∙ first_decides o _ e

pub undecided : (a b : List ℕ) (i : ℕ) (o : Ordering) → i < length a → i < length b → o ≡ nat_cmp (get_or a i 0) (get_or b i 0)
    → is_ne o ≡ false → bytes_rank (drop i a) (drop i b) ≡ bytes_rank (drop (i + 1) a) (drop (i + 1) b)
undecided a b i o h k says e = turn a b i o h k says ∙ second_decides o _ e

-- equal in rank is equal
same_heads : (x y : ℕ) (o : Ordering) (r : Ordering) → MatchOrdering o (x < y) (x ≡ y) (y < x) → ordering_then o r ≡ Equal → (x ≡ y) × (r ≡ Equal)
same_heads x y Less r h e = absurd (true≢false (sym (ap is_eq e)))
same_heads x y Equal r h e = (h, e)
same_heads x y Greater r h e = absurd (true≢false (sym (ap is_eq e)))

pub same_from_rank : (a b : List ℕ) → bytes_rank a b ≡ Equal → a ≡ b
same_from_rank [] [] e = refl
same_from_rank [] (y ∷ b) e = absurd (true≢false (sym (ap is_eq e)))
same_from_rank (x ∷ a) [] e = absurd (true≢false (sym (ap is_eq e)))
same_from_rank (x ∷ a) (y ∷ b) e =
    let h = same_heads x y (nat_cmp x y) (bytes_rank a b) (ranks x y) e in
    let t = same_from_rank a b h.1 in
    let q = h.0 in
    cc

equal_tested : (o : Ordering) → is_eq o ≡ true → o ≡ Equal
equal_tested Less e = absurd (true≢false (sym e))
equal_tested Equal e = refl
equal_tested Greater e = absurd (true≢false (sym e))

equal_flipped : (o : Ordering) → o ≡ ordering_reverse o → o ≡ Equal
equal_flipped Less e = absurd (true≢false (ap is_lt e))
equal_flipped Equal e = refl
equal_flipped Greater e = absurd (true≢false (sym (ap is_lt e)))

pub rank_itself : (a : List ℕ) → bytes_rank a a ≡ Equal
rank_itself a = equal_flipped (bytes_rank a a) ((lists_total nat_cmp_total).antisymm a a)

pub rank_decides : (a b : List ℕ) (o : Ordering) (r : Bool) → o ≡ bytes_rank a b → r ≡ is_eq o → Decides r (a ≡ b)
rank_decides a b o r e f = (
  (λ t. same_from_rank a b (sym e ∙ equal_tested o (sym f ∙ t))),
  (λ t. f ∙ ap is_eq (e ∙ ap (bytes_rank a) (sym t) ∙ rank_itself a)),
)

other_decides : (x y : ℕ) (o p : Ordering) → MatchOrdering o (x < y) (x ≡ y) (y < x) → (x ≡ y → ⊥) → ordering_then o p ≡ o
other_decides x y Less p h n = refl
other_decides x y Equal p h n = absurd (n h)
other_decides x y Greater p h n = refl

same_passes : (x y : ℕ) (o p : Ordering) → MatchOrdering o (x < y) (x ≡ y) (y < x) → x ≡ y → ordering_then o p ≡ p
same_passes x y Less p h e = absurd (omega (arith, h, e))
same_passes x y Equal p h e = refl
same_passes x y Greater p h e = absurd (omega (arith, h, e))

-- the first byte of each decides where they differ, and else what follows does
pub first_decides_rank : (a b xs ys : List ℕ) (x y : ℕ) → a ≡ x ∷ xs → b ≡ y ∷ ys → (x ≡ y → ⊥) → bytes_rank a b ≡ nat_cmp x y
first_decides_rank a b xs ys x y p q n = rw (p, q) (other_decides x y (nat_cmp x y) (bytes_rank xs ys) (ranks x y) n)

pub first_passes_rank : (a b xs ys : List ℕ) (x y : ℕ) → a ≡ x ∷ xs → b ≡ y ∷ ys → x ≡ y → bytes_rank a b ≡ bytes_rank xs ys
first_passes_rank a b xs ys x y p q e = rw (p, q) (same_passes x y (nat_cmp x y) (bytes_rank xs ys) (ranks x y) e)
