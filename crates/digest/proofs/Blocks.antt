-- Blocks, one after the other.
use Rattle.std.proofs.Common.{◌≡◌, ℕ, zero, suc, ◌*◌, ◌/◌, ◌<◌, ◌≤◌, List, [], ◌++◌, length, take, drop, sym, refl, ap, ◌∙◌, append_assoc, append-nil, zero-add, arith, length-append, length-drop, fold}
use Rattle.std.proofs.lemmas.List.{take_all, drop_all, take-append-le, drop-append-le, drop-drop}
use Rattle.std.specs.Simd.{first_chunks}
use Rattle.digest.specs.Sha256.{padding, absorbed, whole, compressed, digest_from, sha256, start}

folded : (n : ℕ) (s m : List ℕ) → fold compressed s (first_chunks 64 n m) ≡ absorbed n s m
unfolding absorbed
folded zero s m = refl
folded (suc n) s m = folded n (compressed s (take 64 m)) (drop 64 m)

-- the blocks of a message, in turn
pub whole_folded : (s m : List ℕ) → fold compressed s (first_chunks 64 (length m / 64) m) ≡ whole s m
unfolding whole
whole_folded s m = folded (length m / 64) s m

-- one block more
whole_step : (s m : List ℕ) → 64 ≤ length m → whole s m ≡ whole (compressed s (take 64 m)) (drop 64 m)
unfolding whole absorbed
whole_step s m h =
    let n : length m / 64 ≡ suc (length (drop 64 m) / 64) = simp length-drop (omega arith) in
    ap (λ (k : ℕ). absorbed k s m) n

-- what is no whole block does not count
whole_none : (s m : List ℕ) → length m < 64 → whole s m ≡ s
unfolding whole absorbed
whole_none s m h = let n : length m / 64 ≡ 0 = omega arith in ap (λ (k : ℕ). absorbed k s m) n

pub whole_first : (s b m : List ℕ) → length b ≡ 64 → whole s (b ++ m) ≡ whole (compressed s b) m
whole_first s b m h =
    let l : 64 ≤ length (b ++ m) = simp length-append (omega arith) in
    let le : 64 ≤ length b = omega arith in
    let ge : length b ≤ 64 = omega arith in
    whole_step s (b ++ m) l ∙ rw (take-append-le 64 b m le, drop-append-le 64 b m le, take_all 64 b ge, drop_all 64 b ge)

pub whole_one : (s b : List ℕ) → length b ≡ 64 → whole s b ≡ compressed s b
whole_one s b h = ap (whole s) (sym (append-nil b)) ∙ whole_first s b [] h ∙ whole_none (compressed s b) [] (omega arith)

-- the blocks of a message, and then what is left of it and what follows
after_blocks : (n : ℕ) (s m p : List ℕ) → length m / 64 ≡ n → whole s (m ++ p) ≡ whole (whole s m) (drop (64 * n) m ++ p)
after_blocks zero s m p e = let h : length m < 64 = omega arith in rw (whole_none s m h)
after_blocks (suc n) s m p e =
    let h : 64 ≤ length m = omega arith in
    let l : 64 ≤ length (m ++ p) = simp length-append (omega arith) in
    let k : length (drop 64 m) / 64 ≡ n = simp length-drop (omega arith) in
    let s' : List ℕ = compressed s (take 64 m) in
    let d : drop (64 * n) (drop 64 m) ≡ drop (64 * suc n) m = drop-drop (64 * n) 64 m ∙ ap (λ (j : ℕ). drop j m) (omega arith) in
    whole_step s (m ++ p) l
    ∙ rw (take-append-le 64 m p h, drop-append-le 64 m p h) (after_blocks n s' (drop 64 m) p k)
    ∙ ap (λ (x : List ℕ). whole (whole s' (drop 64 m)) (x ++ p)) d
    ∙ ap (λ (x : List ℕ). whole x (drop (64 * suc n) m ++ p)) (sym (whole_step s m h))

pub whole_append : (s m p : List ℕ) → whole s (m ++ p) ≡ whole (whole s m) (drop (length m / 64 * 64) m ++ p)
whole_append s m p =
    let e : 64 * (length m / 64) ≡ length m / 64 * 64 = omega arith in
    after_blocks (length m / 64) s m p refl ∙ ap (λ (k : ℕ). whole (whole s m) (drop k m ++ p)) e

-- nothing before the message
pub sha256_from : (m d : List ℕ) → d ≡ digest_from start 0 m → d ≡ sha256 m
unfolding sha256 digest_from
sha256_from m d e = e ∙ rw (zero-add (length m))

-- a first block, and then a message
pub sha256_after : (b m : List ℕ) → length b ≡ 64 → digest_from (whole start b) 64 m ≡ sha256 (b ++ m)
unfolding sha256 digest_from
sha256_after b m h =
    let p : List ℕ = padding (length (b ++ m)) in
    rw (append_assoc b m p, whole_first start b (m ++ p) h, whole_one start b h, length-append b m, h)
