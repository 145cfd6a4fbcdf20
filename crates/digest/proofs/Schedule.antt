-- The schedule, a word at a time, and the rounds over it.
use Rattle.std.proofs.Common.{◌≡◌, ℕ, zero, suc, ◌+◌, ◌-◌, ◌*◌, ◌<◌, ◌≤◌, List, [], ◌∷◌, length, get_or, take, drop, set, map, w32, refl, ap, ◌∙◌, sym, add-one, add-zero, zero-add, arith, lit<, lit≤, get_or-take, fold}
use Rattle.std.proofs.lemmas.List.Sums.{fold-append}
use Rattle.std.proofs.lemmas.List.{take_all, take_more, take_more_set, drop-drop, drop_more}
use Rattle.std.proofs.lemmas.List.FromFn.{map-range_with_len_more}
use Rattle.std.specs.Int.{from_be_bytes}
use Rattle.std.specs.List.{range_with_len, zip}
use Rattle.std.specs.Simd.{first_chunks}
use Rattle.outcome.proofs.Chunks.{chunk_item}
use Rattle.digest.specs.Sha256.{first_words, word_at, next_word, grown, constants, round_of, rounds}

-- the word i, from its chunk
word_read : (b : List ℕ) (i : ℕ) → i < 16 → from_be_bytes w32 (get_or (first_chunks 4 16 b) i []) ≡ word_at b i
word_read b i h =
    let item : (j : ℕ) → j < 4 → get_or (get_or (first_chunks 4 16 b) i []) j 0 ≡ get_or b (4 * i + j) 0 = λ j m. chunk_item 4 16 i j b h m in
    rw (item 0 (lit< tt), item 1 (lit< tt), item 2 (lit< tt), item 3 (lit< tt), add-zero (4 * i))

-- each word from its four bytes
pub words_read : (b : List ℕ) (n : ℕ) → n ≤ 16 → map (λ i. from_be_bytes w32 (get_or (first_chunks 4 16 b) i [])) (range_with_len 0 n) ≡ first_words b n
unfolding first_words
words_read b zero h = refl
words_read b (suc n) h =
    let word : from_be_bytes w32 (get_or (first_chunks 4 16 b) n []) ≡ word_at b n = word_read b n (omega arith) in
    let before = words_read b n (omega arith) in
    ap (λ (k : ℕ). map (λ i. from_be_bytes w32 (get_or (first_chunks 4 16 b) i [])) (range_with_len 0 k)) (sym (add-one n))
    ∙ map-range_with_len_more (λ i. from_be_bytes w32 (get_or (first_chunks 4 16 b) i [])) 0 n n (zero-add n) ∙ rw (before, word)

-- the next word looks only at the words before it
next_word_front : (w : List ℕ) (t : ℕ) → 16 ≤ t → next_word (take t w) t ≡ next_word w t
unfolding next_word
next_word_front w t h =
    rw (get_or-take t w (t - 2) 0 (omega arith), get_or-take t w (t - 7) 0 (omega arith), get_or-take t w (t - 15) 0 (omega arith), get_or-take t w (t - 16) 0 (omega arith))

pub grown_more : (b w : List ℕ) (t : ℕ) → 16 ≤ t → t < length w → take t w ≡ grown b (t - 16)
    → take (t + 1) (set w t (next_word w t)) ≡ grown b (t + 1 - 16)
unfolding grown
grown_more b w t h k e =
    let n : t + 1 - 16 ≡ suc (t - 16) = omega arith in
    let m : 16 + (t - 16) ≡ t = omega arith in
    take_more_set w t (next_word w t) k ∙ rw (n, m, ← e, next_word_front w t h)

-- rounds from the i-th on
rounds_more : (w s : List ℕ) (n i : ℕ) → i + n ≤ 64 → length w ≡ 64 → length constants ≡ 64
    → fold (λ v p. round_of v p.0 p.1) (rounds w s i) (zip (take n (drop i constants)) (take n (drop i w))) ≡ rounds w s (i + n)
unfolding rounds
rounds_more w s zero i h l m = rw (add-zero i)
rounds_more w s (suc n) i h l m = rw (drop_more constants i 0 (omega arith), drop_more w i 0 (omega arith))
    (let place : i + suc n ≡ suc i + n = omega arith in rw (place, add-one i) (rounds_more w s n (suc i) (omega arith) l m))

rounds_in_eights : (w s : List ℕ) (k i : ℕ) → i + k * 8 ≤ 64 → length w ≡ 64 → length constants ≡ 64
    → fold (λ v p. fold (λ u q. round_of u q.0 q.1) v (zip p.0 p.1)) (rounds w s i) (zip (first_chunks 8 k (drop i constants)) (first_chunks 8 k (drop i w))) ≡ rounds w s (i + k * 8)
rounds_in_eights w s zero i h l m = rw (add-zero i)
rounds_in_eights w s (suc k) i h l m =
    let place : i + suc k * 8 ≡ i + 8 + k * 8 = omega arith in
    rw (rounds_more w s 8 i (omega arith) l m, drop-drop 8 i constants, drop-drop 8 i w, place) (rounds_in_eights w s k (i + 8) (omega arith) l m)

-- a fold over pairs that a loop goes through, one turn more
pub fold_turn : {X Y : Type 0} (f : X → Y → X) (a s next : X) (ps : List Y) (n m : ℕ) (p : Y) → s ≡ fold f a (take n ps) → n < length ps → p ≡ get_or ps n p → next ≡ f s p → m ≡ n + 1
    → next ≡ fold f a (take m ps)
fold_turn f a s next ps n m p before h is one e = one ∙ rw (e, take_more ps n p h, fold-append f a (take n ps) (get_or ps n p ∷ []), ← before, ← is)

rounds_none : (w s : List ℕ) → rounds w s 0 ≡ s
unfolding rounds
rounds_none w s = refl

length-constants : length constants ≡ 64
unfolding constants
length-constants = refl

pub eights_done : (w first s : List ℕ) (cs ws : List (List ℕ)) (n : ℕ) → length w ≡ 64 → cs ≡ first_chunks 8 8 constants → ws ≡ first_chunks 8 8 w → n ≡ length (zip cs ws)
    → s ≡ fold (λ u q. fold (λ t p. round_of t p.0 p.1) u (zip q.0 q.1)) first (take n (zip cs ws)) → s ≡ rounds w first 64
eights_done w first s cs ws n l c e m before =
    let eight : List ℕ → List ℕ × List ℕ → List ℕ = λ u q. fold (λ t p. round_of t p.0 p.1) u (zip q.0 q.1) in
    let all : take n (zip cs ws) ≡ zip (first_chunks 8 8 constants) (first_chunks 8 8 w) = take_all n (zip cs ws) (omega arith) ∙ rw (c, e) in
    before ∙ ap (fold eight first) all
    ∙ ap (λ (v : List ℕ). fold eight v (zip (first_chunks 8 8 constants) (first_chunks 8 8 w))) (sym (rounds_none w first))
    ∙ rounds_in_eights w first 8 0 (lit≤ tt) l length-constants
