-- SHA-256 as FIPS 180-4 defines it, over bytes and words as numbers: a byte is below 2 ^ 8, a word below 2 ^ 32.
-- The standard's section stands before each definition.
use Rattle.std.specs.Prelude.{ℕ, zero, suc, ◌+◌, ◌-◌, ◌*◌, ◌/◌, ◌%◌, ◌^◌, List, [], ◌∷◌, ◌++◌, length, take, drop, replicate, bit_and, bit_or, bit_xor, slice_index, slice_index_or}
use Rattle.std.specs.List.{flat_map}

-- 2.2.2, 3.2: operations on words

-- a rotation to the right by n
abbrev pub rotr : ℕ → ℕ → ℕ
rotr n x = bit_or (x / 2 ^ n) ((x * 2 ^ (32 - n)) % 2 ^ 32)

-- a shift to the right by n
abbrev pub shr : ℕ → ℕ → ℕ
shr n x = x / 2 ^ n

abbrev pub complement : ℕ → ℕ
complement x = 2 ^ 32 - 1 - x

-- addition modulo 2 ^ 32
infixl 6 ◌⊞◌
abbrev pub ◌⊞◌ : ℕ → ℕ → ℕ
x ⊞ y = (x + y) % 2 ^ 32

-- 4.1.2: functions

abbrev pub ch : ℕ → ℕ → ℕ → ℕ
ch x y z = bit_xor (bit_and x y) (bit_and (complement x) z)

abbrev pub maj : ℕ → ℕ → ℕ → ℕ
maj x y z = bit_xor (bit_xor (bit_and x y) (bit_and x z)) (bit_and y z)

abbrev pub big_sigma0 : ℕ → ℕ
big_sigma0 x = bit_xor (bit_xor (rotr 2 x) (rotr 13 x)) (rotr 22 x)

abbrev pub big_sigma1 : ℕ → ℕ
big_sigma1 x = bit_xor (bit_xor (rotr 6 x) (rotr 11 x)) (rotr 25 x)

abbrev pub small_sigma0 : ℕ → ℕ
small_sigma0 x = bit_xor (bit_xor (rotr 7 x) (rotr 18 x)) (shr 3 x)

abbrev pub small_sigma1 : ℕ → ℕ
small_sigma1 x = bit_xor (bit_xor (rotr 17 x) (rotr 19 x)) (shr 10 x)

-- 4.2.2: constants

unfoldable pub constants : List ℕ
constants =
    0x428a2f98 ∷ 0x71374491 ∷ 0xb5c0fbcf ∷ 0xe9b5dba5 ∷ 0x3956c25b ∷ 0x59f111f1 ∷ 0x923f82a4 ∷ 0xab1c5ed5 ∷
    0xd807aa98 ∷ 0x12835b01 ∷ 0x243185be ∷ 0x550c7dc3 ∷ 0x72be5d74 ∷ 0x80deb1fe ∷ 0x9bdc06a7 ∷ 0xc19bf174 ∷
    0xe49b69c1 ∷ 0xefbe4786 ∷ 0x0fc19dc6 ∷ 0x240ca1cc ∷ 0x2de92c6f ∷ 0x4a7484aa ∷ 0x5cb0a9dc ∷ 0x76f988da ∷
    0x983e5152 ∷ 0xa831c66d ∷ 0xb00327c8 ∷ 0xbf597fc7 ∷ 0xc6e00bf3 ∷ 0xd5a79147 ∷ 0x06ca6351 ∷ 0x14292967 ∷
    0x27b70a85 ∷ 0x2e1b2138 ∷ 0x4d2c6dfc ∷ 0x53380d13 ∷ 0x650a7354 ∷ 0x766a0abb ∷ 0x81c2c92e ∷ 0x92722c85 ∷
    0xa2bfe8a1 ∷ 0xa81a664b ∷ 0xc24b8b70 ∷ 0xc76c51a3 ∷ 0xd192e819 ∷ 0xd6990624 ∷ 0xf40e3585 ∷ 0x106aa070 ∷
    0x19a4c116 ∷ 0x1e376c08 ∷ 0x2748774c ∷ 0x34b0bcb5 ∷ 0x391c0cb3 ∷ 0x4ed8aa4a ∷ 0x5b9cca4f ∷ 0x682e6ff3 ∷
    0x748f82ee ∷ 0x78a5636f ∷ 0x84c87814 ∷ 0x8cc70208 ∷ 0x90befffa ∷ 0xa4506ceb ∷ 0xbef9a3f7 ∷ 0xc67178f2 ∷ []

-- 5.3.3: the initial hash value

unfoldable pub start : List ℕ
start =
    0x6a09e667 ∷ 0xbb67ae85 ∷ 0x3c6ef372 ∷ 0xa54ff53a ∷ 0x510e527f ∷ 0x9b05688c ∷ 0x1f83d9ab ∷ 0x5be0cd19 ∷ []

-- 3.1: words as bytes, the highest first

abbrev pub be32 : ℕ → List ℕ
be32 x = (x / 16777216 % 256) ∷ (x / 65536 % 256) ∷ (x / 256 % 256) ∷ (x % 256) ∷ []

abbrev pub be64 : ℕ → List ℕ
be64 n =
    (n / 72057594037927936 % 256) ∷ (n / 281474976710656 % 256) ∷ (n / 1099511627776 % 256) ∷ (n / 4294967296 % 256) ∷
    (n / 16777216 % 256) ∷ (n / 65536 % 256) ∷ (n / 256 % 256) ∷ (n % 256) ∷ []

-- the bytes of words
unfoldable pub bytes_of : List ℕ → List ℕ
bytes_of = flat_map be32

-- the word i of a block
abbrev pub word_at : List ℕ → ℕ → ℕ
word_at b i = slice_index b (4 * i) * 16777216 + slice_index b (4 * i + 1) * 65536 + slice_index b (4 * i + 2) * 256 + slice_index b (4 * i + 3)

-- 5.1.1: the padding of a message of n bytes: a bit, zeros up to the last 8 bytes of a block, and the length in bits.
-- The standard is for messages of fewer than 2 ^ 64 bits, so of fewer than 2 ^ 61 bytes. Beyond that it says nothing,
-- and here the length stands modulo 2 ^ 64.
unfoldable pub padding : ℕ → List ℕ
padding n = 0x80 ∷ (replicate ((119 - n % 64) % 64) 0 ++ be64 ((n * 8) % 2 ^ 64))

-- 6.2.2, step 1: the message schedule, which begins with the words of the block and grows by a word at a time

-- the first i words of a block
unfoldable pub first_words : List ℕ → ℕ → List ℕ
first_words b zero = []
first_words b (suc i) = first_words b i ++ (word_at b i ∷ [])

-- the word t from the words before it
unfoldable pub next_word : List ℕ → ℕ → ℕ
next_word w t = small_sigma1 (slice_index w (t - 2)) ⊞ slice_index_or w (t - 7) 0 ⊞ small_sigma0 (slice_index w (t - 15)) ⊞ slice_index_or w (t - 16) 0

-- the words w, and n more
unfoldable pub grown : List ℕ → ℕ → List ℕ
grown w zero = w
grown w (suc n) = grown w n ++ (next_word (grown w n) (16 + n) ∷ [])

unfoldable pub schedule : List ℕ → List ℕ
schedule b = grown (first_words b 16) 48

-- 6.2.2, steps 2 and 3: rounds, on the eight working variables a to h

unfoldable pub temp1 : List ℕ → ℕ → ℕ → ℕ
temp1 s k w = slice_index_or s 7 0 ⊞ big_sigma1 (slice_index s 4) ⊞ ch (slice_index s 4) (slice_index s 5) (slice_index s 6) ⊞ k ⊞ w

unfoldable pub temp2 : List ℕ → ℕ
temp2 s = big_sigma0 (slice_index s 0) ⊞ maj (slice_index s 0) (slice_index s 1) (slice_index s 2)

unfoldable pub round_of : List ℕ → ℕ → ℕ → List ℕ
round_of s k w =
    (temp1 s k w ⊞ temp2 s) ∷ slice_index s 0 ∷ slice_index s 1 ∷ slice_index s 2 ∷
    (slice_index_or s 3 0 ⊞ temp1 s k w) ∷ slice_index s 4 ∷ slice_index s 5 ∷ slice_index s 6 ∷ []

-- the first n rounds over the schedule w
unfoldable pub rounds : List ℕ → List ℕ → ℕ → List ℕ
rounds w s zero = s
rounds w s (suc t) = round_of (rounds w s t) (slice_index constants t) (slice_index w t)

-- 6.2.2, step 4: the next hash value

unfoldable pub sums : List ℕ → List ℕ → List ℕ
sums s v =
    (slice_index_or s 0 0 ⊞ slice_index_or v 0 0) ∷ (slice_index_or s 1 0 ⊞ slice_index_or v 1 0) ∷ (slice_index_or s 2 0 ⊞ slice_index_or v 2 0) ∷ (slice_index_or s 3 0 ⊞ slice_index_or v 3 0) ∷
    (slice_index_or s 4 0 ⊞ slice_index_or v 4 0) ∷ (slice_index_or s 5 0 ⊞ slice_index_or v 5 0) ∷ (slice_index_or s 6 0 ⊞ slice_index_or v 6 0) ∷ (slice_index_or s 7 0 ⊞ slice_index_or v 7 0) ∷ []

unfoldable pub compressed : List ℕ → List ℕ → List ℕ
compressed s b = sums s (rounds (schedule b) s 64)

-- 5.2.1, 6.2.2: blocks of 64 bytes, one after the other

-- the hash value after n blocks of m, from s on
unfoldable pub absorbed : ℕ → List ℕ → List ℕ → List ℕ
absorbed zero s m = s
absorbed (suc n) s m = absorbed n (compressed s (take 64 m)) (drop 64 m)

-- and after every whole block of m
unfoldable pub whole : List ℕ → List ℕ → List ℕ
whole s m = absorbed (length m / 64) s m

-- 6.2: the digest of a message
unfoldable pub sha256 : List ℕ → List ℕ
sha256 m = bytes_of (whole start (m ++ padding (length m)))

-- the same where n bytes, whole blocks, have led to the hash value s, and m is to come
unfoldable pub digest_from : List ℕ → ℕ → List ℕ → List ℕ
digest_from s n m = bytes_of (whole s (m ++ padding (n + length m)))
