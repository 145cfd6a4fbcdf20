-- One turn of the decoder, and its ends.
use Rattle.std.proofs.Common.{◌≡◌, ℕ, suc, ◌+◌, ◌*◌, ◌/◌, ◌%◌, ◌<◌, ◌≤◌, true, ltb, List, [], ◌∷◌, ◌++◌, length, get_or, take, drop, set, is_ok, Ok, Err, Result, sym, refl, ap, ◌∙◌, append_assoc, append-nil, add_assoc, arith, take-append-drop}
use Rattle.std.proofs.lemmas.List.{drop_more, drop_all, drop-drop, drop-set-lt, take_at, take_more_set, length-take-le}
use Rattle.std.proofs.lemmas.Bool.{le-ltb, ltb-false}
use Rattle.std.proofs.lemmas.Bool.Decides.{nat_tests}
use Rattle.hexadecimal.specs.declared.decode.HexError.{HexError}
use Rattle.hexadecimal.specs.declared.decode.HexError.TheVariants.{SmallBuffer}
use Rattle.hexadecimal.specs.Decoding.{digit_at, byte_of, bytes_at, checked, decoding, Decoded, DecodesShown}
use Rattle.std.specs.Simd.{first_chunks}
use Rattle.outcome.proofs.Chunks.{chunk_item}
use Rattle.outcome.proofs.Steps.{no_ok, ok_same, bind_then, stay}
use Rattle.outcome.specs.Outcomes.{bind}
use Rattle.outcome.specs.Buffers.{after, size}
use Rattle.hexadecimal.specs.Showing.{digit_of, shown_bytes}

-- the bytes found so far, and those to come
abbrev pub behind : List ℕ → Result (List ℕ) HexError → Result (List ℕ) HexError
behind done (Ok l) = Ok (done ++ l)
behind done (Err e) = Err e

pub behind_none : (r : Result (List ℕ) HexError) → r ≡ behind [] r
behind_none (Ok l) = refl
behind_none (Err e) = refl

two_digits : (text : List ℕ) (i : ℕ) → i + 1 < length text → bytes_at i (drop i text) ≡ bind (byte_of i (get_or text i 0) (get_or text (i + 1) 0)) λ b. bind (bytes_at (i + 2) (drop (i + 2) text)) λ bytes. Ok (b ∷ bytes)
two_digits text i h =
    let a : drop i text ≡ get_or text i 0 ∷ drop (i + 1) text = drop_more text i 0 (omega arith) in
    let b : drop (i + 1) text ≡ get_or text (i + 1) 0 ∷ drop (i + 1 + 1) text = drop_more text (i + 1) 0 h in
    rw (a, b, add_assoc i 1 1)

behind_push : (done : List ℕ) (b : ℕ) (r : Result (List ℕ) HexError) → behind done (bind r λ l. Ok (b ∷ l)) ≡ behind (done ++ b ∷ []) r
behind_push done b (Ok l) = ap Ok (sym (append_assoc done (b ∷ []) l))
behind_push done b (Err e) = refl

-- the byte of the pair i
pub pair_at : (text : List ℕ) (pairs : List (List ℕ)) (i : ℕ) → pairs ≡ first_chunks 2 (length text / 2) text → i < length text / 2
    → byte_of (2 * i) (get_or (get_or pairs i []) 0 0) (get_or (get_or pairs i []) 1 0) ≡ byte_of (2 * i) (get_or text (2 * i) 0) (get_or text (2 * i + 1) 0)
pair_at text pairs i e h =
    let n = length text / 2 in
    let a : 2 * i + 0 ≡ 2 * i = omega arith in
    rw (e, chunk_item 2 n i 0 text h (omega arith), chunk_item 2 n i 1 text h (omega arith), a) refl

-- what the text is, given what was found before i
module _ (text done : List ℕ) (i : ℕ) (before : bytes_at 0 text ≡ behind done (bytes_at i (drop i text))) where
  pub found_byte : (b : ℕ) → i + 1 < length text → byte_of i (get_or text i 0) (get_or text (i + 1) 0) ≡ Ok b → bytes_at 0 text ≡ behind (done ++ b ∷ []) (bytes_at (i + 2) (drop (i + 2) text))
  found_byte b h e = before ∙ ap (behind done) (two_digits text i h ∙ rw e) ∙ behind_push done b (bytes_at (i + 2) (drop (i + 2) text))

  pub found_fault : (e : HexError) → i + 1 < length text → byte_of i (get_or text i 0) (get_or text (i + 1) 0) ≡ Err e → bytes_at 0 text ≡ Err e
  found_fault e h k = before ∙ rw (two_digits text i h, k)

  pub found_all : i ≡ length text → bytes_at 0 text ≡ Ok done
  found_all h = before ∙ rw (drop_all i text (omega arith), append-nil done)

-- ---- a text without faults has two digits for each byte

bytes_even : (l bytes : List ℕ) (place : ℕ) → bytes_at place l ≡ Ok bytes → length l ≡ 2 * length bytes
bytes_even [] bytes place h = rw (sym (ok_same [] bytes h))
bytes_even (c ∷ []) bytes place h = bind_then (digit_at place c) _ bytes h λ d hd h1. absurd (no_ok _ _ h1)
bytes_even (c ∷ d ∷ l) bytes place h =
    bind_then (byte_of place c d) _ bytes h λ b hb h1.
    bind_then (bytes_at (place + 2) l) _ bytes h1 λ rest hr h2.
    let e = bytes_even l rest (place + 2) hr in
    rw (sym (ok_same (b ∷ rest) bytes h2)) (omega arith)

-- the bytes of such a text
pub record Spelt (text : List ℕ) : Type 0 where
  pub bytes : List ℕ
  pub spelt : bytes_at 0 text ≡ Ok bytes
  pub even : length text ≡ 2 * length bytes

pub spelt_by : (text : List ℕ) (r : Result (List ℕ) HexError) → bytes_at 0 text ≡ r → is_ok r ≡ true → Spelt text
spelt_by text (Ok bytes) e ok = record { bytes = bytes; spelt = e; even = bytes_even text bytes 0 e }
spelt_by text (Err x) e ok = absurd (let z : ◌≡◌ {A = ℕ} 0 1 = cc in omega arith)

-- what a check says of the text
pub sound : (r : Result (List ℕ) HexError) → Ok tt ≡ checked r → is_ok r ≡ true
sound (Ok bytes) h = refl
sound (Err e) h = absurd (no_ok e tt (sym h))

pub unsound : (r : Result (List ℕ) HexError) (e : HexError) → Err e ≡ checked r → r ≡ Err e
unsound (Ok bytes) e h = absurd (no_ok e tt h)
unsound (Err x) e h = cc

pub not_both : (r : Result (List ℕ) HexError) (e : HexError) → is_ok r ≡ true → r ≡ Err e → ⊥
not_both r e ok h = let z : ◌≡◌ {A = ℕ} 0 1 = cc (ap is_ok h) in omega arith

-- ---- what was shown is decoded

digit_back : (place n : ℕ) → n < 16 → digit_at place (digit_of n) ≡ Ok n
digit_back place n h = grind (arith, nat_tests)

shown_back : (l : List ℕ) (place : ℕ) → ((i : ℕ) → get_or l i 0 < 256) → bytes_at place (shown_bytes l) ≡ Ok l
shown_back [] place h = refl
shown_back (b ∷ l) place h =
    let k = h 0 in
    let high = digit_back place (b / 16) (omega arith) in
    let low = digit_back (place + 1) (b % 16) (omega arith) in
    let whole : b / 16 * 16 + b % 16 ≡ b = omega arith in
    simp (high, low, whole, shown_back l (place + 2) (λ i. h (suc i)))

decoded : (l out : List ℕ) (r : Result (List ℕ) HexError) → r ≡ Ok l → (size r ≡ Ok (length l)) × (take (length l) (after r out) ≡ l)
decoded l out r e = rw e (refl, take_at l (drop (length l) out) (length l) refl)

pub decodes_shown : (text out : List ℕ) → DecodesShown text out (size (decoding (length out) text)) (after (decoding (length out) text) out)
decodes_shown text out l h e room =
    let b = ap (bytes_at 0) e ∙ shown_back l 0 h in
    let n = bytes_even text l 0 b in
    let r : decoding (length out) text ≡ Ok l = rw (le-ltb (length out) (length text / 2) (omega arith), b) in
    decoded l out (decoding (length out) text) r

decoded_so : (text out : List ℕ) (d : Result (List ℕ) HexError) → decoding (length out) text ≡ d → Decoded text out (size d) (after d out)
decoded_so text out (Ok bytes) e =
    let room = stay (ltb (length out) (length text / 2)) (bytes_at 0 text) SmallBuffer bytes e in
    let fits = ltb-false (length out) (length text / 2) room.0 in
    let even = bytes_even text bytes 0 room.1 in
    (omega arith, rw (take_at bytes (drop (length bytes) out) (length bytes) refl) e)
decoded_so text out (Err x) e = e

pub decoded_by : (text out out' : List ℕ) (r : Result ℕ HexError) → r ≡ size (decoding (length out) text) → out' ≡ after (decoding (length out) text) out → Decoded text out r out'
decoded_by text out out' r a b = rw (a, b) (decoded_so text out (decoding (length out) text) refl)

pub decodes_shown_by : (text out out' : List ℕ) (r : Result ℕ HexError) → r ≡ size (decoding (length out) text) → out' ≡ after (decoding (length out) text) out → DecodesShown text out r out'
decodes_shown_by text out out' r a b = rw (a, b) (decodes_shown text out)

-- ---- the bytes are written one by one

pub record Filled (text out₀ : List ℕ) (i : ℕ) (out : List ℕ) : Type 0 where
  pub front : bytes_at 0 text ≡ behind (take i out) (bytes_at (2 * i) (drop (2 * i) text))
  pub back : drop i out ≡ drop i out₀

pub filled_more : (text out₀ out : List ℕ) (i b : ℕ) → Filled text out₀ i out → i < length out → 2 * i + 1 < length text → byte_of (2 * i) (get_or text (2 * i) 0) (get_or text (2 * i + 1) 0) ≡ Ok b → Filled text out₀ (i + 1) (set out i b)
filled_more text out₀ out i b f room h e =
    let next : 2 * (i + 1) ≡ 2 * i + 2 = omega arith in
    let step : drop (i + 1) out ≡ drop (i + 1) out₀ = sym (drop-drop 1 i out) ∙ ap (drop 1) f.back ∙ drop-drop 1 i out₀ in
    record {
      front = rw (take_more_set out i b room, next) (found_byte text (take i out) (2 * i) f.front b h e);
      back = drop-set-lt (i + 1) out i b (omega arith) ∙ step;
    }

pub filled_all : (text out₀ out : List ℕ) (i : ℕ) → Filled text out₀ i out → i ≡ length text / 2 → i ≤ length out → is_ok (bytes_at 0 text) ≡ true → out ≡ after (bytes_at 0 text) out₀
filled_all text out₀ out i f e room ok =
    let s = spelt_by text (bytes_at 0 text) refl ok in
    let k = s.even in
    let whole = found_all text (take i out) (2 * i) f.front (omega arith) in
    let n = length-take-le i out room in
    rw (whole, n) (sym (take-append-drop i out) ∙ ap (λ (l : List ℕ). take i out ++ l) f.back)
