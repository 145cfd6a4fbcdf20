use Rattle.std.proofs.Common.{◌≡◌, ℕ, ◌/◌, List, length, Ok, Err, Result, sym, refl, ap, ◌∙◌, arith}
use Rattle.std.proofs.lemmas.Result.{err_from_is_err_and}
use Rattle.std.proofs.lemmas.Bool.{lt-ltb, le-ltb}
use Rattle.hexadecimal.specs.declared.decode.HexError.{HexError}
use Rattle.hexadecimal.specs.declared.decode.HexError.TheVariants.{SmallBuffer}
use Rattle.hexadecimal.specs.Decoding.{bytes_at, decoding}
use Rattle.outcome.specs.Buffers.{after, size}
use Rattle.hexadecimal.proofs.Steps.{sound, unsound, spelt_by, decoded_by, decodes_shown_by}
use Rattle.hexadecimal.proofs.decode.decode.Goals as goal

-- the buffer as a refusal leaves it
unaltered : (out : List ℕ) (r : Result (List ℕ) HexError) (e : HexError) → r ≡ Err e → out ≡ after r out
unaltered out r e h = sym (ap (λ x. after x out) h)

pub returns-then-out-count : goal.returns-then-out-count
returns-then-out-count c =
    let text = c.args.hex.now in
    let out = c.args.out.now in
    let d : decoding (length out) text ≡ Err SmallBuffer = rw (lt-ltb (length out) (length text / 2) c.if-out-count.true) in
    let a = sym (ap size d) in
    let b = unaltered out _ _ d in
    record { answer = a; bytes = b; decoded = decoded_by text out out (Err SmallBuffer) a b; shown = decodes_shown_by text out out (Err SmallBuffer) a b }

pub returns-in_err-check : goal.returns-in_err-check
returns-in_err-check c =
    let e = err_from_is_err_and c.from_residual.result c.from_residual.ensures.1 in
    let text = c.args.hex.now in
    let out = c.args.out.now in
    let fault = unsound (bytes_at 0 text) _ c.in_err-check.ensures in
    let d : decoding (length out) text ≡ bytes_at 0 text = rw (le-ltb (length out) (length text / 2) c.if-out-count.false) in
    let a = sym (ap size (d ∙ fault)) in
    let b = unaltered out _ _ (d ∙ fault) in
    rw (e.1, e.2) (record { answer = a; bytes = b; decoded = decoded_by text out out (Err _) a b; shown = decodes_shown_by text out out (Err _) a b })

pub returns : goal.returns
returns c =
    let text = c.args.hex.now in
    let out = c.args.out.now in
    let s = spelt_by text (bytes_at 0 text) refl (sound _ c.in_ok-check.ensures) in
    let d : decoding (length out) text ≡ bytes_at 0 text = rw (le-ltb (length out) (length text / 2) c.if-out-count.false) in
    let count : length text / 2 ≡ length s.bytes = omega (arith, s.even) in
    let a : Ok (length text / 2) ≡ size (decoding (length out) text) = ap Ok count ∙ sym (ap size (d ∙ s.spelt)) in
    let b = c.fill.ensures ∙ sym (ap (λ x. after x out) d) in
    record { answer = a; bytes = b; decoded = decoded_by text out _ (Ok (length text / 2)) a b; shown = decodes_shown_by text out _ (Ok (length text / 2)) a b }
