use Rattle.std.proofs.Common.{◌≡◌, length, Ok, sym, ◌∙◌, rules}
use Rattle.std.proofs.lemmas.Result.{err_from_is_err_and}
use Rattle.std.proofs.lemmas.Bool.{le-ltb}
use Rattle.update.specs.declared.refusal.Refusal.{Refusal}
use Rattle.update.specs.Contents.{contents}
use Rattle.update.specs.Layout.{layout, Fitting}
use Rattle.update.specs.Writing.{faults}
use Rattle.outcome.specs.Buffers.{after}
use Rattle.outcome.proofs.Placing.{placed_front}
use Rattle.update.proofs.Texts.{refused, written}
use Rattle.update.proofs.parts.Parts.write.Goals as goal

pub returns-in_err-check_parts : goal.returns-in_err-check_parts
returns-in_err-check_parts c =
    let e = err_from_is_err_and c.from_residual.result c.from_residual.ensures.1 in
    let small = le-ltb (length c.args.out.now) 363 c.if-out-lt-MAX_TEXT_LEN.false in
    let fault = sym c.in_err-check_parts.ensures in
    rw (e.1, e.2) (record {
      answer = simp (small, fault);
      bytes = simp (small, fault);
      writes_texts = refused (contents c.args.self) c.args.out.now _ fault;
    })

pub returns : goal.returns
returns c =
    let p = contents c.args.self in
    let out = c.args.out.now in
    let fits : Fitting p = record { author = search rules; row = search rules } in
    let small = le-ltb (length out) 363 c.if-out-lt-MAX_TEXT_LEN.false in
    let fault : faults p ≡ Ok tt = sym c.in_ok-check_parts.ensures in
    let left : c.put_text.new.out ≡ after {E = Refusal} (Ok (layout p)) out = c.put_text.ensures.bytes ∙ placed_front (layout p) out in
    record {
      answer = simp (small, fault, c.put_text.ensures.end);
      bytes = left ∙ simp (small, fault);
      writes_texts = rw (c.put_text.ensures.end, left) (written p out fits fault);
    }
