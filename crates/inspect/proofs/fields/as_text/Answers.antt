use Rattle.std.proofs.Common.{sym, ap, ◌∙◌}
use Rattle.std.specs.Option.{option_map}
use Rattle.inspect.proofs.Lines.{text_read}
use Rattle.inspect.proofs.fields.as_text.Goals as goal

pub returns : goal.returns
returns c =
    ap (option_map (λ x. x.now)) c.ok.ensures.value
    ∙ text_read _ c.args.bytes.now c.from_utf8.result (sym c.if-not-is_printable.ensures) c.from_utf8.ensures.cases
