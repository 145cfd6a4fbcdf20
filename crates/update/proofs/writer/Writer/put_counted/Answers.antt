use Rattle.std.proofs.Common.{length, ap, arith}
use Rattle.update.specs.Contents.{borrowed}
use Rattle.update.specs.Layout.{counted_bytes}
use Rattle.update.proofs.Written.{wrote_none, wrote_more}
use Rattle.update.proofs.writer.Writer.put_counted.Goals as goal

pub returns-in-Some : goal.returns-in-Some
returns-in-Some c =
    let e = ap (λ o. counted_bytes c.args.unit (borrowed o)) c.in-Some.is in
    rw e (wrote_more (omega (arith, ap length e)) c.put.ensures c.put-in-Some.ensures)

pub returns-in_default : goal.returns-in_default
returns-in_default c = wrote_none c.args.self.now _ (ap (λ o. counted_bytes c.args.unit (borrowed o)) c.in_default.is)
