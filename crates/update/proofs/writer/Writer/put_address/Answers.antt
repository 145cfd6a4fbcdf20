use Rattle.std.proofs.Common.{ap}
use Rattle.update.specs.Layout.{address_bytes}
use Rattle.update.proofs.Written.{wrote_none}
use Rattle.update.proofs.writer.Writer.put_address.Goals as goal

pub returns-in_default : goal.returns-in_default
returns-in_default c = wrote_none c.args.self.now _ (ap address_bytes c.in_default.is)
