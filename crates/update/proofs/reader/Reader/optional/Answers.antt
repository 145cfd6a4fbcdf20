use Rattle.std.proofs.Common.{◌≡◌, true, rules}
use Rattle.update.proofs.reader.Reader.optional.Goals as goal

pub returns : goal.returns
returns g c =
    let there : c.args.present ≡ true = search rules in
    rw there (c.read.result, search rules, search rules)
