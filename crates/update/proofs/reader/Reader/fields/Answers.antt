use Rattle.std.proofs.Common.{◌≡◌, Ok, refl, ◌∙◌}
use Rattle.std.proofs.lemmas.Result.{err_from_is_err_and}
use Rattle.update.specs.Contents.{contents}
use Rattle.update.specs.Reading.{address_at, predecessors_at, value_at, seal_at, end_at, fields_at}
use Rattle.outcome.specs.Outcomes.{bind}
use Rattle.update.proofs.Fields.{optional_read, fields_then_end}
use Rattle.update.proofs.reader.Reader.fields.Goals as goal
use Rattle.update.proofs.reader.Reader.fields.Goals.{In_ok-seal}

-- all fields but the end
taken : (c : In_ok-seal) → fields_at c.args.self.total c.args.map c.args.self.rest.now ≡ bind (end_at c.optional-4.new.self.total c.optional-4.new.self.rest.now) (λ _. Ok (contents (record {
  author = c.in_ok-author.author;
  address = c.in_ok-address.address;
  predecessors = c.in_ok-predecessors.predecessors;
  value = c.in_ok-value.value;
  seal = c.in_ok-seal.seal;
})))
taken c =
    let total = c.args.self.total in
    let a = c.in_ok-author.ensures in
    let d = optional_read (λ v. v) address_at _ _ (λ s l x p. p) c.has.result c.author.new.self c.optional.new.self _ total c.in_ok-address.ensures a.1 in
    let p = optional_read (λ v. v.now) predecessors_at _ _ (λ s l x p. p) _ c.optional.new.self c.optional-2.new.self _ total c.in_ok-predecessors.ensures d.1 in
    let v = optional_read (λ v. v.now) value_at _ _ (λ s l x p. p) _ c.optional-2.new.self c.optional-3.new.self _ total c.in_ok-value.ensures p.1 in
    let s = optional_read (λ v. v.now) seal_at _ _ (λ s l x p. p) _ c.optional-3.new.self c.optional-4.new.self _ total c.in_ok-seal.ensures v.1 in
    fields_then_end total c.args.map _ _ _ _ _ _ _ _ _ _ _ _ c.has.ensures c.has-2.ensures c.has-3.ensures c.has-4.ensures s.1 a.0 d.0 p.0 v.0 s.0

pub returns : goal.returns
returns c = taken c.before.before.before ∙ rw c.in_ok-end.ensures refl

pub returns-in_err-end : goal.returns-in_err-end
returns-in_err-end c =
    let e = err_from_is_err_and c.from_residual-in_err-end.result c.from_residual-in_err-end.ensures.1 in
    rw (e.1, e.2) (taken c.before.before.before.before ∙ rw c.in_err-end.ensures refl)
