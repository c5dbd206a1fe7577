use Rattle.std.proofs.Common.{◌≡◌, ◌+◌, ◌-◌, ◌/◌, ◌^◌, drop, Some, ◌∙◌, arith}
use Rattle.ctf_order.specs.Naming.{naming}
use Rattle.ctf_order.proofs.Rest.{name_rest, tail_all}
use Rattle.ctf_order.proofs.lending.rest_of.Goals as goal

pub returns : goal.returns
returns c = λ texts lent x is.
    let found = rw is at c.get.ensures.lookup in
    let first = c.args.before.entry.reference in
    let there : first + (c.args.reference - first) ≡ c.args.reference = omega (arith, c.if-reference-first.false) in
    let same : first / 2 ^ 31 ≡ (first + (c.args.reference - first)) / 2 ^ 31 = rw there c.if-first-reference.false in
    let rest : naming texts (first + (c.args.reference - first)) ≡ Some (drop (c.args.reference - first) c.args.before.name.now) = name_rest texts first (c.args.reference - first) c.args.before.name.now same lent (found.0.0) in
    let now : x.now ≡ drop (c.args.reference - first) c.args.before.name.now = found.0.2 ∙ tail_all c.args.before.name.now (c.args.reference - first) in
    rw now (rw there at rest)
