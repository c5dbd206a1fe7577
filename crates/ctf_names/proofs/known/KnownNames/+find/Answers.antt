use Rattle.std.proofs.Common.{◌+◌, sym, subst}
use Rattle.ctf_model.specs.spaces.Space.{Space}
use Rattle.ctf_names.specs.Measuring.{IsMeasured}
use Rattle.ctf_names.proofs.Findings.{round_found}
use Rattle.ctf_names.proofs.known.KnownNames.+find.Goals as goal

pub find_round-keep-requires : goal.find_round-keep-requires
find_round-keep-requires n c =
    subst (λ (s : Space). IsMeasured s c.args.number.0 (record { layers = c.in-Some.inside.layers + 1; lengths = c.around.result })) (sym c.find.ensures.kept)
    (round_found c.args.self.now c.args.number.0 c.args.next.0 c.args.layer c.in-Some.inside c.around.result c.requires c.in-Some.ensures.right c.around.ensures)

pub find_round-returns-clause-right : goal.find_round-returns-clause-right
find_round-returns-clause-right n c =
    round_found c.args.self.now c.args.number.0 c.args.next.0 c.args.layer c.in-Some.inside c.around.result c.requires c.in-Some.ensures.right c.around.ensures
