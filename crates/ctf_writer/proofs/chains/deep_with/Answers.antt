use Rattle.std.proofs.Common.{ℕ, ◌+◌, ◌<◌, Option, Some, arith, ap, length, subst, sym, ◌∙◌}
use Rattle.std.specs.Prelude.{IfSome}
use Rattle.std.specs.Option.{option_map}
use Rattle.std.proofs.lemmas.List.{length-map}
use Rattle.ctf_writer.specs.Leading.{draft_places, type_places}
use Rattle.ctf_writer.proofs.Leading.{found_held}
use Rattle.ctf_writer.proofs.chains.deep_with.Goals as goal

pub number_of-requires : goal.number_of-requires
number_of-requires g c =
    let inside : c.in-Some.i < length (draft_places c.args.chain c.args.held.child c.args.held.types.now) = subst (λ (o : Option ℕ). IfSome o (λ i. i < length (draft_places c.args.chain c.args.held.child c.args.held.types.now))) c.in-Some.is c.in_ok-i.ensures.inside in
    let count = length-map c.args.held.types.now (type_places c.args.chain c.args.held.child (length c.args.held.types.now)) in
    omega (arith, inside, count)

pub returns-in-Some : goal.returns-in-Some
returns-in-Some g c = ap (λ (n : ℕ). Some n) c.number_of.ensures ∙ ap (option_map (λ i. i + 1)) (sym c.in-Some.is) ∙ found_held c.args.chain c.args.held c.in_ok-i.field-0 c.in_ok-i.ensures.least

pub returns : goal.returns
returns g c = ap (option_map (λ i. i + 1)) (sym c.in-None.is) ∙ found_held c.args.chain c.args.held c.in_ok-i.field-0 c.in_ok-i.ensures.least
