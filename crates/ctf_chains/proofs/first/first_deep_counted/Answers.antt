use Rattle.std.proofs.Common.{◌≡◌, ℕ, ◌+◌, ◌≤◌, List, Option, subst, arith}
use Rattle.std.proofs.lemmas.Result.{IfOk-weaker}
use Rattle.ctf_model.specs.rules.Chains.{longest_chain}
use Rattle.ctf_model.specs.format.Section.{records}
use Rattle.ctf_chains.specs.Deep.{IsLeastDeep, IsLeastDeepType}
use Rattle.ctf_chains.specs.Numbers.{section_places}
use Rattle.ctf_chains.specs.Places.{full_work, steps_between}
use Rattle.ctf_chains.proofs.Edges.{steps_are, work_is}
use Rattle.ctf_chains.proofs.first.first_deep_counted.Goals as goal

pub returns-clause-least : goal.returns-clause-least
returns-clause-least g c =
    let rs = records c.args.types.now.bytes.now in
    let P : Option ℕ → Type 0 = IsLeastDeep (steps_between (section_places c.args.types.now.chain c.args.types.now.child rs)) longest_chain in
    let Q : Option ℕ → Type 0 = IsLeastDeepType c.args.types.now.chain c.args.types.now.child rs in
    IfOk-weaker c.first_deep.result P Q
    (λ found least t spelled. subst (λ (es : List (List ℕ)). IsLeastDeep es longest_chain found) (steps_are c.args.types.now.chain c.args.types.now.child t rs c.args.types.now.whole spelled) least)
    c.first_deep.ensures.least

pub returns-clause-work : goal.returns-clause-work
returns-clause-work g c = λ t spelled.
    let bound : c.first_deep.new.work ≤ c.args.work.now + full_work (section_places c.args.types.now.chain c.args.types.now.child (records c.args.types.now.bytes.now)) = c.first_deep.ensures.work in
    omega (arith, work_is c.args.types.now.chain c.args.types.now.child t (records c.args.types.now.bytes.now) c.args.types.now.whole spelled)

pub returns-clause-once : goal.returns-clause-once
returns-clause-once g c = λ none t spelled.
    let exact : c.first_deep.new.work ≡ c.args.work.now + full_work (section_places c.args.types.now.chain c.args.types.now.child (records c.args.types.now.bytes.now)) = c.first_deep.ensures.once none in
    omega (arith, work_is c.args.types.now.chain c.args.types.now.child t (records c.args.types.now.bytes.now) c.args.types.now.whole spelled)
