use Rattle.std.proofs.Common.{ap, sym, ◌∙◌}
use Rattle.ctf_model.specs.drafts.Adders.{is_deep_from}
use Rattle.ctf_model.specs.drafts.Drafts.{content}
use Rattle.ctf_draft.proofs.Known.{same_known}
use Rattle.ctf_draft.proofs.Planned.{deep, shallow}
use Rattle.ctf_draft.proofs.Reaches.{elsewhere_is}
use Rattle.ctf_draft.proofs.draft.Draft.alignment.Goals as goal

pub returns-in_default-clause-found : goal.returns-in_default-clause-found
returns-in_default-clause-found c =
    let d = c.args.self.now.draft in
    (ap (is_deep_from (content d)) (sym c.own_index.ensures ∙ c.in_default.is), elsewhere_is d c.args.tnum.0 c.align_elsewhere.result c.align_elsewhere.ensures)

pub returns-in-Some-reach-clause-found : goal.returns-in-Some-reach-clause-found
returns-in-Some-reach-clause-found c = shallow c.args.self.now.draft c.args.tnum.0 c.in-Some.i c.in-Some-reach.reach (sym c.own_index.ensures ∙ c.in-Some.is) c.in-Some-reach.ensures.answer

pub returns-in-None-clause-found : goal.returns-in-None-clause-found
returns-in-None-clause-found c = deep c.args.self.now.draft c.args.tnum.0 c.in-Some.i (sym c.own_index.ensures ∙ c.in-Some.is) c.in-None.ensures.answer

pub reach-requires-clause-knows : goal.reach-requires-clause-knows
reach-requires-clause-knows c = same_known c.args.self.now.draft c.args.marks.now c.make_room.new.self c.make_room.ensures.same c.requires

pub returns-in_default-make_room-clause-knows : goal.returns-in_default-make_room-clause-knows
returns-in_default-make_room-clause-knows c = same_known c.args.self.now.draft c.args.marks.now c.make_room.new.self c.make_room.ensures.same c.requires
