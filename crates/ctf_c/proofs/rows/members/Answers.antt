use Rattle.ctf_c.proofs.FilledRows.{of_number}
use Rattle.ctf_c.specs.names.Filling.{TellsMember}
use Rattle.ctf_check.specs.TypedView.{term_in}
use Rattle.ctf_model.specs.opened.Questions.{members_answered}
use Rattle.ctf_model.specs.spaces.TypeNumbers.{or_no_type}
use Rattle.ctf_c.proofs.rows.members.Goals as goal

pub returns : goal.returns
returns c = of_number TellsMember members_answered c.args.dictionary.now c.args.t.0 c.args.from _ _ _ (or_no_type (term_in c.in_ok-found.found)) _ _ _ _ c.space.ensures.space c.space.ensures.lists c.space.ensures.parent c.in_ok-found.ensures.found c.in_ok-found.ensures.lists c.members_into.ensures
