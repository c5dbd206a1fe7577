use Rattle.std.proofs.Common.{ap, ◌∙◌}
use Rattle.std.specs.Prelude.{nat_eq}
use Rattle.std.specs.Cmp.Lexicographic.{pointwise}
use Rattle.indexmap.proofs.CallerLemmas.{insert_entry-new}
use Rattle.ctf_draft.specs.LabelView.{labels_in}
use Rattle.ctf_draft.proofs.LabelMap.{fresh_is, one_more}
use Rattle.ctf_draft.proofs.labels.Labels.push.Goals as goal

pub returns-clause-ok : goal.returns-clause-ok
returns-clause-ok c =
    let es = c.self.inside.map.entries in
    let fresh = rw (← c.self.view_is) at c.requires.fresh in
    let new = insert_entry-new (λ a b. pointwise nat_eq a.items b.items) c.self.inside.map c.args.name c.args.last (fresh_is c.args.name.items es fresh) in
    rw (← c.self.view_is) (ap labels_in (c.in-Ok.ensures.entries ∙ new) ∙ one_more es c.args.name c.args.last)
