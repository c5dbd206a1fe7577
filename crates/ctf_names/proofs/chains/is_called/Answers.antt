use Rattle.std.proofs.Common.{◌∙◌, sym, ap, Some}
use Rattle.ctf_check.specs.FactsView.{shape_view}
use Rattle.ctf_check.specs.TypedView.{term_in}
use Rattle.ctf_model.specs.format.Name.{name}
use Rattle.ctf_names.specs.Sorts.{tag_in}
use Rattle.ctf_names.proofs.InChains.{other_word, same_word}
use Rattle.ctf_sections.specs.StringsView.{tables}
use Rattle.ctf_names.proofs.chains.is_called.Goals as goal

pub returns-then-not-is_same : goal.returns-then-not-is_same
returns-then-not-is_same c =
    other_word (term_in c.args.found.now) (shape_view c.shape.result) (tag_in c.sort_of.result) (record { tag = tag_in c.args.sort; name = c.args.name.now }) c.shape.ensures c.sort_of.ensures (sym c.is_same.ensures ∙ c.if-not-is_same.true)

pub returns : goal.returns
returns c =
    same_word (term_in c.args.found.now) (shape_view c.shape.result) (tag_in c.sort_of.result) (record { tag = tag_in c.args.sort; name = c.args.name.now }) (name (tables c.args.strings.now) c.name_reference.result) _ c.shape.ensures c.sort_of.ensures (sym c.is_same.ensures ∙ c.if-not-is_same.false) (c.name_reference.ensures ∙ ap (λ t. Some (name t c.name_reference.result)) (sym c.requires)) c.is_name_after.ensures
