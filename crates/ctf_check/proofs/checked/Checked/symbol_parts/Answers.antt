use Rattle.std.proofs.Common.{◌∙◌, ap, sym}
use Rattle.ctf_model.specs.rules.Faults.{first_fault}
use Rattle.ctf_model.specs.declared.sections.Section.TheVariants.{SFunctions}
use Rattle.ctf_model.specs.format.Header.{section}
use Rattle.ctf_model.specs.format.Lists.{Lists}
use Rattle.ctf_check.specs.ListsView.{lists_in}
use Rattle.ctf_check.proofs.Order.{faultless}
use Rattle.ctf_check.proofs.SymbolStages.{funcs_are}
use Rattle.ctf_check.proofs.checked.Checked.symbol_parts.Goals as goal

pub returns-clause-sound : goal.returns-clause-sound
returns-clause-sound c =
    let s = lists_in c.lists-lists.result in
    let none = ap first_fault c.lists-lists.ensures.same ∙ c.args.self.now.faultless in
    funcs_are s _ _ c.table_of.ensures (c.section-2.ensures.bytes ∙ ap (λ (l : Lists). section l.ctf SFunctions) (sym c.lists-lists.ensures.same)) ∙ (faultless s none).funcs
