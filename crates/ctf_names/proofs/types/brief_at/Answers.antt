use Rattle.std.proofs.Common.{sym, ap, ◌∙◌, arith}
use Rattle.std.specs.Prelude.{option_and_then}
use Rattle.ctf_check.specs.CheckedView.{dictionary_of, lists_of}
use Rattle.ctf_check.specs.TypedView.{term_in}
use Rattle.ctf_space.proofs.Few.{few_terms}
use Rattle.ctf_names.proofs.Led.{not_past}
use Rattle.ctf_names.proofs.types.brief_at.Goals as goal

pub brief_of-requires-clause-few : goal.brief_of-requires-clause-few
brief_of-requires-clause-few c =
    let few = few_terms (lists_of c.args.dictionary.now) c.args.dictionary.now.faultless in
    omega (arith, few, c.count.ensures)

pub unreachable-requires : goal.unreachable-requires
unreachable-requires c =
    not_past (dictionary_of c.args.dictionary.now).terms c.args.place c.requires.there (sym c.own_type.ensures.found ∙ ap (option_and_then term_in) c.in-None.is)
