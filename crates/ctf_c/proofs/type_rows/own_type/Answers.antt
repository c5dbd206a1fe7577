use Rattle.std.proofs.Common.{◌<◌, ◌∙◌, ap, length, subst, sym}
use Rattle.ctf_check.specs.CheckedView.{dictionary_of, lists_of}
use Rattle.ctf_check.specs.TypedView.{term_in}
use Rattle.ctf_model.specs.format.Dictionary.{Dictionary}
use Rattle.ctf_space.specs.SpaceView.{space_of}
use Rattle.ctf_c.proofs.TypeRows.{own_found, own_there}
use Rattle.ctf_c.proofs.type_rows.own_type.Goals as goal

pub unwrap-requires : goal.unwrap-requires
unwrap-requires c =
    let d = dictionary_of c.dictionary.result in
    let below = subst (λ (x : Dictionary). c.args.index < length x.terms) (sym c.dictionary.ensures.own) c.requires.there in
    c.type_at.ensures.exact.1 (own_there d c.args.index below)

pub returns-clause-found : goal.returns-clause-found
returns-clause-found c = own_found (space_of c.args.space.now) (dictionary_of c.dictionary.result) c.args.index (term_in c.unwrap.result) c.dictionary.ensures.own (rw c.unwrap.ensures at c.type_at.ensures.spells)

pub returns-clause-lists : goal.returns-clause-lists
returns-clause-lists c = ap (λ d. lists_of d) (rw c.unwrap.ensures at c.type_at.ensures.of) ∙ c.dictionary.ensures.lists
