use Rattle.std.proofs.Common.{Bool, ap, ◌∙◌, arith}
use Rattle.ctf_check.specs.CheckedView.{lists_of}
use Rattle.ctf_check.specs.TypedView.{dictionary_in, term_in}
use Rattle.ctf_model.specs.opened.Open.{space_in}
use Rattle.ctf_model.specs.spaces.TypeNumbers.{or_no_type}
use Rattle.ctf_model.specs.spaces.TypePlaces.{own_number}
use Rattle.ctf_space.proofs.Few.{few_terms}
use Rattle.ctf_space.specs.SpaceView.{own_lists, space_of}
use Rattle.ctf_c.proofs.TypeRows.{own_some, tells}
use Rattle.ctf_c.proofs.type_rows.fill_row.Goals as goal

pub own_number-t-requires : goal.own_number-t-requires
own_number-t-requires c =
    let few = few_terms (own_lists c.args.space.now) c.args.space.now.own.faultless in
    omega (arith, few, c.requires.there)

pub own_type-found-requires-clause-short : goal.own_type-found-requires-clause-short
own_type-found-requires-clause-short c =
    let few = few_terms (own_lists c.args.space.now) c.args.space.now.own.faultless in
    omega (arith, few, c.requires.there)

pub returns : goal.returns
returns c = λ d asked.
    let x = c.own_type-found.result in
    let t = c.own_number-t in
    let number = t.ensures ∙ ap (λ (child : Bool). own_number child c.args.index) c.requires.child in
    let figures = c.put_figures.ensures (space_in d) asked.fits (own_some c.args.child c.args.index t.result.0 t.ensures) in
    let numbers = c.numbers_of-numbers.ensures in
    tells d (space_of c.args.space.now) (lists_of (dictionary_in x)) c.args.index (or_no_type (term_in x)) _ asked.space (c.own_type-found.ensures.lists ∙ asked.lists) c.own_type-found.ensures.found number numbers.kind numbers.root numbers.length numbers.reference figures.size figures.align figures.resolved c.name_place-place.ensures
