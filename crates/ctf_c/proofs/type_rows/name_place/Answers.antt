use Rattle.std.proofs.Common.{◌≡◌, ℕ, List, Some, subst}
use Rattle.ctf_check.specs.CheckedView.{lists_of, tables_of}
use Rattle.ctf_check.specs.TypedView.{dictionary_in, term_in}
use Rattle.ctf_model.specs.format.Name.{name as named}
use Rattle.ctf_c.proofs.TypeRows.{name_told}
use Rattle.ctf_c.specs.names.Places.{text_in}
use Rattle.ctf_c.proofs.type_rows.name_place.Goals as goal

pub returns : goal.returns
returns c =
    let at = c.name_position.result in
    let stands = subst (λ d. (name : List ℕ) → named (tables_of d) c.name_reference.result ≡ Some name → text_in (lists_of d) at.list at.at ≡ Some name) c.dictionary.ensures c.name_position.ensures in
    name_told (term_in c.args.found.now) _ (λ name. text_in (lists_of (dictionary_in c.args.found.now)) at.list at.at ≡ Some name) c.name_reference.ensures stands
