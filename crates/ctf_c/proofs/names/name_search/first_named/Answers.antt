use Rattle.std.proofs.Common.{◌<◌, ℕ, List, length, true, false, sym, ap, ◌∙◌, arith, bytes_eq}
use Rattle.std.specs.Prelude.{slice_get}
use Rattle.ctf_model.specs.format.Term.{Enumerator}
use Rattle.ctf_sections.specs.ShortNames.{is_named}
use Rattle.ctf_c.proofs.names.Finding.{found_later, got, names_say}
use Rattle.ctf_c.proofs.names.name_search.first_named.Goals as goal

pub returns-then-is_name : goal.returns-then-is_name
returns-then-is_name c =
    let es = c.args.enumerators.now in
    let i = c.loop-index.index in
    let name = c.args.name.now in
    let lt : i < length es = omega (arith, c.loop-index-test.true, c.len-index-end.ensures.value) in
    let h = names_say (λ (e : Enumerator). e.name) name es i true lt (sym c.if-is_name.true ∙ c.is_name.ensures ∙ ap (λ (ns : List (List ℕ)). is_named name (slice_get ns i)) c.requires) in
    got (λ (e : Enumerator). bytes_eq name e.name) es i _ c.get.ensures h c.loop-index.invariant

pub loop-index-preserved : goal.loop-index-preserved
loop-index-preserved c =
    let es = c.args.enumerators.now in
    let i = c.loop-index.index in
    let name = c.args.name.now in
    let lt : i < length es = omega (arith, c.loop-index-test.true, c.len-index-end.ensures.value) in
    let h = names_say (λ (e : Enumerator). e.name) name es i false lt (sym c.if-is_name.false ∙ c.is_name.ensures ∙ ap (λ (ns : List (List ℕ)). is_named name (slice_get ns i)) c.requires) in
    found_later (λ (e : Enumerator). bytes_eq name e.name) es i h ∙ c.loop-index.invariant
