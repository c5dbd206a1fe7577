use Rattle.std.proofs.Common.{◌≡◌, ◌<◌, drop, get_or, Some, ap, ◌∙◌, subst, add-zero}
use Rattle.std.proofs.lemmas.Str.{IsCharBoundary-before_ascii}
use Rattle.std.proofs.lemmas.List.{get_or-drop, get_or_default}
use Rattle.json.specs.Word.{after_number}
use Rattle.ctf_json.proofs.WordFronts.{Found, number_ascii}
use Rattle.ctf_json.proofs.words.number.Goals as goal

pub range-requires-clause-start_boundary : goal.range-requires-clause-start_boundary
range-requires-clause-start_boundary c some =
    let d = c.args.text.now in
    let p = c.args.from in
    let found : Some (drop c.in-Some.end d) ≡ after_number (drop p d) = rw (← c.as_bytes-bytes.ensures.value) c.in-Some.ensures.0 in
    let first : get_or (drop p d) 0 32 ≡ get_or d p 0 = get_or-drop p d 0 32 ∙ ap (λ j. get_or d j 32) (add-zero p) ∙ get_or_default d p 32 0 c.requires in
    let small : get_or d p 0 < 128 = subst (λ x. x < 128) first (number_ascii (drop p d) (subst Found found tt)) in
    IsCharBoundary-before_ascii d p c.requires small
