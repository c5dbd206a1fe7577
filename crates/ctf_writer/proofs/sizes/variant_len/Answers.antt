use Rattle.std.proofs.Common.{◌≡◌, ℕ, ◌*◌, ap, length, map, ◌∙◌, refl}
use Rattle.std.proofs.lemmas.List.{length-map}
use Rattle.ctf_draft.specs.TypeView.{enumerator_of, member_of, number_of}
use Rattle.ctf_model.specs.format.Record.{member_len}
use Rattle.ctf_writer.proofs.Lengths.{arguments_len, enumerators_len, members_len, variant_aggregate}
use Rattle.ctf_writer.proofs.sizes.variant_len.Goals as goal

pub returns-in-Function-clause-exact : goal.returns-in-Function-clause-exact
returns-in-Function-clause-exact c = λ names.
    let all = arguments_len (map number_of c.in-Function.arguments.items) in
    let count = length-map c.in-Function.arguments.items number_of in
    let vec = c.in-Function.arguments.ok in
    let one : c.len.result ≡ length c.in-Function.arguments.items = c.len.ensures ∙ vec.0 in
    let two : c.len-in-Function.result ≡ length c.in-Function.arguments.items = c.len-in-Function.ensures ∙ vec.0 in
    rw (c.in-Function.is, all, count, one, two) refl

pub returns-in-Aggregate-clause-exact : goal.returns-in-Aggregate-clause-exact
returns-in-Aggregate-clause-exact c = λ names.
    let ms = map member_of c.in-Aggregate.members.items in
    let kind = variant_aggregate names c.in-Aggregate.field-0 c.in-Aggregate.size (map member_of c.in-Aggregate.members.items) in
    let all = members_len names c.in-Aggregate.size (map member_of c.in-Aggregate.members.items) in
    let count = length-map c.in-Aggregate.members.items member_of in
    let vec = c.in-Aggregate.members.ok in
    rw (c.in-Aggregate.is, kind, all, count, c.member_len.ensures.exact, c.len-in-Aggregate.ensures) (ap (λ (n : ℕ). member_len c.in-Aggregate.size * n) vec.0)

pub returns-in-Enum-clause-exact : goal.returns-in-Enum-clause-exact
returns-in-Enum-clause-exact c = λ names.
    let all = enumerators_len names (map enumerator_of c.in-Enum.enumerators.items) in
    let count = length-map c.in-Enum.enumerators.items enumerator_of in
    let vec = c.in-Enum.enumerators.ok in
    rw (c.in-Enum.is, all, count, c.len-in-Enum.ensures) (ap (λ (n : ℕ). 8 * n) vec.0)
