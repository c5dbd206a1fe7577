use Rattle.std.proofs.Common.{ℕ, List, ◌++◌, arith, ap, sym, subst, length, map, ◌∙◌}
use Rattle.std.proofs.lemmas.List.Elements.{All-from_recursion}
use Rattle.std.specs.List.{AllByRecursion, flat_map}
use Rattle.ctf_model.specs.drafts.Fitting.{FitsMember}
use Rattle.ctf_model.specs.format.Term as term
use Rattle.ctf_model.specs.writing.WritingLaws.{IsKept}
use Rattle.ctf_draft.specs.TypeView.{enumerator_of, member_of}
use Rattle.ctf_draft.specs.declared.types.Enumerator.{Enumerator}
use Rattle.ctf_draft.specs.declared.types.Member.{Member}
use Rattle.ctf_writer.specs.DraftContentView.{written_enumerator, written_member}
use Rattle.ctf_writer.specs.Tables.{names, used}
use Rattle.ctf_writer.proofs.Joining.{all_mapped, enumerators_joined}
use Rattle.ctf_writer.proofs.Lengths.{aggregate_bytes, fits_aggregate, names_aggregate}
use Rattle.ctf_writer.proofs.records.put_variant.Goals as goal

pub put_members-requires-clause-room : goal.put_members-requires-clause-room
put_members-requires-clause-room c =
    let room = rw c.in-Aggregate.is at c.requires.room in
    let slice = c.as_slice-in-Aggregate.ensures.value in
    let same = ap length (aggregate_bytes (names c.args.strings.now) c.in-Aggregate.field-0 c.in-Aggregate.size c.in-Aggregate.members.items) in
    rw slice (omega (arith, room, same))

pub put_members-requires-clause-fits : goal.put_members-requires-clause-fits
put_members-requires-clause-fits c =
    let given = rw c.in-Aggregate.is at c.requires.fits in
    let fits = fits_aggregate c.in-Aggregate.field-0 c.in-Aggregate.size (map member_of c.in-Aggregate.members.items) given in
    let slice = c.as_slice-in-Aggregate.ensures.value in
    rw slice (All-from_recursion (λ (m : Member). FitsMember c.in-Aggregate.size (member_of m)) c.in-Aggregate.members.items (all_mapped (FitsMember c.in-Aggregate.size) member_of c.in-Aggregate.members.items fits.each))

pub put_members-requires-clause-kept : goal.put_members-requires-clause-kept
put_members-requires-clause-kept c =
    let given = rw c.in-Aggregate.is at c.requires.kept in
    let kept = subst (λ (ns : List (List ℕ)). AllByRecursion (IsKept (used c.args.strings.now)) ns) (names_aggregate c.in-Aggregate.field-0 c.in-Aggregate.size (map member_of c.in-Aggregate.members.items)) given in
    let slice = c.as_slice-in-Aggregate.ensures.value in
    rw slice (All-from_recursion (λ (m : Member). IsKept (used c.args.strings.now) m.name) c.in-Aggregate.members.items
    (all_mapped (λ (m : term.Member). IsKept (used c.args.strings.now) m.name) member_of c.in-Aggregate.members.items (all_mapped (IsKept (used c.args.strings.now)) (λ (m : term.Member). m.name) (map member_of c.in-Aggregate.members.items) kept)))

pub returns-in-Aggregate-clause-items : goal.returns-in-Aggregate-clause-items
returns-in-Aggregate-clause-items c =
    let slice = c.as_slice-in-Aggregate.ensures.value in
    let same = ap (flat_map (written_member (names c.args.strings.now) c.in-Aggregate.size)) slice ∙ sym (aggregate_bytes (names c.args.strings.now) c.in-Aggregate.field-0 c.in-Aggregate.size c.in-Aggregate.members.items) in
    rw c.in-Aggregate.is (c.put_members.ensures.items ∙ ap (λ (b : List ℕ). c.args.out.now.items ++ b) same)

pub returns-in-Aggregate-clause-len : goal.returns-in-Aggregate-clause-len
returns-in-Aggregate-clause-len c =
    let slice = c.as_slice-in-Aggregate.ensures.value in
    let same = ap (flat_map (written_member (names c.args.strings.now) c.in-Aggregate.size)) slice ∙ sym (aggregate_bytes (names c.args.strings.now) c.in-Aggregate.field-0 c.in-Aggregate.size c.in-Aggregate.members.items) in
    let len = ap length same in
    let put = c.put_members.ensures.len in
    rw c.in-Aggregate.is (omega (arith, len, put))

pub put_enumerators-requires-clause-room : goal.put_enumerators-requires-clause-room
put_enumerators-requires-clause-room c =
    let room = rw c.in-Enum.is at c.requires.room in
    let slice = c.as_slice-in-Enum.ensures.value in
    let same = ap length (enumerators_joined (names c.args.strings.now) c.in-Enum.enumerators.items) in
    rw slice (omega (arith, room, same))

pub put_enumerators-requires-clause-kept : goal.put_enumerators-requires-clause-kept
put_enumerators-requires-clause-kept c =
    let kept = rw c.in-Enum.is at c.requires.kept in
    let slice = c.as_slice-in-Enum.ensures.value in
    rw slice (All-from_recursion (λ (e : Enumerator). IsKept (used c.args.strings.now) e.name) c.in-Enum.enumerators.items
    (all_mapped (λ (e : term.Enumerator). IsKept (used c.args.strings.now) e.name) enumerator_of c.in-Enum.enumerators.items (all_mapped (IsKept (used c.args.strings.now)) (λ (e : term.Enumerator). e.name) (map enumerator_of c.in-Enum.enumerators.items) kept)))

pub returns-in-Enum-clause-items : goal.returns-in-Enum-clause-items
returns-in-Enum-clause-items c =
    let slice = c.as_slice-in-Enum.ensures.value in
    let same = ap (flat_map (written_enumerator (names c.args.strings.now))) slice ∙ sym (enumerators_joined (names c.args.strings.now) c.in-Enum.enumerators.items) in
    rw c.in-Enum.is (c.put_enumerators.ensures.items ∙ ap (λ (b : List ℕ). c.args.out.now.items ++ b) same)

pub returns-in-Enum-clause-len : goal.returns-in-Enum-clause-len
returns-in-Enum-clause-len c =
    let slice = c.as_slice-in-Enum.ensures.value in
    let same = ap (flat_map (written_enumerator (names c.args.strings.now))) slice ∙ sym (enumerators_joined (names c.args.strings.now) c.in-Enum.enumerators.items) in
    let len = ap length same in
    let put = c.put_enumerators.ensures.len in
    rw c.in-Enum.is (omega (arith, len, put))
