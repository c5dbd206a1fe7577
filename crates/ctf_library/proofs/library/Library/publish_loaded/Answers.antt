use Rattle.std.proofs.Common.{List, Ok, ap, ◌∙◌, arith}
use Rattle.std.proofs.lemmas.List.Sums.{sum_by_push}
use Rattle.ctf_library.proofs.Counting.{counted_charge}
use Rattle.ctf_library.specs.Charged.{bytes_published}
use Rattle.ctf_protocol.specs.sessions.Charges.{publication_bytes}
use Rattle.ctf_protocol.specs.sessions.State.{Publication}
use Rattle.ctf_library.proofs.library.Library.publish_loaded.Goals as goal

pub add-requires : goal.add-requires
add-requires c =
    let charged = c.charge.ensures ∙ counted_charge _ _ _ _ _ _ c.self.view_is c.self.invariant.2 in
    let few = c.if-bytes-charge.false in
    let small = c.self.invariant.2.small in
    let count = c.bytes.ensures.count in
    record { small = omega (arith, charged, few, small, count) }

pub invariant_of-self-2 : goal.invariant_of-self-2
invariant_of-self-2 c =
    let charged = c.charge.ensures ∙ counted_charge _ _ _ _ _ _ c.self.view_is c.self.invariant.2 in
    let few = c.if-bytes-charge.false in
    let small = c.self.invariant.2.small in
    let count = c.bytes.ensures.count in
    let more = ap (λ (ps : List Publication). bytes_published ps) (c.in_ok-add.ensures.added (ap Ok c.if-not-branch.false)) in
    let one = sum_by_push publication_bytes c.self.inside.published (record { name = c.args.name.now; kept = c.args.loaded }) in
    (c.self.invariant.0, c.self.invariant.1, record { slots = c.self.invariant.2.slots; small = omega (arith, charged, few, small, count, more, one) })
