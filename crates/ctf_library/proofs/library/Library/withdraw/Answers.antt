use Rattle.std.proofs.Common.{◌≡◌, ℕ, List, false, rules, ap, sym, ◌∙◌, arith}
use Rattle.std.specs.Prelude.{is_some, map, nat_eq, not, sum_by}
use Rattle.std.specs.Cmp.Lexicographic.{pointwise}
use Rattle.ctf_library.proofs.ByName.{missing}
use Rattle.ctf_library.specs.SlotView.{slot_of}
use Rattle.ctf_protocol.proofs.Charged.{filter_bytes}
use Rattle.ctf_protocol.specs.sessions.Charges.{publication_bytes}
use Rattle.ctf_protocol.specs.sessions.Publications.{published_as}
use Rattle.ctf_protocol.specs.sessions.State.{Publication, State}
use Rattle.ctf_library.proofs.library.Library.withdraw.Goals as goal

pub invariant_of-self : goal.invariant_of-self
invariant_of-self c =
    let left = ap (λ (ps : List Publication). sum_by publication_bytes ps) c.remove.ensures.left in
    let less = filter_bytes (λ (p : Publication). not (pointwise nat_eq p.name c.as_slice.result.now)) c.self.inside.published in
    let small = c.self.invariant.2.small in
    (c.self.invariant.0, c.self.invariant.1, record { slots = c.self.invariant.2.slots; small = omega (arith, left, less, small) })

pub returns-then-not-remove : goal.returns-then-not-remove
returns-then-not-remove c =
    let inside : State = record { slots = map slot_of c.self.inside.slots.items; next = c.self.inside.next; stage = c.self.inside.stage; published = c.self.inside.published } in
    let none = sym c.remove.ensures.there ∙ c.if-not-remove.true in
    let same = ap (λ (ps : List Publication). record inside { published = ps }) (c.remove.ensures.left ∙ missing c.as_slice.result.now c.self.inside.published none) ∙ c.self.view_is in
    let unnamed : is_some (published_as c.args.name.now c.args.self.now.published) ≡ false = ap (λ (n : List ℕ). is_some (published_as n c.args.self.now.published)) (sym c.as_slice.ensures) ∙ ap (λ (s : State). is_some (published_as c.as_slice.result.now s.published)) (sym c.self.view_is) ∙ none in
    rw unnamed (record { reply = search rules; state = same })

pub invariant_of-self-2 : goal.invariant_of-self-2
invariant_of-self-2 c =
    let left = ap (λ (ps : List Publication). sum_by publication_bytes ps) c.remove.ensures.left in
    let less = filter_bytes (λ (p : Publication). not (pointwise nat_eq p.name c.as_slice.result.now)) c.self.inside.published in
    let small = c.self.invariant.2.small in
    (c.self.invariant.0, c.self.invariant.1, record { slots = c.self.invariant.2.slots; small = omega (arith, left, less, small) })
