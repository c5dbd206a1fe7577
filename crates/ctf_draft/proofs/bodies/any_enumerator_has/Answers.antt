use Rattle.std.proofs.Common.{sym, ap, ◌∙◌, arith}
use Rattle.std.specs.Str.{bytes_eq}
use Rattle.ctf_draft.specs.declared.types.Enumerator.{Enumerator}
use Rattle.ctf_draft.proofs.Among.{any_at}
use Rattle.ctf_draft.proofs.bodies.any_enumerator_has.Goals as goal

pub returns-then-eq : goal.returns-then-eq
returns-then-eq c =
    let equal = ap (bytes_eq c.args.name.now) (sym c.as_slice.ensures) ∙ sym c.eq.ensures ∙ c.if-eq.true in
    sym (any_at (λ (x : Enumerator). x.name) (bytes_eq c.args.name.now) c.args.enumerators.now c.args.place c.index-enumerators-place.result (omega arith) c.index-enumerators-place.is (ap (λ (x : Enumerator). bytes_eq c.args.name.now x.name) c.index-enumerators-place.is ∙ equal))

pub returns-then-eq-2 : goal.returns-then-eq-2
returns-then-eq-2 c =
    let equal = ap (bytes_eq c.args.name.now) (sym c.as_slice-in-loop-enumerator.ensures) ∙ sym c.eq-in-loop-enumerator.ensures ∙ c.if-eq-2.true in
    sym (any_at (λ (x : Enumerator). x.name) (bytes_eq c.args.name.now) c.args.enumerators.now c.loop-enumerator.enumerator-index c.enumerator-item.result c.loop-enumerator-test.true c.enumerator-item.is equal)
