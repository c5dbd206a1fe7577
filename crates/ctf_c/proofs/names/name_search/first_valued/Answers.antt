use Rattle.std.proofs.Common.{◌≡◌, rules, true, false, sym, subst, ◌∙◌, drop, find, w32, to_z, of_z}
use Rattle.std.proofs.Math.Facts.{to_z-of_z}
use Rattle.std.specs.Ordering.{int_eq}
use Rattle.ctf_model.specs.format.Term.{Enumerator}
use Rattle.ctf_c.proofs.names.Finding.{found_later, got, values_say}
use Rattle.ctf_c.proofs.names.name_search.first_valued.Goals as goal

pub returns-then-value : goal.returns-then-value
returns-then-value c =
    let es = c.args.enumerators.now in
    let i = c.loop-index.index in
    let same = to_z-of_z {w = w32} {z = c.args.value} c.ranges.value in
    let is : int_eq c.value.result c.args.value ≡ true = search rules in
    let h = values_say c.args.value c.value.result es i true c.value.ensures is in
    got (λ (e : Enumerator). int_eq e.value c.args.value) es i _ c.get.ensures h
    (subst (λ v. find (λ (e : Enumerator). int_eq e.value v) (drop i es) ≡ find (λ (e : Enumerator). int_eq e.value v) es) same c.loop-index.invariant)

pub loop-index-preserved : goal.loop-index-preserved
loop-index-preserved c =
    let es = c.args.enumerators.now in
    let i = c.loop-index.index in
    let value = to_z w32 (of_z w32 c.args.value) in
    let same = to_z-of_z {w = w32} {z = c.args.value} c.ranges.value in
    let is : int_eq c.value.result c.args.value ≡ false = search rules in
    let h = values_say value c.value.result es i false c.value.ensures (subst (λ v. int_eq c.value.result v ≡ false) (sym same) is) in
    found_later (λ (e : Enumerator). int_eq e.value value) es i h ∙ c.loop-index.invariant
