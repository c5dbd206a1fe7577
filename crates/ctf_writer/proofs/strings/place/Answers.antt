use Rattle.std.proofs.Common.{◌≡◌, ◌<◌, ℕ, List, arith, get_or, length, true, sym, subst, ◌∙◌}
use Rattle.std.specs.List.{AllByRecursion}
use Rattle.std.proofs.lemmas.Result.{err_from_is_err_and}
use Rattle.ctf_writer.specs.Endings.{is_marked}
use Rattle.ctf_writer.specs.TableNames.{joined, names_within}
use Rattle.ctf_writer.specs.Uses.{IsRefused}
use Rattle.ctf_writer.proofs.Placing.{marked_at, name_is, no_name, one_placed, one_refused}
use Rattle.ctf_writer.proofs.strings.place.Goals as goal

pub returns-in_err-add-clause-refused : goal.returns-in_err-add-clause-refused
returns-in_err-add-clause-refused c =
    let p = err_from_is_err_and c.from_residual-in_err-add.result c.from_residual-in_err-add.ensures.1 in
    let old = names_within c.args.before.now in
    let names = c.as_slice-names.result.now in
    let i = c.loop-name.name-index in
    let x = get_or names i no_name in
    let test = c.loop-name-test.true in
    let end = c.loop-name.auto.name-index-end in
    let lt : c.loop-name.name-index < length c.as_slice-names.result.now = omega (arith, test, end) in
    let is = name_is names i lt in
    let marks = c.in_ok-endings.endings in
    let marked = marked_at marks names i x lt is (subst (AllByRecursion (λ name. is_marked marks name ≡ true)) (sym c.as_slice-names.ensures.names) c.in_ok-endings.ensures) in
    let known = c.offset_of.ensures ∙ c.in_ok-offsets.ensures x.now marked in
    let refused = one_refused old names i x lt is c.as_slice-names.ensures.once c.as_slice-names.ensures.filled c.loop-name.placed.references.items c.loop-name.placed.added.items c.loop-name.placed.len c.loop-name.invariant
    c.offset_of.result c.in_err-add.field-0.0 known c.in_err-add.ensures.err in
    rw (p.1, p.2) (subst (λ (ns : List (List ℕ)). IsRefused (joined old ns) c.in_err-add.field-0.0) c.as_slice-names.ensures.names refused)

pub loop-name-preserved : goal.loop-name-preserved
loop-name-preserved c =
    let old = names_within c.args.before.now in
    let names = c.as_slice-names.result.now in
    let i = c.loop-name.name-index in
    let x = get_or names i no_name in
    let test = c.loop-name-test.true in
    let end = c.loop-name.auto.name-index-end in
    let lt : c.loop-name.name-index < length c.as_slice-names.result.now = omega (arith, test, end) in
    let is = name_is names i lt in
    let marks = c.in_ok-endings.endings in
    let marked = marked_at marks names i x lt is (subst (AllByRecursion (λ name. is_marked marks name ≡ true)) (sym c.as_slice-names.ensures.names) c.in_ok-endings.ensures) in
    let known = c.offset_of.ensures ∙ c.in_ok-offsets.ensures x.now marked in
    one_placed old names i x lt is c.as_slice-names.ensures.once c.as_slice-names.ensures.filled c.loop-name.placed.references.items c.loop-name.placed.added.items c.loop-name.placed.len c.loop-name.invariant
    c.offset_of.result known c.add.new.self.references.items c.add.new.self.added.items c.add.new.self.len c.in_ok-add.ensures.references c.in_ok-add.ensures.added c.in_ok-add.ensures.len c.in_ok-add.ensures.short
