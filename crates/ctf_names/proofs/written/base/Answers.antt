use Rattle.std.proofs.Common.{◌≡◌, ◌+◌, ◌-◌, true, false, length, take, get_or, sym, ap, ◌∙◌, arith}
use Rattle.std.proofs.lemmas.List.{take_more}
use Rattle.ctf_model.specs.names.Lookups.{base as base_of, is_star_or_blank}
use Rattle.ctf_names.proofs.WrittenTexts.{base_all, base_same}
use Rattle.ctf_names.proofs.written.base.Goals as goal

pub returns-then-not-is_star_or_blank-clause-base : goal.returns-then-not-is_star_or_blank-clause-base
returns-then-not-is_star_or_blank-clause-base c =
    let text = c.args.text.now in
    let k = length text - c.loop-behind.behind - 1 in
    let b = get_or text k 0 in
    let whole : length text - c.loop-behind.behind ≡ k + 1 = omega (arith, c.loop-behind-test.true) in
    let more = take_more text k 0 (omega (arith, c.loop-behind-test.true)) in
    let other : is_star_or_blank b ≡ false = sym c.is_star_or_blank.ensures ∙ c.if-not-is_star_or_blank.true in
    let front = ap (λ n. take n text) whole ∙ more in
    sym (c.loop-behind.invariant ∙ ap base_of front ∙ base_all (take k text) b other ∙ sym front)

pub loop-behind-preserved : goal.loop-behind-preserved
loop-behind-preserved c =
    let text = c.args.text.now in
    let k = length text - c.loop-behind.behind - 1 in
    let b = get_or text k 0 in
    let whole : length text - c.loop-behind.behind ≡ k + 1 = omega (arith, c.loop-behind-test.true) in
    let more = take_more text k 0 (omega (arith, c.loop-behind-test.true)) in
    let one : is_star_or_blank b ≡ true = sym c.is_star_or_blank.ensures ∙ c.if-not-is_star_or_blank.false in
    let less : k ≡ length text - (c.loop-behind.behind + 1) = omega arith in
    c.loop-behind.invariant ∙ ap base_of (ap (λ n. take n text) whole ∙ more) ∙ base_same (take k text) b one ∙ ap (λ n. base_of (take n text)) less
