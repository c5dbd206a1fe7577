use Rattle.std.proofs.Common.{◌+◌, drop, get_or, sym, ap, ◌∙◌, arith}
use Rattle.std.proofs.lemmas.List.{drop_all, drop_more}
use Rattle.ctf_order.specs.Naming.{naming}
use Rattle.ctf_order.specs.Searching.{first_of}
use Rattle.ctf_order.specs.declared.entries.Ranked.{Ranked}
use Rattle.ctf_order.proofs.Search.{step_end, step_found, step_on, step_stop}
use Rattle.ctf_order.proofs.order.first_named.Goals as goal

pub returns-then-rank-one : goal.returns-then-rank-one
returns-then-rank-one c =
    let t = naming c.args.texts.now in
    let text = c.args.text.now in
    let xs = c.args.entries.now in
    let i = c.loop-one.one-index in
    let d : Ranked = record { rank = 0; entry = record { reference = 0; item = 0 } } in
    sym (c.loop-one.invariant ∙ ap (first_of t c.args.rank text) (drop_more xs i d c.loop-one-test.true) ∙ step_stop t c.args.rank text (get_or xs i d) (drop (i + 1) xs) c.if-rank-one.true)

pub returns-then-is_named : goal.returns-then-is_named
returns-then-is_named c =
    let t = naming c.args.texts.now in
    let text = c.args.text.now in
    let xs = c.args.entries.now in
    let i = c.loop-one.one-index in
    let d : Ranked = record { rank = 0; entry = record { reference = 0; item = 0 } } in
    sym (c.loop-one.invariant ∙ ap (first_of t c.args.rank text) (drop_more xs i d c.loop-one-test.true) ∙ step_found t c.args.rank text (get_or xs i d) (drop (i + 1) xs) (omega (arith, c.if-rank-one.false)) (sym c.is_named.ensures ∙ c.if-is_named.true))

pub loop-one-preserved : goal.loop-one-preserved
loop-one-preserved c =
    let t = naming c.args.texts.now in
    let text = c.args.text.now in
    let xs = c.args.entries.now in
    let i = c.loop-one.one-index in
    let d : Ranked = record { rank = 0; entry = record { reference = 0; item = 0 } } in
    c.loop-one.invariant ∙ ap (first_of t c.args.rank text) (drop_more xs i d c.loop-one-test.true) ∙ step_on t c.args.rank text (get_or xs i d) (drop (i + 1) xs) (omega (arith, c.if-rank-one.false)) (sym c.is_named.ensures ∙ c.if-is_named.false)

pub returns : goal.returns
returns c =
    let t = naming c.args.texts.now in
    let text = c.args.text.now in
    let xs = c.args.entries.now in
    let i = c.loop-one.one-index in
    sym (c.loop-one.invariant ∙ ap (first_of t c.args.rank text) (drop_all i xs (omega (arith, c.loop-one-test.false))) ∙ step_end t c.args.rank text)
