use Rattle.std.proofs.Common.{take, get_or}
use Rattle.std.proofs.lemmas.List.{take_more}
use Rattle.ctf_order.specs.Naming.{naming}
use Rattle.ctf_order.proofs.Lent.{left_out, taken}
use Rattle.ctf_order.proofs.lending.ranked_within.Goals as goal
use Rattle.ctf_order.proofs.lending.ranked_within.Goals.{in-Some+else-next-left+in_ok-push, in_default}

pub loop-number-preserved : goal.loop-number-preserved
loop-number-preserved c =
    let t = naming c.args.texts.now in
    let i = c.loop-number.number in
    let xs = c.args.items.now in
    let far = c.loop-number.ranked.items in
    let before = c.loop-number.before in
    let x = get_or xs i (record { reference = 0; item = 0 }) in
    elim c.match-next_named.branch [
      | in-Some+else-next-left+in_ok-push w ↦
          rw (w.ranked-is, w.before-is, w.in_ok-push.ensures.items, w.rank.ensures, take_more xs i (record { reference = 0; item = 0 }) c.loop-number-test.true) (taken t (take i xs) x far w.in-Some.next before c.loop-number.invariant w.in-Some.ensures.0 w.in-Some.ensures.1)
      | in_default w ↦
          rw (w.ranked-is, w.before-is, take_more xs i (record { reference = 0; item = 0 }) c.loop-number-test.true) (left_out t (take i xs) x far before c.loop-number.invariant w.in_default.ensures)
    ]
