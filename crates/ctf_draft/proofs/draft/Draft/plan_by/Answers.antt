use Rattle.std.proofs.Common.{inr, sym}
use Rattle.ctf_draft.proofs.Planned.{plan_err, plan_of_deep, plan_ok}
use Rattle.ctf_draft.proofs.draft.Draft.plan_by.Goals as goal

pub returns-then-is_shallow-clause-ok : goal.returns-then-is_shallow-clause-ok
returns-then-is_shallow-clause-ok c =
    let d = c.args.self.now.draft in
    let free = rw c.in-Some.is at c.free_place.ensures in
    plan_ok d c.args.n.0 c.args.tnum.0 c.args.offset c.plan_shallow.result (c.is_shallow.ensures c.if-is_shallow.true) (c.plan_shallow.ensures c.args.offset (rw c.from.ensures (sym (free c.args.tnum.0))))

pub returns-then-is_shallow-clause-err : goal.returns-then-is_shallow-clause-err
returns-then-is_shallow-clause-err c =
    let d = c.args.self.now.draft in
    let free = rw c.in-Some.is at c.free_place.ensures in
    plan_err d c.args.n.0 c.args.tnum.0 c.args.offset c.plan_shallow.result (c.is_shallow.ensures c.if-is_shallow.true) (c.plan_shallow.ensures c.args.offset (rw c.from.ensures (sym (free c.args.tnum.0))))

pub returns-in-Some-found-clause-ok : goal.returns-in-Some-found-clause-ok
returns-in-Some-found-clause-ok c =
    let found = rw c.in-Some-found.is at c.in_ok-found.ensures.found in
    plan_ok c.args.self.now.draft c.args.n.0 c.args.tnum.0 c.args.offset c.plan_shallow-in-Some-found.result found.0 (c.plan_shallow-in-Some-found.ensures c.args.offset (c.member_place-place.ensures.place c.args.tnum.0 found.1))

pub returns-in-Some-found-clause-err : goal.returns-in-Some-found-clause-err
returns-in-Some-found-clause-err c =
    let found = rw c.in-Some-found.is at c.in_ok-found.ensures.found in
    plan_err c.args.self.now.draft c.args.n.0 c.args.tnum.0 c.args.offset c.plan_shallow-in-Some-found.result found.0 (c.plan_shallow-in-Some-found.ensures c.args.offset (c.member_place-place.ensures.place c.args.tnum.0 found.1))

pub returns-in-None-clause-err : goal.returns-in-None-clause-err
returns-in-None-clause-err c =
    let found = rw c.in-None.is at c.in_ok-found.ensures.found in
    inr (rw c.placeless.ensures (plan_of_deep c.args.self.now.draft c.args.n.0 c.args.tnum.0 c.args.offset found))
