use Rattle.std.proofs.Common.{◌∷◌, [], sym, ◌∙◌, arith}
use Rattle.std.proofs.lemmas.List.{append-nil}
use Rattle.ctf_draft.proofs.Lifting.{longer_above, one_above, same_above}
use Rattle.ctf_draft.proofs.depths.Depths.note.Goals as goal

pub returns-in_err-push-clause-grows : goal.returns-in_err-push-clause-grows
returns-in_err-push-clause-grows c = λ k p h.
    longer_above c.make_lists.new.self.above.items c.args.j c.index_mut-holders.result.now c.push.new.self [] (omega (arith, c.in_ok-make_lists.ensures.len)) c.index_mut-holders.ensures.value (c.in_err-push.ensures.items ∙ sym (append-nil c.index_mut-holders.result.now.items)) k p
    (same_above c.args.self.now.above.items c.make_lists.new.self.above.items c.make_lists.ensures.same k p h)

pub returns-clause-grows : goal.returns-clause-grows
returns-clause-grows c = λ k p h.
    longer_above c.make_lists.new.self.above.items c.args.j c.index_mut-holders.result.now c.push.new.self (c.args.i ∷ []) (omega (arith, c.in_ok-make_lists.ensures.len)) c.index_mut-holders.ensures.value c.in_ok-push.ensures.items k p
    (same_above c.args.self.now.above.items c.make_lists.new.self.above.items c.make_lists.ensures.same k p h)

pub returns-clause-noted : goal.returns-clause-noted
returns-clause-noted c = one_above c.make_lists.new.self.above.items c.args.j c.args.i c.push.new.self c.index_mut-holders.result.now.items (omega (arith, c.in_ok-make_lists.ensures.len)) c.in_ok-push.ensures.items
