use Rattle.std.proofs.Common.{◌≡◌, ◌<◌, ◌+◌, ◌∷◌, Ok, Err, length, refl, sym, ap, ◌∙◌, arith}
use Rattle.std.proofs.lemmas.Bool.{eqb-true}
use Rattle.ctf_model.proofs.Walk.{front_len_range, walk_ended, nonempty, ended_by, took}
use Rattle.ctf_model.specs.format.Section.{Piece, walk}
use Rattle.ctf_model.specs.declared.faults.Fault.{Fault}
use Rattle.ctf_records.proofs.Reading.{goes_first}
use Rattle.ctf_records.proofs.cursor.RecordsIterator.next.Goals as goal

pub returns-then-is_empty-clause-steps : goal.returns-then-is_empty-clause-steps
returns-then-is_empty-clause-steps c =
    let none : length c.self.inside.rest.now ≡ 0 = eqb-true _ _ (sym c.is_empty.ensures ∙ c.if-is_empty.true) in
    let ended = sym c.self.view_is ∙ walk_ended (length c.self.inside.rest.now) c.self.inside.index c.self.inside.at c.self.inside.rest.now none in
    (ended, ended)

pub take_record-record-requires-clause-near : goal.take_record-record-requires-clause-near
take_record-record-requires-clause-near c =
    let inside = (front_len_range c.self.inside.rest.now c.in-Some.len (sym c.in-Some.ensures)).1 in
    omega (arith, inside, c.self.invariant.1)

pub returns-in-None-clause-steps : goal.returns-in-None-clause-steps
returns-in-None-clause-steps c =
    let more : 0 < length c.self.inside.rest.now = nonempty _ (sym c.is_empty.ensures ∙ c.if-is_empty.false) in
    let code = ap (λ (f : Fault). f.code) c.stop_fault-fault.ensures in
    let place = ap (λ (f : Fault). f.place) c.stop_fault-fault.ensures in
    sym c.self.view_is ∙ ended_by c.self.inside.rest.now c.self.inside.index c.self.inside.at c.stop_fault-fault.result more (sym c.in-None.ensures) code place

pub returns-in-None-clause-goes : goal.returns-in-None-clause-goes
returns-in-None-clause-goes c = goes_first _ (λ _. tt) _ _ (Err c.stop_fault-fault.result) _ (returns-in-None-clause-steps c)

pub returns-in-Some-clause-steps : goal.returns-in-Some-clause-steps
returns-in-Some-clause-steps c =
    sym c.self.view_is
    ∙ took c.self.inside.rest.now _ c.split_at.result.1.now c.self.inside.index c.self.inside.at c.in-Some.len (sym c.in-Some.ensures) refl c.split_at.ensures.back
    ∙ ap (λ (p : Piece). Ok p ∷ walk (length c.split_at.result.1.now) (c.self.inside.index + 1) (c.self.inside.at + c.in-Some.len) c.split_at.result.1.now) (sym c.take_record-record.ensures)

pub returns-in-Some-clause-goes : goal.returns-in-Some-clause-goes
returns-in-Some-clause-goes c = goes_first _ (λ _. tt) _ _ _ _ (returns-in-Some-clause-steps c)
