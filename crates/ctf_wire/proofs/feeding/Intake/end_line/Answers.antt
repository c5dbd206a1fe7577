use Rattle.std.proofs.Common.{Some, refl, sym, ◌∙◌}
use Rattle.ctf_wire.proofs.Replying.{Feeds-line, Feeds-cut, whole_joins}
use Rattle.ctf_wire.proofs.feeding.Intake.end_line.Goals as goal

pub returns-then-not-make_room-clause-feeds : goal.returns-then-not-make_room-clause-feeds
returns-then-not-make_room-clause-feeds g c =
    Feeds-cut g.M.Machine.Step _ _ c.args.self.now.pending c.args.self.now.batch c.make_room.new.batch _ _ _ c.if-not-make_room.ensures.makes

pub returns-then-is_whole-clause-feeds : goal.returns-then-is_whole-clause-feeds
returns-then-is_whole-clause-feeds g c =
    let a = c.answer_whole.ensures.answers in
    let whole = c.if-is_whole.ensures refl in
    Feeds-line g.M.Machine.Step _ _ c.args.self.now.pending (Some c.args.piece.now) c.args.self.now.pending c.args.self.now.batch c.make_room.new.batch c.answer_whole.new.batch _ _ c.args.piece.now a.0
    c.requires.piece (λ bs e. whole_joins c.args.piece.now whole.1 bs (sym whole.0 ∙ e)) c.if-not-make_room.ensures.makes a.1 a.2.items c.answer_whole.ensures.waits whole.0

pub returns-clause-feeds : goal.returns-clause-feeds
returns-clause-feeds g c =
    let a = c.answer.ensures.answers in
    Feeds-line g.M.Machine.Step _ _ _ _ _ c.args.self.now.batch c.make_room.new.batch c.answer.new.batch _ _ c.args.piece.now a.0
    c.requires.piece c.append.ensures c.if-not-make_room.ensures.makes a.1 a.2.items c.answer.ensures.waits c.clear.ensures
