use Rattle.ctf_c.proofs.handles.Lending.{still_full}
use Rattle.ctf_c.proofs.handles.option_box.OptionBox.get_mut.Goals as goal

pub returns : goal.returns
returns g c = (still_full c.get_mut.result.ghost_name c.args.self.now _ c.if-not-self.false, c.get_mut.ensures)
