use Rattle.std.proofs.Common.{map}
use Rattle.std.specs.List.{flat_map}
use Rattle.ctf_writer.specs.DraftContentView.{uses}
use Rattle.ctf_writer.specs.UsedView.{used_names}
use Rattle.ctf_writer.proofs.Growing.{used_all}
use Rattle.ctf_writer.proofs.uses.used_in.Goals as goal

pub returns : goal.returns
returns c =
    used_all (used_names c.in_ok-used.used) (used_names c.add.new.self) (used_names c.add-2.new.self) (used_names c.add_labels.new.used) (used_names c.add_types.new.used)
    c.args.held.parlabel.now c.args.held.parname.now (map (λ l. l.name) c.args.held.labels.now) (flat_map uses c.args.types.now)
    c.in_ok-used.ensures c.in_ok-add.ensures c.in_ok-add-2.ensures c.in_ok-add_labels.ensures c.in_ok-add_types.ensures
