-- How far a path has come. Source: ours.
use Rattle.std.specs.Prelude.{ℕ}
use Rattle.ctf_model.specs.figures.Paths.{Position}
use Rattle.ctf_model.specs.declared.numbers.TypeNum.{TypeNum}
use Rattle.ctf_layout.specs.declared.paths.Reached as reached

abbrev pub spot : reached.Reached → Position
spot at = record { offset = at.offset; tnum = at.tnum.0 }

abbrev pub position_of : ℕ × TypeNum → Position
position_of at = record { offset = at.0; tnum = at.1.0 }
