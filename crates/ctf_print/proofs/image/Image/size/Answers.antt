use Rattle.ctf_space.specs.SpaceView.{space_of}
use Rattle.ctf_print.proofs.image.Image.size.Goals as goal

pub returns : goal.returns
returns c = c.size.ensures.size (space_of c.args.self.now.space) c.args.self.now.fits
