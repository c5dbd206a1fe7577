-- What an `Image` shows.
use Rattle.std.specs.Prelude.{ℕ, List}
use Rattle.ctf_model.specs.spaces.Space.{Space}
use Rattle.ctf_model.specs.values.Values.{Shows, shown_within}
use Rattle.ctf_space.specs.SpaceView.{space_of}
use Rattle.ctf_print.specs.declared.image.Image.{Image}

-- the space of its types
abbrev pub types_of : Image → Space
types_of image = space_of image.space

abbrev pub memory_of : Image → List ℕ
memory_of image = image.memory.now

-- the text of its values, following at most `k` numbers
abbrev pub shows : Image → ℕ → Shows
shows image k = shown_within (types_of image) (memory_of image) k
