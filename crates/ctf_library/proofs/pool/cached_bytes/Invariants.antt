use Rattle.std.proofs.Common.{◌≡◌, take}
use Rattle.std.specs.Prelude.{sum_by}
use Rattle.ctf_model.specs.opened.Sizes.{kept_bytes}
use Rattle.ctf_library.proofs.pool.cached_bytes.Given as goal

abbrev pub invariant-loop-loaded : goal.invariant-loop-loaded
invariant-loop-loaded l = l.bytes ≡ sum_by kept_bytes (take l.loaded-index l.held)
