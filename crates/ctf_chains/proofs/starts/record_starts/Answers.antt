use Rattle.std.proofs.Common.{◌≡◌, ◌+◌, [], length, ap, ◌∙◌, refl, arith}
use Rattle.std.specs.Prelude.{vec_len}
use Rattle.ctf_model.specs.format.Section.{records}
use Rattle.ctf_chains.proofs.Begins.{records_at}
use Rattle.ctf_chains.proofs.starts.record_starts.Goals as goal

pub loop-record-init : goal.loop-record-init
loop-record-init c =
    let all : c.into_iter-record-iterator.result ≡ records c.args.types.now = c.into_iter-record-iterator.ensures.into_iter_gives ∙ c.new-record-items.ensures in
    let none : c.in_ok-places.places.items ≡ [] = c.in_ok-places.ensures.items in
    let first : vec_len c.in_ok-places.places + 1 ≡ 1 = omega (arith, c.in_ok-places.ensures.len) in
    record {
      so_far = rw (none, all) refl;
      room = omega (arith, ap length all, c.in_ok-places.ensures.len, c.in_ok-places.ensures.capacity);
      places = rw (first, all) (records_at c.args.types.now);
    }
