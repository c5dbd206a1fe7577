use Rattle.std.proofs.Common.{◌≡◌, ◌+◌, ◌≤◌, ◌++◌, [], ◌∷◌, get_or, length, subst, arith}
use Rattle.std.specs.Prelude.{vec_len}
use Rattle.std.proofs.lemmas.List.{length_push}
use Rattle.std.proofs.lemmas.Option.{same_Some}
use Rattle.ctf_layout.specs.SmallExtents.{extents_in, extents_of_entries, extents_of_wide}
use Rattle.ctf_layout.specs.declared.entry.KeptExtent.{KeptExtent}
use Rattle.ctf_layout.specs.declared.entry.Standing.TheVariants as stands
use Rattle.ctf_layout.specs.declared.kept.Extents.{Extents}
use Rattle.ctf_layout.proofs.Packing.{packed_extents_agree, small_entry_agrees, wide_entry_agrees}
use Rattle.ctf_layout.proofs.kept.small_and_wide_entries.Goals as goal
use Rattle.ctf_layout.proofs.kept.small_and_wide_entries.Goals.{in-Some, in-None+else-len-table+in_ok-push-in-None}

open_entry : KeptExtent
open_entry = record { size = 0; align = 0; target = record { 0 = 0 }; sized = stands.Open; aligned = stands.Open; resolved = stands.Open }

pub loop-entry-preserved : goal.loop-entry-preserved
unfolding open_entry
loop-entry-preserved g c =
    let t = c.args.table.now in
    let i = c.loop-entry.entry-index in
    let wide = c.loop-entry.wide.items in
    let smalls = c.loop-entry.small.items in
    let far = c.loop-entry.invariant.said in
    elim c.match-to_small.branch [
      | in-Some w ↦ record {
        said = λ later. rw (c.push_reserved.ensures.items, w.next-is, w.wide-is) (small_entry_agrees (wide ++ later) smalls t i w.in-Some.next open_entry c.loop-entry-test.true (far later) (c.to_small.ensures w.in-Some.next w.in-Some.is (wide ++ later)));
        len = omega (arith, c.push_reserved.ensures.len);
        few = rw w.wide-is (omega arith);
        wide_len = rw w.wide-is c.loop-entry.invariant.wide_len;
        room = omega (arith, c.push_reserved.ensures.capacity);
      }
      | in-None+else-len-table+in_ok-push-in-None w ↦
          let e = get_or t i open_entry in
          let pushed : w.push.new.self.items ≡ wide ++ e ∷ [] = w.in_ok-push-in-None.ensures.items in
          let more : vec_len w.push.new.self ≡ vec_len c.loop-entry.wide + 1 = w.in_ok-push-in-None.ensures.len in
          let longer : length w.push.new.self.items ≡ length wide + 1 = rw pushed (length_push wide e) in
          let place : w.wide_place-place.result ≡ length wide = omega (arith, w.wide_place-place.ensures, w.len-in-None-2.ensures, c.loop-entry.invariant.wide_len) in
          record {
            said = λ later. rw (c.push_reserved.ensures.items, w.next-is, w.wide-is, pushed) (wide_entry_agrees wide later smalls t i w.wide_place-place.result open_entry c.loop-entry-test.true place far);
            len = omega (arith, c.push_reserved.ensures.len);
            few = rw w.wide-is (omega (arith, more, c.loop-entry.invariant.few));
            wide_len = rw w.wide-is (omega (arith, longer, more, c.loop-entry.invariant.wide_len));
            room = omega (arith, c.push_reserved.ensures.capacity);
          }
    ]

pub returns : goal.returns
unfolding extents_in
returns g c = λ x is.
    let t = c.args.table.now in
    let wide = c.loop-entry.wide.items in
    let P : Extents → Type 0 = λ e. extents_in e ≡ extents_of_wide t in
    let few : length wide ≤ length t = omega (arith, c.loop-entry.invariant.wide_len, c.loop-entry.invariant.few, c.loop-entry.auto.entry-index-end) in
    let all : extents_of_entries c.shrink_to_fit.new.self.items c.loop-entry.small.items ≡ extents_of_wide t = rw c.shrink_to_fit.ensures.items (packed_extents_agree wide c.loop-entry.small.items t c.loop-entry.entry-index c.loop-entry-test.false few c.loop-entry.invariant.said) in
    subst P (same_Some _ _ is) all
