use Rattle.std.proofs.Common.{◌∙◌, sym, w64}
use Rattle.std.proofs.Math.Facts.{to_z-of_z}
use Rattle.ctf_views.specs.ItemsView.{enumerator}
use Rattle.ctf_print.proofs.Names.{item_lent, some_lent}
use Rattle.ctf_print.proofs.Placings.{is_place, no_place}
use Rattle.ctf_print.proofs.enums.put_name.Goals as goal

pub unwrap-requires : goal.unwrap-requires
unwrap-requires c =
    let same = to_z-of_z {w = w64} {z = c.args.value} c.ranges.value in
    let place = is_place c.args.enumerators.now c.args.value c.in-Some.i (sym c.in-Some.is ∙ c.requires) in
    some_lent enumerator c.get.result c.args.enumerators.now c.in-Some.i c.get.ensures place.inside

pub returns-in-Some-clause-ok : goal.returns-in-Some-clause-ok
returns-in-Some-clause-ok c =
    let same = to_z-of_z {w = w64} {z = c.args.value} c.ranges.value in
    let place = is_place c.args.enumerators.now c.args.value c.in-Some.i (sym c.in-Some.is ∙ c.requires) in
    let name = place.named (enumerator c.unwrap.result) (item_lent enumerator c.get.result c.unwrap.result _ c.get.ensures c.unwrap.ensures) in
    rw name c.put.ensures.ok

pub returns-in-Some-clause-err : goal.returns-in-Some-clause-err
returns-in-Some-clause-err c =
    let same = to_z-of_z {w = w64} {z = c.args.value} c.ranges.value in
    let place = is_place c.args.enumerators.now c.args.value c.in-Some.i (sym c.in-Some.is ∙ c.requires) in
    let name = place.named (enumerator c.unwrap.result) (item_lent enumerator c.get.result c.unwrap.result _ c.get.ensures c.unwrap.ensures) in
    rw name c.put.ensures.err

pub returns-in-None-clause-ok : goal.returns-in-None-clause-ok
returns-in-None-clause-ok c =
    let same = to_z-of_z {w = w64} {z = c.args.value} c.ranges.value in
    let none = no_place c.args.enumerators.now c.args.value (sym c.in-None.is ∙ c.requires) in
    rw none (rw same at c.put_signed.ensures.ok)

pub returns-in-None-clause-err : goal.returns-in-None-clause-err
returns-in-None-clause-err c =
    let same = to_z-of_z {w = w64} {z = c.args.value} c.ranges.value in
    let none = no_place c.args.enumerators.now c.args.value (sym c.in-None.is ∙ c.requires) in
    rw none (rw same at c.put_signed.ensures.err)
