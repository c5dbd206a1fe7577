use Rattle.std.proofs.Common.{◌+◌, ◌<◌, ◌^◌, length}
use Rattle.std.specs.List.{enumerate_from}
use Rattle.ctf_check.specs.CheckedView.{dictionary_of, tables_of}
use Rattle.ctf_symbols.proofs.Itemizing.{PassesLabels}
use Rattle.ctf_symbols.proofs.items.label_items.Given as goal

abbrev pub invariant-labels : goal.invariant-labels
invariant-labels l =
    PassesLabels (tables_of l.dictionary) (enumerate_from 0 (dictionary_of l.dictionary).labels) l.items.items l.item l.rest
    × (l.item + length l.rest < 2 ^ 32)

abbrev pub decreases-labels : goal.decreases-labels
decreases-labels l = length l.rest
