use Rattle.std.proofs.Common.{◌-◌, length}
use Rattle.ctf_check.specs.CheckedView.{dictionary_of}
use Rattle.ctf_names.specs.Chained.{Chained}
use Rattle.ctf_names.specs.Pointers.{PointersFrom}
use Rattle.ctf_names.proofs.filling.fill.Given as goal

abbrev pub invariant-loop-behind : goal.invariant-loop-behind
invariant-loop-behind l = record {
  chained : Chained (dictionary_of l.dictionary).terms (length (dictionary_of l.dictionary).terms - l.behind) l.heads l.next;
  pointers : PointersFrom (dictionary_of l.dictionary).terms l.base (length (dictionary_of l.dictionary).terms - l.behind) l.firsts l.outside.items;
}
