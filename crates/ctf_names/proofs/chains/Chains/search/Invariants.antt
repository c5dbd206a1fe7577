use Rattle.std.proofs.Common.{◌≤◌}
use Rattle.ctf_check.specs.CheckedView.{dictionary_of}
use Rattle.ctf_names.specs.Sorts.{tag_in}
use Rattle.ctf_names.proofs.InChains.{Reached}
use Rattle.ctf_names.proofs.chains.Chains.search.Given as goal

abbrev pub invariant-loop-step : goal.invariant-loop-step
invariant-loop-step l = record {
  reached : Reached (dictionary_of l.dictionary).terms (record { tag = tag_in l.sort; name = l.name }) l.at;
  onward : l._step ≤ l.at;
}
