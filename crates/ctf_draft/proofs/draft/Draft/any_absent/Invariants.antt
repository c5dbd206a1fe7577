use Rattle.std.proofs.Common.{◌≡◌, false, map, take}
use Rattle.std.specs.List.{list_any}
use Rattle.ctf_draft.specs.TypeView.{number_of}
use Rattle.ctf_model.specs.drafts.Drafts.{is_absent}
use Rattle.ctf_draft.proofs.draft.Draft.any_absent.Given as goal

abbrev pub invariant-loop-number : goal.invariant-loop-number
invariant-loop-number l = list_any (is_absent l.self.draft) (map number_of (take l.number-index l.numbers)) ≡ false
