-- Rows of items by their numbers, and those of an open dictionary.
use Rattle.std.proofs.Common.{◌≡◌, ℕ, ◌+◌, ◌<◌, Some, ap, subst, ◌∙◌, arith}
use Rattle.std.specs.List.{range_with_len}
use Rattle.std.specs.Prelude.{IfSome, slice_get}
use Rattle.std.proofs.lemmas.List.FromFn.{get_or-range_with_len, length-range_with_len}
use Rattle.std.proofs.lemmas.Option.{slice_get-get_or}
use Rattle.ctf_c.specs.ItemRows.{TellsLabel, own_lists_of}
use Rattle.ctf_c.specs.declared.label_rows.GivenLabelRow.{GivenLabelRow}
use Rattle.ctf_model.specs.format.Dictionary.{Dictionary}
use Rattle.ctf_model.specs.format.Lists.{Lists}
use Rattle.ctf_model.specs.opened.Open.{Open, own_in}

-- the row of a number is that of the number at this index
pub number_told : {R : Type 0} (Tells : ℕ → R → Type 0) (n k : ℕ) (row : R) → k < n → Tells k row → IfSome (slice_get (range_with_len 0 n) k) (λ t. Tells t row)
number_told Tells n k row lt tells =
    let many = length-range_with_len 0 n in
    let at : 0 + k ≡ k = omega arith in
    let there : slice_get (range_with_len 0 n) k ≡ Some k = slice_get-get_or (range_with_len 0 n) k 0 (omega (arith, lt, many)) ∙ ap Some (get_or-range_with_len 0 n k 0 lt ∙ at) in
    rw there tells

-- the row of a label is that of a label of the open dictionary
pub label_of_own : (d : Open) (lists : Lists) (said : Dictionary) (k : ℕ) (row : GivenLabelRow) → lists ≡ d.own.lists → said ≡ own_in d
    → IfSome (slice_get said.labels k) (λ x. TellsLabel (Some lists) x row) → IfSome (slice_get (own_in d).labels k) (λ x. TellsLabel (own_lists_of (Some d)) x row)
label_of_own d lists said k row a b h =
    let there = subst (λ (s : Dictionary). IfSome (slice_get s.labels k) (λ x. TellsLabel (Some lists) x row)) b h in
    subst (λ (l : Lists). IfSome (slice_get (own_in d).labels k) (λ x. TellsLabel (Some l) x row)) a there
