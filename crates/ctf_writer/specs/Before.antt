-- What was written of a dictionary before. Source: ours.
use Rattle.std.specs.Prelude.{◌≡◌, ◌≤◌, ℕ, List, ◌∷◌, ◌++◌, length, map, take, drop}
use Rattle.std.specs.List.{flat_map}
use Rattle.ctf_model.specs.format.Dictionary.{Dictionary}
use Rattle.ctf_model.specs.writing.Written.{most_written}
use Rattle.ctf_model.specs.writing.WrittenNames.{names_of, string_bytes, strings_of}
use Rattle.ctf_model.specs.writing.WrittenRecords.{record_bytes}
use Rattle.ctf_writer.specs.TableNames.{names_within}
use Rattle.ctf_writer.specs.Uses.{with_names}
use Rattle.ctf_writer.specs.declared.before.Before.{Before}

-- the uses of names that are added again: those of the header, the labels, and the types behind the
-- first ones
abbrev pub later_uses : Dictionary → ℕ → List (List ℕ)
later_uses d count =
    d.parlabel ∷ d.parname ∷ (map (λ label. label.name) d.labels ++ flat_map names_of (drop count d.terms))

-- the records are those of the dictionary's first types, and its strings are these strings with the
-- names that are used later
pub record IsBefore (d : Dictionary) (b : Before) : Type 0 where
  pub count : b.count ≤ length d.terms
  pub whole : b.strings.now ≡ string_bytes (names_within b.strings.now)
  pub short : length b.strings.now ≤ most_written
  pub names : with_names (names_within b.strings.now) (later_uses d b.count) ≡ strings_of d
  pub records : b.records.now ≡ flat_map (record_bytes (strings_of d)) (take b.count d.terms)
  pub few : length b.records.now ≤ most_written
