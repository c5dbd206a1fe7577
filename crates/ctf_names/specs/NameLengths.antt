-- The lengths of the parts of a declaration, for computing those of more layers around it. Source:
-- ours.
use Rattle.std.specs.Prelude.{ℕ, ◌+◌, false, List, [], ◌∷◌, length, min, Result, Ok, Err}
use Rattle.std.specs.List.{flat_map}
use Rattle.ctf_model.specs.names.TypeNames.{Declaration, past}
use Rattle.ctf_model.specs.declared.faults.Fault.{Fault}
use Rattle.ctf_model.specs.declared.layers.Layer.{Layer}
use Rattle.ctf_names.specs.Marks.{front, text_before, marks, right}
use Rattle.ctf_names.specs.declared.name_lengths.NameLengths.{NameLengths}

-- a length, where all that are too long count the same
abbrev pub cap_length : ℕ → ℕ
cap_length n = min n 65537

-- one more layer outside
abbrev pub one_more : Layer → Declaration → Declaration
one_more layer d = record { layers = layer ∷ d.layers; name = d.name }

-- the lengths of a declaration that is not the outermost
unfoldable pub lengths_of : Declaration → NameLengths
lengths_of d = record {
  name = cap_length (length (flat_map front (marks false d.layers)) + length d.name);
  declarator = cap_length (length (flat_map text_before (marks false d.layers))
      + length (flat_map right (marks false d.layers)));
  below = past d.layers;
}

-- the lengths of a bare name
abbrev pub of_base : List ℕ → NameLengths
of_base name = lengths_of (record { layers = []; name = name })

-- the lengths of a type's declaration, or its fault
abbrev pub measure : Result Declaration Fault → Result NameLengths Fault
measure (Ok d) = Ok (lengths_of d)
measure (Err fault) = Err fault
