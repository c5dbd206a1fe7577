-- What a lent space shows.
use Rattle.std.specs.Prelude.{Option, Some, None}
use Rattle.std.specs.Option.{option_map}
use Rattle.ctf_model.specs.format.Dictionary.{Dictionary}
use Rattle.ctf_model.specs.spaces.Space as spaces
use Rattle.ctf_model.specs.declared.data_model.DataModel.{DataModel}
use Rattle.ctf_model.specs.format.Lists.{Lists}
use Rattle.ctf_check.specs.CheckedView.{dictionary_of, lists_of}
use Rattle.ctf_space.specs.declared.space.Space.{Space}

abbrev pub space_alone : Dictionary → DataModel → spaces.Space
space_alone own model = record { own = own; parent = None; model = model }

abbrev pub over_parent : Dictionary → Dictionary → DataModel → spaces.Space
over_parent own parent model = record { own = own; parent = Some parent; model = model }

-- its dictionaries
abbrev pub space_of : Space → spaces.Space
space_of s =
    record {
      own = dictionary_of s.own;
      parent = option_map dictionary_of s.parent;
      model = s.model;
    }

-- the lists of its dictionaries
abbrev pub own_lists : Space → Lists
own_lists s = lists_of s.own

abbrev pub parent_lists : Space → Option Lists
parent_lists s = option_map lists_of s.parent
