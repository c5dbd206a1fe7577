-- The text of the name inside all layers. Source: ours.
use Rattle.std.specs.Prelude.{ℕ, ◌++◌, List, Option, Some, None, codes}
use Rattle.std.specs.Option.{option_map}
use Rattle.ctf_model.specs.names.KindNames.{name_of_tag}
use Rattle.ctf_model.specs.format.Term.{Tag}
use Rattle.ctf_names.specs.declared.inside.Base.{Base}
use Rattle.ctf_records.specs.RecordView.{tag_of}

-- the name after the keyword of a tag, if there is one
abbrev pub behind_tag : Option Tag → List ℕ → List ℕ
behind_tag None name = name
behind_tag (Some tag) name = name_of_tag tag ++ (codes " " ++ name)

abbrev pub base_text : Base → List ℕ
base_text base = behind_tag (option_map tag_of base.tag) base.name.now
