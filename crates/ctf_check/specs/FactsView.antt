-- What the facts of a type show.
use Rattle.std.specs.Option.{option_map}
use Rattle.ctf_model.specs.format.Shown as shown
use Rattle.ctf_records.specs.RecordView.{tag_of}
use Rattle.ctf_views.specs.VariantView.{shown_of}
use Rattle.ctf_check.specs.declared.facts.Facts.{Facts}
use Rattle.ctf_check.specs.declared.facts.Shape.{Shape}

abbrev pub shape_view : Shape → shown.Shape
shape_view x =
    record {
      kind = x.kind;
      size = x.size;
      reference = option_map (λ t. t.0) x.reference;
      declares = option_map tag_of x.declares;
      behind = shown_of x.behind;
    }

abbrev pub facts_view : Facts → shown.Facts
facts_view x = record { name = x.name.now; root = x.root; shape = shape_view x.shape }
