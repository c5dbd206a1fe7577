-- What a lent variant shows. Source: ours.
use Rattle.ctf_records.specs.RecordView.{tag_of}
use Rattle.ctf_views.specs.PartsView.{array_info, encoding_info}
use Rattle.ctf_model.specs.format.Shown.{Shown, members, enumerators, arguments, array, encoding, tag, nothing}
use Rattle.ctf_views.specs.declared.variants.Variant.{Variant}
use Rattle.ctf_views.specs.declared.variants.Variant.TheVariants as lent

-- its items or parts
abbrev pub shown_of : Variant → Shown
shown_of (lent.Members items) = members items
shown_of (lent.Enumerators items) = enumerators items
shown_of (lent.Args items) = arguments items
shown_of (lent.Array info) = array (array_info info)
shown_of (lent.Encoding info) = encoding (encoding_info info)
shown_of (lent.Tag t) = tag (tag_of t)
shown_of lent.Nothing = nothing
