use Rattle.std.proofs.Common.{length, sym, ap, ◌∙◌}
use Rattle.std.proofs.lemmas.List.{nil_from_length}
use Rattle.ctf_library.proofs.Published.{none_published, published_none}
use Rattle.ctf_library.proofs.publication_map.PublicationMap.is_empty.Goals as goal

pub returns : goal.returns
returns c = (
  λ empty. sym c.self.view_is ∙ none_published _ (nil_from_length _ (c.is_empty.ensures.0 empty)),
  λ none. c.is_empty.ensures.1 (ap length (published_none _ (c.self.view_is ∙ none))),
)
