use Rattle.std.proofs.Common.{◌∙◌, ap, subst, sym}
use Rattle.ctf_model.specs.opened.Open.{Open}
use Rattle.ctf_model.specs.spaces.Kept.{Kept}
use Rattle.ctf_open.proofs.EmptyDrafts.{created_empty}
use Rattle.ctf_open.specs.Drafting.{IsEmptyOf}
use Rattle.ctf_open.proofs.empty_dictionaries.create_alone.Goals as goal

pub keep-requires : goal.keep-requires
keep-requires c =
    let same = c.in_ok-share.ensures ∙ ap (λ (o : Open). o.own) c.created.view_is in
    subst (λ (k : Kept). IsEmptyOf c.args.model k) (sym same) (created_empty c.args.model _ c.in_ok-created.ensures.ok)
