use Rattle.std.proofs.lemmas.Result.{IfErr-weaker}
use Rattle.ctf_open.proofs.Creating.{either, refused_free}
use Rattle.ctf_open.proofs.open_dictionary.OpenDictionary.update.Goals as goal

pub returns-clause-exact_err : goal.returns-clause-exact_err
returns-clause-exact_err c =
    IfErr-weaker c.update_within.result _ _ (λ f h. either (refused_free _ f) h) c.update_within.ensures.exact_err
