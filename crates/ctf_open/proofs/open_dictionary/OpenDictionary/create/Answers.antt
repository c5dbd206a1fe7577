use Rattle.std.proofs.lemmas.Result.{IfErr-weaker}
use Rattle.ctf_open.proofs.Creating.{either, uncreated_free}
use Rattle.ctf_open.proofs.open_dictionary.OpenDictionary.create.Goals as goal

pub returns-clause-exact_err : goal.returns-clause-exact_err
returns-clause-exact_err c =
    IfErr-weaker c.create_within.result _ _ (λ f h. either (uncreated_free _ f) h) c.create_within.ensures.exact_err
