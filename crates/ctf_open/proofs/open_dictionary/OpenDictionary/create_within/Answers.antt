use Rattle.std.specs.Prelude.{option_copied}
use Rattle.std.proofs.lemmas.Result.{err_from_is_err_and}
use Rattle.ctf_open.proofs.Creating.{created_done, created_unmade, created_unwritten, either, written_fits}
use Rattle.ctf_open.proofs.open_dictionary.OpenDictionary.create_within.Goals as goal

pub returns-in_err-draft-clause-exact_err : goal.returns-in_err-draft-clause-exact_err
returns-in_err-draft-clause-exact_err c =
    let p = err_from_is_err_and c.from_residual.result c.from_residual.ensures.1 in
    rw (p.1, p.2) (either (created_unmade (option_copied c.args.parent) c.args.parname.now c.args.parlabel.now c.args.model c.args.room c.in_err-draft.field-0.0) c.in_err-draft.ensures.exact_err)

pub returns-in_err-update-clause-exact_err : goal.returns-in_err-update-clause-exact_err
returns-in_err-update-clause-exact_err c =
    let p = err_from_is_err_and c.from_residual-in_err-update.result c.from_residual-in_err-update.ensures.1 in
    rw (p.1, p.2) (either (created_unwritten (option_copied c.args.parent) c.args.parname.now c.args.parlabel.now c.args.model c.in_ok-draft.draft.draft c.args.room c.in_err-update.field-0.0 c.in_ok-draft.ensures.ok) c.in_err-update.ensures.exact_err)

pub returns-clause-ok : goal.returns-clause-ok
returns-clause-ok c =
    rw c.in_ok-box_draft.ensures (created_done (option_copied c.args.parent) _ c.args.parname.now c.args.parlabel.now c.args.model c.in_ok-draft.draft.draft _ c.in_ok-update.update.own c.in_ok-draft.ensures.ok c.in_ok-update.ensures.written c.in_ok-update.ensures.parent c.settle.ensures.draft)

pub returns-clause-room : goal.returns-clause-room
returns-clause-room c =
    written_fits _ _ c.args.room _ c.in_ok-update.ensures.written c.in_ok-update.ensures.room
