-- A dictionary that breaks no rule has few types.
use Rattle.std.proofs.Common.{◌≡◌, ◌≤◌, ltb, Bool, true, false, length, Option, Some, None, refl, sym, ◌∙◌}
use Rattle.std.proofs.lemmas.Bool.{ltb-false}
use Rattle.ctf_model.specs.format.Dictionary.{said_by}
use Rattle.ctf_model.specs.rules.Faults.{first_fault, types}
use Rattle.ctf_model.specs.format.Lists.{Lists}
use Rattle.ctf_model.specs.declared.faults.Fault.{Fault}
use Rattle.ctf_model.specs.declared.faults.TheConstants.Fault.{TOO_MANY}
use Rattle.ctf_check.specs.Stages.{records_fault}
use Rattle.ctf_check.proofs.Order.{at_records, faultless}
use Rattle.ctf_check.proofs.Terms.{terms_count}

pub few_types : (s : Lists) → first_fault s ≡ None → length (types s.ctf) ≤ 32766
few_types s e = by_case (ltb 32766 (length (types s.ctf))) refl
  where
    by_case : (u : Bool) → ltb 32766 (length (types s.ctf)) ≡ u → length (types s.ctf) ≤ 32766
    by_case false h = ltb-false 32766 (length (types s.ctf)) h
    by_case true h = absurd (
        let good = faultless s e in
        let many : Fault = record { code = TOO_MANY; place = 32767 } in
        let fault : records_fault (types s.ctf) ≡ Some many = rw (good.read, h) refl in
        let bad : ◌≡◌ {A = Option Fault} None (Some many) = sym e ∙ at_records s many good.header fault in
        cc)

pub few_terms : (s : Lists) → first_fault s ≡ None → length (said_by s).terms ≤ 32766
few_terms s e = rw (terms_count s e) (few_types s e)
