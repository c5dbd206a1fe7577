-- `option_box` casts a reference: in memory a handle and its optional box are the same.
use mathlib.Core.Path.{◌≡◌, refl}
use prog.Wp.{Tables}
use contract.Running.{tables, tables_of}
use denote.Triple.Spec.{triple_of}
use denote.Triple.Table.{entered}
use Rattle.ctf_c.proofs.handles.Casting.{meets}
use Rattle.ctf_c.specs.OptionBoxes.{box_row, as_option_box, as_handle}
use Rattle.ctf_c.specs.contracts.handle.Handle.{the_row}
use Rattle.ctf_c.specs.contracts.handle.Handle.option_box as F
use Rattle.ctf_c.specs.contracts.handle.Handle.option_box.Key.{name as #self}
use Rattle.ctf_c.proofs.handle.Handle.option_box.Statement as stated
use Rattle.ctf_c.proofs.handle.Handle.option_box.Code as code

pub option_box_spec : {M : Type 1} → stated.statement M
unfolding tables_of
option_box_spec 𝓤 𝓛 𝓜 𝓡 wired =
    let 𝓣 : Tables 𝓤 𝓛.H = tables_of 𝓤 𝓛.H 𝓜 (tables 𝓤 𝓛.H 𝓜 𝓡 𝓡.env) in
    entered 𝓤 𝓛.H (triple_of 𝓛 F.signature (F.spec 𝓛 𝓜.mem 𝓡.returns)) 𝓣.C 𝓣.Λ #self code.function (code.unfolded 𝓤 𝓛.H 𝓜 𝓡 wired)
    (meets the_row box_row as_option_box as_handle (λ h s. s.held.value ≡ h.held.dictionary) tt tt _ _ _ _ (λ h vs b o. refl) (λ w vs b o. refl) (λ h. refl) 𝓛 𝓣)
