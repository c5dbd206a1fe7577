-- The computed first fault is the least rule that is broken, at its least place.
use Rattle.std.proofs.Common.{Option, Some, None, refl}
use Rattle.std.specs.Prelude.{MatchOption}
use Rattle.ctf_model.specs.rules.Faults.{first_fault, rules}
use Rattle.ctf_model.specs.format.Laws.{KeepsEveryRule}
use Rattle.ctf_model.specs.format.Lists.{Lists}
use Rattle.ctf_model.specs.rules.Rules.{Keeps, IsFirstFault}
use Rattle.ctf_model.specs.declared.faults.Fault.{Fault}
use Rattle.ctf_model.proofs.ChainRules.{value_deep_agrees, decl_deep_agrees}
use Rattle.ctf_model.proofs.FirstFault.{AllAgree, first_from, keeps_none, keeps_every}
use Rattle.ctf_model.proofs.HeaderRules.{too_short_agrees, bad_magic_agrees, bad_version_agrees, compressed_agrees, short_header_agrees, bad_order_agrees, bad_align_agrees, past_end_agrees, bad_strings_agrees}
use Rattle.ctf_model.proofs.NameRules.{bad_name_agrees}
use Rattle.ctf_model.proofs.ReferenceRules.{bad_reference_agrees}
use Rattle.ctf_model.proofs.RecordRules.{truncated_agrees, bad_kind_agrees, too_many_agrees}
use Rattle.ctf_model.proofs.SymbolRules.{bad_funcs_agrees, bad_symbol_type_agrees, bad_symtab_agrees}

-- each rule of the table agrees with its fact
all_agree : (s : Lists) → AllAgree s 1 rules
unfolding rules
all_agree s = (λ k. too_short_agrees s, (λ k. bad_magic_agrees s, (λ k. bad_version_agrees s, (λ k. compressed_agrees s, (λ k. short_header_agrees s, (λ k. bad_order_agrees s, (λ k. bad_align_agrees s, (λ k. past_end_agrees s, (λ k. bad_strings_agrees s k, (λ k. truncated_agrees s, (λ k. bad_kind_agrees s, (λ k. too_many_agrees s k, (λ k. bad_name_agrees s k, (λ k. bad_reference_agrees s k, (λ k. value_deep_agrees s k, (λ k. decl_deep_agrees s k, (λ k. bad_funcs_agrees s, (λ k. bad_symbol_type_agrees s k, (λ k. bad_symtab_agrees s, tt)))))))))))))))))))

-- if all rules up to the last are kept, every rule is kept
to_every : (s : Lists) (fault : Option Fault) → MatchOption fault (Keeps s 20) (IsFirstFault s) → MatchOption fault (KeepsEveryRule s) (IsFirstFault s)
to_every s None keeps = keeps_every s keeps
to_every s (Some f) first = first

-- the computed first fault is the least broken rule, at its least place
pub least_fault : (s : Lists) → MatchOption (first_fault s) (KeepsEveryRule s) (IsFirstFault s)
unfolding first_fault rules
least_fault s = to_every s (first_fault s) (first_from s rules 1 refl (keeps_none s) (all_agree s))
