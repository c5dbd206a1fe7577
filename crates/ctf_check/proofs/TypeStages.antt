-- The faults of types, stage by stage: references, then chains.
use Rattle.std.proofs.Common.{◌≡◌, ℕ, Bool, List, length, Option, Some, None, Result, sym, ap, subst, ◌∙◌, ◌⊎◌, inl, inr}
use Rattle.std.specs.List.{AllByRecursion}
use Rattle.std.specs.Option.{option_or}
use Rattle.ctf_model.specs.rules.Faults.{or_later, first_misnaming, first_nameless, first_fault, header_fault, bad_name, bad_reference, sites, types, walk_fault}
use Rattle.ctf_model.specs.format.Header.{fields, is_child}
use Rattle.ctf_model.specs.format.Lists.{Lists, tables}
use Rattle.ctf_model.specs.format.Name.{Tables}
use Rattle.ctf_model.specs.format.Section.{Piece, records}
use Rattle.ctf_model.specs.declared.faults.Fault.{Fault}
use Rattle.ctf_chains.specs.Steps.{AreSpelled}
use Rattle.ctf_check.specs.Named.{first_that_misnames}
use Rattle.ctf_check.specs.Stages.{records_fault, chains_fault, types_fault, symbols_fault, fault_before_chains}
use Rattle.ctf_model.specs.rules.Refusals.{out_of_memory}
use Rattle.ctf_check.proofs.Naming.{first_said}
use Rattle.ctf_check.proofs.Order.{at_names, before_chains, read_whole}
use Rattle.ctf_check.proofs.Terms.{IsSpelled, each_spelled, all_are_spelled, spelled_from}

-- the first fault, whichever the string tables
abbrev pub IsFaultOfTypes : Bool → List (Result Piece Fault) → Option Fault → Type 0
IsFaultOfTypes child rs fault = (t : Tables) → AreSpelled t rs → types_fault t child rs ≡ fault

abbrev pub IsFaultOfChains : Bool → List (Result Piece Fault) → Option Fault → Type 0
IsFaultOfChains child rs fault = (t : Tables) → AreSpelled t rs → chains_fault t child rs ≡ fault

-- the fault found in the bytes is that of references, or the chains decide
staged : (child : Bool) (count : ℕ) (rs : List (Result Piece Fault)) (bad : Option ℕ) (t : Tables) → bad ≡ first_that_misnames child count rs → count ≡ length rs → walk_fault rs ≡ None → AreSpelled t rs → types_fault t child rs ≡ or_later 14 bad (chains_fault t child rs)
staged child count rs bad t found same whole spelled =
    let all = each_spelled t rs whole spelled in
    let is : first_misnaming t child (length rs) rs ≡ bad = ap (λ (n : ℕ). first_misnaming t child n rs) (sym same) ∙ sym (first_said t child count rs all) ∙ sym found in
    ap (λ (b : Option ℕ). or_later 14 b (chains_fault t child rs)) is

pub at_reference : (child : Bool) (count : ℕ) (rs : List (Result Piece Fault)) (place : ℕ) → Some place ≡ first_that_misnames child count rs → count ≡ length rs → walk_fault rs ≡ None → IsFaultOfTypes child rs (Some (record { code = 14; place = place }))
at_reference child count rs place found same whole = λ t spelled. staged child count rs (Some place) t found same whole spelled

pub past_references : (child : Bool) (count : ℕ) (rs : List (Result Piece Fault)) (fault : Option Fault) → None ≡ first_that_misnames child count rs → count ≡ length rs → walk_fault rs ≡ None → IsFaultOfChains child rs fault → IsFaultOfTypes child rs fault
past_references child count rs fault found same whole chains = λ t spelled. staged child count rs None t found same whole spelled ∙ chains t spelled

-- the same for a fault that may be out of memory
pub or_memory : (child : Bool) (count : ℕ) (rs : List (Result Piece Fault)) (f : Fault) → None ≡ first_that_misnames child count rs → count ≡ length rs → walk_fault rs ≡ None → (f ≡ out_of_memory) ⊎ IsFaultOfChains child rs (Some f) → (f ≡ out_of_memory) ⊎ IsFaultOfTypes child rs (Some f)
or_memory child count rs f found same whole (inl e) = inl e
or_memory child count rs f found same whole (inr chains) = inr (past_references child count rs (Some f) found same whole chains)

-- ---- the whole dictionary

-- if header, records and names are valid, the first fault is that of the types, else of the symbols
pub at_types : (s : Lists) (b : List ℕ) (child : Bool) (bad : Option ℕ) (fault : Option Fault) → header_fault s.ctf ≡ None → records b ≡ types s.ctf → records_fault (records b) ≡ None → bad ≡ first_nameless (tables s) (sites s.ctf) → bad ≡ None → child ≡ is_child (fields s.ctf) → IsFaultOfTypes child (records b) fault → first_fault s ≡ option_or fault (symbols_fault s)
at_types s b child bad fault header part few named none same is =
    let few' : records_fault (types s.ctf) ≡ None = ap records_fault (sym part) ∙ few in
    let named' : first_nameless (tables s) (sites s.ctf) ≡ None = sym named ∙ none in
    let spelled = all_are_spelled (tables s) (types s.ctf) (spelled_from s (read_whole (types s.ctf) few') named') in
    let here = subst (λ (rs : List (Result Piece Fault)). IsFaultOfTypes child rs fault) part is in
    let types_are : types_fault (tables s) (is_child (fields s.ctf)) (types s.ctf) ≡ fault = ap (λ (c : Bool). types_fault (tables s) c (types s.ctf)) (sym same) ∙ here (tables s) spelled in
    at_names s None header few' (sym named') ∙ ap (λ (f : Option Fault). option_or f (symbols_fault s)) types_are

-- the same for a fault that may be out of memory
pub at_types_or_memory : (s : Lists) (b : List ℕ) (child : Bool) (bad : Option ℕ) (f : Fault) → header_fault s.ctf ≡ None → records b ≡ types s.ctf → records_fault (records b) ≡ None → bad ≡ first_nameless (tables s) (sites s.ctf) → bad ≡ None → child ≡ is_child (fields s.ctf) → (f ≡ out_of_memory) ⊎ IsFaultOfTypes child (records b) (Some f) → (f ≡ out_of_memory) ⊎ (first_fault s ≡ Some f)
at_types_or_memory s b child bad f header part few named none same (inl e) = inl e
at_types_or_memory s b child bad f header part few named none same (inr is) = inr (at_types s b child bad (Some f) header part few named none same is)

-- the same for any fault of chains, if no reference is missing
pub at_types_or_late : (s : Lists) (b : List ℕ) (child : Bool) (count : ℕ) (bad : Option ℕ) (f : Fault) → header_fault s.ctf ≡ None → records b ≡ types s.ctf → records_fault (records b) ≡ None → bad ≡ first_nameless (tables s) (sites s.ctf) → bad ≡ None → child ≡ is_child (fields s.ctf) → count ≡ length (records b) → (first_that_misnames child count (records b) ≡ None) ⊎ IsFaultOfTypes child (records b) (Some f) → (fault_before_chains s ≡ None) ⊎ (first_fault s ≡ Some f)
unfolding bad_name bad_reference
at_types_or_late s b child count bad f header part few named none same counted (inl there) =
    let few' : records_fault (types s.ctf) ≡ None = ap records_fault (sym part) ∙ few in
    let named' : first_nameless (tables s) (sites s.ctf) ≡ None = sym named ∙ none in
    let all = spelled_from s (read_whole (types s.ctf) few') named' in
    let is : first_misnaming (tables s) child count (records b) ≡ None = sym (first_said (tables s) child count (records b) (subst (AllByRecursion (IsSpelled (tables s))) (sym part) all)) ∙ there in
    let parts : first_misnaming (tables s) (is_child (fields s.ctf)) (length (types s.ctf)) (types s.ctf) ≡ None = rw (← same, ← part, ← counted) is in
    inl (before_chains s header few' named' parts)
at_types_or_late s b child count bad f header part few named none same counted (inr is) = inr (at_types s b child bad (Some f) header part few named none same is)
