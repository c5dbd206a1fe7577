-- The first fault, stage by stage: header, records, names.
use Rattle.std.proofs.Common.{◌≡◌, ℕ, zero, suc, ◌+◌, Bool, true, false, cond, eqb, ltb, drop, List, [], ◌∷◌, ◌++◌, length, Option, Some, None, Result, refl, sym, ap, subst, ◌∙◌, arith, ◌⊎◌, inl, inr}
use Rattle.std.specs.Prelude.{map}
use Rattle.std.specs.Option.{option_or}
use Rattle.ctf_model.specs.rules.Faults.{or_later, first_broken, header_rules, header_fault, on_ctf, walk_fault, types, place_of, cut_record, bad_kind, too_many, bad_name, bad_reference, value_deep, decl_deep, bad_funcs, bad_symbol_type, bad_symtab, edges_by, first_nameless, sites, rules, first_fault}
use Rattle.ctf_model.specs.format.Header.{fields, is_child, section}
use Rattle.ctf_model.specs.format.Lists.{Lists, tables}
use Rattle.ctf_model.specs.format.Section.{Piece, record_or_stop, walk, front_len, records}
use Rattle.ctf_model.specs.declared.faults.Fault.{Fault}
use Rattle.ctf_model.specs.declared.sections.Section.TheVariants.{STypes}
use Rattle.ctf_check.specs.Stages.{records_fault, types_fault, symbols_fault, fault_before_chains}

-- ---- one list of rules after another

or_later-or : (code : ℕ) (here : Option ℕ) (a b : Option Fault) → or_later code here (option_or a b) ≡ option_or (or_later code here a) b
or_later-or code None a b = refl
or_later-or code (Some p) a b = refl

first_append : (code : ℕ) (xs ys : List (Lists → Option ℕ)) (s : Lists) → first_broken code (xs ++ ys) s ≡ option_or (first_broken code xs s) (first_broken (code + length xs) ys s)
first_append code [] ys s = let same : code ≡ code + 0 = omega arith in ap (λ (n : ℕ). first_broken n ys s) same
first_append code (x ∷ xs) ys s =
    let same : (code + 1) + length xs ≡ code + suc (length xs) = omega arith in
    ap (λ (f : Option Fault). or_later code (x s) f) (first_append (code + 1) xs ys s ∙ ap (λ (n : ℕ). option_or (first_broken (code + 1) xs s) (first_broken n ys s)) same)
    ∙ or_later-or code (x s) (first_broken (code + 1) xs s) (first_broken (code + suc (length xs)) ys s)

-- ---- where reading stops

abbrev IsStop : Fault → Type 0
IsStop f = (f.code ≡ 10) ⊎ (f.code ≡ 11)

stop_either : (t : Bool) (place : ℕ) → IsStop (record { code = cond t 11 10; place = place })
stop_either true place = inr refl
stop_either false place = inl refl

some_same : (f g : Fault) → Some f ≡ Some g → f ≡ g
some_same f g e = cc

stop_cond : (t : Bool) (xs : List (Result Piece Fault)) (f : Fault) → (walk_fault xs ≡ Some f → IsStop f) → walk_fault (cond t [] xs) ≡ Some f → IsStop f
stop_cond true xs f h e = absurd cc
stop_cond false xs f h e = h e

stop_step : (b : List ℕ) (index at : ℕ) (later : ℕ → List (Result Piece Fault)) (r : Option ℕ) (f : Fault) → ((n : ℕ) → walk_fault (later n) ≡ Some f → IsStop f) → walk_fault (record_or_stop b index at later r) ≡ Some f → IsStop f
stop_step b index at later None f h e = subst IsStop (some_same _ f e) (stop_either _ index)
stop_step b index at later (Some n) f h e = h n e

-- reading stops by the rule of whole records or of known kinds
walk_stop : (bound index at : ℕ) (b : List ℕ) (f : Fault) → walk_fault (walk bound index at b) ≡ Some f → IsStop f
unfolding walk
walk_stop zero index at b f e = absurd cc
walk_stop (suc bound) index at b f e = stop_cond (eqb (length b) 0) _ f (stop_step b index at _ (front_len b) f (λ n. walk_stop bound (index + 1) (at + n) (drop n b) f)) e

types_stop : (ctf : List ℕ) (f : Fault) → walk_fault (types ctf) ≡ Some f → IsStop f
unfolding types
types_stop ctf f w = walk_stop _ 1 0 _ f w

by_code : (f : Fault) (more : Option Fault) → IsStop f → or_later 10 (place_of 10 (Some f)) (or_later 11 (place_of 11 (Some f)) more) ≡ Some f
by_code f more (inl e) = rw e refl
by_code f more (inr e) = rw e refl

-- the three rules of records form one stage
records_stage : (w : Option Fault) (many : Bool) (names : Option Fault) → ((f : Fault) → w ≡ Some f → IsStop f)
    → or_later 10 (place_of 10 w) (or_later 11 (place_of 11 w) (or_later 12 (cond many (Some 32767) None) names)) ≡ option_or (option_or w (cond many (Some (record { code = 12; place = 32767 })) None)) names
records_stage None true names h = refl
records_stage None false names h = refl
records_stage (Some f) many names h = by_code f (or_later 12 (cond many (Some 32767) None) names) (h f refl)

-- ---- the stages

-- the faults of types: references, then chains
abbrev of_types : Lists → Option Fault
of_types s = types_fault (tables s) (is_child (fields s.ctf)) (types s.ctf)

-- the three rules of types form one stage
types_stage : (a b c : Option ℕ) (more : Option Fault) → or_later 14 a (or_later 15 b (or_later 16 c more)) ≡ option_or (or_later 14 a (or_later 15 b (or_later 16 c None))) more
types_stage (Some p) b c more = refl
types_stage None (Some p) c more = refl
types_stage None None (Some p) more = refl
types_stage None None None more = refl

-- the faults of names, types and symbols, in order
abbrev from_names : Lists → Option Fault
from_names s = or_later 13 (bad_name s) (option_or (of_types s) (symbols_fault s))

stages : (s : Lists) → first_fault s ≡ option_or (header_fault s.ctf) (option_or (records_fault (types s.ctf)) (from_names s))
unfolding first_fault rules bad_reference edges_by
stages s =
    first_append 1 (map on_ctf header_rules) (cut_record ∷ bad_kind ∷ too_many ∷ bad_name ∷ bad_reference ∷ value_deep ∷ decl_deep ∷ bad_funcs ∷ bad_symbol_type ∷ bad_symtab ∷ []) s
    ∙ ap (option_or (header_fault s.ctf)) (records_stage (walk_fault (types s.ctf)) (ltb 32766 (length (types s.ctf))) (or_later 13 (bad_name s) (or_later 14 (bad_reference s) (or_later 15 (value_deep s) (or_later 16 (decl_deep s) (symbols_fault s))))) (types_stop s.ctf)
    ∙ ap (λ (f : Option Fault). option_or (records_fault (types s.ctf)) (or_later 13 (bad_name s) f)) (types_stage (bad_reference s) (value_deep s) (decl_deep s) (symbols_fault s)))

pub at_header : (s : Lists) (f : Fault) → header_fault s.ctf ≡ Some f → first_fault s ≡ Some f
at_header s f e = stages s ∙ ap (λ (h : Option Fault). option_or h (option_or (records_fault (types s.ctf)) (from_names s))) e

past_header : (s : Lists) → header_fault s.ctf ≡ None → first_fault s ≡ option_or (records_fault (types s.ctf)) (from_names s)
past_header s e = stages s ∙ ap (λ (h : Option Fault). option_or h (option_or (records_fault (types s.ctf)) (from_names s))) e

pub at_records : (s : Lists) (f : Fault) → header_fault s.ctf ≡ None → records_fault (types s.ctf) ≡ Some f → first_fault s ≡ Some f
at_records s f e w = past_header s e ∙ ap (λ (r : Option Fault). option_or r (from_names s)) w

pub at_names : (s : Lists) (bad : Option ℕ) → header_fault s.ctf ≡ None → records_fault (types s.ctf) ≡ None → bad ≡ first_nameless (tables s) (sites s.ctf) → first_fault s ≡ or_later 13 bad (option_or (types_fault (tables s) (is_child (fields s.ctf)) (types s.ctf)) (symbols_fault s))
unfolding bad_name
at_names s bad e w b = past_header s e ∙ ap (λ (r : Option Fault). option_or r (from_names s)) w ∙ ap (λ (o : Option ℕ). or_later 13 o (option_or (of_types s) (symbols_fault s))) (sym b)

-- the rules before those of chains are kept if no earlier stage has a fault
pub before_chains : (s : Lists) → header_fault s.ctf ≡ None → records_fault (types s.ctf) ≡ None → bad_name s ≡ None → bad_reference s ≡ None → fault_before_chains s ≡ None
unfolding fault_before_chains rules
before_chains s header few named there =
    let last = or_later 13 (bad_name s) (or_later 14 (bad_reference s) None) in
    let staged = first_append 1 (map on_ctf header_rules) (cut_record ∷ bad_kind ∷ too_many ∷ bad_name ∷ bad_reference ∷ []) s
    ∙ ap (option_or (header_fault s.ctf)) (records_stage (walk_fault (types s.ctf)) (ltb 32766 (length (types s.ctf))) last (types_stop s.ctf)) in
    staged ∙ rw (header, few, named, there) refl

-- ---- without a broken rule, no stage has a fault

none_first : (a b : Option Fault) → option_or a b ≡ None → (a ≡ None) × (b ≡ None)
none_first None b e = (refl, e)
none_first (Some f) b e = absurd cc

none_place : (code : ℕ) (here : Option ℕ) (later : Option Fault) → or_later code here later ≡ None → here ≡ None
none_place code None later e = refl
none_place code (Some p) later e = absurd cc

none_later : (code : ℕ) (here : Option ℕ) (later : Option Fault) → or_later code here later ≡ None → later ≡ None
none_later code None later e = e
none_later code (Some p) later e = absurd cc

pub record Faultless (s : Lists) : Type 0 where
  pub header : header_fault s.ctf ≡ None
  pub read : walk_fault (types s.ctf) ≡ None
  pub named : first_nameless (tables s) (sites s.ctf) ≡ None
  pub funcs : bad_funcs s ≡ None

pub faultless : (s : Lists) → first_fault s ≡ None → Faultless s
unfolding bad_name
faultless s e =
    let parts = none_first (header_fault s.ctf) (option_or (records_fault (types s.ctf)) (from_names s)) (sym (stages s) ∙ e) in
    let later = none_first (records_fault (types s.ctf)) (from_names s) parts.1 in
    record {
      header = parts.0;
      read = (none_first (walk_fault (types s.ctf)) _ later.0).0;
      named = none_place 13 (bad_name s) (option_or (of_types s) (symbols_fault s)) later.1;
      funcs = none_place 17 (bad_funcs s) _ (none_first (of_types s) (symbols_fault s) (none_later 13 (bad_name s) (option_or (of_types s) (symbols_fault s)) later.1)).1;
    }

-- if there are not too many records, they are read to the end
pub read_whole : (rs : List (Result Piece Fault)) → records_fault rs ≡ None → walk_fault rs ≡ None
read_whole rs e = (none_first (walk_fault rs) _ e).0

-- ---- the part that the code reads

pub types_are : (ctf b : List ℕ) → b ≡ section ctf STypes → records b ≡ types ctf
unfolding types
types_are ctf b e = rw e refl
