-- The work for some dictionaries, counted by hand. Source: ours.
use Rattle.std.specs.Prelude.{◌≡◌, ℕ, true, false, [], ◌∷◌, List, Some, None}
use Rattle.ctf_model.specs.format.Dictionary.{Dictionary}
use Rattle.ctf_model.specs.format.Term.{Term, Body, Member}
use Rattle.ctf_model.specs.format.Term as term
use Rattle.ctf_model.specs.declared.data_model.DataModel.TheVariants.{Lp64}
use Rattle.ctf_layout.specs.Work.{space_size, space_work}

-- a visible, nameless type; and a nameless member at offset 0
abbrev pub nameless : Body → Term
nameless b = record { name = []; root = true; body = b }

abbrev pub at_front : ℕ → Member
at_front n = record { name = []; tnum = n; offset = 0 }

abbrev pub holding : List Term → Dictionary
holding types = record {
  child = false;
  parname = [];
  parlabel = [];
  labels = [];
  terms = types;
  symbols = [];
  entries = [];
}

-- an integer, a struct of two of it, and a typedef of the struct
abbrev pub pair : Dictionary
pair = holding (nameless (term.integer (record { size = 4; encoding = 1; offset = 0; bits = 32 }))
    ∷ nameless (term.struct 8 (at_front 1 ∷ at_front 1 ∷ []))
    ∷ nameless (term.typedef 2) ∷ [])

-- a typedef of a parent's type, and a pointer to it
abbrev pub over_pair : Dictionary
over_pair = holding (nameless (term.typedef 3) ∷ nameless (term.pointer 32769) ∷ [])

-- an integer, and two unions, each with two members of the previous type
abbrev pub doubled_unions : Dictionary
doubled_unions = holding
    (nameless (term.integer (record { size = 4; encoding = 1; offset = 0; bits = 32 }))
    ∷ nameless (term.union 4 (at_front 1 ∷ at_front 1 ∷ []))
    ∷ nameless (term.union 4 (at_front 2 ∷ at_front 2 ∷ [])) ∷ [])

pub record WorkIsCounted : Type 0 where
  -- three types, and the first of the two members of the struct
  pub of_structs : space_work (record { own = pair; parent = None; model = Lp64 }) ≡ 4
  -- three types, and all four members of the unions
  pub of_unions : space_work (record { own = doubled_unions; parent = None; model = Lp64 }) ≡ 7
  -- the parent's four steps, and two types
  pub over_parents : space_work (record { own = over_pair; parent = Some pair; model = Lp64 }) ≡ 6
  -- at most the number of types and members
  pub at_most : space_size (record { own = over_pair; parent = Some pair; model = Lp64 }) ≡ 7
