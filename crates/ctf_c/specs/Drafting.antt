-- The effect of C calls on drafts. Source: ours, after libctf(3LIB): ctf_create, ctf_add_type and
-- its kin, ctf_update, ctf_discard.
use Rattle.std.specs.Prelude.{◌≡◌, ◌⊎◌, ◌==◌, ℕ, Bool, true, false, List, length, Option, None, Some, Result, Ok, Err, if◌then◌else◌}
use Rattle.std.specs.Option.{option_map}
use Rattle.ctf_draft.specs.Stating.{add_member_at}
use Rattle.ctf_model.specs.drafts.Adders.{Added, add_enumerator, add_label, add_member, add_type}
use Rattle.ctf_model.specs.drafts.Drafts.{Draft, rollback, content, new_draft, commit}
use Rattle.ctf_model.specs.drafts.NewTypes.{NewType, forward}
use Rattle.ctf_model.specs.format.Dictionary.{Label}
use Rattle.ctf_model.specs.format.Term.{Enumerator, Member, Tag, struct_tag, union_tag, enum_tag}
use Rattle.ctf_model.specs.rules.Refusals.{placeless, out_of_memory}
use Rattle.ctf_model.specs.spaces.Kept.{Kept, modelled_by}
use Rattle.ctf_model.specs.writing.Written.{lists_of, written}
use Rattle.ctf_model.specs.declared.data_model.DataModel.{DataModel}
use Rattle.ctf_model.specs.declared.faults.Fault.{Fault}
use Rattle.ctf_model.specs.declared.faults.TheConstants.Fault.{BAD_REQUEST, NO_SLOT, READ_ONLY, WRONG_KIND}
use Rattle.ctf_model.specs.opened.Steps.{Stepped, created, enlarge, silent, label_added, member_added, enumerator_added, type_added}
use Rattle.ctf_c.specs.Given.{ask, status_of}
use Rattle.ctf_model.specs.opened.Open.{Open, own_in}

-- the same over an open dictionary, with its data model; the parent must have a name
abbrev pub created_under : Option Open → List ℕ → List ℕ → Result Open Fault
created_under None parname parlabel = Err (placeless NO_SLOT)
created_under (Some parent) parname parlabel =
    if length parname == 0 then Err (placeless BAD_REQUEST)
    else created (Some parent.own) parname parlabel parent.own.model

-- the declared kind for a number
abbrev pub tag_numbered : ℕ → Option Tag
tag_numbered n =
    if n == 6 then Some struct_tag
    else if n == 7 then Some union_tag
    else if n == 8 then Some enum_tag else None

-- adds a forward, if the declared kind is known
abbrev pub forward_asked : List ℕ → Bool → Option Tag → Option Open → Result Stepped Fault
forward_asked name root None handle = Err (placeless WRONG_KIND)
forward_asked name root (Some tag) handle =
    ask handle (type_added (record { name = name; root = root; body = forward tag }))

-- a number, if present
abbrev pub number_there : Bool → ℕ → Option ℕ
number_there true n = Some n
number_there false n = None

-- adds a member at its stated offset, with the new size of its struct or union
abbrev pub member_added_at : ℕ → Member → ℕ → Open → Result Stepped Fault
member_added_at t m size = enlarge (λ d. silent (add_member_at d t m size))

-- ---- results

-- the new dictionary replaces the open one, or the status gives the refusal and the open one stays
abbrev pub Creates : Result Open Fault → ℕ → ℕ → ℕ → Option Open → Option Open → Type 0
Creates made status was place old new =
    ((s : Open) × ((status ≡ 0) × (place ≡ was) × (new ≡ Some s) × (made ≡ Ok s)))
    ⊎ ((f : Fault) × (((f ≡ out_of_memory) ⊎ (made ≡ Err f)) × (status ≡ status_of f)
    × (place ≡ f.place) × (new ≡ old)))

-- a step was made and its answer given, or the status gives the refusal and nothing changed
abbrev pub Steps : Result Stepped Fault → ℕ → ℕ → ℕ → Option Open → Option Open → Type 0
Steps outcome status was is old new =
    ((s : Open) × ((status ≡ 0) × (new ≡ Some s)
    × (outcome ≡ Ok (record { served = s; answer = is }))))
    ⊎ ((f : Fault) × (((f ≡ out_of_memory) ⊎ (outcome ≡ Err f)) × (status ≡ status_of f)
    × (is ≡ was) × (new ≡ old)))

-- the same for a step whose answer is not given
abbrev pub Adds : Result Stepped Fault → ℕ → Option Open → Option Open → Type 0
Adds outcome status old new = (n : ℕ) × Steps outcome status 0 n old new

-- the same, with the place of the fault
abbrev pub StepsAt : Result Stepped Fault → ℕ → ℕ → ℕ → ℕ → ℕ → Option Open → Option Open
    → Type 0
StepsAt outcome status was is before place old new =
    ((s : Open) × ((status ≡ 0) × (place ≡ before) × (new ≡ Some s)
    × (outcome ≡ Ok (record { served = s; answer = is }))))
    ⊎ ((f : Fault) × (((f ≡ out_of_memory) ⊎ (outcome ≡ Err f)) × (status ≡ status_of f)
    × (place ≡ f.place) × (is ≡ was) × (new ≡ old)))

-- the same for a step that takes no memory
abbrev pub Does : Result Stepped Fault → ℕ → ℕ → ℕ → Option Open → Option Open → Type 0
Does (Ok step) status was is old new =
    (status ≡ 0) × (is ≡ step.answer) × (new ≡ Some step.served)
Does (Err fault) status was is old new = (status ≡ status_of fault) × (is ≡ was) × (new ≡ old)
