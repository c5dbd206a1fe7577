-- Laws of figures and member paths in a dictionary over its parent.
use Rattle.std.specs.Prelude.{◌≡◌, ℕ, ◌==◌, List, Option, Some, None, Result, Ok, Err, if◌then◌else◌}
use Rattle.ctf_model.specs.rules.ChainLaws.{HasShortChainsIn}
use Rattle.ctf_model.specs.rules.Chains.{by_value}
use Rattle.ctf_model.specs.figures.FigureLaws.{AsksByValue}
use Rattle.ctf_model.specs.figures.Figures.{Figure, figure_in, of_found}
use Rattle.ctf_model.specs.figures.Paths.{Position, position_among, step_to}
use Rattle.ctf_model.specs.format.Shown.{members_in, shown}
use Rattle.ctf_model.specs.spaces.Space.{Space, space_type}
use Rattle.ctf_model.specs.format.Term.{Term, Body}
use Rattle.ctf_model.specs.format.Term as term
use Rattle.ctf_model.specs.declared.faults.Fault.{Fault}

-- ---- figures, resolved types among them

-- the rule of a figure: that of number `n`, given the figures of other numbers
abbrev pub figure_rule : Figure → Space → (ℕ → Result ℕ Fault) → ℕ → Result ℕ Fault
figure_rule figure s others n =
    if n == 0 then figure.of_none else of_found figure others n (space_type s n)

-- figures follow their rules, for own types and the parent's
abbrev pub FiguresAreTheirRules : Type 0
FiguresAreTheirRules =
    (figure : Figure) → AsksByValue figure → (s : Space) → HasShortChainsIn by_value s → (n : ℕ)
    → figure_in figure s n ≡ figure_rule figure s (figure_in figure s) n

-- ---- paths. A path needs no bound of its own: each step uses up one name. A step inherits the
-- bound of resolving.

-- the type that a typedef or qualifier stands for
abbrev pub stands_for : Body → Option ℕ
stands_for (term.typedef t) = Some t
stands_for (term.volatile t) = Some t
stands_for (term.const t) = Some t
stands_for (term.restrict t) = Some t
stands_for _ = None

-- a step from a typedef or qualifier is the step from its type at the same offset; from any other
-- type it goes to one of its own members
abbrev pub step_from : (Position → Result Position Fault) → ℕ → List ℕ → ℕ → Body → Option ℕ
    → Result Position Fault
step_from others step name offset body (Some t) = others (record { offset = offset; tnum = t })
step_from others step name offset body None =
    position_among step name offset (members_in (shown body))

abbrev pub step_found : (Position → Result Position Fault) → ℕ → List ℕ → ℕ → Result Term Fault
    → Result Position Fault
step_found others step name offset (Ok x) =
    step_from others step name offset x.body (stands_for x.body)
step_found others step name offset (Err fault) = Err fault

-- the rule of a path's step, given the steps from other positions; number 0 has no members
abbrev pub step_rule : Space → (Position → Result Position Fault) → ℕ → List ℕ → Position
    → Result Position Fault
step_rule s others step name at =
    if at.tnum == 0 then position_among step name at.offset None
    else step_found others step name at.offset (space_type s at.tnum)

-- steps follow their rule
abbrev pub StepsAreTheirRules : Type 0
StepsAreTheirRules =
    (s : Space) → HasShortChainsIn by_value s → (step : ℕ) (name : List ℕ) (at : Position)
    → step_to s step name at ≡ step_rule s (step_to s step name) step name at
