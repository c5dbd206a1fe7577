-- A layout takes few steps.
use Rattle.std.proofs.Common.{◌≡◌, ◌≤◌, List, Result, Ok, Err, arith}
use Rattle.std.specs.Prelude.{IfOk}
use Rattle.ctf_chains.specs.Places.{cap}
use Rattle.ctf_model.specs.spaces.Space.{Space}
use Rattle.ctf_model.specs.format.Term.{Term}
use Rattle.ctf_layout.specs.Fitting.{steps_of}
use Rattle.ctf_layout.specs.Work.{space_size, space_work, types_and_members, types_in, types_work}
use Rattle.ctf_layout.specs.declared.layout.Layout.{Layout}
use Rattle.ctf_layout.proofs.Filled.{few_steps}

-- for own types alone
pub in_few : {E : Type 0} (r : Result Layout E) (types : List Term) → IfOk r (λ l. steps_of l ≡ cap (types_work types)) → IfOk r (λ l. steps_of l ≤ types_and_members types)
in_few (Err e) types h = h
in_few (Ok l) types h = let few = few_steps types in let is : steps_of l ≡ cap (types_work types) = h in omega arith

-- for a space
pub space_few : {E : Type 0} (r : Result Layout E) (s : Space) → IfOk r (λ l. steps_of l ≡ cap (space_work s)) → IfOk r (λ l. steps_of l ≤ space_size s)
space_few (Err e) s h = h
space_few (Ok l) s h =
    let own = few_steps s.own.terms in
    let parents = few_steps (types_in s.parent) in
    let is : steps_of l ≡ cap (space_work s) = h in
    omega arith
