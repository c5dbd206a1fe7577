use Rattle.std.proofs.Common.{◌≡◌, IfErr, OnOk, None, Option, Some, ap, refl, subst}
use Rattle.std.proofs.lemmas.Result.{err_from_is_err_and, on_ok_weaker}
use Rattle.ctf_model.specs.dumps.Dump.{dump}
use Rattle.ctf_model.specs.rules.Faults.{first_fault}
use Rattle.ctf_model.specs.spaces.Kept.{fault_over, kept_space}
use Rattle.ctf_model.specs.spaces.Space.{Space}
use Rattle.ctf_space.specs.SpaceView.{space_of}
use Rattle.ctf_dump.specs.Progress.{HasBegun}
use Rattle.ctf_dump.specs.Refused.{EndsBy, Refusal, in_file, own_kept, own_lists, parent_kept, parent_lists, refusal, space_in}
use Rattle.ctf_dump.specs.declared.inputs.InputFile.{InputFile}
use Rattle.ctf_dump.specs.declared.inputs.Inputs.{Inputs}
use Rattle.ctf_dump.specs.declared.ends.DumpEnd.TheVariants.{Memory}
use Rattle.ctf_dump.proofs.Progress.{begun_nothing}
use Rattle.std.specs.Io.KnownBytes.{Appends}
use Rattle.ctf_dump.proofs.lists.dump_inputs.Goals as goal

-- the space of a dictionary over its parent
over_is : (i : Inputs) → (p : InputFile) → i.parent ≡ Some p → kept_space (own_kept i) (Some (parent_kept i p)) ≡ space_in i
over_is i p parent = rw parent refl

-- the check of the dictionary over its parent comes last
refusal_is : (i : Inputs) → (p : InputFile) → i.parent ≡ Some p → first_fault (own_lists i) ≡ None → first_fault (parent_lists p) ≡ None → in_file i.ctf (fault_over (own_kept i) (parent_kept i p)) ≡ refusal i
refusal_is i p parent own its = rw (parent, own, its) refl

pub returns-in_err-own-clause-begun : goal.returns-in_err-own-clause-begun
returns-in_err-own-clause-begun g c =
    let p = err_from_is_err_and c.from_residual.result c.from_residual.ensures.1 in
    rw (p.1, p.2) (λ memory. begun_nothing _ _)

pub returns-in_err-parent-in-Some-clause-begun : goal.returns-in_err-parent-in-Some-clause-begun
returns-in_err-parent-in-Some-clause-begun g c =
    let p = err_from_is_err_and c.from_residual-in_err-parent-in-Some.result c.from_residual-in_err-parent-in-Some.ensures.1 in
    rw (p.1, p.2) (λ memory. begun_nothing _ _)

pub returns-in-None-clause-written : goal.returns-in-None-clause-written
returns-in-None-clause-written g c =
    let same : space_of c.own-in-None.result ≡ space_in c.args.inputs.now = rw (c.in-None.is, c.own-in-None.ensures.space, c.view.ensures, c.model.ensures, c.in_ok-own.ensures.ok) refl in
    subst (λ (s : Space). OnOk c.dump_space.result (Appends (g.W.Write.contents c.args.out.now) (g.W.Write.contents c.dump_space.new.out) (dump s))) same c.dump_space.ensures.written

pub returns-in-None-clause-begun : goal.returns-in-None-clause-begun
returns-in-None-clause-begun g c =
    let same : space_of c.own-in-None.result ≡ space_in c.args.inputs.now = rw (c.in-None.is, c.own-in-None.ensures.space, c.view.ensures, c.model.ensures, c.in_ok-own.ensures.ok) refl in
    subst (λ (s : Space). IfErr c.dump_space.result (λ e. e ≡ Memory → HasBegun (g.W.Write.contents c.args.out.now) (g.W.Write.contents c.dump_space.new.out) (dump s))) same c.dump_space.ensures.begun

pub returns-clause-written : goal.returns-clause-written
returns-clause-written g c =
    let same = over_is c.args.inputs.now c.in-Some.file c.in-Some.is in
    let info = rw (c.in_ok-own.ensures.ok, c.in_ok-parent-in-Some.ensures.ok) at c.dump_over.ensures.written in
    subst (λ (s : Space). OnOk c.dump_over.result (Appends (g.W.Write.contents c.args.out.now) (g.W.Write.contents c.dump_over.new.out) (dump s))) same info

pub returns-clause-begun : goal.returns-clause-begun
returns-clause-begun g c =
    let same = over_is c.args.inputs.now c.in-Some.file c.in-Some.is in
    let info = rw (c.in_ok-own.ensures.ok, c.in_ok-parent-in-Some.ensures.ok) at c.dump_over.ensures.begun in
    subst (λ (s : Space). IfErr c.dump_over.result (λ e. e ≡ Memory → HasBegun (g.W.Write.contents c.args.out.now) (g.W.Write.contents c.dump_over.new.out) (dump s))) same info

pub returns-clause-exact_ok : goal.returns-clause-exact_ok
returns-clause-exact_ok g c =
    let i = c.args.inputs.now in
    let same = refusal_is i c.in-Some.file c.in-Some.is c.in_ok-own.ensures.exact_ok c.in_ok-parent-in-Some.ensures.exact_ok in
    let info = rw (c.in_ok-own.ensures.ok, c.in_ok-parent-in-Some.ensures.ok) at c.dump_over.ensures.exact_ok in
    subst (λ (r : Option Refusal). OnOk c.dump_over.result (r ≡ None)) same
    (on_ok_weaker c.dump_over.result (ap (in_file i.ctf)) info)

pub returns-clause-exact_err : goal.returns-clause-exact_err
returns-clause-exact_err g c =
    let same = refusal_is c.args.inputs.now c.in-Some.file c.in-Some.is c.in_ok-own.ensures.exact_ok c.in_ok-parent-in-Some.ensures.exact_ok in
    let info = rw (c.in_ok-own.ensures.ok, c.in_ok-parent-in-Some.ensures.ok) at c.dump_over.ensures.exact_err in
    subst (λ (r : Option Refusal). IfErr c.dump_over.result (λ e. EndsBy r e)) same info
