use Rattle.std.proofs.Common.{◌≡◌, List, Ok, ap, subst, take, ℕ, arith}
use Rattle.std.proofs.lemmas.List.{take_all}
use Rattle.ctf_check.specs.TypedView.{term_in}
use Rattle.ctf_model.specs.format.Shown.{arguments_in}
use Rattle.ctf_views.specs.VariantView.{shown_of}
use Rattle.ctf_c.proofs.names.Into.{into_list}
use Rattle.ctf_c.specs.ItemRows.{IsArgument}
use Rattle.ctf_c.specs.names.Filling.{Fills}
use Rattle.ctf_c.proofs.argument_rows.arguments_into.Goals as goal

pub returns-in-Args : goal.returns-in-Args
returns-in-Args c =
    let args = c.in-Args.args in
    let count = c.len-all.ensures.value in
    let all : take c.len-all.result args ≡ args = take_all c.len-all.result args (omega (arith, count)) in
    let fills = subst (λ (l : List ℕ). Fills IsArgument l c.args.from c.args.rows.now c.fill_arguments.new.rows) all c.fill_arguments.ensures in
    into_list arguments_in IsArgument c.args.from _ _ _ (term_in c.args.found.now) (shown_of c.variant.result) args c.variant.ensures (ap (λ v. arguments_in (shown_of v)) c.in-Args.is) (ap (λ n. Ok n) count) fills
