use Rattle.std.proofs.Common.{List, ap, subst, take, ◌∙◌, ℕ, arith}
use Rattle.ctf_c.proofs.ArgumentRows.{named_fewer, named_first}
use Rattle.ctf_c.specs.ItemRows.{IsArgument}
use Rattle.ctf_c.specs.names.Filling.{Fills}
use Rattle.ctf_c.proofs.argument_rows.named_into.Goals as goal

pub fill_arguments-requires : goal.fill_arguments-requires
fill_arguments-requires c = let fewer = named_fewer c.args.args.now in let is = c.named_count-all.ensures in omega (arith, fewer, is)

pub returns-clause-filled : goal.returns-clause-filled
returns-clause-filled c =
    let args = c.args.args.now in
    subst (λ (l : List ℕ). Fills IsArgument l c.args.from c.args.rows.now c.fill_arguments.new.rows) (ap (λ (n : ℕ). take n args) c.named_count-all.ensures ∙ named_first args) c.fill_arguments.ensures
