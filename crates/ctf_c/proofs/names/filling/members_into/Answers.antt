use Rattle.std.proofs.Common.{Ok, Err, Some, ap, refl, subst, sym, ◌∙◌}
use Rattle.ctf_check.specs.CheckedView.{lists_of, tables_of}
use Rattle.ctf_check.specs.TypedView.{dictionary_in, term_in}
use Rattle.ctf_model.specs.format.Shown.{members_in}
use Rattle.ctf_c.proofs.names.Into.{into_listed, into_unlisted}
use Rattle.ctf_c.specs.names.Filling.{Fills, TellsMember}
use Rattle.ctf_c.specs.names.MembersView.{members_at}
use Rattle.ctf_c.proofs.names.filling.members_into.Goals as goal

pub fill_members-requires : goal.fill_members-requires
fill_members-requires c = c.in-Some.ensures.tables ∙ ap (λ d. tables_of d) (sym c.dictionary.ensures)

pub returns : goal.returns
returns c =
    let fills = subst (λ d. Fills (TellsMember (Some (lists_of d))) (members_at c.in-Some.members) c.args.from c.args.rows.now c.fill_members.new.rows) c.dictionary.ensures c.fill_members.ensures in
    into_listed members_in (TellsMember (Some (lists_of (dictionary_in c.args.found.now)))) c.args.from _ _ _ (term_in c.args.found.now) (members_at c.in-Some.members) c.in-Some.ensures.members (ap (λ n. Ok n) c.len.ensures) fills

pub returns-in_default : goal.returns-in_default
returns-in_default c = into_unlisted members_in (TellsMember (Some (lists_of (dictionary_in c.args.found.now)))) c.args.from _ _ _ (term_in c.args.found.now) c.in_default.ensures.members (ap (λ f. Err f) c.placeless.ensures) refl
