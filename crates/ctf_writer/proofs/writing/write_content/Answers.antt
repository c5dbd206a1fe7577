use Rattle.std.proofs.Common.{◌≡◌, ℕ, ◌≤◌, ◌++◌, List, Option, Ok, Err, Some, arith, sym, ap, ◌∙◌, length, ◌⊎◌, inl, inr}
use Rattle.std.proofs.lemmas.Result.{err_from_is_err_and}
use Rattle.ctf_model.specs.rules.Refusals.{out_of_memory}
use Rattle.ctf_model.specs.writing.Written.{bytes_of, deep_by, most_written, written}
use Rattle.ctf_model.specs.rules.Chains.{by_value, declarator}
use Rattle.ctf_model.specs.format.Dictionary.{Dictionary}
use Rattle.ctf_model.specs.rules.Faults.{or_later}
use Rattle.ctf_model.specs.declared.faults.Fault.{Fault}
use Rattle.ctf_writer.specs.DraftContentView.{dictionary_of}
use Rattle.ctf_writer.proofs.ContentParts.{refused_deep, refused_long, refused_strings, accepted}
use Rattle.ctf_writer.proofs.writing.write_content.Goals as goal

-- a refusal for chains comes before any other
deep_refused : (d : Dictionary) (f : Fault) → (f ≡ out_of_memory) ⊎ ((later : Option Fault) → or_later 15 (deep_by by_value d) (or_later 16 (deep_by declarator d) later) ≡ Some f) → (f ≡ out_of_memory) ⊎ (written d ≡ Err f)
deep_refused d f (inl none) = inl none
deep_refused d f (inr deep) = inr (refused_deep d f deep)

pub returns-in_err-judge_chains-clause-exact_err : goal.returns-in_err-judge_chains-clause-exact_err
returns-in_err-judge_chains-clause-exact_err c =
    let p = err_from_is_err_and c.from_residual.result c.from_residual.ensures.1 in
    rw (p.1, p.2) (deep_refused (dictionary_of c.args.held) c.in_err-judge_chains.field-0.0 c.in_err-judge_chains.ensures.err)

pub returns-in_err-strings-clause-exact_err : goal.returns-in_err-strings-clause-exact_err
returns-in_err-strings-clause-exact_err c =
    let p = err_from_is_err_and c.from_residual-in_err-strings.result c.from_residual-in_err-strings.ensures.1 in
    let good = c.in_ok-judge_chains.ensures.ok in
    rw (p.1, p.2) (refused_strings (dictionary_of c.args.held) good.0 good.1 c.in_err-strings.field-0.0 c.in_err-strings.ensures.refused)

pub returns-in_default-clause-exact_err : goal.returns-in_default-clause-exact_err
returns-in_default-clause-exact_err c =
    let good = c.in_ok-judge_chains.ensures.ok in
    inr (refused_long (dictionary_of c.args.held) good.0 good.1 c.in_default.ensures ∙ ap (λ (f : Fault). Err f) (sym c.placeless.ensures))

pub returns-clause-ok : goal.returns-clause-ok
returns-clause-ok c =
    let good = c.in_ok-judge_chains.ensures.ok in
    let len = c.in-Some.ensures.2 in
    let short = c.in-Some.ensures.3 in
    let few : length (bytes_of (dictionary_of c.args.held)) ≤ most_written = omega (arith, len, short) in
    let all : c.put_content.new.out.items ≡ bytes_of (dictionary_of c.args.held) = c.put_content.ensures.items ∙ ap (λ (b : List ℕ). b ++ bytes_of (dictionary_of c.args.held)) c.in_ok-out.ensures.items in
    accepted (dictionary_of c.args.held) good.0 good.1 few ∙ ap (λ (b : List ℕ). Ok b) (sym all)
