use Rattle.std.proofs.Common.{◌≡◌, ℕ, Vec, Ok, ap, sym, ◌∙◌}
use Rattle.std.specs.declared.alloc.Global.{Global}
use Rattle.std.proofs.lemmas.Result.{IfOk-weaker}
use Rattle.ctf_model.specs.writing.Written.{written}
use Rattle.ctf_writer.specs.DraftContentView.{dictionary_of}
use Rattle.ctf_writer.specs.Updating.{StandsFor}
use Rattle.ctf_writer.proofs.Again.{nothing_before}
use Rattle.ctf_writer.proofs.Made.{stands_for}
use Rattle.ctf_writer.proofs.writing.write.Goals as goal

pub returns-clause-stands : goal.returns-clause-stands
returns-clause-stands c =
    let P : Vec ℕ Global → Type 0 = λ bytes. written (dictionary_of c.of.result) ≡ Ok bytes.items in
    let Q : Vec ℕ Global → Type 0 = λ bytes. StandsFor c.args.draft.now.draft bytes.items in
    IfOk-weaker c.write_content.result P Q (λ bytes is. stands_for c.args.draft.now.draft bytes.items c.of.ensures.sound (ap written (sym c.of.ensures.dictionary) ∙ is)) c.write_content.ensures.ok

pub write_content-requires-clause-before : goal.write_content-requires-clause-before
write_content-requires-clause-before c = nothing_before (dictionary_of c.of.result) c.nothing.result c.nothing.ensures.records c.nothing.ensures.strings c.nothing.ensures.count
