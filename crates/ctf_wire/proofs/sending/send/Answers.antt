use Rattle.std.proofs.Common.{◌∙◌, [], append-nil, sym}
use Rattle.std.proofs.KnownBytes.{Appends-kept}
use Rattle.ctf_wire.proofs.Passing.{front_waits}
use Rattle.ctf_wire.proofs.sending.send.Goals as goal

pub returns-then-not-flush : goal.returns-then-not-flush
returns-then-not-flush g c =
    let bytes = c.args.bytes.now in
    let taken = c.if-not-push_all.ensures in
    let passed = c.if-not-flush.ensures in
    record {
      front = bytes;
      begins = ([], sym (append-nil bytes));
      written = Appends-kept _ _ _ _ taken.written passed.kept;
      flushed = passed.passed ∙ taken.waits ∙ front_waits _ bytes;
      broke = passed.failed;
    }
