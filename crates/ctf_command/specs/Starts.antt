-- The exit status of a service that did not start. Source: ours.
use Rattle.std.specs.Prelude.{ℕ}
use Rattle.ctf_dump.specs.Refused.{status_after}
use Rattle.ctf_command.specs.declared.starts.NotStarted.{NotStarted}
use Rattle.ctf_command.specs.declared.starts.NotStarted.TheVariants.{Misused, File}

-- 2 for a wrong argument; otherwise as for a dump that a file ends
abbrev pub status_unstarted : NotStarted → ℕ
status_unstarted Misused = 2
status_unstarted (File end) = status_after end
