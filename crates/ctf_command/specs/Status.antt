-- The exit statuses of the program (ours).
use Rattle.std.specs.Prelude.{ℕ}
use Rattle.ctf_wire.specs.declared.run_faults.RunFault.{RunFault}
use Rattle.ctf_wire.specs.declared.run_faults.RunFault.TheVariants.{Read, Write, ReadBound, Memory}
use Rattle.clap.specs.declared.error.kind.ErrorKind.{ErrorKind}
use Rattle.clap.specs.declared.error.kind.ErrorKind.TheVariants.{DisplayHelp, DisplayVersion, OutOfMemory}

-- after a run that ended before its input did
abbrev pub status_after : RunFault → ℕ
status_after Read = 3
status_after Write = 3
status_after ReadBound = 3
status_after Memory = 4

-- after a text about the command line: one that was asked for, or an error message
abbrev pub status_beside : ErrorKind → ℕ
status_beside DisplayHelp = 0
status_beside DisplayVersion = 0
status_beside OutOfMemory = 4
status_beside _ = 2
