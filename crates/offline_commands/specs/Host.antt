-- The files of the system, and writers.
use Rattle.std.specs.Prelude.{ℕ, nat_lt, if◌then◌else◌, List, length, Option, Some, None}
use Rattle.offline_commands.specs.declared.host.HostFiles.{HostFiles}
use Rattle.offline_commands.specs.declared.host.WriterSink.{WriterSink}

-- the faults that the files of the system have counted
abbrev pub file_faults : {R : Type 0} → HostFiles R → ℕ
file_faults files = files.faults

-- bytes of which there are at most so many
abbrev pub within_limit : ℕ → List ℕ → Option (List ℕ)
within_limit limit bytes = if nat_lt limit (length bytes) then None else Some bytes

-- the faults that a sink has counted, and its writer
abbrev pub sink_faults : {W : Type 0} → WriterSink W → ℕ
sink_faults sink = sink.faults

abbrev pub sink_writer : {W : Type 0} → WriterSink W → W
sink_writer sink = sink.writer
