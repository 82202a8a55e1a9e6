-- Files in memory.
use Rattle.std.specs.Prelude.{vec_items}
use Rattle.outside.specs.Plans.{PlanState}
use Rattle.host_disk.specs.Placed.{FileState}
use Rattle.host_disk.specs.declared.memory_file.MemoryFile.{MemoryFile}

-- what a file in memory tells, and its plan
abbrev pub state_of : MemoryFile → FileState
state_of file = record { bytes = vec_items file.bytes; place = file.place; syncs = file.syncs }

abbrev pub plan_in : MemoryFile → PlanState
plan_in file = file.plan
