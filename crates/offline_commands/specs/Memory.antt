-- Files and sinks in memory.
use Rattle.std.specs.Prelude.{◌≡◌, ℕ, List, ◌∷◌, Option, string_bytes, vec_items, bytes_eq, option_map, find}
use Rattle.outside.specs.Plans.{PlanState}
use Rattle.offline_commands.specs.declared.stored.StoredFile.{StoredFile}
use Rattle.offline_commands.specs.declared.memory.MemoryFiles.{MemoryFiles}
use Rattle.offline_commands.specs.declared.memory.MemorySink.{MemorySink}

-- the bytes of the first file of this name
abbrev pub held_in : List StoredFile → List ℕ → Option (List ℕ)
held_in files name = option_map (λ file. vec_items file.bytes) (find (λ file. bytes_eq (string_bytes file.name) name) files)

-- a file of this name and these bytes came before all others
abbrev pub IsPut : List StoredFile → List StoredFile → List ℕ → List ℕ → Type 0
IsPut old new name bytes = (file : StoredFile) × (string_bytes file.name ≡ name) × (vec_items file.bytes ≡ bytes) × (new ≡ file ∷ old)

-- what files in memory hold, and their plan
abbrev pub memory_held : MemoryFiles → List ℕ → Option (List ℕ)
memory_held files = held_in files.files.items

abbrev pub files_plan : MemoryFiles → PlanState
files_plan files = files.plan

-- what a sink in memory holds, and its plan
abbrev pub memory_written : MemorySink → List ℕ
memory_written sink = vec_items sink.written

abbrev pub sink_plan : MemorySink → PlanState
sink_plan sink = sink.plan
