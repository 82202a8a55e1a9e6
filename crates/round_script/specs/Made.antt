-- Scripts that are made from a number.
use Rattle.std.specs.Prelude.{◌≤◌, ◌<◌, ◌^◌, ℕ, ◌+◌, ◌%◌, List, [], ◌∷◌, map, None}
use Rattle.std.specs.List.{range_with_len}
use Rattle.std.specs.Int.{w64, to_be_bytes}
use Rattle.pad_stream.specs.Stream.{stream_of}
use Rattle.wire_core.specs.Hash.{hash_of}
use Rattle.wire_core.specs.declared.tag.Tag.TheVariants.{MakeSeed, MakeMessage}
use Rattle.round_script.specs.declared.fault.Fault.{Fault}
use Rattle.round_script.specs.declared.fault.Fault.TheVariants.{None as Honest}
use Rattle.round_script.specs.declared.script.FaultLine.{FaultLine}
use Rattle.round_script.specs.declared.script.Script.{Script}
use Rattle.round_script.specs.declared.script.TheConstants.{MESSAGE_LIMIT}
use Rattle.round_script.specs.Script.{IsScript}

-- the seed of the script of a number
abbrev pub made_seed : ℕ → List ℕ
made_seed number = hash_of MakeSeed (to_be_bytes w64 number ∷ [])

-- the message of a member in the script of a number: as many bytes as are asked for
abbrev pub made_message : ℕ → ℕ → ℕ → List ℕ
made_message number size member = stream_of (hash_of MakeMessage (to_be_bytes w64 number ∷ (member ∷ []) ∷ [])) size

-- the faulty member of the script of a number: none for a fault that alters nothing
abbrev pub made_faults : ℕ → ℕ → Fault → List FaultLine
made_faults number members Honest = []
made_faults number members fault = record { member = 1 + number % members; fault = fault } ∷ []

-- the script of a number, with so many members, of which each sends so many bytes, and a fault
abbrev pub made_script : (number members size : ℕ) → Fault → Script
made_script number members size fault = record {
  version = 1;
  round = 1;
  seed = made_seed number;
  messages = map (made_message number size) (range_with_len 1 members);
  faults = made_faults number members fault;
  drops = [];
  repeat = None;
}

-- what is made is a script
abbrev pub MadeScriptsAreScripts : Type 0
MadeScriptsAreScripts = (number members size : ℕ) (fault : Fault)
    → number < 2 ^ 64 → 2 ≤ members → members ≤ 8 → size ≤ MESSAGE_LIMIT
    → IsScript (made_script number members size fault)
