-- The errors of a write for which there is no room.
use Rattle.std.specs.Prelude.{◌≡◌, ◌⊎◌}
use Rattle.std.specs.declared.io.ErrorKind.{ErrorKind}
use Rattle.std.specs.declared.io.ErrorKind.TheVariants.{OutOfMemory, FileTooLarge}

-- there is no memory, or the end would be past the highest place
abbrev pub IsWantOfRoom : ErrorKind → Type 0
IsWantOfRoom kind = (kind ≡ OutOfMemory) ⊎ (kind ≡ FileTooLarge)
