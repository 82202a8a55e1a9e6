-- Disks over a file of the system.
use Rattle.std.specs.Prelude.{ℕ}
use Rattle.host_disk.specs.declared.disk.HostDisk.{HostDisk}

-- the faults that a disk over a file of the system has counted
abbrev pub disk_faults : {R Opened Listed : Type 0} → HostDisk R Opened Listed → ℕ
disk_faults disk = disk.faults
