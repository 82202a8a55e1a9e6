-- What a link over TCP has counted.
use Rattle.std.specs.Prelude.{◌≡◌}
use Rattle.tcp_link.specs.declared.link.TcpLink.{TcpLink}

-- no fault, no frame and no end were counted
abbrev pub HasCountedNothing : {R : Type 0} → TcpLink R → Type 0
HasCountedNothing link = (link.faults ≡ 0) × (link.frames ≡ 0) × (link.ends ≡ 0)
