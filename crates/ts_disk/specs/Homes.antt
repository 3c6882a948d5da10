-- Which directory is the program's own one in a replica.
--     home_of lock          the one that stood there when the replica was locked, if it was
use Rattle.std.specs.Prelude.{Option, option_map}
use Rattle.ts_disk.specs.declared.lock.Lock.{Lock}
use Rattle.ts_disk.specs.declared.place.Home.{Home}

abbrev pub home_of : Option Lock → Option Home
home_of lock = option_map (λ held. held.home) lock
