-- What making a party-set order answers. Assumes nothing.
use Rattle.std.specs.Prelude.{ℕ, cond, ◌&&◌, Ok, Err, Result, nat_le}
use Rattle.labels.specs.declared.fault.OrderFault.{OrderFault}
use Rattle.labels.specs.declared.fault.OrderFault.TheVariants.{Parties}

-- two to eight parties; else refused with their number
abbrev pub party_count : ℕ → Result ℕ OrderFault
party_count n = cond (nat_le 2 n && nat_le n 8) (Ok n) (Err (Parties n))
