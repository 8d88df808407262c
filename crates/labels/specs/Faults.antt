-- The refusal of each fault. Assumes nothing.
use Rattle.refusal.specs.declared.Layer.TheVariants.{Order}
use Rattle.refusal.specs.declared.Refusal.{Refusal}
use Rattle.refusal.specs.Refusals.{refused_at}
use Rattle.labels.specs.declared.fault.OrderFault.{OrderFault}
use Rattle.labels.specs.declared.fault.OrderFault.TheVariants.{Parties}

-- 50 at the number of parties
abbrev pub order_refusal : OrderFault → Refusal
order_refusal (Parties n) = refused_at Order 50 n
