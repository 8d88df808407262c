-- What the chosen order means. Assumes nothing.
use Rattle.labels.specs.Labels.{Labels}
use Rattle.labels.specs.Orders.{two_party, party_set}
use Rattle.choice.specs.declared.order.AnyOrder.{AnyOrder}
use Rattle.choice.specs.declared.order.AnyOrder.TheVariants.{Two, Set}

abbrev pub order_meaning : AnyOrder → Labels
order_meaning (Two order) = two_party
order_meaning (Set order) = party_set order.parties
