-- A broker that takes its calls as plain values.
--
-- PlainBroker   as in the code
-- broker_of     the broker that it holds
use Rattle.price.specs.declared.price.Price.{Ghosts}
use Rattle.broker.specs.View.{Broker}
pub use Rattle.broker.specs.declared.plain.PlainBroker.{PlainBroker}

abbrev pub broker_of : {P : Type 0} {g : Ghosts P} → PlainBroker P g → Broker P g
broker_of b = b.broker
