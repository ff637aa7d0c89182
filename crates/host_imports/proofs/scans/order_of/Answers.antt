use Rattle.std.proofs.Common.{refl}
use Rattle.kv_layers.specs.declared.order.Order.TheVariants.{Ascending, Descending}
use Rattle.host_imports.proofs.Asking.{order_given, order_refused}
use Rattle.host_imports.proofs.scans.order_of.Goals as goal

pub returns-in-1 : goal.returns-in-1
returns-in-1 c = λ machine left. order_given c.args.order 1 Ascending c.in-1.is refl

pub returns-in-2 : goal.returns-in-2
returns-in-2 c = λ machine left. order_given c.args.order 2 Descending c.in-2.is refl

pub returns-in_default : goal.returns-in_default
returns-in_default c = λ machine left. order_refused c.args.order c.in_default.in_default-own.rest.0.1 c.in_default.in_default-own.rest.1
