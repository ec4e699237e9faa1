use Rattle.std.proofs.Common.{rules}
use Rattle.dayfile.proofs.Orders.{one_place}
use Rattle.dayfile.proofs.Seven.{seven_all}
use Rattle.dayfile.proofs.order.Order.place.Goals as goal

pub unwrap-requires : goal.unwrap-requires
unwrap-requires c =
    let order = c.args.self.now in
    let all = seven_all order.columns order.count order.once c.args.column in
    search rules

pub returns-clause-is : goal.returns-clause-is
returns-clause-is c =
    let order = c.args.self.now in
    let told = rw c.unwrap.ensures at c.place_in.ensures in
    one_place order.columns order.once order.count c.args.column _ told.0 told.1
