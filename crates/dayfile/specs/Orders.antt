-- The columns of an order.
use Rattle.std.specs.Prelude.{List, Ok, Err, Result}
use Rattle.dayfile.specs.declared.column.Column.{Column}
use Rattle.dayfile.specs.declared.fault.Fault.{Fault}
use Rattle.dayfile.specs.declared.order.Order.{Order}

abbrev pub columns_of : Result Order Fault → Result (List Column) Fault
columns_of (Ok order) = Ok order.columns
columns_of (Err f) = Err f
