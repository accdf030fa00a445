-- Times by counting. Read `Cells`, what an interval is in cells and weighs; `Index`, the median of index times; `Parts`,
-- how a turn is cut. `Total` has the sums that they share. `Rows` has worked rows, `Laws` what holds of every list.
pub mod Total
pub mod Cells
pub mod Index
pub mod Parts
pub mod Rows
pub mod Laws
