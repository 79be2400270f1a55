-- Running a bench sheet: where its entries are found.

pub mod Placed
