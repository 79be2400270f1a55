-- A bench sheet is its calls.

pub mod SheetCalls
