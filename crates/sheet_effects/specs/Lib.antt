-- Running a bench sheet.

pub mod Run
