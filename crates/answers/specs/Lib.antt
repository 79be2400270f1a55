-- What the record of an answer may count on.

pub mod Answered
