-- Laws of the answers.

pub mod Programs
