-- Laws of a whole operation's checks, and of what it leaves of the registers.

pub mod Checked
pub mod Completed
