-- Laws of spans of one page, and of the banks' permissions.

pub mod OnePage
pub mod Permissions
