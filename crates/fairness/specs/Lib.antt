-- Fair turns of host and controller, whatever is called.

pub mod Fair
