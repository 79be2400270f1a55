-- What the reader of a slot hands back, in the queue's terms.

pub mod Code
