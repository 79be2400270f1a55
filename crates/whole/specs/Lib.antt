-- What a whole operation may count on once its first checks have passed.

pub mod Admitted
